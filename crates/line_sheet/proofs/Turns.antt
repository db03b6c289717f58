-- The turns of `digits_of`: what one leaves over stays from 1 to far / near, nothing wraps, and what remains of the digits is the same. Assumes nothing.
use Rattle.std.proofs.Common.{◌≡◌, ℕ, ◌+◌, ◌-◌, ◌*◌, ◌/◌, ◌^◌, ◌<◌, ◌≤◌, Bool, true, false, cond, leb, sym, ap, ◌∙◌, lt_of_lt_of_le, le_of_lt, mul-le-mul, le_of_mul-le-mul_right, add-one, arith, lit<, pow_mono, le-leb}
use native.Mathlib.Nat.{two-pow-succ}
use borrow.Author.Tests.{lt-leb}
use Rattle.loops.proofs.Loops.{gap, none}
use Rattle.line_defs.specs.Loadability.{unit, digits}
use Rattle.line_defs.specs.Bounds.{Start}
use Rattle.line_defs.proofs.Digits.{squared_least, divided_least, divided_place}

module _ (near far v : ℕ) (s : Start near far v) where
  far_pos : 0 < far
  far_pos = omega (arith, s.apart)

  pub v_most : v ≤ 2 * unit
  v_most = let h : v * near ≤ 2 * unit * near = omega (arith, s.most, s.close) in le_of_mul-le-mul_right h (omega (arith, s.near_least))

  pub square_most : v * v ≤ 2 ^ 62
  square_most = mul-le-mul v_most v_most

  pub one_left : far * unit ≤ v * v / unit * near → Start near far (v * v / unit * near / far)
  one_left h = record {
    near_least = s.near_least;
    far_most = s.far_most;
    apart = s.apart;
    close = s.close;
    least = divided_least unit far near (lit< tt) far_pos (v * v / unit) h;
    most = divided_place unit far near (lit< tt) far_pos v s.most;
  }

  pub zero_left : v * v / unit * near < far * unit → Start near far (v * v / unit)
  zero_left h = record {
    near_least = s.near_least;
    far_most = s.far_most;
    apart = s.apart;
    close = s.close;
    least = squared_least unit far near (lit< tt) far_pos v s.least;
    most = le_of_lt h;
  }

-- one binary digit more
pub one_more_lem : (i p : ℕ) → p < 2 ^ i → 2 * p + 1 < 2 ^ (i + 1)
one_more_lem i p h = rw (add-one i) (omega (arith, two-pow-succ i))

pub zero_more : (i p : ℕ) → p < 2 ^ i → 2 * p < 2 ^ (i + 1)
zero_more i p h = rw (add-one i) (omega (arith, two-pow-succ i))

pub few_digits : (i p : ℕ) → i ≤ 24 → p < 2 ^ i → p < 2 ^ 24
few_digits i p h l = lt_of_lt_of_le l (pow_mono h)

-- ---- the invariant: what is left lies from 1 to far / near, and the digits that remain are those of the whole
abbrev pub Left : ℕ → ℕ → ℕ → ℕ → ℕ → ℕ → Type 0
Left near far u p v i = (i ≤ 24) × (p < 2 ^ i) × Start near far v × (digits near far (24 - i) p v ≡ digits near far 24 0 u)

-- the digit and what is left, by the test
turned : (near far i p v : ℕ) (b : Bool) → i < 24 → leb (far * unit) (v * v / unit * near) ≡ b
    → digits near far (24 - i) p v ≡ digits near far (24 - (i + 1)) (cond b (2 * p + 1) (2 * p)) (cond b (v * v / unit * near / far) (v * v / unit))
unfolding digits
turned near far i p v b h e =
    ap (λ (k : ℕ). digits near far k p v) (gap 24 i h)
    ∙ ap (λ (t : Bool). digits near far (24 - (i + 1)) (cond t (2 * p + 1) (2 * p)) (cond t (v * v / unit * near / far) (v * v / unit))) e

module _ (near far u p v i : ℕ) (h : i < 24) (l : Left near far u p v i) where
  pub one_turn : {p' v' : ℕ} → far * unit ≤ v * v / unit * near → p' ≡ 2 * p + 1 → v' ≡ v * v / unit * near / far → Left near far u p' v' (i + 1)
  one_turn t d e = rw (d, e) (omega arith, one_more_lem i p l.1, one_left near far v l.2 t, sym (turned near far i p v true h (le-leb _ _ t)) ∙ l.3)

  pub zero_turn : {p' v' : ℕ} → v * v / unit * near < far * unit → p' ≡ 2 * p → v' ≡ v * v / unit → Left near far u p' v' (i + 1)
  zero_turn t d e = rw (d, e) (omega arith, zero_more i p l.1, zero_left near far v l.2 t, sym (turned near far i p v false h (lt-leb _ _ t)) ∙ l.3)

pub last_digit : (near far u p v i : ℕ) → 24 ≤ i → Left near far u p v i → (p ≡ digits near far 24 0 u) × (p < 2 ^ 24)
unfolding digits
last_digit near far u p v i h l = (ap (λ (k : ℕ). digits near far k p v) (sym (none 24 i h)) ∙ l.3, few_digits i p l.0 l.1)
