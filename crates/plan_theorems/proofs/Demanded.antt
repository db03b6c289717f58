-- A component's load is a demand that dispatch takes: between 0 and 1e9 MW, rounding included.
-- At most 256 loads of at most 1e6 each: the sum is not above 256e6.
use Prim.Native.Nat.{ℕ, suc, ◌+◌, ◌*◌, ◌^◌, ◌≤◌, ◌<◌, zero-le, suc-le-suc}
use mathlib.Core.Bool.{true}
use mathlib.Core.List.{List, [], ◌∷◌}
use mathlib.Core.Path.{◌≡◌, refl, sym, ap, ◌∙◌, subst}
use native.Mathlib.Nat.{suc-mul, mul-le-mul_right, lt_of_le_of_lt, le_trans}
use native.Mathlib.Omega.{arith}
use lib.Dec.{T, lit<}
use lib.ListN.{length, get_or}
use lib.Ieee.{Float, le, of_bits, round}
use lib.Ieee.Positive.{den}
use Rattle.loops.specs.Figures.{plus, nought, million, billion, inside}
use Rattle.loops.proofs.Bools.{is, both, and_of}
use Rattle.loops.proofs.Order.{inside_bounded}
use Rattle.loops.proofs.Signs.{sound_of}
use Rattle.loops.proofs.Sums.{unsigned, Term, plus_unsigned, nought_least}
use Rattle.loops.proofs.Wholes.{whole, Few, few_plus, few_within, of_few}
use Rattle.dispatch_defs.specs.Operation.{demand_ok}
use Rattle.plan_defs.specs.Constants.{most_buses}
use Rattle.plan_defs.specs.Lists.{each, sum_over}

-- the tables' bounds as whole numbers
million_is : million ≡ whole 1_000_000
unfolding of_bits round
million_is = refl

billion_is : billion ≡ whole 1_000_000_000
unfolding of_bits round
billion_is = refl

-- ---- a sum of terms that are not above b, from one that is not above a
record Bounded (a : ℕ) (s : Float) : Type 0 where
  plain : T (unsigned s)
  few : Few a s

module _ (f : ℕ → Float) (b : ℕ) where
  sum_few : (ks : List ℕ) → ((j : ℕ) → j < length ks → Term (f (get_or ks j 0)) × Few b (f (get_or ks j 0))) → (a : ℕ) (s : Float) → Bounded a s
      → a + length ks * b < 2 ^ 53 → Bounded (a + length ks * b) (each (λ k t. plus t (f k)) ks s)
  unfolding each
  sum_few [] h a s p c = subst (λ (n : ℕ). Bounded n s) (let z : a ≡ a + 0 * b = omega arith in z) p
  sum_few (k ∷ ks) h a s p c =
      let t = h 0 (suc-le-suc zero-le) in
      let e : suc (length ks) * b ≡ length ks * b + b = suc-mul (length ks) b in
      let q : Bounded (a + b) (plus s (f k)) =
      record { plain = plus_unsigned s (f k) p.plain t.0; few = few_plus a b s (f k) p.plain p.few t.0 t.1 (omega arith) } in
      subst (λ (n : ℕ). Bounded n (each (λ k t. plus t (f k)) ks (plus s (f k)))) (let z : a + b + length ks * b ≡ a + suc (length ks) * b = omega arith in z)
      (sum_few ks (λ j l. h (suc j) (suc-le-suc l)) (a + b) (plus s (f k)) q (omega arith))

-- ---- one figure of at most a million
module _ (x : Float) (h : inside nought million x ≡ true) where
  small_term : Term x
  unfolding of_bits
  small_term = (sound_of x (both (le nought x) (le x million) h).0, inside_bounded nought million x tt tt h)

  small_few : Few 1_000_000 x
  small_few = few_within 1_000_000 x small_term.0 (lit< tt) (is (ap (le x) (sym million_is) ∙ (both (le nought x) (le x million) h).1))

-- ---- of as many figures as there are buses at most
module _ (f : ℕ → Float) (ks : List ℕ) (few : length ks ≤ most_buses) (small : (j : ℕ) → j < length ks → inside nought million (f (get_or ks j 0)) ≡ true) where
  pub demand_ok_lem : demand_ok (sum_over f ks) ≡ true
  unfolding of_bits
  demand_ok_lem =
      let w : length ks * 1_000_000 ≤ most_buses * 1_000_000 = mul-le-mul_right 1_000_000 few in
      let room : 1_000_000_000 < 2 ^ 53 = lit< tt in
      let c₁ : 0 + length ks * 1_000_000 < 2 ^ 53 = lt_of_le_of_lt (let z : 0 + length ks * 1_000_000 ≤ 1_000_000_000 = omega arith in z) room in
      let b = sum_few f 1_000_000 ks (λ j l. (small_term (f (get_or ks j 0)) (small j l), small_few (f (get_or ks j 0)) (small j l))) 0 nought (record { plain = tt; few = (tt, zero-le) }) c₁ in
      let s = sum_over f ks in
      let t : Few 1_000_000_000 s = (b.few.0, le_trans b.few.1 (mul-le-mul_right (den s) (let z : 0 + length ks * 1_000_000 ≤ 1_000_000_000 = omega arith in z))) in
      and_of (nought_least s b.plain) (ap (le s) billion_is ∙ of_few 1_000_000_000 s b.plain room t)
