-- A loop that looks for the first index at which a test fails: what the rest of the search answers stays the same; and what it is to find none.
use Prim.Native.Nat.{ℕ, zero, suc, ◌+◌, ◌-◌, ◌<◌, ◌≤◌, zero-le}
use mathlib.Core.Bool.{Bool, true, false, cond}
use mathlib.Core.Logic.{⊎_elim}
use mathlib.Core.Path.{◌≡◌, refl, sym, ap, ◌∙◌}
use native.Mathlib.Nat.{sub-zero, eq-or-lt_of_le, le_refl}
use native.Mathlib.Numerals.{add-one}
use native.Mathlib.Omega.{arith}
use borrow.Author.Tests.{lt-ltb, le-ltb, ltb-true, ltb-false}
use lib.Dec.{ltb}
use Rattle.loops.proofs.Bools.{unequal}
use Rattle.std.specs.Prelude.{Some, None}
use Rattle.loops.specs.Loops.{first, fault}
use Rattle.loops.proofs.Loops.{gap, none}

-- ---- the start, a turn and the end of the loop
pub first_start : (ok : ℕ → Bool) (n : ℕ) → first ok (n - 0) 0 ≡ first ok n 0
first_start ok n = ap (λ (k : ℕ). first ok k 0) (sub-zero n)

module _ (ok : ℕ → Bool) (n i : ℕ) where
  pub first_pass : i < n → ok i ≡ true → first ok (n - i) i ≡ first ok (n - (i + 1)) (i + 1)
  unfolding first
  first_pass h t = ap (λ (k : ℕ). first ok k i) (gap n i h) ∙ simp (t, add-one)

  pub first_stop : i < n → ok i ≡ false → first ok (n - i) i ≡ i
  unfolding first
  first_stop h t = ap (λ (k : ℕ). first ok k i) (gap n i h) ∙ simp t

  pub first_end : n ≤ i → first ok (n - i) i ≡ i
  unfolding first
  first_end h = ap (λ (k : ℕ). first ok k i) (none n i h)

-- ---- it goes no further than its end
pub first_most : (ok : ℕ → Bool) (k i : ℕ) → first ok k i ≤ i + k
unfolding first
first_most ok zero i = omega arith
first_most ok (suc k) i = go (first ok k (suc i)) (ok i) (first_most ok k (suc i))
  where
    go : (p : ℕ) (b : Bool) → p ≤ suc i + k → cond b p i ≤ i + suc k
    go p true h = omega arith
    go p false h = omega arith

-- ---- where the search comes to the end, the test passes at each index
pub first_all : (ok : ℕ → Bool) (k i : ℕ) → i + k ≤ first ok k i → (j : ℕ) → i ≤ j → j < i + k → ok j ≡ true
unfolding first
first_all ok zero i e j l h = absurd (omega arith)
first_all ok (suc k) i e j l h = go (λ r lt. first_all ok k (suc i) r j lt (omega arith)) (ok i) refl e
  where
    go : (suc i + k ≤ first ok k (suc i) → suc i ≤ j → ok j ≡ true) → (b : Bool) → ok i ≡ b → i + suc k ≤ cond b (first ok k (suc i)) i → ok j ≡ true
    go ih true q r = ⊎_elim (λ e. ap ok (sym e) ∙ q) (λ lt. ih (omega arith) (omega arith)) (eq-or-lt_of_le l)
    go ih false q r = absurd (omega arith)

pub all_pass : (ok : ℕ → Bool) (n : ℕ) → n ≤ first ok n 0 → (j : ℕ) → j < n → ok j ≡ true
all_pass ok n e j l = first_all ok n 0 (omega arith) j zero-le (omega arith)

-- and where it passes at each, the search comes to the end
pub passed : (ok : ℕ → Bool) (k i : ℕ) → ((j : ℕ) → i ≤ j → j < i + k → ok j ≡ true) → first ok k i ≡ i + k
unfolding first
passed ok zero i h = omega arith
passed ok (suc k) i h =
    ap (λ (b : Bool). cond b (first ok k (suc i)) i) (h i (omega arith) (omega arith))
    ∙ passed ok k (suc i) (λ j l b. h j (omega arith) (omega arith))
    ∙ omega arith

pub pass_all : (ok : ℕ → Bool) (n : ℕ) → ((j : ℕ) → j < n → ok j ≡ true) → first ok n 0 ≡ n
pass_all ok n h = passed ok n 0 (λ j l b. h j (omega arith)) ∙ omega arith

-- ---- the search as an answer
found : (ok : ℕ → Bool) (k i j : ℕ) → ((m : ℕ) → i ≤ m → m < j → ok m ≡ true) → i ≤ j → j < i + k → ok j ≡ false → first ok k i ≡ j
unfolding first
found ok zero i j h l r e = absurd (omega arith)
found ok (suc k) i j h l r e = ⊎_elim
    (λ q. ap (λ (b : Bool). cond b (first ok k (suc i)) i) (ap ok q ∙ e) ∙ q)
    (λ lt. ap (λ (b : Bool). cond b (first ok k (suc i)) i) (h i (omega arith) lt) ∙ found ok k (suc i) j (λ m a b. h m (omega arith) b) (omega arith) (omega arith) e)
    (eq-or-lt_of_le l)

pub fault_at : (ok : ℕ → Bool) (n i : ℕ) → ((j : ℕ) → j < i → ok j ≡ true) → i < n → ok i ≡ false → Some i ≡ fault ok n
unfolding fault
fault_at ok n i h l e =
    let at : first ok n 0 ≡ i = found ok n 0 i (λ m a b. h m b) zero-le (omega arith) e in
    rw (at, lt-ltb i n l)

pub fault_none : (ok : ℕ → Bool) (n : ℕ) → ((j : ℕ) → j < n → ok j ≡ true) → None ≡ fault ok n
unfolding fault
fault_none ok n h =
    let at : first ok n 0 ≡ n = pass_all ok n h in
    rw (at, le-ltb n n (le_refl n))

-- what the answer says of the search
pub fault_some : (ok : ℕ → Bool) (n k : ℕ) → Some k ≡ fault ok n → (k ≡ first ok n 0) × (k < n)
unfolding fault
fault_some ok n k e = go (ltb (first ok n 0) n) refl e
  where
    go : (b : Bool) → ltb (first ok n 0) n ≡ b → Some k ≡ cond b (Some (first ok n 0)) None → (k ≡ first ok n 0) × (k < n)
    go true q h = let same : k ≡ first ok n 0 = cc in (same, omega (arith, ltb-true (first ok n 0) n q))
    go false q h = absurd (unequal cc)

pub fault_passed : (ok : ℕ → Bool) (n : ℕ) → None ≡ fault ok n → n ≤ first ok n 0
unfolding fault
fault_passed ok n e = go (ltb (first ok n 0) n) refl e
  where
    go : (b : Bool) → ltb (first ok n 0) n ≡ b → None ≡ cond b (Some (first ok n 0)) None → n ≤ first ok n 0
    go true q h = absurd (unequal cc)
    go false q h = ltb-false (first ok n 0) n q
