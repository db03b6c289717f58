-- An order of m places, each naming a corridor and none naming one again, names each of the m corridors once; and an order that names each corridor once
-- and nothing else has such places.
-- Over all corridors the names are as many as the places; no corridor has two, so each has one.
use Prim.Native.Nat.{ℕ, zero, suc, ◌+◌, ◌≤◌, ◌<◌, zero-le, suc-le-suc}
use mathlib.Core.Bool.{Bool, true, false}
use mathlib.Core.List.{List, [], ◌∷◌}
use mathlib.Core.Path.{◌≡◌, refl, sym, ap, ◌∙◌}
use native.Mathlib.Nat.{not-suc-le-zero, le_of_suc-le-suc}
use native.Mathlib.Omega.{arith}
use native.Mathlib.Decide.{ℕ_discrete}
use borrow.Author.Tests.{ltb-true, ltb-false}
use lib.Arith.{lt_of_le-ne}
use lib.Dec.{ltb}
use lib.ListN.{length, get_or}
use Rattle.loops.specs.Loops.{tab}
use Rattle.loops.specs.Sorting.{same, occ}
use Rattle.loops.proofs.Sorting.{same_yes, same_no}
use Rattle.plan_defs.specs.Lists.{sum}
use Rattle.plan_defs.proofs.Lists.{sum_tab, sum_split}

-- no two places name the same; each names a corridor below m
abbrev pub Apart : List ℕ → Type 0
Apart l = (i j : ℕ) → i < j → j < length l → get_or l i 0 ≡ get_or l j 0 → ⊥

abbrev pub Below : ℕ → List ℕ → Type 0
Below m l = (j : ℕ) → j < length l → get_or l j 0 < m

-- ---- from the count of a name to the places
at_named : (l : List ℕ) (j : ℕ) → j < length l → 1 ≤ occ (get_or l j 0) l
unfolding occ
at_named [] j h = absurd (not-suc-le-zero h)
at_named (x ∷ l) zero h = omega (arith, same_yes x x refl)
at_named (x ∷ l) (suc j) h = omega (arith, at_named l j (le_of_suc-le-suc h))

twice_named : (l : List ℕ) (i j : ℕ) → i < j → j < length l → get_or l i 0 ≡ get_or l j 0 → 2 ≤ occ (get_or l j 0) l
unfolding occ
twice_named [] i j h q e = absurd (not-suc-le-zero q)
twice_named (x ∷ l) i zero h q e = absurd (not-suc-le-zero h)
twice_named (x ∷ l) zero (suc j) h q e = omega (arith, same_yes (get_or l j 0) x (sym e), at_named l j (le_of_suc-le-suc q))
twice_named (x ∷ l) (suc i) (suc j) h q e = omega (arith, twice_named l i j (le_of_suc-le-suc h) (le_of_suc-le-suc q) e)

pub once_below : (m : ℕ) (l : List ℕ) → ((k : ℕ) → m ≤ k → occ k l ≡ 0) → Below m l
once_below m l past j h = go (ltb (get_or l j 0) m) refl
  where
    go : (b : Bool) → ltb (get_or l j 0) m ≡ b → get_or l j 0 < m
    go true e = ltb-true _ _ e
    go false e = absurd (omega (arith, at_named l j h, past (get_or l j 0) (ltb-false _ _ e)))

pub once_apart : (m : ℕ) (l : List ℕ) → Below m l → ((k : ℕ) → k < m → occ k l ≡ 1) → Apart l
once_apart m l below once i j h q e = omega (arith, twice_named l i j h q e, once (get_or l j 0) (below j q))

-- ---- and back: no name is counted twice
absent : (x : ℕ) (l : List ℕ) → ((j : ℕ) → j < length l → x ≡ get_or l j 0 → ⊥) → occ x l ≡ 0
unfolding occ
absent x [] h = refl
absent x (y ∷ l) h = omega (arith, same_no x y (h 0 (suc-le-suc zero-le)), absent x l (λ j q. h (suc j) (suc-le-suc q)))

at_most_once : (k : ℕ) (l : List ℕ) → Apart l → occ k l ≤ 1
unfolding occ
at_most_once k [] a = zero-le
at_most_once k (x ∷ l) a = go (ℕ_discrete k x) (at_most_once k l (λ i j p q e. a (suc i) (suc j) (suc-le-suc p) (suc-le-suc q) e))
  where
    go : Dec (k ≡ x) → occ k l ≤ 1 → same k x + occ k l ≤ 1
    go (yes e) r = omega (arith, same_yes k x e, absent k l (λ j q f. a 0 (suc j) (suc-le-suc zero-le) (suc-le-suc q) (sym e ∙ f)))
    go (no n) r = omega (arith, same_no k x n)

-- ---- the names, counted over all corridors
sum_none : (f : ℕ → ℕ) → sum (tab 0 f) ≡ 0
unfolding tab sum
sum_none f = refl

sum_noughts : (m : ℕ) → sum (tab m (λ k. 0)) ≡ 0
sum_noughts zero = sum_none (λ k. 0)
sum_noughts (suc m) = sum_tab (λ k. 0) m ∙ (let z = sum_noughts m in omega arith)

past_none : (x m : ℕ) → m ≤ x → sum (tab m (λ k. same k x)) ≡ 0
past_none x zero h = sum_none (λ k. same k x)
past_none x (suc m) h = omega (arith, sum_tab (λ k. same k x) m, same_no m x (λ e. omega arith), past_none x m (omega arith))

name_once : (x m : ℕ) → x < m → sum (tab m (λ k. same k x)) ≡ 1
name_once x zero h = absurd (not-suc-le-zero h)
name_once x (suc m) h = go (ℕ_discrete x m) (name_once x m)
  where
    go : Dec (x ≡ m) → (x < m → sum (tab m (λ k. same k x)) ≡ 1) → sum (tab (suc m) (λ k. same k x)) ≡ 1
    go (yes e) r = omega (arith, sum_tab (λ k. same k x) m, same_yes m x (sym e), past_none x m (omega arith))
    go (no n) r = omega (arith, sum_tab (λ k. same k x) m, same_no m x (λ e. n (sym e)), r (lt_of_le-ne (le_of_suc-le-suc h) n))

all_named : (m : ℕ) (l : List ℕ) → Below m l → sum (tab m (λ k. occ k l)) ≡ length l
unfolding occ
all_named m [] b = sum_noughts m
all_named m (x ∷ l) b =
    let s : sum (tab m (λ k. same k x + occ k l)) ≡ sum (tab m (λ k. same k x)) + sum (tab m (λ k. occ k l)) =
    sum_split (λ k. same k x + occ k l) (λ k. same k x) (λ k. occ k l) m (λ k h. refl) in
    omega (arith, s, name_once x m (b 0 (suc-le-suc zero-le)), all_named m l (λ j q. b (suc j) (suc-le-suc q)))

module _ (f : ℕ → ℕ) where
  most_ones : (m : ℕ) → ((k : ℕ) → k < m → f k ≤ 1) → sum (tab m f) ≤ m
  most_ones zero h = omega (arith, sum_none f)
  most_ones (suc m) h = omega (arith, sum_tab f m, h m (omega arith), most_ones m (λ k q. h k (omega arith)))

  each_one : (m : ℕ) → ((k : ℕ) → k < m → f k ≤ 1) → sum (tab m f) ≡ m → (k : ℕ) → k < m → f k ≡ 1
  each_one zero h e k q = absurd (not-suc-le-zero q)
  each_one (suc m) h e k q = go (ℕ_discrete k m) (λ r. each_one m (λ j p. h j (omega arith)) (omega (arith, sum_tab f m, h m (omega arith), most_ones m (λ j p. h j (omega arith)))) k r)
    where
      go : Dec (k ≡ m) → (k < m → f k ≡ 1) → f k ≡ 1
      go (yes x) r = ap f x ∙ (let z : f m ≡ 1 = omega (arith, sum_tab f m, h m (omega arith), most_ones m (λ j p. h j (omega arith))) in z)
      go (no n) r = r (lt_of_le-ne (le_of_suc-le-suc q) n)

-- ---- the theorem
pub names_each : (m : ℕ) (l : List ℕ) → length l ≡ m → Below m l → Apart l → (k : ℕ) → k < m → occ k l ≡ 1
names_each m l e b a = each_one (λ k. occ k l) m (λ k h. at_most_once k l a) (all_named m l b ∙ e)
