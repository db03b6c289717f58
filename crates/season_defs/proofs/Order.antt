-- No figure of a list of plans turns on their order: a sum, a least and a greatest number do not, and a mean is of a sum and a count.
use Prim.Native.Nat.{ℕ, suc, ◌+◌, min, max}
use mathlib.Core.Bool.{Bool, true, false, cond}
use mathlib.Core.List.{List, [], ◌∷◌, ◌++◌, map}
use mathlib.Core.Path.{◌≡◌, refl, ap, ◌∙◌}
use native.Mathlib.Omega.{arith}
use lib.Dec.{ltb}
use lib.ListN.{length}
use Rattle.season_defs.specs.Terms.{lowest}
use Rattle.season_defs.specs.Plans.{Draft, total, greatest, least, least_from, mean, circuits_at, column, figures_at, figures_over, Reordered, none, keep, swap, then}
use Rattle.season_defs.specs.declared.Ratio.{Ratio}

-- ---- another order of a list
pub same : {A : Type 0} (xs : List A) → Reordered xs xs
same [] = none
same (x ∷ xs) = keep (same xs)

pub back : {A : Type 0} {xs ys : List A} → Reordered xs ys → Reordered ys xs
back none = none
back (keep r) = keep (back r)
back swap = swap
back (then r s) = then (back s) (back r)

-- an element in the middle goes to the front
pub to_front : {A : Type 0} (x : A) (xs ys : List A) → Reordered (xs ++ x ∷ ys) (x ∷ (xs ++ ys))
to_front x [] ys = same (x ∷ ys)
to_front x (y ∷ xs) ys = then (keep (to_front x xs ys)) swap

mapped : {A B : Type 0} (f : A → B) {xs ys : List A} → Reordered xs ys → Reordered (map f xs) (map f ys)
mapped f none = none
mapped f (keep r) = keep (mapped f r)
mapped f swap = swap
mapped f (then r s) = then (mapped f r) (mapped f s)

pub same_length : {A : Type 0} {xs ys : List A} → Reordered xs ys → length xs ≡ length ys
same_length none = refl
same_length (keep r) = ap suc (same_length r)
same_length swap = refl
same_length (then r s) = same_length r ∙ same_length s

-- ---- numbers
-- the least, begun with any of them
pub first_anywhere : (m x : ℕ) (xs : List ℕ) → least_from m (x ∷ xs) ≡ least_from x (m ∷ xs)
unfolding least_from
first_anywhere m x [] = let z : min m x ≡ min x m = omega arith in z
first_anywhere m x (y ∷ xs) =
    let p = first_anywhere m x xs in
    let a = least_from m xs in
    let b = least_from x xs in
    let z : min (min a y) x ≡ min (min b y) m = omega arith in
    z

same_total : {xs ys : List ℕ} → Reordered xs ys → total xs ≡ total ys
unfolding total
same_total none = refl
same_total (keep {x} r) = ap (λ (n : ℕ). n + x) (same_total r)
same_total (swap {x} {y} {xs}) = let t = total xs in let z : t + y + x ≡ t + x + y = omega arith in z
same_total (then r s) = same_total r ∙ same_total s

same_greatest : {xs ys : List ℕ} → Reordered xs ys → greatest xs ≡ greatest ys
unfolding greatest
same_greatest none = refl
same_greatest (keep {x} r) = ap (λ (n : ℕ). max n x) (same_greatest r)
same_greatest (swap {x} {y} {xs}) = let t = greatest xs in let z : max (max t y) x ≡ max (max t x) y = omega arith in z
same_greatest (then r s) = same_greatest r ∙ same_greatest s

same_from : (m : ℕ) {xs ys : List ℕ} → Reordered xs ys → least_from m xs ≡ least_from m ys
unfolding least_from
same_from m none = refl
same_from m (keep {x} r) = ap (λ (n : ℕ). min n x) (same_from m r)
same_from m (swap {x} {y} {xs}) = let t = least_from m xs in let z : min (min t y) x ≡ min (min t x) y = omega arith in z
same_from m (then r s) = same_from m r ∙ same_from m s

same_least : {xs ys : List ℕ} → Reordered xs ys → least xs ≡ least ys
unfolding least
same_least none = refl
same_least (keep {x} r) = same_from x r
same_least (swap {x} {y} {xs}) = first_anywhere x y xs
same_least (then r s) = same_least r ∙ same_least s

same_mean : {xs ys : List ℕ} → Reordered xs ys → mean xs ≡ mean ys
unfolding mean
same_mean {xs} {ys} r = ap (λ (n : ℕ). lowest n (length xs)) (same_total r) ∙ ap (λ (n : ℕ). lowest (total ys) n) (same_length r)

-- ---- plans
same_column : (k : ℕ) {ps qs : List Draft} → Reordered ps qs → Reordered (column k ps) (column k qs)
unfolding column
same_column k none = none
same_column k (keep {x = p} {xs = ps} {ys = qs} r) = go (ltb k p.corridors) (same_column k r)
  where
    go : (t : Bool) → Reordered (column k ps) (column k qs)
        → Reordered (cond t (circuits_at k p ∷ column k ps) (column k ps)) (cond t (circuits_at k p ∷ column k qs) (column k qs))
    go true r = keep r
    go false r = r
same_column k (swap {x = p} {y = q} {xs = ps}) = go (ltb k p.corridors) (ltb k q.corridors)
  where
    go : (t u : Bool)
        → Reordered (cond t (circuits_at k p ∷ cond u (circuits_at k q ∷ column k ps) (column k ps)) (cond u (circuits_at k q ∷ column k ps) (column k ps))) (cond u (circuits_at k q ∷ cond t (circuits_at k p ∷ column k ps) (column k ps)) (cond t (circuits_at k p ∷ column k ps) (column k ps)))
    go true true = swap
    go true false = same _
    go false true = same _
    go false false = same _
same_column k (then r s) = then (same_column k r) (same_column k s)

pub same_at : {ps qs : List Draft} → Reordered ps qs → (k : ℕ) → figures_at ps k ≡ figures_at qs k
unfolding figures_at
same_at {ps} {qs} r k =
    let c = same_column k r in
    ap (λ (n : ℕ). record { least = n; greatest = greatest (column k ps); mean = mean (column k ps) }) (same_least c)
    ∙ ap (λ (n : ℕ). record { least = least (column k qs); greatest = n; mean = mean (column k ps) }) (same_greatest c)
    ∙ ap (λ (m : Ratio). record { least = least (column k qs); greatest = greatest (column k qs); mean = m }) (same_mean c)

pub same_over : {ps qs : List Draft} → Reordered ps qs → figures_over ps ≡ figures_over qs
unfolding figures_over
same_over {ps} {qs} r = simp (same_length r, same_mean (mapped (λ (p : Draft). p.rounds) r), same_mean (mapped (λ (p : Draft). cond p.converged 1 0) r))
