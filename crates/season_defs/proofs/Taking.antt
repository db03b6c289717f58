-- The season of a list of plans, the last taken first: taking one plan more goes on to the season of the longer list, and no sum wraps on the way.
use Prim.Native.Nat.{ℕ, suc, ◌+◌, ◌-◌, ◌*◌, ◌^◌, ◌≤◌, ◌<◌, min, max}
use mathlib.Core.Bool.{Bool, true, false, cond}
use mathlib.Core.List.{List, [], ◌∷◌, map}
use mathlib.Core.Path.{◌≡◌, refl, sym, ap, ◌∙◌}
use native.Mathlib.Nat.{mod-eq_of_lt}
use native.Mathlib.Numerals.{add-one}
use native.Mathlib.Omega.{arith}
use borrow.Author.Tests.{ltb-true, ltb-false, lt-ltb, le-ltb}
use lib.Dec.{ltb}
use lib.ListN.{length, get_or, drop, replicate, length-append, length-drop, get_or-append}
use lib.Seq.{ext_get_or, get_or-append-add, get_or-drop}
use Rattle.loops.specs.Loops.{tab, filled}
use Rattle.loops.proofs.Tab.{length_tab, get_tab, tab_replicate}
use Rattle.season_defs.specs.Plans.{Draft, total, greatest, least_from, circuits_at, column, counted, rounds_of, converged_of}
use Rattle.season_defs.specs.Feeding.{most_plans, most_corridors, largest, begun, sum64, updated, with_plan, AllHeld}
use Rattle.season_defs.specs.declared.Season.{Season}

-- of the last plan taken
abbrev pub corridors_of_lem : List Draft → ℕ
corridors_of_lem [] = 0
corridors_of_lem (p ∷ ps) = p.corridors

unfoldable pub season_of : List Draft → Season
season_of ps =
    record {
      taken = length ps;
      corridors = corridors_of_lem ps;
      rounds = total (rounds_of ps);
      converged = total (converged_of ps);
      least = tab most_corridors (λ k. least_from largest (column k ps));
      greatest = tab most_corridors (λ k. greatest (column k ps));
      total = tab most_corridors (λ k. total (column k ps));
    }

pub none_taken : begun ≡ season_of []
unfolding begun season_of column least_from greatest total
none_taken =
    ap
    (λ (x : List ℕ).
    record { taken = 0; corridors = 0; rounds = 0; converged = 0; least = x; greatest = replicate most_corridors 0; total = replicate most_corridors 0 })
    (sym (tab_replicate most_corridors largest))
    ∙ ap
    (λ (x : List ℕ).
    record { taken = 0; corridors = 0; rounds = 0; converged = 0; least = tab most_corridors (λ k. largest); greatest = x; total = x })
    (sym (tab_replicate most_corridors 0))

-- ---- a table whose first n places are filled is the table of what it then holds
filled_tab : (m n : ℕ) (f g h : ℕ → ℕ) → n ≤ m → ((k : ℕ) → k < n → g k ≡ h k) → ((k : ℕ) → n ≤ k → f k ≡ h k) → filled (tab m f) g n ≡ tab m h
filled_tab m n f g h l p q = ext_get_or 0 (filled (tab m f) g n) (tab m h) (size ∙ sym (length_tab m h)) (λ k b. at k (omega (arith, size)) (ltb k n) refl)
  where
    size : length (filled (tab m f) g n) ≡ m
    size = simp (length-append, length-drop, length_tab) (omega arith)

    past : (k : ℕ) → n ≤ k → get_or (filled (tab m f) g n) k 0 ≡ get_or (tab m f) k 0
    past k b =
        let e : length (tab n g) + (k - n) ≡ k = omega (arith, length_tab n g) in
        let d : n + (k - n) ≡ k = omega arith in
        ap (λ (j : ℕ). get_or (filled (tab m f) g n) j 0) (sym e)
        ∙ get_or-append-add (tab n g) (drop n (tab m f)) (k - n) 0
        ∙ get_or-drop n (tab m f) (k - n) 0
        ∙ ap (λ (j : ℕ). get_or (tab m f) j 0) d

    at : (k : ℕ) → k < m → (t : Bool) → ltb k n ≡ t → get_or (filled (tab m f) g n) k 0 ≡ get_or (tab m h) k 0
    at k b true t =
        let c = ltb-true k n t in
        let e : k < length (tab n g) = omega (arith, length_tab n g) in
        get_or-append (tab n g) (drop n (tab m f)) 0 k e ∙ get_tab n g k 0 c ∙ p k c ∙ sym (get_tab m h k 0 b)
    at k b false t = let c = ltb-false k n t in past k c ∙ get_tab m f k 0 b ∙ q k c ∙ sym (get_tab m h k 0 b)

-- ---- the column of a corridor with one plan more
pub column_more : (k : ℕ) (p : Draft) (ps : List Draft) → k < p.corridors → circuits_at k p ∷ column k ps ≡ column k (p ∷ ps)
unfolding column
column_more k p ps h = rw (lt-ltb k p.corridors h)

pub column_past : (k : ℕ) (p : Draft) (ps : List Draft) → p.corridors ≤ k → column k ps ≡ column k (p ∷ ps)
unfolding column
column_past k p ps h = rw (le-ltb k p.corridors h)

-- ---- sums: of at most 4,096 counts of 32 bits each
abbrev AllSmall : List ℕ → Type 0
AllSmall [] = Unit
AllSmall (x ∷ xs) = (x ≤ largest) × AllSmall xs

total_most : (xs : List ℕ) → AllSmall xs → total xs ≤ length xs * largest
unfolding total
total_most [] h = omega arith
total_most (x ∷ xs) h = let p = total_most xs h.1 in let q = h.0 in omega arith

total_more : (x : ℕ) (xs : List ℕ) → x ≤ largest → AllSmall xs → length xs < most_plans → sum64 (total xs) x ≡ total (x ∷ xs)
unfolding total
total_more x xs q h l =
    let p = total_most xs h in
    let s : total xs + x < 2 ^ 64 = omega arith in
    mod-eq_of_lt s

rounds_small : (ps : List Draft) → AllHeld ps → AllSmall (rounds_of ps)
rounds_small [] h = tt
rounds_small (p ∷ ps) h = (h.0.rounds, rounds_small ps h.1)

counted_small : (b : Bool) → counted b ≤ largest
counted_small true = omega arith
counted_small false = omega arith

converged_small : (ps : List Draft) → AllSmall (converged_of ps)
converged_small [] = tt
converged_small (p ∷ ps) = (counted_small p.converged, converged_small ps)

pub mapped_length : (f : Draft → ℕ) (ps : List Draft) → length (map f ps) ≡ length ps
mapped_length f [] = refl
mapped_length f (p ∷ ps) = ap suc (mapped_length f ps)

column_small : (k : ℕ) (ps : List Draft) → AllHeld ps → AllSmall (column k ps)
unfolding column
column_small k [] h = tt
column_small k (p ∷ ps) h = go (ltb k p.corridors) (column_small k ps h.1)
  where
    go : (t : Bool) → AllSmall (column k ps) → AllSmall (cond t (circuits_at k p ∷ column k ps) (column k ps))
    go true s = (h.0.circuits k, s)
    go false s = s

column_length : (k : ℕ) (ps : List Draft) → length (column k ps) ≤ length ps
unfolding column
column_length k [] = omega arith
column_length k (p ∷ ps) = go (ltb k p.corridors) (column_length k ps)
  where
    go : (t : Bool) → length (column k ps) ≤ length ps → length (cond t (circuits_at k p ∷ column k ps) (column k ps)) ≤ suc (length ps)
    go true s = omega arith
    go false s = omega arith

-- ---- one plan more
module _ (p : Draft) (ps : List Draft) (size : length p.circuits ≡ p.corridors) (few : p.corridors ≤ most_corridors) (held : AllHeld (p ∷ ps)) (room : length ps < most_plans) where
  -- an array: what a place held and a count give is the figure of the longer column
  array_more : (figure : List ℕ → ℕ) (with : ℕ → ℕ → ℕ) → ((k : ℕ) → with (figure (column k ps)) (circuits_at k p) ≡ figure (circuits_at k p ∷ column k ps))
      → updated with (tab most_corridors (λ k. figure (column k ps))) p.circuits ≡ tab most_corridors (λ k. figure (column k (p ∷ ps)))
  unfolding updated
  array_more figure with e =
      filled_tab most_corridors (length p.circuits) _ _ _ (omega arith)
      (λ k h.
      ap (λ (n : ℕ). with n (circuits_at k p)) (get_tab most_corridors (λ j. figure (column j ps)) k 0 (omega arith))
      ∙ e k
      ∙ ap figure (column_more k p ps (omega arith)))
      (λ k h. ap figure (column_past k p ps (omega arith)))

  least_more : updated min (tab most_corridors (λ k. least_from largest (column k ps))) p.circuits ≡ tab most_corridors (λ k. least_from largest (column k (p ∷ ps)))
  unfolding least_from
  least_more = array_more (least_from largest) min (λ k. refl)

  greatest_more : updated max (tab most_corridors (λ k. greatest (column k ps))) p.circuits ≡ tab most_corridors (λ k. greatest (column k (p ∷ ps)))
  unfolding greatest
  greatest_more = array_more greatest max (λ k. refl)

  sums_more : updated sum64 (tab most_corridors (λ k. total (column k ps))) p.circuits ≡ tab most_corridors (λ k. total (column k (p ∷ ps)))
  sums_more =
      array_more total sum64
      (λ k. total_more (circuits_at k p) (column k ps) (held.0.circuits k) (column_small k ps held.1) (omega (arith, column_length k ps)))

  rounds_more : sum64 (total (rounds_of ps)) p.rounds ≡ total (rounds_of (p ∷ ps))
  rounds_more = total_more p.rounds (rounds_of ps) held.0.rounds (rounds_small ps held.1) (omega (arith, mapped_length (λ (p : Draft). p.rounds) ps))

  converged_more : sum64 (total (converged_of ps)) (counted p.converged) ≡ total (converged_of (p ∷ ps))
  converged_more =
      total_more (counted p.converged) (converged_of ps) (counted_small p.converged) (converged_small ps) (omega (arith, mapped_length (λ (p : Draft). counted p.converged) ps))

  pub one_more_lem : with_plan (season_of ps) p ≡ season_of (p ∷ ps)
  unfolding with_plan season_of
  one_more_lem = simp (add-one, rounds_more, converged_more, least_more, greatest_more, sums_more)
