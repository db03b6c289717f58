-- The records that the code works out are the network's; a column that is filled with them, and with one value past them, is their list, padded.
-- The corridors of each place are compared by one computed test.
use Prim.Native.Nat.{ℕ, zero, suc, ◌*◌, ◌%◌, ◌≤◌, ◌<◌}
use mathlib.Core.Bool.{Bool, true, false, cond, ◌&&◌}
use mathlib.Core.List.{List, [], ◌∷◌, map}
use mathlib.Core.Path.{◌≡◌, refl, sym, ap, ◌∙◌}
use native.Mathlib.Decide.{dec_lt}
use native.Mathlib.Omega.{arith}
use borrow.Author.Tests.{ne_eqb, eqb-true, lt-ltb, le-ltb}
use lib.Dec.{eqb, ltb}
use lib.ListN.{length, get_or, replicate, get_or-eq_default}
use Rattle.loops.specs.Figures.{nought}
use Rattle.loops.specs.Loops.{tab, first}
use Rattle.loops.proofs.Bools.{both, unequal}
use Rattle.loops.proofs.Scan.{all_pass}
use Rattle.loops.proofs.Tab.{tab_same, get_tab, length_tab, tab_replicate}
use Rattle.casefile_defs.specs.Bounds.{row_figures}
use Rattle.small.specs.declared.order.Shape.{Shape}
use Rattle.small_defs.specs.Networks.{bits, numbered, all_places, buses_at, number_at, network_at}
use Rattle.small_defs.specs.Tables.{chosen, corridors_of, load_of, sheet_row, padded}
use Rattle.small.specs.Columns.{row_figure, shape_at, corridor_count, pair_of, lower_end, upper_end, load_at}

-- ---- a table of k places whose first n are filled
module _ {A : Type 0} (d : A) (n : ℕ) (f : ℕ → A) where
  among : (i : ℕ) → cond (ltb i n) (f i) d ≡ get_or (tab n f) i d
  among i = elim (dec_lt i n) [
    | yes h ↦ ap (λ (t : Bool). cond t (f i) d) (lt-ltb i n h) ∙ sym (get_tab n f i d h)
    | no h ↦
        let short : length (tab n f) ≤ i = omega (arith, length_tab n f) in
        ap (λ (t : Bool). cond t (f i) d) (le-ltb i n (omega arith)) ∙ sym (get_or-eq_default (tab n f) d short)
  ]

  pub column : {k places : ℕ} {l x : List A} → k ≡ places → tab n f ≡ l → x ≡ tab k (λ i. cond (ltb i n) (f i) d) → x ≡ padded d places l
  unfolding padded
  column {k} {places} e u p =
      p
      ∙ ap (λ (m : ℕ). tab m (λ i. cond (ltb i n) (f i) d)) e
      ∙ tab_same places _ _ (λ i h. among i)
      ∙ ap (λ (l : List A). tab places (λ i. get_or l i d)) u

same : {A : Type 0} (b : Bool) (d : A) → d ≡ cond b d d
same true d = refl
same false d = refl

-- all of a table's places hold d, so the first n do too
pub cleared : {A : Type 0} (d : A) (n : ℕ) {k places : ℕ} {l x : List A} → k ≡ places → tab n (λ j. d) ≡ l → x ≡ replicate k d → x ≡ padded d places l
cleared d n {k} e u p = column d n (λ j. d) e u (p ∙ sym (tab_replicate k d) ∙ tab_same k _ _ (λ i h. same (ltb i n) d))

pub single : {A : Type 0} (x : A) → tab 1 (λ j. x) ≡ x ∷ []
unfolding tab
single x = refl

-- ---- the sheet
row_get : (j : ℕ) → row_figure j ≡ get_or sheet_row j nought
row_get zero = refl
row_get (suc zero) = refl
row_get (suc (suc zero)) = refl
row_get (suc (suc (suc zero))) = refl
row_get (suc (suc (suc (suc zero)))) = refl
row_get (suc (suc (suc (suc (suc j))))) = simp (ne_eqb (suc (suc (suc (suc (suc j))))) 1 (omega arith), ne_eqb (suc (suc (suc (suc (suc j))))) 3 (omega arith))

-- ---- the buses and their loads
buses_few : (i : ℕ) → buses_at i ≤ 3
unfolding buses_at
buses_few i = by (ltb i 2) (ltb i 10)
  where
    by : (s t : Bool) → cond s 1 (cond t 2 3) ≤ 3
    by true t = omega arith
    by false true = omega arith
    by false false = omega arith

loads_front : (b l : ℕ) → b ≤ 3 → tab b (load_at l) ≡ map load_of (bits b l)
unfolding bits tab
loads_front zero l h = refl
loads_front (suc zero) l h = refl
loads_front (suc (suc zero)) l h = refl
loads_front (suc (suc (suc zero))) l h = refl
loads_front (suc (suc (suc (suc b)))) l h = absurd (omega arith)

-- ---- the corridors
abbrev lower_ends : ℕ → List ℕ
lower_ends c = tab (corridor_count c) (λ i. lower_end (pair_of c i))

abbrev upper_ends : ℕ → List ℕ
upper_ends c = tab (corridor_count c) (λ i. upper_end (pair_of c i))

abbrev alike : List ℕ → List ℕ → Bool
alike [] [] = true
alike [] (y ∷ ys) = false
alike (x ∷ xs) [] = false
alike (x ∷ xs) (y ∷ ys) = eqb x y && alike xs ys

alike_same : (xs ys : List ℕ) → alike xs ys ≡ true → xs ≡ ys
alike_same [] [] e = refl
alike_same [] (y ∷ ys) e = absurd (unequal cc)
alike_same (x ∷ xs) [] e = absurd (unequal cc)
alike_same (x ∷ xs) (y ∷ ys) e =
    let t = both _ _ e in
    ap (λ (n : ℕ). n ∷ xs) (eqb-true x y t.0) ∙ ap (λ (l : List ℕ). y ∷ l) (alike_same xs ys t.1)

abbrev corridors_at : ℕ → ℕ
corridors_at i = (shape_at i).corridors

unfoldable agrees : ℕ → Bool
agrees i =
    alike (lower_ends (corridors_at i)) (map (λ p. p.0) (corridors_of (network_at i)))
    && (alike (upper_ends (corridors_at i)) (map (λ p. p.1) (corridors_of (network_at i))) && eqb (corridor_count (corridors_at i)) (length (corridors_of (network_at i))))

all_agree : first agrees all_places 0 ≡ all_places
unfolding agrees first shape_at buses_at number_at network_at numbered bits chosen tab
all_agree = refl

-- ---- a place as the code took it apart: what it fills the columns with is the network's
module _ (i : ℕ) (h : i < all_places) {s : Shape} (e : s ≡ shape_at i) where
  corridors : (agrees i ≡ true)
  corridors = all_pass agrees all_places (omega (arith, all_agree)) i h

  pub buses : s.buses ≡ (network_at i).buses
  unfolding network_at numbered shape_at
  buses = ap (λ (t : Shape). t.buses) e

  pub loads : tab s.buses (load_at s.loads) ≡ map load_of (network_at i).loaded
  unfolding network_at numbered shape_at
  loads = ap (λ (t : Shape). tab t.buses (load_at t.loads)) e ∙ loads_front (buses_at i) _ (buses_few i)

  pub each_bus : {A : Type 0} (x : A) → tab s.buses (λ j. x) ≡ replicate (network_at i).buses x
  each_bus {A} x = tab_replicate s.buses x ∙ ap (λ (n : ℕ). replicate n x) buses

  pub corridors_counted : corridor_count s.corridors ≡ length (corridors_of (network_at i))
  unfolding agrees
  corridors_counted = ap (λ (t : Shape). corridor_count t.corridors) e ∙ eqb-true _ _ (both _ _ (both _ _ corridors).1).1

  module _ {m : ℕ} (v : m ≡ corridor_count s.corridors) where
    pub lower : tab m (λ j. lower_end (pair_of s.corridors j)) ≡ map (λ p. p.0) (corridors_of (network_at i))
    unfolding agrees
    lower = ap (λ (n : ℕ). tab n (λ j. lower_end (pair_of s.corridors j))) v ∙ ap (λ (t : Shape). lower_ends t.corridors) e ∙ alike_same _ _ (both _ _ corridors).0

    pub upper : tab m (λ j. upper_end (pair_of s.corridors j)) ≡ map (λ p. p.1) (corridors_of (network_at i))
    unfolding agrees
    upper =
        ap (λ (n : ℕ). tab n (λ j. upper_end (pair_of s.corridors j))) v
        ∙ ap (λ (t : Shape). upper_ends t.corridors) e
        ∙ alike_same _ _ (both _ _ (both _ _ corridors).1).0

    pub each : {A : Type 0} (x : A) → tab m (λ j. x) ≡ replicate (length (corridors_of (network_at i))) x
    each {A} x = tab_replicate m x ∙ ap (λ (n : ℕ). replicate n x) (v ∙ corridors_counted)

    pub rows : tab (m * row_figures) (λ p. row_figure (p % row_figures))
        ≡ tab (length (corridors_of (network_at i)) * row_figures) (λ p. get_or sheet_row (p % row_figures) nought)
    rows =
        tab_same _ _ _ (λ p l. row_get (p % row_figures))
        ∙ ap (λ (n : ℕ). tab (n * row_figures) (λ p. get_or sheet_row (p % row_figures) nought)) (v ∙ corridors_counted)
