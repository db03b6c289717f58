-- The words of the tables as they are read are those of the file's definition: a place within a table holds the same whatever stands for one past it.
use Prim.Native.Nat.{ℕ, zero, suc, ◌+◌, ◌<◌}
use mathlib.Core.Bool.{Bool, true}
use mathlib.Core.List.{List, [], ◌∷◌}
use mathlib.Core.Path.{◌≡◌, refl, ap, ◌∙◌}
use native.Mathlib.Omega.{arith}
use lib.Ieee.{Float}
use lib.ListN.{length, get_or}
use Rattle.loops.specs.Figures.{at, nought}
use Rattle.sheets.specs.Sheet.{row_figures, line_place}
use Rattle.casefile_defs.specs.Reading.{levels, lines, Small}
use Rattle.casefile_defs.specs.Tables.{Places, basis_field, sizes_ok}
use Rattle.casefile_defs.specs.declared.Header.{Header}
use Rattle.casefile_defs.specs.declared.Kind.TheVariants.{Level, Bus, Generator, Corridor, Line}
use Rattle.casefile_defs.proofs.Counts.{lines_small}
use Rattle.casefile_defs.proofs.Whole.{sizes}
use Rattle.casefile_theorems.specs.Writer.{file_with, file_of, caps_only, words_of, row_cell, row_of}
use Rattle.casefile_theorems.proofs.CaseForth.{SameWords, files_alike}
use Rattle.casefile_theorems.proofs.Places.{row_in}
use Rattle.casefile_writer.specs.Files.{file_in}
use Rattle.casefile_writer.specs.Words.{level_row, bus_row, generator_row, corridor_row, line_row, weighs, words_in}

pub within : (l : List Float) (i : ℕ) → i < length l → at l i ≡ get_or l i nought
within [] i h = absurd (omega arith)
within (x ∷ l) zero h = refl
within (x ∷ l) (suc i) h = within l i (omega arith)

module _ (h : Header) (p : Places) (s : Small h) (e : sizes_ok p ≡ true) where
  level_alike : SameWords (caps_only (weighs p.weight h.buses) p) (words_in h p) (words_of h p) Level (levels h)
  unfolding words_in words_of
  level_alike i j b c = ap (λ (x : Float). level_row x j) (within p.ladder i (omega (arith, s.levels, (sizes p e).ladder)))

  bus_alike : SameWords (caps_only (weighs p.weight h.buses) p) (words_in h p) (words_of h p) Bus h.buses
  unfolding words_in words_of
  bus_alike i j b c =
      let n = s.buses in
      let z = sizes p e in
      ap (λ (x : Float). bus_row (get_or p.tier i 0) x (at p.weight i) j) (within p.reading i (omega (arith, z.reading)))
      ∙ ap (λ (x : Float). bus_row (get_or p.tier i 0) (get_or p.reading i nought) x j) (within p.weight i (omega (arith, z.weight)))

  generator_alike : SameWords (caps_only (weighs p.weight h.buses) p) (words_in h p) (words_of h p) Generator h.generators
  unfolding words_in words_of
  generator_alike i j b c =
      let g = s.generators in
      let z = sizes p e in
      ap (λ (x : Float). generator_row (get_or p.bus i 0) (get_or p.slack i 0) x (at p.pmax i) (at p.c1 i) (at p.c2 i) j) (within p.pmin i (omega (arith, z.pmin)))
      ∙ ap (λ (x : Float). generator_row (get_or p.bus i 0) (get_or p.slack i 0) (get_or p.pmin i nought) x (at p.c1 i) (at p.c2 i) j) (within p.pmax i (omega (arith, z.pmax)))
      ∙ ap (λ (x : Float). generator_row (get_or p.bus i 0) (get_or p.slack i 0) (get_or p.pmin i nought) (get_or p.pmax i nought) x (at p.c2 i) j) (within p.c1 i (omega (arith, z.c1)))
      ∙ ap (λ (x : Float). generator_row (get_or p.bus i 0) (get_or p.slack i 0) (get_or p.pmin i nought) (get_or p.pmax i nought) (get_or p.c1 i nought) x j) (within p.c2 i (omega (arith, z.c2)))

  corridor_alike : SameWords (caps_only (weighs p.weight h.buses) p) (words_in h p) (words_of h p) Corridor h.corridors
  unfolding words_in words_of
  corridor_alike i j b c =
      let m = s.corridors in
      let z = sizes p e in
      ap (λ (x : Float). corridor_row (get_or p.a i 0) (get_or p.b i 0) (get_or p.circuits i 0) x (at p.share i) (get_or p.cap i 0) j) (within p.length_km i (omega (arith, z.length_km)))
      ∙ ap (λ (x : Float). corridor_row (get_or p.a i 0) (get_or p.b i 0) (get_or p.circuits i 0) (get_or p.length_km i nought) x (get_or p.cap i 0) j) (within p.share i (omega (arith, z.share)))

  -- line i's place
  abbrev place_in : ℕ → ℕ
  place_in = line_place h.corridors (levels h)

  cell : (i j : ℕ) → i < lines h → j < row_figures → at p.sheet (place_in i + j) ≡ get_or p.sheet (row_cell (row_of h i) j) nought
  cell i j b c =
      ap (at p.sheet) (let z : place_in i + j ≡ row_cell (row_of h i) j = omega arith in z)
      ∙ within p.sheet (row_cell (row_of h i) j) (omega (arith, row_in h.corridors (levels h) i b, lines_small h s, (sizes p e).sheet))

  line_alike : SameWords (caps_only (weighs p.weight h.buses) p) (words_in h p) (words_of h p) Line (lines h)
  unfolding words_in words_of
  line_alike i j b c =
      let q = place_in i in
      let f = p.sheet in
      let g : ℕ → Float = λ k. get_or f (row_cell (row_of h i) k) nought in
      let first : at f q ≡ g 0 = ap (λ (k : ℕ). at f k) (let n : q ≡ q + 0 = omega arith in n) ∙ cell i 0 b (omega arith) in
      ap (λ (x : Float). line_row x (at f (q + 1)) (at f (q + 2)) (at f (q + 3)) (at f (q + basis_field)) j) first
      ∙ ap (λ (x : Float). line_row (g 0) x (at f (q + 2)) (at f (q + 3)) (at f (q + basis_field)) j) (cell i 1 b (omega arith))
      ∙ ap (λ (x : Float). line_row (g 0) (g 1) x (at f (q + 3)) (at f (q + basis_field)) j) (cell i 2 b (omega arith))
      ∙ ap (λ (x : Float). line_row (g 0) (g 1) (g 2) x (at f (q + basis_field)) j) (cell i 3 b (omega arith))
      ∙ ap (λ (x : Float). line_row (g 0) (g 1) (g 2) (g 3) x j) (cell i basis_field b (omega arith))

  -- with the form as the code has worked it out
  pub file_lent : (w : Bool) → w ≡ weighs p.weight h.buses → file_with (caps_only w p) h (words_in h p) ≡ file_in h p
  unfolding file_of
  file_lent w q =
      ap (λ (t : Bool). file_with (caps_only t p) h (words_in h p)) q
      ∙ files_alike (caps_only (weighs p.weight h.buses) p) h (words_in h p) (words_of h p) level_alike bus_alike generator_alike corridor_alike line_alike
