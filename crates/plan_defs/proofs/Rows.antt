-- The rows of a sheet by level (document 02, K11), and worked examples, by evaluation: of two corridors and three levels, the rows of the first level come
-- first, a corridor each.
use Prim.Native.Nat.{ℕ, ◌<◌}
use mathlib.Core.List.{List, [], ◌∷◌, ◌++◌, map}
use mathlib.Core.Path.{◌≡◌, refl}
use borrow.Author.Tests.{lt-ltb}
use lib.Ieee.{Float}
use Rattle.std.specs.Prelude.{Err}
use Rattle.loops.specs.Figures.{nought, half, one, hundred, decimal}
use Rattle.mode.specs.declared.PlanMode.TheVariants.{Observe}
use Rattle.refusal.specs.declared.Refusal.TheVariants.{Row}
use Rattle.sheets.specs.Sheet.{row_place}
use Rattle.plan_defs.specs.Case.{Case, row_from, rows_of, surveyed, row_at}
use Rattle.plan_defs.specs.Accept.{case_check}
use Rattle.plan_defs.specs.Listing.{bits_of}
use Rattle.plan_defs.proofs.Unfolded.{whole_plan}

-- a corridor's row at a level is at its place in the sheet
pub row_from_lem : (m n : ℕ) (sheet : List Float) (k l : ℕ) → k < m → l < n → rows_of m n sheet k l ≡ row_from sheet (row_place m k l)
unfolding rows_of
row_from_lem m n sheet k l h q = rw (lt-ltb k m h, lt-ltb l n q)

-- ---- examples
abbrev whole : ℕ → Float
whole n = decimal n 1

-- a row by its x
abbrev row_with : ℕ → List Float
row_with x = nought ∷ whole x ∷ nought ∷ hundred ∷ nought ∷ []

-- the x of the rows as they lie
abbrev laid_out : ℕ → ℕ → ℕ → ℕ → ℕ → ℕ → Case
laid_out x₀ x₁ x₂ x₃ x₄ x₅ =
    surveyed Observe 2 2 0 1 2 (whole 345 ∷ whole 230 ∷ whole 138 ∷ []) (0 ∷ 0 ∷ []) (one ∷ one ∷ []) (one ∷ one ∷ []) [] [] [] [] [] []
    (0 ∷ 0 ∷ []) (1 ∷ 1 ∷ []) (1 ∷ 1 ∷ []) (one ∷ one ∷ []) (half ∷ half ∷ []) (0 ∷ 0 ∷ [])
    (row_with x₀ ++ row_with x₁ ++ row_with x₂ ++ row_with x₃ ++ row_with x₄ ++ row_with x₅)

-- of each corridor its rows from the highest level down
pub rows_by_level :
    map (λ k. map (λ l. bits_of (row_at (laid_out 1 2 3 4 5 6) k l).x) (0 ∷ 1 ∷ 2 ∷ [])) (0 ∷ 1 ∷ [])
    ≡ map (map (λ x. bits_of (whole x))) ((1 ∷ 3 ∷ 5 ∷ []) ∷ (2 ∷ 4 ∷ 6 ∷ []) ∷ [])
unfolding whole_plan
rows_by_level = refl

-- The second row is corridor 1's at level 0, the third corridor 0's at level 1: 7 has the index corridor × levels + level, and of both the lower.
pub refused_by_corridor :
    case_check (laid_out 1 0 3 4 5 6) 0 ∷ case_check (laid_out 1 2 0 4 5 6) 0 ∷ case_check (laid_out 1 0 0 4 5 6) 0 ∷ []
    ≡ Err (Row 3) ∷ Err (Row 1) ∷ Err (Row 1) ∷ []
unfolding whole_plan
refused_by_corridor = refl
