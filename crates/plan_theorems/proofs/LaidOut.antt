-- A sheet by corridor, as the file and the line office have it, and the same sheet by level, as planning has it (document 02, K11): the row found for each
-- corridor and level is the same, so the case is the same, and with it every plan and every refusal.
use Prim.Native.Nat.{ℕ, ◌+◌, ◌*◌, ◌<◌}
use mathlib.Core.Bool.{Bool, true, false, ◌&&◌}
use mathlib.Core.List.{List}
use mathlib.Core.Path.{◌≡◌, refl, sym, ap, ◌∙◌, fun_ext}
use native.Mathlib.Omega.{arith}
use borrow.Author.Tests.{ltb-true}
use lib.Dec.{ltb}
use lib.Ieee.{Float}
use lib.ListN.{length}
use Rattle.loops.specs.Figures.{at}
use Rattle.loops.proofs.Bools.{both}
use Rattle.mode.specs.declared.PlanMode.{PlanMode}
use Rattle.sheets.specs.Sheet.{row_figures, row_place, corridor_place, by_level}
use Rattle.sheets.proofs.Layouts.{figure_found, size_same}
use Rattle.loads.specs.Load.{loads_of}
use Rattle.plan_defs.specs.Case.{Case, Row, row_from, row_if, rows_of, case_with, surveyed}
use Rattle.plan_defs.specs.Plan.{ending_of}

-- the rows of a sheet by corridor
unfoldable pub by_corridor : ℕ → ℕ → List Float → ℕ → ℕ → Row
by_corridor m n sheet k level = row_if (ltb k m && ltb level n) (row_from sheet (corridor_place n k level))

module _ (m n : ℕ) (sheet : List Float) where
  -- the row found for each corridor and level is the row found by corridor
  pub row_found : (k l : ℕ) → k < m → l < n → row_from (by_level m n sheet) (row_place m k l) ≡ row_from sheet (corridor_place n k l)
  row_found k l h q = λ i.
      record {
        r = first i;
        x = figure_found m n sheet k l 1 h q (omega arith) i;
        b = figure_found m n sheet k l 2 h q (omega arith) i;
        rate = figure_found m n sheet k l 3 h q (omega arith) i;
        basis = figure_found m n sheet k l 4 h q (omega arith) i;
      }
    where
      first : at (by_level m n sheet) (row_place m k l) ≡ at sheet (corridor_place n k l)
      first =
          ap (at (by_level m n sheet)) (let z : row_place m k l ≡ row_place m k l + 0 = omega arith in z)
          ∙ figure_found m n sheet k l 0 h q (omega arith)
          ∙ ap (at sheet) (let z : corridor_place n k l + 0 ≡ corridor_place n k l = omega arith in z)

  pub rows_same : rows_of m n (by_level m n sheet) ≡ by_corridor m n sheet
  unfolding rows_of by_corridor
  rows_same = fun_ext (λ k. fun_ext (λ l. go k l (ltb k m && ltb l n) refl))
    where
      go : (k l : ℕ) (b : Bool) → (ltb k m && ltb l n) ≡ b → row_if b (row_from (by_level m n sheet) (row_place m k l)) ≡ row_if b (row_from sheet (corridor_place n k l))
      go k l false e = refl
      go k l true e =
          let p = both (ltb k m) (ltb l n) e in
          row_found k l (ltb-true k m p.0) (ltb-true l n p.1)

-- ---- the case of a sheet by corridor, and of the same sheet by level
module _ (mode : PlanMode) (buses corridors generators above requested : ℕ) (ladder : List Float) (tier : List ℕ) (reading weight : List Float) (bus slack : List ℕ)
    (pmin pmax c1 c2 : List Float) (a b circuits : List ℕ) (km share : List Float) (cap : List ℕ) (sheet : List Float)
    (size : length sheet ≡ row_figures * (corridors * (above + requested))) where
  abbrev with_rows : ℕ → (ℕ → ℕ → Row) → Case
  with_rows figures row =
      case_with mode buses corridors generators above requested ladder tier reading weight (loads_of buses reading weight) bus slack pmin pmax c1 c2 a b circuits km share cap
      figures row

  abbrev case_by_corridor : Case
  case_by_corridor = with_rows (length sheet) (by_corridor corridors (above + requested) sheet)

  abbrev case_by_level : Case
  case_by_level =
      surveyed mode buses corridors generators above requested ladder tier reading weight bus slack pmin pmax c1 c2 a b circuits km share cap
      (by_level corridors (above + requested) sheet)

  pub case_same : case_by_level ≡ case_by_corridor
  case_same =
      ap (λ (f : ℕ). with_rows f (rows_of corridors (above + requested) (by_level corridors (above + requested) sheet))) (size_same corridors (above + requested) sheet ∙ sym size)
      ∙ ap (with_rows (length sheet)) (rows_same corridors (above + requested) sheet)

  pub plans_same : (target : ℕ) → ending_of case_by_level target ≡ ending_of case_by_corridor target
  plans_same target = ap (λ (c : Case). ending_of c target) case_same
