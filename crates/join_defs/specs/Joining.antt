-- `join_cases`: two cases in tables of exactly their counts, and the joined tables, lent as for case reading. A refusal touches nothing, an answer fills every
-- place, zero past the counts.
use Rattle.std.specs.Prelude.{ℕ, ◌+◌, ◌*◌, ◌/◌, ◌%◌, cond, List, [], ◌∷◌, ltb, Float, get_or, Err, Ok, Result}
use Rattle.loops.specs.Figures.{at, nought}
use Rattle.loops.specs.Loops.{tab}
use Rattle.refusal.specs.Reply.{Reply}
use Rattle.refusal.specs.declared.Refusal.{Refusal}
use Rattle.sheets.specs.Sheet.{row_figures, row_corridor, row_level}
use Rattle.casefile_defs.specs.Bounds.{most_levels, most_buses, most_generators, most_corridors, most_sheet}
use Rattle.casefile_defs.specs.Tables.{Places, places_of, sizes_ok, reply_of}
use Rattle.casefile_defs.specs.declared.Header.{Header}
use Rattle.plan_defs.specs.Case.{Case, Row, levels}
use Rattle.case_defs.specs.Cases.{case_as}
use Rattle.join_defs.specs.Districts.{joined_case, check_of}

-- a header of a case and a target
abbrev pub header_of : Case → ℕ → Header
header_of c target = record {
  mode = c.mode;
  target = target;
  buses = c.buses;
  corridors = c.corridors;
  generators = c.generators;
  above = c.above;
  requested = c.requested;
}

-- a case's columns in tables of the largest size, zero past each
unfoldable pub padded : {A : Type 0} → A → ℕ → List A → List A
padded zero n l = tab n (λ i. get_or l i zero)

-- the rows of m corridors at n levels in a sheet by level (document 02, K11), zero past them
abbrev pub figure_in : Row → ℕ → Float
figure_in w j = at (w.r ∷ w.x ∷ w.b ∷ w.rate ∷ w.basis ∷ []) j

unfoldable pub sheet_of : ℕ → ℕ → ℕ → (ℕ → ℕ → Row) → List Float
sheet_of places m n row =
    tab places (λ p. let i = p / row_figures in cond (ltb i (m * n)) (figure_in (row (row_corridor m i) (row_level m i)) (p % row_figures)) nought)

unfoldable pub laid_out : Case → Places
laid_out c =
    places_of (padded nought most_levels c.ladder) (padded 0 most_buses c.tier) (padded nought most_buses c.reading) (padded nought most_buses c.weight)
    (padded 0 most_generators c.bus) (padded 0 most_generators c.slack) (padded nought most_generators c.pmin) (padded nought most_generators c.pmax)
    (padded nought most_generators c.c1) (padded nought most_generators c.c2) (padded 0 most_corridors c.a) (padded 0 most_corridors c.b)
    (padded 0 most_corridors c.circuits) (padded nought most_corridors c.km) (padded nought most_corridors c.share) (padded 0 most_corridors c.cap)
    (sheet_of most_sheet c.corridors (levels c) c.row)

-- ---- what is said, and every place of every joined table
pub record Outcome : Type 0 where
  pub reply : Reply Header
  pub places : Places

abbrev pub outcome : Result Header Refusal → Places → Outcome
outcome r p = record { reply = reply_of r; places = p }

unfoldable pub joined_by : Result (Unit {0}) Refusal → Case → ℕ → Places → Outcome
joined_by (Err f) c target out = outcome (Err f) out
joined_by (Ok tt) c target out = outcome (Ok (header_of c target)) (laid_out c)

unfoldable pub join_cases : Header → Places → Header → Places → Places → Outcome
join_cases h p k q out =
    let c = case_as h p in
    let d = case_as k q in
    joined_by (check_of (sizes_ok out) c h.target d k.target) (joined_case c d) (h.target + k.target) out
