-- The case of two survey districts (document 02, K10): buses, generators and corridors of the second follow the first's, renumbered; targets add.
use Rattle.std.specs.Prelude.{ℕ, ◌+◌, ◌-◌, Bool, cond, ◌&&◌, List, [], ◌∷◌, ◌++◌, map, leb, ltb, eqb, length, Float, Result}
use Rattle.std.specs.Float.Ieee.{eq}
use Rattle.loops.specs.Figures.{at}
use Rattle.loops.specs.Loops.{first}
use Rattle.loops.specs.Verdict.{Test, fact, verdict}
use Rattle.refusal.specs.declared.Refusal.{Refusal}
use Rattle.refusal.specs.declared.Refusal.TheVariants.{Length, Count, Districts}
use Rattle.mode.specs.Number.{mode_number}
use Rattle.plan_defs.specs.Constants.{most_buses, most_corridors, most_generators, most_target}
use Rattle.plan_defs.specs.Case.{Case, Row, case_with}
use Rattle.plan_defs.specs.Accept.{case_tests}

-- ---- the joined case
-- indices of the second's buses, which come after n of the first's
abbrev pub moved : ℕ → List ℕ → List ℕ
moved n l = map (λ i. n + i) l

-- the row of a corridor at a level: the first's m corridors, then the second's
unfoldable pub joined_row : ℕ → (ℕ → ℕ → Row) → (ℕ → ℕ → Row) → ℕ → ℕ → Row
joined_row m x y k level = cond (ltb k m) (x k level) (y (k - m) level)

unfoldable pub joined_case : Case → Case → Case
joined_case c d =
    let n = c.buses in
    case_with c.mode (n + d.buses) (c.corridors + d.corridors) (c.generators + d.generators) c.above c.requested c.ladder
    (c.tier ++ d.tier) (c.reading ++ d.reading) (c.weight ++ d.weight) (c.load ++ d.load)
    (c.bus ++ moved n d.bus) (c.slack ++ d.slack) (c.pmin ++ d.pmin) (c.pmax ++ d.pmax) (c.c1 ++ d.c1) (c.c2 ++ d.c2)
    (c.a ++ moved n d.a) (c.b ++ moved n d.b) (c.circuits ++ d.circuits) (c.km ++ d.km) (c.share ++ d.share) (c.cap ++ d.cap)
    (c.figures + d.figures) (joined_row c.corridors c.row d.row)

-- ---- 2: the sums are within the bounds of one case
unfoldable pub sums_ok : Case → ℕ → Case → ℕ → Bool
sums_ok c t d u =
    leb (c.buses + d.buses) most_buses
    && (leb (c.corridors + d.corridors) most_corridors && (leb (c.generators + d.generators) most_generators && leb (t + u) most_target))

-- ---- 24: one mode, one ladder, one count of requested levels
-- level by level, as figures
unfoldable pub same_ladder : List Float → List Float → Bool
same_ladder x y = eqb (length x) (length y) && eqb (first (λ i. eq (at x i) (at y i)) (length x) 0) (length x)

unfoldable pub alike : Case → Case → Bool
alike c d = eqb (mode_number c.mode) (mode_number d.mode) && (eqb c.requested d.requested && same_ladder c.ladder d.ladder)

-- ---- in order: 1 to 7 of the first case, then of the second, each with its own indices; then 2 and 24
unfoldable pub join_tests : Case → ℕ → Case → ℕ → List (Test Refusal)
join_tests c t d u = case_tests c t ++ (case_tests d u ++ (fact (sums_ok c t d u) Count ∷ fact (alike c d) Districts ∷ []))

abbrev pub join_check : Case → ℕ → Case → ℕ → Result (Unit {0}) Refusal
join_check c t d u = verdict (join_tests c t d u)

-- the same of a call, 1 for the joined tables first. `fits`: they have their sizes
unfoldable pub tests_of : Bool → Case → ℕ → Case → ℕ → List (Test Refusal)
tests_of fits c t d u = fact fits Length ∷ join_tests c t d u

abbrev pub check_of : Bool → Case → ℕ → Case → ℕ → Result (Unit {0}) Refusal
check_of fits c t d u = verdict (tests_of fits c t d u)
