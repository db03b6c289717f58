-- A season by hand: three plans of two corridors, and what is said of a fourth.
use Prim.Native.Nat.{ℕ}
use mathlib.Core.Bool.{Bool, true, false}
use mathlib.Core.List.{List, [], ◌∷◌}
use mathlib.Core.Path.{◌≡◌, refl}
use lib.ListN.{length, replicate}
use Rattle.loops.specs.Loops.{tab}
use Rattle.refusal.specs.Number.{number_of, index_of}
use Rattle.refusal.specs.Reply.{answered, refused}
use Rattle.season_defs.specs.Terms.{euclid, divisor, lowest}
use Rattle.season_defs.specs.Plans.{Draft}
use Rattle.season_defs.specs.Feeding.{begun, tests_of, updated, with_plan, fed_by, feed, no_figures, corridor_figures, season_figures, fed_all}
use Rattle.season_defs.specs.declared.Season.{Season}
use Rattle.season_defs.specs.declared.CorridorFigures.{CorridorFigures}

abbrev draft : List ℕ → ℕ → Bool → Draft
draft circuits rounds converged = record { corridors = length circuits; circuits = circuits; rounds = rounds; converged = converged }

abbrev three : Season
three = fed_all begun (draft (1 ∷ 4 ∷ []) 1 true ∷ draft (2 ∷ 4 ∷ []) 2 true ∷ draft (4 ∷ 4 ∷ []) 4 false ∷ [])

abbrev at : ℕ → ℕ → ℕ → ℕ → CorridorFigures
at least greatest over under = record { least = least; greatest = greatest; mean = record { over = over; under = under } }

-- at each index and past the corridors
pub figures : corridor_figures three 0 ∷ corridor_figures three 1 ∷ corridor_figures three 2 ∷ corridor_figures begun 0 ∷ [] ≡ at 1 4 7 3 ∷ at 4 4 4 1 ∷ no_figures ∷ no_figures ∷ []
unfolding begun tests_of updated with_plan fed_by feed fed_all corridor_figures lowest divisor euclid tab
figures = refl

pub figures_over_lem : season_figures three ≡ record { plans = 3; rounds = record { over = 7; under = 3 }; converged = record { over = 2; under = 3 } }
unfolding begun tests_of updated with_plan fed_by feed fed_all season_figures lowest divisor euclid tab
figures_over_lem = refl

-- a season that has taken n plans of two corridors
abbrev of_two : ℕ → Season
of_two n = record { taken = n; corridors = 2; rounds = 0; converged = 0; least = replicate 256 1; greatest = replicate 256 1; total = replicate 256 n }

-- another count is 19, also where the season is full; then 20
pub said_of : (feed (of_two 4096) (draft (1 ∷ []) 0 true)).reply ∷ (feed (of_two 4096) (draft (1 ∷ 1 ∷ []) 0 true)).reply ∷ (feed (of_two 4095) (draft (1 ∷ 1 ∷ []) 0 true)).reply ∷ []
    ≡ refused 19 0 ∷ refused 20 0 ∷ answered tt ∷ []
unfolding tests_of fed_by feed number_of index_of
said_of = refl

-- 0 over any number is 0 over 1
pub nought : lowest 0 4096 ∷ lowest 0 0 ∷ [] ≡ record { over = 0; under = 1 } ∷ record { over = 0; under = 1 } ∷ []
unfolding lowest divisor euclid
nought = refl
