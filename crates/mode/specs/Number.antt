-- The number of each mode: 0 to 2 are document 01's ("Case file", `HD`), 3 to 5 those of document 02, K4.
use Rattle.std.specs.Prelude.{ℕ, ◌<◌, ◌≡◌, Result, MatchResult}
use Rattle.mode.specs.declared.PlanMode.{PlanMode}
use Rattle.mode.specs.declared.PlanMode.TheVariants.{Expand, Reinforce, Observe, ExpandServing, ReinforceServing, ObserveServing}
use Rattle.mode.specs.declared.UnknownMode.{UnknownMode}

unfoldable pub mode_number : PlanMode → ℕ
mode_number Expand = 0
mode_number Reinforce = 1
mode_number Observe = 2
mode_number ExpandServing = 3
mode_number ReinforceServing = 4
mode_number ObserveServing = 5

-- and back: the mode with this number, or the number, which no mode has
abbrev pub Numbered : ℕ → Result PlanMode UnknownMode → Type 0
Numbered n r = MatchResult r (λ mode. mode_number mode ≡ n) (λ e. (e.0 ≡ n) × (5 < n))
