-- Three corridors and two levels, with rows told apart; and the refusals at their bounds.
use Prim.Native.Nat.{ℕ, ◌+◌, ◌*◌}
use mathlib.Core.List.{List, [], ◌∷◌, ◌++◌}
use mathlib.Core.Path.{◌≡◌, refl}
use lib.Ieee.{Float}
use Rattle.loops.specs.Figures.{float}
use Rattle.loops.specs.Loops.{tab}
use Rattle.refusal.specs.declared.Refusal.TheVariants.{Length, Count}
use Rattle.sheets.specs.Request.{tests_of, check_of}
use Rattle.sheets.specs.Sheet.{by_level}
use Rattle.std.specs.Prelude.{Err}
use Rattle.refusal.specs.Reply.{no_refusal}

abbrev row : ℕ → List Float
row t = float (10 * t) ∷ float (10 * t + 1) ∷ float (10 * t + 2) ∷ float (10 * t + 3) ∷ float (10 * t + 4) ∷ []

laid : by_level 3 2 (row 0 ++ row 1 ++ row 2 ++ row 3 ++ row 4 ++ row 5) ≡ row 0 ++ row 2 ++ row 4 ++ row 1 ++ row 3 ++ row 5
unfolding by_level tab
laid = refl

answers :
    check_of 256 5 6_400 6_400 ∷ check_of 0 1 0 0 ∷ check_of 257 1 1_285 1_285 ∷ check_of 1 6 30 30 ∷ check_of 1 0 0 0 ∷ check_of 1 6 30 29 ∷ check_of 3 2 29 30 ∷ []
    ≡ no_refusal ∷ no_refusal ∷ Err Count ∷ Err Count ∷ Err Count ∷ Err Length ∷ Err Length ∷ []
unfolding tests_of
answers = refl
