-- Document 01's starred example 5 of leaders: corridors 0–1 and 1–2 give leader 2; only 2–0 gives leader 0 for both.
use mathlib.Core.List.{[], ◌∷◌}
use mathlib.Core.Path.{◌≡◌, refl}
use Rattle.loops.specs.Loops.{iter, tab}
use Rattle.leaders.specs.Leaders.{rename, join, join_all, themselves, leaders_of}

pub chain_of_two : leaders_of 3 (0 ∷ 1 ∷ []) (1 ∷ 2 ∷ []) ≡ 2 ∷ 2 ∷ 2 ∷ []
unfolding leaders_of join_all join rename themselves iter tab
chain_of_two = refl

pub only_one : leaders_of 3 (2 ∷ []) (0 ∷ []) ≡ 0 ∷ 1 ∷ 0 ∷ []
unfolding leaders_of join_all join rename themselves iter tab
only_one = refl
