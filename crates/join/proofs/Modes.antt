-- Two modes are one where their numbers are: a mode's number is its place in the enum.
use mathlib.Core.Bool.{Bool}
use mathlib.Core.Path.{◌≡◌, refl}
use lib.Dec.{eqb}
use denote.Enum.Bare.{sameb}
use denote.Enum.Declared.{tag_of}
use Rattle.mode.specs.Number.{mode_number}
use Rattle.mode.specs.contracts.PlanMode.{the_type}
use Rattle.mode.specs.declared.PlanMode.{PlanMode}
use Rattle.mode.specs.declared.PlanMode.TheVariants.{Expand, Reinforce, Observe, ExpandServing, ReinforceServing, ObserveServing}

place_is : (m : PlanMode) → tag_of the_type m ≡ mode_number m
unfolding mode_number
place_is Expand = refl
place_is Reinforce = refl
place_is Observe = refl
place_is ExpandServing = refl
place_is ReinforceServing = refl
place_is ObserveServing = refl

pub mode_same : (a b : PlanMode) (r : Bool) → r ≡ sameb the_type a b → r ≡ eqb (mode_number a) (mode_number b)
mode_same a b r e = rw (← place_is a, ← place_is b) e
