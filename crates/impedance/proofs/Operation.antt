-- What a caller with a sound rating learns.
use mathlib.Core.Bool.{true}
use mathlib.Core.Path.{◌≡◌, ◌∙◌}
use lib.Ieee.{Float}
use Rattle.refusal.specs.Reply.{reply_of}
use Rattle.impedance.specs.Impedance.{impedance_of, rating_ok, defined}
use Rattle.impedance.specs.declared.SeriesImpedance.{SeriesImpedance}
use Rattle.std.specs.Prelude.{Ok, Result}
use Rattle.refusal.specs.declared.Refusal.{Refusal}

-- with a rating above 0 and finite the answer is the defined impedance
pub answers : (mva : Float) (r : Result SeriesImpedance Refusal) → rating_ok mva ≡ true → reply_of r ≡ defined mva → reply_of r ≡ reply_of (Ok (impedance_of mva))
unfolding defined
answers mva r e p = p ∙ rw e
