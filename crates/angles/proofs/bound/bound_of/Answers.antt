use mathlib.Core.Path.{sym, subst}
use lib.Ieee.{Float, binary64, of_bits}
use lib.Ieee.Fits.{mul-fits}
use Rattle.angles.specs.Bounds.{SurelyFar}
use Rattle.angles.proofs.Beyond.{known_where}
use Rattle.angles.proofs.Reached.{both_known, nothing_far}
use Rattle.angles.proofs.bound.bound_of.Goals as goal
use Rattle.angles.proofs.bound.bound_of.Goals.{then-is_beyond, else-is_beyond}

pub invariant_of-result : goal.invariant_of-result
unfolding of_bits
invariant_of-result c =
    record {
      sure = known_where _ _ _ _ c.then_some.ensures (λ h. (both_known _ _ _ (mul-fits binary64 _ _) h).0);
      far =
          elim c.if-is_beyond.branch [
            | then-is_beyond w ↦ subst (λ (l : Float). SurelyFar l c.args.bound) (sym w.result-is) (both_known _ _ _ (mul-fits binary64 _ _) w.if-is_beyond.true).1
            | else-is_beyond w ↦ subst (λ (l : Float). SurelyFar l c.args.bound) (sym w.result-is) (nothing_far c.args.bound)
          ];
    }
