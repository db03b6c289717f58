use lib.Ieee.{Float}
use Rattle.placement.specs.Views.{labels_in}
use Rattle.placement.proofs.Sites.{sized_none, sized_is}
use Rattle.loops.proofs.Loops.{iter_more, iter_end}
use mathlib.Core.Path.{sym, ap, ◌∙◌}
use native.Mathlib.Omega.{arith}
use lib.ListN.{length-set, set}
use Rattle.placement.proofs.condenser.size_condensers.Goals as goal

pub returns-then-count-eq0 : goal.returns-then-count-eq0
returns-then-count-eq0 c = sized_none _ _ _ _ _ _ c.if-count-eq0.true

pub loop-k-preserved : goal.loop-k-preserved
loop-k-preserved c =
    let l = c.loop-k in
    (simp length-set l.invariant.0, sym (iter_more _ c.loop-k-test.true (ap (λ (t : Float). set l.mvars l.k t) c.mvar_of.ensures)) ∙ l.invariant.1)

pub returns : goal.returns
returns c =
    sized_is _ _ _ _ _ (labels_in c.distance_to_sources.new.labels) _ _ _ c.blank-labels.ensures c.distance_to_sources.ensures (sym (iter_end _ (omega arith)) ∙ c.loop-k.invariant.1)
