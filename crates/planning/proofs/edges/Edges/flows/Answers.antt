use Rattle.std.proofs.Common.{refl, ◌∙◌, arith, length-set}
use Rattle.loops.proofs.Tab.{fill_start, fill_turn, fill_end}
use Rattle.planning.specs.Tables.{edges_in}
use Rattle.planning.proofs.Solving.{flow_turn, flows_are}
use Rattle.planning.proofs.edges.Edges.flows.Goals as goal

pub loop-k-init : goal.loop-k-init
loop-k-init c = (omega arith, refl, fill_start _ _)

pub loop-k-preserved : goal.loop-k-preserved
loop-k-preserved c =
    let l = c.loop-k in (
      omega arith,
      simp length-set l.invariant.1,
      fill_turn _ _ _ _ _ l.invariant.2 (omega arith)
          (flow_turn (edges_in c.args.self.now) _ _ _ c.args.angle.now l.k c.as_slice-from.ensures.value c.as_slice-to.ensures.value c.as_slice-weight.ensures.value),
    )

pub returns : goal.returns
returns c = fill_end _ _ _ _ _ refl (omega arith) c.loop-k.invariant.2 ∙ flows_are (edges_in c.args.self.now) c.args.angle.now _ c.requires.1
