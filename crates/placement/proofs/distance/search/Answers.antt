use native.Mathlib.Omega.{arith}
use mathlib.Core.Path.{refl, sym, ◌∙◌}
use Rattle.loops.proofs.Loops.{iter_more, iter_end, iter_still}
use Rattle.placement.proofs.Turns.{turn_idle, turn_busy, turns_done}
use Rattle.placement.proofs.distance.search.Goals as goal

pub returns-in_default : goal.returns-in_default
returns-in_default c = turns_done _ _ _ (sym (iter_still _ _ (turn_idle _ _ _ c.in_default.ensures.value (omega arith)) _ _) ∙ c.loop-turn.invariant.0)

pub loop-turn-preserved : goal.loop-turn-preserved
loop-turn-preserved c =
    let turn = turn_busy _ _ _ _ _ c.in-Some.ensures.value (c.in-Some.ensures.bus _ refl) c.spread_from.ensures.from_after in
    (sym (iter_more _ c.loop-turn-test.true turn) ∙ c.loop-turn.invariant.0, c.spread_from.ensures.front_2)

pub returns : goal.returns
returns c = turns_done _ _ _ (sym (iter_end _ (omega arith)) ∙ c.loop-turn.invariant.0)
