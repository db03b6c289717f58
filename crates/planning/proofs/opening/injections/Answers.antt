use Rattle.std.proofs.Common.{length, ap, ◌∙◌}
use Rattle.loops.proofs.Tab.{length_tab}
use Rattle.planning.proofs.Injecting.{injections_are}
use Rattle.planning.proofs.opening.injections.Goals as goal
use Rattle.planning.specs.Tables.{supply_in}

pub returns : goal.returns
returns c =
    injections_are (supply_in c.args.supply.now) c.args.mw.now _ _ _ c.withdraw.ensures c.inject.ensures
    (c.inject.auto.injection ∙ ap length c.withdraw.ensures ∙ length_tab _ _) c.per_unit.ensures
