use Rattle.placement_defs.specs.Support.{flagged}
use Rattle.loops.proofs.Loops.{iter_all, iter_more, iter_end}
use mathlib.Core.Path.{sym, ◌∙◌}
use native.Mathlib.Omega.{arith}
use mathlib.Core.Bool.{true}
use Rattle.std.proofs.lemmas.List.{map-set}
use Rattle.placement.specs.Views.{flag_of}
use Rattle.placement.proofs.condenser.flag_generators.Goals as goal

pub loop-bus-init : goal.loop-bus-init
unfolding flagged
loop-bus-init c = iter_all _ _ _

pub loop-bus-preserved : goal.loop-bus-preserved
loop-bus-preserved c = sym (iter_more _ c.loop-bus-test.true (map-set flag_of _ _ true)) ∙ c.loop-bus.invariant

pub returns : goal.returns
returns c = sym (iter_end _ (omega arith)) ∙ c.loop-bus.invariant
