use Rattle.line_sheet.proofs.Worths.{first_power, power_fits, next_power}
use Rattle.line_sheet.proofs.limbs.power.Goals as goal

pub loop-turn-init : goal.loop-turn-init
loop-turn-init c = first_power c.args.c c.args.n c.args.k c.requires.0

pub times-r-requires : goal.times-r-requires
times-r-requires c = let s = c.args in power_fits s.c s.n s.k c.loop-turn._turn _ _ c.requires.1 c.loop-turn-test.true c.loop-turn.invariant.2 c.requires.2

pub loop-turn-preserved : goal.loop-turn-preserved
loop-turn-preserved c = let s = c.args in next_power s.c s.n s.k c.loop-turn.r.0 c.times-r.result.limbs c.loop-turn._turn c.loop-turn-test.true c.times-r.result.fit c.times-r.ensures c.loop-turn.invariant
