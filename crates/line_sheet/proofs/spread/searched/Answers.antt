use Rattle.std.proofs.Common.{arith, lit<}
use Rattle.line_sheet.proofs.Halving.{cube_fits, fifth_fits, whole_range, halved}
use Rattle.line_sheet.proofs.spread.searched.Goals as goal

pub power-cube-requires : goal.power-cube-requires
power-cube-requires c = (lit< tt, c.requires.0, cube_fits c.args.a c.requires.1)

pub loop-hi-init : goal.loop-hi-init
loop-hi-init c = whole_range c.args.a _ c.requires.1 c.power-cube.ensures

pub power-requires : goal.power-requires
power-requires c = let i = c.loop-hi.invariant in (lit< tt, omega (arith, c.next-mid.ensures), fifth_fits _ (omega (arith, c.next-mid.ensures, i.1)))

pub returns : goal.returns
returns c =
    let s = c in
    halved s.args.a _ _ _ s.requires.1 c.power-cube.ensures c.loop-hi-test.false c.loop-hi.invariant
