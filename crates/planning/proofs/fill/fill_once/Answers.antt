use Rattle.std.proofs.Common.{◌^◌, ◌<◌, length, get_or, ◌∙◌, refl, rules, arith, length-set}
use Rattle.plan_defs.specs.Case.{full_of}
use Rattle.planning.specs.Fill.{filled_as}
use Rattle.planning.proofs.Fillings.{total_fits, tally, fill_corridor, once_next, once_end}
use Rattle.planning.proofs.fill.fill_once.Goals as goal

pub loop-corridor-preserved : goal.loop-corridor-preserved
loop-corridor-preserved c =
    let l = c.loop-corridor in
    let z = c.args in
    let h = c.loop-corridor-test.true in
    let k = get_or z.order.now l.corridor-index 0 in
    let x = get_or l.circuits k 0 in
    let f : x < 2 ^ 32 = search rules in
    let w : k < length l.circuits = omega (arith, l.invariant.size, c.requires.fillable.named l.corridor-index 0 h) in
    record {
      in_range = omega arith;
      size = length-set l.circuits k _ ∙ l.invariant.size;
      left = once_next (full_of z.cap.now) z.target z.order.now l.corridor-index (filled_as l.circuits (tally l.total l.filler)) _ h
          (fill_corridor (full_of z.cap.now) z.target l.circuits l.total l.filler k _ _ _ w c.full_at.ensures refl c.gain-more.ensures) ∙ l.invariant.left;
      fits = omega (arith, c.gain-more.ensures, total_fits l.total z.target c.full_at.result x l.invariant.fits c.ranges.target.fits c.full_at.type_inv f);
      fewer = omega (arith, l.invariant.fewer);
    }

pub returns-clause-filled : goal.returns-clause-filled
returns-clause-filled c =
    let z = c.args in
    once_end (full_of z.cap.now) z.target z.order.now c.loop-corridor.corridor-index _ (omega arith) ∙ c.loop-corridor.invariant.left
