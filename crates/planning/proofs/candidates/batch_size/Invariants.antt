use Rattle.std.proofs.Common.{◌≡◌, map}
use Rattle.loops.specs.Figures.{nought}
use Rattle.plan_defs.specs.Stiffen.{batch}
use Rattle.planning.specs.Stiffen.{gain_for}
use Rattle.planning.proofs.Gains.{taking}
use Rattle.planning.proofs.candidates.batch_size.Given as goal

abbrev pub invariant-loop-j : goal.invariant-loop-j
invariant-loop-j l = taking l.gain l.order l.most l.excess l.j l.covered ≡ batch l.most nought l.excess (map (gain_for l.gain) l.order)
