use Rattle.std.proofs.Common.{ℕ, List, ap, ◌∙◌, arith}
use lib.Ieee.{Float, nan}
use Rattle.loops.specs.Figures.{at}
use Rattle.loops.proofs.Tab.{get_tab}
use Rattle.line_defs.specs.Loadability.{loadability_of}
use Rattle.line_sheet.proofs.sheet.put_eight.Goals as goal

pub put_corridor-requires : goal.put_corridor-requires
put_corridor-requires c =
    let s = c in
    let l = c.loop-j in
    let h = c.loop-j-test.true in
    (omega (arith, s.requires.0), l.invariant.1, ap (λ (z : List Float). at z l.j) c.loadabilities-load.ensures ∙ get_tab 8 (λ (m : ℕ). loadability_of (at c.eight-2.result.now m)) l.j nan h ∙ ap loadability_of (c.eight-2.ensures l.j h))
