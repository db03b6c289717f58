use Rattle.loops.proofs.Loops.{iter_more, iter_end}
use mathlib.Core.Bool.{false}
use mathlib.Core.Path.{sym, ap, ◌∙◌}
use Prim.Native.Nat.{ℕ}
use native.Mathlib.Omega.{arith}
use lib.ListN.{get_or-map}
use Rattle.placement_defs.specs.Distance.{seeded}
use Rattle.placement.specs.Views.{labels_in, flag_of}
use Rattle.placement.proofs.distance.place_sources.Goals as goal

pub loop-i-preserved : goal.loop-i-preserved
loop-i-preserved c =
    let l = c.loop-i in
    let flag = ap (λ (k : ℕ). seeded l.i k (labels_in l.labels)) (sym (get_or-map flag_of c.args.sources.now l.i false)) in
    sym (iter_more _ c.loop-i-test.true (c.place_source.ensures ∙ flag)) ∙ l.invariant

pub returns : goal.returns
returns c = sym (iter_end _ (omega arith)) ∙ c.loop-i.invariant
