use Rattle.std.proofs.Common.{ℕ, length, get_or, set, sym, ap, ◌∙◌, arith, rules, length-set}
use Rattle.std.proofs.lemmas.List.{length_push}
use Rattle.std.proofs.lemmas.Slice.Zip.{zip_turn, zip_end}
use lib.Ieee.{Float, nan}
use Rattle.loops.specs.Figures.{at, plus}
use Rattle.loops.proofs.Loops.{iter_more, iter_end}
use Rattle.planning.proofs.opening.inject.Goals as goal

pub loop-i-preserved : goal.loop-i-preserved
loop-i-preserved c =
    let z = c.args in
    let l = c.loop-i in
    let t = zip_turn z.supply.now.bus.now z.mw.now l.yielded c.into_iter-i-iterator.result l.i-iterator c.next.new.self c.next.result (search rules) (search rules) l.yielded_by (c.in-Some.i, c.in-Some.power) c.in-Some.is c.next.ensures.steps in
    let j = get_or z.supply.now.bus.now (length l.yielded) 0 in
    rw (length_push l.yielded (c.in-Some.i, c.in-Some.power)) (
      omega (arith, t.0),
      simp length-set l.invariant.1,
      sym (iter_more _ t.0 (ap (λ (i : ℕ). set l.injection i (plus (at l.injection i) c.in-Some.power.now)) (t.2 0) ∙ ap (λ (x : Float). set l.injection j (plus (at l.injection j) x)) (t.3 nan))) ∙ l.invariant.2,
    )

pub returns : goal.returns
returns c =
    let z = c.args in
    let l = c.loop-i in
    let e = zip_end z.supply.now.bus.now z.mw.now l.yielded c.into_iter-i-iterator.result l.i-iterator c.next.new.self c.next.result (search rules) (search rules) l.yielded_by c.in-None.is c.next.ensures.steps in
    sym (iter_end _ (omega (arith, e, c.requires))) ∙ l.invariant.2
