use Rattle.std.proofs.Common.{ℕ, length, get_or, set, sym, refl, ap, ◌∙◌, arith, rules, length-set}
use Rattle.std.proofs.lemmas.List.{length_push}
use Rattle.std.proofs.lemmas.Slice.Zip.{zip_turn, zip_end}
use lib.Ieee.{Float, nan}
use Rattle.loops.proofs.Loops.{iter_more, iter_end}
use Rattle.planning.proofs.Scattering.{scatter_start}
use Rattle.planning.proofs.opening.hand_out.Goals as goal

pub loop-k-init : goal.loop-k-init
loop-k-init c = (omega arith, refl, scatter_start c.args.units.now c.args.out.now _)

pub loop-k-preserved : goal.loop-k-preserved
loop-k-preserved c =
    let z = c.args in
    let l = c.loop-k in
    let t = zip_turn z.units.now z.out.now l.yielded c.into_iter-k-iterator.result l.k-iterator c.next.new.self c.next.result (search rules) (search rules) l.yielded_by (c.in-Some.k, c.in-Some.power) c.in-Some.is c.next.ensures.steps in
    rw (length_push l.yielded (c.in-Some.k, c.in-Some.power)) (
      omega (arith, t.0),
      simp length-set l.invariant.1,
      sym (iter_more _ t.0 (ap (λ (k : ℕ). set l.mw k c.in-Some.power.now) (t.2 0) ∙ ap (λ (x : Float). set l.mw (get_or z.units.now (length l.yielded) 0) x) (t.3 nan))) ∙ l.invariant.2,
    )

pub returns : goal.returns
returns c =
    let z = c.args in
    let l = c.loop-k in
    let e = zip_end z.units.now z.out.now l.yielded c.into_iter-k-iterator.result l.k-iterator c.next.new.self c.next.result (search rules) (search rules) l.yielded_by c.in-None.is c.next.ensures.steps in
    sym (iter_end _ (omega (arith, e, c.requires.1))) ∙ l.invariant.2
