use Rattle.std.proofs.Common.{sym, refl, ap, ◌∙◌, arith, rules, eq-eqb, ne_eqb}
use Rattle.std.proofs.lemmas.List.{length_push}
use Rattle.std.proofs.lemmas.Slice.Zip.{zip_turn, zip_end}
use lib.Ieee.{Float, nan}
use Rattle.loops.specs.Figures.{plus}
use Rattle.plan_defs.specs.Components.{within}
use Rattle.planning.proofs.Passing.{each_yes, each_no, each_end}
use Rattle.planning.proofs.opening.demand_of.Goals as goal

pub loop-own-preserved-then-own-root : goal.loop-own-preserved-then-own-root
loop-own-preserved-then-own-root c =
    let z = c.args in
    let l = c.loop-own in
    let t = zip_turn z.leader.now z.load.now l.yielded c.into_iter-own-iterator.result l.own-iterator c.next.new.self c.next.result (search rules) (search rules) l.yielded_by (c.in-Some.own, c.in-Some.power) c.in-Some.is c.next.ensures.steps in
    rw (length_push l.yielded (c.in-Some.own, c.in-Some.power)) (
      omega (arith, t.0),
      sym (each_yes _ (within z.leader.now z.root) t.0 (eq-eqb _ _ (sym (t.2 0) ∙ c.if-own-root.true)) (ap (λ (x : Float). plus l.demand x) (t.3 nan))) ∙ l.invariant.1,
    )

pub loop-own-preserved : goal.loop-own-preserved
loop-own-preserved c =
    let z = c.args in
    let l = c.loop-own in
    let t = zip_turn z.leader.now z.load.now l.yielded c.into_iter-own-iterator.result l.own-iterator c.next.new.self c.next.result (search rules) (search rules) l.yielded_by (c.in-Some.own, c.in-Some.power) c.in-Some.is c.next.ensures.steps in
    rw (length_push l.yielded (c.in-Some.own, c.in-Some.power)) (
      omega (arith, t.0),
      sym (each_no _ (within z.leader.now z.root) t.0 (ne_eqb _ _ (λ e. c.if-own-root.false (t.2 0 ∙ e))) refl) ∙ l.invariant.1,
    )

pub returns : goal.returns
returns c =
    let z = c.args in
    let l = c.loop-own in
    let e = zip_end z.leader.now z.load.now l.yielded c.into_iter-own-iterator.result l.own-iterator c.next.new.self c.next.result (search rules) (search rules) l.yielded_by c.in-None.is c.next.ensures.steps in
    sym (each_end _ (within z.leader.now z.root) (omega (arith, e, c.requires))) ∙ l.invariant.1
