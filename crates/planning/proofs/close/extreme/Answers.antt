use Rattle.std.proofs.Common.{◌≡◌, Bool, cond, eqb, length, get_or, eq-eqb, ne_eqb, sym, ap, ◌∙◌, arith, rules}
use Rattle.std.proofs.lemmas.List.{length_push}
use Rattle.std.proofs.lemmas.Slice.Zip.{zip_turn, zip_end}
use lib.Ieee.{nan}
use Rattle.loops.specs.Figures.{at}
use Rattle.loops.proofs.Loops.{iter_all, iter_more, iter_end}
use Rattle.planning.proofs.Closings.{picking_is}
use Rattle.planning.proofs.close.extreme.Goals as goal

pub loop-own-init : goal.loop-own-init
loop-own-init g c = let s = c.args in (omega arith, λ f h. iter_all _ _ _ ∙ picking_is s.leader.now s.angle.now f s.root s.start)

pub loop-own-preserved-then-own-root : goal.loop-own-preserved-then-own-root
loop-own-preserved-then-own-root g c =
    let z = c.args in
    let l = c.loop-own in
    let k = length l.yielded in
    let t = zip_turn z.leader.now z.angle.now l.yielded c.into_iter-own-iterator.result l.own-iterator c.next.new.self c.next.result (search rules) (search rules) l.yielded_by (c.in-Some.own, c.in-Some.theta) c.in-Some.is c.next.ensures.steps in
    rw (length_push l.yielded (c.in-Some.own, c.in-Some.theta)) (
      omega (arith, t.0),
      λ f h.
          let here : cond (eqb (get_or z.leader.now k 0) z.root) (f l.most (at z.angle.now k)) l.most ≡ c.pick-most.result =
          ap (λ (b : Bool). cond b (f l.most (at z.angle.now k)) l.most) (eq-eqb _ _ (sym (t.2 0) ∙ c.if-own-root.true))
          ∙ ap (f l.most) (sym (t.3 nan)) ∙ sym (h _ _ _ c.pick-most.ensures) in
          sym (iter_more _ t.0 (sym here)) ∙ l.invariant.1 f h,
    )

pub loop-own-preserved : goal.loop-own-preserved
loop-own-preserved g c =
    let z = c.args in
    let l = c.loop-own in
    let k = length l.yielded in
    let t = zip_turn z.leader.now z.angle.now l.yielded c.into_iter-own-iterator.result l.own-iterator c.next.new.self c.next.result (search rules) (search rules) l.yielded_by (c.in-Some.own, c.in-Some.theta) c.in-Some.is c.next.ensures.steps in
    rw (length_push l.yielded (c.in-Some.own, c.in-Some.theta)) (
      omega (arith, t.0),
      λ f h.
          let here : cond (eqb (get_or z.leader.now k 0) z.root) (f l.most (at z.angle.now k)) l.most ≡ l.most =
          ap (λ (b : Bool). cond b (f l.most (at z.angle.now k)) l.most) (ne_eqb _ _ (λ e. c.if-own-root.false (t.2 0 ∙ e))) in
          sym (iter_more _ t.0 (sym here)) ∙ l.invariant.1 f h,
    )

pub returns : goal.returns
returns g c =
    let z = c.args in
    let l = c.loop-own in
    let e = zip_end z.leader.now z.angle.now l.yielded c.into_iter-own-iterator.result l.own-iterator c.next.new.self c.next.result (search rules) (search rules) l.yielded_by c.in-None.is c.next.ensures.steps in
    λ f h. sym (iter_end _ (omega (arith, e, c.requires.angle_len))) ∙ l.invariant.1 f h
