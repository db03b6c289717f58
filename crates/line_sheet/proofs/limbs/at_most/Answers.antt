use Rattle.std.proofs.Common.{refl, arith, rules, length, sym, ◌∙◌}
use Rattle.std.proofs.lemmas.List.{length_push}
use Rattle.std.proofs.lemmas.Slice.Zip.{zip_turn}
use Rattle.line_sheet.proofs.Worths.{differ, agree, worth_none}
use Rattle.line_sheet.proofs.limbs.at_most.Goals as goal

pub loop-x-init : goal.loop-x-init
loop-x-init c = (omega arith, rw (worth_none c.args.a.limbs, worth_none c.args.b.limbs) refl)

pub loop-x-preserved-then-x-y : goal.loop-x-preserved-then-x-y
loop-x-preserved-then-x-y c =
    let k = length c.loop-x.yielded in
    let t = zip_turn c.args.a.limbs c.args.b.limbs c.loop-x.yielded c.into_iter-x-iterator.result c.loop-x.x-iterator c.next.new.self c.next.result (search rules) (search rules) c.loop-x.yielded_by (c.in-Some.x, c.in-Some.y) c.in-Some.is c.next.ensures.steps in
    rw (length_push c.loop-x.yielded (c.in-Some.x, c.in-Some.y))
    (differ c.args.a.limbs c.args.b.limbs _ k (let inside = t.0 in search rules) c.args.a.fit c.args.b.fit (λ e. c.if-x-y.true (t.2 0 ∙ e ∙ sym (t.3 0))) (rw (t.2 0, t.3 0) refl))

pub loop-x-preserved : goal.loop-x-preserved
loop-x-preserved c =
    let k = length c.loop-x.yielded in
    let t = zip_turn c.args.a.limbs c.args.b.limbs c.loop-x.yielded c.into_iter-x-iterator.result c.loop-x.x-iterator c.next.new.self c.next.result (search rules) (search rules) c.loop-x.yielded_by (c.in-Some.x, c.in-Some.y) c.in-Some.is c.next.ensures.steps in
    rw (length_push c.loop-x.yielded (c.in-Some.x, c.in-Some.y))
    (agree c.args.a.limbs c.args.b.limbs c.loop-x.r _ k (let inside = t.0 in search rules) (sym (t.2 0) ∙ c.if-x-y.false ∙ t.3 0) refl c.loop-x.invariant)
