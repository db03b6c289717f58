-- The check's refusals touch nothing; what passes it is a sound case, of which the stages lead to the defined plan, and the slices are cleared as the definition
-- has them. Demand 3 is a theorem of the defined plan.
use Rattle.std.proofs.Common.{ℕ, ◌≡◌, Bool, List, Err, length, sym, refl, ap, ◌∙◌, rules}
use Rattle.loads.proofs.One.{loads_lent, loads_room}
use Rattle.plan_defs.specs.Case.{surveyed, promote}
use Rattle.plan_defs.specs.Outcome.{slices, slices_ok, kept_if}
use Rattle.acceptance.specs.Check.{check_of}
use Rattle.acceptance.proofs.Callers.{tables_of_lem}
use Rattle.planning.proofs.Sounds.{checked}
use Rattle.planning.proofs.Operation.{ends_unaccepted, lendable_by, supplied_by, kept_fits, caps_fit, buses_fit, ends_refused, ends_answered}
use Rattle.planning.proofs.plan_corridors.Goals as goal

pub returns-in_err-check_case-clause-plan : goal.returns-in_err-check_case-clause-plan
returns-in_err-check_case-clause-plan c =
    let z = c.args in
    let case = surveyed z.mode z.n z.m z.g z.above z.requested z.ladder.now z.tier.now z.reading.now z.weight.now z.bus.now z.slack.now z.pmin.now z.pmax.now z.c1.now z.c2.now z.a.now z.b.now z.initial.now z.km.now z.share.now z.cap.now z.sheet.now in
    let lent = slices z.circuits.now z.flow.now z.rate.now z.before.now z.order.now z.kept_cap.now z.mw.now z.angle.now z.final_tier.now z.ground.now z.added.now z.figures.now z.counts.now in
    let answer : c.check_case.result ≡ check_of (slices_ok case lent) (tables_of_lem case) z.target = checked case z.target lent _ _ c.places_ok-fits.ensures c.check_case.ensures in
    let h : c.from_residual.result ≡ Err c.in_err-check_case.field-0.0 = search rules in
    rw h ((ends_unaccepted case z.target lent (λ e k l. c.type_inv.pmin k) _ (sym c.in_err-check_case.was ∙ answer)).0)

pub slice_bounds-supply-end : goal.slice_bounds-supply-end
slice_bounds-supply-end c =
    let z = c.args in
    let case = surveyed z.mode z.n z.m z.g z.above z.requested z.ladder.now z.tier.now z.reading.now z.weight.now z.bus.now z.slack.now z.pmin.now z.pmax.now z.c1.now z.c2.now z.a.now z.b.now z.initial.now z.km.now z.share.now z.cap.now z.sheet.now in
    let lent = slices z.circuits.now z.flow.now z.rate.now z.before.now z.order.now z.kept_cap.now z.mw.now z.angle.now z.final_tier.now z.ground.now z.added.now z.figures.now z.counts.now in
    let answer : c.check_case.result ≡ check_of (slices_ok case lent) (tables_of_lem case) z.target = checked case z.target lent _ _ c.places_ok-fits.ensures c.check_case.ensures in
    let q = c.in_ok-check_case.was in
    loads_room z.n case.reading case.weight _ c.weigh-load.ensures (buses_fit case z.target lent c.check_case.result answer q)

pub invariant_of-supply : goal.invariant_of-supply
invariant_of-supply c =
    let z = c.args in
    let case = surveyed z.mode z.n z.m z.g z.above z.requested z.ladder.now z.tier.now z.reading.now z.weight.now z.bus.now z.slack.now z.pmin.now z.pmax.now z.c1.now z.c2.now z.a.now z.b.now z.initial.now z.km.now z.share.now z.cap.now z.sheet.now in
    let lent = slices z.circuits.now z.flow.now z.rate.now z.before.now z.order.now z.kept_cap.now z.mw.now z.angle.now z.final_tier.now z.ground.now z.added.now z.figures.now z.counts.now in
    let answer : c.check_case.result ≡ check_of (slices_ok case lent) (tables_of_lem case) z.target = checked case z.target lent _ _ c.places_ok-fits.ensures c.check_case.ensures in
    let q = c.in_ok-check_case.was in
    record { supplied = supplied_by case z.target lent (sym q ∙ answer) _ (loads_lent z.n case.reading case.weight _ c.weigh-load.ensures (buses_fit case z.target lent c.check_case.result answer q)) }

pub run-requires : goal.run-requires
run-requires c =
    let z = c.args in
    let case = surveyed z.mode z.n z.m z.g z.above z.requested z.ladder.now z.tier.now z.reading.now z.weight.now z.bus.now z.slack.now z.pmin.now z.pmax.now z.c1.now z.c2.now z.a.now z.b.now z.initial.now z.km.now z.share.now z.cap.now z.sheet.now in
    let lent = slices z.circuits.now z.flow.now z.rate.now z.before.now z.order.now z.kept_cap.now z.mw.now z.angle.now z.final_tier.now z.ground.now z.added.now z.figures.now z.counts.now in
    let answer : c.check_case.result ≡ check_of (slices_ok case lent) (tables_of_lem case) z.target = checked case z.target lent _ _ c.places_ok-fits.ensures c.check_case.ensures in
    let q = c.in_ok-check_case.was in
    lendable_by case z.target lent (sym q ∙ answer) z.sheet.now refl refl _
    (loads_lent z.n case.reading case.weight _ c.weigh-load.ensures (buses_fit case z.target lent c.check_case.result answer q))

pub keep_if-requires : goal.keep_if-requires
keep_if-requires c =
    let z = c.args in
    let case = surveyed z.mode z.n z.m z.g z.above z.requested z.ladder.now z.tier.now z.reading.now z.weight.now z.bus.now z.slack.now z.pmin.now z.pmax.now z.c1.now z.c2.now z.a.now z.b.now z.initial.now z.km.now z.share.now z.cap.now z.sheet.now in
    let lent = slices z.circuits.now z.flow.now z.rate.now z.before.now z.order.now z.kept_cap.now z.mw.now z.angle.now z.final_tier.now z.ground.now z.added.now z.figures.now z.counts.now in
    let answer : c.check_case.result ≡ check_of (slices_ok case lent) (tables_of_lem case) z.target = checked case z.target lent _ _ c.places_ok-fits.ensures c.check_case.ensures in
    let q = c.in_ok-check_case.was in
    let v = c.run in
    let left = slices v.new.circuits v.new.flow v.new.rate z.before.now z.order.now z.kept_cap.now v.new.mw v.new.angle v.new.level v.new.ground v.new.added v.new.figures v.new.counts in
    ap length c.deref.ensures.0
    ∙ (kept_fits case z.target lent c.check_case.result answer q z.sheet.now refl refl (λ e k l. c.type_inv.pmin k) v.result left
    _ (loads_lent z.n case.reading case.weight _ c.weigh-load.ensures (buses_fit case z.target lent c.check_case.result answer q)) v.ensures v.auto.figures v.auto.counts c.in-Ok.ran c.in-Ok.is).0

pub keep_if-requires-in-Ok : goal.keep_if-requires-in-Ok
keep_if-requires-in-Ok c =
    let z = c.args in
    let case = surveyed z.mode z.n z.m z.g z.above z.requested z.ladder.now z.tier.now z.reading.now z.weight.now z.bus.now z.slack.now z.pmin.now z.pmax.now z.c1.now z.c2.now z.a.now z.b.now z.initial.now z.km.now z.share.now z.cap.now z.sheet.now in
    let lent = slices z.circuits.now z.flow.now z.rate.now z.before.now z.order.now z.kept_cap.now z.mw.now z.angle.now z.final_tier.now z.ground.now z.added.now z.figures.now z.counts.now in
    let answer : c.check_case.result ≡ check_of (slices_ok case lent) (tables_of_lem case) z.target = checked case z.target lent _ _ c.places_ok-fits.ensures c.check_case.ensures in
    let q = c.in_ok-check_case.was in
    let v = c.run in
    let left = slices v.new.circuits v.new.flow v.new.rate z.before.now z.order.now z.kept_cap.now v.new.mw v.new.angle v.new.level v.new.ground v.new.added v.new.figures v.new.counts in
    ap length c.deref-in-Ok.ensures.0
    ∙ (kept_fits case z.target lent c.check_case.result answer q z.sheet.now refl refl (λ e k l. c.type_inv.pmin k) v.result left
    _ (loads_lent z.n case.reading case.weight _ c.weigh-load.ensures (buses_fit case z.target lent c.check_case.result answer q)) v.ensures v.auto.figures v.auto.counts c.in-Ok.ran c.in-Ok.is).1

pub copy_from_slice-requires : goal.copy_from_slice-requires
copy_from_slice-requires c =
    let z = c.args in
    let case = surveyed z.mode z.n z.m z.g z.above z.requested z.ladder.now z.tier.now z.reading.now z.weight.now z.bus.now z.slack.now z.pmin.now z.pmax.now z.c1.now z.c2.now z.a.now z.b.now z.initial.now z.km.now z.share.now z.cap.now z.sheet.now in
    let lent = slices z.circuits.now z.flow.now z.rate.now z.before.now z.order.now z.kept_cap.now z.mw.now z.angle.now z.final_tier.now z.ground.now z.added.now z.figures.now z.counts.now in
    let answer : c.check_case.result ≡ check_of (slices_ok case lent) (tables_of_lem case) z.target = checked case z.target lent _ _ c.places_ok-fits.ensures c.check_case.ensures in
    let q = c.in_ok-check_case.was in
    caps_fit case z.target lent c.check_case.result answer q

pub returns-in-Ok : goal.returns-in-Ok
returns-in-Ok c =
    let z = c.args in
    let case = surveyed z.mode z.n z.m z.g z.above z.requested z.ladder.now z.tier.now z.reading.now z.weight.now z.bus.now z.slack.now z.pmin.now z.pmax.now z.c1.now z.c2.now z.a.now z.b.now z.initial.now z.km.now z.share.now z.cap.now z.sheet.now in
    let lent = slices z.circuits.now z.flow.now z.rate.now z.before.now z.order.now z.kept_cap.now z.mw.now z.angle.now z.final_tier.now z.ground.now z.added.now z.figures.now z.counts.now in
    let answer : c.check_case.result ≡ check_of (slices_ok case lent) (tables_of_lem case) z.target = checked case z.target lent _ _ c.places_ok-fits.ensures c.check_case.ensures in
    let q = c.in_ok-check_case.was in
    let v = c.run in
    let left = slices v.new.circuits v.new.flow v.new.rate z.before.now z.order.now z.kept_cap.now v.new.mw v.new.angle v.new.level v.new.ground v.new.added v.new.figures v.new.counts in
    let y = c.in-Ok in
    let fills : (l k x : List ℕ) → k ≡ x → kept_if c.promotes-fills.result (length l) k ≡ kept_if (promote z.mode) (length l) x =
    λ l k x e. ap (λ (b : Bool). kept_if b (length l) k) c.promotes-fills.ensures ∙ ap (kept_if (promote z.mode) (length l)) e in
    let both = ends_answered case z.target lent c.check_case.result answer q z.sheet.now refl refl (λ e k l. c.type_inv.pmin k) v.result left
    _ (loads_lent z.n case.reading case.weight _ c.weigh-load.ensures (buses_fit case z.target lent c.check_case.result answer q)) v.ensures v.auto.figures v.auto.counts y.ran y.is _ _ _ _ _
    (c.keep_if.ensures ∙ fills z.before.now _ _ c.deref.ensures.0) (c.keep_if-in-Ok.ensures ∙ fills z.order.now _ _ c.deref-in-Ok.ensures.0) c.copy_from_slice.ensures.after
    (c.fill.ensures.after (λ y e. e)) (c.fill-in-Ok.ensures.after (λ y e. e)) in
    record { plan = both.0; demand = both.1 }

pub returns-in-Err : goal.returns-in-Err
returns-in-Err c =
    let z = c.args in
    let case = surveyed z.mode z.n z.m z.g z.above z.requested z.ladder.now z.tier.now z.reading.now z.weight.now z.bus.now z.slack.now z.pmin.now z.pmax.now z.c1.now z.c2.now z.a.now z.b.now z.initial.now z.km.now z.share.now z.cap.now z.sheet.now in
    let lent = slices z.circuits.now z.flow.now z.rate.now z.before.now z.order.now z.kept_cap.now z.mw.now z.angle.now z.final_tier.now z.ground.now z.added.now z.figures.now z.counts.now in
    let answer : c.check_case.result ≡ check_of (slices_ok case lent) (tables_of_lem case) z.target = checked case z.target lent _ _ c.places_ok-fits.ensures c.check_case.ensures in
    let q = c.in_ok-check_case.was in
    let v = c.run in
    let left = slices v.new.circuits v.new.flow v.new.rate z.before.now z.order.now z.kept_cap.now v.new.mw v.new.angle v.new.level v.new.ground v.new.added v.new.figures v.new.counts in
    let both = ends_refused case z.target lent c.check_case.result answer q z.sheet.now refl refl (λ e k l. c.type_inv.pmin k) v.result left
    _ (loads_lent z.n case.reading case.weight _ c.weigh-load.ensures (buses_fit case z.target lent c.check_case.result answer q)) v.ensures v.auto.figures v.auto.counts c.in-Err.f c.in-Err.is
    v.auto.circuits v.auto.flow v.auto.rate refl refl refl v.auto.mw v.auto.angle v.auto.level v.auto.ground v.auto.added _ c.clear.ensures in
    record { plan = both.0; demand = both.1 }
