use Rattle.std.proofs.Common.{◌≡◌, Err, refl, sym, ◌∙◌, rules}
use Rattle.refusal.specs.declared.Refusal.TheVariants.{Cost}
use Rattle.refusal.specs.Number.{index_of}
use Rattle.planning.proofs.Mapped.{mapped_answer, mapped_refusal}
use Rattle.planning.proofs.ToppingUp.{gives_refused, gives_plain, gives_topped}
use Rattle.planning.proofs.top_up.give.Goals as goal

pub returns-in_err-map_err : goal.returns-in_err-map_err
returns-in_err-map_err c =
    let h : c.from_residual.result ≡ Err c.in_err-map_err.field-0.0 = search rules in
    let m = mapped_refusal _ _ _ c.map_err.ensures.cases _ c.in_err-map_err.was in
    let p = m.2 in
    let e : c.in_err-map_err.field-0.0 ≡ Cost (index_of m.0) = search rules in
    rw (h, e) (gives_refused _ _ _ _ c.requires c.economic_dispatch.result _ c.economic_dispatch.ensures _ _ m.1 _ refl)

pub returns-else-tops_up : goal.returns-else-tops_up
returns-else-tops_up c =
    gives_plain _ _ _ _ c.requires c.economic_dispatch.result _ c.economic_dispatch.ensures _ (mapped_answer _ _ _ c.map_err.ensures.cases _ c.in_ok-map_err.was) (sym c.tops_up.ensures ∙ c.if-tops_up.false)

pub returns-then-tops_up : goal.returns-then-tops_up
returns-then-tops_up c =
    gives_topped _ _ _ _ c.requires c.economic_dispatch.result _ c.economic_dispatch.ensures _ (mapped_answer _ _ _ c.map_err.ensures.cases _ c.in_ok-map_err.was) (sym c.tops_up.ensures ∙ c.if-tops_up.true)
    _ c.top_up.ensures
