use Rattle.std.proofs.Common.{rules, ◌≡◌, Err, sym, ◌∙◌}
use Rattle.planning.proofs.Openings.{opens_refused, opens_going}
use Rattle.planning.proofs.plan.open.Goals as goal

pub returns-in_err-dispatch_components : goal.returns-in_err-dispatch_components
returns-in_err-dispatch_components c =
    let h : c.from_residual.result ≡ Err c.in_err-dispatch_components.field-0.0 = search rules in
    rw h (record { opens = λ o target s. opens_refused _ target s _ c.component_leaders.ensures c.dispatch_components.result _ c.dispatch_components.ensures _ c.in_err-dispatch_components.was })

pub returns : goal.returns
returns c =
    let h = c.requires in
    let g = c.ground_components-count.ensures in
    record {
      opens = λ o target s.
          opens_going _ target s _ c.component_leaders.ensures c.dispatch_components.result _ c.dispatch_components.ensures c.in_ok-dispatch_components.was _ _ _ _ _
          (c.component_leaders.auto.leader ∙ h.leader_size ∙ sym h.sound.tier_size) g.count g.held c.injections.ensures c.first_levels.ensures c.lower_bounds.ensures;
    }
