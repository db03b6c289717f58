use Rattle.std.proofs.Common.{rules, ◌≡◌, Err, ℕ, replicate, sym, ap, ◌∙◌, arith}
use Rattle.loops.specs.Figures.{nought}
use Rattle.plan_defs.specs.Components.{leads}
use Rattle.plan_defs.specs.Dispatch.{serve, dispatch_of}
use Rattle.planning.specs.Opening.{dispatch_case}
use Rattle.planning.proofs.Stages.{stage_start, stage_stopped, stage_going, stage_end}
use Rattle.planning.proofs.opening.dispatch_components.Goals as goal

pub loop-i-init : goal.loop-i-init
unfolding dispatch_of
loop-i-init c =
    let s = c in (
      omega arith,
      c.fill.ensures.len ∙ s.requires.1,
      stage_start (serve (dispatch_case c.args.mode c.args.supply.now.load.now c.args.supply.now.bus.now c.args.supply.now.pmin.now c.args.supply.now.pmax.now c.args.supply.now.c1.now c.args.supply.now.c2.now) c.args.leader.now) (leads c.args.leader.now) _ _ _ ((c.fill.ensures.after (λ y e. e)) ∙ ap (λ (n : ℕ). replicate n nought) s.requires.1),
    )

pub returns-in_err-serve_led : goal.returns-in_err-serve_led
returns-in_err-serve_led c =
    let s = c.args in
    let l = c.loop-i in
    let h : c.from_residual.result ≡ Err c.in_err-serve_led.field-0.0 = search rules in
    rw h (stage_stopped (serve (dispatch_case s.mode s.supply.now.load.now s.supply.now.bus.now s.supply.now.pmin.now s.supply.now.pmax.now s.supply.now.c1.now s.supply.now.c2.now) s.leader.now) (leads s.leader.now) _ l.i (omega arith) l.mw _ c.serve_led.result c.serve_led.ensures _ c.in_err-serve_led.was ∙ l.invariant.2)

pub loop-i-preserved : goal.loop-i-preserved
loop-i-preserved c =
    let s = c in
    let l = c.loop-i in (
      omega arith,
      c.serve_led.auto.mw ∙ l.invariant.1,
      stage_going (serve (dispatch_case s.args.mode s.args.supply.now.load.now s.args.supply.now.bus.now s.args.supply.now.pmin.now s.args.supply.now.pmax.now s.args.supply.now.c1.now s.args.supply.now.c2.now) s.args.leader.now) (leads s.args.leader.now) _ l.i (omega arith) l.mw _ c.serve_led.result c.serve_led.ensures c.in_ok-serve_led.was ∙ l.invariant.2,
    )

pub returns : goal.returns
returns c =
    let s = c in
    sym (stage_end (serve (dispatch_case s.args.mode s.args.supply.now.load.now s.args.supply.now.bus.now s.args.supply.now.pmin.now s.args.supply.now.pmax.now s.args.supply.now.c1.now s.args.supply.now.c2.now) s.args.leader.now) (leads s.args.leader.now) _ c.loop-i.i (omega arith) _) ∙ c.loop-i.invariant.2
