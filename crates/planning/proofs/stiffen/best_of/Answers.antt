use Rattle.std.proofs.Common.{ℕ, Bool, cond, eqb, ◌&&◌, ◌≡◌, length, get_or, sym, refl, ap, ◌∙◌, arith, rules}
use Rattle.loops.specs.Figures.{at}
use Rattle.planning.proofs.Leads.{first_here, best_start, best_turn, best_end, best_below}
use Rattle.planning.proofs.stiffen.best_of.Goals as goal
use Rattle.planning.proofs.stiffen.best_of.Goals.{then-leader-i, else-leader-i}

pub loop-i-init : goal.loop-i-init
loop-i-init g c =
    let s = c in
    let z = s.args in
    let f = first_here z.leader.now z.root s.requires.led.here s.requires.led.leads in
    (omega (arith, f, c.first_of-best.ensures), omega (arith, f, c.first_of-best.ensures), λ p q h l. best_start z.leader.now z.root h l (λ (i best : ℕ). cond (p (at z.angle.now best) (at z.angle.now i)) i best) _ c.first_of-best.ensures)

pub loop-i-preserved : goal.loop-i-preserved
loop-i-preserved g c =
    let s = c in
    let z = s.args in
    let l = c.loop-i in
    let h = c.loop-i-test.true in
    let own : c.if-leader-i.best ≡ cond (eqb (get_or z.leader.now l.i 0) z.root && c.better.result) l.i l.best =
    elim c.if-leader-i.branch [
      | then-leader-i w ↦ w.best-is ∙ sym (ap (λ (b : Bool). cond b l.i l.best) w.if-leader-i.true)
      | else-leader-i w ↦ w.best-is ∙ sym (ap (λ (b : Bool). cond b l.i l.best) w.if-leader-i.false)
    ] in (
      best_below _ z.root l.i l.best _ (length z.leader.now) _ own h l.invariant.0,
      omega (arith, h),
      λ p q r e. best_turn z.leader.now z.root r e (λ (i best : ℕ). cond (p (at z.angle.now best) (at z.angle.now i)) i best) l.i l.best _ _ _ h refl own (search rules) ∙ l.invariant.2 p q r e,
    )

pub returns : goal.returns
returns g c =
    let s = c in
    let z = s.args in
    let l = c.loop-i in
    record {
      bus = l.invariant.0;
      best = λ p q. sym (best_end z.leader.now z.root s.requires.led.here s.requires.led.leads (λ (i best : ℕ). cond (p (at z.angle.now best) (at z.angle.now i)) i best) l.i l.best c.loop-i-test.false) ∙ l.invariant.2 p q s.requires.led.here s.requires.led.leads;
    }

pub overflow_step-i : goal.overflow_step-i
overflow_step-i g c =
    record { fits = omega (arith, first_here c.args.leader.now c.args.root c.requires.led.here c.requires.led.leads, c.first_of-best.ensures, c.well_formed) }
