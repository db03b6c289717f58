use Rattle.std.proofs.Common.{ℕ, ◌-◌, length, refl, ap, ◌∙◌, arith, length-set}
use Rattle.loops.proofs.Tab.{fill_start, fill_turn, fill_end, fill_own}
use Rattle.planning.proofs.Closings.{tab_map}
use Rattle.planning.proofs.close.shift_back.Goals as goal

pub loop-own-init : goal.loop-own-init
loop-own-init c = (omega arith, refl, fill_start _ _)

pub loop-own-preserved : goal.loop-own-preserved
loop-own-preserved c =
    let s = c.args in
    let l = c.loop-own in
    (omega arith, length-set l.level l.own-index _ ∙ l.invariant.1, fill_turn _ _ _ _ _ l.invariant.2 (omega arith) (ap (λ (n : ℕ). n - s.unused) (fill_own _ _ _ _ 0 l.invariant.2 (omega arith))))

pub returns : goal.returns
returns c =
    let s = c.args in
    let l = c.loop-own in
    fill_end _ _ _ _ (length s.level.now) refl (omega arith) l.invariant.2 ∙ tab_map (λ (n : ℕ). n - s.unused) s.level.now
