use Prim.Native.Nat.{ℕ, ◌+◌, ◌*◌, ◌≤◌}
use mathlib.Core.Path.{◌≡◌, sym, ap, ◌∙◌}
use native.Mathlib.Omega.{arith}
use native.Mathlib.Nat.{zero-add}
use lib.ListN.{length, length-set}
use lib.Ieee.{nan}
use Rattle.loops.specs.Figures.{at, minus}
use Rattle.loops.specs.Parts.{part}
use Rattle.loops.proofs.Tab.{get_tab}
use Rattle.loops.proofs.Totals.{sum_turn}
use Rattle.angles.proofs.Turns.{product_of}
use Rattle.loops.proofs.Parts.{tab_turn, tab_own, tab_other}
use Rattle.angles_defs.specs.Network.{less}
use Rattle.angles.proofs.Rows.{residual_rows}
use Rattle.angles.proofs.steps.residual.Goals as goal

pub loop-i-preserved : goal.loop-i-preserved
unfolding less
loop-i-preserved c =
    let l = c in
    let s = l in
    let n = s.args.n in
    let w = s.args.w.now in
    let i = l.loop-i.i in
    let t = c.loop-i-test.true in
    let e = l.loop-i.invariant.1 in
    let h : 4 * n + n ≤ length w = omega arith in
    let b : at l.loop-i.w i ≡ at (part 0 n w) i = ap (λ (k : ℕ). at l.loop-i.w k) (sym (zero-add i)) ∙ tab_other _ _ _ _ _ _ nan 0 (omega arith) e h t in
    let r = tab_own _ _ _ _ _ _ nan e h t in
    let v : minus (at l.loop-i.w i) (at l.loop-i.w (4 * n + i)) ≡ minus (at (part 0 n w) i) (at (part (4 * n) n w) i) = rw (b, r) in
    let u = v ∙ sym (get_tab n _ i nan t) in (
      simp length-set l.loop-i.invariant.0,
      tab_turn _ _ _ _ _ _ e (omega arith) v,
      sum_turn _ _ _ _ l.loop-i.invariant.2 (product_of (less n (part 0 n w) (part (4 * n) n w)) (less n (part 0 n w) (part (4 * n) n w)) i _ _ u u),
    )

pub returns : goal.returns
unfolding less
returns c =
    let e : c.loop-i.i ≡ c.args.n = omega arith in
    residual_rows _ _ _ c.requires _ (rw e at c.loop-i.invariant.1) (rw e at c.loop-i.invariant.2)
