use Prim.Native.Nat.{ℕ, ◌+◌, ◌-◌, ◌*◌}
use mathlib.Core.Path.{◌≡◌, sym, ap, ◌∙◌}
use native.Mathlib.Omega.{arith}
use lib.ListN.{length, take, drop, length-drop}
use lib.Seq.{length-take-le}
use Rattle.std.proofs.Common.{rules}
use Rattle.loops.specs.Figures.{at}
use Rattle.loops.specs.Parts.{part}
use Rattle.loops.proofs.Tab.{tab_of}
use Rattle.angles.proofs.Ends.{hand_zeros, hand_angles}
use Rattle.angles.proofs.operation.hand_out.Goals as goal

pub returns-in-Some : goal.returns-in-Some
returns-in-Some c = hand_zeros _ _ _ _ _ c.requires.0 (c.fill-in-Some.ensures.after (λ y e. e)) _ c.in-Some.ensures c.requires.1 (c.fill.ensures.after (λ y e. e))

pub returns : goal.returns
unfolding part
returns c =
    let a = c.args in
    let e : 3 * a.n + a.n - 3 * a.n ≡ a.n = omega arith in
    let angles = take (3 * a.n + a.n - 3 * a.n) (drop (3 * a.n) a.w.now) in
    let copied = c.fill-2.ensures (at angles) (λ i r h e. search rules) ∙ tab_of (length a.res.now) angles _ (length-take-le (3 * a.n + a.n - 3 * a.n) (drop (3 * a.n) a.w.now) (omega (arith, length-drop (3 * a.n) a.w.now, c.requires.0)) ∙ e ∙ sym c.requires.1) in
    hand_angles _ _ _ a.res.now _ c.requires.0 (c.fill-3.ensures.after (λ y e. e)) c.in_default.ensures (copied ∙ ap (λ (k : ℕ). take k (drop (3 * a.n) a.w.now)) e)
