use Rattle.std.proofs.Common.{◌+◌, ◌≤◌, ◌++◌, List, ℕ, length, length-append, get_or, sym, ap, subst, ◌∙◌}
use Rattle.std.proofs.lemmas.Iterator.{YieldsList-from_slice, YieldsList-from_zip}
use Rattle.std.proofs.lemmas.Iterator.Consumers.{YieldsList-from_enumerate, YieldsList-turn}
use Rattle.loops.specs.Figures.{at}
use Rattle.listing_defs.specs.Lines.{lines, corridor_line, most_text}
use Rattle.listing.proofs.Texts.{none_put, line_room, one_more}
use Rattle.listing.proofs.Turns.{corridor_turn}
use Rattle.listing.proofs.text.Text.put_corridors.Goals as goal

pub loop-i-init : goal.loop-i-init
loop-i-init c = none_put c.args.self.now _

pub put_line-requires : goal.put_line-requires
unfolding corridor_line
put_line-requires c =
    let l = c.loop-i in
    let a = c.args in
    let y = YieldsList-turn {s = c.into_iter-i-iterator.result} (YieldsList-from_enumerate (YieldsList-from_zip (YieldsList-from_zip (YieldsList-from_slice a.circuits.now cc) (YieldsList-from_slice a.flow.now cc)) (YieldsList-from_slice a.rate.now cc)) cc) l.yielded l.i-iterator l.yielded_by c.next.result c.next.new.self _ c.in-Some.is c.next.ensures.steps in
    let t = corridor_turn a.circuits.now a.flow.now a.rate.now (length l.yielded) c.in-Some.i c.in-Some.circuits.now c.in-Some.flow.now c.in-Some.rate.now y.0 y.1 in
    subst (λ (x : List ℕ). length l.self + length x ≤ most_text) (sym t.1)
    (line_room a.self.now (λ i. corridor_line i (get_or a.circuits.now i 0) (at a.flow.now i) (at a.rate.now i)) (length l.yielded) (length a.circuits.now) l.invariant t.0 c.requires.room)

pub loop-i-preserved : goal.loop-i-preserved
unfolding corridor_line
loop-i-preserved c =
    let l = c.loop-i in
    let a = c.args in
    let y = YieldsList-turn {s = c.into_iter-i-iterator.result} (YieldsList-from_enumerate (YieldsList-from_zip (YieldsList-from_zip (YieldsList-from_slice a.circuits.now cc) (YieldsList-from_slice a.flow.now cc)) (YieldsList-from_slice a.rate.now cc)) cc) l.yielded l.i-iterator l.yielded_by c.next.result c.next.new.self _ c.in-Some.is c.next.ensures.steps in
    let t = corridor_turn a.circuits.now a.flow.now a.rate.now (length l.yielded) c.in-Some.i c.in-Some.circuits.now c.in-Some.flow.now c.in-Some.rate.now y.0 y.1 in
    one_more a.self.now (λ i. corridor_line i (get_or a.circuits.now i 0) (at a.flow.now i) (at a.rate.now i)) (length l.yielded) l.invariant (c.put_line.ensures ∙ ap (λ (x : List ℕ). l.self ++ x) t.1)
    ∙ ap (λ (k : ℕ). a.self.now ++ lines (λ i. corridor_line i (get_or a.circuits.now i 0) (at a.flow.now i) (at a.rate.now i)) k) (sym (length-append l.yielded _))
