use Rattle.std.proofs.Common.{ℕ, length, get_or, ap, ◌∙◌, le_antisymm, arith}
use lib.Ieee.{Float}
use Rattle.loops.specs.Figures.{float, at, times}
use Rattle.loops.specs.Loops.{tab}
use Rattle.plan_defs.specs.Design.{drawn}
use Rattle.plan_defs.specs.Solve.{susceptance}
use Rattle.plan_defs.specs.declared.CircuitDesign.{CircuitDesign}
use Rattle.planning.specs.Design.{lines_for}
use Rattle.planning.specs.Tables.{grid_in}
use Rattle.planning.proofs.Solving.{tab_more, edges_are, drawn_from_below, drawn_to_below}
use Rattle.planning.proofs.States.{joined}
use Rattle.planning.proofs.solve.draw_edges.Goals as goal

pub loop-k-init : goal.loop-k-init
unfolding tab
loop-k-init c = (omega arith, (ap length c.new-from.ensures, ap length c.new-to.ensures, ap length c.new-weight.ensures), c.new-from.ensures, c.new-to.ensures, c.new-weight.ensures)

pub overflow_cast-d : goal.overflow_cast-d
overflow_cast-d c =
    let s = c.args in
    omega (arith, ap (λ (d : CircuitDesign). d.from) c.circuit-d.ensures, c.requires.few_buses, drawn_from_below (grid_in s.grid.now) s.level.now c.loop-k.k (at s.banks.now c.loop-k.k) c.requires.lines (omega arith))

pub overflow_cast-d-in-loop-k : goal.overflow_cast-d-in-loop-k
overflow_cast-d-in-loop-k c =
    let s = c.args in
    omega (arith, ap (λ (d : CircuitDesign). d.to) c.circuit-d.ensures, c.requires.few_buses, drawn_to_below (grid_in s.grid.now) s.level.now c.loop-k.k (at s.banks.now c.loop-k.k) c.requires.lines (omega arith))

pub loop-k-preserved : goal.loop-k-preserved
loop-k-preserved c =
    let l = c.loop-k in
    let d = c.circuit-d.ensures in (
      omega arith,
      (omega (arith, c.push.ensures.len), omega (arith, c.push-in-loop-k.ensures.len), omega (arith, c.push-in-loop-k-2.ensures.len)),
      tab_more _ l.k l.from.items _ _ c.push.ensures.items l.invariant.2 (ap (λ (x : CircuitDesign). x.from) d),
      tab_more _ l.k l.to.items _ _ c.push-in-loop-k.ensures.items l.invariant.3 (ap (λ (x : CircuitDesign). x.to) d),
      tab_more _ l.k l.weight.items _ _ c.push-in-loop-k-2.ensures.items l.invariant.4
          (ap (λ (x : Float). times x (float (get_or c.args.circuits.now l.k 0))) (c.susceptance.ensures ∙ ap (λ (x : CircuitDesign). susceptance x) d)),
    )

pub invariant_of-result : goal.invariant_of-result
invariant_of-result c =
    let s = c.args in
    let l = c.loop-k in
    let design : ℕ → CircuitDesign = λ i. drawn (lines_for (grid_in s.grid.now)) s.level.now i (at s.banks.now i) in
    let weighed : ℕ → Float = λ i. times (susceptance (design i)) (float (get_or s.circuits.now i 0)) in
    let all = le_antisymm l.invariant.0 c.loop-k-test.false in
    record {
      joined = joined (grid_in s.grid.now) s.level.now s.circuits.now s.banks.now c.requires _ _ _ weighed
          (l.invariant.2 ∙ ap (λ (n : ℕ). tab n (λ i. (design i).from)) all) (l.invariant.3 ∙ ap (λ (n : ℕ). tab n (λ i. (design i).to)) all) (l.invariant.4 ∙ ap (λ (n : ℕ). tab n weighed) all);
    }

pub returns-clause-edges : goal.returns-clause-edges
returns-clause-edges c =
    let s = c.args in
    let l = c.loop-k in
    let design : ℕ → CircuitDesign = λ i. drawn (lines_for (grid_in s.grid.now)) s.level.now i (at s.banks.now i) in
    let weighed : ℕ → Float = λ i. times (susceptance (design i)) (float (get_or s.circuits.now i 0)) in
    let all = le_antisymm l.invariant.0 c.loop-k-test.false in
    edges_are (lines_for (grid_in s.grid.now)) s.level.now s.banks.now s.circuits.now _ _ _
    (l.invariant.2 ∙ ap (λ (n : ℕ). tab n (λ i. (design i).from)) all) (l.invariant.3 ∙ ap (λ (n : ℕ). tab n (λ i. (design i).to)) all) (l.invariant.4 ∙ ap (λ (n : ℕ). tab n weighed) all)
