use Rattle.std.proofs.Common.{ℕ, ◌+◌, ◌-◌, List, [], ◌∷◌, ◌++◌, length, sym, ap, ◌∙◌, append_assoc, append-nil, length-append, arith, eq-eqb, ne_eqb}
use Rattle.plan_defs.specs.Lists.{pass_from}
use Rattle.plan_defs.specs.Components.{unit_within}
use Rattle.planning.specs.Opening.{bus_case}
use Rattle.planning.proofs.Passing.{pass_yes, pass_no, pass_end}
use Rattle.planning.proofs.opening.units_in.Goals as goal
use Rattle.planning.proofs.opening.units_in.Goals.{then-leader-i, else-leader-i}

pub loop-k-preserved : goal.loop-k-preserved
loop-k-preserved c =
    let l = c.loop-k in
    let p = unit_within (bus_case c.args.supply.now.bus.now) c.args.leader.now c.args.root in
    let left : List ℕ = pass_from p (length c.args.supply.now.bus.now - (l.k + 1)) (l.k + 1) in
    elim c.if-leader-i.branch [
      | then-leader-i w ↦
          let e = w.push.ensures.items in
          rw w.units-is (
            omega arith,
            omega (arith, ap length e, length-append {A = ℕ}),
            ap (λ (x : List ℕ). x ++ left) e ∙ append_assoc l.units.items (l.k ∷ []) left
                ∙ ap (λ (x : List ℕ). l.units.items ++ x) (sym (pass_yes p (omega arith) (eq-eqb _ _ w.if-leader-i.true))) ∙ l.invariant.2,
          )
      | else-leader-i w ↦ rw w.units-is (
        omega arith,
        omega arith,
        ap (λ (x : List ℕ). l.units.items ++ x) (sym (pass_no p (omega arith) (ne_eqb _ _ w.if-leader-i.false))) ∙ l.invariant.2,
      )
    ]

pub returns : goal.returns
returns c =
    let l = c.loop-k in
    let p = unit_within (bus_case c.args.supply.now.bus.now) c.args.leader.now c.args.root in
    sym (append-nil l.units.items) ∙ ap (λ (x : List ℕ). l.units.items ++ x) (sym (pass_end p (omega arith))) ∙ l.invariant.2
