-- A mode that does not promote fills nothing; else the turns from the counts' sum are the defined ones.
use Rattle.std.proofs.Common.{ℕ, sym, ap, ◌∙◌}
use Rattle.plan_defs.specs.Case.{full_of}
use Rattle.plan_defs.specs.Fill.{Filled, fill_rounds, fill_turns}
use Rattle.planning.specs.Fill.{filled_as}
use Rattle.planning.proofs.Fillings.{tally, fill_not, fill_all}
use Rattle.planning.proofs.fill.fill.Goals as goal

pub returns-then-not-promotes : goal.returns-then-not-promotes
returns-then-not-promotes c =
    let z = c.args in
    let e = fill_not z.mode z.cap.now z.target z.order.now z.circuits.now (sym c.promotes.ensures ∙ c.if-not-promotes.true) in
    record { circuits = ap (λ (f : Filled). f.counts) e; filler = ap (λ (f : Filled). f.filler) e }

pub returns : goal.returns
returns c =
    let z = c.args in
    let e = c.fill_rounds-t.ensures
    ∙ ap (λ (n : ℕ). fill_rounds fill_turns (full_of z.cap.now) z.target z.order.now (filled_as z.circuits.now (tally n 0))) c.total.ensures
    ∙ fill_all z.mode z.cap.now z.target z.order.now z.circuits.now (sym c.promotes.ensures ∙ c.if-not-promotes.false) in
    record { circuits = ap (λ (f : Filled). f.counts) e; filler = ap (λ (f : Filled). f.filler) e }
