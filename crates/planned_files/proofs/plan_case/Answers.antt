use mathlib.Core.Path.{ap, ◌∙◌}
use native.Mathlib.Omega.{arith}
use Rattle.casefile_defs.specs.Reading.{Small}
use Rattle.casefile_defs.specs.Tables.{Places}
use Rattle.case_tables.specs.Tables.{tables_in}
use Rattle.plan_defs.specs.Outcome.{Slices, slices, plan_corridors}
use Rattle.case_defs.specs.Cases.{case_as, case_in}
use Rattle.planned_files.proofs.Planned.{Fits, lent_of, planned_in}
use Rattle.planned_files.proofs.plan_case.Goals as goal

pub returns : goal.returns
returns c =
    let h = c.args.case.now.header in
    let s : Small h = c.args.case.now.small in
    let p : Places = tables_in c.args.case.now.tables in
    let r = c.plan_corridors-planned.new in
    let k = c.plan_corridors-planned.auto in
    let left : Slices = slices r.circuits r.flow r.rate r.before r.order r.kept_cap r.mw r.angle r.final_tier r.ground r.added r.figures r.counts in
    let fits : Fits (case_in h p) = record { buses = s.buses; corridors = s.corridors; generators = s.generators; above = omega arith; work = omega arith } in
    planned_in h p c.plan_corridors-planned.result left c.zeros-results.result c.zeros-results.ensures fits
    k.circuits k.flow k.rate k.before k.order k.kept_cap k.mw k.angle k.final_tier k.ground k.added
    (c.plan_corridors-planned.ensures.plan ∙ ap (λ (x : Places). plan_corridors (case_as h x) h.target (lent_of h p c.plan_corridors-planned.result left c.zeros-results.result)) c.fronts-parts.ensures)
