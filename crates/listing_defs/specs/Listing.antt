-- The text of a plan, and of how planning a case ends.
use Rattle.std.specs.Prelude.{ℕ, List, map, ◌++◌, Float}
use Rattle.mode.specs.declared.PlanMode.{PlanMode}
use Rattle.plan_defs.specs.Plan.{Plan, Ending, unaccepted, unanswered, planned}
use Rattle.plan_defs.specs.Outcome.{summary}
use Rattle.plan_defs.specs.declared.CorridorPlan.{CorridorPlan}
use Rattle.listing_defs.specs.Lines.{refusal_line, plan_line, added_lines, ground_lines, bus_lines, generator_lines, corridor_lines, most_line}

-- PL, AD, GR, BU, GE, CO, MX
abbrev pub listed : PlanMode → CorridorPlan → List Float → List ℕ → List ℕ → List Float → List Float → List ℕ → List Float → List Float → List ℕ
listed mode p added ground_buses tier angle mw circuits flow rate =
    plan_line mode p
    ++ (added_lines added ++ (ground_lines ground_buses ++ (bus_lines tier angle ++ (generator_lines mw ++ (corridor_lines circuits flow rate ++ most_line p.loading p.spread)))))

-- ---- of the defined plan
unfoldable pub plan_text : PlanMode → Plan → List ℕ
plan_text mode p =
    listed mode (summary p) p.added p.grounds p.tier p.angle p.mw p.circuits p.flow (map (λ d. d.rate_a) p.designs)

-- a refusal prints only its line
abbrev pub ending_text : PlanMode → Ending → List ℕ
ending_text mode (unaccepted f) = refusal_line f
ending_text mode (unanswered f) = refusal_line f
ending_text mode (planned p) = plan_text mode p
