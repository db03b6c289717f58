-- What a caller may use: the mode is read by no test, and what an answer says of the case.
use Prim.Native.Nat.{ℕ}
use mathlib.Core.Bool.{Bool, true}
use mathlib.Core.Path.{◌≡◌, refl, sym, ◌∙◌}
use Rattle.loops.proofs.Verdicts.{passes_all, where_all_pass}
use Rattle.mode.specs.declared.PlanMode.TheVariants.{Observe}
use Rattle.plan_defs.specs.Case.{Case, case_with, row_at}
use Rattle.plan_defs.specs.Accept.{lengths_ok, counts_ok, level_ok, bus_ok, generator_ok, corridor_sound, row_ok, tables_tests, case_tests, call_tests, case_check}
use Rattle.acceptance.specs.Check.{check_of}
use Rattle.refusal.specs.Reply.{no_refusal}

-- a case as it is checked
abbrev pub tables_of_lem : Case → Case
tables_of_lem c =
    case_with Observe c.buses c.corridors c.generators c.above c.requested c.ladder c.tier c.reading c.weight c.load c.bus c.slack c.pmin c.pmax c.c1 c.c2
    c.a c.b c.circuits c.km c.share c.cap c.figures c.row

module _ (fits : Bool) (c : Case) (target : ℕ) where
  pub any_mode : check_of fits (tables_of_lem c) target ≡ check_of fits c target
  unfolding call_tests case_tests tables_tests lengths_ok counts_ok level_ok bus_ok generator_ok corridor_sound row_ok row_at
  any_mode = refl

  pub passed_by_lem : no_refusal ≡ check_of fits (tables_of_lem c) target → (fits ≡ true) × (case_check c target ≡ no_refusal)
  unfolding call_tests
  passed_by_lem e = let p = passes_all (call_tests fits c target) (sym (e ∙ any_mode)) in (p.0, sym (where_all_pass (case_tests c target) p.1))
