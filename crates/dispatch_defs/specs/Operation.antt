-- Document 01, refusals of *Dispatch*: 1; 2; 5 limits or costs of a unit, and after all units a demand outside 0 to 1e9 (index 0);
-- 8 demand strictly between the sums and some unit's c1 + 2 · c2 · p not finite at either limit. Slices keep their contents.
use Rattle.std.specs.Prelude.{ℕ, Bool, true, false, ◌&&◌, List, [], ◌∷◌, ltb, leb, eqb, length, Float, Err, Ok, Result}
use Rattle.loops.specs.Bounds.{most_generators}
use Rattle.loops.specs.Figures.{nought, billion, inside}
use Rattle.loops.specs.Verdict.{Test, fact, each_row, verdict}
use Rattle.refusal.specs.Reply.{Reply, reply_of, no_refusal}
use Rattle.refusal.specs.declared.Refusal.TheVariants.{Length, Count, Generator, Demand, Cost}
use Rattle.dispatch_defs.specs.Units.{Units, count, unit_ok_at}
use Rattle.dispatch_defs.specs.Dispatch.{economic_dispatch, faulty_cost}
use Rattle.refusal.specs.declared.Refusal.{Refusal}

-- ---- 1, 2 and 5. The lengths are those of pmin, pmax, c1, c2 and the result
abbrev pub lengths_ok : ℕ → ℕ → ℕ → ℕ → ℕ → ℕ → Bool
lengths_ok units pmin pmax c1 c2 mw = (((eqb pmin units && eqb pmax units) && eqb c1 units) && eqb c2 units) && eqb mw units

abbrev pub most_demand : Float
most_demand = billion

abbrev pub demand_ok : Float → Bool
demand_ok demand = inside nought most_demand demand

unfoldable pub tests_of : ℕ → Units → Float → ℕ → List (Test Refusal)
tests_of units u demand places =
    fact (lengths_ok units (length u.pmin) (length u.pmax) (length u.c1) (length u.c2) places) Length
    ∷ fact (leb units most_generators) Count
    ∷ each_row (unit_ok_at u) Generator (count u)
    ∷ fact (demand_ok demand) Demand
    ∷ []

abbrev pub check_of : ℕ → Units → Float → ℕ → Result (Unit {0}) Refusal
check_of units u demand places = verdict (tests_of units u demand places)

-- ---- the answer, and what the result holds then
pub record Outcome : Type 0 where
  pub reply : Reply (Unit {0})
  pub mw : List Float

abbrev pub outcome : Result (Unit {0}) Refusal → List Float → Outcome
outcome r mw = record { reply = reply_of r; mw = mw }

-- of a request that 1, 2 and 5 let pass
unfoldable pub shared_out_if : Bool → Units → Float → List Float → Outcome
shared_out_if true u demand mw = outcome (Err (Cost (faulty_cost u demand))) mw
shared_out_if false u demand mw = outcome no_refusal (economic_dispatch u demand)

unfoldable pub shared_out : Units → Float → List Float → Outcome
shared_out u demand mw = shared_out_if (ltb (faulty_cost u demand) (count u)) u demand mw

unfoldable pub dispatched_by : Result (Unit {0}) Refusal → Units → Float → List Float → Outcome
dispatched_by (Err f) u demand mw = outcome (Err f) mw
dispatched_by (Ok tt) u demand mw = shared_out u demand mw

unfoldable pub dispatched : ℕ → Units → Float → List Float → Outcome
dispatched units u demand mw = dispatched_by (check_of units u demand (length mw)) u demand mw
