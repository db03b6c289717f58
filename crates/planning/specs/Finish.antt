-- What the contracts of module finish cite: how planning ends after the rounds, by the columns that its stages read, and what they must be;
-- and the defined stages of a whole case.
use Rattle.std.specs.Prelude.{◌≡◌, ℕ, List, map, length, Float, Err, Ok, Result}
use Rattle.loops.specs.Figures.{nought}
use Rattle.mode.specs.declared.PlanMode.{PlanMode}
use Rattle.angles_defs.specs.Network.{zeros}
use Rattle.plan_defs.specs.Stage.{Stage, stopped, going, onward}
use Rattle.plan_defs.specs.Case.{Case}
use Rattle.plan_defs.specs.Build.{build_of}
use Rattle.plan_defs.specs.Solve.{Peak, PlanningCase, planning_state}
use Rattle.plan_defs.specs.Rounds.{Draft}
use Rattle.plan_defs.specs.Fill.{Filled, order_of, fill}
use Rattle.plan_defs.specs.Closing.{tiers_of, added_of}
use Rattle.plan_defs.specs.Plan.{Plan, Opened, finished_to, closing}
use Rattle.plan_defs.specs.Outcome.{up_to}
use Rattle.plan_defs.specs.declared.CircuitDesign.{CircuitDesign}
use Rattle.planning.specs.Solve.{peak_for, Drawing, Lent}
use Rattle.planning.specs.Fill.{caps_for}
use Rattle.planning.specs.Close.{levels_for, Closable, closing_of}
use Rattle.planning.specs.Sound.{Sound}
use Rattle.planning.specs.Whole.{with_lines, with_units}
use Rattle.planning.specs.declared.close.Closing.{Closing}
use Rattle.planning.specs.declared.fill.Kept.{Kept}
use Rattle.planning.specs.declared.finish.Finishing.{Finishing}
use Rattle.refusal.specs.declared.Refusal.{Refusal}
use Rattle.planning.specs.Tables.{GridColumns, supply_of, OpenedColumns}

-- ---- what it asks of the columns. Three functions ask it, each handing it on with the slices that it writes (src/tables.rt)
pub record Finishable (above : ℕ) (grid : GridColumns) (level : List ℕ) (opened : OpenedColumns) (banks : List Float)
    (upsized circuits : List ℕ) (flow rate angle added : List Float) : Type 0 where
  pub drawing : Drawing grid level circuits banks
  pub lent : Lent (length level) (length grid.a) opened angle flow
  pub closable : Closable above grid.ladder grid.a opened.leader upsized angle rate added
  pub cap_size : length grid.cap ≡ length grid.a

-- ---- what is said, with the slices that it is said of
pub record Ended : Type 0 where
  pub filler : ℕ
  pub closing : Closing
  pub before : List ℕ
  pub order : List ℕ
  pub circuits : List ℕ
  pub tier : List ℕ
  pub flow : List Float
  pub rate : List Float
  pub angle : List Float
  pub added : List Float

abbrev pub closed_of : Result Closing Refusal → ℕ → List ℕ → List ℕ → List ℕ → List ℕ → List Float → List Float → List Float → List Float → Stage Ended
closed_of (Err f) filler before order circuits tier flow rate angle added = stopped f
closed_of (Ok c) filler before order circuits tier flow rate angle added =
    going (record { filler = filler; closing = c; before = before; order = order; circuits = circuits; tier = tier; flow = flow; rate = rate; angle = angle; added = added })

abbrev pub ended_of : Result Finishing Refusal → List ℕ → List ℕ → List Float → List Float → List Float → List Float → Stage Ended
ended_of (Err f) circuits tier flow rate angle added = stopped f
ended_of (Ok s) circuits tier flow rate angle added =
    going (record { filler = s.filler; closing = s.closing; before = s.kept.before.items; order = s.kept.order.items; circuits = circuits; tier = tier; flow = flow; rate = rate; angle = angle; added = added })

-- ---- the stages, by columns: after filling, and from the order on
module _ (mode : PlanMode) (cap : List ℕ) (above : ℕ) (led : List ℕ) (ladder : List Float) (level : List ℕ) (ds : List CircuitDesign) (upsized : List ℕ) (P : Peak) where
  abbrev pub ended_by : ℕ → List ℕ → List ℕ → List ℕ → PlanningCase → Ended
  ended_by filler before order circuits v =
      record {
        filler = filler;
        closing = closing_of mode cap above led level ds circuits upsized v.flows v.theta;
        before = before;
        order = order;
        circuits = circuits;
        tier = tiers_of (levels_for above ladder) level;
        flow = v.flows;
        rate = map (λ d. d.rate_a) ds;
        angle = v.theta;
        added = up_to above nought (added_of (levels_for above ladder) level);
      }

  abbrev pub closed_from : ℕ → List ℕ → List ℕ → List ℕ → Stage Ended
  closed_from filler before order circuits = onward (planning_state P ds circuits (zeros P.n)) (λ v. going (ended_by filler before order circuits v))

  abbrev pub closed_after : List ℕ → List ℕ → Filled → Stage Ended
  closed_after before order f = closed_from f.filler before order f.counts

  abbrev pub filled_in : ℕ → List ℕ → List ℕ → Stage Ended
  filled_in target circuits order = closed_after circuits order (fill (caps_for mode cap) target order circuits)

  abbrev pub filled_from : ℕ → ℕ → List ℕ → List Float → Stage Ended
  filled_from target m circuits flow = filled_in target circuits (order_of m ds circuits flow)

  abbrev pub finished_from : ℕ → ℕ → List ℕ → Stage Ended
  finished_from target m circuits = onward (planning_state P ds circuits (zeros P.n)) (λ v. filled_from target m circuits v.flows)

-- ---- the stages of a whole case
abbrev pub closing_in : Plan → Closing
closing_in q =
    record {
      upsized = q.upsized;
      overloaded = q.overloaded;
      capped = q.capped;
      loading = q.loading;
      spread = q.spread;
      added = length q.added;
    }

-- the plan that the stages lead to, with what is kept of filling and its slices
pub record PlanHeld (k : Kept) (circuits tier : List ℕ) (flow rate angle added : List Float) (above : ℕ) (t : Stage Plan) : Type 0 where
  pub held : Plan
  pub reached : t ≡ going held
  pub before_are : k.before.items ≡ held.before
  pub order_is : k.order.items ≡ held.order
  pub circuits_are : circuits ≡ held.circuits
  pub tiers_are : tier ≡ held.tier
  pub flows_are : flow ≡ held.flow
  pub rates_are : rate ≡ map (λ d. d.rate_a) held.designs
  pub angles_are : angle ≡ held.angle
  pub added_are : added ≡ up_to above nought held.added

-- and what a finishing says of it
pub record SettlingHeld (s : Finishing) (circuits tier : List ℕ) (flow rate angle added : List Float) (above : ℕ) (t : Stage Plan) : Type 0 where
  pub kept : PlanHeld s.kept circuits tier flow rate angle added above t
  pub filler_is : s.filler ≡ kept.held.filler
  pub closing_is : s.closing ≡ closing_in kept.held

abbrev pub FinishedAs : Result Finishing Refusal → List ℕ → List ℕ → List Float → List Float → List Float → List Float → Case → Stage Plan → Type 0
FinishedAs (Err f) circuits tier flow rate angle added c t = t ≡ stopped f
FinishedAs (Ok s) circuits tier flow rate angle added c t = SettlingHeld s circuits tier flow rate angle added c.above t

-- of any case with these columns, whose draft the slices stand for
pub record Finishes (mode : PlanMode) (target above : ℕ) (grid : GridColumns) (opened : OpenedColumns) (banks : List Float)
    (upsized circuits level : List ℕ) (circuits' level' : List ℕ) (flow' rate' angle' added' : List Float) (r : Result Finishing Refusal) : Type 0 where
  pub plan : (o : Case) (p : Opened) (s : Draft) (floors : List Float)
      → (let c = with_lines (with_units o mode above (supply_of o.load o.bus o.slack o.pmin o.pmax o.c1 o.c2)) grid in
      Sound c target → length level ≡ o.buses → o.cap ≡ grid.cap → p.led ≡ opened.leader → p.peak ≡ peak_for o.buses opened.grounds opened.injection → s.level ≡ level
      → s.build ≡ build_of c level circuits banks floors upsized
      → FinishedAs r circuits' level' flow' rate' angle' added' c (onward (finished_to c p s) (closing c target)))
