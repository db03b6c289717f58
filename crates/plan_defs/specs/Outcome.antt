-- What `plan_corridors` says, and what every place of each slice that it is lent holds then (document 01, refusals of *Planning*):
-- 1 to 7 touch nothing; after 8 or 9 all result and work places are zero; after an answer, work is zero.
use Rattle.std.specs.Prelude.{◌≡◌, ℕ, ◌+◌, ◌-◌, ◌*◌, Bool, true, false, ◌&&◌, List, map, ◌++◌, eqb, length, replicate, Float, Err, Ok, Result}
use Rattle.loops.specs.Figures.{nought}
use Rattle.loops.specs.Verdict.{verdict}
use Rattle.refusal.specs.Reply.{Reply, reply_of}
use Rattle.plan_defs.specs.Constants.{work_rows}
use Rattle.plan_defs.specs.Case.{Case, promote}
use Rattle.plan_defs.specs.Accept.{call_tests}
use Rattle.plan_defs.specs.Plan.{Plan, Ending, unaccepted, unanswered, planned, ending_by}
use Rattle.plan_defs.specs.declared.CorridorPlan.{CorridorPlan}
use Rattle.refusal.specs.declared.Refusal.{Refusal}

-- ---- the slices that planning is lent
pub record Slices : Type 0 where
  -- a place for each corridor; flow in MW, rate in MVA of one circuit; the circuits before filling and the filling order, zero where the mode does not fill;
  -- the corridors' own caps
  pub circuits : List ℕ
  pub flow : List Float
  pub rate : List Float
  pub before : List ℕ
  pub order : List ℕ
  pub cap : List ℕ
  -- for each generator, MW
  pub mw : List Float
  -- for each bus; the grounds by ascending leader, zero past their count
  pub angle : List Float
  pub tier : List ℕ
  pub ground : List ℕ
  -- for each level above the request, kV, zero past the count of levels added
  pub added : List Float
  -- work
  pub figures : List Float
  pub counts : List ℕ

abbrev pub slices : List ℕ → List Float → List Float → List ℕ → List ℕ → List ℕ → List Float → List Float → List ℕ → List ℕ → List Float → List Float → List ℕ → Slices
slices circuits flow rate before order cap mw angle tier ground added figures counts =
    record {
      circuits = circuits;
      flow = flow;
      rate = rate;
      before = before;
      order = order;
      cap = cap;
      mw = mw;
      angle = angle;
      tier = tier;
      ground = ground;
      added = added;
      figures = figures;
      counts = counts;
    }

abbrev pub work_places : Case → ℕ
work_places c = work_rows * (c.buses + c.corridors + c.generators)

-- 1, of the lent slices: each has exactly its length
unfoldable pub slices_ok : Case → Slices → Bool
slices_ok c s =
    eqb (length s.circuits) c.corridors
    && (eqb (length s.flow) c.corridors
    && (eqb (length s.rate) c.corridors
    && (eqb (length s.before) c.corridors
    && (eqb (length s.order) c.corridors
    && (eqb (length s.cap) c.corridors
    && (eqb (length s.mw) c.generators
    && (eqb (length s.angle) c.buses
    && (eqb (length s.tier) c.buses
    && (eqb (length s.ground) c.buses
    && (eqb (length s.added) c.above
    && (eqb (length s.figures) (work_places c)
    && eqb (length s.counts) (work_places c))))))))))))

-- the lengths of those that the stages are lent: all but what is kept of filling and the caps
pub record StageLengths (c : Case) (s : Slices) : Type 0 where
  pub circuits : length s.circuits ≡ c.corridors
  pub flow : length s.flow ≡ c.corridors
  pub rate : length s.rate ≡ c.corridors
  pub mw : length s.mw ≡ c.generators
  pub angle : length s.angle ≡ c.buses
  pub tier : length s.tier ≡ c.buses
  pub ground : length s.ground ≡ c.buses
  pub added : length s.added ≡ c.above
  pub figures : length s.figures ≡ work_places c
  pub counts : length s.counts ≡ work_places c

-- ---- what they hold
abbrev pub cleared : Case → Slices
cleared c =
    slices (replicate c.corridors 0) (replicate c.corridors nought) (replicate c.corridors nought) (replicate c.corridors 0) (replicate c.corridors 0) (replicate c.corridors 0)
    (replicate c.generators nought) (replicate c.buses nought) (replicate c.buses 0) (replicate c.buses 0) (replicate c.above nought)
    (replicate (work_places c) nought) (replicate (work_places c) 0)

-- a list, and v in the places up to n
abbrev pub up_to : {A : Type 0} → ℕ → A → List A → List A
up_to n v l = l ++ replicate (n - length l) v

-- what a plan keeps of filling: nothing where the mode does not fill
abbrev pub kept_if : Bool → ℕ → List ℕ → List ℕ
kept_if true n l = l
kept_if false n l = replicate n 0

abbrev pub kept_of : Case → List ℕ → List ℕ
kept_of c l = kept_if (promote c.mode) c.corridors l

unfoldable pub held : Case → Plan → Slices
held c p =
    slices p.circuits p.flow (map (λ d. d.rate_a) p.designs) (kept_of c p.before) (kept_of c p.order) c.cap p.mw p.angle p.tier (up_to c.buses 0 p.grounds)
    (up_to c.above nought p.added) (replicate (work_places c) nought) (replicate (work_places c) 0)

unfoldable pub summary : Plan → CorridorPlan
summary p =
    record {
      rounds = p.rounds;
      converged = p.converged;
      capacity = p.capacity;
      stiffening = p.stiffening;
      filler = p.filler;
      promoted = p.promoted;
      upsized = p.upsized;
      overloaded = p.overloaded;
      capped = p.capped;
      loading = p.loading;
      spread = p.spread;
      grounds = length p.grounds;
      added = length p.added;
    }

-- ---- what is said, and the slices then
pub record Outcome : Type 0 where
  pub reply : Reply CorridorPlan
  pub lent : Slices

abbrev pub outcome : Result CorridorPlan Refusal → Slices → Outcome
outcome r s = record { reply = reply_of r; lent = s }

unfoldable pub outcome_by : Ending → Case → Slices → Outcome
outcome_by (unaccepted f) c s = outcome (Err f) s
outcome_by (unanswered f) c s = outcome (Err f) (cleared c)
outcome_by (planned p) c s = outcome (Ok (summary p)) (held c p)

unfoldable pub plan_corridors : Case → ℕ → Slices → Outcome
plan_corridors c target s = outcome_by (ending_by (verdict (call_tests (slices_ok c s) c target)) c target) c s
