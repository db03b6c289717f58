-- What the contracts of module close cite: the closing figures by the columns that each reads, and the slices as planning leaves them.
use Rattle.std.specs.Prelude.{◌≡◌, ℕ, ◌+◌, ◌-◌, ◌≤◌, Bool, cond, ◌&&◌, List, [], map, length, replicate, nat_le, nat_lt, slice_index, Float}
use Rattle.std.specs.Float.Ieee.{lt}
use Rattle.loops.specs.Figures.{at, float, plus, nought, greater}
use Rattle.loops.specs.Loops.{tab}
use Rattle.mode.specs.declared.PlanMode.{PlanMode}
use Rattle.mode.specs.declared.PlanMode.TheVariants.{Observe}
use Rattle.plan_defs.specs.Constants.{loading_tolerance, most_corridors, most_levels}
use Rattle.plan_defs.specs.Case.{Case, case_of, expand}
use Rattle.plan_defs.specs.Fill.{loading}
use Rattle.plan_defs.specs.Closing.{least_of, need_of, max_loading, overloaded_of, capped_of, upsized_of, spread_of, spread_in}
use Rattle.plan_defs.specs.Components.{leads, members}
use Rattle.plan_defs.specs.Outcome.{Slices, slices}
use Rattle.plan_defs.specs.declared.CircuitDesign.{CircuitDesign}
use Rattle.planning.specs.declared.close.Closing.{Closing}

-- ---- a case that has a mode, a number of corridors and their own caps alone, and one that has the levels alone
abbrev pub corridors_of : PlanMode → ℕ → List ℕ → Case
corridors_of mode m cap = case_of mode 0 m 0 0 0 [] [] [] [] [] [] [] [] [] [] [] [] [] [] [] [] cap []

abbrev pub levels_for : ℕ → List Float → Case
levels_for above ladder = case_of Observe 0 0 0 above (length ladder - above) ladder [] [] [] [] [] [] [] [] [] [] [] [] [] [] [] [] []

-- ---- the spread, one bus more
abbrev pub wider_by : List ℕ → List Float → ℕ → Float → Float
wider_by led theta i most = cond (leads led i) (greater most (spread_in theta (members led i))) most

-- ---- loadings, from the corridors' ratings
abbrev pub loadings_by : List ℕ → List Float → List Float → List Float
loadings_by counts flows rates = tab (length rates) (λ (k : ℕ). loading (at flows k) (slice_index counts k) (at rates k))

-- a count and a flow for each rate. Three functions ask it, of slices that planning writes, which go in no struct (src/tables.rt)
pub record Rated (circuits : List ℕ) (flow rate : List Float) : Type 0 where
  pub few : length rate ≤ most_corridors
  pub circuits_size : length circuits ≡ length rate
  pub flow_size : length flow ≡ length rate

-- ---- corridors at their cap
abbrev pub cap_full : PlanMode → ℕ → ℕ → Float → Float → Bool
cap_full mode cap count flow rate = expand mode && (nat_le cap count && lt (plus (float count) loading_tolerance) (need_of flow rate))

-- ---- levels
-- level j of those added, 0 past them
abbrev pub added_at : List Float → ℕ → ℕ → ℕ → Float
added_at ladder above unused j = cond (nat_lt (unused + j) above) (at ladder (unused + j)) nought

-- ---- all of it
pub record Closable (above : ℕ) (ladder : List Float) (a leader upsized : List ℕ) (angle rate added : List Float) : Type 0 where
  pub few : above ≤ most_levels
  pub ladder_size : above ≤ length ladder
  pub angle_size : length angle ≡ length leader
  pub upsized_size : length upsized ≡ length a
  pub rate_size : length rate ≡ length a
  pub added_size : length added ≡ above

abbrev pub closing_of : PlanMode → List ℕ → ℕ → List ℕ → List ℕ → List CircuitDesign → List ℕ → List ℕ → List Float → List Float → Closing
closing_of mode cap above led level ds circuits upsized flow theta =
    record {
      upsized = upsized_of upsized;
      overloaded = overloaded_of (loadings_by circuits flow (map (λ d. d.rate_a) ds));
      capped = capped_of (corridors_of mode (length ds) cap) ds circuits flow;
      loading = max_loading (loadings_by circuits flow (map (λ d. d.rate_a) ds));
      spread = spread_of led theta;
      added = above - least_of above level;
    }

-- ---- the slices that the stages are lent: all but those for what is kept of filling and for the own caps
abbrev pub lent_to : List ℕ → List Float → List Float → List Float → List Float → List ℕ → List ℕ → List Float → List Float → List ℕ → Slices
lent_to circuits flow rate mw angle tier grounds added figures counts = slices circuits flow rate [] [] [] mw angle tier grounds added figures counts

-- ---- the lent slices after 8 or 9
abbrev pub zeroed : Slices → Slices
zeroed s =
    slices (replicate (length s.circuits) 0) (replicate (length s.flow) nought) (replicate (length s.rate) nought)
    (replicate (length s.before) 0) (replicate (length s.order) 0) (replicate (length s.cap) 0)
    (replicate (length s.mw) nought) (replicate (length s.angle) nought) (replicate (length s.tier) 0) (replicate (length s.ground) 0)
    (replicate (length s.added) nought) (replicate (length s.figures) nought) (replicate (length s.counts) 0)
