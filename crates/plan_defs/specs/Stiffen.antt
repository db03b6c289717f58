-- Stiffening: each component whose angles are spread too wide, by ascending leader. The second loop of a round of `plan_corridors`, for a mode that promotes.
use Rattle.std.specs.Prelude.{ℕ, zero, suc, ◌+◌, max, Bool, true, false, cond, ◌&&◌, ◌||◌, List, [], ◌∷◌, ltb, leb, length, get_or, set, Float, Option, Some, None}
use Rattle.std.specs.Float.Ieee.{lt, le, neg, to_unsigned}
use Rattle.loops.specs.Figures.{at, float, plus, minus, times, nought, one}
use Rattle.loops.specs.Sorting.{insert_by}
use Rattle.root.specs.Ceiling.{ceil}
use Rattle.refusal.specs.declared.Refusal.TheVariants.{NotFinite}
use Rattle.angles_defs.specs.Network.{zeros}
use Rattle.angles_defs.specs.Solve.{solve}
use Rattle.plan_defs.specs.Constants.{stiffening_hv_share, stiffening_branch_budget, stiffening_batch_share, stiffening_rounds, max_angle_spread_rad}
use Rattle.plan_defs.specs.Lists.{passing, counting, each, sum}
use Rattle.plan_defs.specs.Stage.{Stage, stopped, going, each_stage}
use Rattle.plan_defs.specs.Case.{Case, end_a, end_b, full_at}
use Rattle.plan_defs.specs.Components.{within, members}
use Rattle.plan_defs.specs.Design.{design}
use Rattle.plan_defs.specs.Solve.{Peak, PlanningCase, susceptance, all_finite}
use Rattle.plan_defs.specs.Raise.{no_marks, raise_of, can_raise, mark_ends}
use Rattle.plan_defs.specs.Build.{Build, count_at, circuit_at, set_bank, set_count, bank_below}
use Rattle.plan_defs.specs.declared.CircuitDesign.{CircuitDesign}

-- ---- budgets: buses at or above `top`, and circuits in all. `top` is the highest level to raise to: of those requested, until their share of
-- buses is there; then, where the case has levels above, the highest of all
pub record Budget : Type 0 where
  pub hv : ℕ
  pub branches : ℕ
  pub top : ℕ

abbrev pub at_or_above : List ℕ → ℕ → ℕ
at_or_above level top = counting (λ i. leb (get_or level i 0) top) (length level)

-- the product rounded, then floored
abbrev pub share_of : Float → ℕ → ℕ
share_of share n = to_unsigned 64 (times share (float n))

abbrev pub hv_budget : ℕ → ℕ
hv_budget n = share_of stiffening_hv_share n

abbrev pub stiffen_top : ℕ → ℕ → List ℕ → ℕ
stiffen_top above hv level = cond (ltb 0 above && leb hv (at_or_above level above)) 0 above

unfoldable pub budget_of : Case → List ℕ → Budget
budget_of c level =
    record {
      hv = hv_budget c.buses;
      branches = share_of stiffening_branch_budget c.buses;
      top = stiffen_top c.above (hv_budget c.buses) level;
    }

-- ---- what it changes: the build, the marks, the circuits in all, the buses at or above the top (an end again for each corridor that marks it),
-- the circuits that stiffening added so far, whether a component was too wide, and whether anything was done
pub record Stiffening : Type 0 where
  pub build : Build
  pub marks : List ℕ
  pub total : ℕ
  pub hv : ℕ
  pub stiffening : ℕ
  pub wide : Bool
  pub stiffened : Bool

abbrev pub stiff : Build → List ℕ → ℕ → ℕ → ℕ → Bool → Bool → Stiffening
stiff build marks total hv stiffening wide stiffened =
    record { build = build; marks = marks; total = total; hv = hv; stiffening = stiffening; wide = wide; stiffened = stiffened }

unfoldable pub stiffen_from : List ℕ → Budget → Build → ℕ → Stiffening
stiffen_from level G b stiffening = stiff b (no_marks (length level)) (sum b.circuits) (at_or_above level G.top) stiffening false false

-- ---- one corridor: a full bank, else a raise, else a circuit, else nothing
-- 1 where a bus comes to the top or above
abbrev pub arrives : ℕ → ℕ → Option ℕ → ℕ
arrives top l None = 0
arrives top l (Some t) = cond (ltb top l && leb t top) 1 0

abbrev pub arrival : ℕ → List ℕ → List ℕ → ℕ → ℕ
arrival top level marks i = arrives top (get_or level i 0) (raise_of (get_or marks i 0))

abbrev pub full_bank : ℕ → Stiffening → Stiffening
full_bank k s =
    stiff (set_bank k (circuit_at s.build k).line_rate s.build) s.marks s.total s.hv s.stiffening s.wide true

abbrev pub raised_by : Case → List ℕ → Budget → ℕ → Stiffening → List ℕ → Stiffening
raised_by c level G k s marks =
    stiff s.build marks s.total (s.hv + (arrival G.top level marks (end_a c k) + arrival G.top level marks (end_b c k)))
    s.stiffening s.wide true

abbrev pub one_more : ℕ → Stiffening → Stiffening
one_more k s = stiff (set_count k (count_at s.build k + 1) s.build) s.marks (s.total + 1) s.hv (s.stiffening + 1) s.wide true

abbrev pub stiffen_by : Bool → Bool → Bool → Case → List ℕ → Budget → ℕ → Stiffening → Stiffening
stiffen_by true raise add c level G k s = full_bank k s
stiffen_by false true add c level G k s = raised_by c level G k s (mark_ends c level k s.marks)
stiffen_by false false true c level G k s = one_more k s
stiffen_by false false false c level G k s = s

-- room for a circuit (a place past the end has none)
abbrev pub has_room : Case → Budget → ℕ → Stiffening → Bool
has_room c G k s = ltb (get_or s.build.circuits k (full_at c k)) (full_at c k) && ltb s.total G.branches

unfoldable pub stiffen_one : Case → List ℕ → Budget → ℕ → Stiffening → Stiffening
stiffen_one c level G k s =
    stiffen_by (bank_below (circuit_at s.build k)) (ltb s.hv G.hv && can_raise c level G.top k) (has_room c G k s) c level G k s

-- ---- which corridors: those of the component whose reinforcement narrows its spread, the most first
pub record Gain : Type 0 where
  pub gain : Float
  pub corridor : ℕ

abbrev pub across : List Float → CircuitDesign → Float
across theta d = minus (at theta d.from) (at theta d.to)

abbrev pub gain_of : List Float → List Float → CircuitDesign → Float
gain_of theta phi d = times (times (susceptance d) (across theta d)) (across phi d)

-- put in its place: gain falling, then index, since corridors come by index
abbrev pub larger : Gain → Gain → Bool
larger g h = lt h.gain g.gain

abbrev pub insert_if : Bool → Gain → List Gain → List Gain
insert_if true g l = insert_by larger g l
insert_if false g l = l

abbrev pub insert_gain : Gain → List Gain → List Gain
insert_gain g l = insert_if (lt nought g.gain) g l

-- with room for a circuit, or below the top with room for a raise, as the budgets stand when the component begins
abbrev pub candidate : Case → List ℕ → List ℕ → Budget → ℕ → Stiffening → ℕ → Bool
candidate c led level G root s k = within led root (end_a c k) && (has_room c G k s || (can_raise c level G.top k && ltb s.hv G.hv))

unfoldable pub gains : List CircuitDesign → List Float → List Float → List ℕ → List Gain → List Gain
gains ds theta phi [] l = l
gains ds theta phi (k ∷ ks) l = gains ds theta phi ks (insert_gain (record { gain = gain_of theta phi (design ds k); corridor = k }) l)

-- the first `most`, while the gains before are below the excess
abbrev pub batch_if : Bool → ℕ → List ℕ → List ℕ
batch_if true k l = k ∷ l
batch_if false k l = []

unfoldable pub batch : ℕ → Float → Float → List Gain → List ℕ
batch zero covered excess l = []
batch (suc most) covered excess [] = []
batch (suc most) covered excess (g ∷ l) = batch_if (lt covered excess) g.corridor (batch most (plus covered g.gain) excess l)

abbrev pub batch_cap : Case → List ℕ → ℕ → ℕ
batch_cap c led root = max (to_unsigned 64 (ceil (times stiffening_batch_share (float (counting (λ k. within led root (end_a c k)) c.corridors))))) 1

unfoldable pub chosen : Case → List ℕ → List ℕ → Budget → ℕ → Stiffening → List Float → Float → List Float → List ℕ
chosen c led level G root s theta excess phi =
    batch (batch_cap c led root) nought excess
    (gains s.build.designs theta phi (passing (candidate c led level G root s) c.corridors) [])

-- ---- one component: the bus that leads and the bus that lags, the lowest on a tie
abbrev pub ahead : List Float → ℕ → ℕ → ℕ
ahead theta i best = cond (lt (at theta best) (at theta i)) i best

abbrev pub laggard : List Float → ℕ → ℕ → ℕ
laggard theta i best = cond (lt (at theta i) (at theta best)) i best

abbrev pub best_of : (ℕ → ℕ → ℕ) → List ℕ → ℕ
best_of better [] = 0
best_of better (i ∷ l) = each better l i

-- one per unit from the lead to the lag
abbrev pub unit_at : ℕ → ℕ → ℕ → List Float
unit_at n lead lag = set (set (zeros n) lead one) lag (neg one)

abbrev pub widened : Stiffening → Stiffening
widened s = stiff s.build s.marks s.total s.hv s.stiffening true s.stiffened

module _ (c : Case) (P : Peak) (led level : List ℕ) (round : ℕ) (G : Budget) (v : PlanningCase) where
  -- the unit solve's angles must be finite, refusal 9
  abbrev pub narrow_if : Bool → ℕ → Float → Stiffening → List Float → Stage Stiffening
  narrow_if true root excess s phi = going (each (stiffen_one c level G) (chosen c led level G root s v.theta excess phi) s)
  narrow_if false root excess s phi = stopped (NotFinite 0)

  abbrev pub narrow_by : ℕ → Float → Stiffening → List Float → Stage Stiffening
  narrow_by root excess s phi = narrow_if (all_finite phi) root excess s phi

  abbrev pub narrow : ℕ → ℕ → ℕ → Float → Stiffening → Stage Stiffening
  narrow root lead lag excess s = narrow_by root excess s (solve c.buses v.edges P.grounds (unit_at c.buses lead lag) (zeros c.buses)).x

  -- the last quarter of the rounds belongs to capacity
  abbrev pub unless_late : Bool → ℕ → ℕ → ℕ → Float → Stiffening → Stage Stiffening
  unless_late true root lead lag excess s = going (widened s)
  unless_late false root lead lag excess s = narrow root lead lag excess (widened s)

  abbrev pub unless_narrow : Bool → ℕ → ℕ → ℕ → Float → Stiffening → Stage Stiffening
  unless_narrow true root lead lag excess s = going s
  unless_narrow false root lead lag excess s = unless_late (ltb stiffening_rounds round) root lead lag excess s

  abbrev pub exceeds_by : ℕ → ℕ → ℕ → Stiffening → Float → Stage Stiffening
  exceeds_by root lead lag s excess = unless_narrow (le excess nought) root lead lag excess s

  abbrev pub between_buses : ℕ → ℕ → ℕ → Stiffening → Stage Stiffening
  between_buses root lead lag s = exceeds_by root lead lag s (minus (minus (at v.theta lead) (at v.theta lag)) max_angle_spread_rad)

  unfoldable pub stiffen_component : ℕ → Stiffening → Stage Stiffening
  stiffen_component root s =
      between_buses root (best_of (ahead v.theta) (members led root)) (best_of (laggard v.theta) (members led root)) s

  -- all of them
  unfoldable pub stiffen_all : List ℕ → Stiffening → Stage Stiffening
  stiffen_all roots s = each_stage stiffen_component roots s
