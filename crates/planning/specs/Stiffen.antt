-- What the contracts of module stiffen cite: the state that the slices stand for, what a component asks of them, and what it does to them.
use Rattle.std.specs.Prelude.{◌≡◌, ℕ, ◌+◌, ◌*◌, ◌<◌, ◌≤◌, Bool, true, false, ◌&&◌, ◌||◌, List, [], length, All, nat_lt, slice_index, slice_index_or, Float, Err, Ok, Result}
use Rattle.std.specs.Float.Ieee.{lt}
use Rattle.loops.specs.Figures.{at, nought}
use Rattle.loops.specs.Loops.{iter}
use Rattle.loops.specs.Sorting.{insert_by}
use Rattle.plan_defs.specs.Constants.{most_corridors}
use Rattle.plan_defs.specs.Lists.{each}
use Rattle.plan_defs.specs.Case.{Case, levels, full_by}
use Rattle.plan_defs.specs.Raise.{can_raise}
use Rattle.plan_defs.specs.Stage.{Stage, stopped, going}
use Rattle.plan_defs.specs.Components.{leads, within, members}
use Rattle.plan_defs.specs.Solve.{PlanningCase}
use Rattle.plan_defs.specs.Design.{design}
use Rattle.plan_defs.specs.Build.{built, build_of}
use Rattle.plan_defs.specs.Stiffen.{Budget, Stiffening, Gain, stiff, stiffen_by, stiffen_one, gain_of, chosen, ahead, laggard, best_of, narrow, stiffen_component}
use Rattle.plan_defs.specs.declared.CircuitDesign.{CircuitDesign}
use Rattle.planning.specs.Design.{Lines, Banks}
use Rattle.planning.specs.RaiseMarks.{largest_count, pairs_for}
use Rattle.planning.specs.Size.{Few, Capped}
use Rattle.planning.specs.Fill.{designs_for}
use Rattle.planning.specs.Opening.{stage_if}
use Rattle.planning.specs.Solve.{peak_for}
use Rattle.planning.specs.Sound.{Sound}
use Rattle.planning.specs.Whole.{with_lines}
use Rattle.planning.specs.declared.budgets.Limits.{Limits}
use Rattle.planning.specs.declared.budgets.StiffeningTally.{StiffeningTally}
use Rattle.refusal.specs.declared.Refusal.{Refusal}
use Rattle.planning.specs.declared.edges.Edges.{Edges}
use Rattle.planning.specs.Tables.{GridColumns, SolvedColumns, edges_in}

-- ---- the budgets, and the state that slices stand for
abbrev pub budget_for : Limits → Budget
budget_for g = record { hv = g.hv; branches = g.branches; top = g.top }

abbrev pub stiff_of : Case → List ℕ → List ℕ → List Float → List Float → List ℕ → List ℕ → StiffeningTally → Stiffening
stiff_of c level circuits banks floors upsized marks t =
    stiff (build_of c level circuits banks floors upsized) marks t.total t.hv t.stiffening t.wide t.stiffened

abbrev pub stiffened_as : Result StiffeningTally Refusal → Case → List ℕ → List ℕ → List Float → List Float → List ℕ → List ℕ → Stage Stiffening
stiffened_as (Err f) c level circuits banks floors upsized marks = stopped f
stiffened_as (Ok t) c level circuits banks floors upsized marks = going (stiff_of c level circuits banks floors upsized marks t)

-- ---- the round's solve: its edges, the angles, and flows, which stiffening does not read
abbrev pub round_of : Edges → List Float → List Float → PlanningCase
round_of e theta flows = record { edges = edges_in e; theta = theta; flows = flows }

-- ---- what stiffening reads of a round: columns of one size, in their bounds
pub record Solvable (solved : SolvedColumns) : Type 0 where
  pub lines : Lines solved.grid solved.level
  pub buses : solved.e.buses ≡ length solved.level
  pub few : length solved.grid.a ≤ most_corridors
  pub leader_size : length solved.opened.leader ≡ length solved.level
  pub angle_size : length solved.angle ≡ length solved.level
  pub capped : Capped (length solved.grid.a) solved.grid.cap

-- what it asks of the lent slices: a place for each corridor, or for each bus
-- asked by 5 functions: all write these slices, and what planning writes goes in no struct (src/tables.rt)
pub record StiffenFits (grid : GridColumns) (level : List ℕ) (circuits : List ℕ) (banks floors : List Float) (upsized marks : List ℕ) : Type 0 where
  pub count_size : length circuits ≡ length grid.a
  pub bank_size : length banks ≡ length grid.a
  pub floor_size : length floors ≡ length grid.a
  pub upsized_size : length upsized ≡ length grid.a
  pub mark_size : length marks ≡ length level
  pub banked : Banks banks

-- both, where the columns come apart
pub record Stiffenable (solved : SolvedColumns)
    (circuits : List ℕ) (banks floors : List Float) (upsized marks : List ℕ) : Type 0 where
  pub solvable : Solvable solved
  pub fits : StiffenFits solved.grid solved.level circuits banks floors upsized marks

-- room for what m corridors may add
-- asked by 7 functions: m differs from call to call, and the room falls with each corridor, so that no invariant of StiffeningTally states it
pub record Room (m : ℕ) (t : StiffeningTally) : Type 0 where
  pub total : t.total + m ≤ largest_count
  pub hv : t.hv + 2 * m ≤ largest_count
  pub stiffening : t.stiffening + m ≤ largest_count

-- ---- what the component that bus i leads, where it leads one, does to the slices
abbrev pub StiffeningWithin : ℕ → StiffeningTally → Result StiffeningTally Refusal → Type 0
StiffeningWithin m t (Err f) = Unit
StiffeningWithin m t (Ok u) = (u.total ≤ t.total + m) × (u.hv ≤ t.hv + 2 * m) × (u.stiffening ≤ t.stiffening + m)

pub record LedStiffened (i round : ℕ) (solved : SolvedColumns)
    (circuits : List ℕ) (banks floors : List Float) (upsized marks : List ℕ) (t : StiffeningTally)
    (circuits' : List ℕ) (banks' floors' : List Float) (upsized' marks' : List ℕ) (r : Result StiffeningTally Refusal) : Type 0 where
  pub stiffened : (o : Case) (target : ℕ) (injection flows : List Float) → Sound (with_lines o solved.grid) target → length solved.level ≡ o.buses → o.cap ≡ solved.grid.cap
      → stiffened_as r (with_lines o solved.grid) solved.level circuits' banks' floors' upsized' marks'
      ≡ stage_if (leads solved.opened.leader i)
      (stiffen_component (with_lines o solved.grid) (peak_for o.buses solved.opened.grounds injection) solved.opened.leader solved.level round (budget_for solved.g) (round_of solved.e solved.angle flows) i
      (stiff_of (with_lines o solved.grid) solved.level circuits banks floors upsized marks t))
      (stiff_of (with_lines o solved.grid) solved.level circuits banks floors upsized marks t)
  pub banked : Banks banks'
  pub few : Few circuits → Few circuits'
  pub bound : StiffeningWithin (length solved.grid.a) t r

-- ---- one corridor
-- the state over any designs
abbrev pub stiff_over : List CircuitDesign → List Float → List ℕ → List ℕ → List ℕ → StiffeningTally → Stiffening
stiff_over designs floors upsized circuits marks t =
    stiff (built circuits designs floors upsized) marks t.total t.hv t.stiffening t.wide t.stiffened

-- a raise that is within the budget, and a circuit that is within it and within the corridor's own cap
abbrev pub raisable : Limits → ℕ → List ℕ → List ℕ → List ℕ → ℕ → Bool
raisable g hv level a b k = nat_lt hv g.hv && can_raise (pairs_for a b) level g.top k

abbrev pub room_for : Limits → ℕ → ℕ → ℕ → Bool
room_for g own count total = nat_lt count (full_by own) && nat_lt total g.branches

-- so many circuits added, and so many buses that came to the top
abbrev pub tallied_more : ℕ → ℕ → StiffeningTally → StiffeningTally
tallied_more added arrived t = record { total = t.total + added; hv = t.hv + arrived; stiffening = t.stiffening + added; wide = t.wide; stiffened = true }

-- what a raise, or else a circuit, does to corridor k, whatever its designs are
pub record CorridorStiffened (g : Limits) (own : ℕ) (level a b : List ℕ) (k : ℕ) (circuits marks : List ℕ) (t : StiffeningTally) (circuits' marks' : List ℕ) (t' : StiffeningTally) : Type 0 where
  pub stiffened : (designs : List CircuitDesign) (floors : List Float) (upsized : List ℕ)
      → stiff_over designs floors upsized circuits' marks' t'
      ≡ stiffen_by false (raisable g t.hv level a b k) (room_for g own (slice_index circuits k) t.total) (pairs_for a b) level (budget_for g) k
      (stiff_over designs floors upsized circuits marks t)
  pub few : Few circuits → Few circuits'
  pub bound : StiffeningWithin 1 t (Ok t')

-- a case of these columns has as many corridors and levels as they, and these caps
abbrev pub Fitting : Case → GridColumns → Type 0
Fitting o grid = (length grid.a ≡ o.corridors) × (length grid.ladder ≡ levels o) × (o.cap ≡ grid.cap)

-- what stiffening the corridors of a list does to them
pub record BatchStiffened (ks : List ℕ) (g : Limits) (grid : GridColumns) (level : List ℕ)
    (circuits : List ℕ) (banks floors : List Float) (upsized marks : List ℕ) (t : StiffeningTally)
    (circuits' : List ℕ) (banks' floors' : List Float) (upsized' marks' : List ℕ) (t' : StiffeningTally) : Type 0 where
  pub stiffened : (o : Case) → Fitting o grid
      → stiff_of (with_lines o grid) level circuits' banks' floors' upsized' marks' t'
      ≡ each (stiffen_one (with_lines o grid) level (budget_for g)) ks
      (stiff_of (with_lines o grid) level circuits banks floors upsized marks t)
  pub banked : Banks banks'
  pub few : Few circuits → Few circuits'
  pub bound : StiffeningWithin (length ks) t (Ok t')

-- ---- gains: of a candidate what one more circuit gives, of any other 0
-- asked by 3 functions: what Solved cannot hold, as reinforce writes the circuits and the banks after it
pub record Gainful (solved : SolvedColumns) (phi : List Float) (circuits : List ℕ) (banks : List Float) : Type 0 where
  pub phi_size : length phi ≡ length solved.level
  pub count_size : length circuits ≡ length solved.grid.a
  pub bank_size : length banks ≡ length solved.grid.a
  pub banked : Banks banks

abbrev pub candidate_at : Limits → List ℕ → List ℕ → List ℕ → List ℕ → List ℕ → List ℕ → StiffeningTally → ℕ → ℕ → Bool
candidate_at g leader level a b cap circuits t root k =
    within leader root (slice_index a k)
    && (room_for g (slice_index cap k) (slice_index circuits k) t.total || (can_raise (pairs_for a b) level g.top k && nat_lt t.hv g.hv))

abbrev pub gain_if : Bool → Float → Float
gain_if true gain = gain
gain_if false gain = nought

abbrev pub gain_at : SolvedColumns → List Float → List ℕ → List Float → StiffeningTally → ℕ → ℕ → Float
gain_at solved phi circuits banks t root k =
    gain_if (candidate_at solved.g solved.opened.leader solved.level solved.grid.a solved.grid.b solved.grid.cap circuits t root k) (gain_of solved.angle phi (design (designs_for solved.grid solved.level banks) k))

-- the order by a list of gains: k comes before j where it gains more; of those that gain
abbrev pub gains_more : List Float → ℕ → ℕ → Bool
gains_more gain k j = lt (at gain j) (at gain k)

abbrev pub insert_where : Bool → (ℕ → ℕ → Bool) → ℕ → List ℕ → List ℕ
insert_where true comes k l = insert_by comes k l
insert_where false comes k l = l

abbrev pub gain_next : List Float → ℕ → List ℕ → List ℕ
gain_next gain k l = insert_where (lt nought (at gain k)) (gains_more gain) k l

unfoldable pub gain_order : List Float → ℕ → List ℕ
gain_order gain m = iter (gain_next gain) m 0 []

abbrev pub gain_for : List Float → ℕ → Gain
gain_for gain k = record { gain = at gain k; corridor = k }

-- an order is the chosen corridors
pub record Chosen (root : ℕ) (excess : Float) (solved : SolvedColumns) (phi : List Float)
    (circuits : List ℕ) (banks : List Float) (t : StiffeningTally) (order : List ℕ) : Type 0 where
  pub few : length order ≤ length solved.grid.a
  pub below : All (λ (k : ℕ). k < length solved.grid.a) order
  pub chosen : (o : Case) (floors : List Float) (upsized marks : List ℕ) → Fitting o solved.grid
      → order
      ≡ chosen (with_lines o solved.grid) solved.opened.leader solved.level (budget_for solved.g) root (stiff_of (with_lines o solved.grid) solved.level circuits banks floors upsized marks t) solved.angle excess phi

-- ---- what a step of a stiffening does to the slices, of any case with these columns, whatever the injections and the flows are
pub record StepTaken (step : Case → List Float → List Float → Stiffening → Stage Stiffening) (grid : GridColumns) (level : List ℕ)
    (circuits : List ℕ) (banks floors : List Float) (upsized marks : List ℕ) (t : StiffeningTally)
    (circuits' : List ℕ) (banks' floors' : List Float) (upsized' marks' : List ℕ) (r : Result StiffeningTally Refusal) : Type 0 where
  pub stiffened : (o : Case) (injection flows : List Float) → Fitting o grid → length level ≡ o.buses
      → stiffened_as r (with_lines o grid) level circuits' banks' floors' upsized' marks'
      ≡ step (with_lines o grid) injection flows (stiff_of (with_lines o grid) level circuits banks floors upsized marks t)
  pub banked : Banks banks'
  pub few : Few circuits → Few circuits'
  pub bound : StiffeningWithin (length grid.a) t r

abbrev pub reinforce_step : ℕ → Float → SolvedColumns → List Float → Case → List Float → List Float → Stiffening → Stage Stiffening
reinforce_step root excess solved phi c injection flows s =
    going (each (stiffen_one c solved.level (budget_for solved.g)) (chosen c solved.opened.leader solved.level (budget_for solved.g) root s solved.angle excess phi) s)

abbrev pub narrow_step : ℕ → ℕ → ℕ → Float → SolvedColumns → Case → List Float → List Float → Stiffening → Stage Stiffening
narrow_step root lead lag excess solved c injection flows s =
    narrow c (peak_for c.buses solved.opened.grounds injection) solved.opened.leader solved.level 0 (budget_for solved.g)
    (round_of solved.e solved.angle flows) root lead lag excess s

abbrev pub component_step : ℕ → ℕ → SolvedColumns → Case → List Float → List Float → Stiffening → Stage Stiffening
component_step root round solved c injection flows s =
    stiffen_component c (peak_for c.buses solved.opened.grounds injection) solved.opened.leader solved.level round (budget_for solved.g)
    (round_of solved.e solved.angle flows) root s

-- ---- a bus that leads its component
-- asked by 4 functions: it is of one bus, where Solved is of all; a struct of the two would be made for one call, and best_of, which reads two columns, would take it apart
pub record Led (root : ℕ) (leader : List ℕ) (angle : List Float) : Type 0 where
  pub here : root < length leader
  pub leads : slice_index_or leader root 0 ≡ root
  pub angle_size : length angle ≡ length leader

abbrev pub lead_of : List ℕ → List Float → ℕ → ℕ
lead_of led theta root = best_of (ahead theta) (members led root)

abbrev pub lag_of : List ℕ → List Float → ℕ → ℕ
lag_of led theta root = best_of (laggard theta) (members led root)
