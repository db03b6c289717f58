-- Raises: `mark_raise_to`, `raise_buses`, and the raises before the rounds ("1. Voltage class by power and distance" of `plan_corridors`).
-- A mark at a bus is 0 for none, and t + 1 for a raise to level t. Levels count from the highest, so a raise lowers the number.
use Rattle.std.specs.Prelude.{ℕ, zero, suc, ◌+◌, ◌-◌, min, Bool, true, false, cond, ◌&&◌, List, ltb, length, get_or, set, replicate, Float, Option, Some, None}
use Rattle.std.specs.Float.Ieee.{lt}
use Rattle.loops.specs.Figures.{at, two, times, magnitude}
use Rattle.loops.specs.Loops.{iter, tab}
use Rattle.angles_defs.specs.Network.{zeros}
use Rattle.plan_defs.specs.Constants.{planning_utilisation}
use Rattle.plan_defs.specs.Lists.{counting}
use Rattle.plan_defs.specs.Stage.{Stage, going, onward}
use Rattle.plan_defs.specs.Case.{Case, promote, levels, end_a, end_b}
use Rattle.plan_defs.specs.Design.{design, redesign}
use Rattle.plan_defs.specs.Solve.{Peak, planning_state}
use Rattle.plan_defs.specs.declared.CircuitDesign.{CircuitDesign}

-- ---- marks
abbrev pub no_marks : ℕ → List ℕ
no_marks n = replicate n 0

-- a mark's raise, and a mark after a raise to t: the higher of the two
abbrev pub raise_of : ℕ → Option ℕ
raise_of zero = None
raise_of (suc t) = Some t

abbrev pub marked : ℕ → ℕ → ℕ
marked zero t = suc t
marked (suc u) t = suc (min u t)

abbrev pub mark_bus : ℕ → ℕ → List ℕ → List ℕ
mark_bus t i marks = set marks i (marked (get_or marks i 0) t)

unfoldable pub mark_both : ℕ → ℕ → ℕ → List ℕ → List ℕ
mark_both t i j marks = mark_bus t j (mark_bus t i marks)

-- the level of a corridor's higher end
abbrev pub top_of : Case → List ℕ → ℕ → ℕ
top_of c level k = min (get_or level (end_a c k) 0) (get_or level (end_b c k) 0)

-- mark_raise_to: both ends to the level above the higher end's, where that end is below `top`
abbrev pub can_raise : Case → List ℕ → ℕ → ℕ → Bool
can_raise c level top k = ltb top (top_of c level k)

abbrev pub mark_ends : Case → List ℕ → ℕ → List ℕ → List ℕ
mark_ends c level k marks = mark_both (top_of c level k - 1) (end_a c k) (end_b c k) marks

abbrev pub mark_if : Bool → Case → List ℕ → ℕ → List ℕ → List ℕ
mark_if true c level k marks = mark_ends c level k marks
mark_if false c level k marks = marks

-- ---- raise_buses: a bus moves where its raise is to a higher level
abbrev pub raised_to : ℕ → Option ℕ → ℕ
raised_to l None = l
raised_to l (Some t) = cond (ltb t l) t l

abbrev pub moves : ℕ → Option ℕ → Bool
moves l None = false
moves l (Some t) = ltb t l

unfoldable pub raised_levels : List ℕ → List ℕ → List ℕ
raised_levels level marks = tab (length level) (λ i. raised_to (get_or level i 0) (raise_of (get_or marks i 0)))

unfoldable pub moved_buses : List ℕ → List ℕ → ℕ
moved_buses level marks = counting (λ i. moves (get_or level i 0) (raise_of (get_or marks i 0))) (length level)

-- ---- the raises before the rounds
pub record Raised : Type 0 where
  pub level : List ℕ
  pub designs : List CircuitDesign
  pub promoted : ℕ

-- the whole flow is above what UPGRADE_CIRCUITS, two, lines carry at the utilisation
abbrev pub line_capacity : CircuitDesign → Float
line_capacity d = times (times planning_utilisation d.line_rate) d.rate_spread

abbrev pub too_heavy : CircuitDesign → Float → Bool
too_heavy d flow = lt (times two (line_capacity d)) (magnitude flow)

abbrev pub heavy_at : Case → Raised → List Float → ℕ → List ℕ → List ℕ
heavy_at c s flows k marks = mark_if (too_heavy (design s.designs k) (at flows k) && can_raise c s.level 0 k) c s.level k marks

unfoldable pub heavy_marks : Case → Raised → List Float → List ℕ
heavy_marks c s flows = iter (heavy_at c s flows) c.corridors 0 (no_marks c.buses)

-- a pass that moved so many buses; no bank floor is set yet
abbrev pub passed_to : Case → Raised → List ℕ → ℕ → Raised
passed_to c s level moved = record { level = level; designs = redesign c level (zeros c.corridors); promoted = s.promoted + moved }

-- one that moved none ends them
abbrev pub passed_by : ℕ → Case → Raised → List ℕ → (Raised → Stage Raised) → Stage Raised
passed_by zero c s marks next = going s
passed_by (suc m) c s marks next = next (passed_to c s (raised_levels s.level marks) (suc m))

abbrev pub pass_marked : Case → Raised → List ℕ → (Raised → Stage Raised) → Stage Raised
pass_marked c s marks next = passed_by (moved_buses s.level marks) c s marks next

-- so many passes at most, each solved from zero
unfoldable pub passes : ℕ → Case → Peak → List ℕ → Raised → Stage Raised
passes zero c P counts s = going s
passes (suc d) c P counts s =
    onward (planning_state P s.designs counts (zeros c.buses)) (λ v. pass_marked c s (heavy_marks c s v.flows) (passes d c P counts))

-- one less than the levels, where the mode promotes
abbrev pub pass_count : Bool → ℕ → ℕ
pass_count true n = n - 1
pass_count false n = 0

unfoldable pub raises : Case → Peak → List ℕ → Raised → Stage Raised
raises c P counts s = passes (pass_count (promote c.mode) (levels c)) c P counts s
