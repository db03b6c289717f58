-- Sizing: one corridor after another with the flows of the round's start. The first loop of a round of `plan_corridors`.
use Rattle.std.specs.Prelude.{ℕ, ◌+◌, ◌-◌, min, Bool, true, false, not, ◌&&◌, ◌||◌, List, ltb, Float}
use Rattle.std.specs.Float.Ieee.{lt, le, to_unsigned}
use Rattle.loops.specs.Figures.{at, float, times, over, lesser, magnitude}
use Rattle.loops.specs.Loops.{iter}
use Rattle.root.specs.Ceiling.{ceil}
use Rattle.mode.specs.declared.PlanMode.{PlanMode}
use Rattle.plan_defs.specs.Constants.{planning_utilisation, transformer_size_step_mva, upgrade_circuits}
use Rattle.plan_defs.specs.Case.{Case, promote, cap_at}
use Rattle.plan_defs.specs.Raise.{no_marks, top_of, mark_ends}
use Rattle.plan_defs.specs.Build.{Build, count_at, circuit_at, set_bank, set_count, bank_below}
use Rattle.plan_defs.specs.declared.CircuitDesign.{CircuitDesign}

-- what it changes, the marks, the circuits added in the rounds so far, whether this round added circuits or a bank, and whether a corridor wanted more than its cap
pub record Sizing : Type 0 where
  pub build : Build
  pub marks : List ℕ
  pub capacity : ℕ
  pub added : Bool
  pub capped : Bool

abbrev pub sizing : Build → List ℕ → ℕ → Bool → Bool → Sizing
sizing build marks capacity added capped = record { build = build; marks = marks; capacity = capacity; added = added; capped = capped }

-- ---- the rating that a flow needs, and whether so many circuits of a design have it
abbrev pub required_for : Float → Float
required_for flow = over (magnitude flow) planning_utilisation

abbrev pub enough : Float → ℕ → CircuitDesign → Bool
enough required count d = le required (times (float count) d.rate_a)

-- ---- a larger bank, up to the line, in steps of 50 MVA
abbrev pub per_circuit : Float → ℕ → CircuitDesign → Float
per_circuit required count d = over (over required (float count)) d.rate_spread

abbrev pub next_bank : Float → ℕ → CircuitDesign → Float
next_bank required count d =
    lesser (times (ceil (over (per_circuit required count d) transformer_size_step_mva)) transformer_size_step_mva) d.line_rate

abbrev pub enlarges : Float → ℕ → CircuitDesign → Float → Bool
enlarges required count d next = not (enough required count d) && (bank_below d && lt d.transformer_mva next)

abbrev pub enlarge_if : Bool → ℕ → Float → Sizing → Sizing
enlarge_if true k next s = sizing (set_bank k next s.build) s.marks s.capacity true s.capped
enlarge_if false k next s = s

abbrev pub enlarge_to : Float → ℕ → ℕ → CircuitDesign → Float → Sizing → Sizing
enlarge_to required k count d next s = enlarge_if (enlarges required count d next) k next s

abbrev pub enlarge_by : Float → ℕ → ℕ → CircuitDesign → Sizing → Sizing
enlarge_by required k count d s = enlarge_to required k count d (next_bank required count d) s

unfoldable pub enlarge : Float → ℕ → Sizing → Sizing
enlarge required k s = enlarge_by required k (count_at s.build k) (circuit_at s.build k) s

-- ---- more circuits: `need` in all, up to the cap
abbrev pub add_if : Bool → ℕ → ℕ → Bool → Sizing → Sizing
add_if true k count capped s = sizing (set_count k count s.build) s.marks (s.capacity + (count - count_at s.build k)) true capped
add_if false k count capped s = sizing s.build s.marks s.capacity s.added capped

abbrev pub add_to : ℕ → ℕ → ℕ → Sizing → Sizing
add_to cap need k s = add_if (ltb (count_at s.build k) (min need cap)) k (min need cap) (s.capped || ltb cap need) s

-- a corridor that needs more than 2 is raised where it can be, and gets none
abbrev pub raises_for : PlanMode → ℕ → ℕ → Bool
raises_for mode top need = promote mode && (ltb upgrade_circuits need && ltb 0 top)

abbrev pub raise_or_add : Bool → Case → List ℕ → ℕ → ℕ → Sizing → Sizing
raise_or_add true c level need k s = sizing s.build (mark_ends c level k s.marks) s.capacity s.added s.capped
raise_or_add false c level need k s = add_to (cap_at c k (circuit_at s.build k).kv) need k s

abbrev pub grow_to : Case → List ℕ → ℕ → Sizing → ℕ → Sizing
grow_to c level k s need = raise_or_add (raises_for c.mode (top_of c level k) need) c level need k s

-- Rust's `as u32`, which saturates
abbrev pub needed_circuits : Float → CircuitDesign → ℕ
needed_circuits required d = to_unsigned 32 (ceil (over required d.rate_a))

abbrev pub grow_if : Bool → Case → List ℕ → Float → ℕ → Sizing → Sizing
grow_if true c level required k s = s
grow_if false c level required k s = grow_to c level k s (needed_circuits required (circuit_at s.build k))

unfoldable pub grow : Case → List ℕ → Float → ℕ → Sizing → Sizing
grow c level required k s = grow_if (enough required (count_at s.build k) (circuit_at s.build k)) c level required k s

-- ---- one corridor: a larger bank counts at once; and all of them
abbrev pub size_for : Case → List ℕ → ℕ → Sizing → Float → Sizing
size_for c level k s required = grow c level required k (enlarge required k s)

unfoldable pub size_one : Case → List ℕ → List Float → ℕ → Sizing → Sizing
size_one c level flows k s = size_for c level k s (required_for (at flows k))

unfoldable pub size_all : Case → List ℕ → List Float → Build → ℕ → Sizing
size_all c level flows b capacity = iter (size_one c level flows) c.corridors 0 (sizing b (no_marks c.buses) capacity false false)
