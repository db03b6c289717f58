-- Every solve of a plan over slices: what its answer, with the slices that it fills, stands for; and what it asks of them.
use Rattle.std.specs.Prelude.{◌≡◌, ℕ, ◌≤◌, Bool, true, false, List, length, Float, Err, Ok, Result}
use Rattle.refusal.specs.declared.Refusal.TheVariants.{NotFinite}
use Rattle.angles_defs.specs.Network.{Edges}
use Rattle.loops.specs.Bounds.{most_buses, most_corridors}
use Rattle.plan_defs.specs.Stage.{Stage, stopped, going}
use Rattle.plan_defs.specs.Solve.{Peak, PlanningCase, all_finite}
use Rattle.planning.specs.Design.{Lines, Banks}
use Rattle.refusal.specs.declared.Refusal.{Refusal}
use Rattle.refusal.specs.Reply.{no_refusal}
use Rattle.planning.specs.Tables.{GridColumns, OpenedColumns}

abbrev pub peak_for : ℕ → List ℕ → List Float → Peak
peak_for n grounds injection = record { n = n; grounds = grounds; injection = injection }

-- ---- an answer with the angles and the flows, of these edges
abbrev pub solved_of : Result (Unit {0}) Refusal → Edges → List Float → List Float → Stage PlanningCase
solved_of (Ok tt) E theta flows = going (record { edges = E; theta = theta; flows = flows })
solved_of (Err f) E theta flows = stopped f

-- ---- angles alone: all finite, or 9
abbrev pub finite_if : Bool → List Float → Stage (List Float)
finite_if true x = going x
finite_if false x = stopped (NotFinite 0)

abbrev pub finite_angles : List Float → Stage (List Float)
finite_angles x = finite_if (all_finite x) x

-- a place for each bus: injections and guess; angles that are lent
pub record SolvePlaces (n : ℕ) (injection guess angle : List Float) : Type 0 where
  pub injection_size : length injection ≡ n
  pub guess_size : length guess ≡ n
  pub angle_size : length angle ≡ n

-- ---- the corridors as they are built: few of them, with circuits and a bank for each. Three functions ask it, and no struct's ghost field says it:
-- the struct would hold `level`, `circuits` and `banks`, which are written between two solves and go in slices of their own (src/tables.rt)
pub record Drawing (grid : GridColumns) (level : List ℕ) (circuits : List ℕ) (banks : List Float) : Type 0 where
  pub lines : Lines grid level
  pub few_buses : length level ≤ most_buses
  pub few_corridors : length grid.a ≤ most_corridors
  pub count_size : length circuits ≡ length grid.a
  pub bank_size : length banks ≡ length grid.a
  pub banks_ok : Banks banks

-- a place for each of n buses and m corridors, of what the opening made and of the slices lent: angles and flows. Three functions ask it, and no
-- struct's ghost field says it: the struct would hold `angle` and `flow`, which a solve writes (src/tables.rt)
pub record Lent (n m : ℕ) (opened : OpenedColumns) (angle flow : List Float) : Type 0 where
  pub leader_size : length opened.leader ≡ n
  pub angle_size : length angle ≡ n
  pub flow_size : length flow ≡ m

-- ---- a test of all figures, as an answer
abbrev pub finite_answer : Bool → Result (Unit {0}) Refusal
finite_answer true = no_refusal
finite_answer false = Err (NotFinite 0)
