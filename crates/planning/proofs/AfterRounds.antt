-- Planning after the rounds: what filling asks of the order that it is given, and the stages over slices as those of the whole case.
-- The stages by columns are onwards of the same solves as the defined ones, so each law is the lifts put in, one after another.
use Rattle.std.proofs.Common.{◌≡◌, ℕ, ◌<◌, All, List, map, length, sym, ap, ◌∙◌, subst}
use lib.Ieee.{Float}
use Rattle.loops.specs.Figures.{nought}
use Rattle.mode.specs.declared.PlanMode.{PlanMode}
use Rattle.refusal.specs.declared.Refusal.{Refusal}
use Rattle.angles_defs.specs.Network.{Edges, zeros}
use Rattle.plan_defs.specs.Stage.{Stage, stopped, going, onward}
use Rattle.plan_defs.specs.Solve.{Peak, PlanningCase, planning_state}
use Rattle.plan_defs.specs.Fill.{order_of, fill}
use Rattle.plan_defs.specs.Closing.{tiers_of, added_of}
use Rattle.plan_defs.specs.Outcome.{up_to}
use Rattle.plan_defs.specs.declared.CircuitDesign.{CircuitDesign}
use Rattle.planning.specs.Solve.{solved_of}
use Rattle.planning.specs.Fill.{caps_for, Fillable}
use Rattle.planning.specs.Close.{levels_for, closing_of}
use Rattle.planning.specs.Finish.{Finishable, Ended, closed_of, ended_by, closed_from, closed_after, filled_in, filled_from}
use Rattle.planning.specs.declared.close.Closing.{Closing}
use Rattle.planning.proofs.Orders.{corridors_named}
use Rattle.std.specs.Prelude.{Err, Ok, Result}
use Rattle.refusal.specs.Reply.{no_refusal}
use Rattle.planning.specs.Tables.{GridColumns, OpenedColumns}

-- ---- a solve, and what comes after it
pub solved_refused : {T : Type 0} (next : PlanningCase → Stage T) (X : Stage PlanningCase) (r : Result (Unit {0}) Refusal) (E : Edges) (x y : List Float) (f : Refusal)
    → solved_of r E x y ≡ X → r ≡ Err f → stopped f ≡ onward X next
solved_refused next X r E x y f e q = ap (λ (a : Result (Unit {0}) Refusal). onward (solved_of a E x y) next) (sym q) ∙ ap (λ (t : Stage PlanningCase). onward t next) e

pub solved_answered : {T : Type 0} (next : PlanningCase → Stage T) (X : Stage PlanningCase) (r : Result (Unit {0}) Refusal) (E : Edges) (x y : List Float)
    → solved_of r E x y ≡ X → r ≡ no_refusal → next (record { edges = E; theta = x; flows = y }) ≡ onward X next
solved_answered next X r E x y e q = ap (λ (a : Result (Unit {0}) Refusal). onward (solved_of a E x y) next) (sym q) ∙ ap (λ (t : Stage PlanningCase). onward t next) e

-- ---- the closing figures, with what filling left
module _ (r : Result Closing Refusal) (filler : ℕ) (before order circuits tier : List ℕ) (flow rate angle added : List Float) (X : Stage Ended)
    (e : closed_of r filler before order circuits tier flow rate angle added ≡ X) where
  pub ended_refused : (f : Refusal) → r ≡ Err f → stopped f ≡ X
  ended_refused f q = ap (λ (x : Result Closing Refusal). closed_of x filler before order circuits tier flow rate angle added) (sym q) ∙ e

  pub ended_answered : (c : Closing) → r ≡ Ok c
      → going (record { filler = filler; closing = c; before = before; order = order; circuits = circuits; tier = tier; flow = flow; rate = rate; angle = angle; added = added }) ≡ X
  ended_answered c q = ap (λ (x : Result Closing Refusal). closed_of x filler before order circuits tier flow rate angle added) (sym q) ∙ e

-- ---- what filling asks of the slices that the solve left
module _ (above : ℕ) (grid : GridColumns) (level : List ℕ) (opened : OpenedColumns) (banks : List Float)
    (upsized circuits : List ℕ) (flow rate angle added : List Float)
    (h : Finishable above grid level opened banks upsized circuits flow rate angle added) where
  pub fillable : (ds : List CircuitDesign) (order : List ℕ) → order ≡ order_of (length grid.a) ds circuits flow → Fillable order grid.cap circuits
  fillable ds order e =
      record {
        named = subst (λ (m : ℕ). All (λ (j : ℕ). j < m) order) (sym h.drawing.count_size) (corridors_named ds circuits flow (length grid.a) order e);
        cap_size = h.cap_size ∙ sym h.drawing.count_size;
      }

-- ---- the stages by columns, as calls say them
module _ (mode : PlanMode) (cap : List ℕ) (above : ℕ) (led : List ℕ) (ladder : List Float) (level : List ℕ) (ds : List CircuitDesign) (upsized : List ℕ) (P : Peak) where
  pub closed_answered : (filler : ℕ) (before order circuits tier : List ℕ) (flow rate angle added : List Float) (c : Closing) (r : Result (Unit {0}) Refusal) (E : Edges)
      → solved_of r E angle flow ≡ planning_state P ds circuits (zeros P.n) → r ≡ no_refusal
      → c ≡ closing_of mode cap above led level ds circuits upsized flow angle → rate ≡ map (λ (d : CircuitDesign). d.rate_a) ds → tier ≡ tiers_of (levels_for above ladder) level
      → added ≡ up_to above nought (added_of (levels_for above ladder) level)
      → going (record { filler = filler; closing = c; before = before; order = order; circuits = circuits; tier = tier; flow = flow; rate = rate; angle = angle; added = added })
      ≡ closed_from mode cap above led ladder level ds upsized P filler before order circuits
  closed_answered filler before order circuits tier flow rate angle added c r E e q f g h i =
      rw (f, g, h, i) (solved_answered (λ v. going (ended_by mode cap above led ladder level ds upsized P filler before order circuits v)) _ r E angle flow e q)

  pub filled_are : (target m filler : ℕ) (circuits order before' order' circuits' : List ℕ) (flow : List Float)
      → order ≡ order' → order' ≡ order_of m ds circuits flow → before' ≡ circuits
      → circuits' ≡ (fill (caps_for mode cap) target order circuits).counts → filler ≡ (fill (caps_for mode cap) target order circuits).filler
      → closed_from mode cap above led ladder level ds upsized P filler before' order' circuits' ≡ filled_from mode cap above led ladder level ds upsized P target m circuits flow
  filled_are target m filler circuits order before' order' circuits' flow v o u p q =
      ap (λ (n : ℕ). closed_from mode cap above led ladder level ds upsized P n before' order' circuits') q
      ∙ ap (closed_from mode cap above led ladder level ds upsized P (fill (caps_for mode cap) target order circuits).filler before' order') p
      ∙ ap (λ (l : List ℕ). closed_after mode cap above led ladder level ds upsized P l order' (fill (caps_for mode cap) target order circuits)) u
      ∙ ap (λ (l : List ℕ). closed_after mode cap above led ladder level ds upsized P circuits order' (fill (caps_for mode cap) target l circuits)) v
      ∙ ap (filled_in mode cap above led ladder level ds upsized P target circuits) o
