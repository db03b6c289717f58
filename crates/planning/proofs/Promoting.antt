-- The passes of the raises before the rounds, one after another: what is left of them, from where the loop stands, ends as all of them do.
-- The definition counts down what is left, so that one pass less is the pass that was made.
use Rattle.std.proofs.Common.{◌≡◌, ℕ, zero, suc, ◌+◌, ◌-◌, ◌*◌, ◌<◌, ◌≤◌, Bool, true, false, List, length, sym, refl, ap, ◌∙◌, subst, arith}
use lib.Ieee.{Float}
use Rattle.loops.proofs.Loops.{gap, none}
use Rattle.refusal.specs.declared.Refusal.{Refusal}
use Rattle.mode.specs.declared.PlanMode.{PlanMode}
use Rattle.plan_defs.specs.Constants.{most_buses, most_levels}
use Rattle.plan_defs.specs.Case.{Case, promote, levels}
use Rattle.plan_defs.specs.Stage.{going}
use Rattle.plan_defs.specs.Solve.{Peak}
use Rattle.plan_defs.specs.Raise.{passes, pass_count, raises}
use Rattle.planning.specs.Design.{Lines, Banks}
use Rattle.planning.specs.Solve.{peak_for}
use Rattle.planning.specs.Sound.{Sound}
use Rattle.planning.specs.RaisePasses.{pass_for, raised_of, passed_as, RaisesWithin, Raisable, Passed, RaisesDone}
use Rattle.std.specs.Prelude.{Err, Ok, Result}
use Rattle.planning.specs.Tables.{GridColumns, SupplyColumns, OpenedColumns}

-- ---- a pass that moved none ends them, any other goes on
module _ (d : ℕ) (c : Case) (P : Peak) (circuits level : List ℕ) (banks : List Float) (promoted : ℕ) where
  none_moved : (m : ℕ) → m ≡ 0 → passed_as (Ok m) d c P circuits level banks promoted ≡ going (raised_of c level banks promoted)
  none_moved m e = ap (λ (i : ℕ). passed_as (Ok i) d c P circuits level banks promoted) e

  some_moved : (m : ℕ) → (m ≡ 0 → ⊥) → passed_as (Ok m) d c P circuits level banks promoted ≡ passes d c P circuits (raised_of c level banks (promoted + m))
  some_moved zero e = absurd (e refl)
  some_moved (suc m) e = refl

module _ (grid : GridColumns) (supply : SupplyColumns) (opened : OpenedColumns)
    (circuits : List ℕ) (floors banks₀ : List Float) (level₀ marks₀ : List ℕ) (angle₀ flow₀ : List Float) where
  abbrev C : Case → PlanMode → Case
  C o mode = pass_for o mode grid supply

  abbrev P : Case → Peak
  P o = peak_for o.buses opened.grounds opened.injection

  abbrev Begun : Type 0
  Begun = Raisable grid level₀ supply opened circuits floors banks₀ marks₀ angle₀ flow₀

  abbrev Done : PlanMode → List ℕ → List Float → Result ℕ Refusal → Type 0
  Done mode level banks r = RaisesDone mode grid level₀ supply opened circuits banks₀ level banks r

  -- ---- where the loop stands
  pub record Underway (banks : List Float) (level marks : List ℕ) (angle flow : List Float) (promoted turn : ℕ) : Type 0 where
    pub bank_size : length banks ≡ length banks₀
    pub level_size : length level ≡ length level₀
    pub mark_size : length marks ≡ length marks₀
    pub angle_size : length angle ≡ length angle₀
    pub flow_size : length flow ≡ length flow₀
    pub lines : Lines grid level
    pub banked : Banks banks
    pub turns : turn ≤ most_levels
    pub bound : promoted ≤ most_buses * turn
    pub left : (o : Case) (mode : PlanMode) (target : ℕ) → Sound (C o mode) target → length level₀ ≡ o.buses
        → passes (length grid.ladder - turn) (C o mode) (P o) circuits (raised_of (C o mode) level banks promoted)
        ≡ passes (length grid.ladder - 1) (C o mode) (P o) circuits (raised_of (C o mode) level₀ banks₀ 0)

  -- ---- all the passes, where the mode promotes and where it does not
  all_passes : (mode : PlanMode) (t : Bool) → promote mode ≡ t → (o : Case) (target : ℕ) → Sound (C o mode) target
      → passes (pass_count t (length grid.ladder)) (C o mode) (P o) circuits (raised_of (C o mode) level₀ banks₀ 0) ≡ raises (C o mode) (P o) circuits (raised_of (C o mode) level₀ banks₀ 0)
  unfolding raises
  all_passes mode t e o target sound =
      ap (λ (n : ℕ). passes (pass_count t n) (C o mode) (P o) circuits (raised_of (C o mode) level₀ banks₀ 0)) sound.ladder_size
      ∙ ap (λ (x : Bool). passes (pass_count x (levels (C o mode))) (C o mode) (P o) circuits (raised_of (C o mode) level₀ banks₀ 0)) (sym e)

  pub unpromoted : (mode : PlanMode) → promote mode ≡ false → Begun → Done mode level₀ banks₀ (Ok 0)
  unfolding passes
  unpromoted mode e p =
      record {
        raised = λ o target sound n. all_passes mode false e o target sound;
        lines = p.drawing.lines;
        banked = p.drawing.banks_ok;
        bound = omega arith;
      }

  module _ (banks : List Float) (level marks : List ℕ) (angle flow : List Float) (promoted turn : ℕ) (u : Underway banks level marks angle flow promoted turn) where
    -- ---- the next pass asks no more

    left_is : (mode : PlanMode) → promote mode ≡ true → (o : Case) (target : ℕ) → Sound (C o mode) target → length level₀ ≡ o.buses
        → passes (length grid.ladder - turn) (C o mode) (P o) circuits (raised_of (C o mode) level banks promoted) ≡ raises (C o mode) (P o) circuits (raised_of (C o mode) level₀ banks₀ 0)
    left_is mode e o target sound n = u.left o mode target sound n ∙ all_passes mode true e o target sound

    -- ---- the end: no pass is left
    pub done_last : (mode : PlanMode) → promote mode ≡ true → length grid.ladder ≤ turn → Done mode level banks (Ok promoted)
    unfolding passes
    done_last mode t h =
        record {
          raised = λ o target sound n.
              ap (λ (d : ℕ). passes d (C o mode) (P o) circuits (raised_of (C o mode) level banks promoted)) (sym (none (length grid.ladder) turn h)) ∙ left_is mode t o target sound n;
          lines = u.lines;
          banked = u.banked;
          bound = omega (arith, u.turns, u.bound);
        }

    -- ---- one pass more
    module _ (h : turn < length grid.ladder) (banks' : List Float) (level' : List ℕ) (r : Result ℕ Refusal)
        (w : Passed grid level supply opened circuits banks level' banks' r) where
      passed_is : (r' : Result ℕ Refusal) → r ≡ r' → (o : Case) (mode : PlanMode) (target : ℕ) → Sound (C o mode) target → length level₀ ≡ o.buses
          → passed_as r' (length grid.ladder - (turn + 1)) (C o mode) (P o) circuits level' banks' promoted
          ≡ passes (length grid.ladder - turn) (C o mode) (P o) circuits (raised_of (C o mode) level banks promoted)
      passed_is r' e o mode target sound n =
          ap (λ (x : Result ℕ Refusal). passed_as x (length grid.ladder - (turn + 1)) (C o mode) (P o) circuits level' banks' promoted) (sym e)
          ∙ w.passed o mode target sound (u.level_size ∙ n) (length grid.ladder - (turn + 1)) promoted
          ∙ ap (λ (d : ℕ). passes d (C o mode) (P o) circuits (raised_of (C o mode) level banks promoted)) (sym (gap (length grid.ladder) turn h))

      pub done_refused : (mode : PlanMode) → promote mode ≡ true → (f : Refusal) → r ≡ Err f → Done mode level' banks' (Err f)
      done_refused mode t f e =
          record {
            raised = λ o target sound n. passed_is (Err f) e o mode target sound n ∙ left_is mode t o target sound n;
            lines = w.lines;
            banked = w.banked;
            bound = tt;
          }

      module _ (m : ℕ) (e : r ≡ Ok m) where
        pub moved_few : m ≤ most_buses
        moved_few = subst (λ (x : Result ℕ Refusal). RaisesWithin most_buses x) e w.bound

        pub done_still : (mode : PlanMode) → promote mode ≡ true → m ≡ 0 → Done mode level' banks' (Ok promoted)
        done_still mode t z =
            record {
              raised = λ o target sound n.
                  sym (none_moved (length grid.ladder - (turn + 1)) (C o mode) (P o) circuits level' banks' promoted m z)
                  ∙ passed_is (Ok m) e o mode target sound n
                  ∙ left_is mode t o target sound n;
              lines = w.lines;
              banked = w.banked;
              bound = omega (arith, u.turns, u.bound);
            }

        pub underway_next : (m ≡ 0 → ⊥) → length grid.ladder ≤ most_levels → (marks' : List ℕ) (angle' flow' : List Float)
            → length banks' ≡ length banks → length level' ≡ length level → length marks' ≡ length marks → length angle' ≡ length angle → length flow' ≡ length flow
            → Underway banks' level' marks' angle' flow' (promoted + m) (turn + 1)
        underway_next z few marks' angle' flow' x₁ x₂ x₃ x₄ x₅ =
            record {
              bank_size = x₁ ∙ u.bank_size;
              level_size = x₂ ∙ u.level_size;
              mark_size = x₃ ∙ u.mark_size;
              angle_size = x₄ ∙ u.angle_size;
              flow_size = x₅ ∙ u.flow_size;
              lines = w.lines;
              banked = w.banked;
              turns = omega (arith, h, few);
              bound = omega (arith, u.bound, moved_few);
              left = λ o mode target sound n.
                  sym (some_moved (length grid.ladder - (turn + 1)) (C o mode) (P o) circuits level' banks' promoted m z)
                  ∙ passed_is (Ok m) e o mode target sound n
                  ∙ u.left o mode target sound n;
            }
