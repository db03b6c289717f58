-- The round loop's points: at the start of a round, at a corridor of its sizing and at a component of its stiffening, what is left to do comes to what all
-- the rounds do. Each is a record, so that a step reads off it which columns it is about.
use Rattle.std.proofs.Common.{◌≡◌, ℕ, suc, ◌+◌, ◌-◌, ◌<◌, ◌≤◌, true, false, not, ◌&&◌, ◌||◌, ltb, List, length, refl, ap, ◌∙◌, subst, arith}
use Rattle.std.specs.Prelude.{Err, Ok, Result}
use lib.Ieee.{Float}
use Rattle.refusal.specs.declared.Refusal.{Refusal}
use Rattle.refusal.specs.Reply.{no_refusal}
use Rattle.mode.specs.declared.PlanMode.{PlanMode}
use Rattle.plan_defs.specs.Constants.{stiffening_branch_budget}
use Rattle.plan_defs.specs.Lists.{sum}
use Rattle.plan_defs.specs.Stage.{Stage, stopped, going}
use Rattle.plan_defs.specs.Case.{Case, promote}
use Rattle.plan_defs.specs.Build.{build_of, drawn_all}
use Rattle.plan_defs.specs.Solve.{edges_for, planning_on}
use Rattle.plan_defs.specs.Raise.{moved_buses, no_marks}
use Rattle.plan_defs.specs.Size.{size_one, size_all}
use Rattle.plan_defs.specs.Stiffen.{hv_budget, share_of, stiffen_top, at_or_above}
use Rattle.plan_defs.specs.Rounds.{Draft}
use Rattle.planning.specs.Design.{Lines, Banks, lines_for}
use Rattle.planning.specs.Size.{size_for, sizing_of, Few}
use Rattle.planning.specs.Solve.{peak_for, solved_of}
use Rattle.planning.specs.Stiffen.{budget_for, LedStiffened}
use Rattle.planning.specs.Rounds.{rounds_case, draft_of, ran_as, Redrawn, RoundsRun}
use Rattle.planning.specs.declared.size.Tally.{Tally}
use Rattle.planning.specs.declared.edges.Edges.{Edges}
use Rattle.planning.specs.declared.budgets.Limits.{Limits}
use Rattle.planning.specs.declared.budgets.StiffeningTally.{StiffeningTally}
use Rattle.planning.specs.declared.rounds.Progress.{Progress}
use Rattle.planning.specs.Tables.{GridColumns, SupplyColumns, OpenedColumns, solved_by, edges_in}
use Rattle.planning.proofs.Corridors.{left as to-size, left_start, left_turn}
use Rattle.planning.proofs.Rounding.{SameOfAll, goes_on, stiffens_on, ended, round_refused, sized_again, sized_rested, stiffens, stiffen_refused, stiffen_next, stiffened_again, stiffened_rested}

-- what every point keeps of the levels, the circuits and the banks
pub record SweepKept (grid : GridColumns) (level circuits : List ℕ) (banks : List Float) : Type 0 where
  pub lines : Lines grid level
  pub banked : Banks banks
  pub few : Few circuits

-- the tallies while a round runs that began with these
abbrev pub running : Progress → Progress
running p = record { rounds = p.rounds + 1; promoted = p.promoted; capacity = p.capacity; stiffening = p.stiffening; converged = false; rested = false }

module _ (mode : PlanMode) (above : ℕ) (grid : GridColumns) (supply : SupplyColumns) (opened : OpenedColumns) where
  -- ---- so many rounds are left; W is what all of them lead to
  pub record Rounds (left : ℕ) (level circuits : List ℕ) (banks floors : List Float) (upsized : List ℕ) (angle : List Float) (p : Progress) (W : Case → Stage Draft) : Type 0 where
    pub whole : SameOfAll mode above grid supply opened (length opened.leader) (goes_on mode above grid supply opened (length opened.leader) left level circuits banks floors upsized angle p) W

  -- ---- a round is solved, or refused; d are left after it
  pub record SweepSolved (d : ℕ) (level circuits : List ℕ) (banks floors : List Float) (upsized : List ℕ) (p : Progress) (e : Edges) (angle flow : List Float) (r : Result (Unit {0}) Refusal)
      (W : Case → Stage Draft) : Type 0 where
    pub left : ℕ
    pub before : List Float
    pub buses : ℕ
    pub some : left ≡ suc d
    pub size : length level ≡ length opened.leader
    pub rounds : Rounds left level circuits banks floors upsized before p W
    pub edges : edges_in e ≡ edges_for (drawn_all (lines_for grid) level banks) circuits
    pub bus_size : buses ≡ length level
    pub peak : solved_of r (edges_in e) angle flow
        ≡ planning_on (peak_for buses opened.grounds opened.injection) (edges_in e) before

  -- ---- the corridors from k on are left to size
  pub record SweepSizes (d : ℕ) (level : List ℕ) (e : Edges) (angle flow : List Float) (p : Progress) (k : ℕ) (circuits : List ℕ) (banks floors : List Float) (upsized marks : List ℕ) (t : Tally)
      (W : Case → Stage Draft) : Type 0 where
    pub circuits₀ : List ℕ
    pub banks₀ : List Float
    pub floors₀ : List Float
    pub upsized₀ : List ℕ
    pub p₀ : Progress
    pub solved : SweepSolved d level circuits₀ banks₀ floors₀ upsized₀ p₀ e angle flow no_refusal W
    pub runs : p ≡ running p₀
    pub sized : to-size mode (length level) grid level flow k circuits banks floors upsized marks t
        ≡ size_all (size_for mode (length level) grid) level flow (build_of (size_for mode (length level) grid) level circuits₀ banks₀ floors₀ upsized₀) p₀.capacity

  -- ---- the components from bus i on are left to stiffen
  pub record Stiffens (d : ℕ) (level : List ℕ) (g : Limits) (e : Edges) (angle flow : List Float) (p : Progress) (t : Tally) (i : ℕ) (circuits : List ℕ) (banks floors : List Float)
      (upsized marks : List ℕ) (s : StiffeningTally) (W : Case → Stage Draft) : Type 0 where
    pub size : length level ≡ length opened.leader
    pub some : 1 ≤ p.rounds
    pub unconverged : p.converged ≡ false
    pub unrested : p.rested ≡ false
    pub whole : SameOfAll mode above grid supply opened (length opened.leader) (stiffens_on mode above grid supply opened (length opened.leader) d level g e angle flow p t i circuits banks floors upsized marks s) W

module _ {mode : PlanMode} {above : ℕ} {grid : GridColumns} {supply : SupplyColumns} {opened : OpenedColumns} {W : Case → Stage Draft} where
  -- none left
  pub rounds_end : {d : ℕ} {level circuits : List ℕ} {banks floors : List Float} {upsized : List ℕ} {angle : List Float} {p : Progress}
      → Rounds mode above grid supply opened d level circuits banks floors upsized angle p W → d ≡ 0
      → SameOfAll mode above grid supply opened (length opened.leader) (λ o. going (draft_of (rounds_case o mode above grid supply) level circuits banks floors upsized angle p)) W
  rounds_end {d} {level} {circuits} {banks} {floors} {upsized} {angle} {p} r h =
      ended mode above grid supply opened (length opened.leader) level circuits banks floors upsized angle p W d (omega (arith, h)) r.whole

  -- one more is begun: its edges are drawn, and the solve answers
  pub solved_of_round : {left : ℕ} {level circuits : List ℕ} {banks floors : List Float} {upsized : List ℕ} {p : Progress} {angle₀ angle flow : List Float} {r : Result (Unit {0}) Refusal} {buses : ℕ}
      (e : Edges) → Rounds mode above grid supply opened left level circuits banks floors upsized angle₀ p W → (left ≡ 0 → ⊥) → length level ≡ length opened.leader
      → edges_in e ≡ edges_for (drawn_all (lines_for grid) level banks) circuits
      → buses ≡ length level
      → solved_of r (edges_in e) angle flow
      ≡ planning_on (peak_for buses opened.grounds opened.injection) (edges_in e) angle₀
      → SweepSolved mode above grid supply opened (left - 1) level circuits banks floors upsized p e angle flow r W
  solved_of_round {left} e rounds some size edges bus_size peak =
      record { left = _; before = _; buses = _; some = omega (arith, some); size = size; rounds = rounds; edges = edges; bus_size = bus_size; peak = peak }

  module _ {d : ℕ} {level circuits : List ℕ} {banks floors : List Float} {upsized : List ℕ} {p : Progress} {e : Edges} {angle flow : List Float} {r : Result (Unit {0}) Refusal}
      (v : SweepSolved mode above grid supply opened d level circuits banks floors upsized p e angle flow r W) where
    pub solve_refused : {f : Refusal} → r ≡ Err f → SameOfAll mode above grid supply opened (length opened.leader) (λ o. stopped f) W
    solve_refused {f} q =
        round_refused mode above grid supply opened (length opened.leader) level circuits banks floors upsized v.before p W v.left d v.some v.size v.rounds.whole
        angle flow r e v.edges v.buses v.bus_size v.peak f q

    pub sizes_start : {marks : List ℕ} {m : ℕ} → r ≡ no_refusal → marks ≡ no_marks m → m ≡ length level
        → SweepSizes mode above grid supply opened d level e angle flow (running p) 0 circuits banks floors upsized marks (record { capacity = p.capacity; added = false; capped = false }) W
    sizes_start {marks} {m} q clear size =
        record {
          circuits₀ = circuits;
          banks₀ = banks;
          floors₀ = floors;
          upsized₀ = upsized;
          p₀ = p;
          solved = subst (λ (x : Result (Unit {0}) Refusal). SweepSolved mode above grid supply opened d level circuits banks floors upsized p e angle flow x W) q v;
          runs = refl;
          sized = left_start mode (length level) grid level flow circuits banks floors upsized marks p.capacity m clear size;
        }

  module _ {d : ℕ} {level : List ℕ} {e : Edges} {angle flow : List Float} {p : Progress} {k : ℕ} {circuits : List ℕ} {banks floors : List Float} {upsized marks : List ℕ} {t : Tally}
      (z : SweepSizes mode above grid supply opened d level e angle flow p k circuits banks floors upsized marks t W) where
    pub sizes_turn : {circuits' : List ℕ} {banks' floors' : List Float} {upsized' marks' : List ℕ} {t' : Tally} → k < length grid.a
        → sizing_of (size_for mode (length level) grid) level circuits' banks' floors' upsized' marks' t' ≡ size_one (size_for mode (length level) grid) level flow k (sizing_of (size_for mode (length level) grid) level circuits banks floors upsized marks t)
        → SweepSizes mode above grid supply opened d level e angle flow p (k + 1) circuits' banks' floors' upsized' marks' t' W
    sizes_turn {circuits'} {banks'} {floors'} {upsized'} {marks'} {t'} h q =
        record {
          circuits₀ = z.circuits₀;
          banks₀ = z.banks₀;
          floors₀ = z.floors₀;
          upsized₀ = z.upsized₀;
          p₀ = z.p₀;
          solved = z.solved;
          runs = z.runs;
          sized = left_turn mode (length level) grid level flow k circuits banks floors upsized marks t circuits' banks' floors' upsized' marks' t' h q ∙ z.sized;
        }

    -- after the last corridor: a raise, then an addition, leads to another round
    module _ (all : length grid.a ≤ k) where
      pub sizes_again : {level' : List ℕ} {banks' : List Float} {moved : ℕ} → Redrawn grid level supply marks floors banks level' banks' moved → (ltb 0 moved || t.added) ≡ true
          → Rounds mode above grid supply opened d level' circuits banks' floors upsized angle
          (record { rounds = p.rounds; promoted = p.promoted + moved; capacity = t.capacity; stiffening = p.stiffening; converged = p.converged; rested = p.rested }) W
      sizes_again {level'} {banks'} {moved} redrawn h =
          let v = z.solved in
          record {
            whole = sized_again mode above grid supply opened (length opened.leader) level z.circuits₀ z.banks₀ z.floors₀ z.upsized₀ v.before z.p₀ W v.left d v.some v.size v.rounds.whole
                angle flow no_refusal e v.edges v.buses v.bus_size v.peak refl circuits banks floors upsized marks t k all z.sized p z.runs
                level' banks' moved redrawn h;
          }

      -- a mode that does not promote is done
      pub sizes_rested : {level' : List ℕ} {banks' : List Float} {moved : ℕ} → Redrawn grid level supply marks floors banks level' banks' moved → (ltb 0 moved || t.added) ≡ false → promote mode ≡ false
          → SameOfAll mode above grid supply opened (length opened.leader) (λ o.
          going (draft_of (rounds_case o mode above grid supply) level' circuits banks' floors upsized angle
          (record { rounds = p.rounds; promoted = p.promoted; capacity = t.capacity; stiffening = p.stiffening; converged = not t.capped; rested = true }))) W
      sizes_rested {level'} {banks'} {moved} redrawn h m =
          let v = z.solved in
          sized_rested mode above grid supply opened (length opened.leader) level z.circuits₀ z.banks₀ z.floors₀ z.upsized₀ v.before z.p₀ W v.left d v.some v.size v.rounds.whole
          angle flow no_refusal e v.edges v.buses v.bus_size v.peak refl circuits banks floors upsized marks t k all z.sized p z.runs
          level' banks' moved redrawn h m

      -- one that does begins to stiffen
      pub stiffens_start : {g : Limits} {marks' : List ℕ} {u : StiffeningTally} → (promote mode ≡ true) × (moved_buses level marks ≡ 0) × (t.added ≡ false)
          → budget_for g ≡ record { hv = hv_budget (length level); branches = share_of stiffening_branch_budget (length level); top = stiffen_top above (hv_budget (length level)) level }
          → marks' ≡ no_marks (length level)
          → u ≡ record { total = sum circuits; hv = at_or_above level g.top; stiffening = p.stiffening; wide = false; stiffened = false }
          → Stiffens mode above grid supply opened d level g e angle flow p t 0 circuits banks floors upsized marks' u W
      stiffens_start {g} {marks'} {u} none limits clear begin =
          let v = z.solved in
          record {
            size = v.size;
            some = omega (arith, ap (λ (q : Progress). q.rounds) z.runs);
            unconverged = ap (λ (q : Progress). q.converged) z.runs;
            unrested = ap (λ (q : Progress). q.rested) z.runs;
            whole = stiffens mode above grid supply opened (length opened.leader) level z.circuits₀ z.banks₀ z.floors₀ z.upsized₀ v.before z.p₀ W v.left d v.some v.size v.rounds.whole
                angle flow no_refusal e v.edges v.buses v.bus_size v.peak refl circuits banks floors upsized marks t k all z.sized
                none.1 none.2 none.0 p z.runs g marks' u limits clear begin;
          }

  module _ {d : ℕ} {level : List ℕ} {g : Limits} {e : Edges} {angle flow : List Float} {p : Progress} {t : Tally} {i : ℕ} {circuits : List ℕ} {banks floors : List Float} {upsized marks : List ℕ}
      {s : StiffeningTally} (z : Stiffens mode above grid supply opened d level g e angle flow p t i circuits banks floors upsized marks s W) where
    module _ {circuits' : List ℕ} {banks' floors' : List Float} {upsized' marks' : List ℕ} {r : Result StiffeningTally Refusal} (more : i < length opened.leader)
        (led : LedStiffened i p.rounds (solved_by g grid level opened e angle) circuits banks floors upsized marks s circuits' banks' floors' upsized' marks' r) where
      pub stiffens_refused : {f : Refusal} → r ≡ Err f → SameOfAll mode above grid supply opened (length opened.leader) (λ o. stopped f) W
      stiffens_refused {f} q =
          stiffen_refused mode above grid supply opened (length opened.leader) W d level g e angle flow p t z.size i circuits banks floors upsized marks s z.whole more circuits' banks' floors' upsized' marks' r led f q

      pub stiffens_turn : {s' : StiffeningTally} → r ≡ Ok s' → Stiffens mode above grid supply opened d level g e angle flow p t (i + 1) circuits' banks' floors' upsized' marks' s' W
      stiffens_turn {s'} q =
          record {
            size = z.size;
            some = z.some;
            unconverged = z.unconverged;
            unrested = z.unrested;
            whole = stiffen_next mode above grid supply opened (length opened.leader) W d level g e angle flow p t z.size i circuits banks floors upsized marks s z.whole more circuits' banks' floors' upsized' marks' r led s' q;
          }

    -- after the last component: a raise, then anything else that was done, leads to another round
    module _ {level' : List ℕ} {banks' : List Float} {moved : ℕ} (all : length opened.leader ≤ i) (redrawn : Redrawn grid level supply marks floors banks level' banks' moved) where
      pub stiffens_again : (ltb 0 moved || s.stiffened) ≡ true
          → Rounds mode above grid supply opened d level' circuits banks' floors upsized angle
          (record { rounds = p.rounds; promoted = p.promoted + moved; capacity = t.capacity; stiffening = s.stiffening; converged = p.converged; rested = p.rested }) W
      stiffens_again h =
          record {
            whole = stiffened_again mode above grid supply opened (length opened.leader) W d level g e angle flow p t z.size i circuits banks floors upsized marks s z.whole all z.some z.unconverged z.unrested level' banks' moved redrawn h;
          }

      pub stiffens_rested : (ltb 0 moved || s.stiffened) ≡ false
          → SameOfAll mode above grid supply opened (length opened.leader) (λ o.
          going (draft_of (rounds_case o mode above grid supply) level' circuits banks' floors upsized angle
          (record { rounds = p.rounds; promoted = p.promoted + moved; capacity = t.capacity; stiffening = s.stiffening; converged = not s.wide && not t.capped; rested = true }))) W
      stiffens_rested h =
          stiffened_rested mode above grid supply opened (length opened.leader) W d level g e angle flow p t z.size i circuits banks floors upsized marks s z.whole all z.some z.unconverged z.unrested level' banks' moved redrawn h

-- ---- what the rounds leave
pub run_of : {mode : PlanMode} {above budget : ℕ} {start : Progress} {grid : GridColumns} {level : List ℕ} {supply : SupplyColumns} {opened : OpenedColumns}
    {circuits : List ℕ} {banks floors : List Float} {upsized : List ℕ} {angle : List Float} {level' circuits' : List ℕ} {banks' floors' : List Float} {upsized' : List ℕ} {angle' : List Float}
    {r : Result Progress Refusal} → length opened.leader ≡ length level → SweepKept grid level' circuits' banks'
    → SameOfAll mode above grid supply opened (length opened.leader) (λ o. ran_as r (rounds_case o mode above grid supply) level' circuits' banks' floors' upsized' angle')
    (goes_on mode above grid supply opened (length opened.leader) budget level circuits banks floors upsized angle start)
    → RoundsRun mode above budget start grid level supply opened circuits banks floors upsized angle level' circuits' banks' floors' upsized' angle' r
run_of n k h = record { ran = λ o target s e caps. h o target s (n ∙ e, caps); lines = k.lines; banked = k.banked; few = k.few }
