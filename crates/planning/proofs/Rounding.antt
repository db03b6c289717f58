-- The round loop over slices is the defined rounds: what is left to do from each point of a round comes to what the whole does,
-- of every case with the columns that the rounds read.
use Rattle.std.proofs.Common.{◌≡◌, ℕ, zero, suc, ◌+◌, ◌-◌, ◌*◌, ◌<◌, ◌≤◌, Bool, true, false, not, ◌&&◌, ◌||◌, ltb, leb, List, [], ◌∷◌, length, get_or, sym, refl, ap, ◌∙◌, subst, add-zero, add-one, arith, lt-ltb}
use lib.Ieee.{Float}
use Rattle.loops.specs.Bounds.{most_initial}
use Rattle.loops.proofs.Bools.{no, or_left}
use Rattle.refusal.specs.declared.Refusal.{Refusal}
use Rattle.mode.specs.declared.PlanMode.{PlanMode}
use Rattle.angles_defs.specs.Network.{Edges, edges_of}
use Rattle.plan_defs.specs.Constants.{stiffening_branch_budget}
use Rattle.plan_defs.specs.Lists.{pass_from, sum}
use Rattle.plan_defs.specs.Stage.{Stage, stopped, going, onward, each_stage}
use Rattle.plan_defs.specs.Case.{Case, promote}
use Rattle.plan_defs.specs.Components.{leads, roots}
use Rattle.plan_defs.specs.Build.{built, build_of, drawn_all, rebuilt}
use Rattle.plan_defs.specs.Solve.{Peak, PlanningCase, edges_for, planning_on, planning_state}
use Rattle.plan_defs.specs.Raise.{raised_levels, moved_buses, no_marks}
use Rattle.plan_defs.specs.Size.{Sizing, sizing, size_all}
use Rattle.plan_defs.specs.Stiffen.{Budget, Stiffening, budget_of, hv_budget, share_of, stiffen_top, at_or_above, stiffen_from, stiffen_component, stiffen_all}
use Rattle.plan_defs.specs.Rounds.{Draft, draft, Turn, stiffened_by, stiffened_to, stiffen_with, sized_to, one_round, continue, rounds}
use Rattle.plan_defs.specs.declared.CircuitDesign.{CircuitDesign}
use Rattle.plan_defs.proofs.Drawn.{rebuilt_is}
use Rattle.planning.specs.Design.{lines_for}
use Rattle.planning.specs.Size.{size_for, sizing_of, Few}
use Rattle.planning.specs.Solve.{peak_for, solved_of}
use Rattle.planning.specs.Sound.{Sound}
use Rattle.planning.specs.Stiffen.{budget_for, stiff_of, stiffened_as, round_of, LedStiffened}
use Rattle.planning.specs.Whole.{with_units}
use Rattle.planning.specs.Rounds.{rounds_case, draft_of, Redrawn}
use Rattle.planning.specs.declared.size.Tally.{Tally}
use Rattle.planning.specs.declared.edges.Edges.{Edges as Own}
use Rattle.planning.specs.declared.budgets.Limits.{Limits}
use Rattle.planning.specs.declared.budgets.StiffeningTally.{StiffeningTally}
use Rattle.planning.specs.declared.rounds.Progress.{Progress}
use Rattle.plan_defs.proofs.Lists.{count_most}
use Rattle.planning.proofs.Builds.{drawn_all_lifts}
use Rattle.planning.proofs.Redesigns.{banks_lift}
use Rattle.planning.proofs.States.{state_of}
use Rattle.planning.proofs.Corridors.{left, left_end, size_lifts}
use Rattle.planning.proofs.Stages.{stage_step, stage_end}
use Rattle.planning.proofs.Passing.{pass_start}
use Rattle.std.specs.Prelude.{Err, Ok, Result}
use Rattle.refusal.specs.Reply.{no_refusal}
use Rattle.planning.specs.Tables.{GridColumns, grid_of, SupplyColumns, OpenedColumns, solved_by, edges_in}

onward_same : {S T : Type 0} (st : Stage S) (f g : S → Stage T) → ((s : S) → f s ≡ g s) → onward st f ≡ onward st g
onward_same (stopped r) f g e = refl
onward_same (going s) f g e = e s

-- ---- a round whose sizing raised and added nothing
pub nothing_done : (moved : ℕ) (added : Bool) → (ltb 0 moved || added) ≡ false → (moved ≡ 0) × (added ≡ false)
nothing_done zero added h = (refl, h)
nothing_done (suc m) added h = absurd (no h (or_left (ltb 0 (suc m)) added (lt-ltb 0 (suc m) (omega arith))))

-- ---- the tallies with which stiffening begins
pub few_sum : (l : List ℕ) → Few l → sum l ≤ most_initial * length l
unfolding sum
few_sum [] f = omega arith
few_sum (x ∷ l) f = omega (arith, f 0, few_sum l (λ k. f (suc k)))

pub few_high : (level : List ℕ) (top : ℕ) → at_or_above level top ≤ length level
few_high level top = count_most (λ i. leb (get_or level i 0) top) (length level) 0

module _ (mode : PlanMode) (above : ℕ) (grid : GridColumns) (supply : SupplyColumns) (opened : OpenedColumns)
    (n : ℕ) where
  abbrev C : Case → Case
  C o = rounds_case o mode above grid supply

  abbrev P : Case → Peak
  P o = peak_for o.buses opened.grounds opened.injection

  -- ---- two ways to go on that come to the same, of every such case of n buses with these caps
  abbrev pub Fits : Case → Type 0
  Fits o = (n ≡ o.buses) × (o.cap ≡ grid.cap)

  abbrev pub SameOfAll : (Case → Stage Draft) → (Case → Stage Draft) → Type 0
  SameOfAll X W = (o : Case) (target : ℕ) → Sound (C o) target → Fits o → X o ≡ W o

  -- d rounds from what the slices hold, and what follows a round
  abbrev pub goes_on : ℕ → List ℕ → List ℕ → List Float → List Float → List ℕ → List Float → Progress → Case → Stage Draft
  goes_on d level circuits banks floors upsized angle p o = rounds (C o) (P o) opened.leader d (draft_of (C o) level circuits banks floors upsized angle p)

  -- none left
  pub ended : (level circuits : List ℕ) (banks floors : List Float) (upsized : List ℕ) (angle : List Float) (p : Progress) (W : Case → Stage Draft) (d : ℕ) → d ≤ 0
      → SameOfAll (goes_on d level circuits banks floors upsized angle p) W → SameOfAll (λ o. going (draft_of (C o) level circuits banks floors upsized angle p)) W
  unfolding rounds
  ended level circuits banks floors upsized angle p W d h whole o target s e =
      let z : 0 ≡ d = omega arith in
      ap (λ (m : ℕ). rounds (C o) (P o) opened.leader m (draft_of (C o) level circuits banks floors upsized angle p)) z ∙ whole o target s e

  abbrev next : ℕ → Case → Turn → Stage Draft
  next d o t = continue (C o) (P o) opened.leader t.end t.draft (rounds (C o) (P o) opened.leader d)

  abbrev then : ℕ → Case → Stage Turn → Stage Draft
  then d o st = onward st (next d o)

  -- ---- after the components: of the round's state only its level, tallies and angles are read
  abbrev closes : List ℕ → List Float → Progress → Tally → Case → Stiffening → Stage Turn
  closes level theta p t o u =
      stiffened_to (C o) (P o) opened.leader (draft level (built [] [] [] []) [] (p.rounds - 1) p.promoted p.capacity p.stiffening false false)
      (record { edges = edges_of [] [] []; theta = theta; flows = [] }) (sizing (built [] [] [] []) [] t.capacity t.added t.capped) u

  abbrev component : List ℕ → ℕ → Limits → Own → List Float → List Float → Case → ℕ → Stiffening → Stage Stiffening
  component level round g E theta flow o =
      stiffen_component (C o) (P o) opened.leader level round (budget_for g) (round_of E theta flow)

  -- the components from bus i on, and what follows them
  unfoldable pub stiffens_on : ℕ → List ℕ → Limits → Own → List Float → List Float → Progress → Tally → ℕ → List ℕ → List Float → List Float → List ℕ → List ℕ → StiffeningTally
      → Case → Stage Draft
  stiffens_on d level g E theta flow p t i circuits banks floors upsized marks s o =
      then d o
      (onward
      (each_stage (component level p.rounds g E theta flow o) (pass_from (leads opened.leader) (length opened.leader - i) i) (stiff_of (C o) level circuits banks floors upsized marks s))
      (closes level theta p t o))

  -- ---- after a raise: the draft that the slices stand for
  module _ (level : List ℕ) (marks : List ℕ) (circuits : List ℕ) (banks floors : List Float) (upsized : List ℕ) (level' : List ℕ) (banks' : List Float) (moved : ℕ)
      (redrawn : Redrawn grid level supply marks floors banks level' banks' moved) where
    still_build : (o : Case) → moved ≡ 0 → build_of (C o) level' circuits banks' floors upsized ≡ build_of (C o) level circuits banks floors upsized
    still_build o e = rw ((redrawn.still e).0, (redrawn.still e).1)

    anew_build : (o : Case) (target m : ℕ) → Sound (C o) target → moved ≡ suc m
        → build_of (C o) level' circuits banks' floors upsized ≡ rebuilt (C o) (raised_levels level marks) (build_of (C o) level circuits banks floors upsized)
    anew_build o target m s e =
        let q = redrawn.anew m e in
        ap (λ (l : List ℕ). build_of (C o) l circuits banks' floors upsized) q.0
        ∙ ap (λ (x : List Float). build_of (C o) (raised_levels level marks) circuits x floors upsized) (q.1 ∙ banks_lift (C o) grid.sheet refl (raised_levels level marks) s.a_size s.bus_size s.ladder_size floors)
        ∙ sym (rebuilt_is (C o) (raised_levels level marks) circuits (drawn_all (C o) level banks) floors upsized)

  -- ---- a round: it begins with d + 1 left, and is solved
  module _ (level circuits : List ℕ) (banks floors : List Float) (upsized : List ℕ) (angle : List Float) (p : Progress) (W : Case → Stage Draft) (d' d : ℕ) (some : d' ≡ suc d)
      (size : length level ≡ n) (whole : SameOfAll (goes_on d' level circuits banks floors upsized angle p) W) (theta flow : List Float) (r : Result (Unit {0}) Refusal)
      (E : Own) (edges : edges_in E ≡ edges_for (drawn_all (lines_for grid) level banks) circuits) (angles : ℕ) (angle_size : angles ≡ length level)
      (peak : solved_of r (edges_in E) theta flow ≡ planning_on (peak_for angles opened.grounds opened.injection) (edges_in E) angle) where
    solved : solved_of r (edges_for (drawn_all (lines_for grid) level banks) circuits) theta flow
        ≡ planning_state (peak_for (length level) opened.grounds opened.injection) (drawn_all (lines_for grid) level banks) circuits angle
    solved = state_of grid level circuits banks (edges_in E) edges angles angle_size opened.grounds opened.injection angle r theta flow peak

    -- the tallies while the round runs
    abbrev pub running : Progress
    running = record { rounds = p.rounds + 1; promoted = p.promoted; capacity = p.capacity; stiffening = p.stiffening; converged = false; rested = false }

    abbrev S : Case → Draft
    S o = draft_of (C o) level circuits banks floors upsized angle p

    abbrev Solved : Case → PlanningCase
    Solved o = record { edges = edges_for (drawn_all (C o) level banks) circuits; theta = theta; flows = flow }

    lifted : (o : Case) (target : ℕ) → Sound (C o) target → Fits o → solved_of r (Solved o).edges theta flow ≡ planning_state (P o) (drawn_all (C o) level banks) circuits angle
    lifted o target s e =
        let l = drawn_all_lifts (C o) level grid.sheet refl banks s.a_size s.ladder_size in
        ap (λ (ds : List CircuitDesign). solved_of r (edges_for ds circuits) theta flow) (sym l) ∙ solved
        ∙ ap (λ (ds : List CircuitDesign). planning_state (peak_for (length level) opened.grounds opened.injection) ds circuits angle) l
        ∙ ap (λ (m : ℕ). planning_state (peak_for m opened.grounds opened.injection) (drawn_all (C o) level banks) circuits angle) (size ∙ e.0)

    begun : (o : Case) (target : ℕ) → Sound (C o) target → Fits o → then d o (one_round (C o) (P o) opened.leader (S o)) ≡ W o
    unfolding rounds
    begun o target s e = ap (λ (m : ℕ). rounds (C o) (P o) opened.leader m (S o)) (sym some) ∙ whole o target s e

    pub round_refused : (f : Refusal) → r ≡ Err f → SameOfAll (λ o. stopped f) W
    unfolding one_round
    round_refused f q o target s e =
        let z : stopped f ≡ planning_state (P o) (drawn_all (C o) level banks) circuits angle =
        ap (λ (x : Result (Unit {0}) Refusal). solved_of x (Solved o).edges theta flow) (sym q) ∙ lifted o target s e in
        ap (λ (st : Stage PlanningCase). then d o (onward st (λ v. sized_to (C o) (P o) opened.leader (S o) v (size_all (C o) level v.flows (S o).build p.capacity)))) z ∙ begun o target s e

    round_solved : r ≡ no_refusal → SameOfAll (λ o. then d o (sized_to (C o) (P o) opened.leader (S o) (Solved o) (size_all (C o) level flow (S o).build p.capacity))) W
    unfolding one_round
    round_solved q o target s e =
        let z : going (Solved o) ≡ planning_state (P o) (drawn_all (C o) level banks) circuits angle =
        ap (λ (x : Result (Unit {0}) Refusal). solved_of x (Solved o).edges theta flow) (sym q) ∙ lifted o target s e in
        ap (λ (st : Stage PlanningCase). then d o (onward st (λ v. sized_to (C o) (P o) opened.leader (S o) v (size_all (C o) level v.flows (S o).build p.capacity)))) z ∙ begun o target s e

    -- ---- every corridor is sized
    module _ (q : r ≡ no_refusal) (circuits' : List ℕ) (banks' floors' : List Float) (upsized' marks' : List ℕ) (t : Tally) (k : ℕ) (all : length grid.a ≤ k)
        (sized : left mode (length level) grid level flow k circuits' banks' floors' upsized' marks' t
        ≡ size_all (size_for mode (length level) grid) level flow (build_of (size_for mode (length level) grid) level circuits banks floors upsized) p.capacity) where
      abbrev Z : Case → Sizing
      Z o = sizing_of (C o) level circuits' banks' floors' upsized' marks' t

      sized_is : (o : Case) (target : ℕ) → Sound (C o) target → Fits o → Z o ≡ size_all (C o) level flow (S o).build p.capacity
      sized_is o target s e =
          size_lifts (C o) grid.sheet refl level flow p.capacity circuits banks floors upsized circuits' banks' floors' upsized' marks' t (size ∙ e.0) s.a_size s.ladder_size
          (subst (λ (l : List ℕ).
          sizing_of (size_for mode (length level) (grid_of grid.ladder grid.a grid.b grid.km grid.share l grid.sheet)) level circuits' banks' floors' upsized' marks' t
          ≡ size_all (size_for mode (length level) (grid_of grid.ladder grid.a grid.b grid.km grid.share l grid.sheet)) level flow (build_of (size_for mode (length level) (grid_of grid.ladder grid.a grid.b grid.km grid.share l grid.sheet)) level circuits banks floors upsized) p.capacity) (sym e.1)
          (sym (left_end mode (length level) grid level flow k circuits' banks' floors' upsized' marks' t all) ∙ sized))

      sized_on : SameOfAll (λ o. then d o (sized_to (C o) (P o) opened.leader (S o) (Solved o) (Z o))) W
      sized_on o target s e = ap (λ (z : Sizing). then d o (sized_to (C o) (P o) opened.leader (S o) (Solved o) z)) (sized_is o target s e) ∙ round_solved q o target s e

      module _ (p' : Progress) (runs : p' ≡ running) (level'' : List ℕ) (banks'' : List Float) (moved : ℕ) (redrawn : Redrawn grid level supply marks' floors' banks' level'' banks'' moved) where
        abbrev grown : Progress
        grown = record { rounds = p.rounds + 1; promoted = p.promoted + moved; capacity = t.capacity; stiffening = p.stiffening; converged = false; rested = false }

        -- a raise, then an addition, leads to another round
        pub sized_again : (ltb 0 moved || t.added) ≡ true
            → SameOfAll (goes_on d level'' circuits' banks'' floors' upsized' theta
            (record { rounds = p'.rounds; promoted = p'.promoted + moved; capacity = t.capacity; stiffening = p'.stiffening; converged = p'.converged; rested = p'.rested })) W
        sized_again h o target s e =
            ap (λ (x : Progress).
            goes_on d level'' circuits' banks'' floors' upsized' theta
            (record { rounds = x.rounds; promoted = x.promoted + moved; capacity = t.capacity; stiffening = x.stiffening; converged = x.converged; rested = x.rested }) o) runs
            ∙ go moved refl h
            ∙ sized_on o target s e
          where
            go : (m : ℕ) → moved ≡ m → (ltb 0 m || t.added) ≡ true → goes_on d level'' circuits' banks'' floors' upsized' theta grown o ≡ then d o (sized_to (C o) (P o) opened.leader (S o) (Solved o) (Z o))
            go zero u v =
                let w : moved_buses level marks' ≡ 0 = sym redrawn.count ∙ u in
                let x : level'' ≡ level = (redrawn.still u).0 in
                let y = still_build level marks' circuits' banks' floors' upsized' level'' banks'' moved redrawn o u in
                rw (y, x, u, add-zero p.promoted, add-one p.rounds, w, v)
            go (suc m) u v =
                let w : moved_buses level marks' ≡ suc m = sym redrawn.count ∙ u in
                let x : level'' ≡ raised_levels level marks' = (redrawn.anew m u).0 in
                let y = anew_build level marks' circuits' banks' floors' upsized' level'' banks'' moved redrawn o target m s u in
                rw (y, x, u, add-one p.rounds, w)

        module _ (h : (ltb 0 moved || t.added) ≡ false) where
          still : moved_buses level marks' ≡ 0
          still = sym redrawn.count ∙ (nothing_done moved t.added h).0

          -- a mode that does not promote is done
          pub sized_rested : promote mode ≡ false
              → SameOfAll (λ o.
              going (draft_of (C o) level'' circuits' banks'' floors' upsized' theta
              (record { rounds = p'.rounds; promoted = p'.promoted; capacity = t.capacity; stiffening = p'.stiffening; converged = not t.capped; rested = true }))) W
          sized_rested m o target s e =
              let x : level'' ≡ level = (redrawn.still (nothing_done moved t.added h).0).0 in
              let y = still_build level marks' circuits' banks' floors' upsized' level'' banks'' moved redrawn o (nothing_done moved t.added h).0 in
              let z : going (draft_of (C o) level'' circuits' banks'' floors' upsized' theta (record { rounds = p.rounds + 1; promoted = p.promoted; capacity = t.capacity; stiffening = p.stiffening; converged = not t.capped; rested = true }))
              ≡ then d o (sized_to (C o) (P o) opened.leader (S o) (Solved o) (Z o)) = rw (y, x, add-one p.rounds, still, (nothing_done moved t.added h).1, m) in
              ap (λ (x : Progress).
              going (draft_of (C o) level'' circuits' banks'' floors' upsized' theta
              (record { rounds = x.rounds; promoted = x.promoted; capacity = t.capacity; stiffening = x.stiffening; converged = not t.capped; rested = true }))) runs
              ∙ z
              ∙ sized_on o target s e

      -- ---- one that does begins to stiffen
      module _ (same : moved_buses level marks' ≡ 0) (none : t.added ≡ false) (m : promote mode ≡ true) (p' : Progress) (runs : p' ≡ running) (g : Limits) (marks'' : List ℕ) (u : StiffeningTally)
          (limits : budget_for g ≡ record { hv = hv_budget (length level); branches = share_of stiffening_branch_budget (length level); top = stiffen_top above (hv_budget (length level)) level })
          (clear : marks'' ≡ no_marks (length level))
          (begin : u ≡ record { total = sum circuits'; hv = at_or_above level g.top; stiffening = p'.stiffening; wide = false; stiffened = false }) where
        abbrev budget_at : ℕ → Budget
        budget_at i = record { hv = hv_budget i; branches = share_of stiffening_branch_budget i; top = stiffen_top above (hv_budget i) level }

        budget_is : (o : Case) → n ≡ o.buses → budget_for g ≡ budget_of (C o) level
        unfolding budget_of
        budget_is o e =
            limits ∙ ap budget_at (size ∙ e)

        round_is : (o : Case) (target : ℕ) → Sound (C o) target → Fits o → round_of E theta flow ≡ Solved o
        round_is o target s e =
            ap (λ (x : Edges). the_case x)
            (edges
            ∙ ap (λ (ds : List CircuitDesign). edges_for ds circuits) (drawn_all_lifts (C o) level grid.sheet refl banks s.a_size s.ladder_size))
          where
            the_case : Edges → PlanningCase
            the_case x = record { edges = x; theta = theta; flows = flow }

        start_is : (o : Case) → n ≡ o.buses → stiff_of (C o) level circuits' banks' floors' upsized' marks'' u ≡ stiffen_from level (budget_of (C o) level) (Z o).build p.stiffening
        unfolding stiffen_from
        start_is o e = rw (begin, clear, ap (λ (B : Budget). B.top) (budget_is o e), ap (λ (x : Progress). x.stiffening) runs)

        closes_is : (o : Case) (v : Stiffening) → closes level theta running t o v ≡ stiffened_to (C o) (P o) opened.leader (S o) (Solved o) (Z o) v
        closes_is o v = go (moved_buses level v.marks)
          where
            back : p.rounds + 1 - 1 ≡ p.rounds
            back = omega arith

            go : (i : ℕ)
                → going (stiffened_by (C o) (P o) opened.leader i (draft level (built [] [] [] []) [] (p.rounds + 1 - 1) p.promoted p.capacity p.stiffening false false)
                (record { edges = edges_of [] [] []; theta = theta; flows = [] }) (sizing (built [] [] [] []) [] t.capacity t.added t.capped) v)
                ≡ going (stiffened_by (C o) (P o) opened.leader i (S o) (Solved o) (Z o) v)
            go zero = rw back
            go (suc i) = rw back

        stiffens_running : SameOfAll (stiffens_on d level g E theta flow running t 0 circuits' banks' floors' upsized' marks'' u) W
        unfolding stiffens_on stiffen_all
        stiffens_running o target s e =
            let G = budget_of (C o) level in
            let start = stiffen_from level G (Z o).build p.stiffening in
            let ends = closes level theta running t o in
            ap (λ (ks : List ℕ). then d o (onward (each_stage (component level (p.rounds + 1) g E theta flow o) ks (stiff_of (C o) level circuits' banks' floors' upsized' marks'' u)) ends))
            (pass_start (leads opened.leader) (length opened.leader))
            ∙ ap (λ (x : Stiffening). then d o (onward (each_stage (component level (p.rounds + 1) g E theta flow o) (roots opened.leader) x) ends)) (start_is o e.0)
            ∙ ap (λ (B : Budget). then d o (onward (each_stage (stiffen_component (C o) (P o) opened.leader level (p.rounds + 1) B (round_of E theta flow)) (roots opened.leader) start) ends)) (budget_is o e.0)
            ∙ ap (λ (v : PlanningCase). then d o (onward (each_stage (stiffen_component (C o) (P o) opened.leader level (p.rounds + 1) G v) (roots opened.leader) start) ends)) (round_is o target s e)
            ∙ ap (λ (i : ℕ). then d o (onward (each_stage (stiffen_component (C o) (P o) opened.leader level i G (Solved o)) (roots opened.leader) start) ends)) (add-one p.rounds)
            ∙ ap (then d o) (onward_same (each_stage (stiffen_component (C o) (P o) opened.leader level (suc p.rounds) G (Solved o)) (roots opened.leader) start) ends (stiffened_to (C o) (P o) opened.leader (S o) (Solved o) (Z o)) (closes_is o))
            ∙ ap (then d o) (sym (to_stiffen o))
            ∙ sized_on o target s e
          where
            to_stiffen : (o : Case) → sized_to (C o) (P o) opened.leader (S o) (Solved o) (Z o) ≡ stiffen_with (C o) (P o) opened.leader (S o) (Solved o) (Z o) (budget_of (C o) level)
            to_stiffen o = rw (same, none, m)

        pub stiffens : SameOfAll (stiffens_on d level g E theta flow p' t 0 circuits' banks' floors' upsized' marks'' u) W
        stiffens o target s e = ap (λ (x : Progress). stiffens_on d level g E theta flow x t 0 circuits' banks' floors' upsized' marks'' u o) runs ∙ stiffens_running o target s e

  -- ---- the components, one bus after another
  module _ (W : Case → Stage Draft) (d : ℕ) (level : List ℕ) (g : Limits) (E : Own) (theta flow : List Float) (p : Progress) (t : Tally) (size : length level ≡ n)
      (i : ℕ) (circuits : List ℕ) (banks floors : List Float) (upsized marks : List ℕ) (s : StiffeningTally)
      (whole : SameOfAll (stiffens_on d level g E theta flow p t i circuits banks floors upsized marks s) W) where
    module _ (more : i < length opened.leader) (circuits' : List ℕ) (banks' floors' : List Float) (upsized' marks' : List ℕ) (r : Result StiffeningTally Refusal)
        (led : LedStiffened i p.rounds (solved_by g grid level opened E theta) circuits banks floors upsized marks s circuits' banks' floors' upsized' marks' r) where
      stepped : (o : Case) (target : ℕ) → Sound (C o) target → Fits o
          → then d o (onward (onward (stiffened_as r (C o) level circuits' banks' floors' upsized' marks') (each_stage (component level p.rounds g E theta flow o) (pass_from (leads opened.leader) (length opened.leader - (i + 1)) (i + 1)))) (closes level theta p t o))
          ≡ W o
      unfolding stiffens_on
      stepped o target sound e =
          ap (λ (st : Stage Stiffening). then d o (onward st (closes level theta p t o)))
          (stage_step (component level p.rounds g E theta flow o) (leads opened.leader) (length opened.leader) i more (stiff_of (C o) level circuits banks floors upsized marks s)
          (stiffened_as r (C o) level circuits' banks' floors' upsized' marks') (led.stiffened (with_units o mode above supply) target opened.injection flow sound (size ∙ e.0) e.1))
          ∙ whole o target sound e

      pub stiffen_refused : (f : Refusal) → r ≡ Err f → SameOfAll (λ o. stopped f) W
      stiffen_refused f q o target sound e =
          ap (λ (x : Result StiffeningTally Refusal). then d o (onward (onward (stiffened_as x (C o) level circuits' banks' floors' upsized' marks') (each_stage (component level p.rounds g E theta flow o) (pass_from (leads opened.leader) (length opened.leader - (i + 1)) (i + 1)))) (closes level theta p t o)))
          (sym q) ∙ stepped o target sound e

      pub stiffen_next : (s' : StiffeningTally) → r ≡ Ok s' → SameOfAll (stiffens_on d level g E theta flow p t (i + 1) circuits' banks' floors' upsized' marks' s') W
      unfolding stiffens_on
      stiffen_next s' q o target sound e =
          ap (λ (x : Result StiffeningTally Refusal). then d o (onward (onward (stiffened_as x (C o) level circuits' banks' floors' upsized' marks') (each_stage (component level p.rounds g E theta flow o) (pass_from (leads opened.leader) (length opened.leader - (i + 1)) (i + 1)))) (closes level theta p t o)))
          (sym q) ∙ stepped o target sound e

    -- ---- after the last of them: a raise, then anything else that was done, leads to another round
    module _ (all : length opened.leader ≤ i) (some : 1 ≤ p.rounds) (unrested : p.converged ≡ false) (Going-on : p.rested ≡ false) (level'' : List ℕ) (banks'' : List Float) (moved : ℕ)
        (redrawn : Redrawn grid level supply marks floors banks level'' banks'' moved) where
      forth : suc (p.rounds - 1) ≡ p.rounds
      forth = omega arith

      closed : SameOfAll (λ o. then d o (closes level theta p t o (stiff_of (C o) level circuits banks floors upsized marks s))) W
      unfolding stiffens_on
      closed o target sound e =
          ap (λ (st : Stage Stiffening). then d o (onward st (closes level theta p t o)))
          (sym (stage_end (component level p.rounds g E theta flow o) (leads opened.leader) (length opened.leader) i all (stiff_of (C o) level circuits banks floors upsized marks s)))
          ∙ whole o target sound e

      pub stiffened_again : (ltb 0 moved || s.stiffened) ≡ true
          → SameOfAll (goes_on d level'' circuits banks'' floors upsized theta (record { rounds = p.rounds; promoted = p.promoted + moved; capacity = t.capacity; stiffening = s.stiffening; converged = p.converged; rested = p.rested })) W
      stiffened_again h o target sound e = go moved refl h ∙ closed o target sound e
        where
          go : (m : ℕ) → moved ≡ m → (ltb 0 m || s.stiffened) ≡ true
              → goes_on d level'' circuits banks'' floors upsized theta (record { rounds = p.rounds; promoted = p.promoted + moved; capacity = t.capacity; stiffening = s.stiffening; converged = p.converged; rested = p.rested }) o
              ≡ then d o (closes level theta p t o (stiff_of (C o) level circuits banks floors upsized marks s))
          go zero u v =
              let w : moved_buses level marks ≡ 0 = sym redrawn.count ∙ u in
              let x : level'' ≡ level = (redrawn.still u).0 in
              let y = still_build level marks circuits banks floors upsized level'' banks'' moved redrawn o u in
              rw (y, x, u, add-zero p.promoted, w, v, forth, unrested, Going-on)
          go (suc m) u v =
              let w : moved_buses level marks ≡ suc m = sym redrawn.count ∙ u in
              let x : level'' ≡ raised_levels level marks = (redrawn.anew m u).0 in
              let y = anew_build level marks circuits banks floors upsized level'' banks'' moved redrawn o target m sound u in
              rw (y, x, u, w, forth, unrested, Going-on)

      pub stiffened_rested : (ltb 0 moved || s.stiffened) ≡ false
          → SameOfAll (λ o. going (draft_of (C o) level'' circuits banks'' floors upsized theta (record { rounds = p.rounds; promoted = p.promoted + moved; capacity = t.capacity; stiffening = s.stiffening; converged = not s.wide && not t.capped; rested = true }))) W
      stiffened_rested h o target sound e = go moved refl h ∙ closed o target sound e
        where
          go : (m : ℕ) → moved ≡ m → (ltb 0 m || s.stiffened) ≡ false
              → going (draft_of (C o) level'' circuits banks'' floors upsized theta (record { rounds = p.rounds; promoted = p.promoted + moved; capacity = t.capacity; stiffening = s.stiffening; converged = not s.wide && not t.capped; rested = true }))
              ≡ then d o (closes level theta p t o (stiff_of (C o) level circuits banks floors upsized marks s))
          go zero u v =
              let w : moved_buses level marks ≡ 0 = sym redrawn.count ∙ u in
              let x : level'' ≡ level = (redrawn.still u).0 in
              let y = still_build level marks circuits banks floors upsized level'' banks'' moved redrawn o u in
              rw (y, x, u, add-zero p.promoted, w, v, forth)
          go (suc m) u v = absurd (no v (or_left (ltb 0 (suc m)) s.stiffened (lt-ltb 0 (suc m) (omega arith))))
