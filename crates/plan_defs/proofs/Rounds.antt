-- What a draft keeps over the rounds, and that they are at most 64: so of every stage up to filling.
-- A round ends sound and is one more (Turns); so many rounds are so many more.
use Prim.Native.Nat.{ℕ, zero, suc, ◌+◌, ◌≤◌, zero-le}
use mathlib.Core.Bool.{Bool, true, false}
use mathlib.Core.List.{List}
use mathlib.Core.Path.{◌≡◌, refl, ap, ◌∙◌}
use native.Mathlib.Nat.{le_refl}
use native.Mathlib.Omega.{arith}
use lib.ListN.{length}
use Rattle.plan_defs.specs.Constants.{planning_max_rounds}
use Rattle.plan_defs.specs.Lists.{sum}
use Rattle.plan_defs.specs.Case.{Case, expand, promote, first_levels}
use Rattle.plan_defs.specs.Components.{roots}
use Rattle.plan_defs.specs.Solve.{Peak, PlanningCase, planning_state}
use Rattle.plan_defs.specs.Raise.{raised_levels, moved_buses}
use Rattle.plan_defs.specs.Build.{Build, rebuilt}
use Rattle.plan_defs.specs.Size.{Sizing, size_all}
use Rattle.plan_defs.specs.Stiffen.{Stiffening, budget_of, stiffen_from, stiffen_all}
use Rattle.plan_defs.specs.Rounds.{Draft, RoundEnd, Again, Done, Turn, stiffened_by, stiffened_to, stiffen_if, added_if, sized_by, solved_to, one_round, continue, rounds, round_budget, all_rounds}
use Rattle.plan_defs.proofs.Stages.{On, on_onward, on_both}
use Rattle.plan_defs.proofs.Turns.{Told, round_told}
use Rattle.plan_defs.proofs.Solved.{StateSolved, solved as state-solved}
use Rattle.plan_defs.proofs.Rising.{Risen, risen_more, moved_sum, none_moved}
use Rattle.plan_defs.proofs.Counts.{Built, CountsKept, kept_rebuilt, CountsSized, all_sized, Stiff, all_stiff, stiff_from}

-- a redesign changes no count
rebuilt_counts : (c : Case) (level : List ℕ) (b : Build) (added : ℕ) → Built c b.circuits added → Built c (rebuilt c level b).circuits added
unfolding rebuilt
rebuilt_counts c level b added h = h

module _ (c : Case) where
  pub record Sound (s : Draft) : Type 0 where
    pub risen : Risen c s.level
    pub built : Built c s.build.circuits (s.capacity + s.stiffening)
    pub kept : CountsKept c s.level s.build
    pub warm : length s.warm ≡ c.buses
    pub promoted : s.promoted + sum s.level ≤ sum (first_levels c)

  abbrev SoundTurn : Turn → Type 0
  SoundTurn t = Sound t.draft

  pub record Ran (n : ℕ) (s : Draft) : Type 0 where
    pub sound : Sound s
    pub rounds : s.rounds ≤ n

  module _ (P : Peak) (all : P.n ≡ c.buses) (led : List ℕ) where
    -- what a round's solve gives
    abbrev Angles : PlanningCase → Type 0
    Angles v = length v.theta ≡ c.buses

    -- ---- after stiffening
    stiffened_next : (m : ℕ) (s : Draft) (v : PlanningCase) (z : Sizing) (t : Stiffening) → moved_buses s.level t.marks ≡ m → promote c.mode ≡ true → Sound s
        → Angles v → Stiff c s.level z.capacity t → SoundTurn (stiffened_by c P led m s v z t)
    stiffened_next zero s v z t q e h w f =
        record { risen = h.risen; built = f.built; kept = f.kept; warm = w; promoted = h.promoted }
    stiffened_next (suc m) s v z t q e h w f =
        record {
          risen = risen_more c s.level t.marks e h.risen;
          built = rebuilt_counts c (raised_levels s.level t.marks) t.build _ f.built;
          kept = kept_rebuilt c s.level (raised_levels s.level t.marks) t.build f.kept;
          warm = w;
          promoted = omega (arith, h.promoted, moved_sum s.level t.marks);
        }

    stiffen_next : (b : Bool) (s : Draft) (v : PlanningCase) (z : Sizing) → promote c.mode ≡ b → Sound s → Angles v → CountsSized c s.level s.stiffening z
        → On SoundTurn (stiffen_if c P led b s v z)
    stiffen_next true s v z e h w f =
        let G = budget_of c s.level in
        on_onward (Stiff c s.level z.capacity) SoundTurn
        (stiffen_all c P led s.level (suc s.rounds) G v (roots led) (stiffen_from s.level G z.build s.stiffening)) (stiffened_to c P led s v z)
        (all_stiff c e s.level z.capacity P led (suc s.rounds) G v (roots led) (stiffen_from s.level G z.build s.stiffening)
        (stiff_from c e s.level z.capacity G z.build s.stiffening h.risen.size f.built f.kept))
        (λ t k. stiffened_next (moved_buses s.level t.marks) s v z t refl e h w k)
    stiffen_next false s v z e h w f =
        record { risen = h.risen; built = f.built; kept = f.kept; warm = w; promoted = h.promoted }

    -- ---- after sizing
    added_next : (b : Bool) (s : Draft) (v : PlanningCase) (z : Sizing) → Sound s → Angles v → CountsSized c s.level s.stiffening z
        → On SoundTurn (added_if c P led b s v z)
    added_next true s v z h w f =
        record { risen = h.risen; built = f.built; kept = f.kept; warm = w; promoted = h.promoted }
    added_next false s v z h w f = stiffen_next (promote c.mode) s v z refl h w f

    -- a bus moves only where the mode promotes
    moving : (m : ℕ) (s : Draft) (z : Sizing) → moved_buses s.level z.marks ≡ suc m → CountsSized c s.level s.stiffening z → (b : Bool) → promote c.mode ≡ b
        → promote c.mode ≡ true
    moving m s z e f true p = p
    moving m s z e f false p =
        let x : moved_buses s.level z.marks ≡ 0 = ap (moved_buses s.level) (f.still p) ∙ none_moved s.level c.buses in
        absurd (omega arith)

    sized_next : (m : ℕ) (s : Draft) (v : PlanningCase) (z : Sizing) → moved_buses s.level z.marks ≡ m → Sound s → Angles v → CountsSized c s.level s.stiffening z
        → On SoundTurn (sized_by c P led m s v z)
    sized_next zero s v z e h w f = added_next z.added s v z h w f
    sized_next (suc m) s v z e h w f =
        record {
          risen = risen_more c s.level z.marks (moving m s z e f (promote c.mode) refl) h.risen;
          built = rebuilt_counts c (raised_levels s.level z.marks) z.build _ f.built;
          kept = kept_rebuilt c s.level (raised_levels s.level z.marks) z.build f.kept;
          warm = w;
          promoted = omega (arith, h.promoted, moved_sum s.level z.marks);
        }

    pub round_next : (s : Draft) → Sound s → On SoundTurn (one_round c P led s)
    unfolding one_round
    round_next s h =
        on_onward (StateSolved P.n (length s.build.designs)) SoundTurn (planning_state P s.build.designs s.build.circuits s.warm) (solved_to c P led s)
        (state-solved P s.build.designs s.build.circuits s.warm)
        (λ v w.
        let z = size_all c s.level v.flows s.build s.capacity in
        sized_next (moved_buses s.level z.marks) s v z refl h (w.angles ∙ all)
        (all_sized c s.level h.risen.unraised s.stiffening v.flows s.build s.capacity h.built h.kept))

    -- ---- so many rounds
    continue_ran : (d n : ℕ) (e : RoundEnd) (s t : Draft) → s.rounds + suc d ≤ n → Sound t → t.rounds ≡ suc s.rounds
        → ((u : Draft) → Sound u → u.rounds + d ≤ n → On (Ran n) (rounds c P led d u)) → On (Ran n) (continue c P led e t (rounds c P led d))
    continue_ran d n Again s t q h o next = next t h (omega arith)
    continue_ran d n Done s t q h o next = record { sound = h; rounds = omega arith }

    pub rounds_ran : (d n : ℕ) (s : Draft) → Sound s → s.rounds + d ≤ n → On (Ran n) (rounds c P led d s)
    unfolding rounds
    rounds_ran zero n s h q = record { sound = h; rounds = omega arith }
    rounds_ran (suc d) n s h q =
        on_onward (λ (t : Turn). SoundTurn t × Told s t) (Ran n) (one_round c P led s) _
        (on_both SoundTurn (Told s) (one_round c P led s) (round_next s h) (round_told c P led s))
        (λ t k. continue_ran d n t.end s t.draft q k.0 k.1.one_more_holds (λ u h' q'. rounds_ran d n u h' q'))

    budget_le : (b : Bool) (m : ℕ) → round_budget c P led b m ≤ planning_max_rounds
    budget_le true zero = zero-le
    budget_le true (suc m) = le_refl planning_max_rounds
    budget_le false m = zero-le

    pub all_ran : (s : Draft) → Sound s → s.rounds ≡ 0 → On (Ran planning_max_rounds) (all_rounds c P led s)
    unfolding all_rounds
    all_ran s h e = rounds_ran (round_budget c P led (expand c.mode) c.corridors) planning_max_rounds s h (omega (arith, budget_le (expand c.mode) c.corridors))
