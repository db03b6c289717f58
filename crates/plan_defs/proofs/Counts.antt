-- What sizing and stiffening keep of a build: a place for each corridor in every list, each count within its bounds and never lower than before, the tally
-- of the circuits added, and designs that are line and bank.
-- One count or one bank at a time: a count goes up to the cap, by the kV before any raise, and a bank changes no kV.
use Prim.Native.Nat.{ℕ, zero, suc, ◌+◌, ◌-◌, ◌≤◌, ◌<◌, zero-le, suc-le-suc, min, max}
use mathlib.Core.Bool.{Bool, true, false, not, ◌&&◌, ◌||◌}
use mathlib.Core.List.{List, [], ◌∷◌}
use mathlib.Core.Path.{◌≡◌, refl, sym, ap, ◌∙◌, subst}
use native.Mathlib.Nat.{not-suc-le-zero, le_of_suc-le-suc}
use native.Mathlib.Omega.{arith}
use native.Mathlib.Decide.{ℕ_discrete}
use borrow.Author.Tests.{ltb-true}
use lib.Dec.{ltb}
use lib.Ieee.{Float, lt, le}
use lib.ListN.{length, get_or, set, length-set, length-replicate}
use lib.Seq.{get_or-set_same, get_or-set_other}
use Rattle.loops.specs.Figures.{at, minus, nought}
use Rattle.loops.proofs.Bools.{both, no as clash, unequal}
use Rattle.loops.proofs.Tab.{length_tab, get_tab}
use Rattle.angles_defs.specs.Network.{zeros}
use Rattle.angles_defs.specs.Solve.{solve}
use Rattle.plan_defs.specs.Constants.{stiffening_rounds, max_angle_spread_rad}
use Rattle.plan_defs.specs.Lists.{each, sum}
use Rattle.plan_defs.specs.Case.{Case, promote, lower_bound, lower_bounds, own_or, own_cap, circuit_cap, cap_at, full_at, kv_high, first_levels, end_a, end_b}
use Rattle.plan_defs.specs.Demand.{cap_of}
use Rattle.plan_defs.specs.Components.{members}
use Rattle.plan_defs.specs.Design.{design, no_design, line_of}
use Rattle.plan_defs.specs.Solve.{Peak, PlanningCase, all_finite}
use Rattle.plan_defs.specs.Raise.{no_marks, top_of, can_raise}
use Rattle.plan_defs.specs.Build.{Build, count_at, circuit_at, set_bank, set_count, rebuilt, bank_below}
use Rattle.plan_defs.specs.Size.{Sizing, sizing, required_for, enough, next_bank, enlarges, enlarge_if, enlarge, add_if, raises_for, raise_or_add, grow_to, grow_if, needed_circuits, grow, size_one, size_all}
use Rattle.plan_defs.specs.Stiffen.{Budget, Stiffening, stiffen_from, stiffen_by, has_room, stiffen_one, chosen, ahead, laggard, best_of, unit_at, widened, narrow_if, unless_late, unless_narrow, stiffen_component, stiffen_all}
use Rattle.plan_defs.specs.declared.CircuitDesign.{CircuitDesign}
use Rattle.plan_defs.proofs.Lists.{iter_to, each_keeps, sum_set}
use Rattle.plan_defs.proofs.Stages.{On, stages_keep}
use Rattle.plan_defs.proofs.Drawn.{Drawn, drawn_size, design_kv, drawn_bank, drawn_again}
use Rattle.plan_defs.proofs.Rising.{length_mark}

-- ---- places
-- a count below z where a place past the end would have z: so the place is in the list, and the count is what 0 would give
pub in_list : (z : ℕ) (l : List ℕ) (k : ℕ) → get_or l k z < z → k < length l
in_list z [] k h = absurd (let q : z < z = h in omega arith)
in_list z (x ∷ l) zero h = suc-le-suc zero-le
in_list z (x ∷ l) (suc k) h = suc-le-suc (in_list z l k h)

pub any_default : (z : ℕ) (l : List ℕ) (k : ℕ) → k < length l → get_or l k z ≡ get_or l k 0
any_default z [] k h = absurd (not-suc-le-zero h)
any_default z (x ∷ l) zero h = refl
any_default z (x ∷ l) (suc k) h = any_default z l k (le_of_suc-le-suc h)

pub set_here : (l : List ℕ) (k j v : ℕ) → k < length l → j ≡ k → get_or (set l k v) j 0 ≡ v
set_here l k j v h e = ap (λ (i : ℕ). get_or (set l k v) i 0) e ∙ get_or-set_same l k v 0 h

-- there is no bank past the end
bank_in : (ds : List CircuitDesign) (k : ℕ) → bank_below (design ds k) ≡ true → k < length ds
unfolding no_design line_of
bank_in [] k e = absurd (unequal cc)
bank_in (d ∷ ds) zero e = suc-le-suc zero-le
bank_in (d ∷ ds) (suc k) e = suc-le-suc (bank_in ds k e)

module _ (c : Case) where
  -- ---- caps
  -- where the mode promotes, the cap is what stiffening and filling give
  pub full_cap : promote c.mode ≡ true → (k : ℕ) → full_at c k ≡ cap_of c k
  unfolding full_at cap_of cap_at circuit_cap
  full_cap e k = sym (ap (λ (b : Bool). own_or (own_cap c k) (circuit_cap b (kv_high c (first_levels c) k))) e)

  -- a design's cap is the one by the kV before any raise
  pub cap_is : (level : List ℕ) (ds : List CircuitDesign) → Drawn c level ds → (promote c.mode ≡ false → level ≡ first_levels c) → (k : ℕ) → k < c.corridors
      → cap_at c k (design ds k).kv ≡ cap_of c k
  unfolding cap_of cap_at circuit_cap
  cap_is level ds D u k h = ap (own_or (own_cap c k)) (go (promote c.mode) refl)
    where
      go : (b : Bool) → promote c.mode ≡ b → circuit_cap b (design ds k).kv ≡ circuit_cap b (kv_high c (first_levels c) k)
      go true e = refl
      go false e = ap (circuit_cap false) (design_kv c level ds D k h ∙ ap (λ (l : List ℕ). kv_high c l k) (u e))

  -- ---- counts within their bounds, `added` more in all than the lower bounds
  pub record Built (counts : List ℕ) (added : ℕ) : Type 0 where
    pub size : length counts ≡ c.corridors
    pub low : (k : ℕ) → k < c.corridors → lower_bound c k ≤ get_or counts k 0
    pub high : (k : ℕ) → k < c.corridors → get_or counts k 0 ≤ max (lower_bound c k) (cap_of c k)
    pub tally : sum counts ≡ sum (lower_bounds c) + added

  pub built_first : Built (lower_bounds c) 0
  unfolding lower_bounds
  built_first =
      record {
        size = length_tab c.corridors (lower_bound c);
        low = λ k h. omega (arith, get_tab c.corridors (lower_bound c) k 0 h);
        high = λ k h. omega (arith, get_tab c.corridors (lower_bound c) k 0 h);
        tally = omega arith;
      }

  -- one count set higher
  built_set : (counts : List ℕ) (added k v : ℕ) → Built counts added → k < c.corridors → get_or counts k 0 ≤ v → v ≤ max (lower_bound c k) (cap_of c k)
      → Built (set counts k v) (added + (v - get_or counts k 0))
  built_set counts added k v b h p q =
      record {
        size = length-set counts k v ∙ b.size;
        low = λ j a. low_at j a (ℕ_discrete j k);
        high = λ j a. high_at j a (ℕ_discrete j k);
        tally = omega (arith, sum_set counts k v w, b.tally);
      }
    where
      w : k < length counts
      w = omega (arith, b.size)

      low_at : (j : ℕ) → j < c.corridors → Dec (j ≡ k) → lower_bound c j ≤ get_or (set counts k v) j 0
      low_at j a (yes e) =
          let x : get_or counts j 0 ≡ get_or counts k 0 = ap (λ (i : ℕ). get_or counts i 0) e in
          omega (arith, set_here counts k j v w e, b.low j a)
      low_at j a (no n) = omega (arith, get_or-set_other counts k j v 0 n, b.low j a)

      high_at : (j : ℕ) → j < c.corridors → Dec (j ≡ k) → get_or (set counts k v) j 0 ≤ max (lower_bound c j) (cap_of c j)
      high_at j a (yes e) =
          let x : lower_bound c j ≡ lower_bound c k = ap (lower_bound c) e in
          let y : cap_of c j ≡ cap_of c k = ap (cap_of c) e in
          omega (arith, set_here counts k j v w e)
      high_at j a (no n) = omega (arith, get_or-set_other counts k j v 0 n, b.high j a)

  -- ---- the other lists of a build
  pub record CountsKept (level : List ℕ) (b : Build) : Type 0 where
    pub floors : length b.floors ≡ c.corridors
    pub upsized : length b.upsized ≡ c.corridors
    pub drawn : Drawn c level b.designs

  kept_bank_lem : (level : List ℕ) (b : Build) (k : ℕ) (mva : Float) → bank_below (circuit_at b k) ≡ true → lt (circuit_at b k).transformer_mva mva ≡ true → CountsKept level b
      → CountsKept level (set_bank k mva b)
  unfolding set_bank
  kept_bank_lem level b k mva e l h =
      let w : k < c.corridors = omega (arith, bank_in b.designs k e, drawn_size c level b.designs h.drawn) in
      record {
        floors = length-set b.floors k mva ∙ h.floors;
        upsized = length-set b.upsized k 1 ∙ h.upsized;
        drawn = drawn_bank c level b.designs h.drawn k mva w e l;
      }

  pub kept_rebuilt : (level again : List ℕ) (b : Build) → CountsKept level b → CountsKept again (rebuilt c again b)
  unfolding rebuilt
  kept_rebuilt level again b h = record { floors = h.floors; upsized = h.upsized; drawn = drawn_again c again b.floors }

  -- ---- sizing at some levels, which stay. st is what stiffening added before
  pub record CountsSized (level : List ℕ) (st : ℕ) (z : Sizing) : Type 0 where
    pub built : Built z.build.circuits (z.capacity + st)
    pub kept : CountsKept level z.build
    pub places : length z.marks ≡ c.buses
    pub still : promote c.mode ≡ false → z.marks ≡ no_marks c.buses

  module _ (level : List ℕ) (unraised : promote c.mode ≡ false → level ≡ first_levels c) (st : ℕ) where
    enlarge_sized : (k : ℕ) (mva : Float) (b : Bool) (z : Sizing)
        → (b ≡ true → (bank_below (circuit_at z.build k) ≡ true) × (lt (circuit_at z.build k).transformer_mva mva ≡ true)) → CountsSized level st z
        → CountsSized level st (enlarge_if b k mva z)
    unfolding set_bank
    enlarge_sized k mva false z t f = f
    enlarge_sized k mva true z t f =
        record { built = f.built; kept = kept_bank_lem level z.build k mva (t refl).0 (t refl).1 f.kept; places = f.places; still = f.still }

    add_sized : (cap need k : ℕ) (capped b : Bool) (z : Sizing) → k < c.corridors → cap ≡ cap_of c k → ltb (count_at z.build k) (min need cap) ≡ b → CountsSized level st z
        → CountsSized level st (add_if b k (min need cap) capped z)
    unfolding set_count
    add_sized cap need k capped false z h e t f = record { built = f.built; kept = f.kept; places = f.places; still = f.still }
    add_sized cap need k capped true z h e t f =
        let a : get_or z.build.circuits k 0 < min need cap = ltb-true _ _ t in
        let p : get_or z.build.circuits k 0 ≤ min need cap = omega arith in
        let q : min need cap ≤ max (lower_bound c k) (cap_of c k) = omega arith in
        record {
          built =
              subst (Built (set z.build.circuits k (min need cap)))
              (let x : z.capacity + st + (min need cap - get_or z.build.circuits k 0) ≡ z.capacity + (min need cap - get_or z.build.circuits k 0) + st = omega arith in x)
              (built_set z.build.circuits (z.capacity + st) k (min need cap) f.built h p q);
          kept = record { floors = f.kept.floors; upsized = f.kept.upsized; drawn = f.kept.drawn };
          places = f.places;
          still = f.still;
        }

    raise_or_add_sized : (need k : ℕ) (b : Bool) (z : Sizing) → k < c.corridors → raises_for c.mode (top_of c level k) need ≡ b → CountsSized level st z
        → CountsSized level st (raise_or_add b c level need k z)
    raise_or_add_sized need k true z h e f =
        record {
          built = f.built;
          kept = f.kept;
          places = length_mark (top_of c level k - 1) (end_a c k) (end_b c k) z.marks ∙ f.places;
          still = λ n. absurd (clash n (both (promote c.mode) _ e).0);
        }
    raise_or_add_sized need k false z h e f =
        let cap = cap_at c k (circuit_at z.build k).kv in
        add_sized cap need k (z.capped || ltb cap need) (ltb (count_at z.build k) (min need cap)) z h
        (cap_is level z.build.designs f.kept.drawn unraised k h) refl f

    grow_sized : (required : Float) (k : ℕ) (b : Bool) (z : Sizing) → k < c.corridors → CountsSized level st z → CountsSized level st (grow_if b c level required k z)
    grow_sized required k true z h f = f
    grow_sized required k false z h f = wanting (needed_circuits required (circuit_at z.build k))
      where
        wanting : (need : ℕ) → CountsSized level st (grow_to c level k z need)
        wanting need = raise_or_add_sized need k (raises_for c.mode (top_of c level k) need) z h refl f

    pub one_sized : (flows : List Float) (k : ℕ) → k < c.corridors → (z : Sizing) → CountsSized level st z → CountsSized level st (size_one c level flows k z)
    unfolding size_one grow enlarge
    one_sized flows k h z f =
        let r = required_for (at flows k) in
        let d = circuit_at z.build k in
        let n = count_at z.build k in
        let next = next_bank r n d in
        let y = enlarge_if (enlarges r n d next) k next z in
        grow_sized r k (enough r (count_at y.build k) (circuit_at y.build k)) y h
        (enlarge_sized k next (enlarges r n d next) z (λ e. both (bank_below d) _ (both (not (enough r n d)) _ e).1) f)

    pub all_sized : (flows : List Float) (b : Build) (capacity : ℕ) → Built b.circuits (capacity + st) → CountsKept level b
        → CountsSized level st (size_all c level flows b capacity)
    unfolding size_all
    all_sized flows b capacity h k =
        iter_to (CountsSized level st) (size_one c level flows) c.corridors (one_sized flows) (sizing b (no_marks c.buses) capacity false false)
        (record { built = h; kept = k; places = length-replicate c.buses 0; still = λ n. refl })

  -- ---- stiffening, where the mode promotes. cp is what sizing added before
  pub record Stiff (level : List ℕ) (cp : ℕ) (s : Stiffening) : Type 0 where
    pub built : Built s.build.circuits (cp + s.stiffening)
    pub kept : CountsKept level s.build
    pub places : length s.marks ≡ c.buses
    pub total : s.total ≡ sum s.build.circuits

  module _ (expanding : promote c.mode ≡ true) (level : List ℕ) (cp : ℕ) where
    by_stiff : (G : Budget) (k : ℕ) (x y z : Bool) (s : Stiffening) → bank_below (circuit_at s.build k) ≡ x → has_room c G k s ≡ z → Stiff level cp s
        → Stiff level cp (stiffen_by x y z c level G k s)
    unfolding set_bank set_count
    by_stiff G k true y z s e t b =
        record { built = b.built; kept = kept_bank_lem level s.build k (circuit_at s.build k).line_rate e (both (circuit_at s.build k).is_transformer _ e).1 b.kept; places = b.places; total = b.total }
    by_stiff G k false true z s e t b =
        record {
          built = b.built;
          kept = b.kept;
          places = length_mark (top_of c level k - 1) (end_a c k) (end_b c k) s.marks ∙ b.places;
          total = b.total;
        }
    by_stiff G k false false false s e t b = b
    by_stiff G k false false true s e t b =
        let q : get_or s.build.circuits k (full_at c k) < full_at c k = ltb-true _ _ (both (ltb (get_or s.build.circuits k (full_at c k)) (full_at c k)) _ t).0 in
        let i = in_list (full_at c k) s.build.circuits k q in
        let w = any_default (full_at c k) s.build.circuits k i in
        let h : k < c.corridors = omega (arith, b.built.size) in
        let p : get_or s.build.circuits k 0 ≤ get_or s.build.circuits k 0 + 1 = omega arith in
        let r : get_or s.build.circuits k 0 + 1 ≤ max (lower_bound c k) (cap_of c k) = omega (arith, full_cap expanding k) in
        record {
          built =
              subst (Built (set s.build.circuits k (get_or s.build.circuits k 0 + 1)))
              (let u : cp + s.stiffening + (get_or s.build.circuits k 0 + 1 - get_or s.build.circuits k 0) ≡ cp + (s.stiffening + 1) = omega arith in u)
              (built_set s.build.circuits (cp + s.stiffening) k (get_or s.build.circuits k 0 + 1) b.built h p r);
          kept = record { floors = b.kept.floors; upsized = b.kept.upsized; drawn = b.kept.drawn };
          places = b.places;
          total = omega (arith, sum_set s.build.circuits k (get_or s.build.circuits k 0 + 1) i, b.total);
        }

    pub one_stiff : (G : Budget) (k : ℕ) (s : Stiffening) → Stiff level cp s → Stiff level cp (stiffen_one c level G k s)
    unfolding stiffen_one
    one_stiff G k s b =
        by_stiff G k (bank_below (circuit_at s.build k)) (ltb s.hv G.hv && can_raise c level G.top k) (has_room c G k s) s refl refl b

    pub each_stiff : (G : Budget) (ks : List ℕ) (s : Stiffening) → Stiff level cp s → Stiff level cp (each (stiffen_one c level G) ks s)
    each_stiff G ks s b = each_keeps (stiffen_one c level G) (Stiff level cp) (one_stiff G) ks s b

    module _ (P : Peak) (led : List ℕ) (round : ℕ) (G : Budget) (v : PlanningCase) where
      wide_stiff : (s : Stiffening) → Stiff level cp s → Stiff level cp (widened s)
      wide_stiff s h = record { built = h.built; kept = h.kept; places = h.places; total = h.total }

      narrow_stiff : (b : Bool) (root : ℕ) (excess : Float) (s : Stiffening) (phi : List Float) → Stiff level cp s
          → On (Stiff level cp) (narrow_if c P led level round G v b root excess s phi)
      narrow_stiff true root excess s phi h = each_stiff G (chosen c led level G root s v.theta excess phi) s h
      narrow_stiff false root excess s phi h = tt

      late_stiff : (b : Bool) (root lead lag : ℕ) (excess : Float) (s : Stiffening) → Stiff level cp s
          → On (Stiff level cp) (unless_late c P led level round G v b root lead lag excess s)
      late_stiff true root lead lag excess s h = wide_stiff s h
      late_stiff false root lead lag excess s h =
          let phi = (solve c.buses v.edges P.grounds (unit_at c.buses lead lag) (zeros c.buses)).x in
          narrow_stiff (all_finite phi) root excess (widened s) phi (wide_stiff s h)

      unless_stiff : (b : Bool) (root lead lag : ℕ) (excess : Float) (s : Stiffening) → Stiff level cp s
          → On (Stiff level cp) (unless_narrow c P led level round G v b root lead lag excess s)
      unless_stiff true root lead lag excess s h = h
      unless_stiff false root lead lag excess s h = late_stiff (ltb stiffening_rounds round) root lead lag excess s h

      pub component_stiff : (root : ℕ) (s : Stiffening) → Stiff level cp s → On (Stiff level cp) (stiffen_component c P led level round G v root s)
      unfolding stiffen_component
      component_stiff root s h =
          let lead = best_of (ahead v.theta) (members led root) in
          let lag = best_of (laggard v.theta) (members led root) in
          let excess = minus (minus (at v.theta lead) (at v.theta lag)) max_angle_spread_rad in
          unless_stiff (le excess nought) root lead lag excess s h

      pub all_stiff : (roots : List ℕ) (s : Stiffening) → Stiff level cp s → On (Stiff level cp) (stiffen_all c P led level round G v roots s)
      unfolding stiffen_all
      all_stiff roots s h = stages_keep (stiffen_component c P led level round G v) (Stiff level cp) roots component_stiff s h

    pub stiff_from : (G : Budget) (b : Build) (stiffening : ℕ) → length level ≡ c.buses → Built b.circuits (cp + stiffening) → CountsKept level b
        → Stiff level cp (stiffen_from level G b stiffening)
    unfolding stiffen_from
    stiff_from G b stiffening e h k = record { built = h; kept = k; places = length-replicate (length level) 0 ∙ e; total = refl }
