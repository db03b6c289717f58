-- Each unit's dispatch lies between its limits, with the pass of K4 and without it.
-- The dispatch crate's theorem and `given_within` say so of one component's units; each output goes to its unit's place, and every generator's component is served.
use Prim.Native.Nat.{ℕ, zero, suc, ◌<◌, zero-le, suc-le-suc}
use mathlib.Core.Bool.{Bool, true, false}
use mathlib.Core.List.{List, [], ◌∷◌}
use mathlib.Core.Path.{◌≡◌, refl, sym, ap, ◌∙◌, subst}
use mathlib.Core.Logic.{⊎_elim}
use native.Mathlib.Nat.{not-suc-le-zero, le_of_suc-le-suc, eq-or-lt_of_le}
use native.Mathlib.Omega.{arith}
use native.Mathlib.Decide.{ℕ_discrete}
use borrow.Author.Tests.{ltb-true, ltb-false, eq-eqb}
use lib.Dec.{T, ltb}
use lib.Ieee.{Float, nan, binary64, fits, of_bits}
use lib.Ieee.Scale.{finite as bounded}
use lib.ListN.{length, get_or, set, length-set, length-map, replicate, length-replicate}
use lib.Seq.{get_or-set_same, get_or-set_other, set_out}
use Rattle.loops.specs.Figures.{at, plus, nought, million, inside}
use Rattle.loops.proofs.Bools.{and_of}
use Rattle.loops.proofs.Loops.{iter_carries}
use Rattle.loops.proofs.Order.{real, inside_bounded}
use Rattle.loops.proofs.Signs.{real_add}
use Rattle.loops.proofs.Fronts.{get_map}
use Rattle.leaders.specs.Chain.{Led}
use Rattle.leaders.proofs.Laws.{led}
use Rattle.dispatch_defs.specs.Units.{Units, count, unit_ok}
use Rattle.dispatch_defs.specs.Dispatch.{faulty_cost}
use Rattle.dispatch_defs.specs.Limits.{Within, SoundUnits}
use Rattle.dispatch_defs.proofs.Limits.{dispatch_within}
use Rattle.plan_defs.specs.Lists.{each}
use Rattle.plan_defs.specs.Stage.{Stage, stopped, going, each_stage}
use Rattle.plan_defs.specs.Case.{Case, tops_up, load_of}
use Rattle.plan_defs.specs.TopUp.{given_by}
use Rattle.plan_defs.specs.Components.{component, leads, roots, within, members, unit_within, units_in}
use Rattle.plan_defs.specs.Dispatch.{units_at, demand_of, scatter_at, scatter, served_if, serve, dispatch_of}
use Rattle.plan_defs.proofs.Lists.{each_below, pass_below, pass_has, Has}
use Rattle.plan_defs.proofs.Stages.{On, on_onward}
use Rattle.plan_defs.proofs.Accepted.{Accepted, ends, bus_below, unit_ok_lem, load_inside}
use Rattle.plan_theorems.proofs.ToppedUp.{given_within}

-- ---- each output to its unit's place, where P says what a unit's output may be
module _ (P : ℕ → Float → Type 0) where
  put_keeps : (l : List Float) (i : ℕ) (x : Float) → P i x → (k : ℕ) → P k (at l k) → P k (at (set l i x) k)
  put_keeps l i x p k h = go (ℕ_discrete k i) (ltb i (length l)) refl
    where
      go : Dec (k ≡ i) → (b : Bool) → ltb i (length l) ≡ b → P k (at (set l i x) k)
      go (yes e) true f =
          subst (P k) (sym (ap (λ (j : ℕ). at (set l i x) j) e ∙ get_or-set_same l i x nan (ltb-true _ _ f))) (subst (λ (j : ℕ). P j x) (sym e) p)
      go (yes e) false f = subst (λ (t : List Float). P k (at t k)) (sym (set_out l i x (ltb-false _ _ f))) h
      go (no n) b f = subst (P k) (sym (get_or-set_other l i k x nan n)) h

  record Scattered (ks : List ℕ) (l : List Float) (i : ℕ) (t : List Float) : Type 0 where
    size : length t ≡ length l
    keeps : (k : ℕ) → P k (at l k) → P k (at t k)
    hits : (j : ℕ) → j < i → get_or ks j 0 < length l → P (get_or ks j 0) (at t (get_or ks j 0))

  module _ (ks : List ℕ) (out l : List Float) (good : (j : ℕ) → j < length ks → P (get_or ks j 0) (at out j)) where
    scatter_one : (i : ℕ) (t : List Float) → i < length ks → Scattered ks l i t → Scattered ks l (suc i) (scatter_at ks out i t)
    scatter_one i t h s =
        record {
          size = length-set t (get_or ks i 0) (at out i) ∙ s.size;
          keeps = λ k p. put_keeps t (get_or ks i 0) (at out i) (good i h) k (s.keeps k p);
          hits = λ j q b. ⊎_elim (last j b) (λ e. put_keeps t (get_or ks i 0) (at out i) (good i h) (get_or ks j 0) (s.hits j e b)) (eq-or-lt_of_le (le_of_suc-le-suc q));
        }
      where
        last : (j : ℕ) → get_or ks j 0 < length l → j ≡ i → P (get_or ks j 0) (at (set t (get_or ks i 0) (at out i)) (get_or ks j 0))
        last j b e =
            let w : get_or ks i 0 < length t = (let x : get_or ks j 0 ≡ get_or ks i 0 = ap (λ (m : ℕ). get_or ks m 0) e in omega (arith, s.size)) in
            subst (λ (m : ℕ). P (get_or ks m 0) (at (set t (get_or ks i 0) (at out i)) (get_or ks m 0))) (sym e)
            (subst (P (get_or ks i 0)) (sym (get_or-set_same t (get_or ks i 0) (at out i) nan w)) (good i h))

    scattered : Scattered ks l (length ks) (scatter ks out l)
    unfolding scatter
    scattered =
        iter_carries (scatter_at ks out) (Scattered ks l) (length ks) scatter_one (length ks) 0 l (omega arith)
        (record { size = refl; keeps = λ k p. p; hits = λ j q b. absurd (not-suc-le-zero q) })

-- where the mode tops up, the lower limits are figures that binary64 holds, as those of a slice of f64 are
abbrev pub Binary : Case → Type 0
Binary c = tops_up c.mode ≡ true → (k : ℕ) → k < c.generators → T (fits binary64 (at c.pmin k))

module _ (c : Case) (target : ℕ) (ok : Accepted c target) where
  abbrev Fine : ℕ → Float → Type 0
  Fine k x = inside (at c.pmin k) (at c.pmax k) x ≡ true

  -- ---- some of the case's units are sound units
  module _ (ks : List ℕ) (below : (j : ℕ) → j < length ks → get_or ks j 0 < c.generators) where
    abbrev us : Units
    us = units_at c ks

    us_count : count us ≡ length ks
    us_count = length-map ks (at c.pmin)

    us_sound : SoundUnits us
    us_sound =
        record {
          even =
              record {
                pmax = length-map ks (at c.pmax) ∙ sym us_count;
                c1 = length-map ks (at c.c1) ∙ sym us_count;
                c2 = length-map ks (at c.c2) ∙ sym us_count;
              };
          each = λ i h.
              let a : i < length ks = omega (arith, us_count) in
              let e1 = get_map (at c.pmin) ks i 0 nan a in
              let e2 = get_map (at c.pmax) ks i 0 nan a in
              let e3 = get_map (at c.c1) ks i 0 nan a in
              let e4 = get_map (at c.c2) ks i 0 nan a in
              ap (λ (x : Float). unit_ok x (at us.pmax i) (at us.c1 i) (at us.c2 i)) e1
              ∙ ap (λ (x : Float). unit_ok (at c.pmin (get_or ks i 0)) x (at us.c1 i) (at us.c2 i)) e2
              ∙ ap (λ (x : Float). unit_ok (at c.pmin (get_or ks i 0)) (at c.pmax (get_or ks i 0)) x (at us.c2 i)) e3
              ∙ ap (λ (x : Float). unit_ok (at c.pmin (get_or ks i 0)) (at c.pmax (get_or ks i 0)) (at c.c1 (get_or ks i 0)) x) e4
              ∙ unit_ok_lem c target ok (get_or ks i 0) (below i a);
        }

    us_held : Binary c → tops_up c.mode ≡ true → (i : ℕ) → i < count us → T (fits binary64 (at us.pmin i))
    us_held binary e i h =
        let a : i < length ks = omega (arith, us_count) in
        subst (λ (x : Float). T (fits binary64 x)) (sym (get_map (at c.pmin) ks i 0 nan a)) (binary e (get_or ks i 0) (below i a))

    out_good : (out : List Float) → Within us out → (j : ℕ) → j < length ks → Fine (get_or ks j 0) (at out j)
    out_good out w j h =
        let a : j < count us = omega (arith, us_count) in
        let e1 = get_map (at c.pmin) ks j 0 nan h in
        let e2 = get_map (at c.pmax) ks j 0 nan h in
        ap (λ (x : Float). inside x (at c.pmax (get_or ks j 0)) (at out j)) (sym e1)
        ∙ ap (λ (x : Float). inside (at us.pmin j) x (at out j)) (sym e2)
        ∙ and_of (w.low j a) (w.high j a)

  -- ---- a component's load is no NaN
  pub load_bounded : (i : ℕ) → i < c.buses → T (bounded (load_of c i))
  unfolding of_bits
  load_bounded i h = inside_bounded nought million (load_of c i) tt tt (load_inside c target ok i h)

  demand_real : (ks : List ℕ) → ((j : ℕ) → j < length ks → get_or ks j 0 < c.buses) → T (real (each (λ k s. plus s (load_of c k)) ks nought))
  unfolding of_bits
  demand_real ks h =
      each_below (λ k s. plus s (load_of c k)) (λ s. T (real s)) c.buses (λ k b s r. real_add binary64 s (load_of c k) r (load_bounded k b)) ks h nought tt

  -- ---- one component, then all
  abbrev given : List ℕ → Float → List Float
  given ks demand = given_by (tops_up c.mode) (units_at c ks) demand

  abbrev leader_at : ℕ → ℕ
  leader_at k = get_or (component c) (get_or c.bus k 0) 0

  is_led : Led c.buses c.a c.b (component c)
  is_led = led c.buses c.a c.b (ends c target ok)

  record Served (rs : List ℕ) (l t : List Float) : Type 0 where
    size : length t ≡ length l
    keeps : (k : ℕ) → Fine k (at l k) → Fine k (at t k)
    hits : (k : ℕ) → k < length l → k < c.generators → Has (leader_at k) rs → Fine k (at t k)

  one_served : Binary c → (root : ℕ) (l : List Float) → On (Served (root ∷ []) l) (serve c (component c) root l)
  unfolding serve served_if
  one_served binary root l = go (ltb (faulty_cost (units_at c ks) demand) (length ks)) refl
    where
      ks : List ℕ
      ks = units_in c (component c) root

      demand : Float
      demand = demand_of c (component c) root

      below : (j : ℕ) → j < length ks → get_or ks j 0 < c.generators
      below = pass_below (unit_within c (component c) root) c.generators

      go : (b : Bool) → ltb (faulty_cost (units_at c ks) demand) (length ks) ≡ b
          → On (Served (root ∷ []) l) (served_if b (tops_up c.mode) ks (units_at c ks) demand (faulty_cost (units_at c ks) demand) l)
      go true e = tt
      go false e =
          let f = ltb-false (faulty_cost (units_at c ks) demand) (length ks) e in
          let w =
          given_within (tops_up c.mode) (units_at c ks) demand (us_sound ks below) (us_held ks below binary)
          (dispatch_within (units_at c ks) demand (us_sound ks below)
          (demand_real (members (component c) root)
          (λ j h. (let z = pass_below (within (component c) root) (length (component c)) j h in omega (arith, is_led.size)))) (omega (arith, us_count ks below))) in
          let s = scattered Fine ks (given ks demand) l (out_good ks below (given ks demand) w) in
          record { size = s.size; keeps = s.keeps; hits = λ k b g h. here s k b g h }
        where
          here : Scattered Fine ks l (length ks) (scatter ks (given ks demand) l) → (k : ℕ) → k < length l → k < c.generators → Has (leader_at k) (root ∷ [])
              → Fine k (at (scatter ks (given ks demand) l) k)
          here s k b g (suc j, h, e) = absurd (omega arith)
          here s k b g (zero, h, e) =
              let has = pass_has (unit_within c (component c) root) k c.generators 0 (eq-eqb (leader_at k) root (sym e)) zero-le (omega arith) in
              subst (λ (m : ℕ). Fine m (at (scatter ks (given ks demand) l) m)) has.2
              (s.hits has.0 has.1 (subst (λ (m : ℕ). m < length l) (sym has.2) b))

  all_served : Binary c → (rs : List ℕ) (l : List Float) → On (Served rs l) (each_stage (serve c (component c)) rs l)
  unfolding each_stage
  all_served binary [] l = record { size = refl; keeps = λ k p. p; hits = λ k b g h. absurd (not-suc-le-zero h.1) }
  all_served binary (r ∷ rs) l =
      on_onward (Served (r ∷ []) l) (Served (r ∷ rs) l) (serve c (component c) r l) (each_stage (serve c (component c)) rs) (one_served binary r l)
      (λ t p. then t p (each_stage (serve c (component c)) rs t) (all_served binary rs t))
    where
      then : (t : List Float) → Served (r ∷ []) l t → (o : Stage (List Float)) → On (Served rs t) o → On (Served (r ∷ rs) l) o
      then t p (stopped f) q = tt
      then t p (going u) q = record { size = q.size ∙ p.size; keeps = λ k x. q.keeps k (p.keeps k x); hits = hit }
        where
          hit : (k : ℕ) → k < length l → k < c.generators → Has (leader_at k) (r ∷ rs) → Fine k (at u k)
          hit k b g (zero, h, e) = q.keeps k (p.hits k b g (0, suc-le-suc zero-le, e))
          hit k b g (suc j, h, e) = q.hits k (omega (arith, p.size)) g (j, le_of_suc-le-suc h, e)

  -- ---- the theorem
  pub record Dispatched (mw : List Float) : Type 0 where
    pub size : length mw ≡ c.generators
    pub limits : (k : ℕ) → k < c.generators → inside (at c.pmin k) (at c.pmax k) (at mw k) ≡ true

  -- every generator's leader leads itself
  leader_listed : (k : ℕ) → k < c.generators → Has (leader_at k) (roots (component c))
  leader_listed k h =
      let b = bus_below c target ok k h in
      let l = is_led.below (get_or c.bus k 0) b in
      pass_has (leads (component c)) (leader_at k) (length (component c)) 0 (eq-eqb _ _ (is_led.leads (get_or c.bus k 0) b)) zero-le (omega (arith, is_led.size))

  all_dispatched : (o : Stage (List Float)) → On (Served (roots (component c)) (replicate c.generators nought)) o → On Dispatched o
  all_dispatched (stopped f) h = tt
  all_dispatched (going mw) h =
      let n = length-replicate c.generators nought in
      record { size = h.size ∙ n; limits = λ k b. h.hits k (omega arith) b (leader_listed k b) }

  pub dispatched : Binary c → On Dispatched (dispatch_of c (component c))
  unfolding dispatch_of
  dispatched binary =
      all_dispatched (each_stage (serve c (component c)) (roots (component c)) (replicate c.generators nought))
      (all_served binary (roots (component c)) (replicate c.generators nought))
