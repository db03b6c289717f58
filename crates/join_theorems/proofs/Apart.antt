-- Where all three are answered, joining leaves two districts apart: the dispatch and the grounds of the joined case are those of the two.
-- Corridors join no bus of one to a bus of the other, so the components are the first's, then the second's, and each is served in its own places.
use Prim.Native.Nat.{ℕ, ◌+◌, ◌-◌, ◌<◌}
use mathlib.Core.Bool.{true}
use mathlib.Core.List.{List, [], ◌++◌, map, append-nil, map-append}
use mathlib.Core.Path.{◌≡◌, refl, sym, ap, ◌∙◌, subst}
use native.Mathlib.Omega.{arith}
use lib.Ieee.{Float, nan}
use lib.ListN.{length, get_or, replicate, length-append, length-map, length-replicate, replicate-append-replicate, get_or-append}
use Rattle.loops.specs.Figures.{at, nought}
use Rattle.leaders.specs.Chain.{Led}
use Rattle.leaders.proofs.Laws.{led as led-by}
use Rattle.angles_defs.specs.Network.{zeros}
use Rattle.plan_defs.specs.Lists.{passing}
use Rattle.plan_defs.specs.Stage.{Stage, going, onward, each_stage}
use Rattle.plan_defs.specs.Case.{Case}
use Rattle.plan_defs.specs.Components.{component, leads, roots, ground_of, grounds_of}
use Rattle.plan_defs.specs.Dispatch.{serve, dispatch_of}
use Rattle.plan_defs.specs.Solve.{Peak, PlanningCase, planning_state}
use Rattle.plan_defs.specs.Fill.{fill}
use Rattle.plan_defs.specs.Plan.{Plan, Ready, ready_of, closing, plan_for, planned, ending_of}
use Rattle.plan_defs.specs.Outcome.{Slices, Outcome, up_to, held, summary}
use Rattle.plan_defs.specs.Demand.{AnswerTo}
use Rattle.plan_defs.specs.declared.CorridorPlan.{CorridorPlan}
use Rattle.plan_defs.proofs.Lists.{All, pass_below}
use Rattle.plan_defs.proofs.Stages.{On, on_all, on_onward}
use Rattle.plan_defs.proofs.Accepted.{Accepted, accepted, ends, bus_below}
use Rattle.plan_defs.proofs.Opened.{Done, done}
use Rattle.plan_theorems.proofs.Joined.{joined as joined-leaders}
use Rattle.plan_theorems.proofs.Larger.{answer_of_lem}
use Rattle.join_defs.specs.Districts.{moved, joined_case, alike}
use Rattle.join_defs.proofs.Tables.{unmoved}
use Rattle.join_theorems.specs.Apart.{Apart, AnswersApart}
use Rattle.join_theorems.proofs.Lists.{passing_split, map_moved, map_raised, stages_append, stages_within}
use Rattle.join_theorems.proofs.Within.{second_at, moved_first, moved_second, first_within, second_within}
use Rattle.join_theorems.proofs.Served.{Closed, leads_is, ground_is, served_within}

-- ---- a plan's dispatch and grounds are those of its case's components
pub record Stands (c : Case) (p : Plan) : Type 0 where
  pub dispatch : dispatch_of c (component c) ≡ going p.mw
  pub grounds : p.grounds ≡ grounds_of c (component c)

closed_stands : (c : Case) (t : ℕ) (r : Ready) → Done c r → On (Stands c) (closing c t r)
unfolding closing
closed_stands c t r d =
    let counts = (fill c t r.order r.draft.build.circuits).counts in
    let o = planning_state r.peak r.draft.build.designs counts (zeros c.buses) in
    on_onward (λ (v : PlanningCase). Unit {0}) (Stands c) o _ (on_all _ (λ v. tt) o)
    (λ v h. record { dispatch = d.dispatched; grounds = ap (λ (p : Peak). p.grounds) d.peak ∙ ap (grounds_of c) d.led })

pub stands : (c : Case) (t : ℕ) (p : Plan) → ending_of c t ≡ planned p → Stands c p
unfolding plan_for
stands c t p e = subst (On (Stands c)) (answer_of_lem c t p e).1 (on_onward (Done c) (Stands c) (ready_of c) (closing c t) (done c) (closed_stands c t))

module _ (c d : Case) (t u : ℕ) (C : Accepted c t) (D : Accepted d u) (same : alike c d ≡ true) where
  abbrev joined : Case
  joined = joined_case c d

  abbrev n : ℕ
  n = c.buses

  abbrev led : List ℕ
  led = component c

  abbrev led' : List ℕ
  led' = component d

  abbrev wide : List ℕ
  wide = led ++ moved n led'

  wide_is : component joined ≡ wide
  unfolding joined_case
  wide_is = joined-leaders n d.buses c.a c.b d.a d.b (ends c t C) (ends d u D)

  is_led : Led n c.a c.b led
  is_led = led-by n c.a c.b (ends c t C)

  is_led' : Led d.buses d.a d.b led'
  is_led' = led-by d.buses d.a d.b (ends d u D)

  wide_size : length wide ≡ n + d.buses
  wide_size = length-append led (moved n led') ∙ (let z = length-map led' (λ i. n + i) in omega (arith, is_led.size, is_led'.size))

  -- past the first's
  high_leader : (i : ℕ) → i < d.buses → get_or wide (n + i) 0 ≡ n + get_or led' i 0
  high_leader i h = moved_second led led' n n i is_led.size (omega (arith, is_led'.size))

  high_bus : (k : ℕ) → k < d.generators → get_or joined.bus (c.generators + k) 0 ≡ n + get_or d.bus k 0
  high_bus k h = (second_within c d t u C D same).bus k h

  units_are : joined.generators ≡ c.generators + d.generators
  unfolding joined_case
  units_are = refl

  first_closed : Closed c joined led wide 0 0 d.buses d.generators
  first_closed =
      record {
        buses = omega (arith, wide_size);
        units = omega (arith, units_are);
        size = is_led.size;
        leader = λ i h. moved_first led (moved n led') i (omega (arith, is_led.size));
        before = λ i h. absurd (omega arith);
        after = λ i l h.
            let a : i - n < d.buses = omega (arith, wide_size) in
            let e : get_or wide i 0 ≡ get_or wide (n + (i - n)) 0 = ap (λ (k : ℕ). get_or wide k 0) (let z : i ≡ n + (i - n) = omega arith in z) in
            omega (arith, high_leader (i - n) a);
        bus_below = bus_below c t C;
        bus_before = λ k h. absurd (omega arith);
        bus_after = λ k l h.
            let a : k - c.generators < d.generators = omega (arith, units_are) in
            let e : get_or joined.bus k 0 ≡ get_or joined.bus (c.generators + (k - c.generators)) 0 =
            ap (λ (i : ℕ). get_or joined.bus i 0) (let z : k ≡ c.generators + (k - c.generators) = omega arith in z) in
            (omega (arith, high_bus (k - c.generators) a), omega (arith, high_bus (k - c.generators) a, bus_below d u D (k - c.generators) a, wide_size));
      }

  second_closed : Closed d joined led' wide n c.generators 0 0
  second_closed =
      record {
        buses = omega (arith, wide_size);
        units = omega (arith, units_are);
        size = is_led'.size;
        leader = high_leader;
        before = λ i h.
            let e : get_or wide i 0 ≡ get_or led i 0 = get_or-append led (moved n led') 0 i (omega (arith, is_led.size)) in
            omega (arith, is_led.below i h);
        after = λ i l h. absurd (omega (arith, wide_size));
        bus_below = bus_below d u D;
        bus_before = λ k h.
            let e : get_or joined.bus (0 + k) 0 ≡ 0 + get_or c.bus k 0 = (first_within c d t u C D same).bus k h in
            let f : get_or joined.bus k 0 ≡ get_or joined.bus (0 + k) 0 = ap (λ (i : ℕ). get_or joined.bus i 0) (let z : k ≡ 0 + k = omega arith in z) in
            omega (arith, bus_below c t C k h);
        bus_after = λ k l h. absurd (omega (arith, units_are));
      }

  -- ---- the leaders: the first's, then the second's
  roots_are : roots wide ≡ moved 0 (roots led) ++ moved n (roots led')
  roots_are =
      ap (passing (leads wide)) wide_size
      ∙ passing_split (leads wide) (leads led) (leads led') n d.buses (leads_is c joined led wide 0 0 d.buses d.generators first_closed)
      (leads_is d joined led' wide n c.generators 0 0 second_closed)
      ∙ ap (λ (k : ℕ). moved 0 (passing (leads led) k) ++ moved n (passing (leads led') d.buses)) (sym is_led.size)
      ∙ ap (λ (k : ℕ). moved 0 (roots led) ++ moved n (passing (leads led') k)) (sym is_led'.size)

  root_below : All (λ k. k < n) (roots led)
  root_below i h = (let z = pass_below (leads led) (length led) i h in omega (arith, is_led.size))

  root_below' : All (λ k. k < d.buses) (roots led')
  root_below' i h = (let z = pass_below (leads led') (length led') i h in omega (arith, is_led'.size))

  -- ---- the grounds
  grounds_are : grounds_of joined wide ≡ grounds_of c led ++ moved n (grounds_of d led')
  unfolding grounds_of
  grounds_are =
      let f = ground_of joined wide in
      ap (map f) roots_are
      ∙ map-append f (moved 0 (roots led)) (moved n (roots led'))
      ∙ ap (λ (l : List ℕ). l ++ map f (moved n (roots led')))
      (map_moved 0 n f (λ k. 0 + ground_of c led k)
      (ground_is c joined led wide 0 0 0 d.buses d.generators (first_within c d t u C D same) first_closed) (roots led) root_below
      ∙ map_raised 0 (ground_of c led) (roots led)
      ∙ unmoved (map (ground_of c led) (roots led)))
      ∙ ap (λ (l : List ℕ). map (ground_of c led) (roots led) ++ l)
      (map_moved n d.buses f (λ k. n + ground_of d led' k)
      (ground_is d joined led' wide n c.generators c.corridors 0 0 (second_within c d t u C D same) second_closed) (roots led') root_below'
      ∙ map_raised n (ground_of d led') (roots led'))

  -- ---- the dispatch
  module _ (x y : List Float) (X : dispatch_of c led ≡ going x) (Y : dispatch_of d led' ≡ going y) where
    abbrev idle : List Float
    idle = replicate c.generators nought

    abbrev idle' : List Float
    idle' = replicate d.generators nought

    abbrev step : ℕ → List Float → Stage (List Float)
    step = serve joined wide

    first_served : (each_stage step (moved 0 (roots led)) (idle ++ idle') ≡ going (x ++ idle')) × (length x ≡ c.generators)
    unfolding dispatch_of
    first_served =
        stages_within (λ (l : List Float). l ++ idle') 0 n (λ l. length l ≡ c.generators) step (serve c led)
        (λ k l r h q e. served_within c joined led wide 0 0 0 d.buses d.generators (first_within c d t u C D same) first_closed k h [] idle' refl l r q e)
        (roots led) root_below idle x (length-replicate c.generators nought) X

    second_served : each_stage step (moved n (roots led')) (x ++ (idle' ++ [])) ≡ going (x ++ (y ++ []))
    unfolding dispatch_of
    second_served =
        (stages_within (λ (l : List Float). x ++ (l ++ [])) n d.buses (λ l. length l ≡ d.generators) step (serve d led')
        (λ k l r h q e. served_within d joined led' wide n c.generators c.corridors 0 0 (second_within c d t u C D same) second_closed k h x [] first_served.1 l r q e)
        (roots led') root_below' idle' y (length-replicate d.generators nought) Y).0

    dispatch_is : dispatch_of joined wide ≡ going (x ++ y)
    unfolding dispatch_of
    dispatch_is =
        ap (λ (ks : List ℕ). each_stage step ks (replicate joined.generators nought)) roots_are
        ∙ ap (λ (k : ℕ). each_stage step (moved 0 (roots led) ++ moved n (roots led')) (replicate k nought)) units_are
        ∙ ap (each_stage step (moved 0 (roots led) ++ moved n (roots led'))) (sym (replicate-append-replicate c.generators d.generators nought))
        ∙ stages_append step (moved 0 (roots led)) (moved n (roots led')) (idle ++ idle')
        ∙ ap (λ (o : Stage (List Float)). onward o (each_stage step (moved n (roots led')))) first_served.0
        ∙ ap (λ (l : List Float). each_stage step (moved n (roots led')) (x ++ l)) (sym (append-nil idle'))
        ∙ second_served
        ∙ ap (λ (l : List Float). going (x ++ l)) (append-nil y)

-- ---- the theorem, of defined plans
pub apart : (c d : Case) (t u : ℕ) (p q r : Plan) → alike c d ≡ true → ending_of c t ≡ planned p → ending_of d u ≡ planned q
    → ending_of (joined_case c d) (t + u) ≡ planned r → Apart c d p q r
apart c d t u p q r same e f g =
    let C = accepted c t (answer_of_lem c t p e).0 in
    let D = accepted d u (answer_of_lem d u q f).0 in
    let P = stands c t p e in
    let Q = stands d u q f in
    let R = stands (joined_case c d) (t + u) r g in
    let w = wide_is c d t u C D same in
    let a : going r.mw ≡ going (p.mw ++ q.mw) =
    sym R.dispatch ∙ ap (dispatch_of (joined_case c d)) w ∙ dispatch_is c d t u C D same p.mw q.mw P.dispatch Q.dispatch in
    record {
      generators = (first_served c d t u C D same p.mw q.mw P.dispatch Q.dispatch).1;
      dispatch = cc;
      grounds =
          R.grounds
          ∙ ap (grounds_of (joined_case c d)) w
          ∙ grounds_are c d t u C D same
          ∙ ap (λ (l : List ℕ). l ++ moved c.buses (grounds_of d (component d))) (sym P.grounds)
          ∙ ap (λ (l : List ℕ). p.grounds ++ moved c.buses l) (sym Q.grounds);
    }

-- ---- and of the answers of three calls
pub answers_apart : (c d : Case) (t u : ℕ) (o v w : Outcome) (x y z : CorridorPlan) → alike c d ≡ true → AnswerTo c t o x → AnswerTo d u v y
    → AnswerTo (joined_case c d) (t + u) w z → AnswersApart c d o v w x y z
unfolding held summary
answers_apart c d t u o v w x y z same a b j =
    let p = a.plan in
    let q = b.plan in
    let r = j.plan in
    let A = apart c d t u p q r same a.ending b.ending j.ending in
    let mw : w.lent.mw ≡ p.mw ++ q.mw = ap (λ (s : Slices). s.mw) j.lent ∙ A.dispatch in
    let o-mw : o.lent.mw ≡ p.mw = ap (λ (s : Slices). s.mw) a.lent in
    let v-mw : v.lent.mw ≡ q.mw = ap (λ (s : Slices). s.mw) b.lent in
    let ground : w.lent.ground ≡ up_to (joined_case c d).buses 0 (p.grounds ++ moved c.buses q.grounds) =
    ap (λ (s : Slices). s.ground) j.lent ∙ ap (up_to (joined_case c d).buses 0) A.grounds in
    let o-ground : o.lent.ground ≡ up_to c.buses 0 p.grounds = ap (λ (s : Slices). s.ground) a.lent in
    let v-ground : v.lent.ground ≡ up_to d.buses 0 q.grounds = ap (λ (s : Slices). s.ground) b.lent in
    let x-count : x.grounds ≡ length p.grounds = ap (λ (s : CorridorPlan). s.grounds) a.said in
    let y-count : y.grounds ≡ length q.grounds = ap (λ (s : CorridorPlan). s.grounds) b.said in
    let z-count : z.grounds ≡ length r.grounds = ap (λ (s : CorridorPlan). s.grounds) j.said in
    let both = p.grounds ++ moved c.buses q.grounds in
    let size : length both ≡ length p.grounds + length q.grounds = length-append p.grounds _ ∙ ap (λ (k : ℕ). length p.grounds + k) (length-map q.grounds (λ i. c.buses + i)) in
    record {
      first_dispatch = λ k h.
          ap (λ (l : List Float). at l k) mw ∙ get_or-append p.mw q.mw nan k (omega (arith, A.generators)) ∙ ap (λ (l : List Float). at l k) (sym o-mw);
      second_dispatch = λ k h.
          ap (λ (l : List Float). at l (c.generators + k)) mw ∙ second_at p.mw q.mw nan c.generators k A.generators ∙ ap (λ (l : List Float). at l k) (sym v-mw);
      grounds = z-count ∙ ap length A.grounds ∙ (omega arith);
      first_grounds = λ i h.
          ap (λ (l : List ℕ). get_or l i 0) ground
          ∙ get_or-append both _ 0 i (omega arith)
          ∙ get_or-append p.grounds _ 0 i (omega arith)
          ∙ sym (ap (λ (l : List ℕ). get_or l i 0) o-ground ∙ get_or-append p.grounds _ 0 i (omega arith));
      second_grounds = λ i h.
          ap (λ (l : List ℕ). get_or l (x.grounds + i) 0) ground
          ∙ get_or-append both _ 0 (x.grounds + i) (omega arith)
          ∙ moved_second p.grounds q.grounds c.buses x.grounds i (sym x-count) (omega arith)
          ∙ sym (ap (λ (l : List ℕ). c.buses + get_or l i 0) v-ground ∙ ap (λ (k : ℕ). c.buses + k) (get_or-append q.grounds _ 0 i (omega arith)));
    }
