-- No figure by which an accepted case's filling order ranks a corridor is a NaN, so that the order is the sort of the Rust, and the only one (`order_is_sort`).
-- A circuit's rating is between 0.001 and 1e6 MVA times a share of at least a half, a corridor has 1 to 64 circuits, and the flows are finite (refusal 9).
use Prim.Native.Nat.{ℕ, zero, suc, ◌≤◌, ◌<◌}
use mathlib.Core.Bool.{Bool, true, false, not, cond, ◌&&◌}
use mathlib.Core.List.{List}
use mathlib.Core.Path.{◌≡◌, refl, sym, ap, ◌∙◌, subst}
use native.Mathlib.Nat.{le_of_eq}
use native.Mathlib.Omega.{arith}
use lib.Dec.{T, leb}
use lib.Ieee.{Float, binary64, neg, mul, lt, le, eq, of_bits, of_int, round}
use lib.Ieee.Positive.{positive, between, mul_mono}
use lib.ListN.{get_or}
use Rattle.loops.specs.Figures.{at, float, times, over, nought, half, one, ten_thousand, million, thousandth, magnitude, finite, inside}
use Rattle.loops.specs.Loops.{first}
use Rattle.loops.specs.Sorting.{Sorted}
use Rattle.loops.proofs.Bools.{is, both, and_of, holds}
use Rattle.loops.proofs.Order.{real, bounded_real, finite_bounded, le_of_lt, le_of_not_lt, left_real, right_real, le_through}
use Rattle.loops.proofs.Scan.{all_pass}
use Rattle.loops.proofs.Signs.{div_real, neg_real}
use Rattle.leaders.specs.Operation.{corridor_ok}
use Rattle.plan_defs.specs.Constants.{transformer_min_mva, most_initial, most_cap, subtransmission_kv, subtransmission_max_circuits, max_circuits_per_corridor}
use Rattle.plan_defs.specs.Case.{Case, levels, level_of, row_at, kv_high, lower_bound, own_cap, circuit_cap, cap_at, first_levels, end_a, end_b, promote}
use Rattle.plan_defs.specs.Accept.{level_ok, corridor_sound}
use Rattle.plan_defs.specs.Demand.{cap_of}
use Rattle.plan_defs.specs.Design.{line_of, line_at, bank_rate, with_bank, set_transformer_mva, banked_by, steps_down, drawn, design}
use Rattle.plan_defs.specs.Plan.{Ready, ready_of}
use Rattle.plan_defs.specs.declared.CircuitDesign.{CircuitDesign}
use Rattle.plan_defs.proofs.Stages.{On, on_map}
use Rattle.plan_defs.proofs.Accepted.{Accepted, from_below, initial_few, own_few, cap_few, row_sound_lem}
use Rattle.plan_defs.proofs.Drawn.{drawn_size, drawn_here, design_kv, drawn_km}
use Rattle.plan_defs.proofs.Rising.{Risen, risen_below}
use Rattle.plan_defs.proofs.Opened.{Done, done}
use Rattle.plan_theorems.proofs.Ranking.{Real, ahead_in_order, once, every, order_sorted, order_only}

-- ---- figures between two bounds above zero, and their products
positive_inside : (a b x : Float) → T (positive a) → T (positive b) → inside a b x ≡ true → T (positive x)
positive_inside a b x p q h = let g = both (le a x) (le x b) h in between a x b p q (is g.0) (is g.1)

inside_times : (a b x c d y : Float) → T (positive a) → T (positive b) → T (positive c) → T (positive d) → inside a b x ≡ true → inside c d y ≡ true
    → inside (times a c) (times b d) (times x y) ≡ true
inside_times a b x c d y pa pb pc pd h k =
    let g = both (le a x) (le x b) h in
    let l = both (le c y) (le y d) k in
    let px = positive_inside a b x pa pb h in
    let py = positive_inside c d y pc pd k in
    and_of (holds (le (times a c) (times x y)) (mul_mono binary64 a x c y pa px pc py (is g.0) (is l.0)))
    (holds (le (times x y) (times b d)) (mul_mono binary64 x b y d px pb py pd (is g.1) (is l.1)))

abbrev low_rate : Float
low_rate = times thousandth half

abbrev high_rate : Float
high_rate = times million one

abbrev most_float : Float
most_float = float most_initial

bounds_positive : T (positive thousandth) × T (positive million) × T (positive half) × T (positive one) × T (positive most_float) × T (positive low_rate)
    × T (positive high_rate) × T (positive (times one low_rate)) × T (positive (times most_float high_rate))
unfolding of_bits of_int mul round
bounds_positive = (tt, tt, tt, tt, tt, tt, tt, tt, tt)

-- a count of 1 to 64 as a figure
count_checked : first (λ n. inside one most_float (float (suc n))) most_initial 0 ≡ most_initial
unfolding first of_bits of_int round le lt eq
count_checked = refl

count_inside : (n : ℕ) → 0 < n → n ≤ most_initial → inside one most_float (float n) ≡ true
count_inside zero p q = absurd (omega arith)
count_inside (suc n) p q = all_pass (λ m. inside one most_float (float (suc m))) most_initial (le_of_eq (sym count_checked)) n (omega arith)

-- ---- a quotient by such a product is no NaN
size_real : (x : Float) → finite x ≡ true → T (real (magnitude x))
unfolding neg
size_real x h = go (lt x nought) x (bounded_real x (finite_bounded x h))
  where
    go : (b : Bool) (y : Float) → T (real y) → T (real (cond b (neg y) y))
    go true y p = neg_real y p
    go false y p = p

loading_real : (flow : Float) (n : ℕ) (rate : Float) → finite flow ≡ true → 0 < n → n ≤ most_initial → inside low_rate high_rate rate ≡ true
    → T (real (over (magnitude flow) (times (float n) rate)))
loading_real flow n rate f p q r =
    let B = bounds_positive in
    div_real binary64 (magnitude flow) (times (float n) rate) (size_real flow f)
    (positive_inside (times one low_rate) (times most_float high_rate) (times (float n) rate) B.7 B.8
    (inside_times one most_float (float n) low_rate high_rate rate B.3 B.4 B.5 B.6 (count_inside n p q) r))

-- ---- a design's rating
bank_inside : (a line : Float) → lt a transformer_min_mva ≡ false → inside thousandth million line ≡ true → inside thousandth million (bank_rate a line) ≡ true
unfolding of_bits lt le eq
bank_inside a line e q = go (lt a line) refl
  where
    least : le thousandth transformer_min_mva ≡ true
    least = refl

    go : (b : Bool) → lt a line ≡ b → inside thousandth million (cond b a line) ≡ true
    go false l = q
    go true l =
        let m = le_of_lt a line l in
        and_of (le_through thousandth transformer_min_mva a least (le_of_not_lt a transformer_min_mva (left_real a line m) tt e))
        (le_through a line million m (both (le thousandth line) (le line million) q).1)

module _ (c : Case) (target : ℕ) (ok : Accepted c target) (level : List ℕ) (risen : Risen c level) (k : ℕ) (h : k < c.corridors) where
  on_ladder : level_of c level k < levels c
  on_ladder = risen_below c target ok level risen _ (from_below c target ok level k h)

  sheet_rate : inside thousandth million (row_at c k (level_of c level k)).rate ≡ true
  sheet_rate =
      let w = row_at c k (level_of c level k) in
      let s = row_sound_lem c target ok k (level_of c level k) h on_ladder in
      let p = both (le nought w.r && finite w.r) _ s in
      let q = both (lt nought w.x && finite w.x) _ p.1 in
      let u = both (le nought w.b && finite w.b) _ q.1 in
      (both (inside thousandth million w.rate) _ u.1).0

  spans : (inside nought ten_thousand (at c.km k) ≡ true) × (inside half one (at c.share k) ≡ true)
  unfolding corridor_sound
  spans =
      let p = both (corridor_ok c.buses (end_a c k) (end_b c k)) _ (ok.corridor_ok_holds k h) in
      let q = both (leb (get_or c.circuits k 0) most_initial) _ p.1 in
      let u = both (inside nought ten_thousand (at c.km k)) _ q.1 in
      (u.0, (both (inside half one (at c.share k)) _ u.1).0)

  rate_by : (b : Bool) (a : Float) → (b ≡ true → lt a transformer_min_mva ≡ false) → inside low_rate high_rate (banked_by b (line_at c level k) a).rate_a ≡ true
  unfolding set_transformer_mva with_bank line_at line_of
  rate_by true a e =
      let B = bounds_positive in
      inside_times thousandth million (bank_rate a (row_at c k (level_of c level k)).rate) half one (at c.share k) B.0 B.1 B.2 B.3
      (bank_inside a (row_at c k (level_of c level k)).rate (e refl) sheet_rate) spans.1
  rate_by false a e =
      let B = bounds_positive in
      inside_times thousandth million (row_at c k (level_of c level k)).rate half one (at c.share k) B.0 B.1 B.2 B.3 sheet_rate spans.1

  drawn_rate : (a : Float) → (steps_down c level k ≡ true → lt a transformer_min_mva ≡ false) → inside low_rate high_rate (drawn c level k a).rate_a ≡ true
  unfolding drawn
  drawn_rate a e = rate_by (steps_down c level k) a e

  kv_real : T (real (kv_high c level k))
  unfolding kv_high level_ok
  kv_real =
      let l = level_of c level k in
      let p = both (lt nought (at c.ladder l) && le (at c.ladder l) ten_thousand) _ (ok.level_ok_holds l on_ladder) in
      left_real (at c.ladder l) ten_thousand (both (lt nought (at c.ladder l)) _ p.0).1

  km_real : T (real (at c.km k))
  km_real = right_real nought (at c.km k) (both (le nought (at c.km k)) _ spans.0).0

most_few : (c : Case) (k : ℕ) → own_cap c k ≤ most_cap → cap_of c k ≤ most_cap
unfolding cap_of cap_at circuit_cap
most_few c k h = own_few (own_cap c k) _ h (go (not (promote c.mode) && lt (kv_high c (first_levels c) k) subtransmission_kv))
  where
    go : (b : Bool) → cond b subtransmission_max_circuits max_circuits_per_corridor ≤ most_cap
    go true = omega arith
    go false = omega arith

-- ---- what filling begins from
module _ (c : Case) (target : ℕ) (ok : Accepted c target) (r : Ready) (d : Done c r) where
  abbrev ds : List CircuitDesign
  ds = r.draft.build.designs

  abbrev counts : List ℕ
  counts = r.draft.build.circuits

  few : (k : ℕ) → k < c.corridors → (0 < get_or counts k 0) × (get_or counts k 0 ≤ most_initial)
  unfolding lower_bound
  few k h =
      let b = d.ran.sound.built in
      (omega (arith, b.low k h), omega (arith, b.high k h, most_few c k (cap_few c target ok k), initial_few c target ok k h))

  real_at : (k : ℕ) → k < c.corridors → Real ds counts d.flows k
  real_at k h =
      let D = d.ran.sound.kept.drawn in
      let level = r.draft.level in
      let risen = d.ran.sound.risen in
      let q = drawn_here c level ds D k h in
      let rate : inside low_rate high_rate (design ds k).rate_a ≡ true =
      rw q (drawn_rate c target ok level risen k h (at D.banks k) (D.large k h)) in
      let f : finite (at d.flows k) ≡ true = d.finite_flows k (omega (arith, d.all_flows, drawn_size c level ds D)) in
      record {
        loading = loading_real (at d.flows k) (get_or counts k 0) (design ds k).rate_a f (few k h).0 (few k h).1 rate;
        kilovolts = subst (λ (x : Float). T (real x)) (sym (design_kv c level ds D k h)) (kv_real c target ok level risen k h);
        length =
            subst (λ (x : Float). T (real x)) (sym (ap (λ (d : CircuitDesign). d.length_km) q ∙ drawn_km c level k (at D.banks k)))
            (km_real c target ok level risen k h);
      }

-- ---- the theorem: the order in which an accepted case is filled is the sort, and every such list is that order
pub record Sort (c : Case) (r : Ready) : Type 0 where
  pub flows : List Float
  pub sorted : Sorted (ahead_in_order r.draft.build.designs r.draft.build.circuits flows) (once every c.corridors) r.order
  pub only : (ks : List ℕ) → Sorted (ahead_in_order r.draft.build.designs r.draft.build.circuits flows) (once every c.corridors) ks → ks ≡ r.order

sort_of : (c : Case) (target : ℕ) → Accepted c target → (r : Ready) → Done c r → Sort c r
sort_of c target ok r d =
    let n = real_at c target ok r d in
    let ds = r.draft.build.designs in
    let counts = r.draft.build.circuits in
    record {
      flows = d.flows;
      sorted =
          subst (Sorted (ahead_in_order ds counts d.flows) (once every c.corridors)) (sym d.order)
          (order_sorted ds counts d.flows c.corridors n);
      only = λ ks s. order_only ds counts d.flows c.corridors n ks s ∙ sym d.order;
    }

pub order_is_sort : (c : Case) (target : ℕ) → Accepted c target → On (Sort c) (ready_of c)
order_is_sort c target ok = on_map (Done c) (Sort c) (sort_of c target ok) (ready_of c) (done c)
