-- Of sound units with finite costs every price is a number, infinity included, and each output at one lies within the limits.
-- Costs are not below zero; the least, the greatest and every middle keep that; and 2 · c2 is finite and above zero, so no division gives a NaN.
use Prim.Native.Nat.{ℕ, zero, suc, ◌<◌}
use mathlib.Core.Bool.{Bool, true, false, cond, ◌&&◌}
use mathlib.Core.Path.{◌≡◌, refl, sym, subst}
use lib.Dec.{T}
use lib.Ieee.{Float, binary64, of_bits, mul, lt, le}
use lib.Ieee.Positive.{positive, above_of_le, mul_mono}
use lib.Ieee.Scale.{finite as bounded}
use Rattle.loops.specs.Figures.{at, plus, minus, times, over, nought, two, million, infinity, greater, finite, inside}
use Rattle.loops.specs.Loops.{greatest_to}
use Rattle.loops.proofs.Bools.{is, both}
use Rattle.loops.proofs.Order.{real, upper, bounded_real, bounded_upper, upper_up, bounded_down, le_self, le_of_lt, clamped_inside, finite_bounded, below_infinity}
use Rattle.loops.proofs.Signs.{sound, sound_real, sound_of, sound_up, add_sound, mul_sound, half_sound, add_bounded, mul_bounded, real_sub, div_real}
use Rattle.loops.proofs.Real.{positive_of, chosen_sound, least_sound, greatest_sound}
use Rattle.dispatch_defs.specs.Units.{Units, count, most_mw, most_c1, least_c2, unit_ok, unit_ok_at, cost_of, low_cost, high_cost, cost_ok_at, output_of, output_at}
use Rattle.dispatch_defs.specs.Share.{opening, middle, total_at, halved, narrow, halvings, bisected, price_of}
use Rattle.dispatch_defs.specs.declared.Bracket.{Bracket}

-- ---- what the test of a unit says
pub record Fit (pmin pmax c1 c2 : Float) : Type 0 where
  pub order : le pmin pmax ≡ true
  pub low : T (bounded pmin) × T (sound pmin)
  pub high : T (bounded pmax) × T (sound pmax)
  pub linear : T (bounded c1) × T (sound c1)
  pub square : T (bounded c2) × T (sound c2)

nought_bounded : T (bounded nought)
unfolding of_bits
nought_bounded = tt

million_bounded : T (bounded million)
unfolding of_bits
million_bounded = tt

from_nought : (x : Float) → le nought x ≡ true → T (upper x)
from_nought x h = upper_up nought x (bounded_upper nought nought_bounded) h

fit : (pmin pmax c1 c2 : Float) → unit_ok pmin pmax c1 c2 ≡ true → Fit pmin pmax c1 c2
fit pmin pmax c1 c2 h =
    let g = both (((((le nought pmin && le pmin pmax) && le pmax most_mw) && le nought c1) && le c1 most_c1) && le nought c2) (lt c2 infinity) h in
    let f = both ((((le nought pmin && le pmin pmax) && le pmax most_mw) && le nought c1) && le c1 most_c1) (le nought c2) g.0 in
    let e = both (((le nought pmin && le pmin pmax) && le pmax most_mw) && le nought c1) (le c1 most_c1) f.0 in
    let d = both ((le nought pmin && le pmin pmax) && le pmax most_mw) (le nought c1) e.0 in
    let c = both (le nought pmin && le pmin pmax) (le pmax most_mw) d.0 in
    let b = both (le nought pmin) (le pmin pmax) c.0 in
    let most : T (bounded pmax) = bounded_down pmax most_mw (upper_up pmin pmax (from_nought pmin b.0) b.1) c.1 million_bounded in
    record {
      order = b.1;
      low = (bounded_down pmin pmax (from_nought pmin b.0) b.1 most, sound_of pmin b.0);
      high = (most, sound_up pmin pmax (sound_of pmin b.0) b.1);
      linear = (bounded_down c1 most_c1 (from_nought c1 d.1) e.1 million_bounded, sound_of c1 d.1);
      square = (below_infinity c2 (from_nought c2 f.1) g.1, sound_of c2 f.1);
    }

pub fit_at : (u : Units) → ((i : ℕ) → i < count u → unit_ok_at u i ≡ true) → (i : ℕ) → i < count u → Fit (at u.pmin i) (at u.pmax i) (at u.c1 i) (at u.c2 i)
fit_at u ok i l = fit (at u.pmin i) (at u.pmax i) (at u.c1 i) (at u.c2 i) (ok i l)

-- ---- a cost that is finite
two_fit : T (bounded two) × T (sound two)
unfolding of_bits
two_fit = (tt, tt)

module _ (c1 c2 p : Float) (l : T (bounded c1) × T (sound c1)) (s : T (bounded c2) × T (sound c2)) (q : T (bounded p) × T (sound p)) (h : finite (cost_of c1 c2 p) ≡ true) where
  -- 2 · c2 is finite
  doubled : T (bounded (times two c2))
  doubled = (mul_bounded binary64 (times two c2) p (add_bounded binary64 c1 (times (times two c2) p) (finite_bounded (cost_of c1 c2 p) h)).1).0

  -- the cost is not below zero
  cost_sound : T (sound (cost_of c1 c2 p))
  cost_sound =
      add_sound binary64 c1 (times (times two c2) p) l.1
      (mul_sound binary64 (times two c2) p doubled q.0 (mul_sound binary64 two c2 two_fit.0 s.0 two_fit.1 s.1) q.1)

-- ---- the divisor of an output
two_positive : T (positive two)
unfolding of_bits
two_positive = tt

tiny_positive : T (positive least_c2)
unfolding of_bits
tiny_positive = tt

least_positive : T (positive (times two least_c2))
unfolding of_bits mul
least_positive = tt

steep_positive : (c2 : Float) → T (bounded (times two c2)) → T (positive (times two (greater least_c2 c2)))
steep_positive c2 h = go (lt least_c2 c2) refl
  where
    go : (b : Bool) → lt least_c2 c2 ≡ b → T (positive (times two (cond b c2 least_c2)))
    go false e = least_positive
    go true e =
        let l : le least_c2 c2 ≡ true = le_of_lt least_c2 c2 e in
        let c : T (positive c2) = positive_of c2 (above_of_le least_c2 c2 tiny_positive (is l)) (mul_bounded binary64 two c2 h).1 in
        positive_of (times two c2)
        (above_of_le (times two least_c2) (times two c2) least_positive
        (mul_mono binary64 two two least_c2 c2 two_positive two_positive tiny_positive c (is (le_self two (bounded_real two two_fit.0))) (is l)))
        h

-- a unit's output at a price that is a number lies within the limits
output_inside : (price pmin pmax c1 c2 : Float) → T (real price) → Fit pmin pmax c1 c2 → T (bounded (times two c2)) → inside pmin pmax (output_of price pmin pmax c1 c2) ≡ true
output_inside price pmin pmax c1 c2 r t h =
    clamped_inside pmin pmax (over (minus price c1) (times two (greater least_c2 c2))) t.order
    (div_real binary64 (minus price c1) (times two (greater least_c2 c2)) (real_sub binary64 price c1 r t.linear.0) (steep_positive c2 h))

-- ---- the prices
abbrev Sound : Bracket → Type 0
Sound b = T (sound b.lo) × T (sound b.hi)

halved_sound : (u : Units) (d : Float) (b : Bracket) → Sound b → Sound (halved u d b)
unfolding halved
halved_sound u d b s =
    let mid = middle b.lo b.hi in
    let m : T (sound mid) = half_sound (plus b.lo b.hi) (add_sound binary64 b.lo b.hi s.0 s.1) in
    let short = lt (total_at u mid) d in
    (chosen_sound short mid b.lo m s.0, chosen_sound short b.hi mid s.1 m)

bisected_sound : (u : Units) (d : Float) (k : ℕ) (stop : Bool) (b : Bracket) → Sound b → Sound (bisected u d k stop b)
unfolding bisected
bisected_sound u d zero stop b s = s
bisected_sound u d (suc k) true b s = s
bisected_sound u d (suc k) false b s = bisected_sound u d k (narrow (halved u d b)) (halved u d b) (halved_sound u d b s)

module _ (u : Units) (ok : (i : ℕ) → i < count u → unit_ok_at u i ≡ true) (cost : (i : ℕ) → i < count u → cost_ok_at u i ≡ true) where
  costs : (i : ℕ) → i < count u → (finite (low_cost u i) ≡ true) × (finite (high_cost u i) ≡ true)
  costs i l = both (finite (low_cost u i)) (finite (high_cost u i)) (cost i l)

  low_sound : (i : ℕ) → i < count u → T (sound (low_cost u i))
  low_sound i l =
      let t = fit_at u ok i l in
      cost_sound (at u.c1 i) (at u.c2 i) (at u.pmin i) t.linear t.square t.low (costs i l).0

  high_sound : (i : ℕ) → i < count u → T (sound (high_cost u i))
  high_sound i l =
      let t = fit_at u ok i l in
      cost_sound (at u.c1 i) (at u.c2 i) (at u.pmax i) t.linear t.square t.high (costs i l).1

  pub price_real : (d : Float) (n : ℕ) → count u ≡ suc n → T (real (price_of u d))
  unfolding opening price_of
  price_real d n e =
      sound_real (bisected u d halvings false (opening u)).hi
      (bisected_sound u d halvings false (opening u) (least_sound (low_cost u) (count u) low_sound, high)).1
    where
      high : T (sound (greatest_to (high_cost u) (count u)))
      high = subst (λ (k : ℕ). T (sound (greatest_to (high_cost u) k))) (sym e) (greatest_sound (high_cost u) n (λ i l. high_sound i (subst (λ (k : ℕ). i < k) (sym e) l)))

  pub output_at_inside : (price : Float) → T (real price) → (i : ℕ) → i < count u → inside (at u.pmin i) (at u.pmax i) (output_at u price i) ≡ true
  unfolding output_at
  output_at_inside price r i l =
      let t = fit_at u ok i l in
      output_inside price (at u.pmin i) (at u.pmax i) (at u.c1 i) (at u.c2 i) r t
      (doubled (at u.c1 i) (at u.c2 i) (at u.pmin i) t.linear t.square t.low (costs i l).0)
