-- A length past 80 km and to 965 km lies on its segment, so its loadability is log_interpolated. Assumes nothing.
use mathlib.Core.Path.{◌≡◌, refl, sym, ap, ◌∙◌}
use mathlib.Core.Bool.{Bool, true, false, cond}
use Prim.Native.Nat.{ℕ, ◌+◌, ◌*◌, ◌^◌, ◌≤◌, ◌<◌}
use native.Mathlib.Nat.{le_trans, le_of_eq, le_of_lt, lt_of_le_of_lt, lt_of_lt_of_le, mul_comm, mul-one}
use native.Mathlib.Omega.{arith}
use lib.Dec.{T, lit≤}
use lib.Ieee.{Float, le, of_bits}
use lib.Ieee.Positive.{num, den, positive, den_pos, le→cross, between as lies-between}
use Rattle.loops.specs.Figures.{times, over, greater, thousandth}
use Rattle.root.specs.Root.{root}
use Rattle.loops.proofs.Bools.{is}
use Rattle.loops.proofs.Order.{real, lt_of_not_le, le_of_lt as le-of-less, left_real}
use Rattle.root.proofs.Units.{positive_unsigned, lt_cross}
use Rattle.line_defs.specs.declared.Segment.{Segment}
use Rattle.line_defs.specs.Bounds.{Below, Knots, OnSegment}
use Rattle.line_defs.specs.Loadability.{km80, km160, km320, km480, km640, km965, segment, by_segment, km240, six_tenths, four_tenths, segment_of, between, loadability_of, Loadable}
use Rattle.line_defs.proofs.Between.{log_interpolated}

-- a figure that is the whole number k
pub record Whole (y : Float) (k : ℕ) : Type 0 where
  pub above_zero : T (positive y)
  pub not_nan : T (real y)
  pub size : num y ≡ k
  pub no_fraction : den y ≡ 1

whole_80 : Whole km80 80
unfolding of_bits
whole_80 = record { above_zero = tt; not_nan = tt; size = refl; no_fraction = refl }

whole_160 : Whole km160 160
unfolding of_bits
whole_160 = record { above_zero = tt; not_nan = tt; size = refl; no_fraction = refl }

whole_320 : Whole km320 320
unfolding of_bits
whole_320 = record { above_zero = tt; not_nan = tt; size = refl; no_fraction = refl }

whole_480 : Whole km480 480
unfolding of_bits
whole_480 = record { above_zero = tt; not_nan = tt; size = refl; no_fraction = refl }

whole_640 : Whole km640 640
unfolding of_bits
whole_640 = record { above_zero = tt; not_nan = tt; size = refl; no_fraction = refl }

whole_965 : Whole km965 965
unfolding of_bits
whole_965 = record { above_zero = tt; not_nan = tt; size = refl; no_fraction = refl }

-- ---- a length up to such a figure, or past it
up_to : (x y : Float) (k : ℕ) → Whole y k → T (positive x) → le x y ≡ true → num x ≤ den x * k
up_to x y k w p e =
    let h : num x * den y ≤ num y * den x = le→cross x y p w.above_zero (is e) in
    let a : num x * den y ≡ num x = ap (λ (z : ℕ). num x * z) w.no_fraction ∙ mul-one (num x) in
    let b : num y * den x ≡ den x * k = ap (λ (z : ℕ). z * den x) w.size ∙ mul_comm k (den x) in
    le_trans (le_of_eq (sym a)) (le_trans h (le_of_eq b))

past : (x y : Float) (k : ℕ) → Whole y k → T (positive x) → T (real x) → le x y ≡ false → den x * k ≤ num x
past x y k w p r e =
    let h : num y * den x < num x * den y = lt_cross y x (positive_unsigned y w.above_zero) (positive_unsigned x p) (is (lt_of_not_le x y r w.not_nan e)) in
    let a : num x * den y ≡ num x = ap (λ (z : ℕ). num x * z) w.no_fraction ∙ mul-one (num x) in
    let b : num y * den x ≡ den x * k = ap (λ (z : ℕ). z * den x) w.size ∙ mul_comm k (den x) in
    le_of_lt (lt_of_le_of_lt (le_of_eq (sym b)) (lt_of_lt_of_le h (le_of_eq a)))

pub length_positive : (km : Float) → le km km80 ≡ false → le km km965 ≡ true → T (positive km)
length_positive km f e =
    let r = left_real km km965 e in
    lies-between km80 km km965 whole_80.above_zero whole_965.above_zero (is (le-of-less km80 km (lt_of_not_le km km80 r whole_80.not_nan f))) (is e)

pub length_below : (km : Float) → le km km80 ≡ false → le km km965 ≡ true → Below 10 km
length_below km f e =
    let p = length_positive km f e in
    (p, few (num km) (den km) (den_pos km) (up_to km km965 965 whole_965 p e))
  where
    few : (n d : ℕ) → 0 < d → n ≤ d * 965 → n < 2 ^ 10 * d
    few n d h l = omega arith

-- ---- the segment
pub record Lies (g : Segment) (km : Float) : Type 0 where
  pub knots : Knots g
  pub on : OnSegment g km

knots_of : (near far high low : ℕ) → 80 ≤ near → far ≤ 965 → 4 * near ≤ 3 * far → far ≤ 2 * near → low ≤ high → high ≤ low + 100 → 60 ≤ low → high ≤ 300 → Knots (segment near far high low)
knots_of near far high low a b c d e f g h =
    record { near_least = a; far_most = b; apart = c; close = d; falls = e; little = f; low_least = g; high_most = h }

abbrev pub chosen : Bool → Bool → Bool → Bool → ℕ → ℕ → ℕ → ℕ → ℕ → ℕ
chosen p q r s a b c d e = cond p a (cond q b (cond r c (cond s d e)))

lies : (km : Float) (p q r s : Bool) → T (positive km) → T (real km) → le km km80 ≡ false → le km km160 ≡ p → le km km320 ≡ q → le km km480 ≡ r → le km km640 ≡ s → le km km965 ≡ true
    → Lies (segment (chosen p q r s 80 160 320 480 640) (chosen p q r s 160 320 480 640 965) (chosen p q r s 300 200 135 100 85) (chosen p q r s 200 135 100 85 60)) km
lies km true q r s pos re a b c d e f =
    record { knots = knots_of 80 160 300 200 (lit≤ tt) (lit≤ tt) (lit≤ tt) (lit≤ tt) (lit≤ tt) (lit≤ tt) (lit≤ tt) (lit≤ tt); on = (past km km80 80 whole_80 pos re a, up_to km km160 160 whole_160 pos b) }
lies km false true r s pos re a b c d e f =
    record { knots = knots_of 160 320 200 135 (lit≤ tt) (lit≤ tt) (lit≤ tt) (lit≤ tt) (lit≤ tt) (lit≤ tt) (lit≤ tt) (lit≤ tt); on = (past km km160 160 whole_160 pos re b, up_to km km320 320 whole_320 pos c) }
lies km false false true s pos re a b c d e f =
    record { knots = knots_of 320 480 135 100 (lit≤ tt) (lit≤ tt) (lit≤ tt) (lit≤ tt) (lit≤ tt) (lit≤ tt) (lit≤ tt) (lit≤ tt); on = (past km km320 320 whole_320 pos re c, up_to km km480 480 whole_480 pos d) }
lies km false false false true pos re a b c d e f =
    record { knots = knots_of 480 640 100 85 (lit≤ tt) (lit≤ tt) (lit≤ tt) (lit≤ tt) (lit≤ tt) (lit≤ tt) (lit≤ tt) (lit≤ tt); on = (past km km480 480 whole_480 pos re d, up_to km km640 640 whole_640 pos e) }
lies km false false false false pos re a b c d e f =
    record { knots = knots_of 640 965 85 60 (lit≤ tt) (lit≤ tt) (lit≤ tt) (lit≤ tt) (lit≤ tt) (lit≤ tt) (lit≤ tt) (lit≤ tt); on = (past km km640 640 whole_640 pos re e, up_to km km965 965 whole_965 pos f) }

pub on_segment : (km : Float) → le km km80 ≡ false → le km km965 ≡ true → Lies (segment_of km) km
unfolding segment_of by_segment
on_segment km f e = lies km (le km km160) (le km km320) (le km km480) (le km km640) (length_positive km f e) (left_real km km965 e) f refl refl refl refl e

-- ---- what is true of the whole curve
pub loadable : (km : Float) → Loadable km (loadability_of km)
unfolding loadability_of
loadable km = record {
  between_knots = λ f e. rw (f, e) (log_interpolated (segment_of km) (on_segment km f e).knots km (length_positive km f e) (on_segment km f e).on);
}

-- ---- the curve by its tests
module _ (km : Float) where
  pub short : (g : Float) → le km km80 ≡ true → g ≡ greater km thousandth → over km240 g ≡ loadability_of km
  unfolding loadability_of
  short g e h = rw (e, h)

  pub middle_part : (m : Float) → le km km80 ≡ false → le km km965 ≡ true → m ≡ between (segment_of km) km → m ≡ loadability_of km
  unfolding loadability_of
  middle_part m f e h = rw (f, e) h

  pub long : (s m : Float) → le km km80 ≡ false → le km km965 ≡ false → s ≡ root (over km965 km) → m ≡ greater (times six_tenths s) four_tenths → m ≡ loadability_of km
  unfolding loadability_of
  long s m f e h g = rw (f, e) (g ∙ ap (λ (z : Float). greater (times six_tenths z) four_tenths) h)
