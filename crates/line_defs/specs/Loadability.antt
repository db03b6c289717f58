-- K8: St. Clair loadability, in multiples of the surge impedance loading, by the length in km (`st_clair_loadability` of params.rs).
-- Steps:
--   1. To 80 km as in the Rust: 3 * 80 / km, with km at least 1e-3.
--   2. From there to 965 km, between two knots, log-interpolated: high - (high - low) * t, with t = ln (km / near) / ln (far / near), by 24 binary digits of t.
--   3. Past 965 km as in the Rust: 0.6 * √(965 / km), and at least 0.4.
-- `LogInterpolated` says what is true of 2, and names none of its steps. It is proved in proofs/Between.antt.
use Rattle.std.specs.Prelude.{ℕ, zero, suc, ◌+◌, ◌-◌, ◌*◌, ◌/◌, ◌^◌, ◌≤◌, ◌<◌, true, false, cond, [], ◌∷◌, ◌≡◌, refl, T, leb, Float}
use Rattle.std.specs.Float.{binary64}
use Rattle.std.specs.Float.Ieee.{of_bits, round, le}
use Rattle.std.specs.Float.Ieee.Positive.{num, den, positive}
use Rattle.loops.specs.Figures.{times, over, greater, thousandth, decimal}
use Rattle.root.specs.Root.{root}
use Rattle.line_defs.specs.Grid.{on_grid}
use Rattle.line_defs.specs.declared.Segment.{Segment}

-- ---- lengths by their bits, and their decimals
abbrev pub km80 : Float
km80 = of_bits binary64 0x4054_0000_0000_0000

abbrev pub km160 : Float
km160 = of_bits binary64 0x4064_0000_0000_0000

abbrev pub km320 : Float
km320 = of_bits binary64 0x4074_0000_0000_0000

abbrev pub km480 : Float
km480 = of_bits binary64 0x407e_0000_0000_0000

abbrev pub km640 : Float
km640 = of_bits binary64 0x4084_0000_0000_0000

abbrev pub km965 : Float
km965 = of_bits binary64 0x408e_2800_0000_0000

pub lengths : km80 ∷ km160 ∷ km320 ∷ km480 ∷ km640 ∷ km965 ∷ [] ≡ decimal 80 1 ∷ decimal 160 1 ∷ decimal 320 1 ∷ decimal 480 1 ∷ decimal 640 1 ∷ decimal 965 1 ∷ []
unfolding of_bits round
lengths = refl

-- ---- 2: between two knots, `near` and `far` in km, where the loadability is `high` and `low`, in hundredths
abbrev pub segment : ℕ → ℕ → ℕ → ℕ → Segment
segment near far high low = record { near = near; far = far; high = high; low = low }

-- of five figures the one of the first segment that reaches to km
unfoldable pub by_segment : Float → ℕ → ℕ → ℕ → ℕ → ℕ → ℕ
by_segment km a b c d e = cond (le km km160) a (cond (le km km320) b (cond (le km km480) c (cond (le km km640) d e)))

-- the knots: 3 at 80 km, 2 at 160, 1.35 at 320, 1 at 480, 0.85 at 640, 0.6 at 965
unfoldable pub segment_of : Float → Segment
segment_of km =
    segment (by_segment km 80 160 320 480 640) (by_segment km 160 320 480 640 965) (by_segment km 300 200 135 100 85) (by_segment km 200 135 100 85 60)

-- 1 is 2 ^ 30 units
abbrev pub unit : ℕ
unit = 0x4000_0000

-- d digits more of t after the digits p: v is (far / near) to the power of what is left of t, in units. Squaring doubles what is left; from far / near on the digit is 1.
unfoldable pub digits : ℕ → ℕ → ℕ → ℕ → ℕ → ℕ
digits near far zero p v = p
digits near far (suc d) p v =
    let w = v * v / unit in
    let one = leb (far * unit) (w * near) in
    digits near far d (cond one (2 * p + 1) (2 * p)) (cond one (w * near / far) w)

-- t * 2 ^ 24 lies between p and p + 2, so the middle is taken, and cut to a multiple of 2 ^ -32
unfoldable pub middle : Segment → ℕ → ℕ
middle g p = (g.high * 2 ^ 24 - (g.high - g.low) * (p + 1)) * 2 ^ 8 / 100

unfoldable pub between : Segment → Float → Float
between g km = on_grid (middle g (digits g.near g.far 24 0 (num km * unit / (den km * g.near))))

-- ---- what is true of it, in fractions: t is named by the fractions p / q below it and above it, and no logarithm and no real number is

-- p / q ≤ t: (far / near) ^ p ≤ (km / near) ^ q
abbrev pub Reached : Segment → Float → ℕ → ℕ → Type 0
Reached g km p q = g.far ^ p * (den km * g.near) ^ q ≤ num km ^ q * g.near ^ p

-- t ≤ p / q
abbrev pub NotPassed : Segment → Float → ℕ → ℕ → Type 0
NotPassed g km p q = num km ^ q * g.near ^ p ≤ g.far ^ p * (den km * g.near) ^ q

-- 1e5 * q times the line from high to low at p / q
abbrev pub line_at : Segment → ℕ → ℕ → ℕ
line_at g p q = 1000 * (g.high * q - (g.high - g.low) * p)

-- m is within 1e-5 of the log-interpolated value: at most 1e-5 above the line at every fraction up to t, and at most 1e-5 below it at every fraction from t on
pub record LogInterpolated (g : Segment) (km m : Float) : Type 0 where
  pub above_zero : T (positive m)
  pub not_above : (p q : ℕ) → 0 < q → Reached g km p q → num m * (100_000 * q) ≤ den m * (line_at g p q + q)
  pub not_below : (p q : ℕ) → 0 < q → NotPassed g km p q → den m * line_at g p q ≤ num m * (100_000 * q) + den m * q

-- ---- the whole curve
abbrev pub km240 : Float
km240 = of_bits binary64 0x406e_0000_0000_0000

abbrev pub six_tenths : Float
six_tenths = of_bits binary64 0x3fe3_3333_3333_3333

abbrev pub four_tenths : Float
four_tenths = of_bits binary64 0x3fd9_9999_9999_999a

-- 3 * 80; the factor past 965 km; the floor
pub figures : km240 ∷ six_tenths ∷ four_tenths ∷ [] ≡ decimal 240 1 ∷ decimal 6 10 ∷ decimal 4 10 ∷ []
unfolding of_bits round
figures = refl

unfoldable pub loadability_of : Float → Float
loadability_of km =
    cond (le km km80) (over km240 (greater km thousandth))
    (cond (le km km965) (between (segment_of km) km)
    (greater (times six_tenths (root (over km965 km))) four_tenths))

-- what is true of m, the loadability at a length, where the rules do not fix it
pub record Loadable (km m : Float) : Type 0 where
  pub between_knots : le km km80 ≡ false → le km km965 ≡ true → LogInterpolated (segment_of km) km m
