-- Ceiling to a whole float (document 01, modules, 1): Rust's `f64::ceil`, the least whole number that is not below x. Definitions only.
-- Steps:
--   1. A NaN and an infinity are themselves.
--   2. The size of any other x is the fraction m * up e / down e. Of an x with no minus sign the fraction is raised to a whole number, of an x with one it is cut.
--   3. The whole number keeps x's sign, so what lies between -1 and 0 gives -0. It is rounded to binary64, which changes nothing.
-- `Correct` says that the result is the least whole number that is not below x. It is proved in proofs/Ceiling.antt.
use Rattle.std.specs.Prelude.{ℕ, ◌+◌, ◌-◌, ◌*◌, ◌/◌, Bool, true, false, pos, T, Float}
use Rattle.std.specs.Float.{nan, inf, fin, binary64}
use Rattle.std.specs.Float.Ieee.{up, down, round, le, fits}
use Rattle.std.specs.Float.Ieee.Exact.{HasValue}
use Rattle.std.specs.Float.Ieee.Scale.{finite}
use Rattle.root.specs.Root.{minus_sign}

-- ---- the definition

unfoldable pub ceil : Float → Float
unfolding round
ceil nan = nan
ceil (inf s) = inf s
ceil (fin false m e) = round binary64 false ((m * up e + (down e - 1)) / down e) 1
ceil (fin true m e) = round binary64 true (m * up e / down e) 1

-- ---- what is true of it

-- the whole number n, or -n, as a value; binary64 need not hold it
abbrev pub integer : Bool → ℕ → Float
integer s n = fin s n (pos 0)

-- r is a whole number with x's sign, not below x, and not above any whole number that is not below x
pub record LeastWhole (x r : Float) : Type 0 where
  pub held : T (fits binary64 r)
  pub whole : (n : ℕ) × HasValue r (minus_sign x) n 1
  pub not_below : T (le x r)
  pub least : (s : Bool) (n : ℕ) → T (le x (integer s n)) → T (le r (integer s n))

-- For every finite x that binary64 holds, `ceil x` is that number.
abbrev pub Correct : Type 0
Correct = (x : Float) → T (fits binary64 x) → T (finite x) → LeastWhole x (ceil x)
