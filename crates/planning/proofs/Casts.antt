-- Rust's `f64::ceil` is the definition's.
use Rattle.std.proofs.Common.{◌≡◌, ℕ, ◌+◌, ◌-◌, ◌*◌, ◌/◌, ◌<◌, true, false, refl, ap, arith}
use lib.Ieee.{Float, nan, inf, fin, binary64, up, down, round}
use lib.Ieee.Fits.{down_pos}
use Rattle.std.specs.Float.{round_with, ceil as std_ceil}
use Rattle.root.specs.Ceiling.{ceil}

pub ceil_is : (x : Float) → std_ceil binary64 x ≡ ceil x
unfolding round_with ceil
ceil_is nan = refl
ceil_is (inf s) = refl
ceil_is (fin true m e) = refl
ceil_is (fin false m e) = ap (λ (n : ℕ). round binary64 false (n / down e) 1) (less (m * up e) (down e) (down_pos e))
  where
    less : (n d : ℕ) → 0 < d → n + d - 1 ≡ n + (d - 1)
    less n d h = omega arith
