-- A number that grows by a decimal digit.
use Rattle.std.proofs.Common.{◌*◌, ◌+◌, ◌^◌, ◌<◌, ◌≤◌, ℕ, arith}
use Rattle.std.proofs.lemmas.Nat.{mul-add-lt}
use Rattle.std.proofs.lemmas.Grind.{pow_more}
use Rattle.std.proofs.Math.Nat.{pow-le-pow_right}

one_more : (value i d : ℕ) → value < 10 ^ i → d < 10 → 10 * value + d < 10 ^ (i + 1)
one_more value i d h k = omega (arith, mul-add-lt value 10 d (10 ^ i) h k, pow_more 10 i)

pub stays_below : (value i d n : ℕ) → value < 10 ^ i → d < 10 → i < n → n ≤ 9 → 10 * value + d < 2 ^ 32
stays_below value i d n h k j m =
    let p : 0 < 10 = omega arith in
    let q : i + 1 ≤ 9 = omega arith in
    omega (arith, one_more value i d h k, pow-le-pow_right p q)
