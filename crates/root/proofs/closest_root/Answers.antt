use Rattle.std.proofs.Common.{◌≡◌, ℕ, ◌+◌, ◌-◌, ◌*◌, ◌≤◌, ◌<◌, sym, arith}
use Rattle.root.specs.Root.{closest_root}
use Rattle.root.proofs.Isqrt.{sq_next, closest_down, closest_next}
use Rattle.root.proofs.closest_root.Goals as goal

at_second : (n q r : ℕ) → q * q + r ≡ n → q * 3 + 2 < r → r ≤ q * 5 + 6 → closest_root n ≡ q + 2
at_second n q r e l h =
    let f : (q + 1) * (q + 1) ≡ q * q + 2 * q + 1 = sq_next q in
    let g : closest_root n ≡ q + 1 + 1 = closest_next n (q + 1) (r - (2 * q + 1)) (omega arith) (omega arith) (omega arith) in
    omega arith

pub returns-in-Some : goal.returns-in-Some
returns-in-Some c = sym (closest_down _ _ _ (c.in-Some.ensures, omega arith) c.if-rem-q.true)

pub returns-in-Some-2 : goal.returns-in-Some-2
returns-in-Some-2 c = sym (closest_next _ _ _ c.in-Some.ensures (omega arith) (omega arith))

pub returns-in-Some-3 : goal.returns-in-Some-3
returns-in-Some-3 c = sym (at_second _ _ _ c.in-Some.ensures (omega arith) (omega arith))
