-- `fifth_root` is the whole part of a fifth root, and the only number that is: a root of n / 32 gives one of n by one digit more. Assumes nothing.
use mathlib.Core.Path.{◌≡◌, ap, ◌∙◌, subst}
use mathlib.Core.Bool.{Bool, true, false, not, cond}
use Prim.Native.Nat.{ℕ, zero, suc, ◌+◌, ◌*◌, ◌/◌, ◌^◌, ◌≤◌, ◌<◌}
use native.Mathlib.Nat.{lt_of_lt_of_le, lt_of_le_of_lt, lt_of_not-le, not-le_of_lt, pow-succ', pow-le-pow_left, div-lt_iff_lt-mul, pow-lt-pow_left}
use native.Mathlib.Omega.{arith}
use lib.Dec.{T, leb, leb→le, nleb→lt, lit<, lit≤}
use Rattle.line_defs.specs.Spread.{fifth_root}
use Rattle.line_defs.proofs.Powers.{mul_pow}

-- q is the whole part of the fifth root of n
abbrev pub IsFifthRoot : ℕ → ℕ → Type 0
IsFifthRoot n q = (q ^ 5 ≤ n) × (n < (q + 1) ^ 5)

less : (a b : ℕ) → a ^ 5 < b ^ 5 → a < b
less a b h = lt_of_not-le (λ (g : b ≤ a). not-le_of_lt h (pow-le-pow_left g 5))

unique : (n p q : ℕ) → IsFifthRoot n p → IsFifthRoot n q → p ≡ q
unique n p q a b =
    let x : p < q + 1 = less p (q + 1) (lt_of_le_of_lt a.0 b.1) in
    let y : q < p + 1 = less q (p + 1) (lt_of_le_of_lt b.0 a.1) in
    omega arith

digit : (n p : ℕ) → IsFifthRoot (n / 32) p → IsFifthRoot n (cond (leb ((2 * p + 1) ^ 5) n) (2 * p + 1) (2 * p))
digit n p i =
    let a : (2 * p) ^ 5 ≡ 32 * p ^ 5 = mul_pow 2 p 5 in
    let e : 2 * p + 1 + 1 ≡ 2 * (p + 1) = omega arith in
    let b : (2 * p + 1 + 1) ^ 5 ≡ 32 * (p + 1) ^ 5 = ap (λ (z : ℕ). z ^ 5) e ∙ mul_pow 2 (p + 1) 5 in
    go (leb ((2 * p + 1) ^ 5) n) (leb→le ((2 * p + 1) ^ 5) n) (nleb→lt ((2 * p + 1) ^ 5) n) (omega (arith, i)) (omega (arith, i))
  where
    go : (b : Bool) → (T b → (2 * p + 1) ^ 5 ≤ n) → (T (not b) → n < (2 * p + 1) ^ 5) → (2 * p) ^ 5 ≤ n → n < (2 * p + 1 + 1) ^ 5 → IsFifthRoot n (cond b (2 * p + 1) (2 * p))
    go true x y l u = (x tt, u)
    go false x y l u = (l, y tt)

is_root : (d n : ℕ) → n < 32 ^ d → IsFifthRoot n (fifth_root d n)
unfolding fifth_root
is_root zero n h = none n h
  where
    none : (n : ℕ) → n < 1 → IsFifthRoot n 0
    none n h = (omega arith, omega arith)
is_root (suc d) n h = digit n (fifth_root d (n / 32)) (is_root d (n / 32) (part (32 ^ d) (subst (λ (z : ℕ). n < z) (pow-succ' 32 d) h)))
  where
    part : (c : ℕ) → n < 32 * c → n / 32 < c
    part c h = omega arith

-- c / 4, for a c of at most 171 digits
few_part : (c : ℕ) → c < 2 ^ 171 → c / 4 < 32 ^ 34
few_part c h = (div-lt_iff_lt-mul (lit< tt)).1 (lt_of_lt_of_le h (lit≤ tt))

quarter : (c r : ℕ) → 4 * r ^ 5 ≤ c → c < 4 * (r + 1) ^ 5 → IsFifthRoot (c / 4) r
quarter c r l u = (omega arith, omega arith)

back : (c r : ℕ) → IsFifthRoot (c / 4) r → (4 * r ^ 5 ≤ c) × (c < 4 * (r + 1) ^ 5)
back c r i = (omega arith, omega arith)

pub cube_few : (a : ℕ) → a < 2 ^ 57 → a ^ 3 < 2 ^ 171
cube_few a h = pow-lt-pow_left {b = 2 ^ 57} {n = 3} h (λ q. omega arith)

-- what halving finds: the largest r with 4 * r ^ 5 at most c
pub found : (c r : ℕ) → c < 2 ^ 171 → 4 * r ^ 5 ≤ c → c < 4 * (r + 1) ^ 5 → r ≡ fifth_root 34 (c / 4)
found c r few l u = unique (c / 4) r (fifth_root 34 (c / 4)) (quarter c r l u) (is_root 34 (c / 4) (few_part c few))

-- and what is true of it
pub of_root : (c : ℕ) → c < 2 ^ 171 → (4 * fifth_root 34 (c / 4) ^ 5 ≤ c) × (c < 4 * (fifth_root 34 (c / 4) + 1) ^ 5)
of_root c few = back c (fifth_root 34 (c / 4)) (is_root 34 (c / 4) (few_part c few))
