-- What is rounded is a figure or an infinity with the sign that was asked for, so what holds of these holds of `units` and `round`; what holds of three
-- rounded figures holds of `sum`.
-- `alike` speaks of one fraction rounded with and without its sign; a fact of one figure is the case that does not look at the other.
use Prim.Native.Nat.{ℕ, zero, suc, ◌+◌, ◌-◌, ◌*◌, ◌/◌, ◌%◌, ◌^◌, compare}
use mathlib.Core.Bool.{Bool, true, false, cond, ◌&&◌, beq}
use lib.Dec.{ltb}
use lib.IntN.{ℤ}
use lib.Ieee.{Float, fin, inf, Format, prec, emax, low, size, nearest, odd, units, round, sum}

module _ (f : Format) (s : Bool) (Q : Float → Float → Type 0) (finite : (m : ℕ) (e : ℤ) → Q (fin false m e) (fin s m e)) (infinite : Q (inf false) (inf s)) where
  odd_alike : (d q k l : ℕ) → Q (odd d false q k l) (odd d s q k l)
  unfolding odd
  odd_alike d zero k l = finite _ _
  odd_alike d (suc q) k l = finite _ _

  pub units_alike : (q k : ℕ) → Q (units f false q k) (units f s q k)
  unfolding units
  units_alike q k = go (ltb (q * 2 ^ k) (2 ^ (low f + suc (emax f))))
    where
      go : (b : Bool) → Q (cond b (odd (suc (prec f)) false q k (low f)) (inf false)) (cond b (odd (suc (prec f)) s q k (low f)) (inf s))
      go true = odd_alike (suc (prec f)) q k (low f)
      go false = infinite

  pub alike : (a b : ℕ) → Q (round f false a b) (round f s a b)
  unfolding round
  alike a b =
      let n = a * 2 ^ low f in
      let k = size (n / b) - prec f in
      let u = b * 2 ^ k in
      units_alike (nearest (n / u) (compare (n % u * 2) u)) k

module _ (f : Format) (s : Bool) (P : Float → Type 0) (finite : (m : ℕ) (e : ℤ) → P (fin s m e)) (infinite : P (inf s)) where
  pub units_is : (q k : ℕ) → P (units f s q k)
  units_is q k = units_alike f s (λ (x y : Float). P y) finite infinite q k

  pub round_is : (a b : ℕ) → P (round f s a b)
  round_is a b = alike f s (λ (x y : Float). P y) finite infinite a b

pub sum_is : (f : Format) (P : Float → Type 0) (s : Bool) (a : ℕ) (t : Bool) (b c : ℕ)
    → P (round f s (a + b) c) → P (round f t (b - a) c) → P (round f (s && ltb b a) (a - b) c) → P (sum f s a t b c)
unfolding sum
sum_is f P s a t b c p q r = go (beq s t) (ltb a b)
  where
    go : (x y : Bool) → P (cond x (round f s (a + b) c) (cond y (round f t (b - a) c) (round f (s && ltb b a) (a - b) c)))
    go true y = p
    go false true = q
    go false false = r
