-- Every network of the request has one place below 74, and every such place one network: arithmetic, for one, two and three buses.
use Prim.Native.Nat.{ℕ, zero, suc, ◌+◌, ◌-◌, ◌*◌, ◌/◌, ◌%◌, ◌^◌, ◌≤◌, ◌<◌}
use mathlib.Core.Bool.{Bool}
use mathlib.Core.List.{List}
use mathlib.Core.Path.{◌≡◌, sym, ap, ◌∙◌, subst}
use native.Mathlib.Decide.{dec_lt}
use native.Mathlib.Omega.{arith}
use borrow.Author.Tests.{lt-ltb, le-ltb}
use lib.ListN.{length}
use Rattle.small_defs.specs.Networks.{Network, bits, pairs_of, numbered, first_of_two, first_of_three, all_places, buses_at, number_at, network_at}
use Rattle.small_theorems.specs.Inverse.{Known, binary, first_place, place_for}
use Rattle.small_theorems.proofs.Bits.{length_bits, bits_back, binary_small, binary_bits}

abbrev network : ℕ → List Bool → List Bool → Network
network b j l = record { buses = b; joined = j; loaded = l }

-- ---- the network at a place, by its buses
one_bus : (i : ℕ) → i < first_of_two → network_at i ≡ numbered 1 i
unfolding network_at buses_at number_at
one_bus i h = simp (lt-ltb i first_of_two h)

two_buses : (i : ℕ) → first_of_two ≤ i → i < first_of_three → network_at i ≡ numbered 2 (i - first_of_two)
unfolding network_at buses_at number_at
two_buses i g h = simp (le-ltb i first_of_two g, lt-ltb i first_of_three h)

three_buses : (i : ℕ) → first_of_three ≤ i → network_at i ≡ numbered 3 (i - first_of_three)
unfolding network_at buses_at number_at
three_buses i g = let f : first_of_two ≤ i = omega arith in simp (le-ltb i first_of_two f, le-ltb i first_of_three g)

-- ---- every such network appears
pub record There (s : Network) : Type 0 where
  pub below : place_for s < all_places
  pub back : network_at (place_for s) ≡ s

-- number k of b buses is the network whose bits are those of k's two parts
parts_back : (b k : ℕ) (j l : List Bool) → length j ≡ pairs_of b → length l ≡ b → k / 2 ^ b ≡ binary j → k % 2 ^ b ≡ binary l → numbered b k ≡ network b j l
unfolding numbered
parts_back b k j l p q c x =
    ap (λ (n : ℕ). network b (bits (pairs_of b) n) (bits b (k % 2 ^ b))) c
    ∙ ap (λ (n : ℕ). network b (bits (pairs_of b) (binary j)) (bits b n)) x
    ∙ ap (λ (t : List Bool). network b t (bits b (binary l))) (bits_back (pairs_of b) j p)
    ∙ ap (λ (t : List Bool). network b j t) (bits_back b l q)

there_at : (b : ℕ) (j l : List Bool) → Known (network b j l) → There (network b j l)
unfolding place_for first_place
there_at zero j l k = absurd (omega (arith, k.some))
there_at (suc zero) j l k =
    let c = binary j in
    let x = binary l in
    let p : c < 1 = binary_small 0 j k.pairs in
    let q : x < 2 = binary_small 1 l k.loads in
    record {
      below = omega arith;
      back = one_bus (0 + (c * 2 + x)) (omega arith) ∙ parts_back 1 (0 + (c * 2 + x)) j l k.pairs k.loads (omega arith) (omega arith);
    }
there_at (suc (suc zero)) j l k =
    let c = binary j in
    let x = binary l in
    let p : c < 2 = binary_small 1 j k.pairs in
    let q : x < 4 = binary_small 2 l k.loads in
    record {
      below = omega arith;
      back = two_buses (2 + (c * 4 + x)) (omega arith) (omega arith) ∙ parts_back 2 (2 + (c * 4 + x) - 2) j l k.pairs k.loads (omega arith) (omega arith);
    }
there_at (suc (suc (suc zero))) j l k =
    let c = binary j in
    let x = binary l in
    let p : c < 8 = binary_small 3 j k.pairs in
    let q : x < 8 = binary_small 3 l k.loads in
    record {
      below = omega arith;
      back = three_buses (10 + (c * 8 + x)) (omega arith) ∙ parts_back 3 (10 + (c * 8 + x) - 10) j l k.pairs k.loads (omega arith) (omega arith);
    }
there_at (suc (suc (suc (suc b)))) j l k = absurd (omega (arith, k.few))

pub there : (s : Network) → Known s → There s
there s k = there_at s.buses s.joined s.loaded k

-- ---- and at one place only
pub record Back (i : ℕ) : Type 0 where
  pub known : Known (network_at i)
  pub there : place_for (network_at i) ≡ i

known_of : (b k : ℕ) → 1 ≤ b → b ≤ 3 → Known (numbered b k)
unfolding numbered
known_of b k p q = record { some = p; few = q; pairs = length_bits (pairs_of b) (k / 2 ^ b); loads = length_bits b (k % 2 ^ b) }

place_of : (b k : ℕ) → k / 2 ^ b < 2 ^ pairs_of b → k % 2 ^ b < 2 ^ b → place_for (numbered b k) ≡ first_place b + (k / 2 ^ b * 2 ^ b + k % 2 ^ b)
unfolding place_for numbered
place_of b k p q =
    ap (λ (n : ℕ). first_place b + (n * 2 ^ b + binary (bits b (k % 2 ^ b)))) (binary_bits (pairs_of b) (k / 2 ^ b) p)
    ∙ ap (λ (n : ℕ). first_place b + (k / 2 ^ b * 2 ^ b + n)) (binary_bits b (k % 2 ^ b) q)

of : (b k i : ℕ) → 1 ≤ b → b ≤ 3 → network_at i ≡ numbered b k → place_for (numbered b k) ≡ i → Back i
of b k i p q e f = record { known = subst Known (sym e) (known_of b k p q); there = ap place_for e ∙ f }

pub back : (i : ℕ) → i < all_places → Back i
unfolding first_place
back i h = elim (dec_lt i first_of_two) [
  | yes l ↦
      let p : i / 2 < 1 = omega arith in
      let q : i % 2 < 2 = omega arith in
      of 1 i i (omega arith) (omega arith) (one_bus i l) (place_of 1 i p q ∙ (let e : 0 + (i / 2 * 2 + i % 2) ≡ i = omega arith in e))
  | no g ↦ elim (dec_lt i first_of_three) [
    | yes l ↦
        let p : (i - 2) / 4 < 2 = omega arith in
        let q : (i - 2) % 4 < 4 = omega arith in
        of 2 (i - 2) i (omega arith) (omega arith) (two_buses i (omega arith) l) (place_of 2 (i - 2) p q ∙ (let e : 2 + ((i - 2) / 4 * 4 + (i - 2) % 4) ≡ i = omega arith in e))
    | no f ↦
        let p : (i - 10) / 8 < 8 = omega arith in
        let q : (i - 10) % 8 < 8 = omega arith in
        of 3 (i - 10) i (omega arith) (omega arith) (three_buses i (omega arith)) (place_of 3 (i - 10) p q ∙ (let e : 10 + ((i - 10) / 8 * 8 + (i - 10) % 8) ≡ i = omega arith in e))
  ]
]
