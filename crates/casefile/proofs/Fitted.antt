-- The moved file in an output of zeros: the part before the buses, the buses, and what follows them, as much of it as there is room for.
-- Three parts right behind each other are one (put_more), and what is behind them is still zero.
use Prim.Native.Nat.{ℕ, zero, suc, ◌+◌, ◌-◌, ◌*◌, ◌≤◌, min}
use mathlib.Core.List.{List, [], ◌∷◌, ◌++◌, append_assoc}
use mathlib.Core.Path.{◌≡◌, refl, sym, ap, ◌∙◌}
use native.Mathlib.Nat.{mul-le-mul}
use native.Mathlib.Omega.{arith}
use lib.ListN.{length, take, drop, replicate, length-append, length-drop, length-replicate}
use lib.Seq.{take-append-add, length-take-le}
use Rattle.loops.specs.Bounds.{most_buses}
use Rattle.loops.specs.Parts.{part, put}
use Rattle.loops.proofs.Parts.{length_put, take_replicate}
use Rattle.casefile_defs.specs.Bounds.{most_bytes}
use Rattle.casefile_defs.specs.Layout.{size_of, spot}
use Rattle.casefile_defs.specs.Moving.{weight_of, buses_as, file_as, fitted}
use Rattle.casefile_defs.specs.declared.Kind.{Kind}
use Rattle.casefile_defs.specs.declared.Kind.TheVariants.{Bus, WeighedBus}
use Rattle.casefile.specs.Movable.{Kept, last_start}
use Rattle.casefile.specs.Records.{Room}
use Rattle.casefile.proofs.Copies.{put_more, weight_length, length_buses}

abbrev pub zeros : ℕ → List ℕ
zeros n = replicate n 0

drop_zeros : (q m : ℕ) → drop q (zeros m) ≡ zeros (m - q)
drop_zeros zero m = ap (λ (n : ℕ). zeros n) (let z : m ≡ m - zero = omega arith in z)
drop_zeros (suc q) zero = ap (λ (n : ℕ). zeros n) (let z : zero ≡ zero - suc q = omega arith in z)
drop_zeros (suc q) (suc m) = drop_zeros q m ∙ ap (λ (n : ℕ). zeros n) (let z : m - q ≡ suc m - suc q = omega arith in z)

less_twice : (m a b : ℕ) → m - (a + b) ≡ m - a - b
less_twice m a b = omega arith

-- the first q of a list and zeros
pub front_zeros : (q m : ℕ) (d : List ℕ) → q ≤ m → take q (d ++ zeros m) ≡ take (min (length d) q) d ++ zeros (q - min (length d) q)
front_zeros zero m d h = let z : min (length d) zero ≡ zero = omega arith in rw z refl
front_zeros (suc q) m [] h =
    let z : min zero (suc q) ≡ zero = omega arith in
    let y : suc q ≡ suc q - zero = omega arith in
    take_replicate (suc q) m 0 h ∙ ap (λ (n : ℕ). zeros n) y ∙ (rw z refl)
front_zeros (suc q) m (x ∷ d) h =
    ap (λ (l : List ℕ). x ∷ l) (front_zeros q m d (omega arith))
    ∙ (let z : min (suc (length d)) (suc q) ≡ suc (min (length d) q) = omega arith in
    let y : suc q - suc (min (length d) q) ≡ q - min (length d) q = omega arith in
    rw (z, y) refl)

-- a list put at the front of zeros
put_zeros : (m : ℕ) (x : List ℕ) → put (zeros m) 0 x ≡ x ++ zeros (m - length x)
unfolding put
put_zeros m x = ap (λ (l : List ℕ). x ++ l) (ap (λ (n : ℕ). drop n (zeros m)) (let z : 0 + length x ≡ length x = omega arith in z) ∙ drop_zeros (length x) m)

module _ (l : Kind) (s : List ℕ) (at n : ℕ) where
  pub file_fitted : (w₀ w₁ w₂ w₃ : List ℕ) (rest there : ℕ) → w₀ ≡ zeros most_bytes → rest ≡ spot Bus s at n → there ≡ at + length (buses_as l s at n)
      → at ≤ length s → rest ≤ length s → there ≤ most_bytes
      → w₁ ≡ put w₀ 0 (take at s) → w₂ ≡ put w₁ at (buses_as l s at n) → w₃ ≡ put w₂ there (take (min (length (drop rest s)) (length w₂ - there)) (drop rest s))
      → w₃ ≡ fitted (file_as l s at n)
  unfolding fitted file_as part
  file_fitted w₀ w₁ w₂ w₃ rest there z p q a r t e₁ e₂ e₃ =
      let x : List ℕ = take at s in
      let y : List ℕ = buses_as l s at n in
      let d : List ℕ = drop rest s in
      let lx : length x ≡ at = length-take-le at s a in
      let ld : length d ≡ length s - rest = length-drop rest s in
      let lz : length w₀ ≡ most_bytes = ap length z ∙ length-replicate {A = ℕ} most_bytes 0 in
      let f₁ : w₂ ≡ put w₀ 0 (x ++ y) =
      e₂ ∙ ap (λ (v : List ℕ). put v at y) e₁ ∙ put_more w₀ 0 at x y (omega arith) (omega arith) in
      let lu : length (x ++ y) ≡ there = length-append x y ∙ (omega arith) in
      let l₂ : length w₂ ≡ most_bytes = ap length f₁ ∙ length_put w₀ 0 (x ++ y) (omega arith) ∙ lz in
      let c : ℕ = min (length d) (most_bytes - there) in
      let ec : min (length d) (length w₂ - there) ≡ c = simp l₂ in
      let lc : length (take c d) ≡ c = length-take-le c d (omega arith) in
      let f₂ : w₃ ≡ put w₀ 0 ((x ++ y) ++ take c d) =
      e₃
      ∙ ap (λ (m : ℕ). put w₂ there (take m d)) ec
      ∙ ap (λ (v : List ℕ). put v there (take c d)) f₁
      ∙ put_more w₀ 0 there (x ++ y) (take c d) (omega arith) (omega arith) in
      let lv : length ((x ++ y) ++ take c d) ≡ there + c = length-append (x ++ y) (take c d) ∙ (omega arith) in
      let left : w₃ ≡ ((x ++ y) ++ take c d) ++ zeros (most_bytes - (there + c)) =
      f₂ ∙ ap (λ (v : List ℕ). put v 0 ((x ++ y) ++ take c d)) z ∙ put_zeros most_bytes ((x ++ y) ++ take c d) ∙ ap (λ (m : ℕ). ((x ++ y) ++ take c d) ++ zeros (most_bytes - m)) lv in
      let cut : take most_bytes ((x ++ y) ++ (d ++ zeros most_bytes)) ≡ (x ++ y) ++ take (most_bytes - there) (d ++ zeros most_bytes) =
      ap (λ (m : ℕ). take m ((x ++ y) ++ (d ++ zeros most_bytes))) (let z : most_bytes ≡ length (x ++ y) + (most_bytes - there) = omega arith in z)
      ∙ take-append-add (x ++ y) (d ++ zeros most_bytes) (most_bytes - there) in
      let right : take most_bytes ((x ++ (y ++ d)) ++ zeros most_bytes) ≡ (x ++ y) ++ (take c d ++ zeros (most_bytes - there - c)) =
      ap (λ (v : List ℕ). take most_bytes v) (let z : (x ++ (y ++ d)) ++ zeros most_bytes ≡ (x ++ y) ++ (d ++ zeros most_bytes) = simp append_assoc in z)
      ∙ cut
      ∙ ap (λ (v : List ℕ). (x ++ y) ++ v) (front_zeros (most_bytes - there) most_bytes d (omega arith)) in
      left
      ∙ append_assoc (x ++ y) (take c d) (zeros (most_bytes - (there + c)))
      ∙ ap (λ (m : ℕ). (x ++ y) ++ (take c d ++ zeros m)) (less_twice most_bytes there c)
      ∙ sym right
      ∙ ap (λ (m : ℕ). take most_bytes ((x ++ (y ++ drop m s)) ++ zeros most_bytes)) p

-- ---- where the parts end
pub spot_inside : (k : Kind) (s : List ℕ) (at n : ℕ) → at ≤ length s → Room k s at n → spot k s at n ≤ length s
unfolding spot
spot_inside k s at zero h r = h
spot_inside k s at (suc n) h r = r n (omega arith)

pub buses_small : (l : Kind) (s : List ℕ) (at n : ℕ) → at ≤ last_start → n ≤ most_buses → Kept s at n → at + length (buses_as l s at n) ≤ most_bytes
buses_small l s at n h b r =
    let m : n * (size_of Bus + length (weight_of l)) ≤ most_buses * size_of WeighedBus =
    mul-le-mul b (let w = weight_length l in let z : size_of Bus + length (weight_of l) ≤ size_of WeighedBus = omega arith in z) in
    omega (arith, length_buses l s at n r)
