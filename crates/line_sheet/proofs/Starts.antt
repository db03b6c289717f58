-- The start of a lane without a division: a product with 2 ^ 64 / near, the next whole number, is a division by near. Assumes nothing.
use Rattle.std.proofs.Common.{◌≡◌, ℕ, ◌*◌, ◌/◌, ◌^◌, ◌<◌, Bool, true, false, refl, ap, ◌∙◌, lit<, arith}
use native.Mathlib.Nat.{mul-one, div-div-eq-div-mul, div-lt_iff_lt-mul}
use lib.Ieee.{Float, le}
use lib.Ieee.Positive.{num, den, den_pos}
use Rattle.line_defs.specs.Bounds.{Below}
use Rattle.line_defs.specs.Grid.{steps}
use Rattle.line_defs.specs.Loadability.{km160, km320, km480, km640, by_segment, segment_of}
use Rattle.line_defs.proofs.Between.{in_units}
use Rattle.line_defs.proofs.Curve.{chosen, on_segment}
use Rattle.line_sheet.specs.Lanes.{in_knots, start_of}
use Rattle.line_sheet.proofs.Quotients.{over_by}
use Rattle.line_sheet.proofs.Lanes.{in_knots_lem, start_in}

abbrev Shares : ℕ → ℕ → Type 0
Shares near share = (w : ℕ) → w < 2 ^ 40 → w * share / 2 ^ 64 ≡ w * 1 / near

shares : (p q r s : Bool) → Shares (chosen p q r s 80 160 320 480 640) (chosen p q r s 0x333_3333_3333_3334 0x199_9999_9999_999a 0xcc_cccc_cccc_cccd 0x88_8888_8888_8889 0x66_6666_6666_6667)
shares true q r s = λ w h. over_by w 1 80 0x333_3333_3333_3334 64 (2 ^ 64) (lit< tt) refl (omega arith)
shares false true r s = λ w h. over_by w 1 160 0x199_9999_9999_999a 64 (2 ^ 64) (lit< tt) refl (omega arith)
shares false false true s = λ w h. over_by w 1 320 0xcc_cccc_cccc_cccd 64 (2 ^ 64) (lit< tt) refl (omega arith)
shares false false false true = λ w h. over_by w 1 480 0x88_8888_8888_8889 224 (2 ^ 64) (lit< tt) refl (omega arith)
shares false false false false = λ w h. over_by w 1 640 0x66_6666_6666_6667 384 (2 ^ 64) (lit< tt) refl (omega arith)

share_in : (km : Float) → Shares (segment_of km).near (by_segment km 0x333_3333_3333_3334 0x199_9999_9999_999a 0xcc_cccc_cccc_cccd 0x88_8888_8888_8889 0x66_6666_6666_6667)
unfolding segment_of by_segment
share_in km = shares (le km km160) (le km km320) (le km km480) (le km km640)

-- the steps of a length are below 2 ^ 56
steps_few : (km : Float) → Below 10 km → steps 46 km < 2 ^ 56
steps_few km b = few (num km) (den km) (den_pos km) b.1
  where
    few : (n d : ℕ) → 0 < d → n < 2 ^ 10 * d → n * 2 ^ 46 / d < 2 ^ 56
    few n d p h = let g : n * 2 ^ 46 < 2 ^ 56 * d = omega arith in (div-lt_iff_lt-mul p).1 g

pub start_is : (km : Float) (s share : ℕ) → in_knots km ≡ true → Below 10 km → s ≡ steps 46 km
    → share ≡ by_segment km 0x333_3333_3333_3334 0x199_9999_9999_999a 0xcc_cccc_cccc_cccd 0x88_8888_8888_8889 0x66_6666_6666_6667 → s / 0x1_0000 * share / 2 ^ 64 ≡ start_of km
start_is km s share i b es e =
    let k = in_knots_lem km i in
    let g = (on_segment km k.0 k.1).knots in
    let few = steps_few km b in
    let near = (segment_of km).near in
    let w = steps 46 km / 0x1_0000 in
    let a : s / 0x1_0000 * share / 2 ^ 64 ≡ w * by_segment km 0x333_3333_3333_3334 0x199_9999_9999_999a 0xcc_cccc_cccc_cccd 0x88_8888_8888_8889 0x66_6666_6666_6667 / 2 ^ 64 = rw (es, e) refl in
    a
    ∙ share_in km w (omega (arith, few))
    ∙ ap (λ (z : ℕ). z / near) (mul-one w)
    ∙ div-div-eq-div-mul (steps 46 km) 0x1_0000 near
    ∙ in_units near km (omega (arith, g.near_least))
    ∙ start_in km i
