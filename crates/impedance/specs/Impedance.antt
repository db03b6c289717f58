-- Document 01, module 3: "Class: first with rating ≤ 100, ≤ 400, any; z 0.12, 0.125, 0.13; X/R 25, 35, 45."
-- After `transformer_impedance` of branches.rs, operation by operation. Refusal 12: rating not finite or not above 0.
use Rattle.std.specs.Prelude.{Bool, cond, ◌&&◌, [], ◌∷◌, ◌≡◌, refl, Float}
use Rattle.std.specs.Float.{binary64}
use Rattle.std.specs.Float.Ieee.{of_bits, round, lt, le}
use Rattle.loops.specs.Figures.{plus, times, over, nought, one, hundred, four_hundred, infinity, decimal}
use Rattle.root.specs.Root.{root}
use Rattle.refusal.specs.Reply.{Reply, answered, refused_by}
use Rattle.refusal.specs.declared.Refusal.TheVariants.{Rating}
use Rattle.impedance.specs.declared.SeriesImpedance.{SeriesImpedance}

-- ---- constants by their bits, and their decimals
abbrev pub z1 : Float
z1 = of_bits binary64 0x3fbe_b851_eb85_1eb8

abbrev pub z2 : Float
z2 = of_bits binary64 0x3fc0_0000_0000_0000

abbrev pub z3 : Float
z3 = of_bits binary64 0x3fc0_a3d7_0a3d_70a4

abbrev pub ratio1 : Float
ratio1 = of_bits binary64 0x4039_0000_0000_0000

abbrev pub ratio2 : Float
ratio2 = of_bits binary64 0x4041_8000_0000_0000

abbrev pub ratio3 : Float
ratio3 = of_bits binary64 0x4046_8000_0000_0000

pub constants :
    z1 ∷ z2 ∷ z3 ∷ ratio1 ∷ ratio2 ∷ ratio3 ∷ [] ≡ decimal 12 100 ∷ decimal 125 1000 ∷ decimal 13 100 ∷ decimal 25 1 ∷ decimal 35 1 ∷ decimal 45 1 ∷ []
unfolding of_bits round
constants = refl

-- ---- what a transformer of this rating has, of its class: the first with rating at most 100, at most 400, any
unfoldable pub by_class : Float → Float → Float → Float → Float
by_class mva small medium large = cond (le mva hundred) small (cond (le mva four_hundred) medium large)

-- impedance per unit on the transformer's own base, and X/R
abbrev pub z_of : Float → Float
z_of mva = by_class mva z1 z2 z3

abbrev pub x_over_r : Float → Float
x_over_r mva = by_class mva ratio1 ratio2 ratio3

-- ---- z · 100 / mva, over the root of 1 + 1 / (X/R)²
unfoldable pub reactance : Float → Float → Float → Float
reactance z q mva = over (over (times z hundred) mva) (root (plus one (over one (times q q))))

abbrev pub series : Float → Float → SeriesImpedance
series r x = record { r = r; x = x }

unfoldable pub impedance_of : Float → SeriesImpedance
impedance_of mva = let x = reactance (z_of mva) (x_over_r mva) mva in series (over x (x_over_r mva)) x

-- ---- the operation
abbrev pub rating_ok : Float → Bool
rating_ok mva = lt nought mva && lt mva infinity

unfoldable pub defined : Float → Reply SeriesImpedance
defined mva = cond (rating_ok mva) (answered (impedance_of mva)) (refused_by Rating)
