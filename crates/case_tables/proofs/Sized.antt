-- Each table has its largest size.
use mathlib.Core.Bool.{true}
use mathlib.Core.Path.{◌≡◌, refl, ap, ◌∙◌}
use Rattle.casefile_defs.specs.Tables.{Places, sizes_ok}
use Rattle.casefile_defs.proofs.Whole.{Sizes}
use Rattle.casefile_theorems.specs.Cases.{blank}

pub sizes_true : (p : Places) → Sizes p → sizes_ok p ≡ true
unfolding sizes_ok
sizes_true p z = simp (z.ladder, z.tier, z.reading, z.weight, z.bus, z.slack, z.pmin, z.pmax, z.c1, z.c2, z.a, z.b, z.circuits, z.length_km, z.share, z.cap, z.sheet)

blank_sized : sizes_ok blank ≡ true
unfolding sizes_ok blank
blank_sized = refl

pub zeros_sized : (p : Places) → p ≡ blank → sizes_ok p ≡ true
zeros_sized p e = ap sizes_ok e ∙ blank_sized
