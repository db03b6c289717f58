-- Figures of a case by their bits, and the bits of the loads that its readings and weights make.
use Prim.Native.Nat.{ℕ}
use mathlib.Core.List.{List, map}
use lib.Ieee.{Float, binary64, of_bits, to_bits}
use Rattle.loads.specs.Load.{loads_of}
use Rattle.plan_defs.specs.Case.{Case}

abbrev pub figures : List ℕ → List Float
figures bits = map (of_bits binary64) bits

abbrev pub load_bits : Case → List ℕ
load_bits c = map (to_bits binary64) (loads_of c.buses c.reading c.weight)
