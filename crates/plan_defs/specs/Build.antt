-- What sizing and stiffening change: the circuits, the designs, the least banks (`bank_floor`) and which corridors got a larger bank.
use Rattle.std.specs.Prelude.{ℕ, Bool, cond, ◌&&◌, List, get_or, set, Float}
use Rattle.std.specs.Float.Ieee.{lt}
use Rattle.loops.specs.Figures.{at}
use Rattle.loops.specs.Loops.{tab}
use Rattle.plan_defs.specs.Case.{Case}
use Rattle.plan_defs.specs.Design.{design, drawn, design_at, set_transformer_mva, kept_bank, redesign}
use Rattle.plan_defs.specs.declared.CircuitDesign.{CircuitDesign}

pub record Build : Type 0 where
  pub circuits : List ℕ
  pub designs : List CircuitDesign
  pub floors : List Float
  -- 1 where a bank was enlarged
  pub upsized : List ℕ

abbrev pub built : List ℕ → List CircuitDesign → List Float → List ℕ → Build
built circuits designs floors upsized = record { circuits = circuits; designs = designs; floors = floors; upsized = upsized }

abbrev pub count_at : Build → ℕ → ℕ
count_at s k = get_or s.circuits k 0

abbrev pub circuit_at : Build → ℕ → CircuitDesign
circuit_at s k = design s.designs k

-- a bank below its line can be made larger
abbrev pub bank_below : CircuitDesign → Bool
bank_below d = d.is_transformer && lt d.transformer_mva d.line_rate

-- corridor k with a bank of a rating, which a redesign keeps
unfoldable pub set_bank : ℕ → Float → Build → Build
set_bank k mva s = built s.circuits (set s.designs k (set_transformer_mva (circuit_at s k) mva)) (set s.floors k mva) (set s.upsized k 1)

unfoldable pub set_count : ℕ → ℕ → Build → Build
set_count k count s = built (set s.circuits k count) s.designs s.floors s.upsized

-- every corridor designed anew at the levels
unfoldable pub rebuilt : Case → List ℕ → Build → Build
rebuilt c level s = built s.circuits (redesign c level s.floors) s.floors s.upsized

-- ---- the same from what code keeps: a bank for each corridor in place of a design
unfoldable pub drawn_all : Case → List ℕ → List Float → List CircuitDesign
drawn_all c level banks = tab c.corridors (λ k. drawn c level k (at banks k))

-- the bank that is kept of a design. Where it has none its line's rate stands there, which no design reads
abbrev pub bank_of : CircuitDesign → Float
bank_of d = cond d.is_transformer d.transformer_mva d.line_rate

-- of corridor k designed anew, and of all: those of `redesign`
unfoldable pub bank_anew : Case → List ℕ → List Float → ℕ → Float
bank_anew c level floors k = bank_of (kept_bank (design_at c level k) (at floors k))

unfoldable pub banks_anew : Case → List ℕ → List Float → List Float
banks_anew c level floors = tab c.corridors (bank_anew c level floors)

abbrev pub build_of : Case → List ℕ → List ℕ → List Float → List Float → List ℕ → Build
build_of c level circuits banks floors upsized = built circuits (drawn_all c level banks) floors upsized
