-- Document 01, module 6: the design of one circuit of a corridor. After `design_circuits` and `set_transformer_mva` of branches.rs and `redesign` of planning.rs.
use Rattle.std.specs.Prelude.{ℕ, max, Bool, true, false, cond, ◌&&◌, List, eqb, get_or, Float}
use Rattle.std.specs.Float.{nan}
use Rattle.std.specs.Float.Ieee.{eq, lt}
use Rattle.loops.specs.Figures.{at, float, plus, minus, times, over, nought, one, lesser, greater, magnitude}
use Rattle.loops.specs.Loops.{tab}
use Rattle.impedance.specs.Impedance.{impedance_of}
use Rattle.impedance.specs.declared.SeriesImpedance.{SeriesImpedance}
use Rattle.plan_defs.specs.Constants.{kv_tolerance, transformer_headroom, transformer_min_mva}
use Rattle.plan_defs.specs.Lists.{passing, counting, sum_over}
use Rattle.plan_defs.specs.Case.{Case, Row, kv_of, load_of, end_a, end_b, from_of, to_of, level_of, kv_high, row_at}
use Rattle.plan_defs.specs.declared.RatingBasis.{RatingBasis}
use Rattle.plan_defs.specs.declared.RatingBasis.TheVariants.{Thermal, Loadability, Transformer}
use Rattle.plan_defs.specs.declared.CircuitDesign.{CircuitDesign}

-- ---- the line alone, from its row of the sheet
abbrev pub basis_of : Float → RatingBasis
basis_of code = cond (eq code one) Loadability Thermal

unfoldable pub line_of : ℕ → ℕ → Float → Row → Float → Float → CircuitDesign
line_of from to kv w km share =
    record {
      from = from;
      to = to;
      kv = kv;
      r_pu = w.r;
      x_pu = w.x;
      b_pu = w.b;
      rate_a = times w.rate share;
      is_transformer = false;
      transformer_mva = nought;
      length_km = km;
      rating_basis = basis_of w.basis;
      line_r_pu = w.r;
      line_x_pu = w.x;
      line_rate = w.rate;
      line_basis = basis_of w.basis;
      rate_spread = share;
    }

-- ---- set_transformer_mva: its impedance follows the size class, and the circuit's rating is the lesser of the bank's and the line's
abbrev pub bank_rate : Float → Float → Float
bank_rate mva lineRate = cond (lt mva lineRate) mva lineRate

abbrev pub bank_basis : Float → Float → RatingBasis → RatingBasis
bank_basis mva lineRate lineBasis = cond (lt mva lineRate) Transformer lineBasis

unfoldable pub with_bank : CircuitDesign → Float → SeriesImpedance → CircuitDesign
with_bank d mva z =
    record {
      from = d.from;
      to = d.to;
      kv = d.kv;
      r_pu = plus d.line_r_pu z.r;
      x_pu = plus d.line_x_pu z.x;
      b_pu = d.b_pu;
      rate_a = times (bank_rate mva d.line_rate) d.rate_spread;
      is_transformer = true;
      transformer_mva = mva;
      length_km = d.length_km;
      rating_basis = bank_basis mva d.line_rate d.line_basis;
      line_r_pu = d.line_r_pu;
      line_x_pu = d.line_x_pu;
      line_rate = d.line_rate;
      line_basis = d.line_basis;
      rate_spread = d.rate_spread;
    }

unfoldable pub set_transformer_mva : CircuitDesign → Float → CircuitDesign
set_transformer_mva d mva = with_bank d mva (impedance_of mva)

-- ---- the design of corridor k at the buses' levels
-- the row of the higher end's level, a's on a tie
unfoldable pub line_at : Case → List ℕ → ℕ → CircuitDesign
line_at c level k =
    line_of (from_of c level k) (to_of c level k) (kv_high c level k) (row_at c k (level_of c level k)) (at c.km k) (at c.share k)

-- its ends differ in voltage
abbrev pub differ : Float → Float → Bool
differ x y = lt kv_tolerance (magnitude (minus x y))

abbrev pub steps_down : Case → List ℕ → ℕ → Bool
steps_down c level k = differ (kv_of c (get_or level (end_a c k) 0)) (kv_of c (get_or level (end_b c k) 0))

-- what the units at a bus can give, and how many corridors step down to it
unfoldable pub gen_at_bus : Case → ℕ → Float
gen_at_bus c i = sum_over (at c.pmax) (passing (λ k. eqb (get_or c.bus k 0) i) c.generators)

unfoldable pub transformer_corridors : Case → List ℕ → ℕ → ℕ
transformer_corridors c level i = counting (λ k. steps_down c level k && eqb (to_of c level k) i) c.corridors

-- a bank for a bus's load or its units, whichever is more, with headroom, shared over the corridors that step down to it
abbrev pub fresh_bank : Float → Float → ℕ → Float
fresh_bank load gen shared = greater (over (times (greater load gen) transformer_headroom) (float (max shared 1))) transformer_min_mva

unfoldable pub bank_for : Case → List ℕ → ℕ → Float
bank_for c level lo = fresh_bank (load_of c lo) (gen_at_bus c lo) (transformer_corridors c level lo)

abbrev pub banked_by : Bool → CircuitDesign → Float → CircuitDesign
banked_by true d mva = set_transformer_mva d mva
banked_by false d mva = d

-- a corridor at the levels with a bank of this rating, where its ends differ: a design is its line and its bank
unfoldable pub drawn : Case → List ℕ → ℕ → Float → CircuitDesign
drawn c level k mva = banked_by (steps_down c level k) (line_at c level k) mva

unfoldable pub design_at : Case → List ℕ → ℕ → CircuitDesign
design_at c level k = drawn c level k (bank_for c level (to_of c level k))

unfoldable pub design_circuits : Case → List ℕ → List CircuitDesign
design_circuits c level = tab c.corridors (design_at c level)

-- ---- redesign: each bank at least as large as the plan made it, up to its line
abbrev pub kept_by : Bool → CircuitDesign → Float → CircuitDesign
kept_by true d keep = set_transformer_mva d keep
kept_by false d keep = d

abbrev pub kept_to : CircuitDesign → Float → CircuitDesign
kept_to d keep = kept_by (d.is_transformer && lt d.transformer_mva keep) d keep

abbrev pub kept_bank : CircuitDesign → Float → CircuitDesign
kept_bank d floor = kept_to d (lesser floor d.line_rate)

unfoldable pub redesign : Case → List ℕ → List Float → List CircuitDesign
redesign c level floors = tab c.corridors (λ k. kept_bank (design_at c level k) (at floors k))

-- ---- the design in a place; past the end there is none
unfoldable pub no_design : CircuitDesign
no_design = line_of 0 0 nan (record { r = nan; x = nan; b = nan; rate = nan; basis = nan }) nan nan

abbrev pub design : List CircuitDesign → ℕ → CircuitDesign
design ds k = get_or ds k no_design
