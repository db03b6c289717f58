-- Document 01's starred examples 2 and 3, and corners of the reference build: theorems about the definition.
-- Each outcome is computed; the figures are the reference build's.
use Prim.Native.Nat.{ℕ}
use mathlib.Core.List.{List, [], ◌∷◌}
use mathlib.Core.Path.{◌≡◌, refl}
use lib.Ieee.{Float, binary64, round, of_bits, neg, add, sub, mul, div, lt, eq, le}
use Rattle.loops.specs.Figures.{decimal}
use Rattle.loops.specs.Loops.{first, tab, sum_to, least_to, greatest_to}
use Rattle.refusal.specs.Number.{number_of, index_of}
use Rattle.refusal.specs.Reply.{answered, refused}
use Rattle.dispatch_defs.specs.Units.{Units, units_of, output_at}
use Rattle.dispatch_defs.specs.Share.{total_at, opening, halved, bisected, price_of, outputs, first_free, closed, shared}
use Rattle.dispatch_defs.specs.Dispatch.{standing, dispatch_at, economic_dispatch, infinite_cost, faulty_cost_at, faulty_cost}
use Rattle.dispatch_defs.specs.Operation.{Outcome, tests_of, shared_out_if, shared_out, dispatched_by, dispatched}

-- a whole figure, and one by its bits
abbrev pub f : ℕ → Float
f n = decimal n 1

abbrev pub bits : ℕ → Float
bits n = of_bits binary64 n

abbrev pub gives : List Float → Outcome
gives mw = record { reply = answered tt; mw = mw }

abbrev pub refuses : ℕ → ℕ → List Float → Outcome
refuses number index mw = record { reply = refused number index; mw = mw }

-- ---- ★2: a unit from 0 to 100 with c1 10 and c2 0. ★3: a unit from 30 to 30. A result of one place holds 7 before
abbrev pub flat : Units
flat = units_of (f 0 ∷ []) (f 100 ∷ []) (f 10 ∷ []) (f 0 ∷ [])

abbrev pub fixed : Units
fixed = units_of (f 30 ∷ []) (f 30 ∷ []) (f 10 ∷ []) (decimal 1 4 ∷ [])

pub starred :
    dispatched 1 flat (f 50) (f 7 ∷ []) ∷ dispatched 1 flat (f 100) (f 7 ∷ []) ∷ dispatched 1 fixed (f 30) (f 7 ∷ []) ∷ []
    ≡ gives (f 0 ∷ []) ∷ gives (f 100 ∷ []) ∷ gives (f 30 ∷ []) ∷ []
unfolding dispatched dispatched_by shared_out shared_out_if tests_of faulty_cost faulty_cost_at infinite_cost economic_dispatch dispatch_at standing shared closed first_free outputs price_of bisected halved opening total_at output_at first tab sum_to least_to greatest_to number_of index_of neg add sub mul div lt eq le of_bits round
starred = refl

-- ---- corners: three units of which the first takes the gap; a middle of the prices that overflows, so that the unit stands at its most;
-- no units; 8, the second unit's cost overflows at its upper limit; 5, the second unit's limits, whatever the demand; 5, a demand above 1e9
abbrev pub three : Units
three = units_of (f 10 ∷ f 0 ∷ f 5 ∷ []) (f 100 ∷ f 80 ∷ f 60 ∷ []) (f 20 ∷ f 22 ∷ f 30 ∷ []) (decimal 1 4 ∷ decimal 1 2 ∷ decimal 1 8 ∷ [])

abbrev pub steep : Units
steep = units_of (f 900_000 ∷ []) (f 1_000_000 ∷ []) (f 0 ∷ []) (bits 0x7e92_aa4f_4a40_5be2 ∷ [])

abbrev pub unpriced : Units
unpriced = units_of (f 0 ∷ f 0 ∷ []) (f 60 ∷ f 60 ∷ []) (f 0 ∷ f 0 ∷ []) (f 1 ∷ bits 0x7fac_7b1f_3cac_7433 ∷ [])

abbrev pub crossed : Units
crossed = units_of (f 0 ∷ f 10 ∷ []) (f 60 ∷ f 5 ∷ []) (f 0 ∷ f 0 ∷ []) (f 1 ∷ f 1 ∷ [])

pub corners :
    dispatched 3 three (f 120) (f 7 ∷ f 7 ∷ f 7 ∷ []) ∷ dispatched 1 steep (f 950_000) (f 7 ∷ []) ∷ dispatched 0 (units_of [] [] [] []) (f 5) []
    ∷ dispatched 2 unpriced (f 50) (f 7 ∷ f 7 ∷ []) ∷ dispatched 2 crossed (f 50) (f 7 ∷ f 7 ∷ [])
    ∷ dispatched 2 crossed (f 2_000_000_000) (f 7 ∷ f 7 ∷ []) ∷ dispatched 1 flat (f 2_000_000_000) (f 7 ∷ [])
    ∷ []
    ≡ gives (bits 0x4047_2492_4924_5c00 ∷ bits 0x4035_2492_4924_a800 ∷ bits 0x404a_4924_9249_5000 ∷ []) ∷ gives (f 1_000_000 ∷ []) ∷ gives []
    ∷ refuses 8 1 (f 7 ∷ f 7 ∷ []) ∷ refuses 5 1 (f 7 ∷ f 7 ∷ []) ∷ refuses 5 1 (f 7 ∷ f 7 ∷ []) ∷ refuses 5 0 (f 7 ∷ [])
    ∷ []
unfolding dispatched dispatched_by shared_out shared_out_if tests_of faulty_cost faulty_cost_at infinite_cost economic_dispatch dispatch_at standing shared closed first_free outputs price_of bisected halved opening total_at output_at first tab sum_to least_to greatest_to number_of index_of neg add sub mul div lt eq le of_bits round
corners = refl
