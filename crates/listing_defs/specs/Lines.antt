-- The text of each line of the listing (document 01, "Case file"), and how many bytes a listing has at most.
use Rattle.std.specs.Prelude.{ℕ, zero, suc, ◌+◌, ◌*◌, List, [], ◌∷◌, ◌++◌, map, length, get_or, Float}
use Rattle.loops.specs.Bounds.{most_levels, most_buses, most_generators, most_corridors}
use Rattle.loops.specs.Figures.{at}
use Rattle.mode.specs.Number.{mode_number}
use Rattle.mode.specs.declared.PlanMode.{PlanMode}
use Rattle.refusal.specs.Number.{number_of, index_of}
use Rattle.refusal.specs.declared.Refusal.{Refusal}
use Rattle.plan_defs.specs.Listing.{flag}
use Rattle.plan_defs.specs.declared.CorridorPlan.{CorridorPlan}
use Rattle.listing_defs.specs.Text.{line_feed, number, figure, field}
use Rattle.listing_defs.specs.declared.Field.{Field}

-- fields one behind another, with the line feed behind them
abbrev pub ended : List (List ℕ) → List ℕ
ended [] = line_feed ∷ []
ended (f ∷ fs) = f ++ ended fs

-- a line: the two letters of its mark, its fields, the line feed
abbrev pub line : ℕ → ℕ → List (List ℕ) → List ℕ
line a b fs = a ∷ b ∷ ended fs

-- of a mark and fields, as the program puts a line
abbrev pub line_of : List ℕ → List Field → List ℕ
line_of mark fs = mark ++ ended (map field fs)

-- RF number index
unfoldable pub refusal_line : Refusal → List ℕ
refusal_line f = line 82 70 (number (number_of f) ∷ number (index_of f) ∷ [])

-- PL mode rounds converged, and capacity stiffening filler promoted upsized overloaded capped
abbrev pub tallies : CorridorPlan → List (List ℕ)
tallies p =
    number p.capacity ∷ number p.stiffening ∷ number p.filler ∷ number p.promoted ∷ number p.upsized ∷ number p.overloaded ∷ number p.capped ∷ []

unfoldable pub plan_line : PlanMode → CorridorPlan → List ℕ
plan_line mode p = line 80 76 (number (mode_number mode) ∷ number p.rounds ∷ number (flag p.converged) ∷ tallies p)

-- AD kV
unfoldable pub added_line : Float → List ℕ
added_line kv = line 65 68 (figure kv ∷ [])

-- GR bus
unfoldable pub ground_line : ℕ → List ℕ
ground_line bus = line 71 82 (number bus ∷ [])

-- BU index tier angle
unfoldable pub bus_line : ℕ → ℕ → Float → List ℕ
bus_line i tier angle = line 66 85 (number i ∷ number tier ∷ figure angle ∷ [])

-- GE index MW
unfoldable pub generator_line : ℕ → Float → List ℕ
generator_line i mw = line 71 69 (number i ∷ figure mw ∷ [])

-- CO index circuits flow rate
unfoldable pub corridor_line : ℕ → ℕ → Float → Float → List ℕ
corridor_line i circuits flow rate = line 67 79 (number i ∷ number circuits ∷ figure flow ∷ figure rate ∷ [])

-- MX loading spread
unfoldable pub most_line : Float → Float → List ℕ
most_line loading spread = line 77 88 (figure loading ∷ figure spread ∷ [])

-- ---- the lines of a table: those of its first n places
unfoldable pub lines : (ℕ → List ℕ) → ℕ → List ℕ
lines f zero = []
lines f (suc i) = lines f i ++ f i

abbrev pub added_lines : List Float → List ℕ
added_lines added = lines (λ i. added_line (at added i)) (length added)

abbrev pub ground_lines : List ℕ → List ℕ
ground_lines grounds = lines (λ i. ground_line (get_or grounds i 0)) (length grounds)

abbrev pub bus_lines : List ℕ → List Float → List ℕ
bus_lines tier angle = lines (λ i. bus_line i (get_or tier i 0) (at angle i)) (length angle)

abbrev pub generator_lines : List Float → List ℕ
generator_lines mw = lines (λ i. generator_line i (at mw i)) (length mw)

abbrev pub corridor_lines : List ℕ → List Float → List Float → List ℕ
corridor_lines circuits flow rate = lines (λ i. corridor_line i (get_or circuits i 0) (at flow i) (at rate i)) (length circuits)

-- ---- the most bytes of PL, and of any other line
abbrev pub plan_room : ℕ
plan_room = 213

abbrev pub line_room : ℕ
line_room = 79

-- and of the listing with so many lines besides PL
abbrev pub room_for : ℕ → ℕ
room_for n = plan_room + line_room * n

-- the most added levels, grounds, buses, generators and corridors, and MX
abbrev pub most_lines : ℕ
most_lines = most_levels + most_buses + most_buses + most_generators + most_corridors + 1

abbrev pub most_text : ℕ
most_text = room_for most_lines
