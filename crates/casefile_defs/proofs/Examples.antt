-- Worked examples, by computation: case L (document 01, "Case file") as a file, what is read of it and what is left in the tables; its corridor with a cap; lines by level; its buses with
-- weights, and BU and BV in one file; case L moved into the other form and back; the refusals of files that differ from it in a byte or two; the bounds of counts and length; and the words and bytes looked at,
-- both bounds of whose count are met.
use Prim.Native.Nat.{ℕ, ◌+◌, ◌*◌}
use mathlib.Core.Bool.{Bool, true, false}
use mathlib.Core.List.{List, [], ◌∷◌, ◌++◌, map}
use mathlib.Core.Path.{◌≡◌, refl}
use lib.ListN.{length, replicate, set, take}
use lib.Ieee.{Float, binary64, of_bits}
use Rattle.loops.specs.Figures.{nought, half, one, fifty, hundred}
use Rattle.loops.specs.Loops.{iter, first, tab}
use Rattle.loops.specs.Parts.{part}
use Rattle.refusal.specs.declared.Refusal.TheVariants.{Count, FileLength, Cut, Mark, Code, Trailing, Weight}
use Rattle.mode.specs.Number.{mode_number}
use Rattle.mode.specs.declared.PlanMode.TheVariants.{Observe}
use Rattle.casefile_defs.specs.Layout.{little, word, spot}
use Rattle.casefile_defs.specs.Looks.{looked_as, looked_at}
use Rattle.casefile_defs.specs.Moving.{bus_as, buses_as, file_as, fitted, moved_as, unmoved, forward_by, first_other, back_by, move_back}
use Rattle.casefile_defs.specs.Reading.{record_tests, record_at, admitted, stepped, walked, bus_form, mode_of, header_of, counts_ok, tables_walked, trailing, looks_for, case_read, unread, end_read, body_read, read_as, read_of}
use Rattle.casefile_defs.specs.Tables.{Places, number_at, figure_at, number_in, figure_in, weight_at, weight_in, sheet_in, lines_at, tables_of}
use Rattle.casefile_defs.specs.declared.Header.{Header}
use Rattle.casefile_defs.specs.declared.Wanted.TheVariants.{Either, Plain, Weighed}
use Rattle.casefile_defs.specs.declared.Kind.TheVariants.{Head}
use Rattle.std.specs.Prelude.{Err, Ok}
use Rattle.refusal.specs.Reply.{no_refusal}

-- ---- case L, byte by byte: HD 2 0 2 1 1 0 1; LV 138; BU 0 0; BU 0 50; GE 0 1 0 100 20 0.25; CO 0 1 1 10 1; LN 0 0.5 0 100 0
-- a figure whose first five bytes are zero
abbrev bits : ℕ → ℕ → ℕ → List ℕ
bits x y z = 0 ∷ 0 ∷ 0 ∷ 0 ∷ 0 ∷ x ∷ y ∷ z ∷ []

-- the header's and the level's; a bus's; the generator's; the corridor's, by the second letter of its mark; the line's
abbrev head_l : List ℕ
head_l = (0x48 ∷ 0x44 ∷ 2 ∷ 0 ∷ 0 ∷ 0 ∷ 0 ∷ 2 ∷ 0 ∷ 1 ∷ 0 ∷ 1 ∷ 0 ∷ 0 ∷ 1 ∷ []) ++ (0x4c ∷ 0x56 ∷ bits 0x40 0x61 0x40)

abbrev bus_l : List ℕ → List ℕ
bus_l load = 0x42 ∷ 0x55 ∷ 0 ∷ load

abbrev generator_l : List ℕ
generator_l = (0x47 ∷ 0x45 ∷ 0 ∷ 0 ∷ 1 ∷ bits 0 0 0) ++ bits 0 0x59 0x40 ++ bits 0 0x34 0x40 ++ bits 0 0xd0 0x3f

-- all of them before the corridor's
abbrev front_l : List ℕ
front_l = head_l ++ bus_l (bits 0 0 0) ++ bus_l (bits 0 0x49 0x40) ++ generator_l

abbrev corridor_l : ℕ → List ℕ
corridor_l letter = (0x43 ∷ letter ∷ 0 ∷ 0 ∷ 1 ∷ 0 ∷ 1 ∷ bits 0 0x24 0x40) ++ bits 0 0xf0 0x3f

abbrev line_l : List ℕ
line_l = (0x4c ∷ 0x4e ∷ bits 0 0 0) ++ bits 0 0xe0 0x3f ++ bits 0 0 0 ++ bits 0 0x59 0x40 ++ (0 ∷ [])

abbrev pub file_l : List ℕ
file_l = front_l ++ corridor_l 0x4f ++ line_l

abbrev header_l : Header
header_l = record { mode = Observe; target = 0; buses = 2; corridors = 1; generators = 1; above = 0; requested = 1 }

pub case_l : read_of file_l ≡ case_read (Ok header_l) 0
unfolding read_as body_read end_read tables_walked walked bus_form stepped admitted record_at record_tests header_of mode_of mode_number trailing looks_for iter first word little
case_l = refl

-- ---- its tables: zeros past the counts
abbrev tables_l : Places
tables_l = tables_of file_l header_l

abbrev counts : List ℕ → ℕ → List ℕ
counts l past = l ++ replicate past 0

abbrev figures : List Float → ℕ → List Float
figures l past = l ++ replicate past nought

pub counts_l :
    tables_l.tier ∷ tables_l.bus ∷ tables_l.slack ∷ tables_l.a ∷ tables_l.b ∷ tables_l.circuits ∷ tables_l.cap ∷ []
    ≡ counts (0 ∷ 0 ∷ []) 254 ∷ counts (0 ∷ []) 127 ∷ counts (1 ∷ []) 127 ∷ counts (0 ∷ []) 255 ∷ counts (1 ∷ []) 255 ∷ counts (1 ∷ []) 255 ∷ counts (0 ∷ []) 255 ∷ []
unfolding tables_of number_in number_at spot tab word little
counts_l = refl

pub figures_l :
    tables_l.ladder ∷ tables_l.reading ∷ tables_l.weight ∷ tables_l.pmin ∷ tables_l.pmax ∷ tables_l.c1 ∷ tables_l.c2 ∷ tables_l.length_km ∷ tables_l.share ∷ []
    ≡ figures (of_bits binary64 0x4061_4000_0000_0000 ∷ []) 4
    ∷ figures (nought ∷ fifty ∷ []) 254
    ∷ figures (one ∷ one ∷ []) 254
    ∷ figures (nought ∷ []) 127
    ∷ figures (hundred ∷ []) 127
    ∷ figures (of_bits binary64 0x4034_0000_0000_0000 ∷ []) 127
    ∷ figures (of_bits binary64 0x3fd0_0000_0000_0000 ∷ []) 127
    ∷ figures (of_bits binary64 0x4024_0000_0000_0000 ∷ []) 255
    ∷ figures (one ∷ []) 255
    ∷ []
unfolding tables_of figure_in figure_at weight_in weight_at spot tab word little
figures_l = refl

-- the first places of the sheet, past its one row too
pub sheet_l : tab 8 (sheet_in file_l (lines_at file_l header_l) 1 1) ≡ nought ∷ half ∷ nought ∷ hundred ∷ nought ∷ nought ∷ nought ∷ nought ∷ []
unfolding sheet_in spot tab word little
sheet_l = refl

-- ---- document 02's CP: the corridor's record with a cap after its fields; and two corridors, the first with a cap of 2
abbrev capped_l : ℕ → List ℕ
capped_l cap = front_l ++ corridor_l 0x50 ++ (cap ∷ line_l)

abbrev two_l : List ℕ
two_l = set front_l 9 2 ++ corridor_l 0x50 ++ (2 ∷ corridor_l 0x4f) ++ line_l ++ line_l

abbrev header_two : Header
header_two = record { mode = Observe; target = 0; buses = 2; corridors = 2; generators = 1; above = 0; requested = 1 }

-- any cap is read; a CP without its last byte is cut, where a CO of the same length is whole and another mark is wrong; a CP in a bus's place is a wrong mark
pub capped :
    map read_of (capped_l 2 ∷ capped_l 7 ∷ two_l ∷ take 107 (capped_l 2) ∷ take 107 file_l ∷ set (take 107 file_l) 85 0x51 ∷ set (set file_l 25 0x43) 26 0x50 ∷ [])
    ≡ case_read (Ok header_l) 0 ∷ case_read (Ok header_l) 0 ∷ case_read (Ok header_two) 0 ∷ map unread (Cut 5 ∷ Cut 6 ∷ Mark 5 ∷ Mark 2 ∷ [])
unfolding read_as body_read end_read tables_walked walked bus_form stepped admitted record_at record_tests header_of mode_of mode_number trailing looks_for iter first word little
capped = refl

-- a CO has cap 0; what stands behind a CP is found; past the corridors there are zeros, whatever stands there
pub caps :
    (tables_of (capped_l 2) header_l).cap ∷ (tables_of (capped_l 7) header_l).cap ∷ (tables_of two_l header_two).cap ∷ (tables_of two_l header_two).circuits
    ∷ (tables_of (front_l ++ corridor_l 0x4f ++ corridor_l 0x50 ++ (3 ∷ [])) header_l).cap ∷ []
    ≡ counts (2 ∷ []) 255 ∷ counts (7 ∷ []) 255 ∷ counts (2 ∷ 0 ∷ []) 254 ∷ counts (1 ∷ 1 ∷ []) 254 ∷ counts (0 ∷ []) 255 ∷ []
unfolding tables_of number_in number_at spot tab word little
caps = refl

pub sheet_two : tab 12 (sheet_in two_l (lines_at two_l header_two) 2 1) ≡ nought ∷ half ∷ nought ∷ hundred ∷ nought ∷ nought ∷ half ∷ nought ∷ hundred ∷ nought ∷ nought ∷ nought ∷ []
unfolding sheet_in spot tab word little
sheet_two = refl

-- document 02's K11: the first figure of each row, past the rows too, of three corridors' lines at two levels, told apart by that figure's last byte
abbrev line_as : ℕ → List ℕ
line_as z = set line_l 9 z

abbrev six_l : List ℕ
six_l = line_as 1 ++ line_as 2 ++ line_as 3 ++ line_as 4 ++ line_as 5 ++ line_as 6

pub by_level_lem : map (λ i. sheet_in six_l 0 3 2 (5 * i)) (0 ∷ 1 ∷ 2 ∷ 3 ∷ 4 ∷ 5 ∷ 6 ∷ []) ≡ map (λ z. of_bits binary64 (z * 0x100_0000_0000_0000)) (1 ∷ 3 ∷ 5 ∷ 2 ∷ 4 ∷ 6 ∷ 0 ∷ [])
unfolding sheet_in spot word little
by_level_lem = refl

-- ---- document 02's BV: two buses, of tier 3 with 100 at weight 0.5 and of tier 4 with 50 at weight 1
abbrev weighed_l : ℕ → List ℕ → List ℕ → List ℕ
weighed_l tier reading weight = (0x42 ∷ 0x56 ∷ tier ∷ reading) ++ weight

abbrev first_l : List ℕ
first_l = weighed_l 3 (bits 0 0x59 0x40) (bits 0 0xe0 0x3f)

abbrev second_l : List ℕ
second_l = weighed_l 4 (bits 0 0x49 0x40) (bits 0 0xf0 0x3f)

-- case L with other buses
abbrev buses_l : List ℕ → List ℕ
buses_l buses = head_l ++ buses ++ generator_l ++ corridor_l 0x4f ++ line_l

abbrev file_w : List ℕ
file_w = buses_l (first_l ++ second_l)

pub case_w : read_of file_w ≡ case_read (Ok header_l) 0
unfolding read_as body_read end_read tables_walked walked bus_form stepped admitted record_at record_tests header_of mode_of mode_number trailing looks_for iter first word little
case_w = refl

-- what stands behind a BV is found; past the buses there are zeros, also for the weight
abbrev tables_w : Places
tables_w = tables_of file_w header_l

pub numbers_w : tables_w.tier ∷ tables_w.slack ∷ tables_w.b ∷ [] ≡ counts (3 ∷ 4 ∷ []) 254 ∷ counts (1 ∷ []) 127 ∷ counts (1 ∷ []) 255 ∷ []
unfolding tables_of number_in number_at spot tab word little
numbers_w = refl

pub figures_w : tables_w.reading ∷ tables_w.weight ∷ tables_w.pmax ∷ [] ≡ figures (hundred ∷ fifty ∷ []) 254 ∷ figures (half ∷ one ∷ []) 254 ∷ figures (hundred ∷ []) 127 ∷ []
unfolding tables_of figure_in figure_at weight_in weight_at spot tab word little
figures_w = refl

-- BU and BV in one file: 15 at the first bus that differs, whichever came first; 14 before it, by that record's own length; so a BV with 18 bytes left is cut, and another
-- mark with 11 is wrong; another mark before a BV; a BV in the generator's place
abbrev plain_first : List ℕ
plain_first = buses_l (bus_l (bits 0 0 0) ++ first_l)

abbrev weighed_first : List ℕ
weighed_first = buses_l (first_l ++ bus_l (bits 0 0 0))

pub forms_meet :
    map read_of
    (plain_first ∷ weighed_first ∷ take 55 plain_first ∷ take 54 plain_first ∷ take 55 weighed_first ∷ take 54 weighed_first ∷ take 43 file_w ∷ take 44 file_w
    ∷ set (take 55 weighed_first) 45 0x57 ∷ set plain_first 26 0x57 ∷ set file_l 47 0x42 ∷ set (set file_l 47 0x42) 48 0x56 ∷ [])
    ≡ map unread (Mark 3 ∷ Mark 3 ∷ Mark 3 ∷ Cut 3 ∷ Mark 3 ∷ Cut 3 ∷ Cut 2 ∷ Cut 3 ∷ Mark 3 ∷ Mark 2 ∷ Mark 4 ∷ Mark 4 ∷ [])
unfolding read_as body_read end_read tables_walked walked bus_form stepped admitted record_at record_tests header_of mode_of mode_number trailing looks_for iter first word little
forms_meet = refl

-- ---- document 02's K7: case L with its loads as readings of weight 1, and back; the output is this and zeros
abbrev one_l : List ℕ
one_l = bits 0 0xf0 0x3f

abbrev forward_l : List ℕ
forward_l = buses_l (weighed_l 0 (bits 0 0 0) one_l ++ weighed_l 0 (bits 0 0x49 0x40) one_l)

pub moved_forward : forward_by file_l (Ok header_l) ≡ moved_as no_refusal (fitted forward_l)
unfolding forward_by file_as buses_as bus_as part spot
moved_forward = refl

pub moved_back : back_by forward_l (Ok header_l) ≡ moved_as no_refusal (fitted file_l)
unfolding back_by first_other file_as buses_as bus_as part spot first word little
moved_back = refl

-- a file of the other form is 15 at its first bus, 14 where that is cut; a mixed one where they meet
pub other_form :
    map (read_as Plain) (file_w ∷ take 43 file_w ∷ plain_first ∷ []) ++ map (read_as Weighed) (file_l ∷ take 35 file_l ∷ weighed_first ∷ [])
    ≡ map unread (Mark 2 ∷ Cut 2 ∷ Mark 3 ∷ Mark 2 ∷ Cut 2 ∷ Mark 3 ∷ [])
unfolding read_as body_read end_read tables_walked walked bus_form stepped admitted record_at record_tests header_of mode_of mode_number trailing looks_for iter first word little
other_form = refl

-- 21 at the lowest bus whose weight is not 1, the output zero; after every refusal of the reading
pub other_weight : back_by file_w (Ok header_l) ∷ back_by (buses_l (second_l ++ first_l)) (Ok header_l) ∷ [] ≡ unmoved (Weight 0) ∷ unmoved (Weight 1) ∷ []
unfolding back_by first_other spot first word little
other_weight = refl

pub trailing_first : (out : List ℕ) → length out ≡ 65536 → move_back (file_w ++ (7 ∷ [])) out ≡ moved_as (Err (Trailing 158)) (replicate 65536 0)
unfolding move_back back_by read_as body_read end_read tables_walked walked bus_form stepped admitted record_at record_tests header_of mode_of mode_number trailing looks_for iter first word little
trailing_first out e = rw e refl

-- ---- refusals: no byte, and a header cut; mode 6; 129 generators; a bus cut, its mark wrong too; the level's mark; the second bus's mark, and a basis of 2
-- behind it; slack 2; basis 2
pub refusals :
    map read_of
    ([] ∷ take 14 file_l ∷ set file_l 2 6 ∷ set file_l 11 129 ∷ take 35 file_l ∷ set (take 35 file_l) 25 0 ∷ set file_l 15 0 ∷ set (set file_l 36 0) 141 2 ∷ set file_l 51 2
    ∷ set file_l 141 2 ∷ [])
    ≡ map unread (Cut 0 ∷ Cut 0 ∷ Code 0 ∷ Count ∷ Cut 2 ∷ Cut 2 ∷ Mark 1 ∷ Mark 3 ∷ Code 4 ∷ Code 6 ∷ [])
unfolding read_as body_read end_read tables_walked walked bus_form stepped admitted record_at record_tests header_of mode_of mode_number trailing looks_for iter first word little
refusals = refl

-- zeros behind the last record; a byte that is not zero in the third place, as the first of a word, as the last of the second
pub after_the_last :
    map (λ l. read_of (file_l ++ l)) (replicate 9 0 ∷ (0 ∷ 0 ∷ 7 ∷ []) ∷ (7 ∷ replicate 7 0) ∷ (replicate 15 0 ++ (7 ∷ [])) ∷ [])
    ≡ case_read (Ok header_l) 2 ∷ case_read (Err (Trailing 144)) 3 ∷ case_read (Err (Trailing 142)) 2 ∷ case_read (Err (Trailing 157)) 10 ∷ []
unfolding read_as body_read end_read tables_walked walked bus_form stepped admitted record_at record_tests header_of mode_of mode_number trailing looks_for iter first word little
after_the_last = refl

-- ---- document 01's bounds: each count and the target at its largest, and then each outside its bound
abbrev within : ℕ → ℕ → ℕ → ℕ → ℕ → ℕ → Bool
within buses corridors generators above requested target =
    counts_ok (record { mode = Observe; target = target; buses = buses; corridors = corridors; generators = generators; above = above; requested = requested })

pub bounds :
    within 256 256 128 4 1 65536 ∷ within 0 0 0 0 5 0 ∷ within 257 0 0 0 1 0 ∷ within 0 257 0 0 1 0 ∷ within 0 0 129 0 1 0 ∷ within 0 0 0 5 1 0
    ∷ within 0 0 0 1 0 0 ∷ within 0 0 0 0 1 65537 ∷ []
    ≡ true ∷ true ∷ false ∷ false ∷ false ∷ false ∷ false ∷ false ∷ []
bounds = refl

-- a file of 65,536 bytes is read; one of a byte more is not, whatever it holds
pub longest : (s : List ℕ) → length s ≡ 65536 → read_of s ≡ body_read Either s (record_at Head s 0 0)
unfolding read_as
longest s e = simp e

pub too_long : (s : List ℕ) → length s ≡ 65537 → read_of s ≡ unread FileLength
unfolding read_as
too_long s e = simp e

-- ---- the words and bytes looked at
-- no byte, seven zeros, a word of zeros; a byte first in a word, last in it, right behind it, last of seven behind it; case L padded to 65,536 bytes
pub by_hand : looks_for 0 0 ∷ looks_for 7 7 ∷ looks_for 8 8 ∷ looks_for 8 0 ∷ looks_for 8 7 ∷ looks_for 9 8 ∷ looks_for 15 14 ∷ looks_for 65394 65394 ∷ []
    ≡ 0 ∷ 7 ∷ 1 ∷ 2 ∷ 9 ∷ 2 ∷ 8 ∷ 8176 ∷ []
unfolding looks_for
by_hand = refl

-- a byte in the last place of the last whole word; zeros that make whole words
pub most_met : (8 * looks_for 8 7) ∷ (8 * looks_for 65392 65391) ∷ [] ≡ (8 + 64) ∷ (65392 + 64) ∷ []
unfolding looks_for
most_met = refl

pub least_met : (8 * looks_for 8 8) ∷ (8 * looks_for 65392 65392) ∷ [] ≡ 8 ∷ 65392 ∷ []
unfolding looks_for
least_met = refl

-- from the second byte on: the ninth is not zero, the eighth byte of the first word
pub place_and_count : looked_at (9 ∷ 0 ∷ 0 ∷ 0 ∷ 0 ∷ 0 ∷ 0 ∷ 0 ∷ 5 ∷ 7 ∷ []) 1 ≡ looked_as 8 9
unfolding trailing first looks_for
place_and_count = refl
