-- Document 01's "Case file", with document 02's CP and BV: each record is a mark of two letters, then its fields. Lengths and places follow from the one
-- table `layout_of`.
use Rattle.std.specs.Prelude.{ℕ, zero, suc, ◌+◌, ◌*◌, Bool, true, false, not, ◌&&◌, cond, List, [], ◌∷◌, leb, eqb, get_or, take, drop}
use Rattle.casefile_defs.specs.declared.Kind.{Kind}
use Rattle.casefile_defs.specs.declared.Kind.TheVariants.{Head, Level, Bus, Generator, Corridor, Line, CappedCorridor, WeighedBus}

-- the number that bytes stand for, the least significant first
unfoldable pub little : List ℕ → ℕ
little [] = 0
little (b ∷ bs) = b + 256 * little bs

-- the number of w bytes at a place of the file
unfoldable pub word : ℕ → ℕ → List ℕ → ℕ
word w at s = little (take w (drop at s))

-- a whole number of so many bytes; a byte that is refused above a bound; the 64 bits of a figure
pub data Field : Type 0 where
  number : ℕ → Field
  up_to : ℕ → Field
  figure : Field

abbrev pub u8 : Field
u8 = number 1

abbrev pub u16 : Field
u16 = number 2

abbrev pub u32 : Field
u32 = number 4

-- a field's bytes
abbrev pub width_of : Field → ℕ
width_of (number w) = w
width_of (up_to m) = 1
width_of figure = 8

-- whether a field's number is within its bound
abbrev pub allowed : Field → ℕ → Bool
allowed (number w) v = true
allowed (up_to m) v = leb v m
allowed figure v = true

-- a record: its mark's two letters, and its fields
pub record Layout : Type 0 where
  pub first : ℕ
  pub second : ℕ
  pub fields : List Field

abbrev pub laid : ℕ → ℕ → List Field → Layout
laid m n fs = record { first = m; second = n; fields = fs }

-- HD mode target buses corridors generators above requested; LV kV; BU tier load;
-- GE bus slack pmin pmax c1 c2; CO a b circuits length share; LN r x b rate basis; CP the fields of CO, then cap; BV tier reading weight
abbrev pub layout_of : Kind → Layout
layout_of Head = laid 0x48 0x44 (up_to 5 ∷ u32 ∷ u16 ∷ u16 ∷ u16 ∷ u8 ∷ u8 ∷ [])
layout_of Level = laid 0x4c 0x56 (figure ∷ [])
layout_of Bus = laid 0x42 0x55 (u8 ∷ figure ∷ [])
layout_of Generator = laid 0x47 0x45 (u16 ∷ up_to 1 ∷ figure ∷ figure ∷ figure ∷ figure ∷ [])
layout_of Corridor = laid 0x43 0x4f (u16 ∷ u16 ∷ u8 ∷ figure ∷ figure ∷ [])
layout_of Line = laid 0x4c 0x4e (figure ∷ figure ∷ figure ∷ figure ∷ up_to 1 ∷ [])
layout_of CappedCorridor = laid 0x43 0x50 (u16 ∷ u16 ∷ u8 ∷ figure ∷ figure ∷ u8 ∷ [])
layout_of WeighedBus = laid 0x42 0x56 (u8 ∷ figure ∷ figure ∷ [])

abbrev pub widths_of : List Field → ℕ
widths_of [] = 0
widths_of (f ∷ fs) = width_of f + widths_of fs

-- a record's length, its mark counted
abbrev pub size_of : Kind → ℕ
size_of k = 2 + widths_of (layout_of k).fields

-- field j's distance from the first field
abbrev pub offset_of : List Field → ℕ → ℕ
offset_of fs zero = 0
offset_of [] (suc j) = 0
offset_of (f ∷ fs) (suc j) = width_of f + offset_of fs j

-- field j's place in a record, and its width
abbrev pub place_of : Kind → ℕ → ℕ
place_of k j = 2 + offset_of (layout_of k).fields j

abbrev pub span_of : Kind → ℕ → ℕ
span_of k j = width_of (get_or (layout_of k).fields j figure)

-- what stands in field j of the record of kind k at a place of the file
abbrev pub field : Kind → ℕ → ℕ → List ℕ → ℕ
field k j at s = word (span_of k j) (at + place_of k j) s

-- whether the fields from distance o on are within their bounds, in the record at a place
abbrev pub allowed_from : List Field → ℕ → ℕ → List ℕ → Bool
allowed_from [] o at s = true
allowed_from (f ∷ fs) o at s = allowed f (word (width_of f) (at + o) s) && allowed_from fs (o + width_of f) at s

-- whether every field of the record at a place is within its bound
abbrev pub codes_ok : Kind → List ℕ → ℕ → Bool
codes_ok k s at = allowed_from (layout_of k).fields 2 at s

-- whether a record's mark stands at a place
abbrev pub marked : Kind → List ℕ → ℕ → Bool
marked k s at = eqb (get_or s at 0) (layout_of k).first && eqb (get_or s (at + 1) 0) (layout_of k).second

-- the record that stands where one of kind k is due, by its mark: a CP may stand for a CO, a BV for a BU, and any other mark is taken for the older
-- record's
abbrev pub standing : Kind → List ℕ → ℕ → Kind
standing Head s at = Head
standing Level s at = Level
standing Bus s at = cond (marked WeighedBus s at) WeighedBus Bus
standing Generator s at = Generator
standing Corridor s at = cond (marked CappedCorridor s at) CappedCorridor Corridor
standing Line s at = Line
standing CappedCorridor s at = CappedCorridor
standing WeighedBus s at = WeighedBus

-- one file uses only one of BU and BV: whether a record may stand in a file of the one or of the other
abbrev pub weighs : Kind → Bool
weighs Head = false
weighs Level = false
weighs Bus = false
weighs Generator = false
weighs Corridor = false
weighs Line = false
weighs CappedCorridor = false
weighs WeighedBus = true

abbrev pub suits : Bool → Kind → Bool
suits weighed k = cond weighed (weighs k) (not (weighs k))

-- where it ends
abbrev pub end_of : Kind → List ℕ → ℕ → ℕ
end_of k s at = at + size_of (standing k s at)

-- where record i of a table starts, the first of which is at a place
unfoldable pub spot : Kind → List ℕ → ℕ → ℕ → ℕ
spot k s at zero = at
spot k s at (suc i) = end_of k s (spot k s at i)
