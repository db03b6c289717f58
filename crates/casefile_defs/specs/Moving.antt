-- Document 02's K7: a case file with its buses in the other form, byte by byte, and the two operations whole.
use Rattle.std.specs.Prelude.{ℕ, zero, suc, ◌+◌, Bool, cond, List, [], ◌∷◌, ◌++◌, ltb, eqb, length, take, drop, replicate, Err, Ok, Result}
use Rattle.loops.specs.Loops.{first}
use Rattle.loops.specs.Parts.{part}
use Rattle.refusal.specs.Reply.{Reply, reply_of, no_refusal}
use Rattle.refusal.specs.declared.Refusal.{Refusal}
use Rattle.refusal.specs.declared.Refusal.TheVariants.{Length, Weight}
use Rattle.casefile_defs.specs.Bounds.{most_bytes}
use Rattle.casefile_defs.specs.Layout.{layout_of, weighs, spot, field}
use Rattle.casefile_defs.specs.Reading.{read_as}
use Rattle.casefile_defs.specs.Tables.{buses_at, weight_field}
use Rattle.casefile_defs.specs.declared.Kind.{Kind}
use Rattle.casefile_defs.specs.declared.Kind.TheVariants.{Bus, WeighedBus}
use Rattle.casefile_defs.specs.declared.Header.{Header}
use Rattle.casefile_defs.specs.declared.Wanted.TheVariants.{Plain, Weighed}

-- ---- a bus's record as one of kind k: the mark; tier and load, or tier and reading, as they stand; and a weight of 1 where the kind has one
abbrev pub mark_of : Kind → List ℕ
mark_of k = (layout_of k).first ∷ (layout_of k).second ∷ []

abbrev pub called_bytes : ℕ
called_bytes = 9

abbrev pub called : List ℕ → ℕ → List ℕ
called s at = part (at + 2) called_bytes s

-- the bytes of the figure 1
abbrev pub one_bytes : List ℕ
one_bytes = 0 ∷ 0 ∷ 0 ∷ 0 ∷ 0 ∷ 0 ∷ 0xf0 ∷ 0x3f ∷ []

abbrev pub weight_of : Kind → List ℕ
weight_of k = cond (weighs k) one_bytes []

unfoldable pub bus_as : Kind → List ℕ → ℕ → List ℕ
bus_as k s at = mark_of k ++ (called s at ++ weight_of k)

-- n buses from a place on
unfoldable pub buses_as : Kind → List ℕ → ℕ → ℕ → List ℕ
buses_as k s at zero = []
buses_as k s at (suc n) = buses_as k s at n ++ bus_as k s (spot Bus s at n)

-- a file with its n buses, from a place on, as records of kind k; all else as it stands
unfoldable pub file_as : Kind → List ℕ → ℕ → ℕ → List ℕ
file_as k s at n = take at s ++ (buses_as k s at n ++ drop (spot Bus s at n) s)

-- as 65,536 bytes: of a file, what is cut off and what is added are zeros
unfoldable pub fitted : List ℕ → List ℕ
fitted l = take most_bytes (l ++ replicate most_bytes 0)

-- ---- the operations: what is said, and every byte of the output
pub record Moved : Type 0 where
  pub reply : Reply (Unit {0})
  pub out : List ℕ

abbrev pub moved_as : Result (Unit {0}) Refusal → List ℕ → Moved
moved_as a l = record { reply = reply_of a; out = l }

-- a refusal but 1 leaves zeros
abbrev pub unmoved : Refusal → Moved
unmoved f = moved_as (Err f) (replicate most_bytes 0)

abbrev pub moved_to : Kind → List ℕ → Header → Moved
moved_to k s h = moved_as no_refusal (fitted (file_as k s (buses_at s h) h.buses))

unfoldable pub forward_by : List ℕ → Result Header Refusal → Moved
forward_by s (Err f) = unmoved f
forward_by s (Ok h) = moved_to WeighedBus s h

-- 1, then the reading's refusals of a file of BU
unfoldable pub move_forward : List ℕ → List ℕ → Moved
move_forward s out = cond (eqb (length out) most_bytes) (forward_by s (read_as Plain s).reading) (moved_as (Err Length) out)

-- the first bus whose weight is not 1: by its bits, since one pattern only is 1
abbrev pub one_bits : ℕ
one_bits = 0x3ff0_0000_0000_0000

abbrev pub weighs_one : List ℕ → ℕ → ℕ → Bool
weighs_one s at i = eqb (field WeighedBus weight_field (spot Bus s at i) s) one_bits

unfoldable pub first_other : List ℕ → ℕ → ℕ → ℕ
first_other s at n = first (weighs_one s at) n 0

unfoldable pub back_by : List ℕ → Result Header Refusal → Moved
back_by s (Err f) = unmoved f
back_by s (Ok h) =
    cond (ltb (first_other s (buses_at s h) h.buses) h.buses) (unmoved (Weight (first_other s (buses_at s h) h.buses))) (moved_to Bus s h)

-- 1, then the reading's refusals of a file of BV, then 21
unfoldable pub move_back : List ℕ → List ℕ → Moved
move_back s out = cond (eqb (length out) most_bytes) (back_by s (read_as Weighed s).reading) (moved_as (Err Length) out)
