-- Document 01's listing of case L, whole, and that of a plan whose tallies all differ: their figures give their texts, byte for byte.
use Prim.Native.Nat.{ℕ}
use mathlib.Core.Bool.{true}
use mathlib.Core.List.{[], ◌∷◌}
use mathlib.Core.Path.{◌≡◌, refl}
use lib.Ieee.{Float, binary64, of_bits, to_bits, eq, mul, round}
use Rattle.mode.specs.Number.{mode_number}
use Rattle.mode.specs.declared.PlanMode.TheVariants.{Expand, Observe}
use Rattle.plan_defs.specs.declared.CorridorPlan.{CorridorPlan}
use Rattle.plan_defs.specs.Design.{line_of}
use Rattle.plan_defs.specs.Outcome.{summary as plan_summary}
use Rattle.plan_defs.proofs.Examples.{sample}
use Rattle.listing_defs.specs.Text.{decimal, hexadecimal, number, figure}
use Rattle.listing_defs.specs.Lines.{plan_line, added_line, ground_line, bus_line, generator_line, corridor_line, most_line, lines}
use Rattle.listing_defs.specs.Listing.{listed, plan_text}

abbrev pub bits : ℕ → Float
bits n = of_bits binary64 n

abbrev pub summary : CorridorPlan
summary = record {
  rounds = 0;
  converged = true;
  capacity = 0;
  stiffening = 0;
  filler = 0;
  promoted = 0;
  upsized = 0;
  overloaded = 0;
  capped = 0;
  loading = bits 0x3fe0000000000000;
  spread = bits 0x3fd0000000000000;
  grounds = 1;
  added = 0;
}

-- what a listing's lines open
unfoldable lines_opened : ℕ
unfolding mode_number decimal hexadecimal number figure plan_line added_line ground_line bus_line generator_line corridor_line most_line lines of_bits to_bits eq
lines_opened = 0

pub case_l :
    listed Observe summary [] (0 ∷ []) (0 ∷ 0 ∷ []) (bits 0x8000000000000000 ∷ bits 0xbfd0000000000000 ∷ []) (bits 0x4049000000000000 ∷ []) (1 ∷ []) (bits 0x4049000000000000 ∷ []) (bits 0x4059000000000000 ∷ [])
    ≡ 80 ∷ 76 ∷ 32 ∷ 50 ∷ 32 ∷ 48 ∷ 32 ∷ 49 ∷ 32 ∷ 48 ∷ 32 ∷ 48 ∷ 32 ∷ 48 ∷ 32 ∷ 48 ∷ 32 ∷ 48 ∷ 32 ∷ 48 ∷ 32 ∷ 48 ∷ 10
    ∷ 71 ∷ 82 ∷ 32 ∷ 48 ∷ 10
    ∷ 66 ∷ 85 ∷ 32 ∷ 48 ∷ 32 ∷ 48 ∷ 32 ∷ 48 ∷ 48 ∷ 48 ∷ 48 ∷ 48 ∷ 48 ∷ 48 ∷ 48 ∷ 48 ∷ 48 ∷ 48 ∷ 48 ∷ 48 ∷ 48 ∷ 48 ∷ 48 ∷ 10
    ∷ 66 ∷ 85 ∷ 32 ∷ 49 ∷ 32 ∷ 48 ∷ 32 ∷ 66 ∷ 70 ∷ 68 ∷ 48 ∷ 48 ∷ 48 ∷ 48 ∷ 48 ∷ 48 ∷ 48 ∷ 48 ∷ 48 ∷ 48 ∷ 48 ∷ 48 ∷ 48 ∷ 10
    ∷ 71 ∷ 69 ∷ 32 ∷ 48 ∷ 32 ∷ 52 ∷ 48 ∷ 52 ∷ 57 ∷ 48 ∷ 48 ∷ 48 ∷ 48 ∷ 48 ∷ 48 ∷ 48 ∷ 48 ∷ 48 ∷ 48 ∷ 48 ∷ 48 ∷ 10
    ∷ 67 ∷ 79 ∷ 32 ∷ 48 ∷ 32 ∷ 49 ∷ 32 ∷ 52 ∷ 48 ∷ 52 ∷ 57 ∷ 48 ∷ 48 ∷ 48 ∷ 48 ∷ 48 ∷ 48 ∷ 48 ∷ 48 ∷ 48 ∷ 48 ∷ 48 ∷ 48 ∷ 32 ∷ 52 ∷ 48 ∷ 53 ∷ 57 ∷ 48 ∷ 48 ∷ 48 ∷ 48 ∷ 48 ∷ 48 ∷ 48 ∷ 48 ∷ 48 ∷ 48 ∷ 48 ∷ 48 ∷ 10
    ∷ 77 ∷ 88 ∷ 32 ∷ 51 ∷ 70 ∷ 69 ∷ 48 ∷ 48 ∷ 48 ∷ 48 ∷ 48 ∷ 48 ∷ 48 ∷ 48 ∷ 48 ∷ 48 ∷ 48 ∷ 48 ∷ 48 ∷ 32 ∷ 51 ∷ 70 ∷ 68 ∷ 48 ∷ 48 ∷ 48 ∷ 48 ∷ 48 ∷ 48 ∷ 48 ∷ 48 ∷ 48 ∷ 48 ∷ 48 ∷ 48 ∷ 48 ∷ 10 ∷ []
unfolding lines_opened
case_l = refl

-- A plan whose tallies all differ, with a level added: each stands in its own place of the text, and the figures that are evaluated give the same text.
pub sample_text :
    plan_text Expand sample
    ≡ 80 ∷ 76 ∷ 32 ∷ 48 ∷ 32 ∷ 50 ∷ 32 ∷ 49 ∷ 32 ∷ 51 ∷ 32 ∷ 52 ∷ 32 ∷ 53 ∷ 32 ∷ 54 ∷ 32 ∷ 55 ∷ 32 ∷ 56 ∷ 32 ∷ 57 ∷ 10
    ∷ 65 ∷ 68 ∷ 32 ∷ 52 ∷ 48 ∷ 55 ∷ 53 ∷ 57 ∷ 48 ∷ 48 ∷ 48 ∷ 48 ∷ 48 ∷ 48 ∷ 48 ∷ 48 ∷ 48 ∷ 48 ∷ 48 ∷ 10
    ∷ 71 ∷ 82 ∷ 32 ∷ 49 ∷ 10
    ∷ 66 ∷ 85 ∷ 32 ∷ 48 ∷ 32 ∷ 48 ∷ 32 ∷ 51 ∷ 70 ∷ 68 ∷ 48 ∷ 48 ∷ 48 ∷ 48 ∷ 48 ∷ 48 ∷ 48 ∷ 48 ∷ 48 ∷ 48 ∷ 48 ∷ 48 ∷ 48 ∷ 10
    ∷ 66 ∷ 85 ∷ 32 ∷ 49 ∷ 32 ∷ 49 ∷ 32 ∷ 48 ∷ 48 ∷ 48 ∷ 48 ∷ 48 ∷ 48 ∷ 48 ∷ 48 ∷ 48 ∷ 48 ∷ 48 ∷ 48 ∷ 48 ∷ 48 ∷ 48 ∷ 48 ∷ 10
    ∷ 71 ∷ 69 ∷ 32 ∷ 48 ∷ 32 ∷ 52 ∷ 48 ∷ 55 ∷ 50 ∷ 67 ∷ 48 ∷ 48 ∷ 48 ∷ 48 ∷ 48 ∷ 48 ∷ 48 ∷ 48 ∷ 48 ∷ 48 ∷ 48 ∷ 10
    ∷ 67 ∷ 79 ∷ 32 ∷ 48 ∷ 32 ∷ 52 ∷ 32 ∷ 52 ∷ 48 ∷ 54 ∷ 57 ∷ 48 ∷ 48 ∷ 48 ∷ 48 ∷ 48 ∷ 48 ∷ 48 ∷ 48 ∷ 48 ∷ 48 ∷ 48 ∷ 48 ∷ 32 ∷ 52 ∷ 48 ∷ 55 ∷ 50 ∷ 67 ∷ 48 ∷ 48 ∷ 48 ∷ 48 ∷ 48 ∷ 48 ∷ 48 ∷ 48 ∷ 48 ∷ 48 ∷ 48 ∷ 10
    ∷ 77 ∷ 88 ∷ 32 ∷ 51 ∷ 70 ∷ 69 ∷ 48 ∷ 48 ∷ 48 ∷ 48 ∷ 48 ∷ 48 ∷ 48 ∷ 48 ∷ 48 ∷ 48 ∷ 48 ∷ 48 ∷ 48 ∷ 32 ∷ 51 ∷ 70 ∷ 68 ∷ 48 ∷ 48 ∷ 48 ∷ 48 ∷ 48 ∷ 48 ∷ 48 ∷ 48 ∷ 48 ∷ 48 ∷ 48 ∷ 48 ∷ 48 ∷ 10 ∷ []
unfolding lines_opened mul round line_of plan_summary plan_text
sample_text = refl
