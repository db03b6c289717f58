-- What filling the tables asks: the counts fit the tables, and every record lies inside the file.
-- An answered file has it by its records' tests; a refused one leaves no records.
use Prim.Native.Nat.{ℕ}
use mathlib.Core.Path.{◌≡◌, sym, subst}
use mathlib.Core.List.{List}
use native.Mathlib.Nat.{not-suc-le-zero}
use native.Mathlib.Omega.{arith}
use Rattle.casefile_defs.specs.Reading.{Small, levels, lines, reading_of}
use Rattle.casefile_defs.specs.Tables.{levels_at, buses_at, generators_at, corridors_at, lines_at, held}
use Rattle.casefile.specs.Records.{Room}
use Rattle.casefile_defs.specs.declared.Kind.{Kind}
use Rattle.casefile_defs.specs.declared.Kind.TheVariants.{Level, Bus, Generator, Corridor, Line}
use Rattle.casefile_defs.specs.declared.Header.{Header}
use Rattle.casefile_defs.proofs.Accepted.{Accepted, accepted}
use Rattle.casefile_defs.proofs.Counts.{small_of}
use Rattle.std.specs.Prelude.{Err, Ok, Result}
use Rattle.refusal.specs.declared.Refusal.{Refusal}

pub record Roomy (s : List ℕ) (h : Header) : Type 0 where
  pub small : Small h
  pub levels : Room Level s levels_at (levels h)
  pub buses : Room Bus s (buses_at s h) h.buses
  pub generators : Room Generator s (generators_at s h) h.generators
  pub corridors : Room Corridor s (corridors_at s h) h.corridors
  pub rows : Room Line s (lines_at s h) (lines h)

none : (k : Kind) (s : List ℕ) (at : ℕ) → Room k s at 0
none k s at i h = absurd (not-suc-le-zero h)

roomy_read : (s : List ℕ) (h : Header) → Accepted s h → Roomy s h
roomy_read s h a = record {
  small = small_of h a.counts;
  levels = λ i l. (a.levels i l).room;
  buses = λ i l. (a.buses i l).room;
  generators = λ i l. (a.generators i l).room;
  corridors = λ i l. (a.corridors i l).room;
  rows = λ i l. (a.rows i l).room;
}

roomy_of : (s : List ℕ) (r : Result Header Refusal) → reading_of s ≡ r → Roomy s (held r)
unfolding held
roomy_of s (Ok h) e = roomy_read s h (accepted s h e)
roomy_of s (Err f) e = record {
  small = record { buses = omega arith; corridors = omega arith; generators = omega arith; levels = omega arith; target = omega arith };
  levels = none Level s _;
  buses = none Bus s _;
  generators = none Generator s _;
  corridors = none Corridor s _;
  rows = none Line s _;
}

pub roomy : (s : List ℕ) (r : Result Header Refusal) (h : Header) → r ≡ reading_of s → h ≡ held r → Roomy s h
roomy s r h e q = subst (λ (g : Header). Roomy s g) (sym q) (roomy_of s r (sym e))
