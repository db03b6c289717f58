-- The places of a table's records, and the places of a column.
-- A record's length is that of the one that stands there, so a table's records lie one after the other (spot_next); the rest is one way through each
-- definition.
use Prim.Native.Nat.{ℕ, zero, suc, ◌+◌, ◌*◌, ◌/◌, ◌<◌, ◌≤◌}
use mathlib.Core.Bool.{Bool, true, false, cond}
use mathlib.Core.Path.{◌≡◌, refl, ap}
use mathlib.Core.List.{List}
use native.Mathlib.Omega.{arith}
use borrow.Author.Tests.{le-ltb, ltb-true, le-leb, lt-leb}
use lib.Dec.{ltb}
use Rattle.loops.specs.Figures.{nought}
use Rattle.casefile_defs.specs.Bounds.{row_figures}
use Rattle.casefile_defs.specs.Layout.{size_of, marked, standing, end_of, spot, word}
use Rattle.casefile_defs.specs.Tables.{number_at, number_in, figure_in, weight_in, sheet_in}
use Rattle.casefile_defs.specs.declared.Kind.{Kind}
use Rattle.casefile_defs.specs.declared.Kind.TheVariants.{Head, Level, Bus, Generator, Corridor, Line, CappedCorridor, WeighedBus}

-- a record that may stand for an older one is no shorter
pub standing_least : (k : Kind) (s : List ℕ) (at : ℕ) → size_of k ≤ size_of (standing k s at)
standing_least Head s at = omega arith
standing_least Level s at = omega arith
standing_least Bus s at = go (marked WeighedBus s at)
  where
    go : (b : Bool) → size_of Bus ≤ size_of (cond b WeighedBus Bus)
    go true = omega arith
    go false = omega arith
standing_least Generator s at = omega arith
standing_least Corridor s at = go (marked CappedCorridor s at)
  where
    go : (b : Bool) → size_of Corridor ≤ size_of (cond b CappedCorridor Corridor)
    go true = omega arith
    go false = omega arith
standing_least Line s at = omega arith
standing_least CappedCorridor s at = omega arith
standing_least WeighedBus s at = omega arith

-- the table without its first record
pub spot_next : (k : Kind) (s : List ℕ) (at i : ℕ) → spot k s (end_of k s at) i ≡ spot k s at (suc i)
unfolding spot
spot_next k s at zero = refl
spot_next k s at (suc i) = ap (λ (p : ℕ). end_of k s p) (spot_next k s at i)

-- lines are all of one length
pub line_spot : (s : List ℕ) (at i : ℕ) → spot Line s at i ≡ at + i * size_of Line
unfolding spot
line_spot s at zero = omega arith
line_spot s at (suc i) = omega (arith, line_spot s at i)

-- two ways that agree where a test passes
pub by_test {ℓ} : {A : Type ℓ} (i count : ℕ) (x y z : A) → (i < count → x ≡ y) → cond (ltb i count) x z ≡ cond (ltb i count) y z
by_test {A = A} i count x y z g = go (ltb i count) refl
  where
    go : (b : Bool) → ltb i count ≡ b → cond b x z ≡ cond b y z
    go true e = g (ltb-true _ _ e)
    go false e = refl

-- ---- a number of a record, by whether the record has it
module _ (k : Kind) (s : List ℕ) (at o w : ℕ) where
  pub number_had : (x : ℕ) → o + w ≤ size_of (standing k s at) → x ≡ word w (at + o) s → x ≡ number_at k s at o w
  unfolding number_at
  number_had x h e = simp (le-leb _ _ h, e)

  pub number_not : size_of (standing k s at) < o + w → 0 ≡ number_at k s at o w
  unfolding number_at
  number_not h = simp (lt-leb _ _ h)

-- a place of a column past the records
module _ (k : Kind) (s : List ℕ) (at count o : ℕ) where
  pub number_past : (w i : ℕ) → count ≤ i → 0 ≡ number_in k s at count o w i
  unfolding number_in
  number_past w i h = simp (le-ltb _ _ h)

  pub figure_past : (i : ℕ) → count ≤ i → nought ≡ figure_in k s at count o i
  unfolding figure_in
  figure_past i h = simp (le-ltb _ _ h)

pub weight_past : (s : List ℕ) (at count i : ℕ) → count ≤ i → nought ≡ weight_in s at count i
unfolding weight_in
weight_past s at count i h = simp (le-ltb _ _ h)

-- a place of the sheet past the rows
pub sheet_past : (s : List ℕ) (at m n p : ℕ) → m * n ≤ p / row_figures → nought ≡ sheet_in s at m n p
unfolding sheet_in
sheet_past s at m n p h = simp (le-ltb _ _ h)
