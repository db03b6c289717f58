-- What the contracts of module raise_marks cite: the columns that a raise reads, as a case, and what they must be.
use Rattle.std.specs.Prelude.{◌≡◌, ℕ, ◌<◌, List, [], length, slice_index_or}
use Rattle.plan_defs.specs.Case.{Case}
use Rattle.planning.specs.Design.{ends_for}
use Rattle.planning.specs.Tables.{grid_of}

-- the largest u32
abbrev pub largest_count : ℕ
largest_count = 4_294_967_295

-- ---- a case of which a raise reads these columns only
abbrev pub pairs_for : List ℕ → List ℕ → Case
pairs_for a b = ends_for (grid_of [] a b [] [] [] [])

-- of corridor k, whose ends' levels and marks are there
-- asked by 3 functions: grow hands it on to raises_for, and that to mark_raise_to; it is of one k and of marks that are written, so that a struct would be made for one call
pub record PairFits (level a b marks : List ℕ) (k : ℕ) : Type 0 where
  pub a_size : k < length a
  pub b_size : k < length b
  pub a_below : slice_index_or a k 0 < length level
  pub b_below : slice_index_or b k 0 < length level
  pub mark_size : length marks ≡ length level
