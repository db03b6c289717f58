-- What it means that bytes were put into a buffer.
use Rattle.std.specs.Prelude.{ℕ, ◌+◌, List, ◌++◌, ◌≡◌, length, take}

-- behind the first `len` bytes of a buffer, which stand, there are these; `r` bytes are used then
pub record Put (before : List ℕ) (len : ℕ) (these after : List ℕ) (r : ℕ) : Type 0 where
  pub used : r ≡ len + length these
  pub bytes : take r after ≡ take len before ++ these
