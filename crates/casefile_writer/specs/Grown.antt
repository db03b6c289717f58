-- What it means that the bytes of a file grew.
use Rattle.std.specs.Prelude.{ℕ, ◌+◌, List, ◌++◌, ◌≡◌, length, take}
use Rattle.casefile_writer.specs.declared.bytes.Bytes.{Bytes}

-- in the same buffer, behind those that there were, there are these n. It is a promise, of a buffer before and after, so that no invariant of `Bytes` states it
pub record Grown (b a : Bytes) (n : ℕ) (t : List ℕ) : Type 0 where
  pub buffer : a.out.ghost_name ≡ b.out.ghost_name
  pub room : length a.out.now ≡ length b.out.now
  pub len : a.len ≡ b.len + n
  pub bytes : take a.len a.out.now ≡ take b.len b.out.now ++ t
