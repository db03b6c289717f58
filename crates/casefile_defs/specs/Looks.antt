-- The test of the trailing bytes in its two parts: words of eight zeros, then single bytes (document 02, K2).
use Rattle.std.specs.Prelude.{ℕ, ◌+◌, ◌-◌, ◌*◌, ◌/◌, min, List, length}
use Rattle.casefile_defs.specs.Reading.{trailing, word_bytes, zeros_passed, looks}
use Rattle.casefile_defs.specs.declared.Looked.{Looked}

abbrev pub looked_as : ℕ → ℕ → Looked
looked_as at n = record { at = at; looks = n }

-- past the words of zeros from a place on, the word after them looked at too
abbrev pub words_looked : List ℕ → ℕ → Looked
words_looked s at =
    looked_as (at + word_bytes * (zeros_passed s at / word_bytes)) (min (zeros_passed s at / word_bytes + 1) ((length s - at) / word_bytes))

-- past the zeros from a place on, the byte after them looked at too
abbrev pub bytes_looked : List ℕ → ℕ → Looked
bytes_looked s at = looked_as (trailing s at) (min (zeros_passed s at + 1) (length s - at))

-- both: the first byte from a place on that is not zero, and the words and bytes looked at
abbrev pub looked_at : List ℕ → ℕ → Looked
looked_at s at = looked_as (trailing s at) (looks s at)
