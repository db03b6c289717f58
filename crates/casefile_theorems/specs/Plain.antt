-- The reading as document 01 has it, with the trailing bytes tested one by one and nothing counted.
use Rattle.std.specs.Prelude.{cond, List, ℕ, ltb, length, Err, Ok, Result}
use Rattle.refusal.specs.declared.Refusal.TheVariants.{Count, FileLength, Trailing}
use Rattle.casefile_defs.specs.Bounds.{most_bytes}
use Rattle.casefile_defs.specs.Reading.{record_at, counts_ok, header_of, tables_walked, trailing}
use Rattle.casefile_defs.specs.declared.Kind.TheVariants.{Head}
use Rattle.casefile_defs.specs.declared.Header.{Header}
use Rattle.casefile_defs.specs.declared.Wanted.TheVariants.{Either}
use Rattle.refusal.specs.declared.Refusal.{Refusal}

-- after the last record (17)
abbrev pub plain_end : Header → List ℕ → Result ℕ Refusal → Result Header Refusal
plain_end h s (Err f) = Err f
plain_end h s (Ok at) = cond (ltb (trailing s at) (length s)) (Err (Trailing (trailing s at))) (Ok h)

-- after the header (2, then the tables)
abbrev pub plain_body : List ℕ → Result ℕ Refusal → Result Header Refusal
plain_body s (Err f) = Err f
plain_body s (Ok at) = cond (counts_ok (header_of s)) (plain_end (header_of s) s (tables_walked Either (header_of s) s (Ok at))) (Err Count)

abbrev pub plain_reading : List ℕ → Result Header Refusal
plain_reading s = cond (ltb most_bytes (length s)) (Err FileLength) (plain_body s (record_at Head s 0 0))
