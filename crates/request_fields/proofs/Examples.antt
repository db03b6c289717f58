-- Worked examples: a line's fields, what a field writes, and what is read of a line with a fault.
use Rattle.std.proofs.Common.{◌≡◌, [], ◌∷◌, Some, None, refl}
use Rattle.std.specs.Prelude.{codes}
use Rattle.request_fields.specs.Written.{number_of, bits_of, count_of}
use Rattle.request_fields.specs.Reading.{fields_of, left_after, next_values}

fields : (fields_of (codes "IMP  40 ") ≡ codes "IMP" ∷ [] ∷ codes "40" ∷ [] ∷ []) × (fields_of [] ≡ [] ∷ [])
fields = (refl, refl)

numbers : (number_of (codes "007") ≡ Some 7) × (number_of (codes "999999999") ≡ Some 999999999) × (count_of 400 (codes "400") ≡ Some 400)
numbers = (refl, refl, refl)

no_numbers : (number_of [] ≡ None) × (number_of (codes "+7") ≡ None) × (number_of (codes "1000000000") ≡ None) × (count_of 400 (codes "401") ≡ None)
no_numbers = (refl, refl, refl, refl)

bits : bits_of (codes "3FF00000000000A9") ≡ Some 0x3ff00000000000a9
bits = refl

no_bits : (bits_of (codes "3ff00000000000a9") ≡ None) × (bits_of (codes "3FF00000000000A") ≡ None)
no_bits = (refl, refl)

fault : (next_values number_of 4 (fields_of (codes "1 2 x 4")) ≡ 1 ∷ 2 ∷ []) × (left_after 4 2 (fields_of (codes "1 2 x 4")) ≡ codes "4" ∷ [])
fault = (refl, refl)
