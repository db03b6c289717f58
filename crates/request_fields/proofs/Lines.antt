-- The fields of a line, one taken off at a time.
use Rattle.std.proofs.Common.{◌≡◌, ◌+◌, ◌<◌, ◌≤◌, ◌==◌, ℕ, Bool, false, List, [], ◌∷◌, length, take, drop, Option, Some, None, Bor, refl, ap, arith, sym, ◌∙◌}
use Rattle.std.proofs.lemmas.Grind.{common_steps}
use Rattle.std.proofs.lemmas.List.Splits.{slice_split_first, length-slice_split}
use Rattle.std.specs.List.{position, position_or_len, slice_split}
use Rattle.std.specs.Option.{option_copied}
use Rattle.request_fields.specs.Reading.{is_space, fields_of, fields_left}

position_is : {X : Type 0} (p : X → Bool) (xs : List X) (i : ℕ) → position p xs ≡ Some i → (position_or_len p xs ≡ i) × (i < length xs)
position_is p xs i h = grind (arith, common_steps)

position_none : {X : Type 0} (p : X → Bool) (xs : List X) → position p xs ≡ None → length xs ≤ position_or_len p xs
position_none p xs h = grind (arith, common_steps)

one_part : {X : Type 0} (p : X → Bool) (xs : List X) → length xs ≤ position_or_len p xs → slice_split p xs ≡ xs ∷ []
one_part p [] h = refl
one_part p (x ∷ xs) h = let e = one_part p xs in grind (arith, common_steps)

-- A field ends at the first space.
pub field_ends : (line : List ℕ) (end : ℕ) → Some end ≡ position is_space line → fields_of line ≡ take end line ∷ fields_of (drop (end + 1) line)
field_ends line end h =
    let e = position_is is_space line end (sym h) in
    let s = slice_split_first is_space line 0 (grind (arith, e)) in
    grind (arith, e, s)

-- Without a space the line is one field.
pub last_field : (line : List ℕ) → None ≡ position is_space line → fields_of line ≡ line ∷ []
last_field line h = one_part is_space line (position_none is_space line (sym h))

-- A line has a field at least.
pub some_field : (line : List ℕ) → (length (fields_of line) == 0) ≡ false
some_field line = let e = length-slice_split is_space line in grind (arith, e)

-- What is left where a line is.
pub left_is : (rest : Option (Bor (List ℕ))) (line : Bor (List ℕ)) (fields : List (List ℕ))
    → rest ≡ Some line → fields_left (option_copied rest) ≡ fields → fields ≡ fields_of line.now
left_is rest line fields h e = sym e ∙ ap (λ (r : Option (Bor (List ℕ))). fields_left (option_copied r)) h
