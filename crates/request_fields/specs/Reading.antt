-- Reading a request: what is left of its line is a list of fields, each the bytes of one.
use Rattle.std.specs.Prelude.{ℕ, ◌+◌, ◌==◌, nat_lt, min, Bool, List, [], ◌∷◌, ◌++◌, map, take, drop, length, Option, Some, None, Result}
use Rattle.std.specs.Option.{option_and_then, some_prefix, ok_or}
use Rattle.std.specs.Bool.{then_some}
use Rattle.std.specs.List.{slice_split, slice_get}
use Rattle.request_fields.specs.declared.NoRequest.{NoRequest}

abbrev pub is_space : ℕ → Bool
is_space byte = byte == 32

-- A line's fields are what stands between its spaces: one more than it has spaces, an empty one where nothing stands.
abbrev pub fields_of : List ℕ → List (List ℕ)
fields_of line = slice_split is_space line

-- The fields of what is left of a line; none once it is read to its end.
abbrev pub fields_left : Option (List ℕ) → List (List ℕ)
fields_left None = []
fields_left (Some line) = fields_of line

-- What is left where n fields were to be read and k were: the one that was not is taken too.
abbrev pub left_after : ℕ → ℕ → List (List ℕ) → List (List ℕ)
left_after n k fields = drop (min n (k + 1)) fields

module _ {T : Type 0} where
  -- A value where there is one, and else no request.
  abbrev pub or_no_request : Option T → Result T NoRequest
  or_no_request value = ok_or value (record {})

  -- A value where a test holds, and else no request.
  abbrev pub ok_if : Bool → T → Result T NoRequest
  ok_if test value = or_no_request (then_some test value)

  -- What the next field writes, if there is one.
  abbrev pub next_value : (List ℕ → Option T) → List (List ℕ) → Option T
  next_value reads fields = option_and_then reads (slice_get fields 0)

  -- The values of the next n fields, up to the first that writes none.
  abbrev pub next_values : (List ℕ → Option T) → ℕ → List (List ℕ) → List T
  next_values reads n fields = some_prefix (map reads (take n fields))

  -- The items of a table behind which a value is put, where there is one and room for it.
  abbrev pub with_value : ℕ → List T → Option T → Option (List T)
  with_value room items (Some x) = then_some (nat_lt (length items) room) (items ++ x ∷ [])
  with_value room items None = None
