-- The tests of a request or of a record in their order, each with what is refused where it fails; the verdict is the first that fails, or that all pass.
use Rattle.std.specs.Prelude.{ℕ, Bool, cond, List, [], ◌∷◌, ltb, Err, Ok, Result}
use Rattle.loops.specs.Loops.{first}

pub data Test (E : Type 0) : Type 0 where
  -- whether something is so
  fact : Bool → E → Test E
  -- the same of each row of a table, by its index, for so many rows; refused with the lowest row where it is not
  each_row : (ℕ → Bool) → (ℕ → E) → ℕ → Test E

abbrev pub verdict : {E : Type 0} → List (Test E) → Result (Unit {0}) E
verdict [] = Ok tt
verdict (fact ok f ∷ l) = cond ok (verdict l) (Err f)
verdict (each_row ok f n ∷ l) = cond (ltb (first ok n 0) n) (Err (f (first ok n 0))) (verdict l)
