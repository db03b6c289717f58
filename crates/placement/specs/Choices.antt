-- A choice of a bus as the definitions number it: n where there is none. Five functions ask that a choice is one of the n buses
-- (`ForSome best (λ b. b < n)`): a type for it would carry n, and each of them would ask instead that this n is its own.
use Rattle.std.specs.Prelude.{ℕ, Option, Some, None}

abbrev pub number : ℕ → Option ℕ → ℕ
number n (Some b) = b
number n None = n
