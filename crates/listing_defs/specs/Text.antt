-- The text of a field of the listing, in ASCII: document 01, "Case file", last paragraph.
use Rattle.std.specs.Prelude.{ℕ, zero, suc, ◌+◌, ◌/◌, ◌%◌, cond, List, [], ◌∷◌, ◌++◌, ltb, Float}
use Rattle.plan_defs.specs.Listing.{bits_of}
use Rattle.listing_defs.specs.declared.Field.{Field}
use Rattle.listing_defs.specs.declared.Field.TheVariants.{Number, Figure}

abbrev pub space : ℕ
space = 32

abbrev pub line_feed : ℕ
line_feed = 10

-- a digit below 16: `0` to `9`, then `A` to `F`
abbrev pub digit : ℕ → ℕ
digit d = cond (ltb d 10) (48 + d) (55 + d)

-- the last k digits of n in base 16, the highest first
unfoldable pub hexadecimal : ℕ → ℕ → List ℕ
hexadecimal zero n = []
hexadecimal (suc k) n = hexadecimal k (n / 16) ++ (digit (n % 16) ∷ [])

-- a number of at most k digits in base 10, with no zero in front
unfoldable pub decimal : ℕ → ℕ → List ℕ
decimal zero n = []
decimal (suc k) n = cond (ltb n 10) (digit n ∷ []) (decimal k (n / 10) ++ (digit (n % 10) ∷ []))

-- ---- a field, with the space before it: a number below 2 ^ 64 has at most 20 digits, a figure's bits exactly 16
unfoldable pub number : ℕ → List ℕ
number n = space ∷ decimal 20 n

unfoldable pub figure : Float → List ℕ
figure x = space ∷ hexadecimal 16 (bits_of x)

-- a field of a line
abbrev pub field : Field → List ℕ
field (Number n) = number n
field (Figure x) = figure x
