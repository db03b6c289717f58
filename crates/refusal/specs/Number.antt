-- The documents' number and index of each refusal (document 01, "Refusals of each operation, in order"; document 02); the index is 0 where they name none.
use Rattle.std.specs.Prelude.{ℕ, List, ◌++◌, codes}
use Rattle.std.specs.Fmt.{decimal}
use Rattle.refusal.specs.declared.Refusal.{Refusal}
use Rattle.refusal.specs.declared.Refusal.TheVariants.{Length, Count, Level, Bus, Generator, Demand, Corridor, Row, Cost, NotFinite, Edge, Ground, Rating, FileLength, Cut, Mark, Code, Trailing, Uneven, SeasonFull, Spread, Place, Mode, Order, Weight, Districts}

unfoldable pub number_of : Refusal → ℕ
number_of Length = 1
number_of Count = 2
number_of (Level i) = 3
number_of (Bus i) = 4
number_of (Generator i) = 5
number_of Demand = 5
number_of (Corridor i) = 6
number_of (Row i) = 7
number_of (Cost i) = 8
number_of (NotFinite i) = 9
number_of (Edge i) = 10
number_of (Ground i) = 10
number_of Rating = 12
number_of FileLength = 13
number_of (Cut i) = 14
number_of (Mark i) = 15
number_of (Code i) = 16
number_of (Trailing i) = 17
number_of Uneven = 19
number_of SeasonFull = 20
number_of (Spread i) = 22
number_of Place = 23
number_of Mode = 18
number_of (Order i) = 30
number_of (Weight i) = 21
number_of Districts = 24

unfoldable pub index_of : Refusal → ℕ
index_of Length = 0
index_of Count = 0
index_of (Level i) = i
index_of (Bus i) = i
index_of (Generator i) = i
index_of Demand = 0
index_of (Corridor i) = i
index_of (Row i) = i
index_of (Cost i) = i
index_of (NotFinite i) = i
index_of (Edge i) = i
index_of (Ground i) = i
index_of Rating = 0
index_of FileLength = 0
index_of (Cut i) = i
index_of (Mark i) = i
index_of (Code i) = i
index_of (Trailing i) = i
index_of Uneven = 0
index_of SeasonFull = 0
index_of (Spread i) = i
index_of Place = 0
index_of Mode = 0
index_of (Order i) = i
index_of (Weight i) = i
index_of Districts = 0

-- what is printed of a refusal: both in decimal digits, with a space between
abbrev pub text_of : Refusal → List ℕ
text_of f = decimal (number_of f) ++ codes " " ++ decimal (index_of f)
