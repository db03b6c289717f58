-- K8's refusals: 1 slice length; 2 count; 3 ladder; 6 a corridor's length; "22 when spread is outside 0.25 to 4, after 1, 2, 3 and 6". Document 01: ladder kV in (0, 10,000], each greater than the next plus 1e-6, that sum rounded; length 0 to 10,000 km.
use Rattle.std.specs.Prelude.{ℕ, ◌+◌, ◌<◌, Bool, true, ◌&&◌, ◌||◌, List, [], ◌∷◌, ◌≡◌, refl, leb, eqb, length, Float, Result}
use Rattle.std.specs.Float.{binary64}
use Rattle.std.specs.Float.Ieee.{of_bits, round, lt, le}
use Rattle.loops.specs.Figures.{at, plus, nought, ten_thousand, millionth, inside, decimal}
use Rattle.loops.specs.Verdict.{Test, fact, each_row, verdict}
use Rattle.refusal.specs.declared.Refusal.{Refusal}
use Rattle.refusal.specs.declared.Refusal.TheVariants.{Length, Count, Level, Corridor, Spread}
use Rattle.sheets.specs.Request.{counts_ok}
use Rattle.line_defs.specs.Rows.{sheet_figures}

-- ---- 1: ladder, lengths, spreads and the sheet, by their numbers of places
abbrev pub lengths_ok : ℕ → ℕ → ℕ → ℕ → ℕ → ℕ → Bool
lengths_ok levels corridors ladder km spread sheet =
    eqb ladder levels && eqb km corridors && eqb spread corridors && eqb sheet (sheet_figures levels corridors)

-- ---- 3
abbrev pub level_ok : List Float → ℕ → Bool
level_ok ladder i =
    (lt nought (at ladder i) && le (at ladder i) ten_thousand)
    && (leb (length ladder) (i + 1) || lt (plus (at ladder (i + 1)) millionth) (at ladder i))

-- ---- 6: of a corridor this operation reads the length alone
abbrev pub length_ok : List Float → ℕ → Bool
length_ok km k = inside nought ten_thousand (at km k)

-- ---- 22
abbrev pub quarter : Float
quarter = of_bits binary64 0x3fd0_0000_0000_0000

abbrev pub four : Float
four = of_bits binary64 0x4010_0000_0000_0000

pub spread_bounds : quarter ∷ four ∷ [] ≡ decimal 1 4 ∷ decimal 4 1 ∷ []
unfolding of_bits round
spread_bounds = refl

abbrev pub spread_ok : List Float → ℕ → Bool
spread_ok spread k = inside quarter four (at spread k)

-- ---- the tests in order
unfoldable pub tests_of : ℕ → ℕ → List Float → List Float → List Float → ℕ → List (Test Refusal)
tests_of levels corridors ladder km spread sheet =
    fact (lengths_ok levels corridors (length ladder) (length km) (length spread) sheet) Length
    ∷ fact (counts_ok corridors levels) Count
    ∷ each_row (level_ok ladder) Level (length ladder)
    ∷ each_row (length_ok km) Corridor (length km)
    ∷ each_row (spread_ok spread) Spread (length spread)
    ∷ []

abbrev pub check_of : ℕ → ℕ → List Float → List Float → List Float → ℕ → Result (Unit {0}) Refusal
check_of levels corridors ladder km spread sheet = verdict (tests_of levels corridors ladder km spread sheet)

-- what tables that pass have, as far as the work needs it
pub record Sound (levels corridors : ℕ) (ladder km spread : List Float) : Type 0 where
  pub counts : counts_ok corridors levels ≡ true
  pub ladder_length : length ladder ≡ levels
  pub km_length : length km ≡ corridors
  pub spread_length : length spread ≡ corridors
  pub spreads : (k : ℕ) → k < corridors → spread_ok spread k ≡ true
