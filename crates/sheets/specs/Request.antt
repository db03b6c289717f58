-- K11: a caller lays the rows of a sheet by corridor out by level. Refusals of document 01: 1, a sheet has not its length; 2, a count is outside its bounds. A refusal touches nothing.
use Rattle.std.specs.Prelude.{ℕ, ◌*◌, Bool, ◌&&◌, List, [], ◌∷◌, ◌≡◌, eqb, leb, length, Float, Err, Ok, Result}
use Rattle.refusal.specs.Reply.{Reply, reply_of, no_refusal}
use Rattle.refusal.specs.declared.Refusal.TheVariants.{Length, Count}
use Rattle.loops.specs.Bounds.{most_corridors, most_levels}
use Rattle.loops.specs.Verdict.{Test, fact, verdict}
use Rattle.sheets.specs.Sheet.{row_figures, by_level}
use Rattle.refusal.specs.declared.Refusal.{Refusal}

-- ---- 1: the sheet by corridor, and the one to write
abbrev pub lengths_ok : ℕ → ℕ → ℕ → ℕ → Bool
lengths_ok m n from to = eqb from (row_figures * (m * n)) && eqb to (row_figures * (m * n))

-- ---- 2
abbrev pub counts_ok : ℕ → ℕ → Bool
counts_ok m n = leb 1 n && leb n most_levels && leb m most_corridors

unfoldable pub tests_of : ℕ → ℕ → ℕ → ℕ → List (Test Refusal)
tests_of m n from to = fact (lengths_ok m n from to) Length ∷ fact (counts_ok m n) Count ∷ []

abbrev pub check_of : ℕ → ℕ → ℕ → ℕ → Result (Unit {0}) Refusal
check_of m n from to = verdict (tests_of m n from to)

-- what two sheets that pass have
pub record Sized (m n from to : ℕ) : Type 0 where
  pub from_size : from ≡ row_figures * (m * n)
  pub to_size : to ≡ row_figures * (m * n)

-- ---- the answer, and what the sheet holds then
pub record Outcome : Type 0 where
  pub reply : Reply (Unit {0})
  pub sheet : List Float

abbrev pub outcome : Result (Unit {0}) Refusal → List Float → Outcome
outcome r sheet = record { reply = reply_of r; sheet = sheet }

unfoldable pub laid_by : ℕ → ℕ → List Float → List Float → Result (Unit {0}) Refusal → Outcome
laid_by m n from sheet (Ok tt) = outcome no_refusal (by_level m n from)
laid_by m n from sheet (Err f) = outcome (Err f) sheet

unfoldable pub lay_out : ℕ → ℕ → List Float → List Float → Outcome
lay_out m n from sheet = laid_by m n from sheet (check_of m n (length from) (length sheet))
