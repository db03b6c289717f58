-- The preview of a filling (document 02, K1): the circuits that each corridor of a finished plan would have with another target, from the counts before
-- filling, the filling order and the corridors' own caps that the plan keeps. Refusals, in order, which touch nothing: 1; 2; 18 the mode does not fill;
-- 6 a kept count is outside 1 to 64 or a cap above 6 (index: the corridor); 30 the order does not name each corridor once (index: the first place that
-- names none, or one again).
use Rattle.std.specs.Prelude.{ℕ, Bool, not, ◌&&◌, List, [], ◌∷◌, leb, ltb, eqb, length, get_or, Err, Ok, Result}
use Rattle.loops.specs.Loops.{first}
use Rattle.loops.specs.Verdict.{Test, fact, each_row, verdict}
use Rattle.mode.specs.declared.PlanMode.{PlanMode}
use Rattle.refusal.specs.Reply.{Reply, reply_of, no_refusal}
use Rattle.refusal.specs.declared.Refusal.{Refusal}
use Rattle.refusal.specs.declared.Refusal.TheVariants.{Length, Count, Corridor, Mode, Order}
use Rattle.plan_defs.specs.Constants.{most_corridors, most_target, most_initial, most_cap}
use Rattle.plan_defs.specs.Case.{promote, full_of}
use Rattle.plan_defs.specs.Fill.{unfilled, fill_rounds, fill_turns}

-- what a plan keeps of filling
pub record Kept : Type 0 where
  pub mode : PlanMode
  pub corridors : ℕ
  pub before : List ℕ
  pub order : List ℕ
  pub cap : List ℕ

abbrev pub kept_as : PlanMode → ℕ → List ℕ → List ℕ → List ℕ → Kept
kept_as mode corridors before order cap = record { mode = mode; corridors = corridors; before = before; order = order; cap = cap }

-- ---- 1, of these and of the slice lent for the circuits, which has so many places
unfoldable pub lengths_ok : Kept → ℕ → Bool
lengths_ok p places = eqb (length p.before) p.corridors && (eqb (length p.order) p.corridors && (eqb (length p.cap) p.corridors && eqb places p.corridors))

-- ---- 2
abbrev pub counts_ok : Kept → ℕ → Bool
counts_ok p target = leb p.corridors most_corridors && leb target most_target

-- ---- 6
abbrev pub count_ok : Kept → ℕ → Bool
count_ok p k = leb 1 (get_or p.before k 0) && (leb (get_or p.before k 0) most_initial && leb (get_or p.cap k 0) most_cap)

-- ---- 30: a place names a corridor that no place before it names
abbrev pub differs_at : List ℕ → ℕ → ℕ → Bool
differs_at order j i = not (eqb (get_or order i 0) (get_or order j 0))

abbrev pub first_named : List ℕ → ℕ → Bool
first_named order j = eqb (first (differs_at order j) j 0) j

abbrev pub place_ok : Kept → ℕ → Bool
place_ok p j = ltb (get_or p.order j 0) p.corridors && first_named p.order j

-- ---- all of them, in order
unfoldable pub preview_tests : Kept → ℕ → ℕ → List (Test Refusal)
preview_tests p target places =
    fact (lengths_ok p places) Length
    ∷ fact (counts_ok p target) Count
    ∷ fact (promote p.mode) Mode
    ∷ each_row (count_ok p) Corridor p.corridors
    ∷ each_row (place_ok p) Order p.corridors
    ∷ []

abbrev pub preview_check : Kept → ℕ → ℕ → Result (Unit {0}) Refusal
preview_check p target places = verdict (preview_tests p target places)

-- ---- the circuits with a target
unfoldable pub refilled : Kept → ℕ → List ℕ
refilled p target = (fill_rounds fill_turns (full_of p.cap) target p.order (unfilled p.before)).counts

-- ---- what is said, and the lent slice then
pub record Outcome : Type 0 where
  pub reply : Reply (Unit {0})
  pub circuits : List ℕ

abbrev pub outcome : Result (Unit {0}) Refusal → List ℕ → Outcome
outcome r circuits = record { reply = reply_of r; circuits = circuits }

abbrev pub preview_by : Result (Unit {0}) Refusal → Kept → ℕ → List ℕ → Outcome
preview_by (Err f) p target lent = outcome (Err f) lent
preview_by (Ok tt) p target lent = outcome no_refusal (refilled p target)

unfoldable pub preview : Kept → ℕ → List ℕ → Outcome
preview p target lent = preview_by (preview_check p target (length lent)) p target lent
