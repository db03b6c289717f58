-- Document 01, refusals of *Leaders*: 1 slice length; 2 count; 6 an end not below the buses, or equal ends. Slices keep their contents.
use Rattle.std.specs.Prelude.{ℕ, ◌<◌, Bool, not, ◌&&◌, List, [], ◌∷◌, ◌≡◌, ltb, leb, eqb, length, get_or, Err, Ok, Result}
use Rattle.loops.specs.Bounds.{most_buses, most_corridors}
use Rattle.loops.specs.Verdict.{Test, fact, each_row, verdict}
use Rattle.refusal.specs.Reply.{Reply, reply_of, no_refusal}
use Rattle.refusal.specs.declared.Refusal.TheVariants.{Length, Count, Corridor}
use Rattle.leaders.specs.Leaders.{leaders_of}
use Rattle.refusal.specs.declared.Refusal.{Refusal}

-- ---- the refusals, by the lengths of the two columns of ends and of the result
abbrev pub lengths_ok : ℕ → ℕ → ℕ → ℕ → ℕ → Bool
lengths_ok buses corridors a b leader = (eqb a corridors && eqb b corridors) && eqb leader buses

abbrev pub counts_ok : ℕ → ℕ → Bool
counts_ok buses corridors = leb buses most_buses && leb corridors most_corridors

-- two different buses
abbrev pub corridor_ok : ℕ → ℕ → ℕ → Bool
corridor_ok buses a b = (ltb a buses && ltb b buses) && not (eqb a b)

abbrev pub corridor_ok_at : ℕ → List ℕ → List ℕ → ℕ → Bool
corridor_ok_at buses a b k = corridor_ok buses (get_or a k 0) (get_or b k 0)

unfoldable pub tests_of : ℕ → ℕ → List ℕ → List ℕ → ℕ → List (Test Refusal)
tests_of buses corridors a b places =
    fact (lengths_ok buses corridors (length a) (length b) places) Length
    ∷ fact (counts_ok buses corridors) Count
    ∷ each_row (corridor_ok_at buses a b) Corridor (length a)
    ∷ []

abbrev pub check_of : ℕ → ℕ → List ℕ → List ℕ → ℕ → Result (Unit {0}) Refusal
check_of buses corridors a b places = verdict (tests_of buses corridors a b places)

-- ---- the answer, and what the result holds then
pub record Outcome : Type 0 where
  pub reply : Reply (Unit {0})
  pub leader : List ℕ

abbrev pub outcome : Result (Unit {0}) Refusal → List ℕ → Outcome
outcome r leader = record { reply = reply_of r; leader = leader }

unfoldable pub led_by : ℕ → List ℕ → List ℕ → List ℕ → Result (Unit {0}) Refusal → Outcome
led_by buses a b leader (Ok tt) = outcome no_refusal (leaders_of buses a b)
led_by buses a b leader (Err f) = outcome (Err f) leader

unfoldable pub led_outcome : ℕ → ℕ → List ℕ → List ℕ → List ℕ → Outcome
led_outcome buses corridors a b leader = led_by buses a b leader (check_of buses corridors a b (length leader))

-- what corridors that pass have: the two columns are as long, and each end is a bus
pub record Ends (n : ℕ) (a b : List ℕ) : Type 0 where
  pub even : length b ≡ length a
  pub from : (k : ℕ) → k < length a → get_or a k 0 < n
  pub to : (k : ℕ) → k < length a → get_or b k 0 < n
