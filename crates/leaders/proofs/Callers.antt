-- What a caller of `leaders` with sound tables learns: it answers, and the slice holds the defined leaders.
-- A request that meets document 01's bounds passes each test of the definition.
use Prim.Native.Nat.{ℕ, ◌<◌, ◌≤◌}
use mathlib.Core.Bool.{true}
use mathlib.Core.List.{List}
use mathlib.Core.Path.{◌≡◌, sym, ap, ◌∙◌}
use native.Mathlib.Omega.{arith}
use borrow.Author.Tests.{eq-eqb, le-leb}
use lib.ListN.{length}
use Rattle.loops.specs.Bounds.{most_buses, most_corridors}
use Rattle.loops.proofs.Bools.{and_of}
use Rattle.loops.proofs.Verdicts.{where_all_pass}
use Rattle.leaders.specs.Leaders.{leaders_of}
use Rattle.leaders.specs.Operation.{corridor_ok_at, tests_of, check_of, outcome, led_outcome, led_by}
use Rattle.std.specs.Prelude.{Result}
use Rattle.refusal.specs.declared.Refusal.{Refusal}
use Rattle.refusal.specs.Reply.{no_refusal}

module _ (buses corridors : ℕ) (a b leader : List ℕ) where
  pub record Accepted : Type 0 where
    pub few_buses : buses ≤ most_buses
    pub few_corridors : corridors ≤ most_corridors
    pub a_length : length a ≡ corridors
    pub b_length : length b ≡ corridors
    pub places : length leader ≡ buses
    pub ends : (k : ℕ) → k < corridors → corridor_ok_at buses a b k ≡ true

  accepted : Accepted → no_refusal ≡ check_of buses corridors a b (length leader)
  unfolding tests_of
  accepted s =
      where_all_pass (tests_of buses corridors a b (length leader)) (
        and_of (and_of (eq-eqb _ _ s.a_length) (eq-eqb _ _ s.b_length)) (eq-eqb _ _ s.places),
        (and_of (le-leb buses most_buses s.few_buses) (le-leb corridors most_corridors s.few_corridors), (λ k h. s.ends k (omega (arith, s.a_length)), tt)),
      )

  pub answers : Accepted → (r : Result (Unit {0}) Refusal) (l : List ℕ) → outcome r l ≡ led_outcome buses corridors a b leader → outcome r l ≡ outcome no_refusal (leaders_of buses a b)
  unfolding led_outcome led_by
  answers s r l e = e ∙ ap (led_by buses a b leader) (sym (accepted s))

  pub holds : Accepted → (r : Result (Unit {0}) Refusal) (l : List ℕ) → outcome r l ≡ led_outcome buses corridors a b leader → l ≡ leaders_of buses a b
  holds s r l e = ap (λ o. o.leader) (answers s r l e)
