-- What a request that passes has, and the outcome of each way.
use Prim.Native.Nat.{ℕ, ◌<◌, ◌≤◌}
use mathlib.Core.Bool.{Bool, true, ◌&&◌}
use mathlib.Core.List.{List}
use mathlib.Core.Path.{◌≡◌, sym, ap, ◌∙◌, subst}
use borrow.Author.Tests.{eqb-true, ltb-true, leb-true}
use lib.Dec.{leb, eqb}
use lib.ListN.{length}
use Rattle.loops.specs.Bounds.{most_buses, most_corridors}
use Rattle.loops.proofs.Bools.{both}
use Rattle.loops.proofs.Verdicts.{passes_all}
use Rattle.refusal.specs.declared.Refusal.{Refusal}
use Rattle.leaders.specs.Leaders.{leaders_of}
use Rattle.leaders.specs.Operation.{lengths_ok, counts_ok, tests_of, check_of, Ends, outcome, led_by, led_outcome}
use Rattle.std.specs.Prelude.{Err}
use Rattle.refusal.specs.Reply.{no_refusal}

module _ (buses corridors : ℕ) (a b : List ℕ) (places : ℕ) where
  abbrev lengths : Bool
  lengths = lengths_ok buses corridors (length a) (length b) places

  abbrev counts : Bool
  counts = counts_ok buses corridors

  -- the two columns of ends are as long
  pub lengths_even : lengths ≡ true → length b ≡ length a
  lengths_even e =
      let p = both (eqb (length a) corridors && eqb (length b) corridors) (eqb places buses) e in
      let q = both (eqb (length a) corridors) (eqb (length b) corridors) p.0 in
      eqb-true (length b) corridors q.1 ∙ sym (eqb-true (length a) corridors q.0)

-- what a request that passes has
pub record Sound (buses : ℕ) (a b : List ℕ) (places : ℕ) : Type 0 where
  pub size : places ≡ buses
  pub few : buses ≤ most_buses
  pub ends : Ends buses a b

module _ (buses corridors : ℕ) (a b : List ℕ) (places : ℕ) where
  pub passes : no_refusal ≡ check_of buses corridors a b places → Sound buses a b places
  unfolding tests_of
  passes e =
      let p = passes_all (tests_of buses corridors a b places) (sym e) in
      let ends = λ (k : ℕ) (l : k < length a). (both _ _ (both _ _ (p.1.1.0 k l)).0) in
      record {
        size = eqb-true places buses (both (eqb (length a) corridors && eqb (length b) corridors) (eqb places buses) p.0).1;
        few = leb-true buses most_buses (both (leb buses most_buses) (leb corridors most_corridors) p.1.0).0;
        ends = record { even = lengths_even buses corridors a b places p.0; from = λ k l. ltb-true _ _ (ends k l).0; to = λ k l. ltb-true _ _ (ends k l).1 };
      }

-- ends of as many buses, and of more
pub ends_of_lem : (m n : ℕ) (a b : List ℕ) → m ≡ n → Ends n a b → Ends m a b
ends_of_lem m n a b e h = subst (λ (k : ℕ). Ends k a b) (sym e) h

-- ---- the outcome of each way
module _ (buses corridors : ℕ) (a b leader : List ℕ) where
  pub refused_outcome : (f : Refusal) → Err f ≡ check_of buses corridors a b (length leader) → outcome (Err f) leader ≡ led_outcome buses corridors a b leader
  unfolding led_outcome led_by
  refused_outcome f e = ap (led_by buses a b leader) e

  pub answered_outcome : (l : List ℕ) → no_refusal ≡ check_of buses corridors a b (length leader) → l ≡ leaders_of (length leader) a b
      → outcome no_refusal l ≡ led_outcome buses corridors a b leader
  unfolding led_outcome led_by
  answered_outcome l e d =
      ap (outcome no_refusal) (d ∙ ap (λ (n : ℕ). leaders_of n a b) (passes buses corridors a b (length leader) e).size) ∙ ap (led_by buses a b leader) e
