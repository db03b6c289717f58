-- The preview over slices: the scans look at as many places as there are corridors, and what passes can be filled anew.
use Rattle.std.proofs.Common.{◌≡◌, ℕ, ◌<◌, true, eqb, List, length, get_or, sym, ap, ◌∙◌, subst, arith, eqb-true}
use Rattle.std.proofs.lemmas.List.Elements.{All-from_get_or}
use Rattle.loops.specs.Loops.{fault}
use Rattle.loops.proofs.Bools.{both}
use Rattle.mode.specs.declared.PlanMode.{PlanMode}
use Rattle.refusal.specs.Reply.{no_refusal}
use Rattle.plan_defs.specs.Case.{promote}
use Rattle.plan_defs.specs.Preview.{Kept, kept_as, lengths_ok, count_ok, place_ok, preview_check}
use Rattle.plan_theorems.proofs.Preview.{sound_of}
use Rattle.planning.specs.Preview.{counts_for, order_for, Refillable}
use Rattle.std.specs.Prelude.{Option as Found}

-- ---- the scans, over as many places as there are corridors
module _ (mode : PlanMode) (m places : ℕ) (before order cap : List ℕ) (x : lengths_ok (kept_as mode m before order cap) places ≡ true) where
  sizes : (length before ≡ m) × (length order ≡ m) × (length cap ≡ m)
  unfolding lengths_ok
  sizes =
      let l = both (eqb (length before) m) _ x in
      let r = both (eqb (length order) m) _ l.1 in
      (eqb-true _ _ l.0, eqb-true _ _ r.0, eqb-true _ _ (both (eqb (length cap) m) _ r.1).0)

  pub counts_scan : (o : Found ℕ) → o ≡ fault (count_ok (counts_for before cap)) (length before) → o ≡ fault (count_ok (kept_as mode m before order cap)) m
  counts_scan o e = e ∙ ap (λ (n : ℕ). fault (count_ok (kept_as mode m before order cap)) n) sizes.0

  pub places_scan : (o : Found ℕ) → o ≡ fault (place_ok (order_for order)) (length order) → o ≡ fault (place_ok (kept_as mode m before order cap)) m
  places_scan o e = e ∙ ap (λ (n : ℕ). fault (place_ok (kept_as mode n before order cap)) n) sizes.1

-- ---- what passes can be filled anew
pub refillable : (p : Kept) (target : ℕ) (lent : List ℕ) → no_refusal ≡ preview_check p target (length lent) → (promote p.mode ≡ true) × Refillable p.before p.order p.cap lent
refillable p target lent e =
    let s = sound_of p target (length lent) (sym e) in (
      s.fills,
      record {
        fillable = record {
          named = All-from_get_or (λ j. j < length p.before) p.order 0 (λ j h. subst (λ (n : ℕ). get_or p.order j 0 < n) (sym s.before) (s.named j h));
          cap_size = s.cap ∙ sym s.before;
        };
        counted = record { few = omega (arith, s.before, s.few_corridors); each = λ k h. (s.counts k (omega (arith, s.before))).1 };
        circuits_size = s.places_are ∙ sym s.before;
      },
    )
