-- The places that name a corridor: of each corridor whether one did is kept. What that says of the next place.
use Rattle.std.proofs.Common.{◌≡◌, ℕ, ◌+◌, ◌<◌, ◌≤◌, Bool, true, false, ◌&&◌, ltb, List, length, get_or, set, replicate, sym, refl, ap, ◌∙◌, arith, length-set, get_or-set_other, get_or-set_same, le-ltb, lt-ltb}
use mathlib.Core.Bool.{true≢false}
use native.Mathlib.Decide.{dec_lt, ℕ_discrete}
use lib.ListN.{length-replicate, get_or-replicate}
use Rattle.loops.specs.Bounds.{most_corridors}
use Rattle.loops.proofs.Bools.{and_of, and_no}
use Rattle.plan_defs.specs.Preview.{first_named, place_ok}
use Rattle.plan_theorems.proofs.Preview.{first_names, names_first}
use Rattle.planning.specs.Preview.{order_for}

-- what holds of each index below j and of j
pub one_more : (ok : ℕ → Bool) (j : ℕ) → ((i : ℕ) → i < j → ok i ≡ true) → ok j ≡ true → (i : ℕ) → i < j + 1 → ok i ≡ true
one_more ok j h e i l = elim (dec_lt i j) [
  | yes a ↦ h i a
  | no a ↦ let t : i ≡ j = omega arith in ap ok t ∙ e
]

-- of the first j places
pub record Named (order : List ℕ) (named : List Bool) (j : ℕ) : Type 0 where
  pub size : length named ≡ most_corridors
  pub never : (v : ℕ) → v < most_corridors → get_or named v false ≡ false → (i : ℕ) → i < j → get_or order i 0 ≡ v → ⊥
  pub once : (v : ℕ) → v < most_corridors → get_or named v false ≡ true → ((i : ℕ) → i < j → get_or order i 0 ≡ v → ⊥) → ⊥

pub none_named : (order : List ℕ) → Named order (replicate most_corridors false) 0
none_named order = record {
  size = length-replicate {A = Bool} most_corridors false;
  never = λ v l e i h. absurd (omega arith);
  once = λ v l h n. true≢false (sym h ∙ get_or-replicate {A = Bool} most_corridors v false false l);
}

module _ (order : List ℕ) (named : List Bool) (j : ℕ) (s : Named order named j) where
  pub next_named : (k : ℕ) → k ≡ get_or order j 0 → k < most_corridors → Named order (set named k true) (j + 1)
  next_named k e l = record {
    size = simp length-set s.size;
    never = λ v b z i h q. never_at v b z i h q (ℕ_discrete v k);
    once = λ v b z n. once_at v b z n (ℕ_discrete v k);
  }
    where
      here : get_or (set named k true) k false ≡ true
      here = get_or-set_same named k true false (rw s.size l)

      never_at : (v : ℕ) → v < most_corridors → get_or (set named k true) v false ≡ false → (i : ℕ) → i < j + 1 → get_or order i 0 ≡ v → Dec (v ≡ k) → ⊥
      never_at v b z i h q (yes p) = true≢false (sym here ∙ ap (λ (u : ℕ). get_or (set named k true) u false) (sym p) ∙ z)
      never_at v b z i h q (no p) =
          elim (dec_lt i j) [
            | yes a ↦ s.never v b (sym (get_or-set_other named k v true false p) ∙ z) i a q
            | no a ↦ let t : i ≡ j = omega arith in p (sym q ∙ ap (λ (u : ℕ). get_or order u 0) t ∙ sym e)
          ]

      once_at : (v : ℕ) → v < most_corridors → get_or (set named k true) v false ≡ true → ((i : ℕ) → i < j + 1 → get_or order i 0 ≡ v → ⊥) → Dec (v ≡ k) → ⊥
      once_at v b z n (yes p) = n j (omega arith) (sym e ∙ sym p)
      once_at v b z n (no p) = s.once v b (sym (get_or-set_other named k v true false p) ∙ z) (λ i h q. n i (omega arith) q)

  module _ (k : ℕ) (e : k ≡ get_or order j 0) where
    -- a place past the corridors
    pub past_faulty : length order ≤ k → place_ok (order_for order) j ≡ false
    past_faulty h = ap (λ (b : Bool). b && first_named order j) (le-ltb (get_or order j 0) (length order) (omega arith))

    -- one that names a corridor again
    pub again_faulty : k < most_corridors → get_or named k false ≡ true → place_ok (order_for order) j ≡ false
    again_faulty l n = and_no (ltb (get_or order j 0) (length order)) (first_named order j) (not_first (first_named order j) refl)
      where
        not_first : (b : Bool) → first_named order j ≡ b → first_named order j ≡ false
        not_first false q = q
        not_first true q = absurd (s.once k l n (λ i h p. names_first order j q i h (p ∙ e)))

    -- and one that names another
    pub first_sound : k < length order → k < most_corridors → get_or named k false ≡ false → place_ok (order_for order) j ≡ true
    first_sound h l z = and_of (lt-ltb (get_or order j 0) (length order) (omega arith)) (first_names order j (λ i b q. s.never k l z i b (q ∙ sym e)))
