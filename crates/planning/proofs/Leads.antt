-- The best of a component's buses, as a loop over all buses finds it: from the component's first bus on, each bus of the component that is better.
use Rattle.std.proofs.Common.{◌≡◌, ℕ, zero, suc, ◌+◌, ◌-◌, ◌<◌, ◌≤◌, Bool, true, false, cond, not, ◌&&◌, eqb, ltb, List, ◌∷◌, length, get_or, sym, refl, ap, ◌∙◌, add-one, arith, ltb-false, ltb-true, eq-eqb}
use Rattle.loops.specs.Loops.{first}
use Rattle.loops.proofs.Bools.{no as never}
use Rattle.loops.proofs.Scan.{all_pass}
use Rattle.plan_defs.specs.Lists.{keep, pass_from, each}
use Rattle.plan_defs.specs.Components.{within, members}
use Rattle.plan_defs.specs.Stiffen.{best_of}
use Rattle.planning.proofs.Passing.{each_yes, each_no, each_end}

-- ---- the first that passes
module _ (p : ℕ → Bool) where
  abbrev fails : ℕ → Bool
  fails i = not (p i)

  first_passes : (d i : ℕ) → first fails d i < i + d → pass_from p d i ≡ first fails d i ∷ pass_from p (i + d - (first fails d i + 1)) (first fails d i + 1)
  unfolding first pass_from
  first_passes zero i h = absurd (omega arith)
  first_passes (suc d) i h = go (p i) h (first_passes d (suc i))
    where
      go : (b : Bool) → cond (not b) (first fails d (suc i)) i < i + suc d
          → (first fails d (suc i) < suc i + d → pass_from p d (suc i) ≡ first fails d (suc i) ∷ pass_from p (suc i + d - (first fails d (suc i) + 1)) (first fails d (suc i) + 1))
          → keep b i (pass_from p d (suc i))
          ≡ cond (not b) (first fails d (suc i)) i ∷ pass_from p (i + suc d - (cond (not b) (first fails d (suc i)) i + 1)) (cond (not b) (first fails d (suc i)) i + 1)
      go true h r =
          let e : d ≡ i + suc d - (i + 1) = omega arith in
          ap (λ (n : ℕ). i ∷ pass_from p n (suc i)) e ∙ ap (λ (n : ℕ). i ∷ pass_from p (i + suc d - (i + 1)) n) (sym (add-one i))
      go false h r =
          let f = first fails d (suc i) in
          let e : suc i + d ≡ i + suc d = omega arith in
          r (omega arith) ∙ ap (λ (n : ℕ). f ∷ pass_from p (n - (f + 1)) (f + 1)) e

-- ---- the best bus of a component that a bus leads
module _ (led : List ℕ) (root : ℕ) (here : root < length led) (leads : get_or led root 0 ≡ root) where
  abbrev from : ℕ
  from = first (λ i. not (within led root i)) (length led) 0

  pub first_here : from < length led
  first_here = go (ltb from (length led)) refl
    where
      go : (b : Bool) → ltb from (length led) ≡ b → from < length led
      go true e = ltb-true from (length led) e
      go false e =
          let a : not (within led root root) ≡ true = all_pass (λ i. not (within led root i)) (length led) (ltb-false from (length led) e) root here in
          absurd (never (ap not (eq-eqb (get_or led root 0) root leads)) a)

  module _ (better : ℕ → ℕ → ℕ) where
    -- what is left from bus i on
    unfoldable pub left : ℕ → ℕ → ℕ
    left i best = each better (pass_from (within led root) (length led - i) i) best

    pub best_start : (f : ℕ) → f ≡ from → left (f + 1) f ≡ best_of better (members led root)
    unfolding left
    best_start f e =
        let z : 0 + length led ≡ length led = omega arith in
        ap (λ (i : ℕ). left (i + 1) i) e
        ∙ sym (ap (best_of better) (first_passes (within led root) (length led) 0 (omega (arith, first_here)) ∙ ap (λ (n : ℕ). from ∷ pass_from (within led root) (n - (from + 1)) (from + 1)) z))

    pub best_turn : (i best best' l : ℕ) (t : Bool) → i < length led → l ≡ get_or led i 0 → best' ≡ cond (eqb l root && t) i best → better i best ≡ cond t i best
        → left (i + 1) best' ≡ left i best
    unfolding left
    best_turn i best best' l t h pl q b = go (within led root i) refl (q ∙ ap (λ (n : ℕ). cond (eqb n root && t) i best) pl)
      where
        go : (x : Bool) → within led root i ≡ x → best' ≡ cond (x && t) i best → left (i + 1) best' ≡ left i best
        go true e r = sym (each_yes better (within led root) h e (r ∙ sym b))
        go false e r = sym (each_no better (within led root) h e r)

    pub best_end : (i best : ℕ) → length led ≤ i → left i best ≡ best
    unfolding left
    best_end i best h = each_end better (within led root) h

-- it is a bus
pub best_below : (l root i best best' n : ℕ) (t : Bool) → best' ≡ cond (eqb l root && t) i best → i < n → best < n → best' < n
best_below l root i best best' n t q h w = go (eqb l root && t) q
  where
    go : (b : Bool) → best' ≡ cond b i best → best' < n
    go true e = omega arith
    go false e = omega arith
