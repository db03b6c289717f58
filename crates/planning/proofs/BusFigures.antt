-- What the units at each bus give, and how many corridors step down to it, as the code's two loops add them up.
-- A turn changes one place of a table, by one more index.
use mir.Val.{bool_byte}
use Rattle.std.proofs.Common.{◌≡◌, ℕ, zero, suc, ◌+◌, ◌<◌, ◌≤◌, Bool, true, false, cond, ◌&&◌, eqb, List, length, get_or, set, replicate, sym, refl, ap, ◌∙◌, subst, arith, eq-eqb, ne_eqb}
use lib.Ieee.{Float, nan}
use Rattle.loops.specs.Bounds.{most_buses}
use Rattle.loops.specs.Figures.{at, plus, nought}
use Rattle.loops.specs.Loops.{iter, tab}
use Rattle.loops.proofs.Tab.{tab_same, tab_replicate}
use Rattle.loops.proofs.Places.{tab_set, tab_read}
use Rattle.loops.proofs.Bools.{and_no, and_true}
use Rattle.plan_defs.specs.Lists.{pass_from, passing, count_from, counting, each, sum_over}
use Rattle.plan_defs.specs.Case.{to_of}
use Rattle.plan_defs.specs.Dispatch.{inject_at}
use Rattle.plan_defs.specs.Design.{steps_down, gen_at_bus, transformer_corridors}
use Rattle.planning.specs.Design.{ends_for, ends_of}
use Rattle.planning.specs.Opening.{bus_case}
use Rattle.planning.specs.Redesign.{units_for}
use Rattle.planning.specs.declared.design.Ends.{Ends}
use Rattle.plan_defs.proofs.Lists.{count_more, count_most, one_at_most}
use Rattle.planning.proofs.Lists.{sum_more}
use Rattle.planning.specs.Tables.{GridColumns, SupplyColumns}

-- ---- the units
module _ (supply : SupplyColumns) where
  -- of the first k units
  unfoldable pub gen_to : ℕ → ℕ → Float
  gen_to k i = sum_over (at supply.pmax) (passing (λ j. eqb (get_or supply.bus j 0) i) k)

  none_at : (i : ℕ) → nought ≡ gen_to 0 i
  unfolding gen_to pass_from each
  none_at i = refl

  gen_start : replicate most_buses nought ≡ tab most_buses (gen_to 0)
  gen_start = sym (tab_replicate most_buses nought) ∙ tab_same most_buses (λ i. nought) (gen_to 0) (λ i h. none_at i)

  own_gen : (k : ℕ) → plus (gen_to k (get_or supply.bus k 0)) (at supply.pmax k) ≡ gen_to (k + 1) (get_or supply.bus k 0)
  unfolding gen_to
  own_gen k = sym (sum_more (at supply.pmax) (λ j. eqb (get_or supply.bus j 0) (get_or supply.bus k 0)) k true (eq-eqb (get_or supply.bus k 0) (get_or supply.bus k 0) refl))

  other_gen : (k i : ℕ) → (i ≡ get_or supply.bus k 0 → ⊥) → gen_to k i ≡ gen_to (k + 1) i
  unfolding gen_to
  other_gen k i n = sym (sum_more (at supply.pmax) (λ j. eqb (get_or supply.bus j 0) i) k false (ne_eqb (get_or supply.bus k 0) i (λ e. n (sym e))))

  gen_turn : (gens : List Float) (k i : ℕ) → i ≡ get_or supply.bus k 0 → i < most_buses → gens ≡ tab most_buses (gen_to k)
      → set gens i (plus (at gens i) (at supply.pmax k)) ≡ tab most_buses (gen_to (k + 1))
  gen_turn gens k i e h g =
      tab_set nan most_buses (gen_to k) (gen_to (k + 1)) gens i _ g h
      (ap (λ (x : Float). plus x (at supply.pmax k)) (tab_read nan most_buses (gen_to k) gens i g h)
      ∙ ap (λ (z : ℕ). plus (gen_to k z) (at supply.pmax k)) e ∙ own_gen k ∙ ap (gen_to (k + 1)) (sym e))
      (λ j w n. other_gen k j (λ q. n (q ∙ sym e)))

  gen_turns : (n k : ℕ) (gens : List Float) → k + n ≤ length supply.bus → ((j : ℕ) → j < length supply.bus → get_or supply.bus j 0 < most_buses) → gens ≡ tab most_buses (gen_to k)
      → iter (inject_at (bus_case supply.bus) supply.pmax) n k gens ≡ tab most_buses (gen_to (k + n))
  unfolding iter
  gen_turns zero k gens h b g = let e : k ≡ k + 0 = omega arith in g ∙ ap (λ (z : ℕ). tab most_buses (gen_to z)) e
  gen_turns (suc n) k gens h b g =
      let e : k + 1 ≡ suc k = omega arith in
      let f : suc k + n ≡ k + suc n = omega arith in
      gen_turns n (suc k) _ (omega arith) b (gen_turn gens k _ refl (b k (omega arith)) g ∙ ap (λ (z : ℕ). tab most_buses (gen_to z)) e)
      ∙ ap (λ (z : ℕ). tab most_buses (gen_to z)) f

  -- added at each bus of a table of zeros
  pub gen_is : (gens : List Float) → ((j : ℕ) → j < length supply.bus → get_or supply.bus j 0 < most_buses) → gens ≡ iter (inject_at (bus_case supply.bus) supply.pmax) (length supply.bus) 0 (replicate most_buses nought)
      → gens ≡ tab most_buses (gen_at_bus (units_for supply))
  unfolding gen_at_bus gen_to
  gen_is gens b e =
      let z : 0 + length supply.bus ≡ length supply.bus = omega arith in
      e ∙ gen_turns (length supply.bus) 0 (replicate most_buses nought) (omega arith) b gen_start ∙ ap (λ (n : ℕ). tab most_buses (gen_to n)) z

-- ---- the corridors
module _ (grid : GridColumns) (level : List ℕ) where
  abbrev steps_to : ℕ → ℕ → Bool
  steps_to i j = steps_down (ends_for grid) level j && eqb (to_of (ends_for grid) level j) i

  unfoldable pub shared_to : ℕ → ℕ → ℕ
  shared_to k i = counting (steps_to i) k

  no_steps : (i : ℕ) → 0 ≡ shared_to 0 i
  unfolding shared_to count_from
  no_steps i = refl

  pub shared_start : (shared : List ℕ) → shared ≡ replicate most_buses 0 → shared ≡ tab most_buses (shared_to 0)
  shared_start shared e = e ∙ sym (tab_replicate most_buses 0) ∙ tab_same most_buses (λ i. 0) (shared_to 0) (λ i h. no_steps i)

  own_steps : (k : ℕ) → shared_to k (to_of (ends_for grid) level k) + cond (steps_down (ends_for grid) level k) 1 0
      ≡ shared_to (k + 1) (to_of (ends_for grid) level k)
  unfolding shared_to
  own_steps k =
      let lo = to_of (ends_for grid) level k in
      ap (λ (b : Bool). counting (steps_to lo) k + cond b 1 0) (sym (and_true (steps_down (ends_for grid) level k) (eq-eqb lo lo refl)))
      ∙ sym (count_more (steps_to lo) k)

  other_steps : (k i : ℕ) → (i ≡ to_of (ends_for grid) level k → ⊥) → shared_to k i ≡ shared_to (k + 1) i
  unfolding shared_to
  other_steps k i n =
      let z = ap (λ (b : Bool). cond {A = ℕ} b 1 0) (and_no (steps_down (ends_for grid) level k) (eqb (to_of (ends_for grid) level k) i) (ne_eqb (to_of (ends_for grid) level k) i (λ e. n (sym e)))) in
      let r = count_more (steps_to i) k in
      omega arith

  pub shared_turn : (shared : List ℕ) (k : ℕ) (e : Ends) (one : ℕ) → e ≡ ends_of (ends_for grid) level k → one ≡ cond e.steps_down 1 0 → e.to < most_buses
      → shared ≡ tab most_buses (shared_to k) → set shared e.to (get_or shared e.to 0 + one) ≡ tab most_buses (shared_to (k + 1))
  unfolding ends_of
  shared_turn shared k e one p q h g =
      let to_is : e.to ≡ to_of (ends_for grid) level k = ap (λ (z : Ends). z.to) p in
      let one-is : one ≡ cond (steps_down (ends_for grid) level k) 1 0 = q ∙ ap (λ (z : Ends). cond z.steps_down 1 0) p in
      tab_set 0 most_buses (shared_to k) (shared_to (k + 1)) shared e.to _ g h
      (ap (λ (x : ℕ). x + one) (tab_read 0 most_buses (shared_to k) shared e.to g h)
      ∙ ap (λ (z : ℕ). shared_to k z + one) to_is
      ∙ ap (λ (x : ℕ). shared_to k (to_of (ends_for grid) level k) + x) one-is
      ∙ own_steps k ∙ ap (shared_to (k + 1)) (sym to_is))
      (λ j w n. other_steps k j (λ r. n (r ∙ sym to_is)))

  -- a count fits: there are no more than the corridors passed
  pub shared_few : (shared : List ℕ) (k i : ℕ) → shared ≡ tab most_buses (shared_to k) → i < most_buses → get_or shared i 0 ≤ k
  unfolding shared_to
  shared_few shared k i g h = subst (λ (z : ℕ). z ≤ k) (sym (tab_read 0 most_buses (shared_to k) shared i g h)) (count_most (steps_to i) k 0)

  pub shared_end : (shared : List ℕ) (k : ℕ) → k ≡ length grid.a → shared ≡ tab most_buses (shared_to k) → shared ≡ tab most_buses (transformer_corridors (ends_for grid) level)
  unfolding transformer_corridors shared_to
  shared_end shared k e g = g ∙ ap (λ (n : ℕ). tab most_buses (shared_to n)) e

pub byte_is : (t : Bool) (n : ℕ) → n ≡ bool_byte t → n ≡ cond t 1 0
byte_is true n e = e
byte_is false n e = e

pub one_most : (t : Bool) (n : ℕ) → n ≡ cond t 1 0 → n ≤ 1
one_most t n e = omega (arith, e, one_at_most t)
