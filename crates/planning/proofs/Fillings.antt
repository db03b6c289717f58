-- Filling slices: a turn over the order as code makes it, one corridor after another, is the defined turn.
-- A corridor gets `gain_of` circuits, one or none, so that code stores the same sum either way.
use Rattle.std.proofs.Common.{◌≡◌, ℕ, suc, ◌+◌, ◌-◌, ◌^◌, ◌<◌, ◌≤◌, Bool, true, false, cond, ◌&&◌, ltb, List, [], ◌∷◌, length, get_or, drop, set, sym, refl, ap, ◌∙◌, suc-mul, arith, drop-cons, drop_of_length-le, ltb-true}
use lib.Seq.{set-get_or}
use Rattle.loops.proofs.Bools.{both}
use Rattle.loops.proofs.Loops.{gap, none}
use Rattle.plan_defs.specs.Lists.{each, sum}
use Rattle.plan_defs.specs.Case.{full_of, full_at, promote}
use Rattle.plan_defs.specs.Fill.{Filled, unfilled, fill_if, fill_at, fill_once, fill_rounds, fill_turns, fill}
use Rattle.plan_defs.proofs.Counts.{any_default}
use Rattle.mode.specs.declared.PlanMode.{PlanMode}
use Rattle.planning.specs.Fill.{filled_as, gain_of, Counted, caps_for}
use Rattle.std.specs.Prelude.{fold}
use Rattle.plan_defs.specs.Constants.{most_initial}
use Prim.Native.Nat.{◌*◌, suc-le-suc}
use Rattle.planning.specs.declared.fill.Filling.{Filling}

-- ---- the sum of the counts
from_count : (l : List ℕ) (a : ℕ) → fold (λ (s x : ℕ). s + x) a l ≡ a + sum l
unfolding sum
from_count [] a = omega arith
from_count (x ∷ l) a = from_count l (a + x) ∙ (let z : a + x + sum l ≡ a + (x + sum l) = omega arith in z)

pub sum_is : (l : List ℕ) → fold (λ (s x : ℕ). s + x) 0 l ≡ sum l
sum_is l = from_count l 0 ∙ (let z : 0 + sum l ≡ sum l = omega arith in z)

sum_most : (l : List ℕ) (most : ℕ) → ((k : ℕ) → k < length l → get_or l k 0 ≤ most) → sum l ≤ length l * most
unfolding sum
sum_most [] most h = omega arith
sum_most (x ∷ l) most h =
    let a : x ≤ most = h 0 (omega arith) in
    let b = sum_most l most (λ k w. h (suc k) (suc-le-suc w)) in
    let z : suc (length l) * most ≡ length l * most + most = suc-mul (length l) most in
    omega (arith, a, b, z)

pub sum_few : (l : List ℕ) → Counted l → fold (λ (s x : ℕ). s + x) 0 l < 2 ^ 32
sum_few l c =
    let b = sum_most l most_initial c.each in
    omega (arith, b, sum_is l, c.few)

-- ---- what a corridor gets
module _ (total target full count : ℕ) where
  bounds : (b : Bool) → (ltb total target && ltb count full) ≡ b → total < 2 ^ 32 → target < 2 ^ 32 → full < 2 ^ 32 → count < 2 ^ 32
      → (total + cond b 1 0 < 2 ^ 32) × (count + cond b 1 0 < 2 ^ 32)
  bounds true e t u w v =
      let h = both (ltb total target) (ltb count full) e in
      (omega (arith, ltb-true total target h.0), omega (arith, ltb-true count full h.1))
  bounds false e t u w v = (omega arith, omega arith)

  pub total_fits : total < 2 ^ 32 → target < 2 ^ 32 → full < 2 ^ 32 → count < 2 ^ 32 → total + gain_of total target full count < 2 ^ 32
  total_fits t u w v = (bounds (ltb total target && ltb count full) refl t u w v).0

  pub count_fits : total < 2 ^ 32 → target < 2 ^ 32 → full < 2 ^ 32 → count < 2 ^ 32 → count + gain_of total target full count < 2 ^ 32
  count_fits t u w v = (bounds (ltb total target && ltb count full) refl t u w v).1

-- ---- one corridor
abbrev pub tally : ℕ → ℕ → Filling
tally total filler = record { total = total; filler = filler }

pub fill_corridor : (full : ℕ → ℕ) (target : ℕ) (counts : List ℕ) (total filler k most count more : ℕ) → k < length counts → most ≡ full k → count ≡ get_or counts k 0
    → more ≡ gain_of total target most count
    → filled_as (set counts k (count + more)) (tally (total + more) (filler + more)) ≡ fill_at full target k (filled_as counts (tally total filler))
fill_corridor full target counts total filler k most count more h f e g =
    rw (g, f, e, any_default (full k) counts k h) (go (ltb total target && ltb (get_or counts k 0) (full k)))
  where
    go : (b : Bool) → filled_as (set counts k (get_or counts k 0 + cond b 1 0)) (tally (total + cond b 1 0) (filler + cond b 1 0))
        ≡ fill_if b k (filled_as counts (tally total filler))
    go true = refl
    go false =
        let x : get_or counts k 0 + 0 ≡ get_or counts k 0 = omega arith in
        let y : total + 0 ≡ total = omega arith in
        let z : filler + 0 ≡ filler = omega arith in
        rw (x, y, z, set-get_or counts k 0)

-- ---- a turn, from place i of the order on; and what is left of the turns
module _ (full : ℕ → ℕ) (target : ℕ) (order : List ℕ) where
  pub once_next : (i : ℕ) (s t : Filled) → i < length order → t ≡ fill_at full target (get_or order i 0) s
      → fill_once full target (drop (i + 1) order) t ≡ fill_once full target (drop i order) s
  unfolding fill_once each
  once_next i s t h e =
      let z : suc i ≡ i + 1 = omega arith in
      sym (ap (λ (l : List ℕ). fill_once full target l s) (drop-cons order i 0 h) ∙ ap (λ (n : ℕ). fill_once full target (drop n order) (fill_at full target (get_or order i 0) s)) z ∙ ap (fill_once full target (drop (i + 1) order)) (sym e))

  pub once_end : (i : ℕ) (s : Filled) → length order ≤ i → s ≡ fill_once full target (drop i order) s
  unfolding fill_once each
  once_end i s h = sym (ap (λ (l : List ℕ). fill_once full target l s) (drop_of_length-le order h))

  pub rounds_next : (turn : ℕ) (s t : Filled) → turn < fill_turns → t ≡ fill_once full target order s
      → fill_rounds (fill_turns - (turn + 1)) full target order t ≡ fill_rounds (fill_turns - turn) full target order s
  unfolding fill_rounds
  rounds_next turn s t h e = rw (gap fill_turns turn h, e)

  pub rounds_end : (turn : ℕ) (s : Filled) → fill_turns ≤ turn → s ≡ fill_rounds (fill_turns - turn) full target order s
  unfolding fill_rounds
  rounds_end turn s h = rw (none fill_turns turn h)

-- ---- the whole
module _ (mode : PlanMode) (cap : List ℕ) (target : ℕ) (ks counts : List ℕ) where
  pub fill_not : promote mode ≡ false → unfilled counts ≡ fill (caps_for mode cap) target ks counts
  unfolding fill full_at
  fill_not e = rw e

  pub fill_all : promote mode ≡ true → fill_rounds fill_turns (full_of cap) target ks (unfilled counts) ≡ fill (caps_for mode cap) target ks counts
  unfolding fill full_at
  fill_all e = rw e
