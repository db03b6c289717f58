-- What a component's units give as the code goes: the order by c1, the pass from a unit of the order on, and the dispatch with the pass after it.
-- Keys that are alike leave the order to c1. What is left of the pass is nothing, one unit, or one unit and the rest, by its two tests.
use Rattle.std.proofs.Common.{◌≡◌, ℕ, suc, ◌+◌, ◌<◌, ◌≤◌, Bool, true, false, List, length, get_or, drop, set, All, sym, refl, ap, ◌∙◌, subst, arith, drop-cons, drop_of_length-le, le-ltb, lt-ltb}
use Rattle.std.proofs.lemmas.List.Elements.{All-get_or}
use lib.Ieee.{Float, lt, eq, of_bits}
use Rattle.loops.specs.Figures.{at, nought}
use Rattle.refusal.specs.Number.{index_of}
use Rattle.refusal.specs.declared.Refusal.{Refusal}
use Rattle.refusal.specs.declared.Refusal.TheVariants.{Cost}
use Rattle.dispatch_defs.specs.Units.{Units, count}
use Rattle.dispatch_defs.specs.Share.{gap_of}
use Rattle.dispatch_defs.specs.Dispatch.{faulty_cost}
use Rattle.dispatch_defs.specs.Operation.{outcome, dispatched}
use Rattle.dispatch_defs.specs.Limits.{Accepted}
use Rattle.dispatch_defs.proofs.Callers.{called_answered, called_refused}
use Rattle.plan_defs.specs.Stage.{stopped, going}
use Rattle.plan_defs.specs.TopUp.{cheaper, by_cost, topped_to, unless_below, topped_if, top_up, given_by}
use Rattle.planning.specs.Fill.{rank_before, order_by}
use Rattle.planning.specs.Opening.{given_if, given_stage}
use Rattle.plan_theorems.proofs.ToppedUp.{order_below}
use Rattle.planning.proofs.Insertion.{order_same}
use Rattle.std.specs.Prelude.{Err, Result}
use Rattle.refusal.specs.Reply.{no_refusal}

-- ---- the order by c1, of the first two keys alike
pub no_less : lt nought nought ≡ false
unfolding lt of_bits
no_less = refl

ties : eq nought nought ≡ true
unfolding eq of_bits
ties = refl

module _ (keys c1 : List Float) (alike : (k : ℕ) → k < length c1 → at keys k ≡ nought) where
  by_third : (k j : ℕ) → k < length c1 → j < length c1 → rank_before keys keys c1 k j ≡ cheaper c1 k j
  by_third k j h w = rw (alike k h, alike j w, no_less, ties)

  pub order_costs : (l : List ℕ) → l ≡ order_by (rank_before keys keys c1) (length c1) → l ≡ by_cost c1
  unfolding by_cost order_by
  order_costs l e = e ∙ order_same (length c1) (rank_before keys keys c1) (cheaper c1) by_third

-- the order names the units
module _ (c1 : List Float) where
  pub unit_named : (units : List ℕ) → units ≡ by_cost c1 → (m : ℕ) → length c1 ≡ m → (j : ℕ) → j < length units → get_or units j 0 < m
  unit_named units e m h j w =
      All-get_or (λ k. k < m) units j 0 w (subst (All (λ k. k < m)) (sym e) (subst (λ (n : ℕ). All (λ k. k < n) (by_cost c1)) h (order_below c1)))

-- ---- the pass, from place j of the order on, where unit k stands
pub pass_end : (pmax : List Float) (demand : Float) (ks units : List ℕ) → units ≡ ks → (j : ℕ) (mw : List Float) → length units ≤ j → mw ≡ top_up pmax demand (drop j ks) mw
unfolding top_up
pass_end pmax demand ks units o j mw h = sym (ap (λ (l : List ℕ). top_up pmax demand (drop j l) mw) (sym o) ∙ ap (λ (l : List ℕ). top_up pmax demand l mw) (drop_of_length-le units h))

-- the units as the loop has them
module _ (pmax : List Float) (demand : Float) (ks units : List ℕ) (o : units ≡ ks) (j k : ℕ) (h : j < length units) (e : k ≡ get_or units j 0) (mw : List Float) (gap : Float) (g : gap ≡ gap_of demand mw) where
  abbrev rest : List Float → List Float
  rest = top_up pmax demand (drop (j + 1) ks)

  here : topped_if (lt nought gap) (at pmax k) k gap mw rest ≡ top_up pmax demand (drop j ks) mw
  unfolding top_up
  here =
      let z : suc j ≡ j + 1 = omega arith in
      let w : j < length ks = omega (arith, ap length o) in
      let f : k ≡ get_or ks j 0 = e ∙ ap (λ (l : List ℕ). get_or l j 0) o in
      sym (
      ap (λ (l : List ℕ). top_up pmax demand l mw) (drop-cons ks j 0 w)
      ∙ ap (λ (i : ℕ). topped_if (lt nought (gap_of demand mw)) (at pmax i) i (gap_of demand mw) mw (top_up pmax demand (drop (suc j) ks))) (sym f)
      ∙ ap (λ (i : ℕ). topped_if (lt nought (gap_of demand mw)) (at pmax k) k (gap_of demand mw) mw (top_up pmax demand (drop i ks))) z
      ∙ ap (λ (x : Float). topped_if (lt nought x) (at pmax k) k x mw rest) (sym g)
      )

  pub pass_none : lt nought gap ≡ false → mw ≡ top_up pmax demand (drop j ks) mw
  pass_none q = ap (λ (b : Bool). topped_if b (at pmax k) k gap mw rest) (sym q) ∙ here

  module _ (q : lt nought gap ≡ true) (new : Float) (w : new ≡ topped_to (at pmax k) (at mw k) gap) where
    goes : (b : Bool) → lt new (at pmax k) ≡ b → unless_below b (set mw k new) rest ≡ top_up pmax demand (drop j ks) mw
    goes b f =
        ap (λ (t : Bool). unless_below t (set mw k new) rest) (sym f)
        ∙ ap (λ (x : Float). unless_below (lt x (at pmax k)) (set mw k x) rest) w
        ∙ ap (λ (t : Bool). topped_if t (at pmax k) k gap mw rest) (sym q)
        ∙ here

    pub pass_last : lt new (at pmax k) ≡ true → set mw k new ≡ top_up pmax demand (drop j ks) mw
    pass_last f = goes true f

    pub pass_next : lt new (at pmax k) ≡ false → top_up pmax demand (drop (j + 1) ks) (set mw k new) ≡ top_up pmax demand (drop j ks) mw
    pass_next f = goes false f

-- ---- the dispatch, and the pass after it
module _ (n : ℕ) (u : Units) (d : Float) (old : List Float) (p : Accepted n u d (length old)) (a : Result (Unit {0}) Refusal) (out : List Float) (e : outcome a out ≡ dispatched n u d old)
    (tops : Bool) where
  pub gives_refused : (f : Refusal) → a ≡ Err f → (i : ℕ) → i ≡ index_of f → stopped (Cost i) ≡ given_stage tops u d
  gives_refused f h i w =
      let q = called_refused n u d old p a out e f h in
      ap (λ (k : ℕ). stopped (Cost k)) (w ∙ q.2) ∙ ap (λ (b : Bool). given_if b tops u d) (sym (lt-ltb (faulty_cost u d) (count u) q.0))

  answered_as : a ≡ no_refusal → going (given_by tops u d) ≡ given_stage tops u d
  answered_as h =
      let q = called_answered n u d old p a out e h in
      ap (λ (b : Bool). given_if b tops u d) (sym (le-ltb (faulty_cost u d) (count u) q.0))

  pub gives_plain : a ≡ no_refusal → tops ≡ false → going out ≡ given_stage tops u d
  gives_plain h t =
      ap going ((called_answered n u d old p a out e h).1 ∙ ap (λ (b : Bool). given_by b u d) (sym t)) ∙ answered_as h

  pub gives_topped : a ≡ no_refusal → tops ≡ true → (mw : List Float) → mw ≡ top_up u.pmax d (by_cost u.c1) out → going mw ≡ given_stage tops u d
  gives_topped h t mw w =
      ap going (w ∙ ap (top_up u.pmax d (by_cost u.c1)) (called_answered n u d old p a out e h).1 ∙ ap (λ (b : Bool). given_by b u d) (sym t)) ∙ answered_as h
