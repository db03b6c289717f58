-- What a caller that keeps the rules may use: refusal 8 alone is left, and an answer depends on the units in order and the demand alone.
-- The refusals 1, 2 and 5 pass; what is left of the definition names neither the result's old contents nor anything else.
use Prim.Native.Nat.{ℕ, ◌<◌, ◌≤◌}
use mathlib.Core.Bool.{Bool, true, false}
use mathlib.Core.List.{List}
use mathlib.Core.Path.{◌≡◌, refl, sym, ap, ◌∙◌}
use borrow.Author.Tests.{ltb-true, ltb-false}
use lib.Dec.{ltb}
use lib.ListN.{length}
use lib.Ieee.{Float}
use Rattle.loops.proofs.Bools.{unequal}
use Rattle.refusal.specs.Number.{number_of, index_of}
use Rattle.refusal.specs.Reply.{answered, refused, refused_by, reply_of, no_refusal}
use Rattle.refusal.specs.declared.Refusal.{Refusal}
use Rattle.refusal.specs.declared.Refusal.TheVariants.{Cost}
use Rattle.dispatch_defs.specs.Units.{Units, count}
use Rattle.dispatch_defs.specs.Dispatch.{economic_dispatch, faulty_cost}
use Rattle.dispatch_defs.specs.Operation.{check_of, Outcome, outcome, shared_out_if, shared_out, dispatched_by, dispatched}
use Rattle.dispatch_defs.specs.Limits.{Accepted}
use Rattle.dispatch_defs.proofs.Checks.{accepts}
use Rattle.dispatch_defs.proofs.SharingOut.{shared_out_refused, shared_out_answered}
use Rattle.std.specs.Prelude.{Err, Ok, Result}

pub never : {A : Type 0} (x : A) (k i : ℕ) → answered x ≡ refused k i → ⊥
never x k i e = unequal cc

module _ (n : ℕ) (u : Units) (d : Float) (mw : List Float) where
  -- ---- an answer is the economic dispatch of the units, whatever the result held
  answer_any : (old : List Float) (k : Result (Unit {0}) Refusal) → (dispatched_by k u d mw).reply ≡ answered tt → dispatched_by k u d old ≡ outcome no_refusal (economic_dispatch u d)
  unfolding dispatched_by shared_out shared_out_if
  answer_any old (Err f) h = absurd (never tt (number_of f) (index_of f) (sym h))
  answer_any old (Ok tt) h = go (ltb (faulty_cost u d) (count u)) h
    where
      go : (b : Bool) → (shared_out_if b u d mw).reply ≡ answered tt → shared_out_if b u d old ≡ outcome no_refusal (economic_dispatch u d)
      go true a = absurd (never tt (number_of (Cost (faulty_cost u d))) (index_of (Cost (faulty_cost u d))) (sym a))
      go false a = refl

  pub answer_is : (dispatched n u d mw).reply ≡ answered tt → dispatched n u d mw ≡ outcome no_refusal (economic_dispatch u d)
  unfolding dispatched
  answer_is h = answer_any mw (check_of n u d (length mw)) h

  pub fresh : (old : List Float) → length old ≡ length mw → (dispatched n u d mw).reply ≡ answered tt → dispatched n u d old ≡ dispatched n u d mw
  unfolding dispatched
  fresh old e h =
      ap (λ (k : ℕ). dispatched_by (check_of n u d k) u d old) e
      ∙ answer_any old (check_of n u d (length mw)) h
      ∙ sym (answer_any mw (check_of n u d (length mw)) h)

  -- ---- a request that keeps the rules is answered, or refused by 8
  module _ (p : Accepted n u d (length mw)) where
    pub accepted : dispatched n u d mw ≡ shared_out u d mw
    unfolding dispatched dispatched_by
    accepted = rw (accepts n u d (length mw) p)

    pub answers : count u ≤ faulty_cost u d → dispatched n u d mw ≡ outcome no_refusal (economic_dispatch u d)
    answers h = accepted ∙ shared_out_answered u d mw h

    pub refuses : faulty_cost u d < count u → dispatched n u d mw ≡ outcome (Err (Cost (faulty_cost u d))) mw
    refuses h = accepted ∙ shared_out_refused u d mw h

    -- what the two answers of a call say, as the promise of `economic_dispatch` has it
    module _ (a : Result (Unit {0}) Refusal) (out : List Float) (e : outcome a out ≡ dispatched n u d mw) where
      pub called_answered : a ≡ no_refusal → (count u ≤ faulty_cost u d) × (out ≡ economic_dispatch u d)
      called_answered h = go (ltb (faulty_cost u d) (count u)) refl
        where
          go : (b : Bool) → ltb (faulty_cost u d) (count u) ≡ b → (count u ≤ faulty_cost u d) × (out ≡ economic_dispatch u d)
          go true q =
              absurd (never tt (number_of (Cost (faulty_cost u d))) (index_of (Cost (faulty_cost u d)))
              (ap reply_of (sym h) ∙ ap (λ (o : Outcome). o.reply) (e ∙ refuses (ltb-true (faulty_cost u d) (count u) q))))
          go false q =
              let l = ltb-false (faulty_cost u d) (count u) q in
              (l, ap (λ (o : Outcome). o.mw) (e ∙ answers l))

      pub called_refused : (f : Refusal) → a ≡ Err f → (faulty_cost u d < count u) × (number_of f ≡ 8) × (index_of f ≡ faulty_cost u d) × (out ≡ mw)
      unfolding number_of index_of
      called_refused f h = go (ltb (faulty_cost u d) (count u)) refl
        where
          go : (b : Bool) → ltb (faulty_cost u d) (count u) ≡ b → (faulty_cost u d < count u) × (number_of f ≡ 8) × (index_of f ≡ faulty_cost u d) × (out ≡ mw)
          go true q =
              let l = ltb-true (faulty_cost u d) (count u) q in
              let r : refused_by {A = Unit {0}} f ≡ refused 8 (faulty_cost u d) = ap reply_of (sym h) ∙ ap (λ (o : Outcome). o.reply) (e ∙ refuses l) in
              (l, cc, cc, ap (λ (o : Outcome). o.mw) (e ∙ refuses l))
          go false q =
              absurd (never tt (number_of f) (index_of f)
              (ap (λ (o : Outcome). o.reply) (sym (e ∙ answers (ltb-false (faulty_cost u d) (count u) q))) ∙ ap reply_of h))
