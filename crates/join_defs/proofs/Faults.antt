-- What it says of two cases that they may be joined.
use Prim.Native.Nat.{ℕ}
use mathlib.Core.Bool.{true}
use mathlib.Core.List.{[], ◌∷◌}
use mathlib.Core.Path.{◌≡◌, refl, sym, ◌∙◌}
use Rattle.std.specs.Prelude.{Err, Ok, Result}
use Rattle.loops.specs.Verdict.{fact}
use Rattle.loops.proofs.Chains.{err_not_ok}
use Rattle.loops.proofs.Verdicts.{or_else, joined, passes_all}
use Rattle.refusal.specs.Reply.{no_refusal}
use Rattle.refusal.specs.declared.Refusal.{Refusal}
use Rattle.refusal.specs.declared.Refusal.TheVariants.{Count, Districts}
use Rattle.plan_defs.specs.Case.{Case}
use Rattle.plan_defs.specs.Accept.{case_tests, case_check}
use Rattle.join_defs.specs.Districts.{sums_ok, alike, join_tests, join_check}

neither : (r next : Result (Unit {0}) Refusal) → or_else r next ≡ no_refusal → (r ≡ no_refusal) × (next ≡ no_refusal)
neither (Ok tt) next e = (refl, e)
neither (Err f) next e = absurd (err_not_ok e)

pub record Joinable (c d : Case) (t u : ℕ) : Type 0 where
  pub first : case_check c t ≡ no_refusal
  pub second : case_check d u ≡ no_refusal
  pub sums : sums_ok c t d u ≡ true
  pub same : alike c d ≡ true

pub joinable : (c d : Case) (t u : ℕ) → join_check c t d u ≡ no_refusal → Joinable c d t u
unfolding join_tests
joinable c d t u h =
    let p = neither (case_check c t) _ (sym (joined (case_tests c t) _) ∙ h) in
    let q = neither (case_check d u) _ (sym (joined (case_tests d u) _) ∙ p.1) in
    let a = passes_all (fact (sums_ok c t d u) Count ∷ fact (alike c d) Districts ∷ []) q.1 in
    record { first = p.0; second = q.0; sums = a.0; same = a.1.0 }
