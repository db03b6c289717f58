-- Each field is its word (header_same), and the mode that of its number.
use Prim.Native.Nat.{ℕ, ◌<◌}
use mathlib.Core.Path.{◌≡◌, refl, sym, ap, ◌∙◌}
use native.Mathlib.Omega.{arith}
use borrow.Author.Tests.{ne_eqb}
use Rattle.std.specs.Prelude.{Result, Ok, Err}
use Rattle.std.specs.Result.{result_unwrap_or}
use Rattle.mode.specs.Number.{mode_number, Numbered}
use Rattle.mode.specs.declared.PlanMode.{PlanMode}
use Rattle.mode.specs.declared.PlanMode.TheVariants.{Expand, Reinforce, Observe, ExpandServing, ReinforceServing, ObserveServing}
use Rattle.mode.specs.declared.UnknownMode.{UnknownMode}
use Rattle.casefile_defs.specs.Reading.{mode_of}
use Rattle.casefile_defs.proofs.Counts.{header_same}
use Rattle.casefile.proofs.scan.header_of.Goals as goal

numbered : (m : PlanMode) → m ≡ mode_of (mode_number m)
unfolding mode_of mode_number
numbered Expand = refl
numbered Reinforce = refl
numbered Observe = refl
numbered ExpandServing = refl
numbered ReinforceServing = refl
numbered ObserveServing = refl

no_number : (n : ℕ) → mode_number ObserveServing < n → ObserveServing ≡ mode_of n
unfolding mode_of mode_number
no_number n h =
    sym
    (simp
    (ne_eqb n 0 (λ e. absurd (omega arith)), ne_eqb n 1 (λ e. absurd (omega arith)), ne_eqb n 2 (λ e. absurd (omega arith)), ne_eqb n 3 (λ e. absurd (omega arith)), ne_eqb n 4 (λ e. absurd (omega arith))))

mode_same : (n : ℕ) (r : Result PlanMode UnknownMode) → Numbered n r → result_unwrap_or r ObserveServing ≡ mode_of n
unfolding mode_number
mode_same n (Ok m) e = numbered m ∙ ap (λ (k : ℕ). mode_of k) e
mode_same n (Err e) h = no_number n h.1

pub returns-clause-value : goal.returns-clause-value
returns-clause-value c =
    header_same _ _ _ _ _ _ _ _ _ (c.unwrap_or-mode.ensures ∙ mode_same _ _ c.try_from.ensures) c.word-number.ensures.value c.word-target.ensures.value
    c.word-buses.ensures.value c.word-corridors.ensures.value c.word-generators.ensures.value
    c.word-above.ensures.value c.word-requested.ensures.value
