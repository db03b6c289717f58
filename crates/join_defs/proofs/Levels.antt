-- Two accepted cases with one ladder have as many levels.
use Prim.Native.Nat.{ℕ}
use mathlib.Core.Bool.{true}
use mathlib.Core.Path.{◌≡◌, sym, ◌∙◌}
use borrow.Author.Tests.{eqb-true}
use lib.Dec.{eqb}
use lib.ListN.{length}
use Rattle.loops.proofs.Bools.{both}
use Rattle.mode.specs.Number.{mode_number}
use Rattle.plan_defs.specs.Case.{Case, levels}
use Rattle.plan_defs.proofs.Accepted.{Accepted}
use Rattle.join_defs.specs.Districts.{same_ladder, alike}

module _ (c d : Case) (same : alike c d ≡ true) where
  rest : (eqb c.requested d.requested ≡ true) × (same_ladder c.ladder d.ladder ≡ true)
  unfolding alike
  rest = both (eqb c.requested d.requested) _ (both (eqb (mode_number c.mode) (mode_number d.mode)) _ same).1

  pub same_requested : c.requested ≡ d.requested
  same_requested = eqb-true _ _ rest.0

  pub levels_same : (t u : ℕ) → Accepted c t → Accepted d u → levels c ≡ levels d
  unfolding same_ladder
  levels_same t u C D = sym C.columns.ladder ∙ eqb-true _ _ (both (eqb (length c.ladder) (length d.ladder)) _ rest.1).0 ∙ D.columns.ladder
