-- What the contracts of module preview cite: what a plan keeps, of which a scan reads one column or two, and what filling anew asks of them.
use Rattle.std.specs.Prelude.{◌≡◌, ℕ, List, [], length}
use Rattle.mode.specs.declared.PlanMode.TheVariants.{Expand}
use Rattle.plan_defs.specs.Preview.{Kept, kept_as}
use Rattle.planning.specs.Fill.{Fillable, Counted}

abbrev pub counts_for : List ℕ → List ℕ → Kept
counts_for before cap = kept_as Expand (length before) before [] cap

abbrev pub order_for : List ℕ → Kept
order_for order = kept_as Expand (length order) [] order []

-- what filling asks of the counts before it, which it begins with, and a lent place for each corridor
pub record Refillable (before order cap circuits : List ℕ) : Type 0 where
  pub fillable : Fillable order cap before
  pub counted : Counted before
  pub circuits_size : length circuits ≡ length before
