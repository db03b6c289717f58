-- Whether a work slice has its rows for each bus, corridor and generator, asked without the sum.
use Rattle.std.proofs.Common.{◌≡◌, ℕ, ◌*◌, ◌/◌, ◌%◌, eqb, arith}
use Rattle.loops.proofs.Products.{rows_are}
use Rattle.plan_defs.specs.Constants.{work_rows}

module _ (n m g places : ℕ) (whole : places % work_rows ≡ 0) where
  rows_of : (x : ℕ) → eqb (places / work_rows) x ≡ eqb places (work_rows * x)
  rows_of x = rows_are work_rows places x whole (λ e. let z : ◌≡◌ {A = ℕ} 12 0 = e in omega arith)
