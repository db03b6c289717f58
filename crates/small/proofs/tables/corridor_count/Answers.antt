-- The ones of a number below 8 are its three digits.
use Rattle.std.proofs.Common.{ℕ, zero, suc, ◌%◌, ◌<◌, ◌≡◌, refl, ◌∙◌, arith}
use lib.Count.{ones, ones_in}
use Rattle.small.specs.Columns.{corridor_count}
use Rattle.small.proofs.tables.corridor_count.Goals as goal

ones_below : (n : ℕ) → n < 8 → ones n ≡ corridor_count n
unfolding ones ones_in
ones_below zero h = refl
ones_below (suc zero) h = refl
ones_below (suc (suc zero)) h = refl
ones_below (suc (suc (suc zero))) h = refl
ones_below (suc (suc (suc (suc zero)))) h = refl
ones_below (suc (suc (suc (suc (suc zero))))) h = refl
ones_below (suc (suc (suc (suc (suc (suc zero)))))) h = refl
ones_below (suc (suc (suc (suc (suc (suc (suc zero))))))) h = refl
ones_below (suc (suc (suc (suc (suc (suc (suc (suc n)))))))) h = absurd (omega arith)

pub returns-clause-value : goal.returns-clause-value
returns-clause-value c = ones_below _ (omega arith) ∙ omega arith

pub returns-clause-few : goal.returns-clause-few
returns-clause-few c = omega (arith, ones_below (c.args.corridors % 8) (omega arith))
