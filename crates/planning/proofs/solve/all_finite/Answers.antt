use Rattle.std.proofs.Common.{ℕ, rules, ◌≡◌, sym, arith, Bool, true, false, not, length, leb, le-leb}
use borrow.Author.Tests.{lt-leb}
use Rattle.std.specs.Option.{is_some}
use Rattle.std.specs.Prelude.{Some, None, Option}
use Rattle.loops.specs.Loops.{first, fault}
use Rattle.loops.proofs.Scan.{fault_some, fault_passed}
use Rattle.angles_defs.specs.Operation.{finite_at}
use Rattle.plan_defs.specs.Solve.{all_finite}
use Rattle.planning.proofs.solve.all_finite.Goals as goal

-- whether the search found none, as a test
tested : (ok : ℕ → Bool) (n : ℕ) (o : Option ℕ) (b : Bool) → o ≡ fault ok n → is_some o ≡ not b → b ≡ leb n (first ok n 0)
tested ok n (Some k) false e h = let f = fault_some ok n k e in sym (lt-leb n (first ok n 0) (omega arith))
tested ok n (Some k) true e h = absurd (search rules)
tested ok n None true e h = sym (le-leb n (first ok n 0) (fault_passed ok n e))
tested ok n None false e h = absurd (search rules)

pub returns : goal.returns
unfolding all_finite
returns c = tested (finite_at c.args.figures.now) (length c.args.figures.now) _ _ (c.first_fault.ensures _ (λ i r l h. search rules)) c.is_none.ensures
