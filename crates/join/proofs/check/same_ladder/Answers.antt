use Rattle.std.proofs.Common.{ℕ, rules, ◌≡◌, ◌∙◌, sym, refl, ap, arith, Bool, true, false}
use borrow.Author.Tests.{eq-eqb, ne_eqb}
use lib.Dec.{eqb}
use Rattle.std.specs.Float.Ieee.{eq}
use Rattle.std.specs.Option.{is_some}
use Rattle.std.specs.Prelude.{Some, None, Option, not, ◌&&◌, length}
use Rattle.loops.specs.Figures.{at}
use Rattle.loops.specs.Loops.{first, fault}
use Rattle.loops.proofs.Scan.{fault_some, fault_passed, all_pass, pass_all}
use Rattle.join_defs.specs.Districts.{same_ladder}
use Rattle.join.proofs.check.same_ladder.Goals as goal

-- whether the search found none, as a test
tested : (ok : ℕ → Bool) (n : ℕ) (o : Option ℕ) (b : Bool) → o ≡ fault ok n → is_some o ≡ not b → b ≡ eqb (first ok n 0) n
tested ok n (Some k) false e h = let f = fault_some ok n k e in sym (ne_eqb (first ok n 0) n (λ q. omega arith))
tested ok n (Some k) true e h = absurd (search rules)
tested ok n None true e h = sym (eq-eqb (first ok n 0) n (pass_all ok n (all_pass ok n (fault_passed ok n e))))
tested ok n None false e h = absurd (search rules)

pub returns-then-x-y : goal.returns-then-x-y
unfolding same_ladder
returns-then-x-y c = rw (ne_eqb _ _ c.if-x-y.true) refl

pub returns : goal.returns
unfolding same_ladder
returns c =
    let ok : ℕ → Bool = λ (i : ℕ). eq (at c.args.x.now i) (at c.args.y.now i) in
    tested ok (length c.args.x.now) _ _ (c.first_fault.ensures ok (λ i r l h. search rules)) c.is_none.ensures
    ∙ ap (λ (b : Bool). b && eqb (first ok (length c.args.x.now) 0) (length c.args.x.now)) (sym (eq-eqb _ _ c.if-x-y.false))
