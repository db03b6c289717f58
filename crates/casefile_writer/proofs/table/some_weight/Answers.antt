use Rattle.std.proofs.Common.{ℕ, rules, ◌≡◌, ◌∙◌, refl, ap, Bool, true, false, cond}
use Rattle.std.specs.Float.Ieee.{eq}
use Rattle.std.specs.Option.{is_some}
use Rattle.std.specs.Prelude.{Some, None, Option}
use Rattle.loops.specs.Figures.{at, one}
use Rattle.loops.specs.Loops.{fault}
use Rattle.casefile_writer.specs.Words.{weighs}
use Rattle.casefile_writer.proofs.table.some_weight.Goals as goal

chosen : (b : Bool) (k : ℕ) → is_some (cond b (Some k) None) ≡ b
chosen true k = refl
chosen false k = refl

pub returns : goal.returns
unfolding weighs fault
returns c =
    let ok : ℕ → Bool = λ (i : ℕ). eq (at c.args.weight.now i) one in
    c.is_some.ensures ∙ ap (λ (o : Option ℕ). is_some o) (c.first_fault.ensures ok (λ i r l h. search rules)) ∙ chosen _ _
