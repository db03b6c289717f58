-- What is left is the line's fields, of which the first is taken off.
use Rattle.std.proofs.Common.{◌∙◌, refl, arith}
use Rattle.std.proofs.lemmas.Grind.{common_steps}
use Rattle.request_fields.proofs.Lines.{left_is, field_ends, last_field}
use Rattle.request_fields.proofs.Fields.next_text.Goals as goal

pub returns-in-Some-clause-text : goal.returns-in-Some-clause-text
returns-in-Some-clause-text c =
    rw (left_is _ _ _ c.in_ok-rest.ensures.ok_part c.self.view_is ∙ field_ends c.in_ok-rest.rest.now _ c.in-Some.ensures) refl

pub returns-in-Some-clause-left : goal.returns-in-Some-clause-left
returns-in-Some-clause-left c =
    rw (left_is _ _ _ c.in_ok-rest.ensures.ok_part c.self.view_is ∙ field_ends c.in_ok-rest.rest.now _ c.in-Some.ensures) (grind (arith, common_steps))

pub returns-in-None-clause-text : goal.returns-in-None-clause-text
returns-in-None-clause-text c =
    rw (left_is _ _ _ c.in_ok-rest.ensures.ok_part c.self.view_is ∙ last_field c.in_ok-rest.rest.now c.in-None.ensures) refl

pub returns-in-None-clause-left : goal.returns-in-None-clause-left
returns-in-None-clause-left c =
    rw (left_is _ _ _ c.in_ok-rest.ensures.ok_part c.self.view_is ∙ last_field c.in_ok-rest.rest.now c.in-None.ensures) refl
