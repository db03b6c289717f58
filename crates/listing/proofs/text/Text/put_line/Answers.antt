use Rattle.std.proofs.Common.{◌+◌, ◌≤◌, ◌++◌, List, ℕ, length, length-append, ◌∙◌}
use native.Mathlib.Omega.{arith}
use Rattle.listing_defs.specs.Lines.{line_of, most_text}
use Rattle.listing_defs.specs.declared.Field.{Field}
use Rattle.listing.proofs.Texts.{field_room, field_put, fields_put}
use Rattle.listing.proofs.text.Text.put_line.Goals as goal

all_room : (a mark : List ℕ) (fields : List Field) → length a + length (line_of mark fields) ≤ most_text → length (a ++ line_of mark fields) ≤ most_text
all_room a mark fields h = omega (arith, length-append a (line_of mark fields))

pub put_field-requires : goal.put_field-requires
put_field-requires c =
    let l = c.loop-f in
    let a = c.args in
    field_room l.self a.fields.now l.f-index c.loop-f-test.true l.invariant (all_room a.self.now a.mark.now a.fields.now c.requires)

pub loop-f-preserved : goal.loop-f-preserved
loop-f-preserved c =
    let l = c.loop-f in
    field_put l.self c.args.fields.now l.f-index c.loop-f-test.true l.invariant c.put_field.ensures

pub returns : goal.returns
returns c =
    let l = c.loop-f in
    c.put-2.ensures ∙ fields_put l.self c.args.fields.now l.f-index c.loop-f-test.false l.invariant
