-- A small letter is no digit; what else is read is what the kit's decoding put into the eight bytes.
use Rattle.std.proofs.Common.{sym, ap, Some, ◌∙◌}
use Rattle.request_fields.proofs.Bits.{no_bits, bits_read, none_read}
use Rattle.request_fields.proofs.U64Field.read.Goals as goal

pub returns-then-has_lowercase : goal.returns-then-has_lowercase
returns-then-has_lowercase c = no_bits c.args.field.now (sym c.if-has_lowercase.ensures)

pub returns-in_err-ok : goal.returns-in_err-ok
returns-in_err-ok c =
    c.from_residual.ensures ∙ none_read c.args.field.now _ _ (sym c.if-has_lowercase.ensures) c.decode_to_slice.ensures.value c.in_err-ok.ensures.value

pub returns : goal.returns
returns c =
    ap Some c.from_be_bytes.ensures
    ∙ bits_read c.args.field.now _ _ _ (sym c.if-has_lowercase.ensures) c.decode_to_slice.ensures.value c.in_ok-ok.ensures.value c.decode_to_slice.auto.out
