use native.Mathlib.Omega.{arith}
use mathlib.Core.Path.{refl}
use Rattle.casefile.proofs.Words.{few_bytes, few_small}
use Rattle.casefile.proofs.bytes.word.Goals as goal

pub returns : goal.returns
returns c =
    let value = few_bytes _ _ _ _ _ _ c.requires.0 c.requires.1 (c.copy_from_slice.ensures.after) refl c.from_le_bytes.ensures in
    record { value = value; small = rw value (few_small _ _ _ (λ i. omega (arith, c.type_inv.file i)) c.requires.1) }
