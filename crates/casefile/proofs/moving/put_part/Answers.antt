use Rattle.std.proofs.Common.{ap, ◌∙◌, refl, ◌+◌, ◌-◌, List, ℕ, length}
use borrow.Rule.Slice.PartMut.{put_mid}
use Rattle.casefile.proofs.Copies.{put_copied}
use Rattle.casefile.proofs.moving.put_part.Goals as goal

pub returns : goal.returns
returns c =
    let s = c.args in
    ap (λ (v : List ℕ). put_mid s.to (s.to + length s.part.now - s.to) s.out.now v) c.copy_from_slice.ensures.after ∙ put_copied s.out.now _ s.to (length s.part.now) refl
