-- A bank is set only where it is below what it is kept to, and that lies between two sound ratings.
use Rattle.std.proofs.Common.{◌≡◌, true, ◌&&◌, sym, ap, ◌∙◌, subst}
use lib.Ieee.{Float, lt}
use Rattle.impedance.specs.Impedance.{rating_ok}
use Rattle.planning.proofs.Ratings.{kept_sound}
use Rattle.planning.proofs.redesign.kept_bank.Goals as goal

pub set_transformer_mva-requires : goal.set_transformer_mva-requires
set_transformer_mva-requires c =
    let d = c.args.d in
    let p = c.lesser-keep.ensures in
    subst (λ (x : Float). rating_ok x ≡ true) (sym p) (kept_sound d c.args.floor c.requires (ap (λ (x : Float). d.is_transformer && lt d.transformer_mva x) (sym p) ∙ c.if-d-keep.true))
