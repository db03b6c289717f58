use Rattle.std.proofs.Common.{refl, ◌≡◌, ℕ, max, length, get_or, ap, ◌∙◌}
use lib.Ieee.{Float, to_unsigned}
use Rattle.loops.specs.Figures.{float, times}
use Rattle.root.specs.Ceiling.{ceil}
use Rattle.plan_defs.specs.Components.{within}
use Rattle.plan_defs.specs.Lists.{counting}
use Rattle.plan_defs.specs.Constants.{stiffening_batch_share}
use Rattle.planning.proofs.Casts.{ceil_is}
use Rattle.planning.proofs.candidates.batch_cap.Goals as goal

cap-is : (count n : ℕ) (x y : Float) (cap : ℕ) → n ≡ count → x ≡ float n → y ≡ ceil (times stiffening_batch_share x) → cap ≡ to_unsigned 64 y
    → max cap 1 ≡ max (to_unsigned 64 (ceil (times stiffening_batch_share (float count)))) 1
cap-is count n x y cap p q r s =
    ap (λ (k : ℕ). max k 1) (s ∙ ap (λ (z : Float). to_unsigned 64 z) (r ∙ ap (λ (z : Float). ceil (times stiffening_batch_share z)) (q ∙ ap (λ (k : ℕ). float k) p)))

pub returns : goal.returns
returns c =
    let z = c.args in
    let n = counting (λ (k : ℕ). within z.leader.now z.root (get_or z.a.now k 0)) (length z.a.now) in
    c.max.ensures ∙ cap-is n _ _ _ _ c.corridors_in.ensures refl (c.ceil.ensures ∙ ceil_is _) c.saturating_f64_to_usize.ensures
