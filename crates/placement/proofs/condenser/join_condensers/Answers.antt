use native.Mathlib.Omega.{arith}
use mathlib.Core.Path.{◌≡◌, refl, sym, ◌∙◌}
use mathlib.Core.Bool.{true}
use lib.ListN.{length-set}
use Rattle.std.proofs.lemmas.List.{length-map, map-set}
use Rattle.placement.specs.Views.{flag_of, flags_in}
use Rattle.loops.proofs.Loops.{iter_all, iter_more, iter_end, iter_still}
use Rattle.placement_defs.specs.Support.{sites}
use Rattle.placement.proofs.Sites.{join_idle, join_busy, all_joined, stand_more}
use Rattle.placement.proofs.Again.{known_first, known_choice, known_next}
use Rattle.placement.proofs.condenser.join_condensers.Goals as goal

pub loop-count-init : goal.loop-count-init
loop-count-init c = (refl, iter_all _ _ _, known_first _ c.args.network.now.net _ _ _ _ _ (length-map _ flag_of ∙ c.requires.0) c.blank-labels.ensures c.distance_to_sources.ensures, λ k h. absurd (omega arith))

pub returns-in_default : goal.returns-in_default
returns-in_default c =
    let l = c.loop-count in
    let choice = known_choice _ c.args.network.now.net _ _ _ _ _ l.invariant.2 c.in_default.ensures.value in
    record { stand = l.invariant.3; joined = all_joined _ _ _ _ _ _ _ (omega arith) (sym (iter_still _ _ (join_idle _ _ _ _ choice (omega arith)) _ _) ∙ l.invariant.1) }

pub distance_with_source-requires : goal.distance_with_source-requires
distance_with_source-requires c = c.in-Some.ensures.bus _ refl

pub loop-count-preserved : goal.loop-count-preserved
loop-count-preserved c =
    let net = c.args.network.now.net in
    let l = c.loop-count in
    let far = c.in-Some.ensures.bus _ refl in
    let choice = known_choice _ net _ _ _ _ _ l.invariant.2 c.in-Some.ensures.value in
    rw (map-set flag_of l.sources c.in-Some.i true) (
      simp length-set l.invariant.0,
      sym (iter_more _ c.loop-count-test.true (join_busy _ _ (sites (flags_in l.sources) l.buses l.count) _ _ choice far)) ∙ l.invariant.1,
      known_next _ net _ _ _ _ _ _ _ far l.invariant.2 c.distance_with_source.ensures,
      stand_more _ _ _ _ (omega arith) (omega arith) l.invariant.3,
    )

pub returns : goal.returns
returns c =
    let e = sym (iter_end _ (omega arith)) ∙ c.loop-count.invariant.1 in
    let z : c.loop-count.count ≡ c.args.network.now.n = omega arith in
    record { joined = all_joined _ _ _ _ _ _ _ (omega arith) (rw z at e); stand = λ k h. c.loop-count.invariant.3 k (omega arith) }
