use Rattle.std.proofs.Common.{refl, arith}
use Rattle.loops.proofs.Scan.{fault_at, fault_none}
use Rattle.planning.proofs.Places.{none_named, next_named, past_faulty, again_faulty, first_sound, one_more}
use Rattle.planning.proofs.preview.faulty_place.Goals as goal
use Rattle.planning.proofs.preview.faulty_place.Goals.{then-corridor-order-via-then-corridor-order, then-corridor-order-via-else-corridor-order+then-named-corridor}

pub loop-j-init : goal.loop-j-init
loop-j-init c = record { passed = λ i h. absurd (omega arith); named = none_named _ }

pub returns-then-corridor-order : goal.returns-then-corridor-order
returns-then-corridor-order c =
    let l = c.loop-j in
    let s = l.invariant.named in
    fault_at _ _ l.j l.invariant.passed c.loop-j-test.true (
    elim c.then-corridor-order.branch [
      | then-corridor-order-via-then-corridor-order w ↦ past_faulty _ _ _ s _ refl w.if-corridor-order.true
      | then-corridor-order-via-else-corridor-order+then-named-corridor w ↦ again_faulty _ _ _ s _ refl (omega (arith, w.if-corridor-order.false, c.requires)) w.if-named-corridor.true
    ]
    )

pub loop-j-preserved : goal.loop-j-preserved
loop-j-preserved c =
    let l = c.loop-j in
    let few = c.requires in
    let s = l.invariant.named in
    record {
      passed = one_more _ _ l.invariant.passed (first_sound _ _ _ s _ refl c.if-corridor-order.false (omega (arith, c.if-corridor-order.false, few)) c.if-named-corridor.false);
      named = next_named _ _ _ s _ refl (omega (arith, c.if-corridor-order.false, few));
    }

pub returns : goal.returns
returns c = fault_none _ _ (λ i h. c.loop-j.invariant.passed i (omega (arith, c.loop-j-test.false)))
