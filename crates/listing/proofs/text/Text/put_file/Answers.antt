use native.Mathlib.Omega.{arith}
use Rattle.listing.proofs.Rooms.{refusal_short}
use Rattle.listing.proofs.Outcomes.{levels_there, grounds_there, refused_text, planned_text, room}
use Rattle.listing.proofs.text.Text.put_file.Goals as goal

pub put_refusal-requires : goal.put_refusal-requires
put_refusal-requires c = rw c.requires (omega (arith, refusal_short c.in-Err.f))

pub put_planned-requires-clause-room : goal.put_planned-requires-clause-room
put_planned-requires-clause-room c =
    let r = c.plan_file-planned in
    rw c.requires (omega (arith, room c.args.file.now r.result r.ensures c.in-Ok.is))

pub put_planned-requires-clause-added : goal.put_planned-requires-clause-added
put_planned-requires-clause-added c =
    let r = c.plan_file-planned in
    (levels_there c.args.file.now r.result r.ensures c.in-Ok.is).1

pub put_planned-requires-clause-grounds : goal.put_planned-requires-clause-grounds
put_planned-requires-clause-grounds c =
    let r = c.plan_file-planned in
    (grounds_there c.args.file.now r.result r.ensures c.in-Ok.is).1

pub returns-in-Err : goal.returns-in-Err
returns-in-Err c =
    let r = c.plan_file-planned in
    rw (c.put_refusal.ensures, c.requires) (refused_text c.args.file.now r.result r.ensures c.in-Err.is)

pub returns-in-Ok : goal.returns-in-Ok
returns-in-Ok c =
    let r = c.plan_file-planned in
    rw (c.put_planned.ensures, c.requires) (planned_text c.args.file.now r.result r.ensures c.in-Ok.is)
