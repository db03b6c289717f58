use Rattle.std.proofs.Common.{length, rules}
use Rattle.std.proofs.lemmas.List.{length_push}
use Rattle.std.proofs.lemmas.Slice.Zip.{zip_turn}
use Rattle.leaders.proofs.Forests.{none_joined, next_joined}
use Rattle.leaders.proofs.forest.UnionFind.join_all.Goals as goal

pub loop-a-init : goal.loop-a-init
loop-a-init c = none_joined _ _ _ _ c.args.self.now.down

pub loop-a-preserved : goal.loop-a-preserved
loop-a-preserved c =
    let k = length c.loop-a.yielded in
    let t = zip_turn c.args.a.now c.args.b.now c.loop-a.yielded c.into_iter-a-iterator.result c.loop-a.a-iterator c.next.new.self c.next.result (search rules) (search rules) c.loop-a.yielded_by (c.in-Some.a, c.in-Some.b) c.in-Some.is c.next.ensures.steps in
    rw (length_push c.loop-a.yielded (c.in-Some.a, c.in-Some.b)) (next_joined _ _ _ _ k _ _ _ _ t.0 c.loop-a.invariant (rw (t.2 0, t.3 0) at c.join.ensures))
