use Rattle.std.proofs.Common.{refl, arith, get_or}
use Rattle.leaders.proofs.Forests.{down_set, roots_turn, kept_turn}
use Rattle.leaders.proofs.forest.UnionFind.find.Goals as goal

pub loop-up-preserved : goal.loop-up-preserved
loop-up-preserved c =
    let l = c.loop-up in
    let i = l.invariant in
    let p = l.self.parent in (
      omega (arith, i.2 l.at, i.2 l.up),
      refl,
      down_set p l.at (get_or p l.up 0) i.2 (omega (arith, i.2 l.at, i.2 l.up)),
      roots_turn c.args.self.now.parent p l.at l.up (get_or p l.up 0) (λ q. omega arith) i.1 i.3,
      kept_turn c.args.x c.args.self.now.parent p l.at l.up _ i.0 i.1 refl i.4,
      i.5,
    )
