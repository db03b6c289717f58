use Rattle.std.proofs.Common.{arith}
use Rattle.leaders.proofs.Forests.{linked_below, linked_above}
use Rattle.leaders.proofs.forest.UnionFind.link.Goals as goal

pub returns-then-from-to : goal.returns-then-from-to
returns-then-from-to c = let r = c.requires.root in linked_below _ _ c.args.self.now.down _ _ r.0 r.1 (omega arith)

pub returns-else-from-to : goal.returns-else-from-to
returns-else-from-to c = let r = c.requires.root in linked_above _ _ c.args.self.now.down _ _ r.0 r.1 (omega arith)
