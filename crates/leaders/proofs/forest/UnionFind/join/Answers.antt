use Rattle.leaders.proofs.Forests.{joined_by_lem}
use Rattle.leaders.proofs.forest.UnionFind.join.Goals as goal

pub returns : goal.returns
returns c = joined_by_lem _ _ _ _ _ _ _ _ _ _ c.find-from.ensures.found c.find-to.ensures.found (rw (c.find-to.ensures.named, c.find-from.ensures.named) at c.link.ensures)
