use Rattle.join.proofs.Sheets.{in_first, in_second}
use Rattle.join.proofs.columns.Sheets.at.Goals as goal

pub row_figure-requires : goal.row_figure-requires
row_figure-requires c =
    let s = c.args.self.now in
    in_first s.m s.o s.n s.first.now s.second.now s.rowed c.args.p c.if-i-m.false _ _ c.row_corridor-k.ensures c.row_level-level.ensures c.if-k-m.true

pub row_figure-requires-2 : goal.row_figure-requires-2
row_figure-requires-2 c =
    let s = c.args.self.now in
    in_second s.m s.o s.n s.first.now s.second.now s.rowed c.args.p c.if-i-m.false _ _ c.row_corridor-k.ensures c.row_level-level.ensures c.if-k-m.false
