use Rattle.std.proofs.Common.{ℕ, rules, ap, ◌∙◌, cond, length}
use lib.Ieee.{Float}
use lib.Dec.{ltb}
use Rattle.loops.specs.Figures.{nought}
use Rattle.loops.specs.Loops.{tab}
use Rattle.casefile_defs.specs.Tables.{figure_at, figure_in}
use Rattle.casefile.specs.Records.{Records, start_of}
use Rattle.casefile.proofs.columns.Table.fill_figures.Goals as goal

pub returns : goal.returns
unfolding figure_in
returns c =
    let f : ℕ → Float = λ i. figure_at c.args.self.now.file (start_of c.args.self.now i) c.args.offset in
    c.fill_first.ensures f (λ i r l h. search rules) ∙ ap (λ (t : Records). tab (length c.args.out.now) (λ i. cond (ltb i t.count) (f i) nought)) c.self.view_is
