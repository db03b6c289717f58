use Rattle.std.proofs.Common.{ℕ, rules, ap, ◌∙◌, cond, length}
use lib.Dec.{ltb}
use Rattle.loops.specs.Loops.{tab}
use Rattle.casefile_defs.specs.Tables.{number_at, number_in}
use Rattle.casefile.specs.Records.{Records, start_of}
use Rattle.casefile.proofs.columns.Table.fill_numbers.Goals as goal

pub returns : goal.returns
unfolding number_in
returns c =
    let f : ℕ → ℕ = λ i. number_at c.args.self.now.kind c.args.self.now.file (start_of c.args.self.now i) c.args.offset c.args.width in
    c.fill_first.ensures f (λ i r l h. search rules) ∙ ap (λ (t : Records). tab (length c.args.out.now) (λ i. cond (ltb i t.count) (f i) 0)) c.self.view_is
