use Rattle.std.proofs.Common.{ℕ, rules, ap, ◌∙◌, cond, length}
use lib.Ieee.{Float}
use lib.Dec.{ltb}
use Rattle.loops.specs.Figures.{nought}
use Rattle.loops.specs.Loops.{tab}
use Rattle.casefile_defs.specs.Layout.{spot}
use Rattle.casefile_defs.specs.Tables.{weight_at, weight_in}
use Rattle.casefile_defs.specs.declared.Kind.{Kind}
use Rattle.casefile_defs.specs.declared.Kind.TheVariants.{Bus}
use Rattle.casefile.specs.Records.{Records}
use Rattle.casefile.proofs.columns.Table.fill_weights.Goals as goal

pub returns : goal.returns
unfolding weight_in
returns c =
    let t = c.args.self.now in
    let f : Kind → ℕ → Float = λ k i. weight_at t.file (spot k t.file t.at i) in
    c.fill_first.ensures (f t.kind) (λ i r l h. search rules)
    ∙ ap (λ (k : Kind). tab (length c.args.out.now) (λ i. cond (ltb i c.self.inside.count) (f k i) nought)) c.requires
    ∙ ap (λ (t : Records). tab (length c.args.out.now) (λ i. cond (ltb i t.count) (f Bus i) nought)) c.self.view_is
