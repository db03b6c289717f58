use Rattle.std.proofs.Common.{ℕ, rules, ap, ◌∙◌, cond, length}
use lib.Dec.{ltb}
use Rattle.loops.specs.Loops.{tab}
use Rattle.casefile_defs.specs.Layout.{spot}
use Rattle.casefile_defs.specs.Tables.{number_in}
use Rattle.casefile_defs.specs.declared.Kind.{Kind}
use Rattle.casefile_defs.specs.declared.Kind.TheVariants.{Corridor}
use Rattle.casefile.specs.Records.{Records, cap_at}
use Rattle.casefile.proofs.columns.Table.fill_caps.Goals as goal

pub returns : goal.returns
unfolding number_in
returns c =
    let t = c.args.self.now in
    let f : Kind → ℕ → ℕ = λ k i. cap_at t.file (spot k t.file t.at i) in
    c.fill_first.ensures (f t.kind) (λ i r l h. search rules)
    ∙ ap (λ (k : Kind). tab (length c.args.out.now) (λ i. cond (ltb i c.self.inside.count) (f k i) 0)) c.requires
    ∙ ap (λ (t : Records). tab (length c.args.out.now) (λ i. cond (ltb i t.count) (f Corridor i) 0)) c.self.view_is
