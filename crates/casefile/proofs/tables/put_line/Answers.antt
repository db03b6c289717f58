use Rattle.std.proofs.Common.{arith, ap, ◌∙◌, ◌+◌, ◌-◌, List, ℕ, ◌≡◌, rules, length, take, drop}
use lib.Ieee.{Float}
use lib.ListN.{length-take, length-drop}
use borrow.Rule.Slice.PartMut.{put_mid}
use Rattle.loops.specs.Loops.{tab}
use Rattle.loops.proofs.Tab.{length_tab}
use Rattle.casefile_defs.specs.Bounds.{row_figures}
use Rattle.casefile_defs.specs.Tables.{line_figure}
use Rattle.casefile.proofs.Copies.{put_copied}
use Rattle.casefile.proofs.tables.put_line.Goals as goal

pub returns : goal.returns
returns c =
    let s = c.args in
    let n : length (take (s.to + row_figures - s.to) (drop s.to s.sheet.now)) ≡ row_figures = simp (length-take, length-drop) (omega arith) in
    let e = c.fill.ensures (line_figure s.file.now s.at) (λ j r l h. search rules) in
    ap (λ (v : List Float). put_mid s.to (s.to + row_figures - s.to) s.sheet.now v) (e ∙ ap (λ (k : ℕ). tab k (line_figure s.file.now s.at)) n)
    ∙ put_copied s.sheet.now _ s.to row_figures (length_tab row_figures _)
