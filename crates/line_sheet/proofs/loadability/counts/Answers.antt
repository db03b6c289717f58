use Rattle.std.proofs.Common.{ℕ, List, get_or, ap, ◌∙◌}
use Rattle.loops.specs.Figures.{at}
use Rattle.loops.proofs.Tab.{get_tab}
use Rattle.line_sheet.specs.Lanes.{count_of}
use Rattle.line_sheet.proofs.loadability.counts.Goals as goal

pub returns-then-some_in_knots : goal.returns-then-some_in_knots
returns-then-some_in_knots c =
    let s = c in
    λ j h e. ap (λ (z : List ℕ). get_or z j 0) c.counts_of.ensures ∙ get_tab 8 (λ (i : ℕ). count_of (at s.args.km.now i)) j 0 h
