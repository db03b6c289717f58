use Rattle.std.proofs.Common.{rules, ◌∙◌, sym}
use Rattle.std.specs.Float.{nan}
use Rattle.loops.specs.Figures.{at}
use Rattle.loops.proofs.Tab.{tab_same, tab_of}
use Rattle.line_sheet.specs.declared.loadability.Lane.{Lane}
use Rattle.line_sheet.specs.Lanes.{lane_of}
use Rattle.line_sheet.proofs.loadability.lanes_of.Goals as goal

pub returns : goal.returns
returns c =
    let none : Lane = record { near = 0; far = 0; reach = 0; part = 0; left = 0; count = 0 } in
    let made = c.map.ensures.items in
    sym (tab_of 8 c.map.result none made.long) ∙ tab_same 8 _ (λ j. lane_of (at c.args.km.now j)) (λ i h. let turn = made.at i nan none h in search rules)
