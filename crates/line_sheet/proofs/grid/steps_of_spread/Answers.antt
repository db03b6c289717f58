use Rattle.std.proofs.Common.{T, sym, ◌∙◌, subst, lit≤}
use Rattle.line_defs.proofs.Grids.{steps_ask, steps_give, two_54}
use Rattle.line_sheet.proofs.grid.steps_of_spread.Goals as goal

pub truncating_f64_to_u64-requires : goal.truncating_f64_to_u64-requires
truncating_f64_to_u64-requires c = let h = steps_ask 3 54 c.args.x _ (lit≤ tt) (subst T (sym c.well_formed.0.1) tt) c.requires two_54 in record { lower_bound = h.0; upper_bound = h.1 }

pub returns : goal.returns
returns c = c.truncating_f64_to_u64.ensures ∙ steps_give 3 54 c.args.x _ (lit≤ tt) (subst T (sym c.well_formed.0.1) tt) c.requires two_54
