-- With a sound rating the impedance is answered, so the other arm is never taken.
use Rattle.std.proofs.Common.{ap, ◌∙◌}
use Rattle.plan_defs.specs.Design.{with_bank, set_transformer_mva}
use Rattle.planning.proofs.Draws.{never_refused, answered_by}
use Rattle.planning.proofs.design.set_transformer_mva.Goals as goal

pub returns-in_default : goal.returns-in_default
returns-in_default c = absurd (never_refused c.args.mva _ c.requires c.transformer_impedance-answer.ensures _ c.in_default.is)

pub returns : goal.returns
unfolding set_transformer_mva
returns c = c.with_bank.ensures ∙ ap (with_bank c.args.d c.args.mva) (answered_by c.args.mva _ c.requires c.transformer_impedance-answer.ensures _ c.in-Ok.is)
