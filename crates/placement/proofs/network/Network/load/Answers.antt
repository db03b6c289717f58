use mathlib.Core.Path.{sym, ◌∙◌}
use lib.Ieee.{nan}
use Rattle.loops.proofs.Tab.{get_tab}
use Rattle.placement.proofs.network.Network.load.Goals as goal

pub returns : goal.returns
returns c = c.load_by.ensures ∙ sym (get_tab _ _ _ nan c.requires)
