use Rattle.placement.proofs.Walk.{next_kept}
use Rattle.placement.specs.Views.{network_in}
use Rattle.placement.proofs.network.Network.first.Goals as goal

pub returns-clause-value : goal.returns-clause-value
returns-clause-value c = next_kept (network_in c.args.self.now) _ _ _ _ c.kept.ensures (c.args.self.now.listed.first _ c.requires)
