use Rattle.placement.proofs.Turns.{distances_from_lem}
use Rattle.placement.proofs.distance.distance_to_sources.Goals as goal

pub returns : goal.returns
returns c = distances_from_lem _ _ _ _ _ c.place_sources.ensures c.search.ensures
