use Rattle.leaders.proofs.Callers.{holds}
use Rattle.planning.proofs.opening.component_leaders.Goals as goal

pub returns : goal.returns
returns c =
    let J = c.requires in
    holds _ _ _ _ _
    (record { few_buses = J.few_buses; few_corridors = J.few_corridors; a_length = J.a_size; b_length = J.b_size; places = J.places; ends = J.ends })
    c.leaders.result _ c.leaders.ensures
