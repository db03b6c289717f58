use Rattle.planning.proofs.Stiffenings.{one_full, one_rest}
use Rattle.planning.proofs.stiffen_corridor.stiffen_one.Goals as goal

pub returns-then-bank_below : goal.returns-then-bank_below
returns-then-bank_below c =
    let z = c.args in
    let v = z.solved.now in
    let f = c.requires.stiffen_fits in
    let k = c.keep_bank.ensures in
    one_full v.g v.grid v.level z.k z.circuits.now z.banks.now z.floors.now z.upsized.now z.marks.now z.t
    c.requires.k_in_bounds.0 f.count_size f.bank_size _ c.circuit-d.ensures.design _ c.bank_below.ensures c.if-bank_below.true c.circuit-d.ensures.rated f.banked
    _ _ _ _ _ c.set_transformer_mva-full.ensures k.banks k.floors k.upsized c.tallied_more.ensures

pub returns : goal.returns
returns c =
    let z = c.args in
    let v = z.solved.now in
    let f = c.requires.stiffen_fits in
    one_rest v.g v.grid v.level z.k z.circuits.now z.banks.now z.floors.now z.upsized.now z.marks.now z.t
    c.requires.k_in_bounds.0 f.count_size f.bank_size _ c.circuit-d.ensures.design _ c.bank_below.ensures c.if-bank_below.false f.banked _ _ _ c.raise_or_add.ensures
