use Rattle.std.proofs.Common.{sym, subst, le_antisymm, arith, rules}
use Rattle.loops.proofs.Tab.{fill_start, fill_turn, fill_end}
use Rattle.planning.specs.Design.{Banks}
use Rattle.plan_defs.specs.Build.{bank_anew, banks_anew}
use Rattle.planning.specs.Redesign.{redesign_for}
use Rattle.planning.proofs.BusFigures.{gen_is}
use Rattle.planning.proofs.Supplies.{bus_few}
use Rattle.planning.proofs.Anew.{fresh_ok, bank_defined, banks_anew_sound}
use Rattle.planning.proofs.redesign.redesign.Goals as goal
use Rattle.planning.specs.Tables.{grid_in, supply_in}

pub loop-k-init : goal.loop-k-init
loop-k-init c = let z = c.args in (search rules, fill_start z.banks.now (bank_anew (redesign_for (grid_in z.grid.now) (supply_in z.supply.now)) z.level.now z.floors.now))

pub circuit_anew-d-requires : goal.circuit_anew-d-requires
circuit_anew-d-requires c =
    let s = c in
    let z = s.args in
    let h = c.loop-k-test.true in
    record {
      lines = s.requires.lines;
      load_size = s.requires.load_size;
      corridor = h;
      floor_size = omega (arith, h, s.requires.floor_size);
      fresh = fresh_ok (grid_in z.grid.now) z.level.now (supply_in z.supply.now) z.floors.now _ _ c.loop-k.k s.requires.lines z.supply.now.supplied s.requires.load_size s.requires.few h (gen_is (supply_in z.supply.now) _ (bus_few (supply_in z.supply.now) z.supply.now.supplied) c.inject.ensures) c.transformer_corridors.ensures;
    }

pub loop-k-preserved : goal.loop-k-preserved
loop-k-preserved c =
    let s = c in
    let z = s.args in
    let h = c.loop-k-test.true in (
      omega arith,
      fill_turn z.banks.now _ _ _ _ c.loop-k.invariant.1 (omega (arith, h, s.requires.bank_size))
          (bank_defined (grid_in z.grid.now) z.level.now (supply_in z.supply.now) z.floors.now _ _ c.loop-k.k s.requires.lines z.supply.now.supplied s.requires.load_size s.requires.few h (gen_is (supply_in z.supply.now) _ (bus_few (supply_in z.supply.now) z.supply.now.supplied) c.inject.ensures) c.transformer_corridors.ensures _ _ c.bank_of.ensures c.circuit_anew-d.ensures),
    )

pub returns : goal.returns
unfolding banks_anew
returns c =
    let s = c in
    let z = s.args in
    let e = fill_end z.banks.now _ _ _ _ s.requires.bank_size (le_antisymm c.loop-k.invariant.0 c.loop-k-test.false) c.loop-k.invariant.1 in
    record { anew = e; sound = subst Banks (sym e) (banks_anew_sound (grid_in z.grid.now) z.level.now (supply_in z.supply.now) z.floors.now s.requires.lines z.supply.now.supplied s.requires.load_size s.requires.few) }
