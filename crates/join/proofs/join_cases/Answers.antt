-- The check's refusals touch nothing; of what passes it the tables are the joined case's.
use mathlib.Core.Path.{refl}
use native.Mathlib.Omega.{arith}
use borrow.Author.Rules.{rules}
use Rattle.join.proofs.Refusals.{passed, summed, raised, same_levels, rowed}
use Rattle.join.proofs.Whole.{places_same, tables_by, refused_as, tables_joined, joined_whole}
use Rattle.join.proofs.join_cases.Goals as goal

pub returns-in_err-check_both : goal.returns-in_err-check_both
returns-in_err-check_both c =
    refused_as c.args.first _ c.args.second _ _ _ _ _ _ (search rules) c.in_err-check_both.was c.check_both.ensures c.tables_sized-sized.ensures

pub overflow_cast-n : goal.overflow_cast-n
overflow_cast-n c = let s = summed _ c.args.first _ c.args.second _ (passed _ _ _ _ _ _ _ c.in_ok-check_both.was c.check_both.ensures c.tables_sized-sized.ensures) in record { fits = omega (arith, s.buses) }

pub put_generators-requires : goal.put_generators-requires
put_generators-requires c = (raised _ c.args.first _ c.args.second _ (passed _ _ _ _ _ _ _ c.in_ok-check_both.was c.check_both.ensures c.tables_sized-sized.ensures) _ refl).bus

pub put_corridors-requires : goal.put_corridors-requires
put_corridors-requires c =
    let j = passed _ _ _ _ _ _ _ c.in_ok-check_both.was c.check_both.ensures c.tables_sized-sized.ensures in
    let r = raised _ c.args.first _ c.args.second _ j _ refl in
    record { raises = r.a; raises_2 = r.b; rowed = rowed _ c.args.first _ c.args.second _ j }

pub joined_header-requires : goal.joined_header-requires
joined_header-requires c = summed _ c.args.first _ c.args.second _ (passed _ _ _ _ _ _ _ c.in_ok-check_both.was c.check_both.ensures c.tables_sized-sized.ensures)

pub returns : goal.returns
unfolding tables_by
returns c =
    let j = passed _ _ _ _ _ _ _ c.in_ok-check_both.was c.check_both.ensures c.tables_sized-sized.ensures in
    let b = c.put_buses.ensures in
    let g = c.put_generators.ensures in
    let e = c.put_corridors.ensures in
    joined_whole c.args.first _ c.args.second _ _ _ _ j c.joined_header.ensures
    (tables_joined c.args.first _ c.args.second _ _ _ _ refl (same_levels _ c.args.first _ c.args.second _ j) j.sized
    (places_same b.ladder b.tier b.reading b.weight g.bus g.slack g.pmin g.pmax g.c1 g.c2 e.a e.b e.circuits e.length_km e.share e.cap e.sheet))
