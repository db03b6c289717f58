-- No answer names the test of the exponent: `grind` splits by it, so an edit of that test is refused at what it changes.
use Rattle.std.proofs.Common.{arith, refl}
use Rattle.root.proofs.Halving.{room_above, begun, halved_fits, halved_root}
use Rattle.root.proofs.root_of_number.Goals as goal

pub overflow_sub-doublings-2 : goal.overflow_sub-doublings-2
overflow_sub-doublings-2 c = room_above c.args.s c.args.e c.requires.0 c.requires.1 c.requires.2

pub overflow_mul-t : goal.overflow_mul-t
overflow_mul-t c = let b = begun c.args.s c.args.e c.requires.0 c.requires.1 c.requires.2 _ refl in record { fits = omega (arith, b.1.1) }

pub closest_root-requires : goal.closest_root-requires
closest_root-requires c = let b = begun c.args.s c.args.e c.requires.0 c.requires.1 c.requires.2 _ refl in grind (arith, b.1.1)

pub overflow_add-result : goal.overflow_add-result
overflow_add-result c =
    let b = begun c.args.s c.args.e c.requires.0 c.requires.1 c.requires.2 _ refl in
    record { fits = halved_fits c.args.s c.args.e _ _ _ c.closest_root.result c.closest_root.ensures c.requires.3 b.1 b.0 (grind arith) (grind arith) }

pub returns : goal.returns
returns c =
    let b = begun c.args.s c.args.e c.requires.0 c.requires.1 c.requires.2 _ refl in
    halved_root c.args.s c.args.e _ _ _ c.closest_root.result c.closest_root.ensures c.requires.3 b.1 b.0 (grind arith) (grind arith)
