-- The laws of `root` carry the promise on bits over to values.
use Rattle.std.proofs.Common.{sym, subst}
use lib.Dec.{T}
use lib.Ieee.{binary64, fits}
use Rattle.root.proofs.Bits.{from_bits_asks, from_bits_gives, nan_bits_give}
use Rattle.root.proofs.sqrt.Goals as goal

pub float_from_bits-result : goal.float_from_bits-result
float_from_bits-result c =
    let held : T (fits binary64 c.args.x) = subst T (sym c.well_formed.0.1) tt in
    from_bits_asks c.args.x _ held c.if-x.true c.square_root.ensures

pub returns-then-x : goal.returns-then-x
returns-then-x c =
    let held : T (fits binary64 c.args.x) = subst T (sym c.well_formed.0.1) tt in
    from_bits_gives c.args.x _ held c.square_root.ensures

pub returns-else-x : goal.returns-else-x
returns-else-x c = nan_bits_give c.args.x c.if-x.false
