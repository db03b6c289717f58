-- What acceptance says of the loads and the units of a sound case.
use Rattle.std.proofs.Common.{◌≡◌, ℕ, ◌<◌, true, false, ◌&&◌, length, get_or, sym, refl, ◌∙◌, arith}
use lib.Ieee.{Float, le, of_bits}
use Rattle.loops.specs.Bounds.{most_buses}
use Rattle.loops.specs.Figures.{nought, million, inside}
use Rattle.loops.proofs.Bools.{both, and_of}
use Rattle.loops.proofs.Signs.{sound_up, sound_of}
use Rattle.dispatch_defs.specs.Units.{most_c1, unit_ok}
use Rattle.plan_defs.specs.Case.{Case}
use Rattle.plan_theorems.proofs.ToppedUp.{zero_least}
use Rattle.planning.specs.Sound.{Sound}
use Rattle.planning.specs.Supplied.{SupplyColumns, supply_of, Supplied}

-- ---- a unit's most is not below zero, since its least is not
from_nought : (x y : Float) → le nought x ≡ true → le x y ≡ true → le nought y ≡ true
unfolding of_bits
from_nought x y p q = zero_least false 0 _ y refl (sound_up x y (sound_of x p) q)

pub unit_inside : (pmin pmax c1 c2 : Float) → unit_ok pmin pmax c1 c2 ≡ true → inside nought million pmax ≡ true
unit_inside pmin pmax c1 c2 h =
    let ab = le nought pmin && le pmin pmax in
    let abc = ab && le pmax million in
    let p = (both abc _ (both (abc && le nought c1) _ (both ((abc && le nought c1) && le c1 most_c1) _ (both (((abc && le nought c1) && le c1 most_c1) && le nought c2) _ h).0).0).0).0 in
    let q = both ab (le pmax million) p in
    let r = both (le nought pmin) (le pmin pmax) q.0 in
    and_of (from_nought pmin pmax r.0 r.1) q.1

pub supplied : (c : Case) (target : ℕ) → Sound c target → Supplied (supply_of c.load c.bus c.slack c.pmin c.pmax c.c1 c.c2)
supplied c target s =
    record {
      few_buses = omega (arith, s.load_size, s.few_buses);
      few_units = omega (arith, s.bus_size, s.few_generators);
      slack_size = s.slack_size ∙ sym s.bus_size;
      pmin_size = s.pmin_size ∙ sym s.bus_size;
      pmax_size = s.pmax_size ∙ sym s.bus_size;
      c1_size = s.c1_size ∙ sym s.bus_size;
      c2_size = s.c2_size ∙ sym s.bus_size;
      loads = λ i h. s.load_inside i (omega (arith, h, s.load_size));
      bus_below = λ k h. omega (arith, s.load_size, s.bus_below k (omega (arith, h, s.bus_size)));
      units = λ k h. s.unit_ok_holds k (omega (arith, h, s.bus_size));
    }

pub bus_few : (supply : SupplyColumns) → Supplied supply → (k : ℕ) → k < length supply.bus → get_or supply.bus k 0 < most_buses
bus_few supply s k h = omega (arith, s.few_buses, s.bus_below k h)
