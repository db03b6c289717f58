-- What acceptance gives: of a case that refusals 1 to 7 pass, every length, every bound and every row, as the stages of planning ask for them.
-- proofs/Sounds.antt shows it.
use Rattle.std.specs.Prelude.{◌≡◌, ℕ, ◌+◌, ◌*◌, ◌<◌, ◌≤◌, true, ◌&&◌, length, ◌≢◌, slice_index}
use Rattle.std.specs.Float.Ieee.{lt, le}
use Rattle.loops.specs.Figures.{at, plus, nought, one, half, ten_thousand, million, inside}
use Rattle.impedance.specs.Impedance.{rating_ok}
use Rattle.leaders.specs.Operation.{corridor_ok}
use Rattle.dispatch_defs.specs.Units.{unit_ok}
use Rattle.sheets.specs.Sheet.{row_figures, row_place}
use Rattle.plan_defs.specs.Constants.{kv_tolerance, most_buses, most_corridors, most_generators, most_levels, most_target, most_initial, most_cap}
use Rattle.plan_defs.specs.Case.{Case, levels, kv_of, load_of, end_a, end_b, own_cap, row_at}
use Rattle.plan_defs.specs.Accept.{row_sound}

pub record Sound (c : Case) (target : ℕ) : Type 0 where
  -- lengths
  pub ladder_size : length c.ladder ≡ levels c
  pub tier_size : length c.tier ≡ c.buses
  pub load_size : length c.load ≡ c.buses
  pub bus_size : length c.bus ≡ c.generators
  pub slack_size : length c.slack ≡ c.generators
  pub pmin_size : length c.pmin ≡ c.generators
  pub pmax_size : length c.pmax ≡ c.generators
  pub c1_size : length c.c1 ≡ c.generators
  pub c2_size : length c.c2 ≡ c.generators
  pub a_size : length c.a ≡ c.corridors
  pub b_size : length c.b ≡ c.corridors
  pub circuits_size : length c.circuits ≡ c.corridors
  pub km_size : length c.km ≡ c.corridors
  pub share_size : length c.share ≡ c.corridors
  pub cap_size : length c.cap ≡ c.corridors
  pub sheet_size : c.figures ≡ row_figures * (c.corridors * levels c)
  -- counts
  pub few_buses : c.buses ≤ most_buses
  pub few_corridors : c.corridors ≤ most_corridors
  pub few_generators : c.generators ≤ most_generators
  pub some_level : 1 ≤ c.requested
  pub few_levels : levels c ≤ most_levels
  pub low_target : target ≤ most_target
  -- the ladder: each level's kV, and that it is above the next
  pub kv_inside : (i : ℕ) → i < levels c → (lt nought (kv_of c i) && le (kv_of c i) ten_thousand) ≡ true
  pub kv_falls : (i : ℕ) → i + 1 < levels c → lt (plus (kv_of c (i + 1)) kv_tolerance) (kv_of c i) ≡ true
  -- buses
  pub tier_below : (i : ℕ) → i < c.buses → slice_index c.tier i < c.requested
  pub load_inside : (i : ℕ) → i < c.buses → inside nought million (load_of c i) ≡ true
  -- generators
  pub bus_below : (k : ℕ) → k < c.generators → slice_index c.bus k < c.buses
  pub slack_bit : (k : ℕ) → k < c.generators → slice_index c.slack k ≤ 1
  pub unit_ok_holds : (k : ℕ) → k < c.generators → unit_ok (at c.pmin k) (at c.pmax k) (at c.c1 k) (at c.c2 k) ≡ true
  -- corridors
  pub ends_ok : (k : ℕ) → k < c.corridors → corridor_ok c.buses (end_a c k) (end_b c k) ≡ true
  pub end_a_holds : (k : ℕ) → k < c.corridors → end_a c k < c.buses
  pub end_b_holds : (k : ℕ) → k < c.corridors → end_b c k < c.buses
  pub ends_apart : (k : ℕ) → k < c.corridors → end_a c k ≢ end_b c k
  pub initial_few : (k : ℕ) → k < c.corridors → slice_index c.circuits k ≤ most_initial
  pub km_inside : (k : ℕ) → k < c.corridors → inside nought ten_thousand (at c.km k) ≡ true
  pub share_inside : (k : ℕ) → k < c.corridors → inside half one (at c.share k) ≡ true
  pub cap_few : (k : ℕ) → own_cap c k ≤ most_cap
  -- rows of the line sheet; a line's rating is one that a bank may have
  pub row_inside : (k l : ℕ) → k < c.corridors → l < levels c → row_place c.corridors k l + row_figures ≤ c.figures
  pub row_sound_holds : (k l : ℕ) → k < c.corridors → l < levels c → row_sound (row_at c k l) ≡ true
  pub row_rating : (k l : ℕ) → k < c.corridors → l < levels c → rating_ok (row_at c k l).rate ≡ true
