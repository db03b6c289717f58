-- The digits of a length between two knots, one turn at a time (`digits` of line_defs), with the two numbers that spare the code a division.
use Rattle.std.specs.Prelude.{◌≡◌, ℕ, ◌+◌, ◌-◌, ◌*◌, ◌/◌, ◌^◌, ◌<◌, ◌≤◌, Bool, cond, not, ◌&&◌, leb, nat_le, Float}
use Rattle.std.specs.Float.Ieee.{le}
use Rattle.std.specs.Float.Ieee.Positive.{num, den}
use Rattle.line_defs.specs.Loadability.{km80, km965, unit, by_segment, segment_of, digits}
use Rattle.line_defs.specs.Bounds.{Start}
use Rattle.line_sheet.specs.declared.loadability.Lane.{Lane}

-- km is past 80 and at most 965
abbrev pub in_knots : Float → Bool
in_knots km = not (le km km80) && le km km965

-- a length in units of the knot before it
unfoldable pub start_of : Float → ℕ
start_of km = cond (in_knots km) (num km * unit / (den km * (segment_of km).near)) unit

unfoldable pub lane_of : Float → Lane
lane_of km = record {
  near = (segment_of km).near;
  far = (segment_of km).far;
  reach = by_segment km 0x8000_0000 0x8000_0000 0x6000_0000 0x5555_5556 0x6080_0000;
  part = by_segment km 0x8000_0000_0000_0000 0x8000_0000_0000_0000 0xaaaa_aaaa_aaaa_aaab 0xc000_0000_0000_0000 0xa9c8_4a47_a07f_5638;
  left = start_of km;
  count = 1;
}

-- a comparison with reach and a product with part do what far / near is for
pub record Fit (l : Lane) : Type 0 where
  pub tested : (w : ℕ) → nat_le l.reach w ≡ nat_le (l.far * unit) (w * l.near)
  pub divided : (w : ℕ) → w ≤ 2 ^ 32 → w * l.part / 2 ^ 64 ≡ w * l.near / l.far

abbrev pub Turning : Lane → Type 0
Turning l = Fit l × Start l.near l.far l.left × (0 < l.count) × (l.count ≤ 2 ^ 24)

-- one digit more: the count is that of the digits so far, and 1
unfoldable pub turned : Lane → Lane
turned l =
    let w = l.left * l.left / unit in
    let one = leb (l.far * unit) (w * l.near) in
    record { near = l.near; far = l.far; reach = l.reach; part = l.part; left = cond one (w * l.near / l.far) w; count = cond one (2 * l.count) (2 * l.count - 1) }

abbrev pub count_of : Float → ℕ
count_of km = digits (segment_of km).near (segment_of km).far 24 0 (start_of km) + 1
