use Rattle.line_defs.specs.Bounds.{Knots}
use Rattle.line_defs.specs.declared.Segment.{Segment}
use Rattle.std.proofs.Common.{◌≡◌, ℕ, ◌+◌, ◌-◌, ◌*◌, ◌/◌, ◌^◌, ◌<◌, ◌≤◌, sym, ap, le_of_eq, lt_of_le_of_lt, arith}
use Rattle.line_defs.specs.Loadability.{middle}
use Rattle.line_defs.proofs.Between.{covers, mid_most}
use Rattle.line_sheet.proofs.loadability.middle.Goals as goal

-- the count is that of the digits, and 1
one_more_holds : (n : ℕ) → 0 < n → n - 1 + 1 ≡ n
one_more_holds n h = omega arith

-- the loadability falls by at most 1 over a segment, so nothing wraps
fits : (g : Segment) (count : ℕ) → Knots g → 0 < count → count ≤ 2 ^ 24 → (g.high - g.low) * count ≤ g.high * 2 ^ 24
fits g count k p m = rw (sym (one_more_holds count p)) (covers g.high g.low (count - 1) k.falls k.little k.low_least (omega arith))

pub returns : goal.returns
unfolding middle
returns c =
    let k = c.requires.0 in
    let g = c.args.g in
    let n = c.args.count in
    let e : (g.high * 2 ^ 24 - (g.high - g.low) * n) * 2 ^ 8 / 100 ≡ (g.high * 2 ^ 24 - (g.high - g.low) * (n - 1 + 1)) * 2 ^ 8 / 100 =
    ap (λ (z : ℕ). (g.high * 2 ^ 24 - (g.high - g.low) * z) * 2 ^ 8 / 100) (sym (one_more_holds n c.requires.1)) in
    (e, lt_of_le_of_lt (le_of_eq e) (mid_most g.high g.low (n - 1) k.falls k.little k.low_least (omega (arith, c.requires)) k.high_most))
