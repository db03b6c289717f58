-- A spread that passes, and what a request that passes the check has. Assumes nothing.
use Rattle.std.proofs.Common.{◌≡◌, ℕ, ◌*◌, ◌≤◌, true, ◌&&◌, T, eqb, List, length, refl, arith, eqb-true}
use lib.Ieee.{Float, le, of_bits}
use lib.Ieee.Positive.{num, den, positive, le→cross, between}
use Rattle.loops.specs.Figures.{inside}
use Rattle.loops.proofs.Bools.{both, is}
use Rattle.loops.proofs.Verdicts.{passes_all}
use Rattle.line_defs.specs.Bounds.{Spread}
use Rattle.line_defs.specs.Rows.{sheet_figures}
use Rattle.line_defs.specs.Request.{quarter, four, tests_of, check_of, Sound}
use Rattle.refusal.specs.Reply.{no_refusal}

-- ---- a spread that passes lies from 0.25 to 4
from_quarter : (T (positive quarter)) × (T (positive four)) × (num quarter ≡ 1) × (den quarter ≡ 4) × (num four ≡ 4) × (den four ≡ 1)
unfolding of_bits
from_quarter = (tt, tt, refl, refl, refl, refl)

pub spread_of_lem : (s : Float) → inside quarter four s ≡ true → Spread s
spread_of_lem s e =
    let b = both (le quarter s) (le s four) e in
    let q = from_quarter in
    let p : T (positive s) = between quarter s four q.0 q.1 (is b.0) (is b.1) in
    let l : num quarter * den s ≤ num s * den quarter = le→cross quarter s q.0 p (is b.0) in
    let u : num s * den four ≤ num four * den s = le→cross s four p q.1 (is b.1) in
    record {
      above_zero = p;
      least = least (num s) (den s) (rw (q.2, q.3) at l);
      most = most (num s) (den s) (rw (q.4, q.5) at u);
    }
  where
    least : (n d : ℕ) → 1 * d ≤ n * 4 → d ≤ 4 * n
    least n d h = omega arith

    most : (n d : ℕ) → n * 1 ≤ 4 * d → n ≤ 4 * d
    most n d h = omega arith

-- ---- the check, passed
pub record Passed (levels corridors : ℕ) (ladder km spread : List Float) (sheet : ℕ) : Type 0 where
  pub sound : Sound levels corridors ladder km spread
  pub sheet_length : sheet ≡ sheet_figures levels corridors

pub passed : (levels corridors : ℕ) (ladder km spread : List Float) (sheet : ℕ) → check_of levels corridors ladder km spread sheet ≡ no_refusal → Passed levels corridors ladder km spread sheet
unfolding tests_of
passed levels corridors ladder km spread sheet e =
    let a = passes_all (tests_of levels corridors ladder km spread sheet) e in
    let x = both (eqb (length ladder) levels && eqb (length km) corridors && eqb (length spread) corridors) (eqb sheet (sheet_figures levels corridors)) a.0 in
    let y = both (eqb (length ladder) levels && eqb (length km) corridors) (eqb (length spread) corridors) x.0 in
    let z = both (eqb (length ladder) levels) (eqb (length km) corridors) y.0 in
    let s : length spread ≡ corridors = eqb-true (length spread) corridors y.1 in
    record {
      sound = record {
        counts = a.1.0;
        ladder_length = eqb-true (length ladder) levels z.0;
        km_length = eqb-true (length km) corridors z.1;
        spread_length = s;
        spreads = λ k h. a.1.1.1.1.0 k (omega arith);
      };
      sheet_length = eqb-true sheet (sheet_figures levels corridors) x.1;
    }
