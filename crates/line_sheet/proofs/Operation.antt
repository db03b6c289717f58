-- The operation with its check decided, and what is true of an answer. Assumes nothing.
use Rattle.std.proofs.Common.{◌≡◌, ℕ, T, List, length}
use lib.Ieee.{Float, binary64, fits}
use Rattle.loops.specs.Figures.{at}
use Rattle.refusal.specs.declared.Refusal.{Refusal}
use Rattle.line_defs.specs.Request.{check_of, Sound}
use Rattle.line_defs.specs.Sheet.{sheet_of, outcome, worked_by, line_sheet, SheetWithin}
use Rattle.line_sheet.proofs.Checks.{spread_of_lem}
use Rattle.line_defs.proofs.Spreads.{kept_within}
use Rattle.line_defs.proofs.Curve.{loadable}
use Rattle.std.specs.Prelude.{Err}
use Rattle.refusal.specs.Reply.{no_refusal}

module _ (levels corridors : ℕ) (ladder km spread sheet : List Float) where
  pub is_refused_lem : (f : Refusal) → check_of levels corridors ladder km spread (length sheet) ≡ Err f → outcome (Err f) sheet ≡ line_sheet levels corridors ladder km spread sheet
  unfolding line_sheet worked_by
  is_refused_lem f e = rw e

  pub is_worked : (s : List Float) → check_of levels corridors ladder km spread (length sheet) ≡ no_refusal → s ≡ sheet_of levels corridors ladder km spread → outcome no_refusal s ≡ line_sheet levels corridors ladder km spread sheet
  unfolding line_sheet worked_by
  is_worked s e h = rw (e, h)

pub within : (levels corridors : ℕ) (ladder km spread : List Float) → ((k : ℕ) → T (fits binary64 (at spread k))) → Sound levels corridors ladder km spread → SheetWithin corridors km spread
within levels corridors ladder km spread held s = record {
  powers = λ k h. kept_within (at spread k) (held k) (spread_of_lem (at spread k) (s.spreads k h));
  loads = λ k h. loadable (at km k);
}
