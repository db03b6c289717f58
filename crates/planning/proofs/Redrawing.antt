-- A raise of the marked buses with its redesign: none moved and nothing changed, or every corridor has its bank anew.
use Rattle.std.proofs.Common.{◌≡◌, ℕ, ◌<◌, ◌≤◌, List, length, sym, refl, ap, ◌∙◌, subst, arith}
use lib.Ieee.{Float}
use Rattle.plan_defs.specs.Raise.{raised_levels, moved_buses}
use Rattle.plan_defs.specs.Build.{banks_anew}
use Rattle.planning.specs.Design.{Lines, Banks}
use Rattle.planning.specs.Redesign.{redesign_for}
use Rattle.planning.specs.Rounds.{Redrawn}
use Rattle.planning.proofs.Marks.{moved_most, none_raised, lines_raised}
use Rattle.planning.specs.Tables.{GridColumns, SupplyColumns}

module _ (grid : GridColumns) (level : List ℕ) (supply : SupplyColumns) (marks : List ℕ) (floors banks : List Float)
    (level' : List ℕ) (moved : ℕ) (lines : Lines grid level) (raised : level' ≡ raised_levels level marks) (count : moved ≡ moved_buses level marks) where
  lines_after : Lines grid level'
  lines_after = subst (λ (l : List ℕ). Lines grid l) (sym raised) (lines_raised grid level marks lines)

  few : moved ≤ length level
  few = omega (arith, count, moved_most marks level)

  pub redrawn_still : Banks banks → moved ≤ 0 → Redrawn grid level supply marks floors banks level' banks moved
  redrawn_still banked h =
      let z : moved_buses level marks ≡ 0 = omega (arith, count) in
      record {
        count = count;
        few = few;
        still = λ e. (raised ∙ none_raised level marks z, refl);
        anew = λ m e. absurd (omega arith);
        lines = lines_after;
        banked = banked;
      }

  pub redrawn_anew : (banks' : List Float) → Banks banks' → banks' ≡ banks_anew (redesign_for grid supply) level' floors → 0 < moved
      → Redrawn grid level supply marks floors banks level' banks' moved
  redrawn_anew banks' banked e h =
      record {
        count = count;
        few = few;
        still = λ z. absurd (omega arith);
        anew = λ m z. (raised, e ∙ ap (λ (l : List ℕ). banks_anew (redesign_for grid supply) l floors) raised);
        lines = lines_after;
        banked = banked;
      }
