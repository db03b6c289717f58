-- The designs that banks stand for: what is kept of an enlarged one, and what the designs read of a whole case.
-- A design with a bank, given another, is its line with that one; a list is known by its places.
use Rattle.std.proofs.Common.{◌≡◌, ℕ, Bool, true, false, List, length, set, refl, ap, ◌∙◌}
use lib.Ieee.{Float}
use Rattle.loops.specs.Figures.{at}
use Rattle.loops.specs.Loops.{tab}
use Rattle.loops.proofs.Tab.{tab_same}
use Rattle.plan_defs.specs.Case.{Case, levels}
use Rattle.plan_defs.specs.Design.{with_bank, set_transformer_mva, banked_by, drawn}
use Rattle.plan_defs.specs.Build.{drawn_all}
use Rattle.plan_defs.specs.declared.CircuitDesign.{CircuitDesign}
use Rattle.planning.specs.Design.{lines_for}
use Rattle.planning.specs.Size.{set_if}
use Rattle.planning.proofs.Draws.{Laid, drawn_lifts}
use Rattle.planning.specs.Tables.{grid_of}

-- ---- what is kept of the enlarged design is the larger bank
pub kept_next : (larger : Bool) (first d : CircuitDesign) (next : Float) (banks : List Float) (k : ℕ) → d ≡ banked_by larger first next
    → set_if larger banks k d.transformer_mva ≡ set_if larger banks k next
unfolding set_transformer_mva with_bank
kept_next true first d next banks k e = ap (λ (x : CircuitDesign). set banks k x.transformer_mva) e
kept_next false first d next banks k e = refl

-- ---- what the designs read of the case
module _ (c : Case) (level : List ℕ) where
  pub drawn_all_lifts : (sheet : List Float) → Laid c sheet → (banks : List Float) → length c.a ≡ c.corridors → length c.ladder ≡ levels c
      → drawn_all (lines_for (grid_of c.ladder c.a c.b c.km c.share c.cap sheet)) level banks ≡ drawn_all c level banks
  unfolding drawn_all
  drawn_all_lifts sheet laid banks m e =
      tab_same (length c.a) _ (λ k. drawn c level k (at banks k)) (λ k h. drawn_lifts c sheet laid m e level k (at banks k))
      ∙ ap (λ (n : ℕ). tab n (λ k. drawn c level k (at banks k))) m
