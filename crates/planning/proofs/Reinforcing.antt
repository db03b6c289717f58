-- A component reinforced: the corridors that the code takes are the chosen ones, in any case with the columns that it reads.
use Rattle.std.proofs.Common.{◌≡◌, ℕ, ◌<◌, max, Bool, ◌&&◌, ◌||◌, ltb, List, [], map, length, get_or, take, sym, refl, ap, ◌∙◌, subst, arith, All, length-take}
use Rattle.std.proofs.lemmas.List.Elements.{All-take}
use lib.Ieee.{Float, nan, to_unsigned}
use Rattle.loops.specs.Figures.{at, float, times, nought}
use Rattle.loops.specs.Loops.{tab}
use Rattle.loops.proofs.Tab.{length_tab, get_tab}
use Rattle.root.specs.Ceiling.{ceil}
use Rattle.plan_defs.specs.Constants.{stiffening_batch_share}
use Rattle.plan_defs.specs.Lists.{counting, passing, each}
use Rattle.plan_defs.specs.Components.{within}
use Rattle.plan_defs.specs.Case.{Case, levels}
use Rattle.plan_defs.specs.Design.{design}
use Rattle.plan_defs.specs.Build.{drawn_all}
use Rattle.plan_defs.specs.Raise.{can_raise}
use Rattle.plan_defs.specs.Stage.{going}
use Rattle.plan_defs.specs.Stiffen.{Stiffening, Gain, stiffen_one, gain_of, gains, candidate, batch, batch_cap, chosen}
use Rattle.plan_defs.specs.declared.CircuitDesign.{CircuitDesign}
use Rattle.planning.specs.RaiseMarks.{pairs_for}
use Rattle.planning.specs.Fill.{designs_for}
use Rattle.planning.specs.Whole.{with_lines}
use Rattle.planning.specs.Stiffen.{budget_for, stiff_of, candidate_at, gain_if, gain_at, gain_order, gain_for, BatchStiffened, Chosen, StepTaken, reinforce_step}
use Rattle.planning.specs.declared.budgets.StiffeningTally.{StiffeningTally}
use Rattle.planning.proofs.Builds.{drawn_all_lifts}
use Rattle.planning.proofs.Stiffenings.{room_lifts}
use Rattle.planning.proofs.Gains.{gains_are, order_named}
use Rattle.std.specs.Prelude.{Ok}
use Rattle.planning.specs.Tables.{SolvedColumns}

module _ (root : ℕ) (excess : Float) (solved : SolvedColumns) (phi : List Float)
    (circuits : List ℕ) (banks : List Float) (t : StiffeningTally) (pc : length circuits ≡ length solved.grid.a) (gain : List Float) (order : List ℕ) (most taken : ℕ)
    (pg : gain ≡ tab (length solved.grid.a) (gain_at solved phi circuits banks t root))
    (po : order ≡ gain_order gain (length gain)) (pm : most ≡ batch_cap (pairs_for solved.grid.a []) solved.opened.leader root)
    (pt : take taken order ≡ batch most nought excess (map (gain_for gain) order)) where
  ordered : order ≡ gain_order gain (length solved.grid.a)
  ordered = po ∙ ap (gain_order gain) (ap length pg ∙ length_tab (length solved.grid.a) (gain_at solved phi circuits banks t root))

  module _ (o : Case) (floors : List Float) (upsized marks : List ℕ) (p : length solved.grid.a ≡ o.corridors) (q : length solved.grid.ladder ≡ levels o) (caps : o.cap ≡ solved.grid.cap) where
    abbrev C : Case
    C = with_lines o solved.grid

    abbrev S : Stiffening
    S = stiff_of C solved.level circuits banks floors upsized marks t

    abbrev test : ℕ → Bool
    test = candidate C solved.opened.leader solved.level (budget_for solved.g) root S

    candidate_lifts : (k : ℕ) → k < length solved.grid.a → candidate_at solved.g solved.opened.leader solved.level solved.grid.a solved.grid.b solved.grid.cap circuits t root k ≡ test k
    candidate_lifts k h =
        ap (λ (l : List ℕ). candidate_at solved.g solved.opened.leader solved.level solved.grid.a solved.grid.b l circuits t root k) (sym caps)
        ∙ ap (λ (x : Bool). within solved.opened.leader root (get_or solved.grid.a k 0) && (x || (can_raise (pairs_for solved.grid.a solved.grid.b) solved.level solved.g.top k && ltb t.hv solved.g.hv))) (room_lifts C solved.g k S (omega arith))

    gain_is : (k : ℕ) → k < length solved.grid.a → at gain k ≡ gain_if (test k) (gain_of solved.angle phi (design (drawn_all C solved.level banks) k))
    gain_is k h =
        ap (λ (l : List Float). at l k) pg ∙ get_tab (length solved.grid.a) (gain_at solved phi circuits banks t root) k nan h
        ∙ ap (λ (x : Bool). gain_if x (gain_of solved.angle phi (design (designs_for solved.grid solved.level banks) k))) (candidate_lifts k h)
        ∙ ap (λ (ds : List CircuitDesign). gain_if (test k) (gain_of solved.angle phi (design ds k))) (drawn_all_lifts C solved.level solved.grid.sheet refl banks p q)

    cap_lifts : batch_cap (pairs_for solved.grid.a []) solved.opened.leader root ≡ batch_cap C solved.opened.leader root
    cap_lifts = ap (λ (n : ℕ). max (to_unsigned 64 (ceil (times stiffening_batch_share (float (counting (λ k. within solved.opened.leader root (get_or solved.grid.a k 0)) n))))) 1) p

    chosen_is : take taken order ≡ chosen C solved.opened.leader solved.level (budget_for solved.g) root S solved.angle excess phi
    unfolding chosen
    chosen_is =
        pt
        ∙ ap (λ (l : List ℕ). batch most nought excess (map (gain_for gain) l)) ordered
        ∙ ap (λ (l : List Gain). batch most nought excess l) (sym (gains_are gain (drawn_all C solved.level banks) solved.angle phi test (length solved.grid.a) gain_is))
        ∙ ap (λ (n : ℕ). batch most nought excess (gains (drawn_all C solved.level banks) solved.angle phi (passing test n) [])) p
        ∙ ap (λ (n : ℕ). batch n nought excess (gains (drawn_all C solved.level banks) solved.angle phi (passing test o.corridors) [])) (pm ∙ cap_lifts)

  pub batch_chosen : Chosen root excess solved phi circuits banks t (take taken order)
  batch_chosen =
      let n = order_named gain (length solved.grid.a) in
      let below : All (λ (k : ℕ). k < length solved.grid.a) order = subst (All (λ (k : ℕ). k < length solved.grid.a)) (sym ordered) n.1 in
      record {
        few = omega (arith, n.0, ap length ordered, length-take taken order);
        below = All-take (λ (k : ℕ). k < length solved.grid.a) taken order below;
        chosen = λ o floors upsized marks f. chosen_is o floors upsized marks f.0 f.1 f.2;
      }

pub reinforced : (root : ℕ) (excess : Float) (solved : SolvedColumns) (phi : List Float)
    (circuits : List ℕ) (banks floors : List Float) (upsized marks : List ℕ) (t : StiffeningTally) (order : List ℕ)
    (circuits' : List ℕ) (banks' floors' : List Float) (upsized' marks' : List ℕ) (t' : StiffeningTally)
    → Chosen root excess solved phi circuits banks t order
    → BatchStiffened order solved.g solved.grid solved.level circuits banks floors upsized marks t circuits' banks' floors' upsized' marks' t'
    → StepTaken (reinforce_step root excess solved phi) solved.grid solved.level circuits banks floors upsized marks t circuits' banks' floors' upsized' marks' (Ok t')
reinforced root excess solved phi circuits banks floors upsized marks t order circuits' banks' floors' upsized' marks' t' k r =
    let d = r.bound in
    record {
      stiffened = λ o injection flows f e.
          let c = with_lines o solved.grid in
          let s = stiff_of c solved.level circuits banks floors upsized marks t in
          ap going (r.stiffened o f ∙ ap (λ (ks : List ℕ). each (stiffen_one c solved.level (budget_for solved.g)) ks s) (k.chosen o floors upsized marks f));
      banked = r.banked;
      few = r.few;
      bound = (omega (arith, k.few, d.0), omega (arith, k.few, d.1), omega (arith, k.few, d.2));
    }
