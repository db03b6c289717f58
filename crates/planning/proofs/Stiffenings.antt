-- One corridor stiffened: a full bank, else a raise, else a circuit, else nothing, each as the definition has it.
-- Each law is the definition with its tests decided.
use Rattle.std.proofs.Common.{◌≡◌, ℕ, ◌+◌, ◌<◌, ◌≤◌, Bool, true, false, ◌&&◌, ltb, List, [], ◌∷◌, ◌++◌, length, get_or, take, set, sym, refl, ap, ◌∙◌, subst, add-one, arith, length-append, take-suc, ltb-true}
use Rattle.std.proofs.lemmas.List.{get_or_default}
use lib.Ieee.{Float}
use Rattle.loops.specs.Figures.{at}
use Rattle.loops.proofs.Bools.{both}
use Rattle.impedance.specs.Impedance.{rating_ok}
use Rattle.plan_defs.specs.Lists.{each}
use Rattle.plan_defs.specs.Constants.{max_circuits_per_corridor, most_cap}
use Rattle.plan_defs.specs.Case.{Case, levels, own_cap, full_by, full_at}
use Rattle.plan_defs.specs.Design.{set_transformer_mva, drawn, design}
use Rattle.plan_defs.specs.Build.{Build, built, build_of, set_bank, set_count, bank_below, drawn_all}
use Rattle.plan_defs.specs.Raise.{mark_ends, mark_if}
use Rattle.plan_defs.specs.Stiffen.{Stiffening, stiff, arrival, stiffen_by, has_room, stiffen_one}
use Rattle.plan_defs.specs.declared.CircuitDesign.{CircuitDesign}
use Rattle.plan_defs.proofs.Drawn.{drawn_at, set_bank_lem}
use Rattle.plan_defs.proofs.Lists.{each_append}
use Rattle.plan_defs.proofs.Accepted.{own_few}
use Rattle.planning.specs.RaiseMarks.{pairs_for}
use Rattle.planning.specs.Stiffen.{budget_for, stiff_of, stiff_over, raisable, room_for, tallied_more, CorridorStiffened, BatchStiffened}
use Rattle.planning.specs.declared.budgets.Limits.{Limits}
use Rattle.planning.specs.declared.budgets.StiffeningTally.{StiffeningTally}
use Rattle.planning.specs.Design.{lines_for, Banks}
use Rattle.planning.specs.Whole.{with_lines}
use Rattle.planning.proofs.Sizes.{few_set}
use Rattle.planning.proofs.Draws.{drawn_lifts}
use Rattle.planning.proofs.Builds.{kept_next}
use Rattle.planning.proofs.Corridors.{banks_set}
use Rattle.planning.specs.Tables.{GridColumns}

-- ---- a raise, or else a circuit
stiff_same : (build : Build) (marks : List ℕ) (total total' hv hv' stiffening stiffening' : ℕ) (wide stiffened : Bool) → total ≡ total' → hv ≡ hv' → stiffening ≡ stiffening'
    → stiff build marks total hv stiffening wide stiffened ≡ stiff build marks total' hv' stiffening' wide stiffened
stiff_same build marks total total' hv hv' stiffening stiffening' wide stiffened p q r =
    ap (λ (n : ℕ). stiff build marks n hv stiffening wide stiffened) p
    ∙ ap (λ (n : ℕ). stiff build marks total' n stiffening wide stiffened) q
    ∙ ap (λ (n : ℕ). stiff build marks total' hv' n wide stiffened) r

-- a corridor with room has fewer than the largest cap
pub room_below : (g : Limits) (own count total : ℕ) (r : Bool) → own ≤ most_cap → r ≡ room_for g own count total → r ≡ true → count < most_cap
room_below g own count total r h p e =
    let full = full_by own in
    let w : count < full = ltb-true count full (both (ltb count full) (ltb total g.branches) (sym p ∙ e)).0 in
    omega (arith, own_few own max_circuits_per_corridor h (omega arith))

module _ (g : Limits) (own : ℕ) (level a b : List ℕ) (k : ℕ) (circuits marks : List ℕ) (t : StiffeningTally) (raised : Bool) (marks' : List ℕ)
    (pr : raised ≡ raisable g t.hv level a b k) (pm : marks' ≡ mark_if (raisable g t.hv level a b k) (pairs_for a b) level k marks) where
  abbrev P : Case
  P = pairs_for a b

  marks_are : (x : Bool) → raised ≡ x → marks' ≡ mark_if x P level k marks
  marks_are x e = pm ∙ ap (λ (z : Bool). mark_if z P level k marks) (sym pr ∙ e)

  -- the tests decided
  decided : (x y : Bool) (s : Stiffening) → raised ≡ x → room_for g own (get_or circuits k 0) t.total ≡ y
      → stiffen_by false x y P level (budget_for g) k s
      ≡ stiffen_by false (raisable g t.hv level a b k) (room_for g own (get_or circuits k 0) t.total) P level (budget_for g) k s
  decided x y s e f =
      ap (λ (z : Bool). stiffen_by false z y P level (budget_for g) k s) (sym e ∙ pr)
      ∙ ap (λ (z : Bool). stiffen_by false (raisable g t.hv level a b k) z P level (budget_for g) k s) (sym f)

  pub strengthened_raised : (arrived : ℕ) (t' : StiffeningTally) → raised ≡ true
      → arrived ≡ arrival g.top level marks' (get_or a k 0) + arrival g.top level marks' (get_or b k 0) → arrived ≤ 2 → t' ≡ tallied_more 0 arrived t
      → CorridorStiffened g own level a b k circuits marks t circuits marks' t'
  strengthened_raised arrived t' e pa h pt =
      let z : t.total + 0 ≡ t.total = omega arith in
      let w : t.stiffening + 0 ≡ t.stiffening = omega arith in
      let m : marks' ≡ mark_ends P level k marks = marks_are true e in
      let u = ap (λ (x : StiffeningTally). x.total) pt in
      let v = ap (λ (x : StiffeningTally). x.hv) pt in
      let x = ap (λ (x : StiffeningTally). x.stiffening) pt in
      record {
        stiffened = λ designs floors upsized.
            let B = built circuits designs floors upsized in
            ap (λ (x : StiffeningTally). stiff_over designs floors upsized circuits marks' x) pt
            ∙ stiff_same B marks' (t.total + 0) t.total (t.hv + arrived)
            (t.hv + (arrival g.top level marks' (get_or a k 0) + arrival g.top level marks' (get_or b k 0)))
            (t.stiffening + 0) t.stiffening t.wide true z (ap (λ (n : ℕ). t.hv + n) pa) w
            ∙ ap (λ (l : List ℕ). stiff B l t.total (t.hv + (arrival g.top level l (get_or a k 0) + arrival g.top level l (get_or b k 0))) t.stiffening t.wide true) m
            ∙ decided true (room_for g own (get_or circuits k 0) t.total) (stiff_over designs floors upsized circuits marks t) e refl;
        few = λ f. f;
        bound = (omega arith, omega arith, omega arith);
      }

  pub strengthened_added : (t' : StiffeningTally) → own ≤ most_cap → raised ≡ false → room_for g own (get_or circuits k 0) t.total ≡ true → k < length circuits → t' ≡ tallied_more 1 0 t
      → CorridorStiffened g own level a b k circuits marks t (set circuits k (get_or circuits k 0 + 1)) marks' t'
  unfolding set_count
  strengthened_added t' w e f h pt =
      let n = get_or circuits k 0 in
      let c = room_below g own n t.total true w (sym f) refl in
      let z : t.hv + 0 ≡ t.hv = omega arith in
      let u = ap (λ (x : StiffeningTally). x.total) pt in
      let v = ap (λ (x : StiffeningTally). x.hv) pt in
      let x = ap (λ (x : StiffeningTally). x.stiffening) pt in
      record {
        stiffened = λ designs floors upsized.
            let B = built (set circuits k (n + 1)) designs floors upsized in
            ap (λ (x : StiffeningTally). stiff_over designs floors upsized (set circuits k (n + 1)) marks' x) pt
            ∙ stiff_same B marks' (t.total + 1) (t.total + 1) (t.hv + 0) t.hv (t.stiffening + 1) (t.stiffening + 1) t.wide true refl z refl
            ∙ ap (λ (l : List ℕ). stiff B l (t.total + 1) t.hv (t.stiffening + 1) t.wide true) (marks_are false e)
            ∙ decided false true (stiff_over designs floors upsized circuits marks t) e f;
        few = few_set circuits k (n + 1) h (omega arith);
        bound = (omega arith, omega arith, omega arith);
      }

  pub strengthened_none : raised ≡ false → room_for g own (get_or circuits k 0) t.total ≡ false → CorridorStiffened g own level a b k circuits marks t circuits marks' t
  strengthened_none e f =
      record {
        stiffened = λ designs floors upsized.
            ap (λ (l : List ℕ). stiff_over designs floors upsized circuits l t) (marks_are false e)
            ∙ decided false false (stiff_over designs floors upsized circuits marks t) e f;
        few = λ f. f;
        bound = (omega arith, omega arith, omega arith);
      }

-- ---- one corridor
pub room_lifts : (c : Case) (g : Limits) (k : ℕ) (s : Stiffening) → k < length s.build.circuits → room_for g (own_cap c k) (get_or s.build.circuits k 0) s.total ≡ has_room c (budget_for g) k s
unfolding full_at
room_lifts c g k s h = ap (λ (n : ℕ). ltb n (full_at c k) && ltb s.total g.branches) (get_or_default s.build.circuits k 0 (full_at c k) h)

-- the rest of the step reads the corridors' ends of a case
strengthen_lifts : (x y : Bool) (o : Case) (grid : GridColumns) (level : List ℕ) (g : Limits) (k : ℕ) (s : Stiffening)
    → stiffen_by false x y (pairs_for grid.a grid.b) level (budget_for g) k s ≡ stiffen_by false x y (with_lines o grid) level (budget_for g) k s
strengthen_lifts true y o grid level g k s = refl
strengthen_lifts false true o grid level g k s = refl
strengthen_lifts false false o grid level g k s = refl

module _ (g : Limits) (grid : GridColumns) (level : List ℕ) (k : ℕ) (circuits : List ℕ) (banks floors : List Float) (upsized marks : List ℕ) (t : StiffeningTally)
    (h : k < length grid.a) (pc : length circuits ≡ length grid.a) (pb : length banks ≡ length grid.a) (d : CircuitDesign) (pd : d ≡ drawn (lines_for grid) level k (at banks k))
    (below : Bool) (pw : below ≡ bank_below d) where
  module _ (o : Case) (p : length grid.a ≡ o.corridors) (q : length grid.ladder ≡ levels o) where
    abbrev C : Case
    C = with_lines o grid

    abbrev S : Stiffening
    S = stiff_of C level circuits banks floors upsized marks t

    design_is : d ≡ design (drawn_all C level banks) k
    design_is = pd ∙ drawn_lifts C grid.sheet refl p q level k (at banks k) ∙ sym (drawn_at C level banks k (omega arith))

    one_by : (x : Bool) → below ≡ x
        → stiffen_by x (raisable g t.hv level grid.a grid.b k) (has_room C (budget_for g) k S) C level (budget_for g) k S ≡ each (stiffen_one C level (budget_for g)) (k ∷ []) S
    unfolding each stiffen_one
    one_by x e =
        ap (λ (z : Bool). stiffen_by z (raisable g t.hv level grid.a grid.b k) (has_room C (budget_for g) k S) C level (budget_for g) k S)
        (sym e ∙ pw ∙ ap (λ (z : CircuitDesign). bank_below z) design_is)

    full_is : below ≡ true → (t' : StiffeningTally) → t' ≡ tallied_more 0 0 t
        → stiff_of C level circuits (set banks k d.line_rate) (set floors k d.line_rate) (set upsized k 1) marks t' ≡ each (stiffen_one C level (budget_for g)) (k ∷ []) S
    full_is e t' pt =
        let B = build_of C level circuits banks floors upsized in
        let mva = d.line_rate in
        let z : t.total + 0 ≡ t.total = omega arith in
        let u : t.hv + 0 ≡ t.hv = omega arith in
        let w : t.stiffening + 0 ≡ t.stiffening = omega arith in
        let v : bank_below (drawn C level k (at banks k)) ≡ true = ap (λ (z : CircuitDesign). bank_below z) (sym (pd ∙ drawn_lifts C grid.sheet refl p q level k (at banks k))) ∙ sym pw ∙ e in
        ap (λ (x : StiffeningTally). stiff_of C level circuits (set banks k mva) (set floors k mva) (set upsized k 1) marks x) pt
        ∙ stiff_same (build_of C level circuits (set banks k mva) (set floors k mva) (set upsized k 1)) marks (t.total + 0) t.total (t.hv + 0) t.hv (t.stiffening + 0) t.stiffening t.wide true z u w
        ∙ ap (λ (x : Build). stiff x marks t.total t.hv t.stiffening t.wide true) (sym (set_bank_lem C level circuits banks floors upsized k mva (omega arith) (pb ∙ p) v))
        ∙ ap (λ (x : CircuitDesign). stiff (set_bank k x.line_rate B) marks t.total t.hv t.stiffening t.wide true) design_is
        ∙ one_by true e

    rest_is : o.cap ≡ grid.cap → below ≡ false → (circuits' marks' : List ℕ) (t' : StiffeningTally) → CorridorStiffened g (get_or grid.cap k 0) level grid.a grid.b k circuits marks t circuits' marks' t'
        → stiff_of C level circuits' banks floors upsized marks' t' ≡ each (stiffen_one C level (budget_for g)) (k ∷ []) S
    rest_is caps e circuits' marks' t' r =
        r.stiffened (drawn_all C level banks) floors upsized
        ∙ strengthen_lifts (raisable g t.hv level grid.a grid.b k) (room_for g (get_or grid.cap k 0) (get_or circuits k 0) t.total) o grid level g k S
        ∙ ap (λ (l : List ℕ). stiffen_by false (raisable g t.hv level grid.a grid.b k) (room_for g (get_or l k 0) (get_or circuits k 0) t.total) C level (budget_for g) k S) (sym caps)
        ∙ ap (λ (x : Bool). stiffen_by false (raisable g t.hv level grid.a grid.b k) x C level (budget_for g) k S) (room_lifts C g k S (omega arith))
        ∙ one_by false e

  pub one_full : below ≡ true → rating_ok d.line_rate ≡ true → Banks banks → (full : CircuitDesign) (banks' floors' : List Float) (upsized' : List ℕ) (t' : StiffeningTally)
      → full ≡ set_transformer_mva d d.line_rate → banks' ≡ set banks k full.transformer_mva → floors' ≡ set floors k full.transformer_mva → upsized' ≡ set upsized k 1 → t' ≡ tallied_more 0 0 t
      → BatchStiffened (k ∷ []) g grid level circuits banks floors upsized marks t circuits banks' floors' upsized' marks t'
  one_full e ok banked full banks' floors' upsized' t' pf rb rf qu pt =
      let mva = d.line_rate in
      let qb = rb ∙ kept_next true d full mva banks k pf in
      let qf = rf ∙ kept_next true d full mva floors k pf in
      let w : k < length banks = omega arith in
      let u = ap (λ (x : StiffeningTally). x.total) pt in
      let v = ap (λ (x : StiffeningTally). x.hv) pt in
      let x = ap (λ (x : StiffeningTally). x.stiffening) pt in
      record {
        stiffened = λ o f.
            let c = with_lines o grid in
            ap (λ (l : List Float). stiff_of c level circuits l floors' upsized' marks t') qb
            ∙ ap (λ (l : List Float). stiff_of c level circuits (set banks k mva) l upsized' marks t') qf
            ∙ ap (λ (l : List ℕ). stiff_of c level circuits (set banks k mva) (set floors k mva) l marks t') qu
            ∙ full_is o f.0 f.1 e t' pt;
        banked = subst Banks (sym qb) (banks_set banks k mva true w (λ _. ok) banked);
        few = λ f. f;
        bound = (omega arith, omega arith, omega arith);
      }

  pub one_rest : below ≡ false → Banks banks → (circuits' marks' : List ℕ) (t' : StiffeningTally) → CorridorStiffened g (get_or grid.cap k 0) level grid.a grid.b k circuits marks t circuits' marks' t'
      → BatchStiffened (k ∷ []) g grid level circuits banks floors upsized marks t circuits' banks floors upsized marks' t'
  one_rest e banked circuits' marks' t' r =
      record {
        stiffened = λ o f. rest_is o f.0 f.1 f.2 e circuits' marks' t' r;
        banked = banked;
        few = r.few;
        bound = r.bound;
      }

-- ---- one after another
module _ (g : Limits) (grid : GridColumns) (level : List ℕ) (circuits : List ℕ) (banks floors : List Float) (upsized marks : List ℕ) (t : StiffeningTally) where
  abbrev Onto : List ℕ → List ℕ → List Float → List Float → List ℕ → List ℕ → StiffeningTally → Type 0
  Onto ks circuits' banks' floors' upsized' marks' t' = BatchStiffened ks g grid level circuits banks floors upsized marks t circuits' banks' floors' upsized' marks' t'

  pub batch_start : Banks banks → Onto [] circuits banks floors upsized marks t
  unfolding each
  batch_start banked =
      record {
        stiffened = λ o f. refl;
        banked = banked;
        few = λ f. f;
        bound = (omega arith, omega arith, omega arith);
      }

  module _ (circuits₁ : List ℕ) (banks₁ floors₁ : List Float) (upsized₁ marks₁ : List ℕ) (t₁ : StiffeningTally) (circuits₂ : List ℕ) (banks₂ floors₂ : List Float) (upsized₂ marks₂ : List ℕ) (t₂ : StiffeningTally) where
    batch_more : (ks : List ℕ) (k : ℕ) → Onto ks circuits₁ banks₁ floors₁ upsized₁ marks₁ t₁
        → BatchStiffened (k ∷ []) g grid level circuits₁ banks₁ floors₁ upsized₁ marks₁ t₁ circuits₂ banks₂ floors₂ upsized₂ marks₂ t₂
        → Onto (ks ++ (k ∷ [])) circuits₂ banks₂ floors₂ upsized₂ marks₂ t₂
    batch_more ks k p q =
        let n = length-append ks (k ∷ []) in
        record {
          stiffened = λ o f.
              let c = with_lines o grid in
              let F = stiffen_one c level (budget_for g) in
              q.stiffened o f ∙ ap (each F (k ∷ [])) (p.stiffened o f) ∙ sym (each_append F ks (k ∷ []) (stiff_of c level circuits banks floors upsized marks t));
          banked = q.banked;
          few = λ f. q.few (p.few f);
          bound = (omega (arith, n, p.bound.0, q.bound.0), omega (arith, n, p.bound.1, q.bound.1), omega (arith, n, p.bound.2, q.bound.2));
        }

    pub batch_turn : (order : List ℕ) (j k : ℕ) → j < length order → k ≡ get_or order j 0 → Onto (take j order) circuits₁ banks₁ floors₁ upsized₁ marks₁ t₁
        → BatchStiffened (k ∷ []) g grid level circuits₁ banks₁ floors₁ upsized₁ marks₁ t₁ circuits₂ banks₂ floors₂ upsized₂ marks₂ t₂
        → Onto (take (j + 1) order) circuits₂ banks₂ floors₂ upsized₂ marks₂ t₂
    batch_turn order j k h e p q =
        let r : take j order ++ (k ∷ []) ≡ take (j + 1) order =
        ap (λ (i : ℕ). take j order ++ (i ∷ [])) e ∙ sym (take-suc order j 0 h) ∙ ap (λ (n : ℕ). take n order) (sym (add-one j)) in
        subst (λ (ks : List ℕ). Onto ks circuits₂ banks₂ floors₂ upsized₂ marks₂ t₂) r (batch_more (take j order) k p q)
