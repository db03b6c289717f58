-- One corridor sized, and all of them: what the code leaves in the slices is the definition's state; and what that reads of a whole case.
-- A larger bank is a design set in its place (Builds), growing does not look at the other designs (Sizes), and the loop is the definition's.
use Rattle.std.proofs.Common.{◌≡◌, ℕ, ◌+◌, ◌-◌, ◌<◌, ◌≤◌, Bool, true, false, not, ◌||◌, List, length, get_or, set, sym, refl, ap, ◌∙◌, subst, arith, length-set, get_or-set_other, get_or-set_same}
use native.Mathlib.Decide.{ℕ_discrete}
use Rattle.std.proofs.Math.Bool.{or-false, or-true}
use lib.Ieee.{Float, nan, lt}
use Rattle.loops.specs.Figures.{at}
use Rattle.loops.specs.Loops.{iter}
use Rattle.loops.proofs.Bools.{both}
use Rattle.loops.proofs.Loops.{iter_all, iter_more, iter_end}
use Rattle.loops.proofs.Places.{iter_same}
use Rattle.impedance.specs.Impedance.{rating_ok}
use Rattle.mode.specs.declared.PlanMode.{PlanMode}
use Rattle.plan_defs.specs.Case.{Case, levels, cap_at}
use Rattle.plan_defs.specs.Design.{banked_by, drawn, design, set_transformer_mva}
use Rattle.plan_defs.specs.Build.{Build, built, build_of, drawn_all, count_at, circuit_at, bank_below}
use Rattle.plan_defs.specs.Raise.{no_marks, top_of}
use Rattle.plan_defs.specs.Size.{Sizing, sizing, enough, next_bank, enlarges, enlarge_if, enlarge_to, enlarge_by, enlarge, required_for, raises_for, raise_or_add, needed_circuits, grow_if, grow, size_one, size_all}
use Rattle.plan_defs.specs.declared.CircuitDesign.{CircuitDesign}
use Rattle.plan_defs.proofs.Drawn.{bank_drawn, drawn_at, set_bank_lem}
use Rattle.planning.specs.Design.{lines_for, Banks}
use Rattle.planning.specs.Size.{size_for, grow_for, sized_of, sizing_of, set_if, Grows}
use Rattle.planning.specs.declared.size.Tally.{Tally}
use Rattle.planning.proofs.Draws.{Laid, drawn_lifts}
use Rattle.planning.proofs.Builds.{kept_next, drawn_all_lifts}
use Rattle.planning.specs.Tables.{GridColumns, grid_of}

-- ---- a larger bank
module _ (c : Case) (level circuits : List ℕ) (banks floors : List Float) (upsized marks : List ℕ) (t : Tally) (k : ℕ) (h : k < c.corridors) (n : length banks ≡ c.corridors) where
  abbrev S : Sizing
  S = sizing_of c level circuits banks floors upsized marks t

  abbrev with_bank : Bool → Tally
  with_bank larger = record { capacity = t.capacity; added = t.added || larger; capped = t.capped }

  enlarged_by : (larger : Bool) (mva : Float) → (larger ≡ true → bank_below (drawn c level k (at banks k)) ≡ true)
      → sizing_of c level circuits (set_if larger banks k mva) (set_if larger floors k mva) (set_if larger upsized k 1) marks (with_bank larger) ≡ enlarge_if larger k mva S
  enlarged_by true mva e =
      ap (λ (x : Bool). sizing (build_of c level circuits (set banks k mva) (set floors k mva) (set upsized k 1)) marks t.capacity x t.capped) (or-true t.added)
      ∙ ap (λ (x : Build). sizing x marks t.capacity true t.capped) (sym (set_bank_lem c level circuits banks floors upsized k mva h n (e refl)))
  enlarged_by false mva e = ap (λ (x : Bool). sizing (build_of c level circuits banks floors upsized) marks t.capacity x t.capped) (or-false t.added)

  module _ (required : Float) (first : CircuitDesign) (next : Float) (larger : Bool) (pf : first ≡ drawn c level k (at banks k))
      (pn : next ≡ next_bank required (get_or circuits k 0) first) (pl : larger ≡ enlarges required (get_or circuits k 0) first next) where
    below : larger ≡ true → bank_below (drawn c level k (at banks k)) ≡ true
    below e =
        let p = both (not (enough required (get_or circuits k 0) first)) _ (sym pl ∙ e) in
        ap (λ (d : CircuitDesign). bank_below d) (sym pf) ∙ (both (bank_below first) (lt first.transformer_mva next) p.1).0

    pub enlarge_is : sizing_of c level circuits (set_if larger banks k next) (set_if larger floors k next) (set_if larger upsized k 1) marks (with_bank larger) ≡ enlarge required k S
    unfolding enlarge
    enlarge_is =
        enlarged_by larger next below
        ∙ ap (λ (x : Bool). enlarge_if x k next S) pl
        ∙ ap (λ (x : Float). enlarge_to required k (get_or circuits k 0) first x S) pn
        ∙ ap (λ (d : CircuitDesign). enlarge_by required k (get_or circuits k 0) d S) (pf ∙ sym (drawn_at c level banks k h))

    -- the design that it leaves in place k
    pub enlarged_design : design (drawn_all c level (set_if larger banks k next)) k ≡ banked_by larger first next
    enlarged_design = drawn_at c level (set_if larger banks k next) k h ∙ go larger below
      where
        go : (x : Bool) → (x ≡ true → bank_below (drawn c level k (at banks k)) ≡ true) → drawn c level k (at (set_if x banks k next) k) ≡ banked_by x first next
        go true e =
            let w : k < length banks = omega arith in
            ap (drawn c level k) (get_or-set_same banks k next nan w)
            ∙ sym (bank_drawn c level k (at banks k) next (e refl))
            ∙ ap (λ (d : CircuitDesign). set_transformer_mva d next) (sym pf)
        go false e = sym pf

-- it leaves every bank above 0 and finite
pub banks_set : (banks : List Float) (k : ℕ) (mva : Float) (larger : Bool) → k < length banks → (larger ≡ true → rating_ok mva ≡ true) → Banks banks → Banks (set_if larger banks k mva)
banks_set banks k mva true h e b j q = go (ℕ_discrete j k)
  where
    go : Dec (j ≡ k) → rating_ok (at (set banks k mva) j) ≡ true
    go (yes s) = subst (λ (x : Float). rating_ok x ≡ true) (sym (ap (λ (i : ℕ). at (set banks k mva) i) s ∙ get_or-set_same banks k mva nan h)) (e refl)
    go (no s) =
        let w : j < length banks = omega (arith, q, length-set banks k mva) in
        subst (λ (x : Float). rating_ok x ≡ true) (sym (get_or-set_other banks k j mva nan s)) (b j w)
banks_set banks k mva false h e b j q = b j q

-- ---- what growing reads of a case
module _ (c : Case) (level : List ℕ) (k : ℕ) (s : Sizing) where
  abbrev G : Case
  G = grow_for c.mode c.a c.b c.cap

  raise_lifts : (raised : Bool) (need : ℕ) → raise_or_add raised G level need k s ≡ raise_or_add raised c level need k s
  unfolding cap_at
  raise_lifts true need = refl
  raise_lifts false need = refl

  grow_by : (has : Bool) (required : Float) → grow_if has G level required k s ≡ grow_if has c level required k s
  grow_by true required = refl
  grow_by false required =
      let need = needed_circuits required (circuit_at s.build k) in
      raise_lifts (raises_for c.mode (top_of c level k) need) need

  pub grow_lifts : (required : Float) → grow G level required k s ≡ grow c level required k s
  unfolding grow
  grow_lifts required = grow_by (enough required (count_at s.build k) (circuit_at s.build k)) required

-- ---- one corridor
module _ (mode : PlanMode) (buses : ℕ) (grid : GridColumns) (level : List ℕ) (flow : List Float) where
  abbrev C : Case
  C = size_for mode buses grid

  module _ (k : ℕ) (circuits : List ℕ) (banks floors : List Float) (upsized marks : List ℕ) (t : Tally) (h : k < length grid.a) (n : length banks ≡ length grid.a) where
    pub size_is : (required : Float) (first : CircuitDesign) (next : Float) (larger : Bool) (banks' floors' : List Float) (upsized' : List ℕ) (d : CircuitDesign) (s : Tally)
        (circuits' marks' : List ℕ) (t' : Tally)
        → required ≡ required_for (at flow k)
        → first ≡ drawn (lines_for grid) level k (at banks k)
        → next ≡ next_bank required (get_or circuits k 0) first
        → larger ≡ enlarges required (get_or circuits k 0) first next
        → d ≡ banked_by larger first next
        → banks' ≡ set_if larger banks k d.transformer_mva → floors' ≡ set_if larger floors k d.transformer_mva → upsized' ≡ set_if larger upsized k 1
        → s ≡ record { capacity = t.capacity; added = t.added || larger; capped = t.capped }
        → Grows (grow_for mode grid.a grid.b grid.cap) level required k d circuits marks s circuits' marks' t'
        → sizing_of C level circuits' banks' floors' upsized' marks' t' ≡ size_one C level flow k (sizing_of C level circuits banks floors upsized marks t)
    unfolding size_one
    size_is required first next larger banks' floors' upsized' d s circuits' marks' t' pr pf pn pl pd qb qc pu ps g =
        let pb = qb ∙ kept_next larger first d next banks k pd in
        let pc = qc ∙ kept_next larger first d next floors k pd in
        let first-is = pf ∙ drawn_lifts C grid.sheet refl refl (omega arith) level k (at banks k) in
        let design-is : design (drawn_all C level banks') k ≡ d =
        ap (λ (l : List Float). design (drawn_all C level l) k) pb
        ∙ enlarged_design C level circuits banks floors upsized marks t k h n required first next larger first-is pn pl
        ∙ sym pd in
        let enlarged : sizing_of C level circuits banks' floors' upsized' marks s ≡ enlarge required k (sizing_of C level circuits banks floors upsized marks t) =
        ap (λ (l : List Float). sizing_of C level circuits l floors' upsized' marks s) pb
        ∙ ap (λ (l : List Float). sizing_of C level circuits (set_if larger banks k next) l upsized' marks s) pc
        ∙ ap (λ (l : List ℕ). sizing_of C level circuits (set_if larger banks k next) (set_if larger floors k next) l marks s) pu
        ∙ ap (λ (u : Tally). sizing_of C level circuits (set_if larger banks k next) (set_if larger floors k next) (set_if larger upsized k 1) marks u) ps
        ∙ enlarge_is C level circuits banks floors upsized marks t k h n required first next larger first-is pn pl in
        g.sized (drawn_all C level banks') floors' upsized' design-is
        ∙ grow_lifts C level k (sizing_of C level circuits banks' floors' upsized' marks s) required
        ∙ ap (grow C level required k) enlarged
        ∙ ap (λ (x : Float). grow C level x k (enlarge x k (sizing_of C level circuits banks floors upsized marks t))) pr

  -- ---- the loop: what is left from corridor k on
  unfoldable pub left : ℕ → List ℕ → List Float → List Float → List ℕ → List ℕ → Tally → Sizing
  left k circuits banks floors upsized marks t = iter (size_one C level flow) (length grid.a - k) k (sizing_of C level circuits banks floors upsized marks t)

  pub left_start : (circuits : List ℕ) (banks floors : List Float) (upsized marks : List ℕ) (capacity n : ℕ) → marks ≡ no_marks n → n ≡ buses
      → left 0 circuits banks floors upsized marks (record { capacity = capacity; added = false; capped = false }) ≡ size_all C level flow (build_of C level circuits banks floors upsized) capacity
  unfolding left size_all
  left_start circuits banks floors upsized marks capacity n p q =
      ap (λ (m : List ℕ). left 0 circuits banks floors upsized m (record { capacity = capacity; added = false; capped = false })) (p ∙ ap (λ (i : ℕ). no_marks i) q)
      ∙ iter_all (size_one C level flow) (length grid.a) _

  pub left_turn : (k : ℕ) (circuits : List ℕ) (banks floors : List Float) (upsized marks : List ℕ) (t : Tally) (circuits' : List ℕ) (banks' floors' : List Float) (upsized' marks' : List ℕ) (t' : Tally)
      → k < length grid.a → sizing_of C level circuits' banks' floors' upsized' marks' t' ≡ size_one C level flow k (sizing_of C level circuits banks floors upsized marks t)
      → left (k + 1) circuits' banks' floors' upsized' marks' t' ≡ left k circuits banks floors upsized marks t
  unfolding left
  left_turn k circuits banks floors upsized marks t circuits' banks' floors' upsized' marks' t' h e = sym (iter_more (size_one C level flow) h e)

  pub left_end : (k : ℕ) (circuits : List ℕ) (banks floors : List Float) (upsized marks : List ℕ) (t : Tally) → length grid.a ≤ k
      → left k circuits banks floors upsized marks t ≡ sizing_of C level circuits banks floors upsized marks t
  unfolding left
  left_end k circuits banks floors upsized marks t h = iter_end (size_one C level flow) h

-- ---- what sizing reads of a case
module _ (c : Case) (sheet : List Float) (laid : Laid c sheet) (level : List ℕ) (flow : List Float) where
  abbrev N : Case
  N = size_for c.mode (length level) (grid_of c.ladder c.a c.b c.km c.share c.cap sheet)

  one_lifts : (k : ℕ) (s : Sizing) → size_one N level flow k s ≡ size_one c level flow k s
  unfolding size_one
  one_lifts k s =
      let r = required_for (at flow k) in
      sym (grow_lifts N level k (enlarge r k s) r) ∙ grow_lifts c level k (enlarge r k s) r

  all_lifts : (b : Build) (capacity : ℕ) → length level ≡ c.buses → length c.a ≡ c.corridors → size_all N level flow b capacity ≡ size_all c level flow b capacity
  unfolding size_all
  all_lifts b capacity n m =
      iter_same (size_one N level flow) (size_one c level flow) one_lifts (length c.a) 0 (sizing b (no_marks (length level)) capacity false false)
      ∙ ap (λ (i : ℕ). iter (size_one c level flow) i 0 (sizing b (no_marks (length level)) capacity false false)) m
      ∙ ap (λ (i : ℕ). iter (size_one c level flow) c.corridors 0 (sizing b (no_marks i) capacity false false)) n

  designs_lift : (banks : List Float) → length c.a ≡ c.corridors → length c.ladder ≡ levels c → drawn_all N level banks ≡ drawn_all c level banks
  designs_lift banks m l = sym (drawn_all_lifts N level sheet refl banks refl (omega arith)) ∙ drawn_all_lifts c level sheet laid banks m l

  -- what a call of the loop says of a whole case
  pub size_lifts : (capacity : ℕ) (circuits : List ℕ) (banks floors : List Float) (upsized circuits' : List ℕ) (banks' floors' : List Float) (upsized' marks' : List ℕ) (t' : Tally)
      → length level ≡ c.buses → length c.a ≡ c.corridors → length c.ladder ≡ levels c
      → sizing_of N level circuits' banks' floors' upsized' marks' t' ≡ size_all N level flow (build_of N level circuits banks floors upsized) capacity
      → sizing_of c level circuits' banks' floors' upsized' marks' t' ≡ size_all c level flow (build_of c level circuits banks floors upsized) capacity
  size_lifts capacity circuits banks floors upsized circuits' banks' floors' upsized' marks' t' n m l s =
      ap (λ (ds : List CircuitDesign). sized_of ds floors' upsized' circuits' marks' t') (sym (designs_lift banks' m l))
      ∙ s
      ∙ all_lifts (build_of N level circuits banks floors upsized) capacity n m
      ∙ ap (λ (ds : List CircuitDesign). size_all c level flow (built circuits ds floors upsized) capacity) (designs_lift banks m l)
