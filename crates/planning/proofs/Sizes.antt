-- The steps of sizing one corridor: more circuits, a raise in their stead, and growing, each as the definition has it.
-- Each law is the definition with its tests decided.
use Rattle.std.proofs.Common.{◌≡◌, ℕ, ◌+◌, ◌-◌, ◌<◌, ◌≤◌, min, Bool, true, false, not, ◌||◌, ltb, List, length, get_or, set, Some, None, sym, refl, ap, ◌∙◌, subst, arith, get_or-set_other, get_or-set_same, lt-ltb}
use Rattle.std.specs.Bool.{then_some}
use Rattle.std.proofs.lemmas.Option.{none-some, same_Some}
use native.Mathlib.Decide.{ℕ_discrete}
use lib.Ieee.{Float, lt}
use Rattle.loops.specs.Bounds.{most_initial, most_cap}
use Rattle.loops.proofs.Bools.{both}
use Rattle.impedance.specs.Impedance.{rating_ok}
use Rattle.mode.specs.declared.PlanMode.{PlanMode}
use Rattle.plan_defs.specs.Case.{Case, cap_by, cap_at}
use Rattle.plan_defs.specs.Design.{design}
use Rattle.plan_defs.specs.Build.{bank_below, set_count}
use Rattle.plan_defs.specs.Raise.{top_of, mark_if}
use Rattle.plan_defs.specs.Size.{enough, next_bank, enlarges, add_if, add_to, raises_for, raise_or_add, grow_to, needed_circuits, grow_if, grow}
use Rattle.plan_defs.specs.declared.CircuitDesign.{CircuitDesign}
use Rattle.planning.specs.Design.{RatedDesign}
use Rattle.planning.specs.RaiseMarks.{pairs_for}
use Rattle.planning.specs.Size.{grow_for, sized_of, Few, Adds, Grows}
use Rattle.planning.specs.declared.size.Tally.{Tally}
use Rattle.planning.proofs.Ratings.{kept_rating}
use Rattle.planning.specs.Tables.{GridColumns}

-- ---- a larger bank is above 0 and finite
larger_rating : (required : Float) (count : ℕ) (d : CircuitDesign) → RatedDesign d → enlarges required count d (next_bank required count d) ≡ true
    → rating_ok (next_bank required count d) ≡ true
larger_rating required count d r e =
    let p = both (not (enough required count d)) _ e in
    let q = both (bank_below d) (lt d.transformer_mva (next_bank required count d)) p.1 in
    let b = both d.is_transformer (lt d.transformer_mva d.line_rate) q.0 in
    kept_rating d.transformer_mva _ d.line_rate (r.bank b.0) r.line q.1

pub larger_ok : (required : Float) (count : ℕ) (d : CircuitDesign) (next : Float) (larger : Bool) → RatedDesign d → next ≡ next_bank required count d
    → larger ≡ enlarges required count d next → larger ≡ true → rating_ok next ≡ true
larger_ok required count d next larger r pn pl e =
    subst (λ (x : Float). rating_ok x ≡ true) (sym pn) (larger_rating required count d r (ap (λ (x : Float). enlarges required count d x) (sym pn) ∙ sym pl ∙ e))

-- where there is a larger one, and where there is none
pub larger_some : (b : Bool) (x next : Float) → Some x ≡ then_some b next → (b ≡ true) × (x ≡ next)
larger_some true x next e = (refl, same_Some x next e)
larger_some false x next e = absurd (none-some x (sym e))

pub larger_none : (b : Bool) (next : Float) → None ≡ then_some b next → b ≡ false
larger_none true next e = absurd (none-some next e)
larger_none false next e = refl

-- ---- more circuits
pub few_set : (circuits : List ℕ) (k n : ℕ) → k < length circuits → n ≤ most_cap → Few circuits → Few (set circuits k n)
few_set circuits k n h l f j = go (ℕ_discrete j k)
  where
    go : Dec (j ≡ k) → get_or (set circuits k n) j 0 ≤ most_initial
    go (yes e) = let q : get_or (set circuits k n) j 0 ≡ n = ap (λ (i : ℕ). get_or (set circuits k n) i 0) e ∙ get_or-set_same circuits k n 0 h in omega arith
    go (no e) = let q = get_or-set_other circuits k j n 0 e in let g = f j in omega arith

module _ (cap need k : ℕ) (circuits : List ℕ) (t : Tally) (most : ℕ) (p : most ≡ min need cap) where
  more_by : (b : Bool) (designs : List CircuitDesign) (floors : List Float) (upsized marks : List ℕ) → ltb (get_or circuits k 0) (min need cap) ≡ b
      → add_if b k most (t.capped || ltb cap need) (sized_of designs floors upsized circuits marks t) ≡ add_to cap need k (sized_of designs floors upsized circuits marks t)
  more_by b designs floors upsized marks e =
      let s = sized_of designs floors upsized circuits marks t in
      ap (λ (n : ℕ). add_if b k n (t.capped || ltb cap need) s) p ∙ ap (λ (x : Bool). add_if x k (min need cap) (t.capped || ltb cap need) s) (sym e)

  pub added_more : k < length circuits → cap ≤ most_cap → get_or circuits k 0 < most
      → Adds cap need k circuits t (set circuits k most) (record { capacity = t.capacity + (most - get_or circuits k 0); added = true; capped = t.capped || ltb cap need })
  unfolding set_count
  added_more h l w =
      record {
        sized = λ designs floors upsized marks. more_by true designs floors upsized marks (lt-ltb (get_or circuits k 0) (min need cap) (omega arith));
        bound = omega arith;
        few = few_set circuits k most h (omega arith);
      }

-- ---- growing
module _ (mode : PlanMode) (level : List ℕ) (grid : GridColumns) (k : ℕ) (required : Float) (d : CircuitDesign) (circuits marks : List ℕ) (t : Tally) (has : Bool) (ph : has ≡ enough required (get_or circuits k 0) d) where
  abbrev C : Case
  C = grow_for mode grid.a grid.b grid.cap

  grow_by : (designs : List CircuitDesign) (floors : List Float) (upsized : List ℕ) → design designs k ≡ d
      → grow_if has C level required k (sized_of designs floors upsized circuits marks t) ≡ grow C level required k (sized_of designs floors upsized circuits marks t)
  unfolding grow
  grow_by designs floors upsized e =
      ap (λ (x : Bool). grow_if x C level required k (sized_of designs floors upsized circuits marks t)) (ph ∙ ap (λ (x : CircuitDesign). enough required (get_or circuits k 0) x) (sym e))

  pub grown_none : has ≡ true → Grows C level required k d circuits marks t circuits marks t
  grown_none h =
      record {
        sized = λ designs floors upsized e. ap (λ (x : Bool). grow_if x C level required k (sized_of designs floors upsized circuits marks t)) (sym h) ∙ grow_by designs floors upsized e;
        bound = omega arith;
        few = λ f. f;
      }

  module _ (need : ℕ) (raised : Bool) (marks' : List ℕ) (h : has ≡ false) (pn : need ≡ needed_circuits required d)
      (pr : raised ≡ raises_for mode (top_of (pairs_for grid.a grid.b) level k) need) (pm : marks' ≡ mark_if (raises_for mode (top_of (pairs_for grid.a grid.b) level k) need) (pairs_for grid.a grid.b) level k marks) where
    raise_or_add_lem : (designs : List CircuitDesign) (floors : List Float) (upsized : List ℕ) → design designs k ≡ d
        → raise_or_add raised C level need k (sized_of designs floors upsized circuits marks t) ≡ grow C level required k (sized_of designs floors upsized circuits marks t)
    raise_or_add_lem designs floors upsized e =
        let s = sized_of designs floors upsized circuits marks t in
        ap (λ (x : Bool). raise_or_add x C level need k s) pr
        ∙ ap (grow_to C level k s) (pn ∙ ap (λ (x : CircuitDesign). needed_circuits required x) (sym e))
        ∙ ap (λ (x : Bool). grow_if x C level required k s) (sym h)
        ∙ grow_by designs floors upsized e

    pub grown_raised : raised ≡ true → Grows C level required k d circuits marks t circuits marks' t
    grown_raised r =
        record {
          sized = λ designs floors upsized e.
              ap (λ (m : List ℕ). sized_of designs floors upsized circuits m t) (pm ∙ ap (λ (x : Bool). mark_if x (pairs_for grid.a grid.b) level k marks) (sym pr ∙ r))
              ∙ ap (λ (x : Bool). raise_or_add x C level need k (sized_of designs floors upsized circuits marks t)) (sym r)
              ∙ raise_or_add_lem designs floors upsized e;
          bound = omega arith;
          few = λ f. f;
        }

    pub grown_added : (most : ℕ) (circuits' : List ℕ) (t' : Tally) → raised ≡ false → most ≡ cap_by mode (get_or grid.cap k 0) d.kv → most ≤ most_cap
        → Adds most need k circuits t circuits' t'
        → Grows C level required k d circuits marks t circuits' marks' t'
    unfolding cap_at
    grown_added most circuits' t' r pc l q =
        record {
          sized = λ designs floors upsized e.
              let s = sized_of designs floors upsized circuits marks t in
              ap (λ (m : List ℕ). sized_of designs floors upsized circuits' m t') (pm ∙ ap (λ (x : Bool). mark_if x (pairs_for grid.a grid.b) level k marks) (sym pr ∙ r))
              ∙ q.sized designs floors upsized marks
              ∙ ap (λ (n : ℕ). add_to n need k s) (pc ∙ ap (λ (x : CircuitDesign). cap_by mode (get_or grid.cap k 0) x.kv) (sym e))
              ∙ ap (λ (x : Bool). raise_or_add x C level need k s) (sym r)
              ∙ raise_or_add_lem designs floors upsized e;
          bound = omega (arith, q.bound);
          few = q.few;
        }
