-- Corridors designed anew: the code's design is the definition's, and the bank that is kept of it is above 0 and finite; and so for a whole case.
-- A design is its line and its bank, so that the bank alone says which design it was.
use Rattle.std.proofs.Common.{◌≡◌, ℕ, ◌*◌, ◌^◌, ◌<◌, ◌≤◌, true, eqb, List, length, get_or, sym, refl, ap, ◌∙◌, subst, le_trans, mul-le-mul_right, arith, lit≤}
use lib.Ieee.{Float, nan}
use Rattle.loops.specs.Bounds.{most_buses, most_corridors, most_generators}
use Rattle.loops.specs.Figures.{at}
use Rattle.loops.specs.Loops.{tab}
use Rattle.loops.proofs.Most.{Most, most_more, million_most}
use Rattle.loops.proofs.Tab.{length_tab, get_tab}
use Rattle.loops.proofs.Places.{tab_read}
use Rattle.impedance.specs.Impedance.{rating_ok}
use Rattle.plan_defs.specs.Case.{Case, to_of}
use Rattle.plan_defs.specs.Design.{drawn, kept_bank, fresh_bank, bank_for, gen_at_bus, transformer_corridors, design_at}
use Rattle.plan_defs.specs.Build.{bank_of, bank_anew, banks_anew}
use Rattle.plan_defs.specs.declared.CircuitDesign.{CircuitDesign}
use Rattle.planning.specs.Design.{lines_for, ends_for, ends_of, Lines, Banks}
use Rattle.planning.specs.Redesign.{units_for, redesign_for, anew_from, fresh_at}
use Rattle.planning.specs.declared.design.Ends.{Ends}
use Rattle.plan_defs.proofs.Lists.{count_most}
use Rattle.planning.proofs.Lists.{sum_most}
use Rattle.planning.proofs.Draws.{ends_fit, to_below, drawn_lifts}
use Rattle.planning.proofs.Ratings.{fresh_rating, drawn_rated, anew_sound}
use Rattle.planning.specs.Tables.{GridColumns}
use Rattle.planning.specs.Supplied.{SupplyColumns, Supplied}
use Rattle.planning.proofs.Supplies.{unit_inside}

-- ---- one corridor, over what the code has added up for each bus
module _ (grid : GridColumns) (level : List ℕ) (load gens : List Float) (shared : List ℕ) (k : ℕ) where
  pub fresh_is : (e : Ends) (mva g : Float) (s : ℕ) → e ≡ ends_of (ends_for grid) level k → g ≡ at gens e.to → s ≡ get_or shared e.to 0
      → mva ≡ fresh_bank (at load e.to) g s → mva ≡ fresh_at (ends_for grid) level load gens shared k
  unfolding fresh_at ends_of
  fresh_is e mva g s p pg ps pm =
      pm
      ∙ ap (λ (x : Float). fresh_bank (at load e.to) x s) pg
      ∙ ap (λ (n : ℕ). fresh_bank (at load e.to) (at gens e.to) n) ps
      ∙ ap (λ (z : Ends). fresh_bank (at load z.to) (at gens z.to) (get_or shared z.to 0)) p

  pub anew_is : (fresh floor mva : Float) (first d : CircuitDesign) → mva ≡ fresh
      → first ≡ drawn (lines_for grid) level k mva → d ≡ kept_bank first floor
      → d ≡ anew_from (lines_for grid) level fresh floor k
  unfolding anew_from
  anew_is fresh floor mva first d pm pf pd =
      pd
      ∙ ap (λ (z : CircuitDesign). kept_bank z floor) pf
      ∙ ap (λ (x : Float). kept_bank (drawn (lines_for grid) level k x) floor) pm

-- ---- where the two lists hold what each bus's units give and how many corridors step down to it
module _ (grid : GridColumns) (level : List ℕ) (supply : SupplyColumns) (floors gens : List Float) (shared : List ℕ)
    (k : ℕ) (lines : Lines grid level) (supplied : Supplied supply) (size : length supply.load ≡ length level) (few : length grid.a ≤ most_corridors) (h : k < length grid.a)
    (gens-are : gens ≡ tab most_buses (gen_at_bus (units_for supply))) (shared-are : shared ≡ tab most_buses (transformer_corridors (ends_for grid) level)) where
  abbrev C : Case
  C = redesign_for grid supply

  abbrev lo : ℕ
  lo = to_of (ends_for grid) level k

  lo_below : lo < length level
  lo_below = to_below grid level k (ends_fit grid level k lines h)

  lo_few : lo < most_buses
  lo_few = omega (arith, lo_below, size, supplied.few_buses)

  gen_is : at gens lo ≡ gen_at_bus (units_for supply) lo
  gen_is = tab_read nan most_buses (gen_at_bus (units_for supply)) gens lo gens-are lo_few

  shared_is : get_or shared lo 0 ≡ transformer_corridors (ends_for grid) level lo
  shared_is = tab_read 0 most_buses (transformer_corridors (ends_for grid) level) shared lo shared-are lo_few

  -- ---- a fresh bank is above 0 and finite: each unit gives at most 1e6 MW
  abbrev top : ℕ
  top = most_generators * 1_000_000

  load_most : Most top (at supply.load lo)
  load_most = most_more 1_000_000 top (at supply.load lo) (lit≤ tt) (million_most (at supply.load lo) (supplied.loads lo (omega (arith, lo_below, size))))

  gen_most : Most top (gen_at_bus (units_for supply) lo)
  unfolding gen_at_bus
  gen_most =
      let n = length supply.bus in
      let u : n * 1_000_000 ≤ most_generators * 1_000_000 = mul-le-mul_right 1_000_000 supplied.few_units in
      most_more (n * 1_000_000) top (gen_at_bus (units_for supply) lo) (omega arith)
      (sum_most (at supply.pmax) (λ j. eqb (get_or supply.bus j 0) lo) 1_000_000 n (λ j w. million_most (at supply.pmax j) (unit_inside _ _ _ _ (supplied.units j w))) (omega arith))

  shared_most : transformer_corridors (ends_for grid) level lo ≤ 2 ^ 53
  unfolding transformer_corridors
  shared_most = le_trans (count_most _ (length grid.a) 0) (omega arith)

  pub fresh_ok : rating_ok (fresh_at (ends_for grid) level supply.load gens shared k) ≡ true
  unfolding fresh_at
  fresh_ok =
      fresh_rating top (at supply.load lo) (at gens lo) (get_or shared lo 0) load_most (subst (Most top) (sym gen_is) gen_most) (lit≤ tt)
      (subst (λ (n : ℕ). n ≤ 2 ^ 53) (sym shared_is) shared_most)

  -- ---- and it is the definition's
  pub fresh_defined : fresh_at (ends_for grid) level supply.load gens shared k ≡ bank_for C level (to_of C level k)
  unfolding fresh_at bank_for gen_at_bus transformer_corridors to_of
  fresh_defined =
      ap (λ (x : Float). fresh_bank (at supply.load lo) x (get_or shared lo 0)) gen_is
      ∙ ap (λ (n : ℕ). fresh_bank (at supply.load lo) (gen_at_bus (units_for supply) lo) n) shared_is

  anew_defined : anew_from (lines_for grid) level (fresh_at (ends_for grid) level supply.load gens shared k) (at floors k) k
      ≡ kept_bank (design_at C level k) (at floors k)
  unfolding anew_from design_at
  anew_defined =
      ap (λ (x : Float). kept_bank (drawn (lines_for grid) level k x) (at floors k)) fresh_defined
      ∙ ap (λ (d : CircuitDesign). kept_bank d (at floors k)) (drawn_lifts C grid.sheet refl refl (omega arith) level k _)

  pub bank_defined : (d : CircuitDesign) (mva : Float) → mva ≡ bank_of d
      → d ≡ anew_from (lines_for grid) level (fresh_at (ends_for grid) level supply.load gens shared k) (at floors k) k → mva ≡ bank_anew C level floors k
  unfolding bank_anew
  bank_defined d mva e f = e ∙ ap (λ (x : CircuitDesign). bank_of x) (f ∙ anew_defined)

  pub anew_ok : rating_ok (bank_anew C level floors k) ≡ true
  unfolding anew_from
  anew_ok =
      subst (λ (x : Float). rating_ok x ≡ true) (bank_defined _ _ refl refl)
      (anew_sound (drawn (lines_for grid) level k (fresh_at (ends_for grid) level supply.load gens shared k)) (at floors k)
      (drawn_rated grid level k lines h _ fresh_ok))

-- every bank anew is above 0 and finite
pub banks_anew_sound : (grid : GridColumns) (level : List ℕ) (supply : SupplyColumns) (floors : List Float)
    → Lines grid level → Supplied supply → length supply.load ≡ length level → length grid.a ≤ most_corridors
    → Banks (banks_anew (redesign_for grid supply) level floors)
unfolding banks_anew
banks_anew_sound grid level supply floors lines supplied size few k w =
    let f = bank_anew (redesign_for grid supply) level floors in
    let h : k < length grid.a = omega (arith, w, length_tab (length grid.a) f) in
    subst (λ (x : Float). rating_ok x ≡ true) (sym (get_tab (length grid.a) f k nan h))
    (anew_ok grid level supply floors _ _ k lines supplied size few h refl refl)
