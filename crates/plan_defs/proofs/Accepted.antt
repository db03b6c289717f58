-- What acceptance gives: every length, every count within its bounds, every row of every table sound; and that of the ends, the levels and the sheet's rows.
use Prim.Native.Nat.{ℕ, zero, suc, ◌+◌, ◌*◌, ◌≤◌, ◌<◌}
use mathlib.Core.Bool.{Bool, true, false, cond, ◌&&◌}
use mathlib.Core.List.{List}
use mathlib.Core.Path.{◌≡◌, refl, sym, ◌∙◌, subst}
use native.Mathlib.Omega.{arith}
use borrow.Author.Tests.{ltb-true, ltb-false, leb-true, eqb-true}
use lib.Dec.{ltb, leb, eqb}
use lib.ListN.{length, get_or, get_or-eq_default}
use lib.Ieee.{lt, le}
use Rattle.loops.specs.Figures.{at, nought, one, half, thousand, ten_thousand, million, inside}
use Rattle.loops.proofs.Bools.{both}
use Rattle.loops.proofs.Rows.{row_fits}
use Rattle.loops.proofs.Tab.{get_tab}
use Rattle.loops.proofs.Verdicts.{passes_all}
use Rattle.refusal.specs.Reply.{no_refusal}
use Rattle.sheets.specs.Sheet.{row_figures, row_place, line_index, line_corridor}
use Rattle.sheets.proofs.Layouts.{parts, row_inside as inside_sheet}
use Rattle.leaders.specs.Operation.{Ends, corridor_ok}
use Rattle.dispatch_defs.specs.Units.{unit_ok}
use Rattle.plan_defs.specs.Constants.{most_buses, most_corridors, most_generators, most_levels, most_target, most_initial, most_cap}
use Rattle.plan_defs.specs.Case.{Case, levels, load_of, end_a, end_b, own_or, own_cap, higher_a, from_of, to_of, first_levels, row_at}
use Rattle.plan_defs.specs.Accept.{lengths_ok, counts_ok, level_ok, bus_ok, generator_ok, corridor_sound, row_ok, row_sound, tables_tests, case_tests, case_check}

-- where an own cap and the usual one are at most 6, so is the one that is taken
pub own_few : (own usual : ℕ) → own ≤ most_cap → usual ≤ most_cap → own_or own usual ≤ most_cap
own_few zero usual h u = u
own_few (suc own) usual h u = h

pub record Columns (c : Case) : Type 0 where
  pub ladder : length c.ladder ≡ levels c
  pub tier : length c.tier ≡ c.buses
  pub reading : length c.reading ≡ c.buses
  pub weight : length c.weight ≡ c.buses
  pub load : length c.load ≡ c.buses
  pub bus : length c.bus ≡ c.generators
  pub slack : length c.slack ≡ c.generators
  pub pmin : length c.pmin ≡ c.generators
  pub pmax : length c.pmax ≡ c.generators
  pub c1 : length c.c1 ≡ c.generators
  pub c2 : length c.c2 ≡ c.generators
  pub a : length c.a ≡ c.corridors
  pub b : length c.b ≡ c.corridors
  pub circuits : length c.circuits ≡ c.corridors
  pub km : length c.km ≡ c.corridors
  pub share : length c.share ≡ c.corridors
  pub cap : length c.cap ≡ c.corridors
  pub sheet : c.figures ≡ row_figures * (c.corridors * levels c)

pub record Counts (c : Case) (target : ℕ) : Type 0 where
  pub few_buses : c.buses ≤ most_buses
  pub few_corridors : c.corridors ≤ most_corridors
  pub few_generators : c.generators ≤ most_generators
  pub some_level : 1 ≤ c.requested
  pub few_levels : levels c ≤ most_levels
  pub low_target : target ≤ most_target

pub record Accepted (c : Case) (target : ℕ) : Type 0 where
  pub columns : Columns c
  pub counts : Counts c target
  pub level_ok_holds : (i : ℕ) → i < levels c → level_ok c i ≡ true
  pub bus_ok_holds : (i : ℕ) → i < c.buses → bus_ok c i ≡ true
  pub generator_ok_holds : (k : ℕ) → k < c.generators → generator_ok c k ≡ true
  pub corridor_ok_holds : (k : ℕ) → k < c.corridors → corridor_sound c k ≡ true
  pub row_ok_holds : (i : ℕ) → i < c.corridors * levels c → row_ok c i ≡ true

module _ (c : Case) where
  pub columns_of_lem : lengths_ok c ≡ true → Columns c
  unfolding lengths_ok
  columns_of_lem h =
      let h₁ = both (eqb (length c.ladder) (levels c)) _ h in
      let h₂ = both (eqb (length c.tier) c.buses) _ h₁.1 in
      let h₃ = both (eqb (length c.reading) c.buses) _ h₂.1 in
      let h₄ = both (eqb (length c.weight) c.buses) _ h₃.1 in
      let h₅ = both (eqb (length c.load) c.buses) _ h₄.1 in
      let h₆ = both (eqb (length c.bus) c.generators) _ h₅.1 in
      let h₇ = both (eqb (length c.slack) c.generators) _ h₆.1 in
      let h₈ = both (eqb (length c.pmin) c.generators) _ h₇.1 in
      let h₉ = both (eqb (length c.pmax) c.generators) _ h₈.1 in
      let g₁ = both (eqb (length c.c1) c.generators) _ h₉.1 in
      let g₂ = both (eqb (length c.c2) c.generators) _ g₁.1 in
      let g₃ = both (eqb (length c.a) c.corridors) _ g₂.1 in
      let g₄ = both (eqb (length c.b) c.corridors) _ g₃.1 in
      let g₅ = both (eqb (length c.circuits) c.corridors) _ g₄.1 in
      let g₆ = both (eqb (length c.km) c.corridors) _ g₅.1 in
      let g₇ = both (eqb (length c.share) c.corridors) _ g₆.1 in
      let g₈ = both (eqb (length c.cap) c.corridors) _ g₇.1 in
      record {
        ladder = eqb-true _ _ h₁.0;
        tier = eqb-true _ _ h₂.0;
        reading = eqb-true _ _ h₃.0;
        weight = eqb-true _ _ h₄.0;
        load = eqb-true _ _ h₅.0;
        bus = eqb-true _ _ h₆.0;
        slack = eqb-true _ _ h₇.0;
        pmin = eqb-true _ _ h₈.0;
        pmax = eqb-true _ _ h₉.0;
        c1 = eqb-true _ _ g₁.0;
        c2 = eqb-true _ _ g₂.0;
        a = eqb-true _ _ g₃.0;
        b = eqb-true _ _ g₄.0;
        circuits = eqb-true _ _ g₅.0;
        km = eqb-true _ _ g₆.0;
        share = eqb-true _ _ g₇.0;
        cap = eqb-true _ _ g₈.0;
        sheet = eqb-true _ _ g₈.1;
      }

  pub counts_of : (target : ℕ) → counts_ok c target ≡ true → Counts c target
  unfolding counts_ok
  counts_of target h =
      let h₁ = both (leb c.buses most_buses) _ h in
      let h₂ = both (leb c.corridors most_corridors) _ h₁.1 in
      let h₃ = both (leb c.generators most_generators) _ h₂.1 in
      let h₄ = both (leb 1 c.requested) _ h₃.1 in
      let h₅ = both (leb (levels c) most_levels) _ h₄.1 in
      record {
        few_buses = leb-true c.buses most_buses h₁.0;
        few_corridors = leb-true c.corridors most_corridors h₂.0;
        few_generators = leb-true c.generators most_generators h₃.0;
        some_level = leb-true 1 c.requested h₄.0;
        few_levels = leb-true (levels c) most_levels h₅.0;
        low_target = leb-true target most_target h₅.1;
      }

  pub accepted : (target : ℕ) → case_check c target ≡ no_refusal → Accepted c target
  unfolding case_tests tables_tests
  accepted target h =
      let p = passes_all (case_tests c target) h in
      let r = p.1.1 in
      record {
        columns = columns_of_lem p.0;
        counts = counts_of target p.1.0;
        level_ok_holds = r.0;
        bus_ok_holds = r.1.0;
        generator_ok_holds = r.1.1.0;
        corridor_ok_holds = r.1.1.1.0;
        row_ok_holds = r.1.1.1.1.0;
      }

-- ---- what the tables' tests say
-- the higher and the lower end of a corridor are its ends
one_of : (b : Bool) (x y n : ℕ) → x < n → y < n → cond b x y < n
one_of true x y n p q = p
one_of false x y n p q = q

module _ (c : Case) (level : List ℕ) (k n : ℕ) (a-below : end_a c k < n) (b-below : end_b c k < n) where
  pub from_within : from_of c level k < n
  unfolding from_of
  from_within = one_of (higher_a c level k) (end_a c k) (end_b c k) n a-below b-below

  pub to_within : to_of c level k < n
  unfolding to_of
  to_within = one_of (higher_a c level k) (end_b c k) (end_a c k) n b-below a-below

-- where each tier is one of those requested, a bus begins on the ladder
pub first_within : (c : Case) → ((i : ℕ) → i < c.buses → get_or c.tier i 0 < c.requested) → (i : ℕ) → i < c.buses → get_or (first_levels c) i 0 < levels c
unfolding first_levels
first_within c low i h = omega (arith, get_tab c.buses (λ (j : ℕ). c.above + get_or c.tier j 0) i 0 h, low i h)

module _ (c : Case) (target : ℕ) (ok : Accepted c target) where
  corridor_parts : (k : ℕ) → k < c.corridors → (ltb (end_a c k) c.buses ≡ true) × (ltb (end_b c k) c.buses ≡ true)
  unfolding corridor_sound
  corridor_parts k h =
      both (ltb (end_a c k) c.buses) _
      (both (ltb (end_a c k) c.buses && ltb (end_b c k) c.buses) _ (both (corridor_ok c.buses (end_a c k) (end_b c k)) _ (ok.corridor_ok_holds k h)).0).0

  pub end_a_lem : (k : ℕ) → k < c.corridors → end_a c k < c.buses
  end_a_lem k h = ltb-true _ _ (corridor_parts k h).0

  pub end_b_lem : (k : ℕ) → k < c.corridors → end_b c k < c.buses
  end_b_lem k h = ltb-true _ _ (corridor_parts k h).1

  pub ends : Ends c.buses c.a c.b
  ends =
      record {
        even = ok.columns.b ∙ sym ok.columns.a;
        from = λ k h. end_a_lem k (omega (arith, ok.columns.a));
        to = λ k h. end_b_lem k (omega (arith, ok.columns.a));
      }

  -- the higher and the lower end are buses, at whatever levels
  pub from_below : (level : List ℕ) (k : ℕ) → k < c.corridors → from_of c level k < c.buses
  from_below level k h = from_within c level k c.buses (end_a_lem k h) (end_b_lem k h)

  pub to_below : (level : List ℕ) (k : ℕ) → k < c.corridors → to_of c level k < c.buses
  to_below level k h = to_within c level k c.buses (end_a_lem k h) (end_b_lem k h)

  pub bus_below : (k : ℕ) → k < c.generators → get_or c.bus k 0 < c.buses
  unfolding generator_ok
  bus_below k h =
      ltb-true _ _ (both (ltb (get_or c.bus k 0) c.buses) _
      (both (ltb (get_or c.bus k 0) c.buses && leb (get_or c.slack k 0) 1) _ (ok.generator_ok_holds k h)).0).0

  pub unit_ok_lem : (k : ℕ) → k < c.generators → unit_ok (at c.pmin k) (at c.pmax k) (at c.c1 k) (at c.c2 k) ≡ true
  unfolding generator_ok
  unit_ok_lem k h = (both (ltb (get_or c.bus k 0) c.buses && leb (get_or c.slack k 0) 1) _ (ok.generator_ok_holds k h)).1

  pub tier_below : (i : ℕ) → i < c.buses → get_or c.tier i 0 < c.requested
  unfolding bus_ok
  tier_below i h = ltb-true _ _ (both (ltb (get_or c.tier i 0) c.requested) _ (ok.bus_ok_holds i h)).0

  pub load_inside : (i : ℕ) → i < c.buses → inside nought million (load_of c i) ≡ true
  unfolding bus_ok
  load_inside i h =
      let p = (both (ltb (get_or c.tier i 0) c.requested) _ (ok.bus_ok_holds i h)).1 in
      (both (lt nought (at c.weight i) && le (at c.weight i) thousand) _ (both (inside nought million (at c.reading i)) _ p).1).1

  pub initial_few : (k : ℕ) → k < c.corridors → get_or c.circuits k 0 ≤ most_initial
  unfolding corridor_sound
  initial_few k h =
      leb-true _ _ (both (leb (get_or c.circuits k 0) most_initial) _ (both (corridor_ok c.buses (end_a c k) (end_b c k)) _ (ok.corridor_ok_holds k h)).1).0

  -- an own cap is at most 6, and past the corridors there is none
  pub cap_few : (k : ℕ) → own_cap c k ≤ most_cap
  unfolding corridor_sound
  cap_few k = go (ltb k c.corridors) refl
    where
      go : (b : Bool) → ltb k c.corridors ≡ b → own_cap c k ≤ most_cap
      go true e =
          let h = ltb-true _ _ e in
          leb-true _ _ (both (inside half one (at c.share k)) _
          (both (inside nought ten_thousand (at c.km k)) _
          (both (leb (get_or c.circuits k 0) most_initial) _ (both (corridor_ok c.buses (end_a c k) (end_b c k)) _ (ok.corridor_ok_holds k h)).1).1).1).1
      go false e =
          let z : length c.cap ≤ k = (let y : c.corridors ≤ k = ltb-false k c.corridors e in omega (arith, ok.columns.cap)) in
          omega (arith, get_or-eq_default c.cap 0 z)

  -- a bus begins on the ladder
  pub first_below : (i : ℕ) → i < c.buses → get_or (first_levels c) i 0 < levels c
  first_below = first_within c tier_below

-- ---- the sheet's rows: index corridor × levels + level, and the five figures of a row are in the sheet
pub row_inside : (c : Case) (target : ℕ) → Accepted c target → (k l : ℕ) → k < c.corridors → l < levels c → row_place c.corridors k l + row_figures ≤ c.figures
row_inside c target ok k l h q = omega (arith, ok.columns.sheet, inside_sheet c.corridors (levels c) k l h q)

pub row_sound_lem : (c : Case) (target : ℕ) → Accepted c target → (k l : ℕ) → k < c.corridors → l < levels c → row_sound (row_at c k l) ≡ true
unfolding row_ok
row_sound_lem c target ok k l h q =
    let e = parts (levels c) k l q in
    let i = line_index (levels c) k l in
    let r = ok.row_ok_holds i (omega (arith, row_fits k c.corridors (levels c) h)) in
    subst (λ (j : ℕ). row_sound (row_at c j l) ≡ true) e.0 (subst (λ (j : ℕ). row_sound (row_at c (line_corridor (levels c) i) j) ≡ true) e.1 r)
