-- A district within a larger case: its buses, generators and corridors stand together some way in, and every column has there what the district has.
-- Of two joined cases both are within the joined one.
use Prim.Native.Nat.{ℕ, ◌+◌, ◌-◌, ◌≤◌, ◌<◌}
use mathlib.Core.List.{List, ◌++◌}
use mathlib.Core.Path.{◌≡◌, refl, sym, ap, ◌∙◌}
use mathlib.Core.Bool.{Bool, true, cond}
use native.Mathlib.Omega.{arith}
use borrow.Author.Tests.{eqb-true, lt-ltb, le-ltb}
use lib.Dec.{eqb, leb, ltb}
use lib.Ieee.{nan}
use lib.ListN.{length, get_or, get_or-append}
use lib.Seq.{get_or-append-add}
use Rattle.loops.specs.Figures.{at}
use Rattle.loops.proofs.Bools.{both}
use Rattle.loops.proofs.Fronts.{get_map}
use Rattle.mode.specs.Number.{mode_number}
use Rattle.mode.specs.declared.PlanMode.{PlanMode}
use Rattle.mode.specs.declared.PlanMode.TheVariants.{Expand, Reinforce, Observe, ExpandServing, ReinforceServing, ObserveServing}
use Rattle.plan_defs.specs.Case.{Case, levels, tops_up, load_of, end_a, end_b, own_cap, row_at}
use Rattle.plan_defs.proofs.Accepted.{Accepted}
use Rattle.join_defs.specs.Districts.{moved, joined_row, joined_case, alike}
use Rattle.join_defs.proofs.Levels.{same_requested, levels_same}

-- c within j: its buses from b on, its generators from o on, its corridors from m on
pub record LiesIn (c j : Case) (b o m : ℕ) : Type 0 where
  pub tops : tops_up j.mode ≡ tops_up c.mode
  pub requested : j.requested ≡ c.requested
  pub same_levels : levels j ≡ levels c
  pub buses : b + c.buses ≤ j.buses
  pub tier : (i : ℕ) → i < c.buses → get_or j.tier (b + i) 0 ≡ get_or c.tier i 0
  pub reading : (i : ℕ) → i < c.buses → at j.reading (b + i) ≡ at c.reading i
  pub weight : (i : ℕ) → i < c.buses → at j.weight (b + i) ≡ at c.weight i
  pub load : (i : ℕ) → i < c.buses → load_of j (b + i) ≡ load_of c i
  pub bus : (k : ℕ) → k < c.generators → get_or j.bus (o + k) 0 ≡ b + get_or c.bus k 0
  pub slack : (k : ℕ) → k < c.generators → get_or j.slack (o + k) 0 ≡ get_or c.slack k 0
  pub pmin : (k : ℕ) → k < c.generators → at j.pmin (o + k) ≡ at c.pmin k
  pub pmax : (k : ℕ) → k < c.generators → at j.pmax (o + k) ≡ at c.pmax k
  pub c1 : (k : ℕ) → k < c.generators → at j.c1 (o + k) ≡ at c.c1 k
  pub c2 : (k : ℕ) → k < c.generators → at j.c2 (o + k) ≡ at c.c2 k
  pub end_a_holds : (k : ℕ) → k < c.corridors → end_a j (m + k) ≡ b + end_a c k
  pub end_b_holds : (k : ℕ) → k < c.corridors → end_b j (m + k) ≡ b + end_b c k
  pub circuits : (k : ℕ) → k < c.corridors → get_or j.circuits (m + k) 0 ≡ get_or c.circuits k 0
  pub km : (k : ℕ) → k < c.corridors → at j.km (m + k) ≡ at c.km k
  pub share : (k : ℕ) → k < c.corridors → at j.share (m + k) ≡ at c.share k
  pub cap : (k : ℕ) → k < c.corridors → own_cap j (m + k) ≡ own_cap c k
  pub row : (k l : ℕ) → k < c.corridors → l < levels c → row_at j (m + k) l ≡ row_at c k l

-- ---- a place of two lists one after the other
module _ {A : Type 0} (x y : List A) (d : A) where
  pub first_at : (i : ℕ) → i < length x → get_or (x ++ y) (0 + i) d ≡ get_or x i d
  first_at i h = ap (λ (k : ℕ). get_or (x ++ y) k d) (let z : 0 + i ≡ i = omega arith in z) ∙ get_or-append x y d i h

  pub second_at : (n i : ℕ) → length x ≡ n → get_or (x ++ y) (n + i) d ≡ get_or y i d
  second_at n i e = ap (λ (k : ℕ). get_or (x ++ y) (k + i) d) (sym e) ∙ get_or-append-add x y i d

pub moved_first : (x y : List ℕ) (i : ℕ) → i < length x → get_or (x ++ y) (0 + i) 0 ≡ 0 + get_or x i 0
moved_first x y i h = first_at x y 0 i h ∙ (let z : get_or x i 0 ≡ 0 + get_or x i 0 = omega arith in z)

pub moved_second : (x y : List ℕ) (b n i : ℕ) → length x ≡ n → i < length y → get_or (x ++ moved b y) (n + i) 0 ≡ b + get_or y i 0
moved_second x y b n i e h = second_at x (moved b y) 0 n i e ∙ get_map (λ k. b + k) y i 0 0 h

-- ---- the same mode, requested levels and count of levels
tops_up_lem : (mode : PlanMode) → tops_up mode ≡ leb 3 (mode_number mode)
unfolding mode_number
tops_up_lem Expand = refl
tops_up_lem Reinforce = refl
tops_up_lem Observe = refl
tops_up_lem ExpandServing = refl
tops_up_lem ReinforceServing = refl
tops_up_lem ObserveServing = refl

module _ (c d : Case) (t u : ℕ) (C : Accepted c t) (D : Accepted d u) (same : alike c d ≡ true) where
  abbrev joined : Case
  joined = joined_case c d

  same_tops : tops_up c.mode ≡ tops_up d.mode
  unfolding alike
  same_tops =
      tops_up_lem c.mode ∙ ap (leb 3) (eqb-true (mode_number c.mode) (mode_number d.mode) (both (eqb (mode_number c.mode) (mode_number d.mode)) _ same).0) ∙ sym (tops_up_lem d.mode)

  -- ---- the sheet's rows: a corridor's row at a level is the row it had
  first_row : (k l : ℕ) → k < c.corridors → l < levels c → row_at joined (0 + k) l ≡ row_at c k l
  unfolding row_at joined_case joined_row
  first_row k l h q =
      ap (λ (i : ℕ). cond (ltb i c.corridors) (c.row i l) (d.row (i - c.corridors) l)) (let z : 0 + k ≡ k = omega arith in z)
      ∙ ap (λ (b : Bool). cond b (c.row k l) (d.row (k - c.corridors) l)) (lt-ltb k c.corridors h)

  second_row : (k l : ℕ) → k < d.corridors → l < levels d → row_at joined (c.corridors + k) l ≡ row_at d k l
  unfolding row_at joined_case joined_row
  second_row k l h q =
      ap (λ (b : Bool). cond b (c.row (c.corridors + k) l) (d.row (c.corridors + k - c.corridors) l)) (le-ltb (c.corridors + k) c.corridors (omega arith))
      ∙ ap (λ (i : ℕ). d.row i l) (let z : c.corridors + k - c.corridors ≡ k = omega arith in z)

  -- ---- both are within
  pub first_within : LiesIn c joined 0 0 0
  unfolding joined_case
  first_within =
      record {
        tops = refl;
        requested = refl;
        same_levels = refl;
        buses = omega arith;
        tier = λ i h. first_at c.tier d.tier 0 i (omega (arith, C.columns.tier));
        reading = λ i h. first_at c.reading d.reading nan i (omega (arith, C.columns.reading));
        weight = λ i h. first_at c.weight d.weight nan i (omega (arith, C.columns.weight));
        load = λ i h. first_at c.load d.load nan i (omega (arith, C.columns.load));
        bus = λ k h. moved_first c.bus (moved c.buses d.bus) k (omega (arith, C.columns.bus));
        slack = λ k h. first_at c.slack d.slack 0 k (omega (arith, C.columns.slack));
        pmin = λ k h. first_at c.pmin d.pmin nan k (omega (arith, C.columns.pmin));
        pmax = λ k h. first_at c.pmax d.pmax nan k (omega (arith, C.columns.pmax));
        c1 = λ k h. first_at c.c1 d.c1 nan k (omega (arith, C.columns.c1));
        c2 = λ k h. first_at c.c2 d.c2 nan k (omega (arith, C.columns.c2));
        end_a_holds = λ k h. moved_first c.a (moved c.buses d.a) k (omega (arith, C.columns.a));
        end_b_holds = λ k h. moved_first c.b (moved c.buses d.b) k (omega (arith, C.columns.b));
        circuits = λ k h. first_at c.circuits d.circuits 0 k (omega (arith, C.columns.circuits));
        km = λ k h. first_at c.km d.km nan k (omega (arith, C.columns.km));
        share = λ k h. first_at c.share d.share nan k (omega (arith, C.columns.share));
        cap = λ k h. first_at c.cap d.cap 0 k (omega (arith, C.columns.cap));
        row = first_row;
      }

  pub second_within : LiesIn d joined c.buses c.generators c.corridors
  unfolding joined_case
  second_within =
      record {
        tops = same_tops;
        requested = same_requested c d same;
        same_levels = levels_same c d same t u C D;
        buses = omega arith;
        tier = λ i h. second_at c.tier d.tier 0 c.buses i C.columns.tier;
        reading = λ i h. second_at c.reading d.reading nan c.buses i C.columns.reading;
        weight = λ i h. second_at c.weight d.weight nan c.buses i C.columns.weight;
        load = λ i h. second_at c.load d.load nan c.buses i C.columns.load;
        bus = λ k h. moved_second c.bus d.bus c.buses c.generators k C.columns.bus (omega (arith, D.columns.bus));
        slack = λ k h. second_at c.slack d.slack 0 c.generators k C.columns.slack;
        pmin = λ k h. second_at c.pmin d.pmin nan c.generators k C.columns.pmin;
        pmax = λ k h. second_at c.pmax d.pmax nan c.generators k C.columns.pmax;
        c1 = λ k h. second_at c.c1 d.c1 nan c.generators k C.columns.c1;
        c2 = λ k h. second_at c.c2 d.c2 nan c.generators k C.columns.c2;
        end_a_holds = λ k h. moved_second c.a d.a c.buses c.corridors k C.columns.a (omega (arith, D.columns.a));
        end_b_holds = λ k h. moved_second c.b d.b c.buses c.corridors k C.columns.b (omega (arith, D.columns.b));
        circuits = λ k h. second_at c.circuits d.circuits 0 c.corridors k C.columns.circuits;
        km = λ k h. second_at c.km d.km nan c.corridors k C.columns.km;
        share = λ k h. second_at c.share d.share nan c.corridors k C.columns.share;
        cap = λ k h. second_at c.cap d.cap 0 c.corridors k C.columns.cap;
        row = second_row;
      }
