-- What a case that passes the check has, and how the check, the filling and the closing figures lift to the whole case and the lent slices.
-- Acceptance is taken apart test by test; a definition reads only fields, so that each lifting is by computing, with the lengths put in.
use Rattle.std.proofs.Common.{◌≡◌, ℕ, ◌+◌, ◌*◌, ◌<◌, ◌≤◌, Bool, true, false, not, ◌&&◌, ◌||◌, eqb, ltb, leb, List, length, get_or, sym, refl, ap, ◌∙◌, subst, arith, leb-true}
use borrow.Author.Tests.{eqb-false, lt-leb}
use lib.Ieee.{Float, lt, le}
use Rattle.loops.specs.Figures.{at, plus, nought, one, half, ten_thousand, million, thousandth, finite, inside}
use Rattle.loops.proofs.Bools.{both}
use Rattle.refusal.specs.declared.Refusal.{Refusal}
use Rattle.impedance.specs.Impedance.{rating_ok}
use Rattle.leaders.specs.Operation.{corridor_ok}
use Rattle.sheets.specs.Sheet.{row_figures}
use Rattle.plan_defs.specs.Constants.{kv_tolerance, most_initial, most_cap}
use Rattle.plan_defs.specs.Case.{Case, levels, kv_of, end_a, end_b, own_cap, Row, row_at}
use Rattle.plan_defs.specs.Accept.{level_ok, generator_ok, corridor_sound, case_check}
use Rattle.plan_defs.specs.Plan.{ending_on, ending_by, plan_for}
use Rattle.plan_defs.specs.Outcome.{Slices, slices_ok, Outcome, outcome, outcome_by, plan_corridors}
use Rattle.plan_defs.proofs.Accepted.{Accepted, accepted, end_a_lem, end_b_lem, bus_below, unit_ok_lem, tier_below, load_inside, initial_few, cap_few, row_inside, row_sound_lem}
use Rattle.plan_defs.proofs.Rows.{row_from_lem}
use Rattle.acceptance.specs.Check.{check_of}
use Rattle.acceptance.proofs.Callers.{tables_of_lem, any_mode}
use Rattle.planning.specs.Design.{Lines, rate_at}
use Rattle.planning.specs.Lent.{places_ok}
use Rattle.planning.specs.Sound.{Sound}
use Rattle.planning.specs.declared.lent.LentPlaces.{LentPlaces}
use Rattle.planning.proofs.Draws.{Laid}
use Rattle.planning.proofs.Ratings.{sheet_rating}
use Rattle.std.specs.Prelude.{Err, Ok, Result}
use Rattle.refusal.specs.Reply.{no_refusal}
use Rattle.planning.specs.Tables.{grid_of}

-- ---- what the tests of one row say
module _ (c : Case) (target : ℕ) (ok : Accepted c target) where
  kv_inside : (i : ℕ) → i < levels c → (lt nought (kv_of c i) && le (kv_of c i) ten_thousand) ≡ true
  unfolding level_ok
  kv_inside i h = (both (lt nought (kv_of c i) && le (kv_of c i) ten_thousand) _ (ok.level_ok_holds i h)).0

  kv_falls : (i : ℕ) → i + 1 < levels c → lt (plus (kv_of c (i + 1)) kv_tolerance) (kv_of c i) ≡ true
  unfolding level_ok
  kv_falls i h =
      let p = (both (lt nought (kv_of c i) && le (kv_of c i) ten_thousand) _ (ok.level_ok_holds i (omega arith))).1 in
      ap (λ (b : Bool). b || lt (plus (kv_of c (i + 1)) kv_tolerance) (kv_of c i)) (sym (lt-leb (levels c) (i + 1) h)) ∙ p

  slack_bit : (k : ℕ) → k < c.generators → get_or c.slack k 0 ≤ 1
  unfolding generator_ok
  slack_bit k h =
      leb-true _ _ (both (ltb (get_or c.bus k 0) c.buses) _ (both (ltb (get_or c.bus k 0) c.buses && leb (get_or c.slack k 0) 1) _ (ok.generator_ok_holds k h)).0).1

  module _ (k : ℕ) (h : k < c.corridors) where
    ends_ok : corridor_ok c.buses (end_a c k) (end_b c k) ≡ true
    unfolding corridor_sound
    ends_ok = (both (corridor_ok c.buses (end_a c k) (end_b c k)) _ (ok.corridor_ok_holds k h)).0

    ends_apart : end_a c k ≡ end_b c k → ⊥
    ends_apart = eqb-false _ _ (not_true_of (eqb (end_a c k) (end_b c k)) (both (ltb (end_a c k) c.buses && ltb (end_b c k) c.buses) _ ends_ok).1)
      where
        not_true_of : (b : Bool) → not b ≡ true → b ≡ false
        not_true_of true e = sym e
        not_true_of false e = refl

    figures_ok : (inside nought ten_thousand (at c.km k) && (inside half one (at c.share k) && leb (own_cap c k) most_cap)) ≡ true
    unfolding corridor_sound
    figures_ok = (both (leb (get_or c.circuits k 0) most_initial) _ (both (corridor_ok c.buses (end_a c k) (end_b c k)) _ (ok.corridor_ok_holds k h)).1).1

  row_rating : (k l : ℕ) → k < c.corridors → l < levels c → rating_ok (row_at c k l).rate ≡ true
  row_rating k l h q =
      let w = row_at c k l in
      let p = (both (le nought w.r && finite w.r) _ (row_sound_lem c target ok k l h q)).1 in
      let r = (both (lt nought w.x && finite w.x) _ p).1 in
      let s = (both (le nought w.b && finite w.b) _ r).1 in
      sheet_rating w.rate (both (inside thousandth million w.rate) _ s).0

  sound_of : Sound c target
  sound_of =
      record {
        ladder_size = ok.columns.ladder;
        tier_size = ok.columns.tier;
        load_size = ok.columns.load;
        bus_size = ok.columns.bus;
        slack_size = ok.columns.slack;
        pmin_size = ok.columns.pmin;
        pmax_size = ok.columns.pmax;
        c1_size = ok.columns.c1;
        c2_size = ok.columns.c2;
        a_size = ok.columns.a;
        b_size = ok.columns.b;
        circuits_size = ok.columns.circuits;
        km_size = ok.columns.km;
        share_size = ok.columns.share;
        cap_size = ok.columns.cap;
        sheet_size = ok.columns.sheet;
        few_buses = ok.counts.few_buses;
        few_corridors = ok.counts.few_corridors;
        few_generators = ok.counts.few_generators;
        some_level = ok.counts.some_level;
        few_levels = ok.counts.few_levels;
        low_target = ok.counts.low_target;
        kv_inside = kv_inside;
        kv_falls = kv_falls;
        tier_below = tier_below c target ok;
        load_inside = load_inside c target ok;
        bus_below = bus_below c target ok;
        slack_bit = slack_bit;
        unit_ok_holds = unit_ok_lem c target ok;
        ends_ok = ends_ok;
        end_a_holds = end_a_lem c target ok;
        end_b_holds = end_b_lem c target ok;
        ends_apart = ends_apart;
        initial_few = initial_few c target ok;
        km_inside = λ k h. (both (inside nought ten_thousand (at c.km k)) _ (figures_ok k h)).0;
        share_inside = λ k h. (both (inside half one (at c.share k)) _ (both (inside nought ten_thousand (at c.km k)) _ (figures_ok k h)).1).0;
        cap_few = cap_few c target ok;
        row_inside = row_inside c target ok;
        row_sound_holds = row_sound_lem c target ok;
        row_rating = row_rating;
      }

-- an accepted case is sound
pub sound : (c : Case) (target : ℕ) → case_check c target ≡ no_refusal → Sound c target
sound c target e = sound_of c target (accepted c target e)

-- ---- the lent slices
-- how many places they have, as `places_ok` is told
abbrev pub places_of : Slices → LentPlaces
places_of s =
    record {
      circuits = length s.circuits;
      flow = length s.flow;
      rate = length s.rate;
      before = length s.before;
      order = length s.order;
      cap = length s.cap;
      mw = length s.mw;
      angle = length s.angle;
      tier = length s.tier;
      ground = length s.ground;
      added = length s.added;
      figures = length s.figures;
      counts = length s.counts;
    }

-- ---- the check
module _ (c : Case) (target : ℕ) (s : Slices) where
  -- with 1 of the lent slices as the definition tests it
  pub checked : (x : Result (Unit {0}) Refusal) (fits : Bool) → fits ≡ places_ok c.buses c.corridors c.generators c.above (places_of s)
      → x ≡ check_of fits (tables_of_lem c) target → x ≡ check_of (slices_ok c s) (tables_of_lem c) target
  unfolding slices_ok
  checked x fits e k = k ∙ ap (λ (b : Bool). check_of b (tables_of_lem c) target) e

  -- what the check says decides: its refusal, with every slice as it was, or the plan
  abbrev ended : Result (Unit {0}) Refusal → Outcome
  ended (Err f) = outcome (Err f) s
  ended (Ok tt) = outcome_by (ending_on (plan_for c target)) c s

  pub ended_lem : (x : Result (Unit {0}) Refusal) → x ≡ check_of (slices_ok c s) (tables_of_lem c) target → ended x ≡ plan_corridors c target s
  unfolding plan_corridors outcome_by
  ended_lem x e = by_check x ∙ ap (λ (o : Result (Unit {0}) Refusal). outcome_by (ending_by o c target) c s) (e ∙ any_mode (slices_ok c s) c target)
    where
      by_check : (o : Result (Unit {0}) Refusal) → ended o ≡ outcome_by (ending_by o c target) c s
      by_check (Err f) = refl
      by_check (Ok tt) = refl

-- ---- the columns that a design reads, at levels on the ladder
pub lines_of : (c : Case) (target : ℕ) → Sound c target → (sheet : List Float) → Laid c sheet → length sheet ≡ c.figures → (level : List ℕ) → length level ≡ c.buses
    → ((i : ℕ) → i < c.buses → get_or level i 0 < levels c) → Lines (grid_of c.ladder c.a c.b c.km c.share c.cap sheet) level
unfolding row_at
lines_of c target s sheet laid figures level e on =
    let m = s.a_size in
    record {
      b_size = s.b_size ∙ sym m;
      km_size = s.km_size ∙ sym m;
      share_size = s.share_size ∙ sym m;
      sheet_size = figures ∙ s.sheet_size ∙ sheet_is;
      a_below = λ k h. omega (arith, s.end_a_holds k (omega (arith, m)));
      b_below = λ k h. omega (arith, s.end_b_holds k (omega (arith, m)));
      level_below = λ i h. omega (arith, on i (omega arith), s.ladder_size);
      rates = λ k l h q.
          subst (λ (n : ℕ). rating_ok (rate_at n sheet k l) ≡ true) (sym m) (rating k l (omega (arith, m)) (omega (arith, s.ladder_size)));
    }
  where
    sheet_is : row_figures * (c.corridors * levels c) ≡ row_figures * (length c.a * length c.ladder)
    sheet_is =
        ap (λ (n : ℕ). row_figures * (n * levels c)) (sym s.a_size) ∙ ap (λ (n : ℕ). row_figures * (length c.a * n)) (sym s.ladder_size)

    rating : (k l : ℕ) → k < c.corridors → l < levels c → rating_ok (rate_at c.corridors sheet k l) ≡ true
    rating k l h q =
        subst (λ (w : Row). rating_ok w.rate ≡ true)
        (sym (ap (λ (row : ℕ → ℕ → Row). row k l) laid) ∙ row_from_lem c.corridors (levels c) sheet k l h q) (s.row_rating k l h q)
