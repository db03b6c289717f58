-- The theorems of document 02's K9: each small network is an accepted case, no two places give the same case, and the place of each is worked out.
-- Beside them: every network of the request has its place (Places), and the file of each case reads back as it.
use Prim.Native.Nat.{ℕ, zero, suc, ◌*◌, ◌<◌}
use mathlib.Core.Bool.{true, false}
use mathlib.Core.List.{[], ◌∷◌}
use mathlib.Core.Path.{◌≡◌, refl, sym, ap, ◌∙◌, subst}
use native.Mathlib.Omega.{arith}
use lib.Dec.{lit<}
use lib.ListN.{get_or, length-replicate, get_or-replicate}
use Rattle.loops.specs.Figures.{nought, one}
use Rattle.refusal.specs.Reply.{answered, no_refusal}
use Rattle.casefile_defs.specs.Bounds.{most_levels, most_buses, most_generators, most_corridors, most_sheet, row_figures}
use Rattle.casefile_defs.specs.Layout.{up_to, u8, u16, allowed}
use Rattle.casefile_defs.specs.Tables.{Places, Outcome, sizes_ok, read_case}
use Rattle.casefile_defs.specs.declared.Header.{Header}
use Rattle.casefile_theorems.specs.Writer.{caps_only}
use Rattle.casefile_theorems.specs.Cases.{Sheet, CaseTables}
use Rattle.casefile_theorems.proofs.Theorems.{case_back, caps_legal}
use Rattle.plan_defs.specs.Accept.{case_check}
use Rattle.plan_defs.proofs.Accepted.{Accepted, accepted}
use Rattle.small_defs.specs.Networks.{all_places, network_at}
use Rattle.small_defs.specs.Tables.{header_of, columns_of, laid_out, header_at, tables_at}
use Rattle.small.proofs.Whole.{places_same}
use Rattle.small_theorems.specs.Inverse.{place_for}
use Rattle.case_defs.specs.Cases.{case_as, case_in}
use Rattle.casefile_theorems.specs.Cases.{fronts}
use Rattle.small_theorems.specs.Held.{network_with, network_in, file_at}
use Rattle.small_theorems.proofs.Accepted.{sound_at}
use Rattle.small_theorems.proofs.Tables.{padded_get, padded_front, low_get, low_same, numbers_held, one_fits, same_fit, loads_fit, figures_held, sheet_held}

slack_bound : (j : ℕ) → allowed (up_to 1) (get_or (1 ∷ []) j 0) ≡ true
slack_bound zero = refl
slack_bound (suc j) = refl

module _ (i : ℕ) (below : i < all_places) where
  abbrev columns : Places
  columns = columns_of (network_at i)

  taken : Accepted (case_as (header_at i) columns) (header_at i).target
  taken = accepted (case_as (header_at i) columns) (header_at i).target (sound_at i below).accepted

  -- ---- the tables hold the columns
  held : fronts (header_at i) (tables_at i) ≡ columns
  unfolding laid_out header_of columns_of
  held =
      let k = taken.columns in
      let n = (header_at i).buses in
      let m = (header_at i).corridors in
      let few = taken.counts.few_buses in
      let some = taken.counts.few_corridors in
      places_same
      (padded_front nought most_levels columns.ladder (omega (arith, k.ladder)) 1 k.ladder)
      (padded_front 0 most_buses columns.tier (omega (arith, k.tier)) n k.tier)
      (padded_front nought most_buses columns.reading (omega (arith, k.reading)) n k.reading)
      (padded_front nought most_buses columns.weight (omega (arith, k.weight)) n k.weight)
      (padded_front 0 most_generators columns.bus (omega (arith, k.bus)) 1 k.bus)
      (padded_front 0 most_generators columns.slack (omega (arith, k.slack)) 1 k.slack)
      (padded_front nought most_generators columns.pmin (omega (arith, k.pmin)) 1 k.pmin)
      (padded_front nought most_generators columns.pmax (omega (arith, k.pmax)) 1 k.pmax)
      (padded_front nought most_generators columns.c1 (omega (arith, k.c1)) 1 k.c1)
      (padded_front nought most_generators columns.c2 (omega (arith, k.c2)) 1 k.c2)
      (padded_front 0 most_corridors columns.a (omega (arith, k.a)) m k.a)
      (padded_front 0 most_corridors columns.b (omega (arith, k.b)) m k.b)
      (padded_front 0 most_corridors columns.circuits (omega (arith, k.circuits)) m k.circuits)
      (padded_front nought most_corridors columns.length_km (omega (arith, k.km)) m k.km)
      (padded_front nought most_corridors columns.share (omega (arith, k.share)) m k.share)
      (padded_front 0 most_corridors columns.cap (omega (arith, length-replicate {A = ℕ} m 0)) m (length-replicate {A = ℕ} m 0))
      (padded_front nought most_sheet columns.sheet (omega (arith, k.sheet)) (m * 1 * row_figures) (k.sheet ∙ (let e : row_figures * (m * 1) ≡ m * 1 * row_figures = omega arith in e)))

  -- each is an accepted case
  pub accepted_case : case_check (case_in (header_at i) (tables_at i)) (header_at i).target ≡ no_refusal
  accepted_case = ap (λ (p : Places). case_check (case_as (header_at i) p) (header_at i).target) held ∙ (sound_at i below).accepted

  -- the place of a case is worked out: it is that of the network that the tables hold
  pub worked_out : place_for (network_in (header_at i) (tables_at i)) ≡ i
  worked_out = ap (λ (p : Places). place_for (network_with (header_at i) p)) held ∙ (sound_at i below).place

  -- a file can hold it
  pub file_case : CaseTables (header_at i) (tables_at i)
  unfolding laid_out header_of columns_of
  file_case =
      let s = sound_at i below in
      let k = taken.columns in
      let n = (header_at i).buses in
      let m = (header_at i).corridors in
      let few = taken.counts.few_buses in
      let some = taken.counts.few_corridors in
      record {
        counts = s.counts;
        ladder = figures_held most_levels 1 columns.ladder refl (omega arith) (one_fits 0x4061_4000_0000_0000);
        tier = numbers_held u8 most_buses n columns.tier k.tier few (lit< tt) (low_same n 0 (omega arith)) (λ j. refl);
        reading = figures_held most_buses n columns.reading k.reading few (loads_fit (network_at i).loaded);
        weight = figures_held most_buses n columns.weight k.weight few (same_fit n 0x3ff0_0000_0000_0000);
        bus = numbers_held u16 most_generators 1 columns.bus refl (omega arith) (lit< tt) (low_get columns.bus refl) (λ j. refl);
        slack = numbers_held (up_to 1) most_generators 1 columns.slack refl (omega arith) (lit< tt) (low_get columns.slack refl) slack_bound;
        pmin = figures_held most_generators 1 columns.pmin refl (omega arith) (one_fits 0);
        pmax = figures_held most_generators 1 columns.pmax refl (omega arith) (one_fits 0x4059_0000_0000_0000);
        c1 = figures_held most_generators 1 columns.c1 refl (omega arith) (one_fits 0x4034_0000_0000_0000);
        c2 = figures_held most_generators 1 columns.c2 refl (omega arith) (one_fits 0x3fd0_0000_0000_0000);
        a = numbers_held u16 most_corridors m columns.a k.a some (lit< tt) (low_get columns.a s.a) (λ j. refl);
        b = numbers_held u16 most_corridors m columns.b k.b some (lit< tt) (low_get columns.b s.b) (λ j. refl);
        circuits = numbers_held u8 most_corridors m columns.circuits k.circuits some (lit< tt) (low_same m 1 (omega arith)) (λ j. refl);
        length_km = figures_held most_corridors m columns.length_km k.km some (same_fit m 0x4024_0000_0000_0000);
        share = figures_held most_corridors m columns.share k.share some (same_fit m 0x3ff0_0000_0000_0000);
        cap = numbers_held u8 most_corridors m columns.cap (length-replicate {A = ℕ} m 0) some (lit< tt) (low_same m 0 (omega arith)) (λ j. refl);
        sheet = subst (λ (n : ℕ). Sheet n (tables_at i).sheet) (let e : m ≡ m * 1 = omega arith in e) (sheet_held m (omega arith));
      }

  -- every weight is 1
  pub weights_one : (j : ℕ) → j < (header_at i).buses → get_or (tables_at i).weight j nought ≡ one
  unfolding laid_out header_of columns_of
  weights_one j b =
      let k = taken.columns.weight in
      let few = taken.counts.few_buses in
      padded_get nought most_buses columns.weight (omega arith) j ∙ get_or-replicate (header_at i).buses j one nought b

  -- and reads back as it
  pub read_back : (q : Places) → sizes_ok q ≡ true → ((read_case (file_at i) q).reply ≡ answered (header_at i)) × ((read_case (file_at i) q).places ≡ tables_at i)
  read_back q z =
      let e = case_back (caps_only false (tables_at i)) (header_at i) (tables_at i) q (caps_legal false (header_at i) (tables_at i) (λ w. weights_one)) file_case z in
      (ap (λ (o : Outcome). o.reply) e, ap (λ (o : Outcome). o.places) e)

-- no two places give the same case
pub once : (i j : ℕ) → i < all_places → j < all_places → header_at i ≡ header_at j → tables_at i ≡ tables_at j → i ≡ j
once i j h g e f =
    sym (worked_out i h)
    ∙ ap (λ (x : Header). place_for (network_in x (tables_at i))) e
    ∙ ap (λ (p : Places). place_for (network_in (header_at j) p)) f
    ∙ worked_out j g
