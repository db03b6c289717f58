-- The orders of planning are sorts: the filling order by loading falling, kV falling, length rising and index, and the gains of stiffening by gain falling and
-- index. Each is in order, names each corridor that it should once and no other, and is the only such list: what the Rust's `sort_by` leaves.
-- Both put corridors in by ascending index, and one law covers both (`ranked`, `ranked_only`).
use Prim.Native.Nat.{ℕ, zero, suc, ◌+◌, ◌≤◌, ◌<◌}
use mathlib.Core.Bool.{Bool, true, false, cond, ◌&&◌, ◌||◌}
use mathlib.Core.List.{List, [], ◌∷◌, map}
use mathlib.Core.Path.{◌≡◌, refl, sym, ap, ◌∙◌, subst}
use native.Mathlib.Omega.{arith}
use native.Mathlib.Decide.{ℕ_discrete}
use borrow.Author.Tests.{ltb-true, ltb-false, le-ltb}
use lib.Arith.{lt_of_le-ne}
use lib.Dec.{T, ltb}
use lib.Ieee.{Float, lt, eq}
use Rattle.loops.specs.Figures.{nought}
use Rattle.loops.specs.Loops.{iter}
use Rattle.loops.specs.Sorting.{insert_by, insert_all, occ, Sorted}
use Rattle.loops.proofs.Bools.{both}
use Rattle.loops.proofs.Inserted.{inserted_map, all_inserted_map}
use Rattle.loops.proofs.Order.{real, le_of_lt, right_real}
use Rattle.loops.proofs.Sorting.{same_yes, same_no, all_occ, Strict, Ascending, sorted, only, by_index, then_by_lem, falling, rising}
use Rattle.plan_defs.specs.Lists.{keep, pass_from, passing}
use Rattle.plan_defs.specs.Design.{design}
use Rattle.plan_defs.specs.Fill.{loading_at, rank_at, before, corridors_in, order_of}
use Rattle.plan_defs.specs.Stiffen.{Gain, gain_of, larger, insert_if, gains}
use Rattle.plan_defs.specs.declared.CircuitDesign.{CircuitDesign}

-- ---- the indices below m that pass a test, each once
abbrev pub once : (ℕ → Bool) → ℕ → ℕ → ℕ
once p m j = cond (ltb j m && p j) 1 0

pass_before : (p : ℕ → Bool) (d i j : ℕ) → j < i → occ j (pass_from p d i) ≡ 0
unfolding pass_from occ
pass_before p zero i j h = refl
pass_before p (suc d) i j h = go (p i) (pass_before p d (suc i) j (omega arith))
  where
    go : (b : Bool) → occ j (pass_from p d (suc i)) ≡ 0 → occ j (keep b i (pass_from p d (suc i))) ≡ 0
    go true e = omega (arith, same_no j i (λ z. omega arith))
    go false e = e

pass_past : (p : ℕ → Bool) (d i j : ℕ) → i + d ≤ j → occ j (pass_from p d i) ≡ 0
unfolding pass_from occ
pass_past p zero i j h = refl
pass_past p (suc d) i j h = go (p i) (pass_past p d (suc i) j (omega arith))
  where
    go : (b : Bool) → occ j (pass_from p d (suc i)) ≡ 0 → occ j (keep b i (pass_from p d (suc i))) ≡ 0
    go true e = omega (arith, same_no j i (λ z. omega arith))
    go false e = e

pass_here : (p : ℕ → Bool) (d i j : ℕ) → i ≤ j → j < i + d → occ j (pass_from p d i) ≡ cond (p j) 1 0
unfolding pass_from occ
pass_here p zero i j h q = absurd (omega arith)
pass_here p (suc d) i j h q = go (ℕ_discrete j i) (p i) refl (λ l. pass_here p d (suc i) j l (omega arith))
  where
    go : Dec (j ≡ i) → (b : Bool) → p i ≡ b → (suc i ≤ j → occ j (pass_from p d (suc i)) ≡ cond (p j) 1 0)
        → occ j (keep b i (pass_from p d (suc i))) ≡ cond (p j) 1 0
    go (yes e) true g r =
        let x : ◌≡◌ {A = ℕ} (cond (p j) 1 0) 1 = ap (λ (k : ℕ). cond (p k) 1 0) e ∙ rw g in
        omega (arith, same_yes j i e, pass_before p d (suc i) j (omega arith))
    go (yes e) false g r =
        let x : ◌≡◌ {A = ℕ} (cond (p j) 1 0) 0 = ap (λ (k : ℕ). cond (p k) 1 0) e ∙ rw g in
        omega (arith, pass_before p d (suc i) j (omega arith))
    go (no n) true g r = omega (arith, same_no j i n, r (lt_of_le-ne h (λ e. n (sym e))))
    go (no n) false g r = r (lt_of_le-ne h (λ e. n (sym e)))

pass_once : (p : ℕ → Bool) (m j : ℕ) → occ j (passing p m) ≡ once p m j
pass_once p m j = go (ltb j m) refl
  where
    go : (b : Bool) → ltb j m ≡ b → occ j (pass_from p m 0) ≡ cond (b && p j) 1 0
    go true e = pass_here p m 0 j (omega arith) (omega (arith, ltb-true j m e))
    go false e = pass_past p m 0 j (omega (arith, ltb-false j m e))

-- ---- one law for both
module _ (Fine : ℕ → Type 0) (ahead comes : ℕ → ℕ → Bool) (S : Strict Fine ahead) (agree : (j k : ℕ) → j < k → comes k j ≡ ahead k j) (p : ℕ → Bool) (m : ℕ)
    (fine : (k : ℕ) → k < m → p k ≡ true → Fine k) where
  ascends : (d i : ℕ) → i + d ≤ m → Ascending Fine i (pass_from p d i)
  unfolding pass_from Ascending
  ascends zero i h = tt
  ascends (suc d) i h = go (p i) refl (ascends d (suc i) (omega arith))
    where
      weaker : (ks : List ℕ) → Ascending Fine (suc i) ks → Ascending Fine i ks
      weaker [] a = tt
      weaker (k ∷ ks) a = (omega (arith, a.0), a.1, a.2)

      go : (b : Bool) → p i ≡ b → Ascending Fine (suc i) (pass_from p d (suc i)) → Ascending Fine i (keep b i (pass_from p d (suc i)))
      go true e r = (omega arith, fine i (omega arith) e, r)
      go false e r = weaker (pass_from p d (suc i)) r

  pub ranked : Sorted ahead (once p m) (insert_all comes (passing p m) [])
  ranked =
      let s = sorted Fine ahead comes S agree 0 (passing p m) (ascends m 0 (omega arith)) in
      record { in_order = s.in_order; names = λ j. s.names j ∙ pass_once p m j }

  named_fine : (j : ℕ) → 0 < once p m j → Fine j
  named_fine j h = go (ltb j m) (p j) refl refl h
    where
      go : (a b : Bool) → ltb j m ≡ a → p j ≡ b → 0 < cond (a && b) 1 0 → Fine j
      go true true e f q = fine j (ltb-true j m e) f
      go true false e f q = absurd (omega arith)
      go false b e f q = absurd (omega arith)

  pub ranked_only : (ks : List ℕ) → Sorted ahead (once p m) ks → ks ≡ insert_all comes (passing p m) []
  ranked_only ks s = only Fine ahead S (once p m) ks (insert_all comes (passing p m) []) named_fine s ranked

-- what a tie leaves to the index is nothing where the index is higher
pub last_out : (e f g : Bool) → g ≡ false → e ≡ (e || (f && g))
last_out true f g h = refl
last_out false true g h = sym h
last_out false false g h = refl

-- ---- the filling order
abbrev pub every : ℕ → Bool
every k = true

-- indices put in one after another are all put in
pub put_in : (comes : ℕ → ℕ → Bool) (d i : ℕ) (l : List ℕ) → iter (insert_by comes) d i l ≡ insert_all comes (pass_from every d i) l
unfolding iter pass_from insert_all
put_in comes zero i l = refl
put_in comes (suc d) i l = put_in comes d (suc i) (insert_by comes i l)

module _ (ds : List CircuitDesign) (counts : List ℕ) (flows : List Float) where
  abbrev load : ℕ → Float
  load k = loading_at ds counts flows k

  abbrev kv : ℕ → Float
  kv k = (design ds k).kv

  abbrev km : ℕ → Float
  km k = (design ds k).length_km

  -- no figure by which a corridor is ranked is a NaN
  pub record Real (k : ℕ) : Type 0 where
    pub loading : T (real (load k))
    pub kilovolts : T (real (kv k))
    pub length : T (real (km k))

  -- the Rust's comparison: loading falling, kV falling, length rising, index
  abbrev pub ahead_in_order : ℕ → ℕ → Bool
  ahead_in_order i j =
      lt (load j) (load i)
      || (eq (load j) (load i) && (lt (kv j) (kv i) || (eq (kv j) (kv i) && (lt (km i) (km j) || (eq (km i) (km j) && ltb i j)))))

  order_strict : Strict Real ahead_in_order
  order_strict =
      then_by_lem Real (λ i j. lt (load j) (load i)) (λ i j. eq (load j) (load i))
      (λ i j. lt (kv j) (kv i) || (eq (kv j) (kv i) && (lt (km i) (km j) || (eq (km i) (km j) && ltb i j))))
      (falling Real load (λ i r. r.loading))
      (then_by_lem Real (λ i j. lt (kv j) (kv i)) (λ i j. eq (kv j) (kv i)) (λ i j. lt (km i) (km j) || (eq (km i) (km j) && ltb i j))
      (falling Real kv (λ i r. r.kilovolts))
      (then_by_lem Real (λ i j. lt (km i) (km j)) (λ i j. eq (km i) (km j)) (λ i j. ltb i j) (rising Real km (λ i r. r.length)) (by_index Real)))

  abbrev pub comes_in_order : ℕ → ℕ → Bool
  comes_in_order k j = before (rank_at ds counts flows k) (rank_at ds counts flows j)

  order_agrees : (j k : ℕ) → j < k → comes_in_order k j ≡ ahead_in_order k j
  order_agrees j k h =
      ap (λ (x : Bool). lt (load j) (load k) || (eq (load j) (load k) && (lt (kv j) (kv k) || (eq (kv j) (kv k) && x))))
      (last_out (lt (km k) (km j)) (eq (km k) (km j)) (ltb k j) (le-ltb k j (omega arith)))

  corridors_back : (l : List ℕ) → corridors_in (map (rank_at ds counts flows) l) ≡ l
  unfolding corridors_in
  corridors_back [] = refl
  corridors_back (k ∷ l) = ap (λ (x : List ℕ). k ∷ x) (corridors_back l)

  -- by index: the ranks are those of the indices put in
  pub order_inserted : (m : ℕ) → order_of m ds counts flows ≡ iter (insert_by comes_in_order) m 0 []
  unfolding order_of
  order_inserted m = ap corridors_in (all_inserted_map (rank_at ds counts flows) before m 0 []) ∙ corridors_back (iter (insert_by comes_in_order) m 0 [])

  order_is : (m : ℕ) → order_of m ds counts flows ≡ insert_all comes_in_order (passing every m) []
  order_is m = order_inserted m ∙ put_in comes_in_order m 0 []

  -- each corridor once, whatever the figures are
  pub order_once : (m j : ℕ) → j < m → occ j (order_of m ds counts flows) ≡ 1
  unfolding occ
  order_once m j h =
      ap (λ (l : List ℕ). occ j l) (order_is m)
      ∙ omega (arith, all_occ comes_in_order j (passing every m) [], pass_here every m 0 j (omega arith) (omega arith))

  -- and nothing else
  pub order_past : (m j : ℕ) → m ≤ j → occ j (order_of m ds counts flows) ≡ 0
  unfolding occ
  order_past m j h =
      ap (λ (l : List ℕ). occ j l) (order_is m) ∙ omega (arith, all_occ comes_in_order j (passing every m) [], pass_past every m 0 j (omega arith))

  -- the theorem: where no figure is a NaN, at which the Rust's comparison would panic
  module _ (m : ℕ) (no_nan : (k : ℕ) → k < m → Real k) where
    pub order_sorted : Sorted ahead_in_order (once every m) (order_of m ds counts flows)
    order_sorted =
        subst (Sorted ahead_in_order (once every m)) (sym (order_is m))
        (ranked Real ahead_in_order comes_in_order order_strict order_agrees every m (λ k h e. no_nan k h))

    pub order_only : (ks : List ℕ) → Sorted ahead_in_order (once every m) ks → ks ≡ order_of m ds counts flows
    order_only ks s =
        ranked_only Real ahead_in_order comes_in_order order_strict order_agrees every m (λ k h e. no_nan k h) ks s ∙ sym (order_is m)

-- ---- the gains of stiffening: only those above 0 are kept, and a NaN is not
module _ (ds : List CircuitDesign) (theta phi : List Float) where
  abbrev gain_at : ℕ → Float
  gain_at k = gain_of theta phi (design ds k)

  abbrev gain_for : ℕ → Gain
  gain_for k = record { gain = gain_at k; corridor = k }

  abbrev RealGain : ℕ → Type 0
  RealGain k = T (real (gain_at k))

  -- the Rust's comparison: gain falling, index
  abbrev pub ahead_in_gain : ℕ → ℕ → Bool
  ahead_in_gain i j = lt (gain_at j) (gain_at i) || (eq (gain_at j) (gain_at i) && ltb i j)

  gains_strict : Strict RealGain ahead_in_gain
  gains_strict =
      then_by_lem RealGain (λ i j. lt (gain_at j) (gain_at i)) (λ i j. eq (gain_at j) (gain_at i)) (λ i j. ltb i j) (falling RealGain gain_at (λ i r. r)) (by_index RealGain)

  abbrev comes_in_gain : ℕ → ℕ → Bool
  comes_in_gain k j = lt (gain_at j) (gain_at k)

  gains_agree : (j k : ℕ) → j < k → comes_in_gain k j ≡ ahead_in_gain k j
  gains_agree j k h = last_out (lt (gain_at j) (gain_at k)) (eq (gain_at j) (gain_at k)) (ltb k j) (le-ltb k j (omega arith))

  -- those of the candidates whose gain is above 0
  abbrev gaining : (ℕ → Bool) → ℕ → Bool
  gaining p k = p k && lt nought (gain_at k)

  gains_by : (p : ℕ → Bool) (d i : ℕ) (l : List ℕ)
      → gains ds theta phi (pass_from p d i) (map gain_for l) ≡ map gain_for (insert_all comes_in_gain (pass_from (gaining p) d i) l)
  unfolding gains pass_from insert_all
  gains_by p zero i l = refl
  gains_by p (suc d) i l = go (p i) (lt nought (gain_at i)) refl (λ k. gains_by p d (suc i) k)
    where
      go : (b c : Bool) → lt nought (gain_at i) ≡ c
          → ((k : List ℕ) → gains ds theta phi (pass_from p d (suc i)) (map gain_for k) ≡ map gain_for (insert_all comes_in_gain (pass_from (gaining p) d (suc i)) k))
          → gains ds theta phi (keep b i (pass_from p d (suc i))) (map gain_for l) ≡ map gain_for (insert_all comes_in_gain (keep (b && c) i (pass_from (gaining p) d (suc i))) l)
      go false c e r = r l
      go true true e r =
          ap (λ (t : Bool). gains ds theta phi (pass_from p d (suc i)) (insert_if t (gain_for i) (map gain_for l))) e
          ∙ ap (λ (x : List Gain). gains ds theta phi (pass_from p d (suc i)) x) (inserted_map gain_for larger i l)
          ∙ r (insert_by comes_in_gain i l)
      go true false e r = ap (λ (t : Bool). gains ds theta phi (pass_from p d (suc i)) (insert_if t (gain_for i) (map gain_for l))) e ∙ r l

  gainers_back : (l : List ℕ) → map (λ (g : Gain). g.corridor) (map gain_for l) ≡ l
  gainers_back [] = refl
  gainers_back (k ∷ l) = ap (λ (x : List ℕ). k ∷ x) (gainers_back l)

  -- the corridors of the gains, in their order
  abbrev pub gainers : (ℕ → Bool) → ℕ → List ℕ
  gainers p m = map (λ (g : Gain). g.corridor) (gains ds theta phi (passing p m) [])

  gainers_are : (p : ℕ → Bool) (m : ℕ) → gainers p m ≡ insert_all comes_in_gain (passing (gaining p) m) []
  gainers_are p m = ap (λ (l : List Gain). map (λ (g : Gain). g.corridor) l) (gains_by p m 0 []) ∙ gainers_back (insert_all comes_in_gain (passing (gaining p) m) [])

  above_real : (p : ℕ → Bool) (k : ℕ) → gaining p k ≡ true → RealGain k
  above_real p k e = right_real nought (gain_at k) (le_of_lt nought (gain_at k) (both (p k) (lt nought (gain_at k)) e).1)

  -- the theorem: of the candidates below m
  pub gains_sorted : (p : ℕ → Bool) (m : ℕ) → Sorted ahead_in_gain (once (gaining p) m) (gainers p m)
  gains_sorted p m =
      subst (Sorted ahead_in_gain (once (gaining p) m)) (sym (gainers_are p m))
      (ranked RealGain ahead_in_gain comes_in_gain gains_strict gains_agree (gaining p) m (λ k h e. above_real p k e))

  pub gains_only : (p : ℕ → Bool) (m : ℕ) (ks : List ℕ) → Sorted ahead_in_gain (once (gaining p) m) ks → ks ≡ gainers p m
  gains_only p m ks s =
      ranked_only RealGain ahead_in_gain comes_in_gain gains_strict gains_agree (gaining p) m (λ k h e. above_real p k e) ks s ∙ sym (gainers_are p m)
