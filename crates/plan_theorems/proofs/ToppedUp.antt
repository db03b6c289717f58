-- The pass after a dispatch (document 02, K4) goes by c1 rising, then index, to each unit once, and leaves each within its limits.
-- A unit gets the lesser of pmax and a sum that is no less than its MW: rounding is monotone, and pmin is a figure that binary64 holds.
use Prim.Native.Nat.{ℕ, zero, suc, ◌+◌, ◌*◌, ◌<◌, zero-le, suc-le-suc}
use mathlib.Core.Bool.{Bool, true, false, cond, ◌&&◌, ◌||◌}
use mathlib.Core.List.{List, [], ◌∷◌}
use mathlib.Core.Path.{◌≡◌, refl, sym, ap, ◌∙◌, subst}
use native.Mathlib.Nat.{mul-pos}
use native.Mathlib.Omega.{arith}
use native.Mathlib.Decide.{ℕ_discrete}
use borrow.Author.Tests.{eqb-true, lt-ltb, le-ltb}
use lib.IntN.{ℤ}
use lib.Dec.{T, ltb, eqb}
use lib.ListN.{length, set, length-set}
use lib.Seq.{get_or-set_same, get_or-set_other}
use lib.Ieee.{Float, nan, inf, fin, binary64, up, down, below, level, add, lt, eq, le, fits, of_bits}
use lib.Ieee.Fits.{up_pos, down_pos}
use lib.Ieee.Scale.{finite as bounded}
use Rattle.std.specs.List.{All}
use Rattle.std.proofs.lemmas.List.Elements.{All-head, All-tail}
use Rattle.loops.specs.Figures.{at, plus, nought}
use Rattle.loops.specs.Sorting.{insert_all, Sorted}
use Rattle.loops.proofs.Bools.{no as never, both, and_of, or_left}
use Rattle.loops.proofs.Inserted.{all_inserted_below}
use Rattle.loops.proofs.Order.{real, bounded_real, le_of_lt, le_self, inside_bounded}
use Rattle.loops.proofs.Signs.{sound, sound_up, add_sound}
use Rattle.loops.proofs.Sorting.{Strict, by_index, then_by_lem, rising}
use Rattle.loops.proofs.Sums.{Term, le_trans, plus_unsigned, plus_mono, plus_grows}
use Rattle.loops.proofs.Zeros.{nil_product, size_zero}
use Rattle.dispatch_defs.specs.Units.{Units, count}
use Rattle.dispatch_defs.specs.Share.{gap_of}
use Rattle.dispatch_defs.specs.Dispatch.{economic_dispatch}
use Rattle.dispatch_defs.specs.Limits.{Within, SoundUnits}
use Rattle.dispatch_defs.proofs.Prices.{fit_at}
use Rattle.plan_defs.specs.Lists.{passing}
use Rattle.plan_defs.specs.TopUp.{cheaper, by_cost, topped_to, unless_below, topped_if, top_up, given_by}
use Rattle.plan_theorems.proofs.Ranking.{once, every, put_in, ranked, ranked_only, last_out}

-- ---- a zero is at most whatever is not below zero
zero_low : (s t : Bool) (a b : ℕ) → a ≡ 0 → (t ≡ true → b ≡ 0) → (below s a t b || level s a t b) ≡ true
zero_low s t zero zero e h = go s t
  where
    go : (s t : Bool) → (below s 0 t 0 || level s 0 t 0) ≡ true
    go true true = refl
    go true false = refl
    go false true = refl
    go false false = refl
zero_low true false zero (suc b) e h = or_left _ _ (lt-ltb 0 (0 + suc b) (omega arith))
zero_low false false zero (suc b) e h = or_left _ _ (lt-ltb 0 (suc b) (omega arith))
zero_low s true zero (suc b) e h = absurd (let z = h refl in omega arith)
zero_low s t (suc a) b e h = absurd (omega arith)

pub zero_least : (s : Bool) (m : ℕ) (e : ℤ) (y : Float) → m ≡ 0 → T (sound y) → le (fin s m e) y ≡ true
unfolding lt eq le
zero_least s m e nan z g = absurd g
zero_least s m e (inf true) z g = absurd g
zero_least s m e (inf false) z g = refl
zero_least s m e (fin false n d) z g = zero_low s false (m * up e * down d) (n * up d * down e) (nil_product m (up e) (down d) z) (λ h. absurd (never refl h))
zero_least s m e (fin true n d) z g = zero_low s true (m * up e * down d) (n * up d * down e) (nil_product m (up e) (down d) z) (λ h. nil_product n (up d) (down e) (size_zero n g))

-- ---- a sum with a term above zero is no less than what its other term is no less than
below_zero : (m : ℕ) (e : ℤ) (n : ℕ) (d : ℤ) → le (fin false m e) (fin true n d) ≡ true → m ≡ 0
unfolding lt eq le
below_zero zero e n d h = refl
below_zero (suc m) e n d h =
    let a : 0 < suc m * up e * down d = mul-pos (mul-pos (suc-le-suc zero-le) (up_pos e)) (down_pos d) in
    let z : suc m * up e * down d ≡ 0 = eqb-true (suc m * up e * down d) 0 (both (eqb (suc m * up e * down d) (n * up d * down e)) _ h).1 in
    absurd (omega arith)

positive_term : (g : Float) → lt nought g ≡ true → T (bounded g) → Term g
unfolding lt of_bits
positive_term nan h b = absurd b
positive_term (inf s) h b = absurd b
positive_term (fin true n d) h b = absurd (never refl h)
positive_term (fin false n d) h b = (tt, tt)

sum_above : (p x g : Float) → T (bounded p) → T (sound p) → T (fits binary64 p) → T (bounded x) → le p x ≡ true → Term g → le p (plus x g) ≡ true
sum_above nan x g b s f c h t = absurd b
sum_above (inf s) x g b p f c h t = absurd b
sum_above (fin true m e) x g b p f c h t = zero_least true m e (plus x g) (size_zero m p) (add_sound binary64 x g (sound_up (fin true m e) x p h) t.0)
sum_above (fin false m e) nan g b p f c h t = absurd c
sum_above (fin false m e) (inf s) g b p f c h t = absurd c
sum_above (fin false m e) (fin false n d) g b p f c h t =
    le_trans (fin false m e) (plus (fin false m e) g) (plus (fin false n d) g) tt (plus_unsigned (fin false m e) g tt t) (plus_unsigned (fin false n d) g tt t)
    (plus_grows (fin false m e) g tt f t) (plus_mono (fin false m e) (fin false n d) g tt tt t h)
sum_above (fin false m e) (fin true n d) g b p f c h t =
    zero_least false m e (plus (fin true n d) g) (below_zero m e n d h)
    (add_sound binary64 (fin true n d) g (sound_up (fin false m e) (fin true n d) p h) t.0)

-- ---- one unit
term_bounded : (x g pmax : Float) → T (bounded x) → lt nought g ≡ true → lt (plus x g) pmax ≡ true → T (bounded g)
unfolding lt add of_bits
term_bounded nan g pmax b h e = absurd b
term_bounded (inf s) g pmax b h e = absurd b
term_bounded (fin s m d) nan pmax b h e = absurd (never refl h)
term_bounded (fin s m d) (inf true) pmax b h e = absurd (never refl h)
term_bounded (fin s m d) (inf false) nan b h e = absurd (never refl e)
term_bounded (fin s m d) (inf false) (inf t) b h e = absurd (never refl e)
term_bounded (fin s m d) (inf false) (fin t n f) b h e = absurd (never refl e)
term_bounded (fin s m d) (fin t n f) pmax b h e = tt

pub topped_inside : (pmin pmax x g : Float) → le pmin pmax ≡ true → T (bounded pmin) → T (sound pmin) → T (fits binary64 pmin) → T (bounded pmax) → le pmin x ≡ true
    → le x pmax ≡ true → lt nought g ≡ true → (le pmin (topped_to pmax x g) ≡ true) × (le (topped_to pmax x g) pmax ≡ true)
topped_inside pmin pmax x g o b s f c l h p = go (lt (plus x g) pmax) refl
  where
    x_bounded : T (bounded x)
    x_bounded = inside_bounded pmin pmax x b c (and_of l h)

    go : (y : Bool) → lt (plus x g) pmax ≡ y → (le pmin (cond y (plus x g) pmax) ≡ true) × (le (cond y (plus x g) pmax) pmax ≡ true)
    go true e = (sum_above pmin x g b s f x_bounded l (positive_term g p (term_bounded x g pmax x_bounded p e)), le_of_lt (plus x g) pmax e)
    go false e = (o, le_self pmax (bounded_real pmax c))

-- ---- the order: c1 rising, then index, each unit once, and the only such list
module _ (c1 : List Float) where
  abbrev RealCost : ℕ → Type 0
  RealCost k = T (real (at c1 k))

  abbrev pub ahead_in_cost : ℕ → ℕ → Bool
  ahead_in_cost i j = lt (at c1 i) (at c1 j) || (eq (at c1 i) (at c1 j) && ltb i j)

  cost_strict : Strict RealCost ahead_in_cost
  cost_strict =
      then_by_lem RealCost (λ i j. lt (at c1 i) (at c1 j)) (λ i j. eq (at c1 i) (at c1 j)) (λ i j. ltb i j) (rising RealCost (at c1) (λ i r. r)) (by_index RealCost)

  cost_agrees : (j k : ℕ) → j < k → cheaper c1 k j ≡ ahead_in_cost k j
  cost_agrees j k h = last_out (lt (at c1 k) (at c1 j)) (eq (at c1 k) (at c1 j)) (ltb k j) (le-ltb k j (omega arith))

  by_cost_is : by_cost c1 ≡ insert_all (cheaper c1) (passing every (length c1)) []
  unfolding by_cost
  by_cost_is = put_in (cheaper c1) (length c1) 0 []

  pub order_below : All (λ k. k < length c1) (by_cost c1)
  unfolding by_cost
  order_below = all_inserted_below (cheaper c1) (length c1)

module _ (u : Units) (s : SoundUnits u) where
  real_cost : (k : ℕ) → k < length u.c1 → T (real (at u.c1 k))
  real_cost k h = bounded_real (at u.c1 k) (fit_at u s.each k (omega (arith, s.even.c1))).linear.0

  pub cost_sorted : Sorted (ahead_in_cost u.c1) (once every (length u.c1)) (by_cost u.c1)
  cost_sorted =
      subst (Sorted (ahead_in_cost u.c1) (once every (length u.c1))) (sym (by_cost_is u.c1))
      (ranked (RealCost u.c1) (ahead_in_cost u.c1) (cheaper u.c1) (cost_strict u.c1) (cost_agrees u.c1) every (length u.c1) (λ k h e. real_cost k h))

  pub cost_only : (ks : List ℕ) → Sorted (ahead_in_cost u.c1) (once every (length u.c1)) ks → ks ≡ by_cost u.c1
  cost_only ks o =
      ranked_only (RealCost u.c1) (ahead_in_cost u.c1) (cheaper u.c1) (cost_strict u.c1) (cost_agrees u.c1) every (length u.c1)
      (λ k h e. real_cost k h) ks o
      ∙ sym (by_cost_is u.c1)

-- ---- all of them
module _ (u : Units) (d : Float) (s : SoundUnits u) (held : (i : ℕ) → i < count u → T (fits binary64 (at u.pmin i))) where
  one_within : (k : ℕ) → k < count u → (out : List Float) → Within u out → lt nought (gap_of d out) ≡ true
      → Within u (set out k (topped_to (at u.pmax k) (at out k) (gap_of d out)))
  one_within k b out w h =
      record {
        size = length-set out k new ∙ w.size;
        low = λ i l. low_at i l (ℕ_discrete i k);
        high = λ i l. high_at i l (ℕ_discrete i k);
      }
    where
      new : Float
      new = topped_to (at u.pmax k) (at out k) (gap_of d out)

      fine : (le (at u.pmin k) new ≡ true) × (le new (at u.pmax k) ≡ true)
      fine =
          let t = fit_at u s.each k b in
          topped_inside (at u.pmin k) (at u.pmax k) (at out k) (gap_of d out) t.order t.low.0 t.low.1 (held k b) t.high.0 (w.low k b) (w.high k b) h

      put : (i : ℕ) → i ≡ k → at (set out k new) i ≡ new
      put i e = ap (λ (j : ℕ). at (set out k new) j) e ∙ get_or-set_same out k new nan (omega (arith, w.size))

      low_at : (i : ℕ) → i < count u → Dec (i ≡ k) → le (at u.pmin i) (at (set out k new) i) ≡ true
      low_at i l (yes e) = ap (λ (x : Float). le (at u.pmin i) x) (put i e) ∙ ap (λ (j : ℕ). le (at u.pmin j) new) e ∙ fine.0
      low_at i l (no n) = ap (λ (x : Float). le (at u.pmin i) x) (get_or-set_other out k i new nan n) ∙ w.low i l

      high_at : (i : ℕ) → i < count u → Dec (i ≡ k) → le (at (set out k new) i) (at u.pmax i) ≡ true
      high_at i l (yes e) = ap (λ (x : Float). le x (at u.pmax i)) (put i e) ∙ ap (λ (j : ℕ). le new (at u.pmax j)) e ∙ fine.1
      high_at i l (no n) = ap (λ (x : Float). le x (at u.pmax i)) (get_or-set_other out k i new nan n) ∙ w.high i l

  pub topped_within : (ks : List ℕ) → All (λ k. k < count u) ks → (out : List Float) → Within u out → Within u (top_up u.pmax d ks out)
  unfolding top_up
  topped_within [] a out w = w
  topped_within (k ∷ ks) a out w = go (lt nought (gap_of d out)) refl (topped_within ks (All-tail (λ i. i < count u) k ks a))
    where
      new : Float
      new = topped_to (at u.pmax k) (at out k) (gap_of d out)

      ends : (b : Bool) → Within u (set out k new) → ((t : List Float) → Within u t → Within u (top_up u.pmax d ks t))
          → Within u (unless_below b (set out k new) (top_up u.pmax d ks))
      ends true v next = v
      ends false v next = next (set out k new) v

      go : (b : Bool) → lt nought (gap_of d out) ≡ b → ((t : List Float) → Within u t → Within u (top_up u.pmax d ks t))
          → Within u (topped_if b (at u.pmax k) k (gap_of d out) out (top_up u.pmax d ks))
      go true e next = ends (lt new (at u.pmax k)) (one_within k (All-head (λ i. i < count u) k ks a) out w e) next
      go false e next = w

-- what a component's units give, with the pass and without it. The pass asks that binary64 holds each pmin
pub given_within : (b : Bool) (u : Units) (d : Float) → SoundUnits u → (b ≡ true → (i : ℕ) → i < count u → T (fits binary64 (at u.pmin i)))
    → Within u (economic_dispatch u d) → Within u (given_by b u d)
given_within false u d s held w = w
given_within true u d s held w =
    topped_within u d s (held refl) (by_cost u.c1) (subst (λ (n : ℕ). All (λ k. k < n) (by_cost u.c1)) s.even.c1 (order_below u.c1)) (economic_dispatch u d) w
