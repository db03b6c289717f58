-- The nearest candidate of a range of buses: there is one at most; how it follows from bus to bus, from two ranges and after a bus was settled
-- or reached; and so the nearest of the blocks' candidates is the definition's.
-- By the order of the distances, which are numbers.
use mathlib.Core.Path.{◌≡◌, refl, sym, ap, ◌∙◌, subst}
use mathlib.Core.Bool.{Bool, true, false, cond, ◌&&◌, ◌||◌}
use mathlib.Core.List.{List}
use mathlib.Core.Logic.{⊎_elim}
use Prim.Native.Nat.{ℕ, zero, suc, ◌+◌, ◌*◌, ◌<◌, ◌≤◌}
use native.Mathlib.Decide.{dec_lt, ℕ_discrete}
use native.Mathlib.Nat.{eq-or-lt_of_le}
use native.Mathlib.Omega.{arith}
use native.Mathlib.Numerals.{add-one}
use borrow.Author.Tests.{eqb-true, eqb-false, ltb-true, ltb-false}
use lib.Dec.{eqb, ltb}
use lib.ListN.{length, get_or, set, length-set, length-replicate, get_or-replicate}
use lib.Seq.{get_or-set_same, get_or-set_other}
use lib.Ieee.{Float, nan, of_bits, lt, le}
use Rattle.loops.specs.Bounds.{most_buses}
use Rattle.loops.specs.Figures.{at, infinity}
use Rattle.loops.proofs.Order.{le_of_not_lt, le_of_lt, le_self, left_real, right_real, le_through, lt_not_le}
use Rattle.placement_defs.specs.Distance.{Labels, blank, rest, candidate, settled, nearer, nearest_to}
use Rattle.std.specs.Prelude.{Option, Some, None}
use Rattle.placement.specs.Choices.{number}
use Rattle.placement.proofs.Tests.{some_below}
use Rattle.placement.specs.Blocks.{Before, LeastOf, Chosen, closer, nearest_with, Numbers, Nearests, Front}

-- ---- the order
through_lt : (x y z : Float) → le x y ≡ true → lt y z ≡ true → lt x z ≡ true
through_lt x y z p q = go (lt x z) refl
  where
    go : (b : Bool) → lt x z ≡ b → lt x z ≡ true
    go true e = e
    go false e = absurd (lt_not_le y z q (le_through z x y (le_of_not_lt x z (left_real x y p) (right_real y z (le_of_lt y z q)) e) p))

lt_through : (x y z : Float) → lt x y ≡ true → le y z ≡ true → lt x z ≡ true
lt_through x y z p q = go (lt x z) refl
  where
    go : (b : Bool) → lt x z ≡ b → lt x z ≡ true
    go true e = e
    go false e = absurd (lt_not_le x y p (le_through y z x q (le_of_not_lt x z (left_real x y (le_of_lt x y p)) (right_real y z q) e)))

infinity_self : le infinity infinity ≡ true
unfolding of_bits le
infinity_self = refl

not_less : (x y : Float) → le x x ≡ true → le y y ≡ true → lt x y ≡ false → le y x ≡ true
not_less x y p q e = le_of_not_lt x y (left_real x x p) (left_real y y q) e

above : {j mid : ℕ} → (j < mid → ⊥) → mid ≤ j
above z = omega arith

-- ---- a range
module _ (n : ℕ) (mark : List ℕ) (dist : List Float) where
  pub least_none : (lo : ℕ) → LeastOf n mark dist lo lo n
  least_none lo = record { within = omega arith; none = λ e j p q h m. omega arith; some = λ h. absurd (omega arith); least = λ h. absurd (omega arith) }

  -- the range may be written with another end, where no bus lies between
  pub least_as : (lo hi hi' b : ℕ) → ((j : ℕ) → j < n → j < hi → j < hi') → ((j : ℕ) → j < n → j < hi' → j < hi) → LeastOf n mark dist lo hi b → LeastOf n mark dist lo hi' b
  least_as lo hi hi' b up down r =
      record {
        within = r.within;
        none = λ e j p q h m. r.none e j p (down j h q) h m;
        some = λ h. let s = r.some h in (s.0, up b h s.1, s.2);
        least = λ h j p q k m. r.least h j p (down j k q) k m;
      }

  -- there is one at most
  one_before : (lo hi x y : ℕ) → LeastOf n mark dist lo hi x → LeastOf n mark dist lo hi y → x < y → ⊥
  one_before lo hi x y p q h =
      let w = q.within in
      let hx : x < n = omega arith in
      let s = p.some hx in
      ⊎_elim (λ e. q.none e x s.0 s.1 hx s.2)
      (λ hy. let t = q.some hy in lt_not_le (at dist y) (at dist x) ((q.least hy x s.0 s.1 hx s.2).1 h) (p.least hx y t.0 t.1 hy t.2).0)
      (eq-or-lt_of_le w)

  pub least_one : (lo hi x y : ℕ) → LeastOf n mark dist lo hi x → LeastOf n mark dist lo hi y → x ≡ y
  least_one lo hi x y p q = let f = one_before lo hi x y p q in let g = one_before lo hi y x q p in elim (ℕ_discrete x y) [ yes e ↦ e | no e ↦ absurd (apart e f g) ]
    where
      apart : (x ≡ y → ⊥) → (x < y → ⊥) → (y < x → ⊥) → ⊥
      apart e f g = e (omega arith)

  module _ (numbers : Numbers n mark dist) where
    -- ---- one bus more
    next : (lo i b : ℕ) → lo ≤ i → i < n → LeastOf n mark dist lo i b → (x y z : Bool) → eqb (get_or mark i 0) candidate ≡ x → eqb b n ≡ y → lt (at dist i) (at dist b) ≡ z
        → LeastOf n mark dist lo (suc i) (cond (x && (y || z)) i b)
    next lo i b g h r false y z c q e =
        record {
          within = r.within;
          none = λ o j p l k m. elim (ℕ_discrete j i) [ yes u ↦ eqb-false (get_or mark i 0) candidate c (ap (λ (t : ℕ). get_or mark t 0) (sym u) ∙ m) | no u ↦ r.none o j p (omega arith) k m ];
          some = λ o. let s = r.some o in (s.0, omega arith, s.2);
          least = λ o j p l k m.
              elim (ℕ_discrete j i) [
                | yes u ↦ absurd (eqb-false (get_or mark i 0) candidate c (ap (λ (t : ℕ). get_or mark t 0) (sym u) ∙ m))
                | no u ↦ r.least o j p (omega arith) k m
              ];
        }
    next lo i b g h r true true z c q e =
        record {
          within = omega arith;
          none = λ o. absurd (omega arith);
          some = λ o. (g, omega arith, eqb-true (get_or mark i 0) candidate c);
          least = λ o j p l k m.
              elim (ℕ_discrete j i) [
                | yes u ↦ (subst (λ (t : ℕ). le (at dist i) (at dist t) ≡ true) (sym u) (numbers.real i h), λ v. absurd (omega arith))
                | no u ↦ absurd (r.none (eqb-true b n q) j p (omega arith) k m)
              ];
        }
    next lo i b g h r true false true c q e =
        record {
          within = omega arith;
          none = λ o. absurd (omega arith);
          some = λ o. (g, omega arith, eqb-true (get_or mark i 0) candidate c);
          least = λ o j p l k m.
              elim (ℕ_discrete j i) [
                | yes u ↦ (subst (λ (t : ℕ). le (at dist i) (at dist t) ≡ true) (sym u) (numbers.real i h), λ v. absurd (omega arith))
                | no u ↦ let w = r.within in
                    let d = eqb-false b n q in
                    let s = r.least (bus w d) j p (omega arith) k m in
                    let t = lt_through (at dist i) (at dist b) (at dist j) e s.0 in
                    (le_of_lt (at dist i) (at dist j) t, λ v. t)
              ];
        }
      where
        bus : b ≤ n → (b ≡ n → ⊥) → b < n
        bus w d = omega arith
    next lo i b g h r true false false c q e =
        record {
          within = r.within;
          none = λ o. absurd (eqb-false b n q o);
          some = λ o. let s = r.some o in (s.0, omega arith, s.2);
          least = λ o j p l k m.
              elim (ℕ_discrete j i) [
                | yes u ↦ (
                  subst (λ (t : ℕ). le (at dist b) (at dist t) ≡ true) (sym u) (not_less (at dist i) (at dist b) (numbers.real i h) (numbers.real b o) e),
                  λ v. let s = r.some o in absurd (omega arith),
                )
                | no u ↦ r.least o j p (omega arith) k m
              ];
        }

    pub least_next : (lo i b : ℕ) → lo ≤ i → i < n → LeastOf n mark dist lo i b → LeastOf n mark dist lo (suc i) (nearer n mark dist b i)
    unfolding nearer
    least_next lo i b g h r = next lo i b g h r (eqb (get_or mark i 0) candidate) (eqb b n) (lt (at dist i) (at dist b)) refl refl refl

    -- as the code's turn says it
    pub turn_of : (lo i b r : ℕ) → lo ≤ i → i < n → LeastOf n mark dist lo i b → r ≡ nearer n mark dist b i → LeastOf n mark dist lo (i + 1) r
    turn_of lo i b r g h l e = rw (e, add-one) (least_next lo i b g h l)

    nearest_least : (i : ℕ) → i ≤ n → LeastOf n mark dist 0 i (nearest_to n mark dist i)
    unfolding nearest_to
    nearest_least zero h = least_none 0
    nearest_least (suc i) h = least_next 0 i (nearest_to n mark dist i) (omega arith) (omega arith) (nearest_least i (omega arith))

    -- so the candidate chosen before all others is the definition's
    pub least_nearest : (b : ℕ) → LeastOf n mark dist 0 n b → b ≡ nearest_to n mark dist n
    least_nearest b r = least_one 0 n b (nearest_to n mark dist n) r (nearest_least n (omega arith))

    -- ---- two ranges
    both_ranges : (lo mid hi b x : ℕ) → lo ≤ mid → mid ≤ hi → LeastOf n mark dist lo mid b → LeastOf n mark dist mid hi x
        → (p q r : Bool) → ltb x n ≡ p → eqb b n ≡ q → lt (at dist x) (at dist b) ≡ r → LeastOf n mark dist lo hi (cond (p && (q || r)) x b)
    both_ranges lo mid hi b x g h l k false q r c e f =
        let xn : x ≡ n = none_there in
        record {
          within = l.within;
          none = λ o j p u v m. elim (dec_lt j mid) [ yes z ↦ l.none o j p z v m | no z ↦ k.none xn j (above z) u v m ];
          some = λ o. let s = l.some o in (s.0, omega arith, s.2);
          least = λ o j p u v m. elim (dec_lt j mid) [ yes z ↦ l.least o j p z v m | no z ↦ absurd (k.none xn j (above z) u v m) ];
        }
      where
        none_there : x ≡ n
        none_there = let w = k.within in let f = ltb-false x n c in omega arith
    both_ranges lo mid hi b x g h l k true true r c e f =
        let xn = ltb-true x n c in
        let s = k.some xn in
        let bn = eqb-true b n e in
        record {
          within = omega arith;
          none = λ o. absurd (omega arith);
          some = λ o. (omega arith, s.1, s.2);
          least = λ o j p u v m. elim (dec_lt j mid) [ yes z ↦ absurd (l.none bn j p z v m) | no z ↦ k.least xn j (above z) u v m ];
        }
    both_ranges lo mid hi b x g h l k true false true c e f =
        let xn = ltb-true x n c in
        let s = k.some xn in
        record {
          within = omega arith;
          none = λ o. absurd (omega arith);
          some = λ o. (omega arith, s.1, s.2);
          least = λ o j p u v m.
              elim (dec_lt j mid) [
                | yes z ↦ let t = lt_through (at dist x) (at dist b) (at dist j) f (l.least bus j p z v m).0 in (le_of_lt (at dist x) (at dist j) t, λ y. t)
                | no z ↦ k.least xn j (above z) u v m
              ];
        }
      where
        bus : b < n
        bus = let w = l.within in let d = eqb-false b n e in omega arith
    both_ranges lo mid hi b x g h l k true false false c e f =
        let xn = ltb-true x n c in
        record {
          within = l.within;
          none = λ o. absurd (eqb-false b n e o);
          some = λ o. let s = l.some o in (s.0, omega arith, s.2);
          least = λ o j p u v m.
              elim (dec_lt j mid) [
                | yes z ↦ l.least o j p z v m
                | no z ↦ (
                  le_through (at dist b) (at dist x) (at dist j) (not_less (at dist x) (at dist b) (numbers.real x xn) (numbers.real b o) f) (k.least xn j (above z) u v m).0,
                  λ y. let s = l.some o in absurd (omega arith),
                )
              ];
        }

    pub least_both : (lo mid hi b x : ℕ) → lo ≤ mid → mid ≤ hi → LeastOf n mark dist lo mid b → LeastOf n mark dist mid hi x → LeastOf n mark dist lo hi (closer n dist b x)
    unfolding closer
    least_both lo mid hi b x g h l k = both_ranges lo mid hi b x g h l k (ltb x n) (eqb b n) (lt (at dist x) (at dist b)) refl refl refl

-- ---- other marks and distances
module _ (n : ℕ) (mark mark' : List ℕ) (dist dist' : List Float) where
  -- that are as they were in the range
  pub least_else : (lo hi b : ℕ) → ((j : ℕ) → lo ≤ j → j < hi → j < n → (get_or mark' j 0 ≡ get_or mark j 0) × (at dist' j ≡ at dist j))
      → LeastOf n mark dist lo hi b → LeastOf n mark' dist' lo hi b
  least_else lo hi b same r =
      record {
        within = r.within;
        none = λ o j p q h m. r.none o j p q h (sym (same j p q h).0 ∙ m);
        some = λ o. let s = r.some o in (s.0, s.1, (same b s.0 s.1 o).0 ∙ s.2);
        least = λ o j p q h m.
            let s = r.some o in
            let l = r.least o j p q h (sym (same j p q h).0 ∙ m) in
            let eb = (same b s.0 s.1 o).1 in
            let ej = (same j p q h).1 in (
              ap (λ (x : Float). le x (at dist' j)) eb ∙ ap (λ (y : Float). le (at dist b) y) ej ∙ l.0,
              λ v. ap (λ (x : Float). lt x (at dist' j)) eb ∙ ap (λ (y : Float). lt (at dist b) y) ej ∙ l.1 v,
            );
      }

  -- in which bus j alone was reached, at nd km, which is nearer than it was
  module _ (j : ℕ) (nd : Float) (hj : j < n) (is : get_or mark' j 0 ≡ candidate) (far : at dist' j ≡ nd) (less : lt nd (at dist j) ≡ true)
      (marks : (i : ℕ) → (i ≡ j → ⊥) → get_or mark' i 0 ≡ get_or mark i 0) (dists : (i : ℕ) → (i ≡ j → ⊥) → at dist' i ≡ at dist i) (real : (i : ℕ) → i < n → le (at dist i) (at dist i) ≡ true) where
    real_nd : le nd nd ≡ true
    real_nd = le_self nd (left_real nd (at dist j) (le_of_lt nd (at dist j) less))

    far_as : (i : ℕ) → i ≡ j → at dist' i ≡ nd
    far_as i e = ap (λ (t : ℕ). at dist' t) e ∙ far

    before_own : (i : ℕ) → i ≡ j → Before dist' j i
    before_own i e = (ap (λ (x : Float). le x (at dist' i)) far ∙ ap (λ (x : Float). le nd x) (far_as i e) ∙ real_nd, λ v. absurd (omega arith))

    -- j is chosen
    taken : (lo hi : ℕ) → lo ≤ j → j < hi → ((i : ℕ) → (i ≡ j → ⊥) → lo ≤ i → i < hi → i < n → get_or mark i 0 ≡ candidate → (le nd (at dist i) ≡ true) × (i < j → lt nd (at dist i) ≡ true))
        → LeastOf n mark' dist' lo hi j
    taken lo hi p q others =
        record {
          within = omega arith;
          none = λ o. absurd (omega arith);
          some = λ o. (p, q, is);
          least = λ o i l u v m.
              elim (ℕ_discrete i j) [
                | yes e ↦ before_own i e
                | no e ↦ let s = others i e l u v (sym (marks i e) ∙ m) in (
                  ap (λ (x : Float). le x (at dist' i)) far ∙ ap (λ (x : Float). le nd x) (dists i e) ∙ s.0,
                  λ y. ap (λ (x : Float). lt x (at dist' i)) far ∙ ap (λ (x : Float). lt nd x) (dists i e) ∙ s.1 y,
                )
              ];
        }

    -- the choice stays
    stays : (lo hi b : ℕ) → LeastOf n mark dist lo hi b → b < n → (b ≡ j → ⊥) → le (at dist b) nd ≡ true → (j < b → lt (at dist b) nd ≡ true) → LeastOf n mark' dist' lo hi b
    stays lo hi b r h d p q =
        record {
          within = r.within;
          none = λ o. absurd (omega arith);
          some = λ o. let s = r.some o in (s.0, s.1, marks b d ∙ s.2);
          least = λ o i l u v m.
              elim (ℕ_discrete i j) [
                | yes e ↦ (
                  ap (λ (x : Float). le x (at dist' i)) (dists b d) ∙ ap (λ (x : Float). le (at dist b) x) (far_as i e) ∙ p,
                  λ y. ap (λ (x : Float). lt x (at dist' i)) (dists b d) ∙ ap (λ (x : Float). lt (at dist b) x) (far_as i e) ∙ q (omega arith),
                )
                | no e ↦ let s = r.least o i l u v (sym (marks i e) ∙ m) in (
                  ap (λ (x : Float). le x (at dist' i)) (dists b d) ∙ ap (λ (x : Float). le (at dist b) x) (dists i e) ∙ s.0,
                  λ y. ap (λ (x : Float). lt x (at dist' i)) (dists b d) ∙ ap (λ (x : Float). lt (at dist b) x) (dists i e) ∙ s.1 y,
                )
              ];
        }

    module _ (lo hi b : ℕ) (p : lo ≤ j) (q : j < hi) (r : LeastOf n mark dist lo hi b) where
      none_else : b ≡ n → LeastOf n mark' dist' lo hi j
      none_else e = taken lo hi p q (λ i d l u v m. absurd (r.none e i l u v m))

      -- j was chosen already, and came nearer
      same : b < n → b ≡ j → LeastOf n mark' dist' lo hi j
      same h e =
          taken lo hi p q (λ i d l u v m.
          let s = subst (λ (t : ℕ). Before dist t i) e (r.least h i l u v m) in
          let z = lt_through nd (at dist j) (at dist i) less s.0 in
          (le_of_lt nd (at dist i) z, λ y. z))

      nearer_than : b < n → lt nd (at dist b) ≡ true → LeastOf n mark' dist' lo hi j
      nearer_than h e =
          taken lo hi p q (λ i d l u v m. let z = lt_through nd (at dist b) (at dist i) e (r.least h i l u v m).0 in (le_of_lt nd (at dist i) z, λ y. z))

      as_near : b < n → le nd (at dist b) ≡ true → j < b → LeastOf n mark' dist' lo hi j
      as_near h e k =
          taken lo hi p q (λ i d l u v m.
          let s = r.least h i l u v m in
          (le_through nd (at dist b) (at dist i) e s.0, λ y. through_lt nd (at dist b) (at dist i) e (s.1 (omega arith))))

      choose : (x y z k : Bool) → ltb b n ≡ x → lt nd (at dist' b) ≡ y → lt (at dist' b) nd ≡ z → ltb j b ≡ k → LeastOf n mark' dist' lo hi (cond x (cond y j (cond z b (cond k j b))) j)
      choose false y z k c e f g = none_else (let w = r.within in let l = ltb-false b n c in omega arith)
      choose true y z k c e f g = elim (ℕ_discrete b j) [ yes d ↦ own d y z k | no d ↦ other d y z k e f g ]
        where
          h : b < n
          h = ltb-true b n c

          own : b ≡ j → (y z k : Bool) → LeastOf n mark' dist' lo hi (cond y j (cond z b (cond k j b)))
          own d true z k = same h d
          own d false true k = subst (λ (t : ℕ). LeastOf n mark' dist' lo hi t) (sym d) (same h d)
          own d false false true = same h d
          own d false false false = subst (λ (t : ℕ). LeastOf n mark' dist' lo hi t) (sym d) (same h d)

          other : (b ≡ j → ⊥) → (y z k : Bool) → lt nd (at dist' b) ≡ y → lt (at dist' b) nd ≡ z → ltb j b ≡ k → LeastOf n mark' dist' lo hi (cond y j (cond z b (cond k j b)))
          other d true z k e f g = nearer_than h (ap (λ (x : Float). lt nd x) (sym (dists b d)) ∙ e)
          other d false true k e f g = let l = ap (λ (x : Float). lt x nd) (sym (dists b d)) ∙ f in stays lo hi b r h d (le_of_lt (at dist b) nd l) (λ v. l)
          other d false false true e f g = as_near h (not_less (at dist b) nd (real b h) real_nd (ap (λ (x : Float). lt x nd) (sym (dists b d)) ∙ f)) (ltb-true j b g)
          other d false false false e f g =
              stays lo hi b r h d (not_less nd (at dist b) real_nd (real b h) (ap (λ (x : Float). lt nd x) (sym (dists b d)) ∙ e)) (λ v. absurd (let l = ltb-false j b g in omega arith))

      pub least_reached : LeastOf n mark' dist' lo hi (nearest_with n dist' b j nd)
      unfolding nearest_with
      least_reached = choose (ltb b n) (lt nd (at dist' b)) (lt (at dist' b) nd) (ltb j b) refl refl refl refl

-- ---- bus j alone was changed, and its block looked at again
module _ (n : ℕ) (mark mark' : List ℕ) (dist dist' : List Float) (nearest : List (Option ℕ)) (j k : ℕ) (lo : 16 * k ≤ j) (hi : j < 16 * k + 16)
    (marks : (i : ℕ) → (i ≡ j → ⊥) → get_or mark' i 0 ≡ get_or mark i 0) (dists : (i : ℕ) → (i ≡ j → ⊥) → at dist' i ≡ at dist i) where
  blocks_with : (x : Option ℕ) → length nearest ≡ 16 → k < 16 → Nearests n mark dist nearest 16 → Chosen n mark' dist' (16 * k) (16 * k + 16) x → Nearests n mark' dist' (set nearest k x) 16
  blocks_with x l h p q t lt low =
      elim (ℕ_discrete t k) [
        | yes e ↦ subst (λ (u : ℕ). Chosen n mark' dist' (16 * u) (16 * u + 16) (get_or (set nearest k x) u None)) (sym e)
            (subst (λ (u : Option ℕ). Chosen n mark' dist' (16 * k) (16 * k + 16) u) (sym (get_or-set_same nearest k x None (omega arith))) q)
        | no e ↦ subst (λ (u : Option ℕ). Chosen n mark' dist' (16 * t) (16 * t + 16) u) (sym (get_or-set_other nearest k t x None e)) (
          least_else n mark mark' dist dist' (16 * t) (16 * t + 16) (number n (get_or nearest t None))
              (λ i a b c. let d : i ≡ j → ⊥ = λ z. other i e a b z in (marks i d, dists i d)) (p t lt low).0,
          (p t lt low).1,
        )
      ]
    where
      other : (i : ℕ) → (t ≡ k → ⊥) → 16 * t ≤ i → i < 16 * t + 16 → i ≡ j → ⊥
      other i e a b z = e (omega arith)

-- of all places, and so of the first n
pub numbers_fewer : (n : ℕ) (mark : List ℕ) (dist : List Float) → n ≤ most_buses → Numbers most_buses mark dist → Numbers n mark dist
numbers_fewer n mark dist few r = record { marks = r.marks; dists = r.dists; real = λ j h. r.real j (omega arith) }

module _ (n : ℕ) (mark : List ℕ) (dist : List Float) (few : n ≤ most_buses) where
  pub numbers_marked : (i v : ℕ) → Numbers n mark dist → Numbers n (set mark i v) dist
  numbers_marked i v r = record { marks = length-set mark i v ∙ r.marks; dists = r.dists; real = r.real }

  pub numbers_reached : (i v : ℕ) (d : Float) → i < n → le d d ≡ true → Numbers n mark dist → Numbers n (set mark i v) (set dist i d)
  numbers_reached i v d h e r =
      let l = r.dists in
      record {
        marks = length-set mark i v ∙ r.marks;
        dists = length-set dist i d ∙ r.dists;
        real = λ j k.
            elim (ℕ_discrete j i) [
              | yes p ↦ subst (λ (x : Float). le x x ≡ true) (sym (ap (λ (t : ℕ). at (set dist i d) t) p ∙ get_or-set_same dist i d nan (omega arith))) e
              | no p ↦ subst (λ (x : Float). le x x ≡ true) (sym (get_or-set_other dist i j d nan p)) (r.real j k)
            ];
      }

  module _ (nearest : List (Option ℕ)) (j k : ℕ) (hj : j < n) (lo : 16 * k ≤ j) (hi : j < 16 * k + 16) (r : Front n mark dist nearest) where
    pub front_settled : (x : Option ℕ) → Chosen n (set mark j settled) dist (16 * k) (16 * k + 16) x → Front n (set mark j settled) dist (set nearest k x)
    front_settled x q =
        record {
          numbers = numbers_marked j settled r.numbers;
          nearests = length-set nearest k x ∙ r.nearests;
          blocks = blocks_with n mark (set mark j settled) dist dist nearest j k lo hi (λ i d. get_or-set_other mark j i settled 0 d) (λ i d. refl) x r.nearests (omega arith) r.blocks q;
        }

    pub front_reached : (nd : Float) (x : ℕ) → lt nd (at dist j) ≡ true → x < n → x ≡ nearest_with n (set dist j nd) (number n (get_or nearest k None)) j nd → Front n (set mark j candidate) (set dist j nd) (set nearest k (Some x))
    front_reached nd x less bus e =
        let l1 = r.numbers.marks in
        let l2 = r.numbers.dists in
        let marks : (i : ℕ) → (i ≡ j → ⊥) → get_or (set mark j candidate) i 0 ≡ get_or mark i 0 = λ i d. get_or-set_other mark j i candidate 0 d in
        let dists : (i : ℕ) → (i ≡ j → ⊥) → at (set dist j nd) i ≡ at dist i = λ i d. get_or-set_other dist j i nd nan d in
        let here = get_or-set_same mark j candidate 0 (omega arith) in
        let far = get_or-set_same dist j nd nan (omega arith) in
        let block = r.blocks k (omega arith) (omega arith) in
        record {
          numbers = numbers_reached j candidate nd hj (le_self nd (left_real nd (at dist j) (le_of_lt nd (at dist j) less))) r.numbers;
          nearests = length-set nearest k (Some x) ∙ r.nearests;
          blocks = blocks_with n mark (set mark j candidate) dist (set dist j nd) nearest j k lo hi marks dists (Some x) r.nearests (omega arith) r.blocks (
            subst (λ (t : ℕ). LeastOf n (set mark j candidate) (set dist j nd) (16 * k) (16 * k + 16) t) (sym e)
                (least_reached n mark (set mark j candidate) dist (set dist j nd) j nd hj here far less marks dists r.numbers.real (16 * k) (16 * k + 16) (number n (get_or nearest k None)) lo hi block.0),
            some_below n x bus,
          );
        }

-- to start with, all distances are infinite
pub numbers_blank : (n : ℕ) (s : Labels) → n ≤ most_buses → s ≡ blank → Numbers n s.mark s.dist
numbers_blank n s few e =
    subst (λ (u : Labels). Numbers n u.mark u.dist) (sym e)
    (record {
      marks = length-replicate most_buses rest;
      dists = length-replicate most_buses infinity;
      real = λ j h. subst (λ (x : Float). le x x ≡ true) (sym (get_or-replicate most_buses j infinity nan (omega arith))) infinity_self;
    })

-- ---- step 2: the blocks in turn
module _ (n : ℕ) (mark : List ℕ) (dist : List Float) (nearest : List (Option ℕ)) (r : Front n mark dist nearest) where
  pub closer_turn : (k b x : ℕ) → k < 16 → 16 * k < n → LeastOf n mark dist 0 (16 * k) b → x ≡ closer n dist b (number n (get_or nearest k None)) → LeastOf n mark dist 0 (16 * (k + 1)) x
  closer_turn k b x h low l e =
      let z : 16 * (k + 1) ≡ 16 * k + 16 = omega arith in
      rw (e, z) (least_both n mark dist r.numbers 0 (16 * k) (16 * k + 16) b (number n (get_or nearest k None)) (omega arith) (omega arith) l (r.blocks k h low).0)

  pub nearest_all : (k b : ℕ) → n ≤ 16 * k → LeastOf n mark dist 0 (16 * k) b → b ≡ nearest_to n mark dist n
  nearest_all k b h l = least_nearest n mark dist r.numbers b (least_as n mark dist 0 (16 * k) n b (λ j p q. p) (λ j p q. omega arith) l)
