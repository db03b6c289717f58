-- Filling takes nothing away, adds what it tallies, and is even: where it ends, each corridor that still has room got as many as any other, or one less.
-- The order names each corridor once, so that a pass gives each that has room one; the target stops a pass in the middle.
use Prim.Native.Nat.{ℕ, zero, suc, ◌+◌, ◌≤◌, ◌<◌, max}
use mathlib.Core.Bool.{Bool, true, false, ◌&&◌}
use mathlib.Core.List.{List, [], ◌∷◌}
use mathlib.Core.Path.{◌≡◌, refl, ap, ◌∙◌, subst}
use native.Mathlib.Nat.{le_refl}
use native.Mathlib.Omega.{arith}
use native.Mathlib.Decide.{ℕ_discrete}
use borrow.Author.Tests.{ltb-true, ltb-false, lt-ltb, le-ltb}
use lib.Dec.{ltb}
use lib.ListN.{length, get_or, set, length-set, get_or-eq_default}
use lib.Seq.{get_or-set_other}
use Rattle.loops.specs.Sorting.{occ}
use Rattle.loops.proofs.Bools.{both, and_no}
use Rattle.loops.proofs.Sorting.{same_yes, same_no}
use Rattle.plan_defs.specs.Lists.{each, sum}
use Rattle.plan_defs.specs.Fill.{Filled, fill_if, fill_at, below_full, room, fill_once, fill_rounds}
use Rattle.plan_defs.proofs.Lists.{sum_set}
use Rattle.plan_defs.proofs.Counts.{in_list, any_default, set_here}

-- `full k` is the most that corridor k is given
module _ (full : ℕ → ℕ) where
  pub record Grown (s t : Filled) : Type 0 where
    pub size : length t.counts ≡ length s.counts
    pub tally : sum t.counts + s.filler ≡ sum s.counts + t.filler
    pub total : t.total + s.filler ≡ s.total + t.filler
    pub low : (j : ℕ) → get_or s.counts j 0 ≤ get_or t.counts j 0
    pub high : (j : ℕ) → get_or t.counts j 0 ≤ max (get_or s.counts j 0) (full j)

  pub grown_same : (s : Filled) → Grown s s
  grown_same s = record { size = refl; tally = refl; total = refl; low = λ j. le_refl _; high = λ j. omega arith }

  grown_then : (s t u : Filled) → Grown s t → Grown t u → Grown s u
  grown_then s t u a b =
      record {
        size = b.size ∙ a.size;
        tally = omega (arith, a.tally, b.tally);
        total = omega (arith, a.total, b.total);
        low = λ j. omega (arith, a.low j, b.low j);
        high = λ j. omega (arith, a.high j, b.high j);
      }

  at_place : (l : List ℕ) (k j : ℕ) → k < length l → get_or l k 0 < full k → Dec (j ≡ k)
      → (get_or l j 0 ≤ get_or (set l k (get_or l k 0 + 1)) j 0) × (get_or (set l k (get_or l k 0 + 1)) j 0 ≤ max (get_or l j 0) (full j))
  at_place l k j h q (yes e) =
      let s = set_here l k j (get_or l k 0 + 1) h e in
      let r : get_or l j 0 ≡ get_or l k 0 = ap (λ (i : ℕ). get_or l i 0) e in
      let f : full j ≡ full k = ap full e in
      (omega arith, omega arith)
  at_place l k j h q (no n) =
      let s = get_or-set_other l k j (get_or l k 0 + 1) 0 n in
      (omega arith, omega arith)

  module _ (target : ℕ) where
    -- where there is room: the total is below the target, and the corridor's count below the most
    room_total : (k : ℕ) (s : Filled) → room full target k s ≡ true → s.total < target
    room_total k s e = ltb-true _ _ (both (ltb s.total target) _ e).0

    room_count : (k : ℕ) (s : Filled) → room full target k s ≡ true → get_or s.counts k (full k) < full k
    room_count k s e = ltb-true _ _ (both (ltb s.total target) _ e).1

    pub step : (k : ℕ) (s : Filled) (b : Bool) → room full target k s ≡ b → Grown s (fill_if b k s)
    step k s false e = grown_same s
    step k s true e =
        let h = in_list (full k) s.counts k (room_count k s e) in
        let q = room_count k s e in
        let p : get_or s.counts k 0 < full k = omega (arith, any_default (full k) s.counts k h) in
        record {
          size = length-set s.counts k (get_or s.counts k 0 + 1);
          tally = omega (arith, sum_set s.counts k (get_or s.counts k 0 + 1) h);
          total = omega arith;
          low = λ j. (at_place s.counts k j h p (ℕ_discrete j k)).0;
          high = λ j. (at_place s.counts k j h p (ℕ_discrete j k)).1;
        }

    once_grown : (ks : List ℕ) (s : Filled) → Grown s (fill_once full target ks s)
    unfolding fill_once each
    once_grown [] s = grown_same s
    once_grown (k ∷ ks) s = grown_then s _ _ (step k s (room full target k s) refl) (once_grown ks (fill_if (room full target k s) k s))

    pub rounds_grown : (d : ℕ) (ks : List ℕ) (s : Filled) → Grown s (fill_rounds d full target ks s)
    unfolding fill_rounds
    rounds_grown zero ks s = grown_same s
    rounds_grown (suc d) ks s = grown_then s _ _ (once_grown ks s) (rounds_grown d ks (fill_once full target ks s))

    -- ---- once the target is reached nothing changes
    full_step : (k : ℕ) (s : Filled) → target ≤ s.total → (b : Bool) → room full target k s ≡ b → fill_if b k s ≡ s
    full_step k s h false e = refl
    full_step k s h true e = absurd (omega (arith, room_total k s e))

    full_once : (ks : List ℕ) (s : Filled) → target ≤ s.total → fill_once full target ks s ≡ s
    unfolding fill_once each
    full_once [] s h = refl
    full_once (k ∷ ks) s h = ap (each (fill_at full target) ks) (full_step k s h (room full target k s) refl) ∙ full_once ks s h

    pub full_rounds : (d : ℕ) (ks : List ℕ) (s : Filled) → target ≤ s.total → fill_rounds d full target ks s ≡ s
    unfolding fill_rounds
    full_rounds zero ks s h = refl
    full_rounds (suc d) ks s h = ap (fill_rounds d full target ks) (full_once ks s h) ∙ full_rounds d ks s h

-- ---- evenness. m corridors, b the counts with which filling begins
module _ (full : ℕ → ℕ) (target m : ℕ) (b : List ℕ) where
  -- within a pass, ks being what is left of it, after p whole ones
  abbrev Even : ℕ → List ℕ → Filled → Type 0
  Even p ks s = (j : ℕ) → j < m → get_or s.counts j 0 < full j → get_or s.counts j 0 + occ j ks ≡ get_or b j 0 + suc p

  -- how filling ends: the target reached, each corridor with room having got p or p + 1; or not reached after q passes, each of which gave it one
  pub data Ends (q : ℕ) (s : Filled) : Type 0 where
    reached : (p : ℕ) → target ≤ s.total
        → ((j : ℕ) → j < m → get_or s.counts j 0 < full j → (get_or b j 0 + p ≤ get_or s.counts j 0) × (get_or s.counts j 0 ≤ get_or b j 0 + suc p))
        → Ends q s
    unreached : s.total < target → ((j : ℕ) → j < m → get_or s.counts j 0 < full j → get_or s.counts j 0 ≡ get_or b j 0 + q) → Ends q s

  abbrev Once : List ℕ → Type 0
  Once ks = (j : ℕ) → j < m → occ j ks ≤ 1

  -- the target is reached inside a pass
  stop : (q p : ℕ) (ks : List ℕ) (s : Filled) → Once ks → target ≤ s.total → Even p ks s → Ends q s
  stop q p ks s u h e =
      reached p h (λ j a c. (omega (arith, e j a c, u j a), omega (arith, e j a c)))

  less : (k : ℕ) (ks : List ℕ) → Once (k ∷ ks) → Once ks
  unfolding occ
  less k ks u j h = omega (arith, u j h)

  -- one corridor of a pass
  grows : (p k : ℕ) (ks : List ℕ) (s : Filled) → k < length s.counts → Even p (k ∷ ks) s → Even p ks (fill_if true k s)
  unfolding occ
  grows p k ks s h e j a = go (ℕ_discrete j k)
    where
      go : Dec (j ≡ k) → get_or (set s.counts k (get_or s.counts k 0 + 1)) j 0 < full j
          → get_or (set s.counts k (get_or s.counts k 0 + 1)) j 0 + occ j ks ≡ get_or b j 0 + suc p
      go (yes q) c =
          let x = set_here s.counts k j (get_or s.counts k 0 + 1) h q in
          let y : get_or s.counts j 0 ≡ get_or s.counts k 0 = ap (λ (i : ℕ). get_or s.counts i 0) q in
          omega (arith, e j a (omega arith), same_yes j k q)
      go (no n) c =
          let x = get_or-set_other s.counts k j (get_or s.counts k 0 + 1) 0 n in
          omega (arith, e j a (omega arith), same_no j k n)

  skips : (p k : ℕ) (ks : List ℕ) (s : Filled) → full k ≤ get_or s.counts k (full k) → length s.counts ≡ m → Even p (k ∷ ks) s → Even p ks s
  unfolding occ
  skips p k ks s h w e j a c = go (ℕ_discrete j k)
    where
      go : Dec (j ≡ k) → get_or s.counts j 0 + occ j ks ≡ get_or b j 0 + suc p
      go (yes q) =
          let y : get_or s.counts j (full j) ≡ get_or s.counts k (full k) = ap (λ (i : ℕ). get_or s.counts i (full i)) q in
          let x : full j ≡ full k = ap full q in
          let z : j < length s.counts = omega arith in
          absurd (omega (arith, any_default (full j) s.counts j z))
      go (no n) = omega (arith, e j a c, same_no j k n)

  -- a pass
  and_false : (x y : Bool) → x ≡ true → (x && y) ≡ false → y ≡ false
  and_false true y e f = f
  and_false false y e f = cc

  passed : (p k : ℕ) (ks : List ℕ) (s : Filled) → Once ks → length s.counts ≡ m → s.total < target → Even p (k ∷ ks) s
      → ((t : Filled) → length t.counts ≡ m → t.total < target → Even p ks t → Ends (suc p) (fill_once full target ks t))
      → (r : Bool) → room full target k s ≡ r → Ends (suc p) (fill_once full target ks (fill_if r k s))
  passed p k ks s u w h e next false r =
      let q : full k ≤ get_or s.counts k (full k) = ltb-false _ _ (and_false (ltb s.total target) (below_full full k s) (lt-ltb s.total target h) r) in
      next s w h (skips p k ks s q w e)
  passed p k ks s u w h e next true r =
      let i = in_list (full k) s.counts k (room_count full target k s r) in
      let w' : length (set s.counts k (get_or s.counts k 0 + 1)) ≡ m = length-set s.counts k (get_or s.counts k 0 + 1) ∙ w in
      go i w' (ltb (s.total + 1) target) refl
    where
      go : k < length s.counts → length (set s.counts k (get_or s.counts k 0 + 1)) ≡ m → (f : Bool) → ltb (s.total + 1) target ≡ f
          → Ends (suc p) (fill_once full target ks (fill_if true k s))
      go i w' true f = next (fill_if true k s) w' (ltb-true _ _ f) (grows p k ks s i e)
      go i w' false f =
          let z : target ≤ s.total + 1 = ltb-false _ _ f in
          rw (full_once full target ks (fill_if true k s) z) (stop (suc p) p ks (fill_if true k s) u z (grows p k ks s i e))

  pass : (p : ℕ) (ks : List ℕ) (s : Filled) → Once ks → length s.counts ≡ m → s.total < target → Even p ks s → Ends (suc p) (fill_once full target ks s)
  unfolding fill_once each occ
  pass p [] s u w h e = unreached h (λ j a c. omega (arith, e j a c))
  pass p (k ∷ ks) s u w h e =
      passed p k ks s (less k ks u) w h e (λ t w' h' e'. pass p ks t (less k ks u) w' h' e') (room full target k s) refl

  -- passes over an order that names each corridor once
  module _ (ks : List ℕ) (named : (j : ℕ) → j < m → occ j ks ≡ 1) where
    turned : (d p : ℕ) (t : Filled) → length t.counts ≡ m → Ends (suc p) t
        → ((s : Filled) → length s.counts ≡ m → s.total < target → ((j : ℕ) → j < m → get_or s.counts j 0 < full j → get_or s.counts j 0 ≡ get_or b j 0 + suc p)
        → Ends (suc p + d) (fill_rounds d full target ks s))
        → Ends (p + suc d) (fill_rounds d full target ks t)
    turned d p t w (unreached h e) next = subst (λ (q : ℕ). Ends q (fill_rounds d full target ks t)) (let z : suc p + d ≡ p + suc d = omega arith in z) (next t w h e)
    turned d p t w (reached q h e) next = rw (full_rounds full target d ks t h) (reached q h e)

    turns : (d p : ℕ) (s : Filled) → length s.counts ≡ m → s.total < target
        → ((j : ℕ) → j < m → get_or s.counts j 0 < full j → get_or s.counts j 0 ≡ get_or b j 0 + p) → Ends (p + d) (fill_rounds d full target ks s)
    unfolding fill_rounds
    turns zero p s w h e = unreached h (λ j a c. omega (arith, e j a c))
    turns (suc d) p s w h e =
        turned d p (fill_once full target ks s) ((once_grown full target ks s).size ∙ w)
        (pass p ks s (λ j a. omega (arith, named j a)) w h (λ j a c. omega (arith, e j a c, named j a)))
        (λ t w' h' e'. turns d (suc p) t w' h' e')

    pub fills : (n : ℕ) (s : Filled) → length s.counts ≡ m → s.counts ≡ b → Ends n (fill_rounds n full target ks s)
    fills n s w e = go (ltb s.total target) refl
      where
        start : (j : ℕ) → get_or s.counts j 0 ≡ get_or b j 0 + 0
        start j = let z : get_or s.counts j 0 ≡ get_or b j 0 = ap (λ (l : List ℕ). get_or l j 0) e in omega arith

        go : (f : Bool) → ltb s.total target ≡ f → Ends n (fill_rounds n full target ks s)
        go true f =
            subst (λ (q : ℕ). Ends q (fill_rounds n full target ks s)) (let z : 0 + n ≡ n = omega arith in z) (turns n 0 s w (ltb-true _ _ f) (λ j a c. start j))
        go false f =
            let h : target ≤ s.total = ltb-false _ _ f in
            rw (full_rounds full target n ks s h) (reached 0 h (λ j a c. (omega (arith, start j), omega (arith, start j))))

-- ---- where no corridor is given more than n, n turns are enough
module _ (full : ℕ → ℕ) (target m n : ℕ) (few : (k : ℕ) → full k ≤ n) (b : List ℕ) where
  -- not reached after n turns: every corridor is full
  pub all_full : (t : Filled) → length t.counts ≡ m → ((j : ℕ) → j < m → get_or t.counts j 0 < full j → get_or t.counts j 0 ≡ get_or b j 0 + n)
      → (k : ℕ) → below_full full k t ≡ false
  all_full t len f k = go (ltb k m) refl
    where
      here : k < m → (x : Bool) → below_full full k t ≡ x → x ≡ false
      here h true e =
          let l : k < length t.counts = omega (arith, len) in
          let d = any_default (full k) t.counts k l in
          let q : get_or t.counts k (full k) < full k = ltb-true _ _ e in
          absurd (omega (arith, f k h (omega arith), few k))
      here h false e = refl

      go : (x : Bool) → ltb k m ≡ x → below_full full k t ≡ false
      go true e = here (ltb-true k m e) (below_full full k t) refl
      go false e =
          let l : length t.counts ≤ k = (let z = ltb-false k m e in omega (arith, len)) in
          ap (λ (x : ℕ). ltb x (full k)) (get_or-eq_default t.counts (full k) l) ∙ le-ltb (full k) (full k) (let z : full k ≤ full k = omega arith in z)

  shut_once : (ks : List ℕ) (t : Filled) → ((k : ℕ) → below_full full k t ≡ false) → fill_once full target ks t ≡ t
  unfolding fill_once each
  shut_once [] t h = refl
  shut_once (k ∷ ks) t h =
      ap (λ (x : Bool). each (fill_at full target) ks (fill_if x k t)) (and_no (ltb t.total target) (below_full full k t) (h k)) ∙ shut_once ks t h

  shut_rounds : (d : ℕ) (ks : List ℕ) (t : Filled) → ((k : ℕ) → below_full full k t ≡ false) → fill_rounds d full target ks t ≡ t
  unfolding fill_rounds
  shut_rounds zero ks t h = refl
  shut_rounds (suc d) ks t h = ap (fill_rounds d full target ks) (shut_once ks t h) ∙ shut_rounds d ks t h

  rounds_more : (e d : ℕ) (ks : List ℕ) (s : Filled) → fill_rounds (e + d) full target ks s ≡ fill_rounds d full target ks (fill_rounds e full target ks s)
  unfolding fill_rounds
  rounds_more zero d ks s = ap (λ (i : ℕ). fill_rounds i full target ks s) (let z : 0 + d ≡ d = omega arith in z)
  rounds_more (suc e) d ks s =
      ap (λ (i : ℕ). fill_rounds i full target ks s) (let z : suc e + d ≡ suc (e + d) = omega arith in z) ∙ rounds_more e d ks (fill_once full target ks s)

  pub turns_enough : (d : ℕ) (ks : List ℕ) → ((j : ℕ) → j < m → occ j ks ≡ 1) → (s : Filled) → length s.counts ≡ m → s.counts ≡ b
      → fill_rounds (n + d) full target ks s ≡ fill_rounds n full target ks s
  turns_enough d ks named s w e = rounds_more n d ks s ∙ go (fills full target m b ks named n s w e)
    where
      t : Filled
      t = fill_rounds n full target ks s

      go : Ends full target m b n t → fill_rounds d full target ks t ≡ t
      go (reached p h f) = full_rounds full target d ks t h
      go (unreached h f) = shut_rounds d ks t (all_full t ((rounds_grown full target n ks s).size ∙ w) f)
