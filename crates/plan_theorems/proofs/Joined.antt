-- Joining two districts leaves their components apart (request K10): of the corridors of one, then those of the other on buses numbered past the first's,
-- the first's buses have the leaders they had, and the second's have theirs, moved.
-- A corridor of the first renames a leader below n, which no bus of the second has; one of the second renames a leader at or past n.
use Prim.Native.Nat.{ℕ, zero, suc, ◌+◌, ◌-◌, ◌≤◌, ◌<◌, min}
use mathlib.Core.Bool.{Bool, true, false, cond}
use mathlib.Core.List.{List, ◌++◌, map}
use mathlib.Core.Path.{◌≡◌, refl, sym, ap, ◌∙◌, subst}
use native.Mathlib.Omega.{arith}
use native.Mathlib.Decide.{ℕ_discrete}
use borrow.Author.Tests.{ltb-true, ltb-false, eq-eqb}
use lib.Dec.{ltb}
use lib.ListN.{length, get_or, length-append, length-map, get_or-append}
use lib.Seq.{get_or-append-add, ext_get_or}
use Rattle.loops.specs.Loops.{iter}
use Rattle.loops.proofs.Loops.{iter_last, iter_carries}
use Rattle.loops.proofs.Tab.{length_tab}
use Rattle.loops.proofs.Fronts.{get_map}
use Rattle.leaders.specs.Leaders.{follow, join, join_at, join_all, themselves, leaders_of}
use Rattle.leaders.specs.Operation.{Ends}
use Rattle.leaders.proofs.Laws.{themselves_at, rename_size, rename_at, follow_no}

-- m more buses, after n
abbrev pub moved : ℕ → List ℕ → List ℕ
moved n l = map (λ i. n + i) l

-- a list by its two parts: the first n places as in x, the next as in y, moved
record Apart (n : ℕ) (x y l : List ℕ) : Type 0 where
  size : length l ≡ length x + length y
  left : length x ≡ n
  low : (i : ℕ) → i < length x → get_or l i 0 ≡ get_or x i 0
  high : (i : ℕ) → i < length y → get_or l (n + i) 0 ≡ n + get_or y i 0
  below : (i : ℕ) → i < length x → get_or x i 0 < n

-- moved, a leader is followed as it was
follow_moved : (n old new x : ℕ) → follow (n + old) (n + new) (n + x) ≡ n + follow old new x
follow_moved n old new x = go (ℕ_discrete x old)
  where
    go : Dec (x ≡ old) → follow (n + old) (n + new) (n + x) ≡ n + follow old new x
    go (yes e) =
        ap (λ (b : Bool). cond b (n + new) (n + x)) (eq-eqb (n + x) (n + old) (ap (λ (j : ℕ). n + j) e))
        ∙ sym (ap (λ (b : Bool). n + cond b new x) (eq-eqb x old e))
    go (no d) = follow_no (n + old) (n + new) (n + x) (λ e. d (omega arith)) ∙ sym (ap (λ (j : ℕ). n + j) (follow_no old new x d))

module _ (n : ℕ) (x y l : List ℕ) (h : Apart n x y l) where
  -- a corridor of the first
  join_low : (p q : ℕ) → p < length x → q < length x → Apart n (join p q x) y (join p q l)
  unfolding join
  join_low p q P Q =
      record {
        size = rename_size _ _ l ∙ h.size ∙ ap (λ (k : ℕ). k + length y) (sym (rename_size _ _ x));
        left = rename_size _ _ x ∙ h.left;
        low = λ i a.
            let b : i < length x = omega (arith, rename_size (get_or x p 0) (get_or x q 0) x) in
            rename_at (get_or l p 0) (get_or l q 0) l i (omega (arith, h.size))
            ∙ ap (λ (v : ℕ). follow v (get_or l q 0) (get_or l i 0)) (h.low p P)
            ∙ ap (λ (v : ℕ). follow (get_or x p 0) v (get_or l i 0)) (h.low q Q)
            ∙ ap (follow (get_or x p 0) (get_or x q 0)) (h.low i b)
            ∙ sym (rename_at (get_or x p 0) (get_or x q 0) x i b);
        high = λ i a.
            rename_at (get_or l p 0) (get_or l q 0) l (n + i) (omega (arith, h.size, h.left))
            ∙ follow_no (get_or l p 0) (get_or l q 0) (get_or l (n + i) 0) (λ e. omega (arith, h.high i a, h.low p P, h.below p P))
            ∙ h.high i a;
        below = λ i a.
            let b : i < length x = omega (arith, rename_size (get_or x p 0) (get_or x q 0) x) in
            subst (λ (v : ℕ). v < n) (sym (rename_at (get_or x p 0) (get_or x q 0) x i b)) (followed (ℕ_discrete (get_or x i 0) (get_or x p 0)) (h.below i b) (h.below q Q));
      }
    where
      followed : {v o w : ℕ} → Dec (v ≡ o) → v < n → w < n → follow o w v < n
      followed {v} {o} {w} (yes e) a b = subst (λ (t : ℕ). t < n) (sym (ap (λ (c : Bool). cond c w v) (eq-eqb v o e))) b
      followed {v} {o} {w} (no d) a b = subst (λ (t : ℕ). t < n) (sym (follow_no o w v d)) a

  -- a corridor of the second
  join_high : (p q : ℕ) → p < length y → q < length y → Apart n x (join p q y) (join (n + p) (n + q) l)
  unfolding join
  join_high p q P Q =
      record {
        size = rename_size _ _ l ∙ h.size ∙ ap (λ (k : ℕ). length x + k) (sym (rename_size _ _ y));
        left = h.left;
        low = λ i a.
            rename_at (get_or l (n + p) 0) (get_or l (n + q) 0) l i (omega (arith, h.size))
            ∙ follow_no (get_or l (n + p) 0) (get_or l (n + q) 0) (get_or l i 0) (λ e. omega (arith, h.high p P, h.low i a, h.below i a))
            ∙ h.low i a;
        high = λ i a.
            let b : i < length y = omega (arith, rename_size (get_or y p 0) (get_or y q 0) y) in
            rename_at (get_or l (n + p) 0) (get_or l (n + q) 0) l (n + i) (omega (arith, h.size, h.left))
            ∙ ap (λ (v : ℕ). follow v (get_or l (n + q) 0) (get_or l (n + i) 0)) (h.high p P)
            ∙ ap (λ (v : ℕ). follow (n + get_or y p 0) v (get_or l (n + i) 0)) (h.high q Q)
            ∙ ap (follow (n + get_or y p 0) (n + get_or y q 0)) (h.high i b)
            ∙ follow_moved n (get_or y p 0) (get_or y q 0) (get_or y i 0)
            ∙ ap (λ (v : ℕ). n + v) (sym (rename_at (get_or y p 0) (get_or y q 0) y i b));
        below = h.below;
      }

-- ---- corridor by corridor
-- the leaders once the first k corridors are joined
abbrev led_by_lem : ℕ → List ℕ → List ℕ → ℕ → List ℕ
led_by_lem n a b k = iter (join_at a b) k 0 (themselves n)

led_next : (n : ℕ) (a b : List ℕ) (k : ℕ) → led_by_lem n a b (suc k) ≡ join_at a b k (led_by_lem n a b k)
led_next n a b k = iter_last (join_at a b) k 0 (themselves n) ∙ ap (λ (j : ℕ). join_at a b j (led_by_lem n a b k)) (let z : 0 + k ≡ k = omega arith in z)

led_size : (n : ℕ) (a b : List ℕ) (k : ℕ) → length (led_by_lem n a b k) ≡ n
unfolding iter themselves join
led_size n a b zero = length_tab n _
led_size n a b (suc k) = ap length (led_next n a b k) ∙ rename_size _ _ (led_by_lem n a b k) ∙ led_size n a b k

module _ (n m : ℕ) (a b a' b' : List ℕ) (E : Ends n a b) (E' : Ends m a' b') where
  abbrev A : List ℕ
  A = a ++ moved n a'

  abbrev B : List ℕ
  B = b ++ moved n b'

  abbrev Upto : ℕ → List ℕ → Type 0
  Upto i l = Apart n (led_by_lem n a b (min i (length a))) (led_by_lem m a' b' (i - length a)) l

  -- the ends of the joined table
  low_end : (l r : List ℕ) (i : ℕ) → i < length l → get_or (l ++ r) i 0 ≡ get_or l i 0
  low_end l r i h = get_or-append l r 0 i h

  high_end : (l r : List ℕ) (i : ℕ) → i < length r → get_or (l ++ moved n r) (length l + i) 0 ≡ n + get_or r i 0
  high_end l r i h = get_or-append-add l (moved n r) i 0 ∙ get_map (λ j. n + j) r i 0 0 h

  start : Upto 0 (themselves (n + m))
  unfolding iter themselves
  start =
      record {
        size = length_tab (n + m) _ ∙ sym (ap (λ (k : ℕ). k + length (led_by_lem m a' b' (0 - length a))) (led_size n a b (min 0 (length a))) ∙ ap (λ (k : ℕ). n + k) (led_size m a' b' (0 - length a)));
        left = led_size n a b (min 0 (length a));
        low = λ i h. let p : i < n = omega (arith, led_size n a b (min 0 (length a))) in themselves_at (n + m) i (omega arith) ∙ sym (first₁ i p);
        high = λ i h. let p : i < m = omega (arith, led_size m a' b' (0 - length a)) in themselves_at (n + m) (n + i) (omega arith) ∙ ap (λ (k : ℕ). n + k) (sym (first₂ i p));
        below = λ i h. let p : i < n = omega (arith, led_size n a b (min 0 (length a))) in subst (λ (k : ℕ). k < n) (sym (first₁ i p)) p;
      }
    where
      first₁ : (i : ℕ) → i < n → get_or (led_by_lem n a b (min 0 (length a))) i 0 ≡ i
      first₁ i h = ap (λ (k : ℕ). get_or (led_by_lem n a b k) i 0) (let z : min 0 (length a) ≡ 0 = omega arith in z) ∙ themselves_at n i h

      first₂ : (i : ℕ) → i < m → get_or (led_by_lem m a' b' (0 - length a)) i 0 ≡ i
      first₂ i h = ap (λ (k : ℕ). get_or (led_by_lem m a' b' k) i 0) (let z : 0 - length a ≡ 0 = omega arith in z) ∙ themselves_at m i h

  one_more_lem : (i : ℕ) (l : List ℕ) → i < length A → Upto i l → Upto (suc i) (join_at A B i l)
  one_more_lem i l h u = go (ltb i (length a)) refl
    where
      whole : length A ≡ length a + length a'
      whole = length-append a (moved n a') ∙ ap (λ (k : ℕ). length a + k) (length-map a' (λ j. n + j))

      go : (t : Bool) → ltb i (length a) ≡ t → Upto (suc i) (join_at A B i l)
      go true e =
          let q : i < length a = ltb-true i (length a) e in
          let k : min i (length a) ≡ i = omega arith in
          let s : min (suc i) (length a) ≡ suc i = omega arith in
          let z : suc i - length a ≡ i - length a = omega arith in
          let u₁ = subst (λ (j : ℕ). Apart n (led_by_lem n a b j) (led_by_lem m a' b' (i - length a)) l) k u in
          let w = led_size n a b i in
          let r = join_low n (led_by_lem n a b i) (led_by_lem m a' b' (i - length a)) l u₁ (get_or a i 0) (get_or b i 0) (omega (arith, E.from i q)) (omega (arith, E.to i q)) in
          let r₁ = subst (λ (x : List ℕ). Apart n x (led_by_lem m a' b' (i - length a)) (join (get_or a i 0) (get_or b i 0) l)) (sym (led_next n a b i)) r in
          let r₂ = subst (λ (j : ℕ). Apart n (led_by_lem n a b j) (led_by_lem m a' b' (i - length a)) (join (get_or a i 0) (get_or b i 0) l)) (sym s) r₁ in
          let r₃ = subst (λ (j : ℕ). Apart n (led_by_lem n a b (min (suc i) (length a))) (led_by_lem m a' b' j) (join (get_or a i 0) (get_or b i 0) l)) (sym z) r₂ in
          let p₁ = sym (low_end a (moved n a') i q) in
          let p₂ = sym (low_end b (moved n b') i (omega (arith, E.even))) in
          subst (λ (v : ℕ). Upto (suc i) (join (get_or A i 0) v l)) p₂ (subst (λ (v : ℕ). Upto (suc i) (join v (get_or b i 0) l)) p₁ r₃)
      go false e =
          let q : length a ≤ i = ltb-false i (length a) e in
          let j = i - length a in
          let g : length a + j ≡ i = omega arith in
          let f : j < length a' = omega (arith, whole) in
          let s : min (suc i) (length a) ≡ min i (length a) = omega arith in
          let z : suc i - length a ≡ suc j = omega arith in
          let w = led_size m a' b' j in
          let r = join_high n (led_by_lem n a b (min i (length a))) (led_by_lem m a' b' j) l u (get_or a' j 0) (get_or b' j 0) (omega (arith, E'.from j f)) (omega (arith, E'.to j f)) in
          let r₁ = subst (λ (y : List ℕ). Apart n (led_by_lem n a b (min i (length a))) y (join (n + get_or a' j 0) (n + get_or b' j 0) l)) (sym (led_next m a' b' j)) r in
          let r₂ = subst (λ (d : ℕ). Apart n (led_by_lem n a b d) (led_by_lem m a' b' (suc j)) (join (n + get_or a' j 0) (n + get_or b' j 0) l)) (sym s) r₁ in
          let r₃ = subst (λ (d : ℕ). Apart n (led_by_lem n a b (min (suc i) (length a))) (led_by_lem m a' b' d) (join (n + get_or a' j 0) (n + get_or b' j 0) l)) (sym z) r₂ in
          let p₁ : n + get_or a' j 0 ≡ get_or A i 0 = sym (high_end a a' j f) ∙ ap (λ (k : ℕ). get_or A k 0) g in
          let p₂ : n + get_or b' j 0 ≡ get_or B i 0 =
          sym (high_end b b' j (omega (arith, E'.even))) ∙ ap (λ (k : ℕ). get_or B k 0) (ap (λ (k : ℕ). k + j) E.even ∙ g) in
          subst (λ (v : ℕ). Upto (suc i) (join (get_or A i 0) v l)) p₂ (subst (λ (v : ℕ). Upto (suc i) (join v (n + get_or b' j 0) l)) p₁ r₃)

  -- ---- the theorem
  pub joined : leaders_of (n + m) A B ≡ leaders_of n a b ++ moved n (leaders_of m a' b')
  unfolding leaders_of join_all
  joined =
      let w : length A ≡ length a + length a' = length-append a (moved n a') ∙ ap (λ (k : ℕ). length a + k) (length-map a' (λ j. n + j)) in
      let u = iter_carries (join_at A B) Upto (length A) (λ i l h p. one_more_lem i l h p) (length A) 0 (themselves (n + m)) (omega arith) start in
      let k : min (length A) (length a) ≡ length a = omega arith in
      let d : length A - length a ≡ length a' = omega arith in
      let v = subst (λ (j : ℕ). Apart n (led_by_lem n a b j) (led_by_lem m a' b' (length A - length a)) (led_by_lem (n + m) A B (length A))) k u in
      whole (subst (λ (j : ℕ). Apart n (led_by_lem n a b (length a)) (led_by_lem m a' b' j) (led_by_lem (n + m) A B (length A))) d v)
    where
      X : List ℕ
      X = led_by_lem n a b (length a)

      Y : List ℕ
      Y = led_by_lem m a' b' (length a')

      whole : Apart n X Y (led_by_lem (n + m) A B (length A)) → led_by_lem (n + m) A B (length A) ≡ X ++ moved n Y
      whole h =
          ext_get_or 0 (led_by_lem (n + m) A B (length A)) (X ++ moved n Y)
          (h.size ∙ sym (length-append X (moved n Y) ∙ ap (λ (k : ℕ). length X + k) (length-map Y (λ j. n + j))))
          (λ i q. place i q (ltb i (length X)) refl)
        where
          place : (i : ℕ) → i < length (led_by_lem (n + m) A B (length A)) → (t : Bool) → ltb i (length X) ≡ t
              → get_or (led_by_lem (n + m) A B (length A)) i 0 ≡ get_or (X ++ moved n Y) i 0
          place i q true e = h.low i (ltb-true i (length X) e) ∙ sym (low_end X (moved n Y) i (ltb-true i (length X) e))
          place i q false e =
              let z : length X ≤ i = ltb-false i (length X) e in
              let j = i - length X in
              let f : j < length Y = omega (arith, h.size) in
              let g : length X + j ≡ i = omega arith in
              ap (λ (k : ℕ). get_or (led_by_lem (n + m) A B (length A)) k 0) (sym g ∙ ap (λ (k : ℕ). k + j) h.left)
              ∙ h.high j f
              ∙ sym (high_end X Y j f)
              ∙ ap (λ (k : ℕ). get_or (X ++ moved n Y) k 0) g
