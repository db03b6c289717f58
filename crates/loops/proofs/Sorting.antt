-- Sorting by insertion gives a list that is in order and names each index as often as it was put in, and there is no other such list.
-- `ahead` is an order of the indices: no two are ahead of each other, and of two different ones one is. A later index is put in by a test that agrees with it.
use Prim.Native.Nat.{ℕ, suc, ◌+◌, ◌≤◌, ◌<◌}
use mathlib.Core.Bool.{Bool, true, false, not, cond, ◌&&◌, ◌||◌}
use mathlib.Core.List.{List, [], ◌∷◌}
use mathlib.Core.Path.{◌≡◌, refl, sym, ap, ◌∙◌}
use native.Mathlib.Omega.{arith}
use native.Mathlib.Decide.{ℕ_discrete}
use borrow.Author.Tests.{ltb-true, ltb-false, lt-ltb, eqb-true, eq-eqb}
use lib.Arith.{lt_of_le-ne}
use lib.Dec.{T, ltb, eqb}
use lib.Ieee.{Float, lt, le, eq}
use Rattle.std.specs.List.{All}
use Rattle.std.proofs.lemmas.List.Elements.{All-nil, All-cons, All-head, All-tail, All-weaker}
use Rattle.loops.specs.Sorting.{put_before, insert_by, insert_all, same, occ, InOrder, Sorted}
use Rattle.loops.proofs.Bools.{no as clash}
use Rattle.loops.proofs.Inserted.{inserted_all}
use Rattle.loops.proofs.Order.{real, le_of_lt, lt_of_not_le, le_through, lt_is, eq_is}

-- ---- how often an index is named
pub same_yes : (j k : ℕ) → j ≡ k → same j k ≡ 1
same_yes j k p = rw (eq-eqb j k p)

pub same_no : (j k : ℕ) → (j ≡ k → ⊥) → same j k ≡ 0
same_no j k n = go (eqb j k) refl
  where
    go : (b : Bool) → eqb j k ≡ b → ◌≡◌ {A = ℕ} (cond b 1 0) 0
    go true e = absurd (n (eqb-true j k e))
    go false e = refl

insert_occ : (comes : ℕ → ℕ → Bool) (j k : ℕ) (l : List ℕ) → occ j (insert_by comes k l) ≡ same j k + occ j l
unfolding occ insert_by
insert_occ comes j k [] = refl
insert_occ comes j k (i ∷ l) = go (comes k i) (insert_occ comes j k l)
  where
    go : (b : Bool) → occ j (insert_by comes k l) ≡ same j k + occ j l
        → occ j (put_before b k i l (insert_by comes k l)) ≡ same j k + (same j i + occ j l)
    go true e = refl
    go false e = omega arith

pub all_occ : (comes : ℕ → ℕ → Bool) (j : ℕ) (ks l : List ℕ) → occ j (insert_all comes ks l) ≡ occ j ks + occ j l
unfolding occ insert_all
all_occ comes j [] l = omega arith
all_occ comes j (k ∷ ks) l = omega (arith, all_occ comes j ks (insert_by comes k l), insert_occ comes j k l)

-- ---- what holds of every element
all_both : (P Q R : ℕ → Type 0) (l : List ℕ) → ((j : ℕ) → P j → Q j → R j) → All P l → All Q l → All R l
all_both P Q R l h p q = λ k d w. h _ (p k d w) (q k d w)

all_named : (P : ℕ → Type 0) (j : ℕ) (l : List ℕ) → All P l → 0 < occ j l → P j
unfolding occ
all_named P j [] p h = absurd (omega arith)
all_named P j (k ∷ l) p h = go (ℕ_discrete j k) (all_named P j l (All-tail P k l p))
  where
    go : Dec (j ≡ k) → (0 < occ j l → P j) → P j
    go (yes e) r = rw e (All-head P k l p)
    go (no n) r = r (omega (arith, same_no j k n))

-- ---- an order of the indices for which a fact holds
pub record Strict (Fine : ℕ → Type 0) (ahead : ℕ → ℕ → Bool) : Type 0 where
  pub one_way : (i j : ℕ) → Fine i → Fine j → ahead i j ≡ true → ahead j i ≡ true → ⊥
  pub through : (i j k : ℕ) → Fine i → Fine j → Fine k → ahead i j ≡ true → ahead j k ≡ true → ahead i k ≡ true
  pub either : (i j : ℕ) → Fine i → Fine j → (i ≡ j → ⊥) → ahead i j ≡ false → ahead j i ≡ true

-- ascending indices, from i on, for which the fact holds
unfoldable pub Ascending : (ℕ → Type 0) → ℕ → List ℕ → Type 0
Ascending Fine i [] = Unit
Ascending Fine i (k ∷ ks) = (i ≤ k) × Fine k × Ascending Fine (suc k) ks

module _ (Fine : ℕ → Type 0) (ahead comes : ℕ → ℕ → Bool) (S : Strict Fine ahead) (agree : (j k : ℕ) → j < k → comes k j ≡ ahead k j) where
  -- ---- a later index put in
  abbrev Earlier : ℕ → ℕ → Type 0
  Earlier k j = Fine j × (j < k)

  insert_order : (k : ℕ) (l : List ℕ) → Fine k → All (Earlier k) l → InOrder ahead l → InOrder ahead (insert_by comes k l)
  unfolding InOrder insert_by
  insert_order k [] f e o = (All-nil (λ i. ahead k i ≡ true), tt)
  insert_order k (j ∷ l) f e o = go (comes k j) refl (insert_order k l f t o.1)
    where
      h : Earlier k j
      h = All-head (Earlier k) j l e

      t : All (Earlier k) l
      t = All-tail (Earlier k) j l e

      behind : ahead k j ≡ true → All (λ i. ahead k i ≡ true) l
      behind a = all_both (Earlier k) (λ i. ahead j i ≡ true) (λ i. ahead k i ≡ true) l (λ i g b. S.through k j i f h.0 g.0 a b) t o.0

      go : (b : Bool) → comes k j ≡ b → InOrder ahead (insert_by comes k l) → InOrder ahead (put_before b k j l (insert_by comes k l))
      go true q r = let a : ahead k j ≡ true = sym (agree j k h.1) ∙ q in (All-cons (λ i. ahead k i ≡ true) j l a (behind a), o)
      go false q r =
          let a : ahead j k ≡ true = S.either k j f h.0 (λ z. omega (arith, h.1)) (sym (agree j k h.1) ∙ q) in
          (inserted_all comes (λ i. ahead j i ≡ true) k l a o.0, r)

  all_order : (i : ℕ) (ks l : List ℕ) → Ascending Fine i ks → All (Earlier i) l → InOrder ahead l → InOrder ahead (insert_all comes ks l)
  unfolding Ascending insert_all
  all_order i [] l a e o = o
  all_order i (k ∷ ks) l a e o =
      let f : All (Earlier k) l = All-weaker (Earlier i) (Earlier k) (λ j h. (h.0, omega (arith, h.1, a.0))) l e in
      all_order (suc k) ks (insert_by comes k l) a.2
      (inserted_all comes (Earlier (suc k)) k l (a.1, omega arith) (All-weaker (Earlier k) (Earlier (suc k)) (λ j h. (h.0, omega (arith, h.1))) l f))
      (insert_order k l a.1 f o)

  pub sorted : (i : ℕ) (ks : List ℕ) → Ascending Fine i ks → Sorted ahead (λ j. occ j ks) (insert_all comes ks [])
  unfolding InOrder occ
  sorted i ks a = record { in_order = all_order i ks [] a (All-nil (Earlier i)) tt; names = λ j. omega (arith, all_occ comes j ks []) }

-- ---- and there is no other
module _ (Fine : ℕ → Type 0) (ahead : ℕ → ℕ → Bool) (S : Strict Fine ahead) where
  only_by : (ks ls : List ℕ) → All Fine ks → All Fine ls → InOrder ahead ks → InOrder ahead ls → ((j : ℕ) → occ j ks ≡ occ j ls) → ks ≡ ls
  unfolding InOrder occ
  only_by [] [] f g o p e = refl
  only_by [] (l ∷ ls) f g o p e = absurd (omega (arith, e l, same_yes l l refl))
  only_by (k ∷ ks) [] f g o p e = absurd (omega (arith, e k, same_yes k k refl))
  only_by (k ∷ ks) (l ∷ ls) f g o p e = go (ℕ_discrete k l) (only_by ks ls (All-tail Fine k ks f) (All-tail Fine l ls g) o.1 p.1)
    where
      tails : k ≡ l → (j : ℕ) → occ j ks ≡ occ j ls
      tails q j = let z : same j k ≡ same j l = ap (λ (i : ℕ). same j i) q in omega (arith, e j)

      go : Dec (k ≡ l) → (((j : ℕ) → occ j ks ≡ occ j ls) → ks ≡ ls) → k ∷ ks ≡ l ∷ ls
      go (yes q) r = ap (λ (i : ℕ). i ∷ ks) q ∙ ap (λ (t : List ℕ). l ∷ t) (r (tails q))
      go (no n) r =
          absurd
          (S.one_way k l (All-head Fine k ks f) (All-head Fine l ls g)
          (all_named (λ j. ahead k j ≡ true) l ks o.0 (omega (arith, e l, same_yes l l refl, same_no l k (λ z. n (sym z)))))
          (all_named (λ j. ahead l j ≡ true) k ls p.0 (omega (arith, e k, same_yes k k refl, same_no k l n))))

  -- what holds of each index that is named holds of every element
  all_of : (P : ℕ → Type 0) (ks : List ℕ) → ((j : ℕ) → 0 < occ j ks → P j) → All P ks
  unfolding occ
  all_of P [] h = All-nil P
  all_of P (k ∷ ks) h = All-cons P k ks (h k (omega (arith, same_yes k k refl))) (all_of P ks (λ j q. h j (omega arith)))

  pub only : (often : ℕ → ℕ) (ks ls : List ℕ) → ((j : ℕ) → 0 < often j → Fine j) → Sorted ahead often ks → Sorted ahead often ls → ks ≡ ls
  only often ks ls f a b =
      only_by ks ls (all_of Fine ks (λ j q. f j (omega (arith, a.names j)))) (all_of Fine ls (λ j q. f j (omega (arith, b.names j)))) a.in_order b.in_order
      (λ j. a.names j ∙ sym (b.names j))

-- ---- orders by one key after another
-- a key: `less` and `same` are those of `most`, at or ahead, which is total and transitive
pub record Key (Fine : ℕ → Type 0) (less same : ℕ → ℕ → Bool) : Type 0 where
  pub most : ℕ → ℕ → Bool
  pub less_is : (i j : ℕ) → Fine i → Fine j → less i j ≡ not (most j i)
  pub same_is : (i j : ℕ) → Fine i → Fine j → same i j ≡ (most i j && most j i)
  pub either : (i j : ℕ) → Fine i → Fine j → most i j ≡ false → most j i ≡ true
  pub through : (i j k : ℕ) → Fine i → Fine j → Fine k → most i j ≡ true → most j k ≡ true → most i k ≡ true

pub by_index : (Fine : ℕ → Type 0) → Strict Fine (λ i j. ltb i j)
by_index Fine = record {
  one_way = λ i j f g a b. omega (arith, ltb-true i j a, ltb-true j i b);
  through = λ i j k f g h a b. lt-ltb i k (omega (arith, ltb-true i j a, ltb-true j k b));
  either = λ i j f g n a. lt-ltb j i (lt_of_le-ne (ltb-false i j a) (λ e. n (sym e)));
}

module _ (Fine : ℕ → Type 0) (less same next : ℕ → ℕ → Bool) (K : Key Fine less same) (S : Strict Fine next) where
  abbrev pub then_by : ℕ → ℕ → Bool
  then_by i j = less i j || (same i j && next i j)

  -- how i comes ahead of j: strictly, or on a tie by what is next
  data Ahead (i j : ℕ) : Type 0 where
    strictly : K.most j i ≡ false → Ahead i j
    tied : K.most i j ≡ true → K.most j i ≡ true → next i j ≡ true → Ahead i j

  by_most : (a b c : Bool) → Bool
  by_most a b c = not b || ((a && b) && c)

  is : (i j : ℕ) → Fine i → Fine j → then_by i j ≡ by_most (K.most i j) (K.most j i) (next i j)
  unfolding by_most
  is i j f g = rw (K.less_is i j f g, K.same_is i j f g)

  ahead_of : (i j : ℕ) → Fine i → Fine j → then_by i j ≡ true → Ahead i j
  unfolding by_most
  ahead_of i j f g h = go (K.most i j) (K.most j i) (next i j) refl refl refl (sym (is i j f g) ∙ h)
    where
      go : (a b c : Bool) → K.most i j ≡ a → K.most j i ≡ b → next i j ≡ c → by_most a b c ≡ true → Ahead i j
      go a false c p q r e = strictly q
      go true true true p q r e = tied p q r
      go true true false p q r e = absurd (clash refl e)
      go false true c p q r e = absurd (clash refl e)

  of_ahead : (i j : ℕ) → Fine i → Fine j → Ahead i j → then_by i j ≡ true
  unfolding by_most
  of_ahead i j f g (strictly q) = is i j f g ∙ ap (λ (b : Bool). by_most (K.most i j) b (next i j)) q
  of_ahead i j f g (tied p q r) = is i j f g ∙ rw (p, q, r)

  -- whichever way j comes ahead of k, it is at most k
  at_most : (j k : ℕ) → Fine j → Fine k → Ahead j k → K.most j k ≡ true
  at_most j k f g (strictly q) = K.either k j g f q
  at_most j k f g (tied p q r) = p

  not_back : (b : Bool) → (b ≡ true → ⊥) → b ≡ false
  not_back true n = absurd (n refl)
  not_back false n = refl

  one_way_by : (i j : ℕ) → Fine i → Fine j → Ahead i j → Ahead j i → ⊥
  one_way_by i j f g (strictly q) b = clash q (at_most j i g f b)
  one_way_by i j f g (tied p q r) (strictly s) = clash s p
  one_way_by i j f g (tied p q r) (tied s t u) = S.one_way i j f g r u

  through_by : (i j k : ℕ) → Fine i → Fine j → Fine k → Ahead i j → Ahead j k → Ahead i k
  through_by i j k f g h (strictly q) b =
      strictly (not_back (K.most k i) (λ m. clash q (K.through j k i g h f (at_most j k g h b) m)))
  through_by i j k f g h (tied p q r) (strictly s) = strictly (not_back (K.most k i) (λ m. clash s (K.through k i j h f g m p)))
  through_by i j k f g h (tied p q r) (tied s t u) =
      tied (K.through i j k f g h p s) (K.through k j i h g f t q) (S.through i j k f g h r u)

  pub then_by_lem : Strict Fine then_by
  unfolding by_most
  then_by_lem = record {
    one_way = λ i j f g a b. one_way_by i j f g (ahead_of i j f g a) (ahead_of j i g f b);
    through = λ i j k f g h a b. of_ahead i k f h (through_by i j k f g h (ahead_of i j f g a) (ahead_of j k g h b));
    either = λ i j f g n e. of_ahead j i g f (back i j f g n (K.most i j) (K.most j i) (next i j) refl refl refl (sym (is i j f g) ∙ e));
  }
    where
      back : (i j : ℕ) → Fine i → Fine j → (i ≡ j → ⊥) → (a b c : Bool) → K.most i j ≡ a → K.most j i ≡ b → next i j ≡ c → by_most a b c ≡ false → Ahead j i
      back i j f g n a false c p q r e = absurd (clash e refl)
      back i j f g n false true c p q r e = strictly p
      back i j f g n true true true p q r e = absurd (clash e refl)
      back i j f g n true true false p q r e = tied q p (S.either i j f g n r)

-- ---- keys that are figures, no NaN among them: the largest first, or the least
module _ (Fine : ℕ → Type 0) (figure : ℕ → Float) (real-at : (i : ℕ) → Fine i → T (real (figure i))) where
  most_either : (i j : ℕ) → Fine i → Fine j → le (figure i) (figure j) ≡ false → le (figure j) (figure i) ≡ true
  most_either i j f g e = le_of_lt (figure j) (figure i) (lt_of_not_le (figure i) (figure j) (real-at i f) (real-at j g) e)

  pub falling : Key Fine (λ i j. lt (figure j) (figure i)) (λ i j. eq (figure j) (figure i))
  falling = record {
    most = λ i j. le (figure j) (figure i);
    less_is = λ i j f g. lt_is (figure j) (figure i) (real-at j g) (real-at i f);
    same_is = λ i j f g. eq_is (figure j) (figure i);
    either = λ i j f g e. most_either j i g f e;
    through = λ i j k f g h a b. le_through (figure k) (figure j) (figure i) b a;
  }

  pub rising : Key Fine (λ i j. lt (figure i) (figure j)) (λ i j. eq (figure i) (figure j))
  rising = record {
    most = λ i j. le (figure i) (figure j);
    less_is = λ i j f g. lt_is (figure i) (figure j) (real-at i f) (real-at j g);
    same_is = λ i j f g. eq_is (figure i) (figure j);
    either = λ i j f g e. most_either i j f g e;
    through = λ i j k f g h a b. le_through (figure i) (figure j) (figure k) a b;
  }
