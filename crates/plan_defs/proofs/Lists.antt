-- Laws of lists of indices, of loops over them and of sums: each loop over the indices that pass is a loop over all with a test.
-- By induction on the number of indices left.
use Prim.Native.Nat.{ℕ, zero, suc, ◌+◌, ◌≤◌, ◌<◌, zero-le, suc-le-suc}
use mathlib.Core.Bool.{Bool, true, false, cond}
use mathlib.Core.List.{List, [], ◌∷◌, ◌++◌}
use mathlib.Core.Path.{◌≡◌, refl, sym, ap, ◌∙◌, subst}
use native.Mathlib.Nat.{not-suc-le-zero, le_of_suc-le-suc}
use native.Mathlib.Omega.{arith}
use native.Mathlib.Decide.{ℕ_discrete}
use Rattle.std.proofs.Common.{add-one}
use lib.Arith.{lt_of_le-ne}
use lib.ListN.{length, get_or, set}
use Rattle.loops.proofs.Bools.{unequal}
use Rattle.loops.specs.Loops.{iter, tab}
use Rattle.loops.proofs.Tab.{tab_of}
use Rattle.plan_defs.specs.Lists.{keep, pass_from, count_from, counting, each, sum}

-- ---- loops over a list
module _ {S : Type 0} (f : ℕ → S → S) where
  pub each_keeps : (P : S → Type 0) → ((k : ℕ) (s : S) → P s → P (f k s)) → (ks : List ℕ) (s : S) → P s → P (each f ks s)
  unfolding each
  each_keeps P h [] s p = p
  each_keeps P h (k ∷ ks) s p = each_keeps P h ks (f k s) (h k s p)

  -- the same where f is only asked about indices below n
  pub each_below : (P : S → Type 0) (n : ℕ) → ((k : ℕ) → k < n → (s : S) → P s → P (f k s)) → (ks : List ℕ) → ((j : ℕ) → j < length ks → get_or ks j 0 < n)
      → (s : S) → P s → P (each f ks s)
  unfolding each
  each_below P n h [] b s p = p
  each_below P n h (k ∷ ks) b s p =
      each_below P n h ks (λ j l. b (suc j) (suc-le-suc l)) (f k s) (h k (b 0 (suc-le-suc zero-le)) s p)

  pub each_append : (ks js : List ℕ) (s : S) → each f (ks ++ js) s ≡ each f js (each f ks s)
  unfolding each
  each_append [] js s = refl
  each_append (k ∷ ks) js s = each_append ks js (f k s)

  -- over those that pass: over all, with a test
  abbrev tested : Bool → ℕ → S → S
  tested true i s = f i s
  tested false i s = s

  pub each_passing : (p : ℕ → Bool) (d i : ℕ) (s : S) → each f (pass_from p d i) s ≡ iter (λ j t. tested (p j) j t) d i s
  unfolding each pass_from iter
  each_passing p zero i s = refl
  each_passing p (suc d) i s = go (p i) (each_passing p d (suc i))
    where
      go : (b : Bool) → ((t : S) → each f (pass_from p d (suc i)) t ≡ iter (λ j u. tested (p j) j u) d (suc i) t)
          → each f (keep b i (pass_from p d (suc i))) s ≡ iter (λ j t. tested (p j) j t) d (suc i) (tested b i s)
      go true rest = rest (f i s)
      go false rest = rest s

-- a loop over a list goes by its places
iter_shift : {S : Type 0} (g : ℕ → S → S) (d i : ℕ) (s : S) → iter (λ j t. g (suc j) t) d i s ≡ iter g d (suc i) s
unfolding iter
iter_shift g zero i s = refl
iter_shift g (suc d) i s = iter_shift g d (suc i) (g (suc i) s)

pub each_places : {S : Type 0} (f : ℕ → S → S) (ks : List ℕ) (s : S) → each f ks s ≡ iter (λ j t. f (get_or ks j 0) t) (length ks) 0 s
unfolding each iter
each_places f [] s = refl
each_places f (k ∷ ks) s = each_places f ks (f k s) ∙ iter_shift (λ j t. f (get_or (k ∷ ks) j 0) t) (length ks) 0 (f k s)

-- ---- a loop over all indices below n
pub iter_below : {S : Type 0} (P : S → Type 0) (f : ℕ → S → S) (n : ℕ) → ((i : ℕ) → i < n → (s : S) → P s → P (f i s)) → (d i : ℕ) → i + d ≤ n
    → (s : S) → P s → P (iter f d i s)
unfolding iter
iter_below P f n h zero i q s p = p
iter_below P f n h (suc d) i q s p =
    let a : i < n = omega arith in
    let b : suc i + d ≤ n = omega arith in
    iter_below P f n h d (suc i) b (f i s) (h i a s p)

pub iter_to : {S : Type 0} (P : S → Type 0) (f : ℕ → S → S) (n : ℕ) → ((i : ℕ) → i < n → (s : S) → P s → P (f i s)) → (s : S) → P s → P (iter f n 0 s)
iter_to P f n h s p = iter_below P f n h n 0 (omega arith) s p

-- ---- the indices that pass: each passes and is below the bound, and each that passes is there
keep_first : (b : Bool) (i : ℕ) (l : List ℕ) → keep b i l ≡ [] → (b ≡ false) × (l ≡ [])
keep_first true i l e = absurd (unequal cc)
keep_first false i l e = (refl, e)

pub none_pass : (p : ℕ → Bool) (d i : ℕ) → pass_from p d i ≡ [] → (j : ℕ) → i ≤ j → j < i + d → p j ≡ false
unfolding pass_from
none_pass p zero i e j a b = absurd (omega arith)
none_pass p (suc d) i e j a b = go (ℕ_discrete i j) (none_pass p d (suc i) (keep_first (p i) i (pass_from p d (suc i)) e).1 j)
  where
    go : Dec (i ≡ j) → (suc i ≤ j → j < suc i + d → p j ≡ false) → p j ≡ false
    go (yes q) r = ap p (sym q) ∙ (keep_first (p i) i (pass_from p d (suc i)) e).0
    go (no n) r = r (lt_of_le-ne a n) (omega arith)

-- what holds of each element
abbrev pub All : (ℕ → Type 0) → List ℕ → Type 0
All P l = (j : ℕ) → j < length l → P (get_or l j 0)

pub all_cons : (P : ℕ → Type 0) (i : ℕ) (l : List ℕ) → P i → All P l → All P (i ∷ l)
all_cons P i l p a zero h = p
all_cons P i l p a (suc j) h = a j (le_of_suc-le-suc h)

keep_all : (P : ℕ → Type 0) (b : Bool) (i : ℕ) (l : List ℕ) → (b ≡ true → P i) → All P l → All P (keep b i l)
keep_all P true i l p a = all_cons P i l (p refl) a
keep_all P false i l p a = a

pub pass_all : (P : ℕ → Type 0) (p : ℕ → Bool) (n : ℕ) → ((i : ℕ) → i < n → p i ≡ true → P i) → (d i : ℕ) → i + d ≤ n → All P (pass_from p d i)
unfolding pass_from
pass_all P p n h zero i q = λ j l. absurd (not-suc-le-zero l)
pass_all P p n h (suc d) i q =
    let a : i < n = omega arith in
    let b : suc i + d ≤ n = omega arith in
    keep_all P (p i) i (pass_from p d (suc i)) (h i a) (pass_all P p n h d (suc i) b)

pub pass_below : (p : ℕ → Bool) (n : ℕ) → All (λ k. k < n) (pass_from p n 0)
pass_below p n = pass_all (λ k. k < n) p n (λ i l e. l) n 0 (omega arith)

pub pass_length : (p : ℕ → Bool) (d i : ℕ) → length (pass_from p d i) ≤ d
unfolding pass_from
pass_length p zero i = zero-le
pass_length p (suc d) i = go (p i) (pass_length p d (suc i))
  where
    go : (b : Bool) → length (pass_from p d (suc i)) ≤ d → length (keep b i (pass_from p d (suc i))) ≤ suc d
    go true h = suc-le-suc h
    go false h = omega arith

-- those of d + m indices: of the first d, and of the others
keep_append : (b : Bool) (i : ℕ) (l r : List ℕ) → keep b i (l ++ r) ≡ keep b i l ++ r
keep_append true i l r = refl
keep_append false i l r = refl

pub pass_split : (p : ℕ → Bool) (d m i : ℕ) → pass_from p (d + m) i ≡ pass_from p d i ++ pass_from p m (i + d)
unfolding pass_from
pass_split p zero m i = ap (λ (k : ℕ). pass_from p k i) (let z : 0 + m ≡ m = omega arith in z) ∙ ap (λ (k : ℕ). pass_from p m k) (let z : i ≡ i + 0 = omega arith in z)
pass_split p (suc d) m i =
    ap (λ (k : ℕ). pass_from p k i) (let z : suc d + m ≡ suc (d + m) = omega arith in z)
    ∙ ap (keep (p i) i) (pass_split p d m (suc i) ∙ ap (λ (k : ℕ). pass_from p d (suc i) ++ pass_from p m k) (let z : suc i + d ≡ i + suc d = omega arith in z))
    ∙ keep_append (p i) i (pass_from p d (suc i)) (pass_from p m (i + suc d))

abbrev pub Has : ℕ → List ℕ → Type 0
Has k l = (j : ℕ) × (j < length l) × (get_or l j 0 ≡ k)

keep_has : (b : Bool) (i k : ℕ) (l : List ℕ) → Has k l → Has k (keep b i l)
keep_has true i k l x = (suc x.0, suc-le-suc x.1, x.2)
keep_has false i k l x = x

kept : (b : Bool) (i : ℕ) (l : List ℕ) → b ≡ true → Has i (keep b i l)
kept true i l e = (0, suc-le-suc zero-le, refl)
kept false i l e = absurd (unequal cc)

pub pass_has : (p : ℕ → Bool) (k d i : ℕ) → p k ≡ true → i ≤ k → k < i + d → Has k (pass_from p d i)
unfolding pass_from
pass_has p k zero i e a b = absurd (omega arith)
pass_has p k (suc d) i e a b = go (ℕ_discrete i k) (pass_has p k d (suc i) e)
  where
    go : Dec (i ≡ k) → (suc i ≤ k → k < suc i + d → Has k (pass_from p d (suc i))) → Has k (keep (p i) i (pass_from p d (suc i)))
    go (yes q) r = subst (λ (x : ℕ). Has x (keep (p i) i (pass_from p d (suc i)))) q (kept (p i) i (pass_from p d (suc i)) (ap p q ∙ e))
    go (no n) r = keep_has (p i) i k (pass_from p d (suc i)) (r (lt_of_le-ne a n) (omega arith))

-- ---- counts: one index more, and at most all
count_next : (p : ℕ → Bool) (d i : ℕ) → count_from p (suc d) i ≡ count_from p d i + cond (p (i + d)) 1 0
unfolding count_from
count_next p zero i = let e : ◌≡◌ {A = ℕ} (cond (p i) 1 0) (cond (p (i + 0)) 1 0) = ap (λ (j : ℕ). cond {A = ℕ} (p j) 1 0) (let z : i ≡ i + 0 = omega arith in z) in omega arith
count_next p (suc d) i =
    let e : ◌≡◌ {A = ℕ} (cond (p (suc i + d)) 1 0) (cond (p (i + suc d)) 1 0) = ap (λ (j : ℕ). cond {A = ℕ} (p j) 1 0) (let z : suc i + d ≡ i + suc d = omega arith in z) in
    omega (arith, count_next p d (suc i))

pub count_more : (p : ℕ → Bool) (n : ℕ) → counting p (n + 1) ≡ counting p n + cond (p n) 1 0
count_more p n =
    ap (counting p) (add-one n) ∙ count_next p n 0 ∙ ap (λ (j : ℕ). count_from p n 0 + cond (p j) 1 0) (let z : 0 + n ≡ n = omega arith in z)

pub one_at_most : (b : Bool) → cond b 1 0 ≤ 1
one_at_most true = suc-le-suc zero-le
one_at_most false = zero-le

pub count_most : (p : ℕ → Bool) (d i : ℕ) → count_from p d i ≤ d
unfolding count_from
count_most p zero i = zero-le
count_most p (suc d) i = omega (arith, count_most p d (suc i), one_at_most (p i))

pub count_none : (p : ℕ → Bool) (n d i : ℕ) → i + d ≤ n → ((j : ℕ) → j < n → p j ≡ false) → count_from p d i ≡ 0
unfolding count_from
count_none p n zero i q h = refl
count_none p n (suc d) i q h =
    let a : i < n = omega arith in
    let b : suc i + d ≤ n = omega arith in
    let x : ◌≡◌ {A = ℕ} (cond (p i) 1 0) 0 = ap (λ (t : Bool). cond {A = ℕ} t 1 0) (h i a) in
    omega (arith, count_none p n d (suc i) b h)

-- ---- sums
pub sum_append : (xs ys : List ℕ) → sum (xs ++ ys) ≡ sum xs + sum ys
unfolding sum
sum_append [] ys = omega arith
sum_append (x ∷ xs) ys = omega (arith, sum_append xs ys)

pub sum_set : (l : List ℕ) (k v : ℕ) → k < length l → sum (set l k v) + get_or l k 0 ≡ sum l + v
unfolding sum
sum_set [] k v h = absurd (not-suc-le-zero h)
sum_set (x ∷ l) zero v h = omega arith
sum_set (x ∷ l) (suc k) v h = omega (arith, sum_set l k v (le_of_suc-le-suc h))

-- a table's sum, one place more
pub sum_tab : (f : ℕ → ℕ) (n : ℕ) → sum (tab (suc n) f) ≡ sum (tab n f) + f n
unfolding tab sum
sum_tab f n = sum_append (tab n f) (f n ∷ []) ∙ (let z : sum (tab n f) + (f n + 0) ≡ sum (tab n f) + f n = omega arith in z)

-- place by place, one sum from two others
pub sum_split : (f g h : ℕ → ℕ) (n : ℕ) → ((k : ℕ) → k < n → f k ≡ g k + h k) → sum (tab n f) ≡ sum (tab n g) + sum (tab n h)
unfolding tab sum
sum_split f g h zero e = refl
sum_split f g h (suc n) e =
    let x : sum (tab n f ++ (f n ∷ [])) ≡ sum (tab n f) + f n = sum_tab f n in
    let y : sum (tab n g ++ (g n ∷ [])) ≡ sum (tab n g) + g n = sum_tab g n in
    let z : sum (tab n h ++ (h n ∷ [])) ≡ sum (tab n h) + h n = sum_tab h n in
    omega (arith, sum_split f g h n (λ k l. e k (omega arith)), e n (omega arith))

-- a list of counts as a part and the rest
pub sum_parts : (l : List ℕ) (g : ℕ → ℕ) (n : ℕ) → length l ≡ n → ((k : ℕ) → k < n → g k ≤ get_or l k 0) → (h : ℕ → ℕ)
    → ((k : ℕ) → k < n → get_or l k 0 ≡ g k + h k) → sum l ≡ sum (tab n g) + sum (tab n h)
sum_parts l g n e b h q = ap sum (sym (tab_of n l 0 e)) ∙ sum_split (λ k. get_or l k 0) g h n q
