-- Indices that pass a test, counted and summed one more at a time.
-- By the number of indices.
use Rattle.std.proofs.Common.{◌≡◌, ℕ, zero, suc, ◌+◌, ◌*◌, ◌^◌, ◌<◌, ◌≤◌, Bool, true, false, cond, [], ◌++◌, sym, refl, ap, ◌∙◌, subst, suc-mul, add-one, arith}
use native.Mathlib.Decide.{ℕ_discrete}
use lib.Arith.{lt_of_le-ne}
use lib.Ieee.{Float, of_bits}
use Rattle.loops.specs.Figures.{plus}
use Rattle.loops.proofs.Most.{Most, plus_most, most_more}
use Rattle.plan_defs.specs.Lists.{keep, pass_from, passing, count_from, each, sum_over}
use Rattle.plan_defs.proofs.Lists.{pass_split, each_append}

-- ---- one more index
last_of : (f : ℕ → Float) (k : ℕ) (s : Float) (b : Bool) → each (λ j s. plus s (f j)) (keep b k []) s ≡ cond b (plus s (f k)) s
unfolding each
last_of f k s true = refl
last_of f k s false = refl

pub sum_more : (f : ℕ → Float) (p : ℕ → Bool) (k : ℕ) (b : Bool) → p k ≡ b
    → sum_over f (passing p (k + 1)) ≡ cond b (plus (sum_over f (passing p k)) (f k)) (sum_over f (passing p k))
unfolding pass_from
sum_more f p k b e =
    let z : 0 + k ≡ k = omega arith in
    ap (sum_over f) (pass_split p k 1 0 ∙ ap (λ (j : ℕ). passing p k ++ keep (p j) j []) z)
    ∙ each_append (λ j s. plus s (f j)) (passing p k) (keep (p k) k []) _
    ∙ ap (λ (a : Bool). each (λ j s. plus s (f j)) (keep a k []) (sum_over f (passing p k))) e
    ∙ last_of f k (sum_over f (passing p k)) b

-- none passes where none is counted
pub count_zero : (p : ℕ → Bool) (d i : ℕ) → count_from p d i ≡ 0 → (j : ℕ) → i ≤ j → j < i + d → p j ≡ false
unfolding count_from
count_zero p zero i e j a b = absurd (omega arith)
count_zero p (suc d) i e j a b = go (ℕ_discrete j i) (p i) refl e (count_zero p d (suc i))
  where
    go : Dec (j ≡ i) → (t : Bool) → p i ≡ t → cond t 1 0 + count_from p d (suc i) ≡ 0
        → (count_from p d (suc i) ≡ 0 → (j : ℕ) → suc i ≤ j → j < suc i + d → p j ≡ false) → p j ≡ false
    go x true q f r = absurd (omega (arith, f))
    go (yes x) false q f r = ap p x ∙ q
    go (no x) false q f r = r (omega (arith, f)) j (lt_of_le-ne a (λ y. x (sym y))) (omega arith)

-- ---- a sum of at most n figures of at most K is at most n · K
module _ (f : ℕ → Float) (p : ℕ → Bool) (K : ℕ) where
  abbrev total : ℕ → Float
  total n = sum_over f (passing p n)

  none_most : Most 0 (total 0)
  unfolding pass_from each of_bits
  none_most = omega arith

  step : (n : ℕ) (b : Bool) → Most K (f n) → suc n * K ≤ 2 ^ 53 → Most (n * K) (total n) → Most (suc n * K) (cond b (plus (total n) (f n)) (total n))
  step n true h l r =
      let e : suc n * K ≡ n * K + K = suc-mul n K in
      subst (λ (N : ℕ). Most N (plus (total n) (f n))) (sym e) (plus_most (n * K) K (total n) (f n) r h (omega arith))
  step n false h l r = let e : suc n * K ≡ n * K + K = suc-mul n K in most_more (n * K) (suc n * K) (total n) (omega arith) r

  pub sum_most : (n : ℕ) → ((k : ℕ) → k < n → Most K (f k)) → n * K ≤ 2 ^ 53 → Most (n * K) (total n)
  sum_most zero h l = most_more 0 (0 * K) (total 0) (omega arith) none_most
  sum_most (suc n) h l =
      let e : suc n * K ≡ n * K + K = suc-mul n K in
      subst (λ (j : ℕ). Most (suc n * K) (total j)) (add-one n)
      (subst (λ (x : Float). Most (suc n * K) x) (sym (sum_more f p n (p n) refl))
      (step n (p n) (h n (omega arith)) l (sum_most n (λ k w. h k (omega arith)) (omega arith))))
