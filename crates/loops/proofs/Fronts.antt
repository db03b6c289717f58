-- Lists mapped, and the front of a list: as a table, as a part that is lent, and as what a loop filled.
use Prim.Native.Nat.{ℕ, zero, suc, ◌+◌, ◌-◌, ◌<◌, ◌≤◌}
use mathlib.Core.List.{List, [], ◌∷◌, ◌++◌, map}
use mathlib.Core.Path.{◌≡◌, refl, sym, ap, ◌∙◌}
use native.Mathlib.Nat.{sub-zero}
use native.Mathlib.Omega.{arith}
use lib.ListN.{length, get_or, take, replicate, length-replicate, replicate-append-replicate}
use lib.Seq.{length-take-le, get_or-take, take_at}
use Rattle.loops.specs.Loops.{tab}
use Rattle.loops.proofs.Tab.{tab_same, tab_of}

module _ {A B : Type 0} (f : A → B) where
  map_snoc : (l : List A) (a : A) → map f (l ++ (a ∷ [])) ≡ map f l ++ (f a ∷ [])
  map_snoc [] a = refl
  map_snoc (x ∷ l) a = ap (λ (r : List B). f x ∷ r) (map_snoc l a)

  pub map_tab : (n : ℕ) (g : ℕ → A) → map f (tab n g) ≡ tab n (λ i. f (g i))
  unfolding tab
  map_tab zero g = refl
  map_tab (suc n) g = map_snoc (tab n g) (g n) ∙ ap (λ (l : List B). l ++ (f (g n) ∷ [])) (map_tab n g)

  -- at an index within
  pub get_map : (l : List A) (i : ℕ) (a : A) (b : B) → i < length l → get_or (map f l) i b ≡ f (get_or l i a)
  get_map [] i a b h = absurd (not_below h)
    where
      not_below : i < 0 → ⊥
      not_below h = omega arith
  get_map (x ∷ l) zero a b h = refl
  get_map (x ∷ l) (suc i) a b h = get_map l i a b (omega arith)

-- two maps that agree give the same list
pub map_same : {A B : Type 0} (f g : A → B) → ((x : A) → f x ≡ g x) → (l : List A) → map f l ≡ map g l
map_same f g e [] = refl
map_same {B = B} f g e (x ∷ l) = ap (λ (y : B). y ∷ map f l) (e x) ∙ ap (λ (r : List B). g x ∷ r) (map_same f g e l)

-- ---- the front of a list
pub front_lent : {A : Type 0} (n : ℕ) (l m : List A) → take n l ≡ m → take (n - 0) l ≡ m
front_lent n l m e = ap (λ (k : ℕ). take k l) (sub-zero n) ∙ e

pub front_tab : {A : Type 0} (n : ℕ) (l : List A) (d : A) → n ≤ length l → take n l ≡ tab n (λ i. get_or l i d)
front_tab n l d h = sym (tab_of n (take n l) d (length-take-le n l h)) ∙ tab_same n _ _ (λ i b. get_or-take n l i d b)

-- the first n of N places that all hold a, as a part is lent
pub front_replicate : {A : Type 0} (N n : ℕ) (a : A) → n ≤ N → take (n - 0) (replicate N a) ≡ replicate n a
front_replicate N n a h =
    let e : n + (N - n) ≡ N = omega arith in
    ap (λ (k : ℕ). take k (replicate N a)) (sub-zero n)
    ∙ ap (λ (k : ℕ). take n (replicate k a)) (sym e)
    ∙ ap (take n) (sym (replicate-append-replicate n (N - n) a))
    ∙ take_at (replicate n a) (replicate (N - n) a) n (length-replicate n a)
