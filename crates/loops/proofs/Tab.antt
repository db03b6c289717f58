-- A list made index by index, and the loop that fills a slice from its front. Over any element type.
use Prim.Native.Nat.{ℕ, zero, suc, ◌+◌, ◌<◌}
use mathlib.Core.Path.{◌≡◌, refl, sym, ap, ◌∙◌}
use mathlib.Core.List.{List, [], ◌∷◌, ◌++◌, append-nil}
use mathlib.Core.Logic.{⊎_elim}
use native.Mathlib.Nat.{le_of_suc-le-suc, not-suc-le-zero, eq-or-lt_of_le}
use native.Mathlib.Omega.{arith}
use native.Mathlib.Numerals.{add-one}
use lib.ListN.{length, get_or, set, drop, length-append, get_or-append, replicate, length-replicate, get_or-replicate}
use lib.Seq.{set_at, drop-cons, drop-length, append_snoc, ext_get_or, get_or_at}
use Rattle.loops.specs.Loops.{tab, filled}

module _ {ℓ} {A : Type ℓ} where
  pub length_tab : (n : ℕ) (f : ℕ → A) → length (tab n f) ≡ n
  unfolding tab
  length_tab zero f = refl
  length_tab (suc n) f = length-append (tab n f) (f n ∷ []) ∙ ap (λ (k : ℕ). k + 1) (length_tab n f) ∙ add-one n

  pub get_tab : (n : ℕ) (f : ℕ → A) (i : ℕ) (d : A) → i < n → get_or (tab n f) i d ≡ f i
  unfolding tab
  get_tab zero f i d h = absurd (not-suc-le-zero h)
  get_tab (suc n) f i d h =
      ⊎_elim
      (λ e. ap (λ (k : ℕ). get_or (tab n f ++ (f n ∷ [])) k d) e ∙ get_or_at (tab n f) (f n) [] d n (length_tab n f) ∙ ap f (sym e))
      (λ l. get_or-append (tab n f) (f n ∷ []) d i (rw (length_tab n f) l) ∙ get_tab n f i d l)
      (eq-or-lt_of_le (le_of_suc-le-suc h))

  -- two tables that agree at each index are the same list
  pub tab_same : (n : ℕ) (f g : ℕ → A) → ((i : ℕ) → i < n → f i ≡ g i) → tab n f ≡ tab n g
  unfolding tab
  tab_same zero f g e = refl
  tab_same (suc n) f g e =
      ap (λ (l : List A). l ++ (f n ∷ [])) (tab_same n f g (λ i h. e i (omega arith)))
      ∙ ap (λ (a : A). tab n g ++ (a ∷ [])) (e n (omega arith))

  pub tab_replicate : (n : ℕ) (a : A) → tab n (λ i. a) ≡ replicate n a
  tab_replicate n a =
      ext_get_or a (tab n (λ i. a)) (replicate n a) (length_tab n _ ∙ sym (length-replicate n a))
      (λ i h. get_tab n _ i a (rw (length_tab n _) at h) ∙ sym (get_or-replicate n i a a (rw (length_tab n _) at h)))

  -- a list is made of its own elements
  pub tab_of : (n : ℕ) (v : List A) (d : A) → length v ≡ n → tab n (λ i. get_or v i d) ≡ v
  tab_of n v d e =
      ext_get_or d (tab n (λ i. get_or v i d)) v (length_tab n _ ∙ sym e) (λ i b. get_tab n _ i d (rw (length_tab n _) at b))

  -- ---- a loop that writes f 0, f 1, .. from the front of w₀: its start, a turn, its end, and the length on the way
  pub fill_start : (w₀ : List A) (f : ℕ → A) → w₀ ≡ filled w₀ f 0
  unfolding tab
  fill_start w₀ f = refl

  pub fill_turn : (w₀ w : List A) (f : ℕ → A) (i : ℕ) (a : A) → w ≡ filled w₀ f i → i < length w₀ → a ≡ f i → set w i a ≡ filled w₀ f (i + 1)
  unfolding tab
  fill_turn w₀ w f i a e h q =
      ap (λ (r : List A). set r i a) (e ∙ ap (λ (r : List A). tab i f ++ r) (drop-cons w₀ i a h))
      ∙ set_at (tab i f) (get_or w₀ i a) (drop (suc i) w₀) a i (length_tab i f)
      ∙ sym (append_snoc (tab i f) a (drop (suc i) w₀))
      ∙ rw (q, add-one)

  pub fill_end : (w₀ w : List A) (f : ℕ → A) (i n : ℕ) → length w₀ ≡ n → i ≡ n → w ≡ filled w₀ f i → w ≡ tab n f
  fill_end w₀ w f i n e p h =
      h
      ∙ ap (λ (k : ℕ). filled w₀ f k) p
      ∙ ap (λ (k : ℕ). tab n f ++ drop k w₀) (sym e)
      ∙ ap (λ (r : List A). tab n f ++ r) (drop-length w₀)
      ∙ append-nil (tab n f)

  -- what such a loop reads in a turn: the place that it is about to write still holds what it held
  pub fill_own : (w₀ w : List A) (f : ℕ → A) (i : ℕ) (d : A) → w ≡ filled w₀ f i → i < length w₀ → get_or w i d ≡ get_or w₀ i d
  fill_own w₀ w f i d e h =
      ap (λ (r : List A). get_or r i d) (e ∙ ap (λ (r : List A). tab i f ++ r) (drop-cons w₀ i d h))
      ∙ get_or_at (tab i f) (get_or w₀ i d) (drop (suc i) w₀) d i (length_tab i f)
