-- Laws of `part`, `put` and `tab`, over any element type: what a loop that reads one part of a slice and writes another asks for.
-- Assumes nothing.
use mathlib.Core.Path.{◌≡◌, refl, sym, ap, ◌∙◌}
use mathlib.Core.List.{List, [], ◌∷◌, ◌++◌, append_assoc, append-nil}
use Prim.Native.Nat.{ℕ, zero, suc, ◌+◌, ◌-◌, ◌<◌, ◌≤◌}
use native.Mathlib.Nat.{add-zero, zero-add, suc-add, add-sub_of_le}
use native.Mathlib.Decide.{dec_lt}
use mathlib.Core.Logic.{⊎_elim, ◌⊎◌, inl, inr}
use native.Mathlib.Numerals.{add-one}
use native.Mathlib.Omega.{arith}
use lib.ListN.{length, get_or, set, take, drop, replicate, length-append, length-take, length-drop, length-set, get_or-append, take-append-drop}
use lib.Seq.{get_or-take, get_or-drop, get_or-append-add, set-append_left, length-take-le, drop-cons, set_at, take_at, drop_at, drop-drop, append_snoc, ext_get_or}
use Rattle.loops.specs.Loops.{tab}
use Rattle.loops.specs.Parts.{part, put, Apart}
use Rattle.loops.proofs.Tab.{length_tab}

cases : (p o n : ℕ) → Apart p o n → (p + n ≤ o) ⊎ (o + n ≤ p)
cases p o n s = elim (dec_lt o (p + n)) [ yes l ↦ inr (s l) | no l ↦ inl (omega arith) ]

module _ {ℓ} {A : Type ℓ} where
  -- ---- reading a part
  pub get_part : (o n : ℕ) (w : List A) (i : ℕ) (d : A) → i < n → get_or (part o n w) i d ≡ get_or w (o + i) d
  unfolding part
  get_part o n w i d h = get_or-take n (drop o w) i d h ∙ get_or-drop o w i d

  pub length_part : (o n : ℕ) (w : List A) → o + n ≤ length w → length (part o n w) ≡ n
  unfolding part
  length_part o n w h = simp (length-take, length-drop) (omega arith)

  -- the front of one value again and again
  pub take_replicate : (q n : ℕ) (a : A) → q ≤ n → take q (replicate n a) ≡ replicate q a
  take_replicate zero n a h = refl
  take_replicate (suc q) zero a h = absurd (omega arith)
  take_replicate (suc q) (suc n) a h = ap (λ (l : List A). a ∷ l) (take_replicate q n a (omega arith))

  -- ---- a store past a prefix
  set_append_right : (xs ys : List A) (i : ℕ) (a : A) → set (xs ++ ys) (length xs + i) a ≡ xs ++ set ys i a
  set_append_right [] ys i a = ap (λ (k : ℕ). set ys k a) (zero-add i)
  set_append_right (x ∷ xs) ys i a =
      ap (λ (k : ℕ). set (x ∷ (xs ++ ys)) k a) (suc-add (length xs) i) ∙ ap (λ (r : List A). x ∷ r) (set_append_right xs ys i a)

  -- ---- reading and writing a list with a part replaced
  pub length_put : (w : List A) (o : ℕ) (v : List A) → o + length v ≤ length w → length (put w o v) ≡ length w
  unfolding put
  length_put w o v h = simp (length-append, length-take, length-drop) (omega arith)

  head_length : (w : List A) (o : ℕ) (v : List A) → o + length v ≤ length w → length (take o w ++ v) ≡ o + length v
  head_length w o v h = simp (length-append, length-take) (omega arith)

  pub get_put_low : (w : List A) (o : ℕ) (v : List A) (i : ℕ) (d : A) → o + length v ≤ length w → i < o → get_or (put w o v) i d ≡ get_or w i d
  unfolding put
  get_put_low w o v i d h l =
      get_or-append (take o w ++ v) (drop (o + length v) w) d i (rw (head_length w o v h) (omega arith))
      ∙ get_or-append (take o w) v d i (rw (length-take-le o w (omega arith)) l)
      ∙ get_or-take o w i d l

  pub get_put_in : (w : List A) (o : ℕ) (v : List A) (i : ℕ) (d : A) → o + length v ≤ length w → i < length v → get_or (put w o v) (o + i) d ≡ get_or v i d
  unfolding put
  get_put_in w o v i d h l =
      get_or-append (take o w ++ v) (drop (o + length v) w) d (o + i) (rw (head_length w o v h) (omega arith))
      ∙ ap (λ (k : ℕ). get_or (take o w ++ v) (k + i) d) (sym (length-take-le o w (omega arith)))
      ∙ get_or-append-add (take o w) v i d

  pub get_put_high : (w : List A) (o : ℕ) (v : List A) (i : ℕ) (d : A) → o + length v ≤ length w → o + length v ≤ i → get_or (put w o v) i d ≡ get_or w i d
  unfolding put
  get_put_high w o v i d h l =
      let k : ℕ = i - (o + length v) in
      let e : o + length v + k ≡ i = add-sub_of_le l in
      ap (λ (j : ℕ). get_or (take o w ++ v ++ drop (o + length v) w) j d) (sym e ∙ ap (λ (j : ℕ). j + k) (sym (head_length w o v h)))
      ∙ get_or-append-add (take o w ++ v) (drop (o + length v) w) k d
      ∙ get_or-drop (o + length v) w k d
      ∙ ap (λ (j : ℕ). get_or w j d) e

  pub set_put : (w : List A) (o : ℕ) (v : List A) (i : ℕ) (a : A) → o + length v ≤ length w → i < length v → set (put w o v) (o + i) a ≡ put w o (set v i a)
  unfolding put
  set_put w o v i a h l =
      set-append_left (take o w ++ v) (drop (o + length v) w) (o + i) a (rw (head_length w o v h) (omega arith))
      ∙ ap (λ (k : ℕ). set (take o w ++ v) (k + i) a ++ drop (o + length v) w) (sym (length-take-le o w (omega arith)))
      ∙ ap (λ (r : List A). r ++ drop (o + length v) w) (set_append_right (take o w) v i a)
      ∙ ap (λ (k : ℕ). take o w ++ set v i a ++ drop (o + k) w) (sym (length-set v i a))

  -- one more element: a loop that fills a part from its front
  pub put_none : (w : List A) (o : ℕ) → put w o [] ≡ w
  unfolding put
  put_none w o = rw (add-zero, append-nil) (take-append-drop o w)

  pub put_next : (w : List A) (o : ℕ) (v : List A) (i : ℕ) (a d : A) → length v ≡ i → o + i < length w → set (put w o v) (o + i) a ≡ put w o (v ++ (a ∷ []))
  unfolding put
  put_next w o v i a d e h =
      let h' : o + length v ≤ length w = omega arith in
      ap (λ (r : List A). set (take o w ++ v ++ r) (o + i) a) (drop-cons w (o + length v) d (omega arith))
      ∙ set_at (take o w ++ v) (get_or w (o + length v) d) (drop (suc (o + length v)) w) a (o + i) (head_length w o v h' ∙ (omega arith))
      ∙ sym (append_snoc (take o w ++ v) a (drop (suc (o + length v)) w))
      ∙ ap (λ (r : List A). r ++ drop (suc (o + length v)) w) (append_assoc (take o w) v (a ∷ []))
      ∙ ap (λ (k : ℕ). take o w ++ (v ++ (a ∷ [])) ++ drop k w) next
    where
      next : suc (o + length v) ≡ o + length (v ++ (a ∷ []))
      next = simp length-append (omega arith)

  -- ---- a part of a list with a part replaced
  pub part_put_same : (w : List A) (o n : ℕ) (v : List A) → length v ≡ n → o + n ≤ length w → part o n (put w o v) ≡ v
  unfolding part put
  part_put_same w o n v e h =
      let l : length (take o w) ≡ o = length-take-le o w (omega arith) in
      ap (λ (r : List A). take n (drop o r)) (append_assoc (take o w) v (drop (o + length v) w))
      ∙ ap (λ (r : List A). take n r) (drop_at (take o w) (v ++ drop (o + length v) w) o l)
      ∙ take_at v (drop (o + length v) w) n e

  pub put_part : (w : List A) (o n : ℕ) → o + n ≤ length w → put w o (part o n w) ≡ w
  unfolding part put
  put_part w o n h =
      let l : length (part o n w) ≡ n = length_part o n w h in
      ap (λ (k : ℕ). take o w ++ take n (drop o w) ++ drop (o + k) w) l
      ∙ append_assoc (take o w) (take n (drop o w)) (drop (o + n) w)
      ∙ ap (λ (r : List A). take o w ++ (take n (drop o w) ++ r)) (sym (drop-drop n o w))
      ∙ ap (λ (r : List A). take o w ++ r) (take-append-drop n (drop o w))
      ∙ take-append-drop o w

  -- two lists are equal when each is as long and they agree at each index; used for what is left
  module _ (d : A) where
    pub part_put_low : (w : List A) (o : ℕ) (v : List A) (p n : ℕ) → o + length v ≤ length w → p + n ≤ o → part p n (put w o v) ≡ part p n w
    part_put_low w o v p n h l =
        ext_get_or d (part p n (put w o v)) (part p n w)
        (length_part p n (put w o v) (rw (length_put w o v h) (omega arith)) ∙ sym (length_part p n w (omega arith)))
        (λ i b.
        let b' : i < n = rw (length_part p n (put w o v) (rw (length_put w o v h) (omega arith))) at b in
        get_part p n (put w o v) i d b' ∙ get_put_low w o v (p + i) d h (omega arith) ∙ sym (get_part p n w i d b'))

    pub part_put_high : (w : List A) (o : ℕ) (v : List A) (p n : ℕ) → o + length v ≤ p → p + n ≤ length w → part p n (put w o v) ≡ part p n w
    part_put_high w o v p n l h =
        ext_get_or d (part p n (put w o v)) (part p n w)
        (length_part p n (put w o v) (rw (length_put w o v (omega arith)) (omega arith)) ∙ sym (length_part p n w (omega arith)))
        (λ i b.
        let b' : i < n = rw (length_part p n (put w o v) (rw (length_put w o v (omega arith)) (omega arith))) at b in
        get_part p n (put w o v) i d b' ∙ get_put_high w o v (p + i) d (omega arith) (omega arith) ∙ sym (get_part p n w i d b'))

  pub put_put : (w : List A) (o : ℕ) (u v : List A) → length u ≡ length v → o + length v ≤ length w → put (put w o u) o v ≡ put w o v
  unfolding put
  put_put w o u v e h =
      ap (λ (r : List A). r ++ v ++ drop (o + length v) (take o w ++ u ++ drop (o + length u) w)) front
      ∙ ap (λ (r : List A). take o w ++ v ++ r) back
    where
      front : take o (take o w ++ u ++ drop (o + length u) w) ≡ take o w
      front = ap (λ (r : List A). take o r) (append_assoc (take o w) u (drop (o + length u) w)) ∙ take_at (take o w) (u ++ drop (o + length u) w) o (length-take-le o w (omega arith))

      back : drop (o + length v) (take o w ++ u ++ drop (o + length u) w) ≡ drop (o + length v) w
      back = drop_at (take o w ++ u) (drop (o + length u) w) (o + length v) (head_length w o u (omega arith) ∙ (omega arith)) ∙ ap (λ (k : ℕ). drop (o + k) w) e

  -- ---- a list made index by index
  -- a turn of a loop that writes f 0, f 1, .. to the part from o
  pub tab_next : (w : List A) (o : ℕ) (f : ℕ → A) (i : ℕ) → o + i < length w → set (put w o (tab i f)) (o + i) (f i) ≡ put w o (tab (i + 1) f)
  unfolding tab
  tab_next w o f i h = rw add-one (put_next w o (tab i f) i (f i) (f i) (length_tab i f) h)

  -- ---- a part after another was written
  pub part_put_apart : (d : A) (w : List A) (o : ℕ) (v : List A) (p n : ℕ) → Apart p o n → length v ≡ n → o + n ≤ length w → p + n ≤ length w
      → part p n (put w o v) ≡ part p n w
  part_put_apart d w o v p n s e h l =
      ⊎_elim (λ a. part_put_low d w o v p n (omega arith) a) (λ a. part_put_high d w o v p n (omega arith) l) (cases p o n s)

  -- a loop that writes f 0, f 1, .. to the part from o: where it starts, and a turn of it
  pub tab_start : (w : List A) (o : ℕ) (f : ℕ → A) → w ≡ put w o (tab 0 f)
  unfolding tab
  tab_start w o f = sym (put_none w o)

  pub tab_turn : (w w₀ : List A) (o : ℕ) (f : ℕ → A) (i : ℕ) (a : A) → w ≡ put w₀ o (tab i f) → o + i < length w₀ → a ≡ f i
      → set w (o + i) a ≡ put w₀ o (tab (i + 1) f)
  tab_turn w w₀ o f i a e h q = rw (e, q) (tab_next w₀ o f i h)

  -- what such a loop reads in a turn: the place that it is about to write, and a place of another part
  pub tab_own : (w w₀ : List A) (o n : ℕ) (f : ℕ → A) (i : ℕ) (d : A) → w ≡ put w₀ o (tab i f) → o + n ≤ length w₀ → i < n
      → get_or w (o + i) d ≡ get_or (part o n w₀) i d
  tab_own w w₀ o n f i d e h l =
      let t : length (tab i f) ≡ i = length_tab i f in
      ap (λ (r : List A). get_or r (o + i) d) e ∙ get_put_high w₀ o (tab i f) (o + i) d (omega arith) (omega arith) ∙ sym (get_part o n w₀ i d l)

  pub tab_other : (w w₀ : List A) (o n : ℕ) (f : ℕ → A) (i : ℕ) (d : A) (p : ℕ) → Apart p o n → w ≡ put w₀ o (tab i f) → o + n ≤ length w₀ → i < n
      → get_or w (p + i) d ≡ get_or (part p n w₀) i d
  tab_other w w₀ o n f i d p s e h l =
      let t : length (tab i f) ≡ i = length_tab i f in
      ap (λ (r : List A). get_or r (p + i) d) e
      ∙ ⊎_elim (λ a. get_put_low w₀ o (tab i f) (p + i) d (omega arith) (omega arith)) (λ a. get_put_high w₀ o (tab i f) (p + i) d (omega arith) (omega arith)) (cases p o n s)
      ∙ sym (get_part p n w₀ i d l)
