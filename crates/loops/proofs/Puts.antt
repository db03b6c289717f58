-- Loops that write to parts of a list: two parts filled in one loop, and one part updated turn by turn at places that are not in order. Over any element type.
-- A store outside a part commutes with replacing the part; a store inside it is a store to the part.
use Prim.Native.Nat.{ℕ, ◌+◌, ◌-◌, ◌<◌, ◌≤◌}
use mathlib.Core.Path.{◌≡◌, refl, sym, ap, ◌∙◌}
use mathlib.Core.List.{List}
use mathlib.Core.Logic.{◌⊎◌, inl, inr, ⊎_elim}
use native.Mathlib.Decide.{dec_lt, ℕ_discrete}
use native.Mathlib.Nat.{add-sub_of_le}
use native.Mathlib.Omega.{arith}
use lib.ListN.{length, get_or, set, length-set}
use lib.Seq.{ext_get_or, get_or-set_same, get_or-set_other}
use Rattle.loops.specs.Loops.{iter, tab}
use Rattle.loops.specs.Parts.{part, put, Apart}
use Rattle.loops.proofs.Loops.{iter_all, iter_more, iter_end}
use Rattle.loops.proofs.Tab.{length_tab}
use Rattle.loops.proofs.Parts.{get_part, length_part, length_put, get_put_low, get_put_in, get_put_high, put_part, part_put_same, put_put, set_put, tab_turn, tab_own, tab_other}

module _ {ℓ} {A : Type ℓ} where
  -- ---- a store outside the part from p
  module _ (d : A) (w : List A) (p : ℕ) (v : List A) (j : ℕ) (a : A) (h : p + length v ≤ length w) (out : (j < p) ⊎ (p + length v ≤ j)) (l : j < length w) where
    long : p + length v ≤ length (set w j a)
    long = simp length-set h

    outside : (k : ℕ) → (k < p) ⊎ (p + length v ≤ k) → get_or (put (set w j a) p v) k d ≡ get_or (set w j a) k d
    outside k o = ⊎_elim (λ b. get_put_low (set w j a) p v k d long b) (λ b. get_put_high (set w j a) p v k d long b) o

    kept : (k : ℕ) → (k < p) ⊎ (p + length v ≤ k) → get_or (put w p v) k d ≡ get_or w k d
    kept k o = ⊎_elim (λ b. get_put_low w p v k d h b) (λ b. get_put_high w p v k d h b) o

    inside : (k : ℕ) → p ≤ k → k < p + length v → get_or (put w p v) k d ≡ get_or (put (set w j a) p v) k d
    inside k b c =
        let t : p + (k - p) ≡ k = add-sub_of_le b in
        ap (λ (i : ℕ). get_or (put w p v) i d) (sym t)
        ∙ get_put_in w p v (k - p) d h (omega arith)
        ∙ sym (get_put_in (set w j a) p v (k - p) d long (omega arith))
        ∙ ap (λ (i : ℕ). get_or (put (set w j a) p v) i d) t

    other : (k : ℕ) → (k ≡ j → ⊥) → get_or (put w p v) k d ≡ get_or (put (set w j a) p v) k d
    other k ne =
        elim (dec_lt k p) [
          | yes b ↦ kept k (inl b) ∙ sym (get_or-set_other w j k a d ne) ∙ sym (outside k (inl b))
          | no b ↦
              elim (dec_lt k (p + length v)) [
                | yes c ↦ inside k (omega arith) c
                | no c ↦ let c' : p + length v ≤ k = omega arith in kept k (inr c') ∙ sym (get_or-set_other w j k a d ne) ∙ sym (outside k (inr c'))
              ]
        ]

    pub set_put_out : set (put w p v) j a ≡ put (set w j a) p v
    set_put_out =
        ext_get_or d (set (put w p v) j a) (put (set w j a) p v)
        (length-set (put w p v) j a ∙ length_put w p v h ∙ sym (length_put (set w j a) p v long ∙ length-set w j a))
        (λ k b. at k (ℕ_discrete k j))
      where
        at : (k : ℕ) → Dec (k ≡ j) → get_or (set (put w p v) j a) k d ≡ get_or (put (set w j a) p v) k d
        at k (yes e) =
            ap (λ (i : ℕ). get_or (set (put w p v) j a) i d) e
            ∙ get_or-set_same (put w p v) j a d (rw (length_put w p v h) l)
            ∙ sym (get_or-set_same w j a d l)
            ∙ sym (outside j out)
            ∙ ap (λ (i : ℕ). get_or (put (set w j a) p v) i d) (sym e)
        at k (no ne) = get_or-set_other (put w p v) j k a d ne ∙ other k ne

  -- ---- a loop that writes f 0, f 1, .. to the part from o, and g 0, g 1, .. to the part from p: where it starts, what it reads, and a turn of it

  module _ (d : A) (w₀ w : List A) (o p n : ℕ) (f g : ℕ → A) (i : ℕ) (e : w ≡ put (put w₀ o (tab i f)) p (tab i g))
      (s : Apart o p n) (ho : o + n ≤ length w₀) (hp : p + n ≤ length w₀) (l : i < n) where
    first_long : length (put w₀ o (tab i f)) ≡ length w₀
    first_long = length_put w₀ o (tab i f) (rw (length_tab i f) (omega arith))

    pub two_other : (r : ℕ) → Apart r o n → Apart r p n → get_or w (r + i) d ≡ get_or (part r n w₀) i d
    two_other r so sp =
        tab_other w (put w₀ o (tab i f)) p n g i d r sp e (rw first_long hp) l
        ∙ get_part r n (put w₀ o (tab i f)) i d l
        ∙ tab_other (put w₀ o (tab i f)) w₀ o n f i d r so refl ho l

    pub two_first : get_or w (o + i) d ≡ get_or (part o n w₀) i d
    two_first =
        tab_other w (put w₀ o (tab i f)) p n g i d o s e (rw first_long hp) l
        ∙ get_part o n (put w₀ o (tab i f)) i d l
        ∙ tab_own (put w₀ o (tab i f)) w₀ o n f i d refl ho l

    pub two_second : Apart p o n → get_or w (p + i) d ≡ get_or (part p n w₀) i d
    two_second so =
        tab_own w (put w₀ o (tab i f)) p n g i d e (rw first_long hp) l
        ∙ get_part p n (put w₀ o (tab i f)) i d l
        ∙ tab_other (put w₀ o (tab i f)) w₀ o n f i d p so refl ho l

    pub two_turn : (a b : A) → a ≡ f i → b ≡ g i → set (set w (o + i) a) (p + i) b ≡ put (put w₀ o (tab (i + 1) f)) p (tab (i + 1) g)
    two_turn a b qa qb =
        let lg : length (tab i g) ≡ i = length_tab i g in
        let L = first_long in
        let out : (o + i < p) ⊎ (p + length (tab i g) ≤ o + i) =
        elim (dec_lt p (o + n)) [ yes c ↦ let m = s c in inr (omega arith) | no c ↦ inl (omega arith) ] in
        let W : set (put w₀ o (tab i f)) (o + i) a ≡ put w₀ o (tab (i + 1) f) = tab_turn (put w₀ o (tab i f)) w₀ o f i a refl (omega arith) qa in
        let L' : length (put w₀ o (tab (i + 1) f)) ≡ length w₀ = length_put w₀ o (tab (i + 1) f) (rw (length_tab (i + 1) f) (omega arith)) in
        ap (λ (r : List A). set (set r (o + i) a) (p + i) b) e
        ∙ ap (λ (r : List A). set r (p + i) b) (set_put_out d (put w₀ o (tab i f)) p (tab i g) (o + i) a (omega arith) out (omega arith))
        ∙ tab_turn (put (set (put w₀ o (tab i f)) (o + i) a) p (tab i g)) (put w₀ o (tab (i + 1) f)) p g i b (ap (λ (r : List A). put r p (tab i g)) W) (omega arith) qb

  -- ---- a store inside the part from o
  pub set_in : (w : List A) (o n i : ℕ) (a : A) → o + n ≤ length w → i < n → set w (o + i) a ≡ put w o (set (part o n w) i a)
  set_in w o n i a h l =
      let k : length (part o n w) ≡ n = length_part o n w h in
      ap (λ (r : List A). set r (o + i) a) (sym (put_part w o n h)) ∙ set_put w o (part o n w) i a (omega arith) (omega arith)

  -- two stores inside it, the second reading what the first left
  pub set_in_twice : (d : A) (w : List A) (o n i j : ℕ) (a : A) (b : A → A) → o + n ≤ length w → i < n → j < n
      → set (set w (o + i) a) (o + j) (b (get_or (set w (o + i) a) (o + j) d))
      ≡ put w o (set (set (part o n w) i a) j (b (get_or (set (part o n w) i a) j d)))
  set_in_twice d w o n i j a b h l m =
      let k : length (part o n w) ≡ n = length_part o n w h in
      let k₁ : length (set (part o n w) i a) ≡ n = length-set (part o n w) i a ∙ k in
      let e₁ : set w (o + i) a ≡ put w o (set (part o n w) i a) = set_in w o n i a h l in
      ap (λ (r : List A). set r (o + j) (b (get_or r (o + j) d))) e₁
      ∙ ap (λ (x : A). set (put w o (set (part o n w) i a)) (o + j) (b x)) (get_put_in w o (set (part o n w) i a) j d (omega arith) (omega arith))
      ∙ set_put w o (set (part o n w) i a) j (b (get_or (set (part o n w) i a) j d)) (omega arith) (omega arith)

-- ---- a loop whose turn i replaces the part v from o by f i v: what is left of it gives the same
module _ {A : Type 0} (f : ℕ → List A → List A) (o n m : ℕ) (w₀ : List A) where
  pub record Turned (w : List A) (i : ℕ) : Type 0 where
    pub only : w ≡ put w₀ o (part o n w)
    pub rest : iter f (m - i) i (part o n w) ≡ iter f m 0 (part o n w₀)

  module _ (h : o + n ≤ length w₀) where
    pub turned_start : Turned w₀ 0
    turned_start = record { only = sym (put_part w₀ o n h); rest = iter_all f m (part o n w₀) }

    pub turned_turn : (w w' : List A) (i : ℕ) → length w ≡ length w₀ → i < m → length (f i (part o n w)) ≡ n → Turned w i → w' ≡ put w o (f i (part o n w)) → Turned w' (i + 1)
    turned_turn w w' i k l z t e =
        let p : part o n w' ≡ f i (part o n w) = ap (λ (r : List A). part o n r) e ∙ part_put_same w o n (f i (part o n w)) z (omega arith) in
        let lp : length (part o n w) ≡ n = length_part o n w (omega arith) in
        record {
          only =
              e
              ∙ ap (λ (r : List A). put r o (f i (part o n w))) t.only
              ∙ put_put w₀ o (part o n w) (f i (part o n w)) (lp ∙ sym z) (omega arith)
              ∙ ap (λ (r : List A). put w₀ o r) (sym p);
          rest = sym (iter_more f l p) ∙ t.rest;
        }

    pub turned_end : (w : List A) (i : ℕ) → m ≤ i → Turned w i → w ≡ put w₀ o (iter f m 0 (part o n w₀))
    turned_end w i l t = t.only ∙ ap (λ (r : List A). put w₀ o r) (sym (iter_end f l) ∙ t.rest)
