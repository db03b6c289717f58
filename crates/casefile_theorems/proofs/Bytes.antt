-- Bytes and numbers, and the fields of a record and their bytes, both ways.
-- By recursion on the bytes, and then on the fields: the first field is the front of the bytes (first_take, first_drop).
use Prim.Native.Nat.{ℕ, zero, suc, ◌+◌, ◌*◌, ◌/◌, ◌%◌, ◌^◌, ◌<◌, ◌≤◌}
use mathlib.Core.Path.{◌≡◌, refl, sym, ap, ◌∙◌}
use mathlib.Core.Bool.{Bool, true, ◌&&◌}
use mathlib.Core.List.{List, [], ◌∷◌, ◌++◌, append_assoc}
use native.Mathlib.Nat.{pow-suc, pow-le-pow_right, not-suc-le-zero, le_of_suc-le-suc}
use native.Mathlib.Omega.{arith}
use lib.Dec.{lit<}
use lib.ListN.{length, get_or, take, drop, length-append, length-take, length-drop}
use lib.Seq.{take_at, drop_at, drop-drop, take-add, get_or-drop, length-take-le}
use Rattle.loops.proofs.Bools.{both}
use Rattle.casefile_defs.specs.Layout.{little, word, Field, figure, width_of, widths_of, offset_of, allowed, allowed_from}
use Rattle.casefile_theorems.specs.Writer.{bytes, field_bytes}

-- every element is a byte
abbrev pub Bytes : List ℕ → Type 0
Bytes l = (i : ℕ) → get_or l i 0 < 256

pub length_bytes : (w n : ℕ) → length (bytes w n) ≡ w
unfolding bytes
length_bytes zero n = refl
length_bytes (suc w) n = ap suc (length_bytes w (n / 256))

-- the number of a number's bytes
pub little_bytes : (w n : ℕ) → n < 256 ^ w → little (bytes w n) ≡ n
unfolding bytes little
little_bytes zero n h = omega arith
little_bytes (suc w) n h =
    let b : n / 256 < 256 ^ w = (let g : n < 256 ^ w * 256 = rw (pow-suc 256 w) at h in omega arith) in
    let e : little (bytes w (n / 256)) ≡ n / 256 = little_bytes w (n / 256) b in
    omega arith

-- the bytes of the number of some bytes
pub bytes_little : (l : List ℕ) → Bytes l → bytes (length l) (little l) ≡ l
unfolding bytes little
bytes_little [] h = refl
bytes_little (b ∷ l) h =
    let c : b < 256 = h 0 in
    let m : (b + 256 * little l) % 256 ≡ b = omega arith in
    let d : (b + 256 * little l) / 256 ≡ little l = omega arith in
    ap (λ (x : ℕ). x ∷ bytes (length l) ((b + 256 * little l) / 256)) m
    ∙ ap (λ (x : ℕ). b ∷ bytes (length l) x) d
    ∙ ap (λ (r : List ℕ). b ∷ r) (bytes_little l (λ i. h (suc i)))

pub little_small : (l : List ℕ) → Bytes l → little l < 256 ^ length l
unfolding little
little_small [] h = lit< tt
little_small (b ∷ l) h =
    let c : b < 256 = h 0 in
    let g : little l < 256 ^ length l = little_small l (λ i. h (suc i)) in
    rw (pow-suc 256 (length l)) (omega arith)

-- ---- a record's fields, read from the front of a list
unfoldable pub field_in : List Field → List ℕ → ℕ → ℕ
field_in fs l j = little (take (width_of (get_or fs j figure)) (drop (offset_of fs j) l))

unfoldable pub allowed_in : List Field → List ℕ → Bool
allowed_in [] l = true
allowed_in (f ∷ fs) l = allowed f (little (take (width_of f) l)) && allowed_in fs (drop (width_of f) l)

-- the fields past the first
pub field_next : (f : Field) (fs : List Field) (l : List ℕ) (j : ℕ) → field_in (f ∷ fs) l (suc j) ≡ field_in fs (drop (width_of f) l) j
unfolding field_in
field_next f fs l j = ap (λ (r : List ℕ). little (take (width_of (get_or fs j figure)) r)) (sym (drop-drop (offset_of fs j) (width_of f) l))

-- at a place of the file
pub word_in : (w at o : ℕ) (s : List ℕ) → word w (at + o) s ≡ little (take w (drop o (drop at s)))
unfolding word
word_in w at o s = ap (λ (r : List ℕ). little (take w r)) (sym (drop-drop o at s))

pub allowed_in_lem : (fs : List Field) (o at : ℕ) (s : List ℕ) → allowed_from fs o at s ≡ allowed_in fs (drop (at + o) s)
unfolding allowed_in word
allowed_in_lem [] o at s = refl
allowed_in_lem (f ∷ fs) o at s =
    let e : at + (o + width_of f) ≡ at + o + width_of f = omega arith in
    ap (λ (b : Bool). allowed f (little (take (width_of f) (drop (at + o) s))) && b)
    (allowed_in_lem fs (o + width_of f) at s
    ∙ ap (λ (n : ℕ). allowed_in fs (drop n s)) e
    ∙ ap (λ (r : List ℕ). allowed_in fs r) (sym (drop-drop (width_of f) (at + o) s)))

-- ---- what is written is read
-- each number fits its field and keeps its bound
unfoldable pub Fine : List Field → (ℕ → ℕ) → Type 0
Fine [] v = Unit
Fine (f ∷ fs) v = (v 0 < 256 ^ width_of f) × (allowed f (v 0) ≡ true) × Fine fs (λ j. v (suc j))

pub length_fields : (fs : List Field) (v : ℕ → ℕ) → length (field_bytes fs v) ≡ widths_of fs
unfolding field_bytes
length_fields [] v = refl
length_fields (f ∷ fs) v =
    length-append (bytes (width_of f) (v 0)) (field_bytes fs (λ j. v (suc j)))
    ∙ ap (λ (n : ℕ). n + length (field_bytes fs (λ j. v (suc j)))) (length_bytes (width_of f) (v 0))
    ∙ ap (λ (n : ℕ). width_of f + n) (length_fields fs (λ j. v (suc j)))

module _ (f : Field) (fs : List Field) (v : ℕ → ℕ) (r : List ℕ) where
  first_take : take (width_of f) (field_bytes (f ∷ fs) v ++ r) ≡ bytes (width_of f) (v 0)
  unfolding field_bytes
  first_take =
      ap (λ (l : List ℕ). take (width_of f) l) (append_assoc (bytes (width_of f) (v 0)) (field_bytes fs (λ j. v (suc j))) r)
      ∙ take_at (bytes (width_of f) (v 0)) (field_bytes fs (λ j. v (suc j)) ++ r) (width_of f) (length_bytes (width_of f) (v 0))

  first_drop : drop (width_of f) (field_bytes (f ∷ fs) v ++ r) ≡ field_bytes fs (λ j. v (suc j)) ++ r
  unfolding field_bytes
  first_drop =
      ap (λ (l : List ℕ). drop (width_of f) l) (append_assoc (bytes (width_of f) (v 0)) (field_bytes fs (λ j. v (suc j))) r)
      ∙ drop_at (bytes (width_of f) (v 0)) (field_bytes fs (λ j. v (suc j)) ++ r) (width_of f) (length_bytes (width_of f) (v 0))

pub fields_read : (fs : List Field) (v : ℕ → ℕ) (r : List ℕ) → Fine fs v → (j : ℕ) → j < length fs → field_in fs (field_bytes fs v ++ r) j ≡ v j
unfolding Fine field_in
fields_read [] v r g j h = absurd (not-suc-le-zero h)
fields_read (f ∷ fs) v r g zero h = ap little (first_take f fs v r) ∙ little_bytes (width_of f) (v 0) g.0
fields_read (f ∷ fs) v r g (suc j) h =
    field_next f fs (field_bytes (f ∷ fs) v ++ r) j
    ∙ ap (λ (l : List ℕ). field_in fs l j) (first_drop f fs v r)
    ∙ fields_read fs (λ i. v (suc i)) r g.2 j (le_of_suc-le-suc h)

pub allowed_read : (fs : List Field) (v : ℕ → ℕ) (r : List ℕ) → Fine fs v → allowed_in fs (field_bytes fs v ++ r) ≡ true
unfolding Fine allowed_in
allowed_read [] v r g = refl
allowed_read (f ∷ fs) v r g =
    ap (λ (l : List ℕ). allowed f (little l) && allowed_in fs (drop (width_of f) (field_bytes (f ∷ fs) v ++ r))) (first_take f fs v r)
    ∙ ap (λ (n : ℕ). allowed f n && allowed_in fs (drop (width_of f) (field_bytes (f ∷ fs) v ++ r))) (little_bytes (width_of f) (v 0) g.0)
    ∙ ap (λ (b : Bool). b && allowed_in fs (drop (width_of f) (field_bytes (f ∷ fs) v ++ r))) g.1
    ∙ ap (λ (l : List ℕ). allowed_in fs l) (first_drop f fs v r)
    ∙ allowed_read fs (λ i. v (suc i)) r g.2

-- ---- what is read was written
pub fields_same : (fs : List Field) (u v : ℕ → ℕ) → ((j : ℕ) → j < length fs → u j ≡ v j) → field_bytes fs u ≡ field_bytes fs v
unfolding field_bytes
fields_same [] u v e = refl
fields_same (f ∷ fs) u v e =
    ap (λ (n : ℕ). bytes (width_of f) n ++ field_bytes fs (λ j. u (suc j))) (e 0 (omega arith))
    ∙ ap (λ (l : List ℕ). bytes (width_of f) (v 0) ++ l) (fields_same fs (λ j. u (suc j)) (λ j. v (suc j)) (λ j h. e (suc j) (omega arith)))

pub drop_bytes : (n : ℕ) (l : List ℕ) → Bytes l → Bytes (drop n l)
drop_bytes n l h i = rw get_or-drop (h (n + i))

pub take_all_bytes : (n : ℕ) (l : List ℕ) → Bytes l → Bytes (take n l)
take_all_bytes zero l h i = omega arith
take_all_bytes (suc n) [] h i = omega arith
take_all_bytes (suc n) (x ∷ l) h zero = h 0
take_all_bytes (suc n) (x ∷ l) h (suc i) = take_all_bytes n l (λ m. h (suc m)) i

-- a number of w bytes
pub word_small : (w at : ℕ) (s : List ℕ) → Bytes s → word w at s < 256 ^ w
unfolding word
word_small w at s b =
    let t : List ℕ = take w (drop at s) in
    let g : little t < 256 ^ length t = little_small t (take_all_bytes w (drop at s) (drop_bytes at s b)) in
    let l : length t ≤ w = rw length-take (omega arith) in
    let m : 256 ^ length t ≤ 256 ^ w = pow-le-pow_right (lit< tt) l in
    omega arith

take_bytes : (n : ℕ) (l : List ℕ) → Bytes l → n ≤ length l → bytes n (little (take n l)) ≡ take n l
take_bytes n l h k =
    let e : length (take n l) ≡ n = length-take-le n l k in
    ap (λ (m : ℕ). bytes m (little (take n l))) (sym e) ∙ bytes_little (take n l) (take_all_bytes n l h)

pub fields_written : (fs : List Field) (l : List ℕ) → Bytes l → widths_of fs ≤ length l → field_bytes fs (field_in fs l) ≡ take (widths_of fs) l
unfolding field_bytes field_in
fields_written [] l b h = refl
fields_written (f ∷ fs) l b h =
    ap (λ (r : List ℕ). r ++ field_bytes fs (λ j. field_in (f ∷ fs) l (suc j))) (take_bytes (width_of f) l b (omega arith))
    ∙ ap (λ (r : List ℕ). take (width_of f) l ++ r)
    (fields_same fs _ _ (λ j k. field_next f fs l j)
    ∙ fields_written fs (drop (width_of f) l) (drop_bytes (width_of f) l b) (rw length-drop (omega arith)))
    ∙ sym (take-add (width_of f) (widths_of fs) l)

-- fields that are read and allowed are in their ranges
pub fields_fine : (fs : List Field) (l : List ℕ) (v : ℕ → ℕ) → Bytes l → ((j : ℕ) → v j ≡ field_in fs l j) → allowed_in fs l ≡ true → Fine fs v
unfolding Fine field_in allowed_in word
fields_fine [] l v b e a = tt
fields_fine (f ∷ fs) l v b e a =
    let g = both _ _ a in (
      rw (e 0) (word_small (width_of f) 0 l b),
      ap (λ (n : ℕ). allowed f n) (e 0) ∙ g.0,
      fields_fine fs (drop (width_of f) l) (λ j. v (suc j)) (drop_bytes (width_of f) l b) (λ j. e (suc j) ∙ field_next f fs l j) g.1,
    )
