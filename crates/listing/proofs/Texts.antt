-- Texts put one behind another, and the lines of a table.
use Prim.Native.Nat.{ℕ, zero, suc, ◌+◌, ◌≤◌, ◌<◌}
use mathlib.Core.Path.{◌≡◌, sym, ap, ◌∙◌}
use mathlib.Core.List.{List, [], ◌∷◌, ◌++◌, append_assoc, append-nil, map}
use native.Mathlib.Omega.{arith}
use native.Mathlib.Numerals.{add-one}
use native.Mathlib.Decide.{dec_lt}
use lib.ListN.{length, get_or, drop, drop_of_length-le, length-append}
use lib.Seq.{drop-cons}
use Rattle.listing_defs.specs.Text.{field, line_feed}
use Rattle.listing_defs.specs.Lines.{lines, ended}
use Rattle.listing_defs.specs.declared.Field.{Field}
use Rattle.listing_defs.specs.declared.Field.TheVariants.{Number}

-- two texts put one behind the other are one text
pub both_put : (a t u : List ℕ) {b c v : List ℕ} → b ≡ a ++ t → c ≡ b ++ u → t ++ u ≡ v → c ≡ a ++ v
both_put a t u {b} {c} {v} p q e = q ∙ ap (λ (l : List ℕ). l ++ u) p ∙ append_assoc a t u ∙ ap (λ (l : List ℕ). a ++ l) e

-- and there is room for each where there is room for both
pub first_room : (a t u : List ℕ) {v : List ℕ} {most : ℕ} → t ++ u ≡ v → length a + length v ≤ most → length a + length t ≤ most
first_room a t u e h = omega (arith, ap length e, length-append t u)

pub second_room : (a t u : List ℕ) {b v : List ℕ} {most : ℕ} → b ≡ a ++ t → t ++ u ≡ v → length a + length v ≤ most → length b + length u ≤ most
second_room a t u p e h = omega (arith, ap length p, length-append a t, ap length e, length-append t u)

-- ---- the fields of a line, of which i are put
abbrev at : List Field → ℕ → Field
at fs i = get_or fs i (Number 0)

abbrev rest : List Field → ℕ → List ℕ
rest fs i = ended (map field (drop i fs))

next : (fs : List Field) (i : ℕ) → i < length fs → rest fs i ≡ field (at fs i) ++ rest fs (suc i)
next fs i h = ap (λ (l : List Field). ended (map field l)) (drop-cons fs i (Number 0) h)

pub field_room : (a : List ℕ) {whole : List ℕ} {most : ℕ} (fs : List Field) (i : ℕ) → i < length fs → a ++ rest fs i ≡ whole → length whole ≤ most → length a + length (field (at fs i)) ≤ most
field_room a fs i h e r = omega (arith, ap length e, length-append a (rest fs i), ap length (next fs i h), length-append (field (at fs i)) (rest fs (suc i)))

pub field_put : (a : List ℕ) {b whole : List ℕ} (fs : List Field) (i : ℕ) → i < length fs → a ++ rest fs i ≡ whole → b ≡ a ++ field (at fs i) → b ++ rest fs (i + 1) ≡ whole
field_put a fs i h e q = rw (q, add-one i, append_assoc a (field (at fs i)) (rest fs (suc i)), ← next fs i h) e

pub fields_put : (a : List ℕ) {whole : List ℕ} (fs : List Field) (i : ℕ) → length fs ≤ i → a ++ rest fs i ≡ whole → a ++ (line_feed ∷ []) ≡ whole
fields_put a fs i h e = ap (λ (l : List Field). a ++ ended (map field l)) (sym (drop_of_length-le fs h)) ∙ e

-- ---- a table's lines
pub one_more : (a : List ℕ) {b c : List ℕ} (f : ℕ → List ℕ) (i : ℕ) → b ≡ a ++ lines f i → c ≡ b ++ f i → c ≡ a ++ lines f (i + 1)
unfolding lines
one_more a f i p q = both_put a (lines f i) (f i) p q (ap (lines f) (sym (add-one i)))

pub none_put : (a : List ℕ) (f : ℕ → List ℕ) → a ≡ a ++ lines f 0
unfolding lines
none_put a f = sym (append-nil a)

-- there is room for a line where there is room for all
below_all : (f : ℕ → List ℕ) (i n : ℕ) → i < n → length (lines f i) + length (f i) ≤ length (lines f n)
unfolding lines
below_all f i zero h = absurd (omega arith)
below_all f i (suc k) h =
    elim (dec_lt i k) [
      | yes b ↦ omega (arith, below_all f i k b, length-append (lines f k) (f k))
      | no b ↦
          let e : i ≡ k = omega arith in
          let l : length (lines f k ++ f k) ≡ length (lines f k) + length (f k) = length-append (lines f k) (f k) in
          rw e (omega (arith, l))
    ]

pub line_room : (a : List ℕ) {b : List ℕ} {most : ℕ} (f : ℕ → List ℕ) (i n : ℕ) → b ≡ a ++ lines f i → i < n → length a + length (lines f n) ≤ most → length b + length (f i) ≤ most
line_room a f i n p h r = omega (arith, ap length p, length-append a (lines f i), below_all f i n h)
