-- A sum of squares with one square from which on every root is above the bound: it is a NaN or at least that square, and so its root is not within the bound.
-- No square has a sign, so that each sum is a NaN or at least each of its terms.
use Prim.Native.Nat.{ℕ, zero, suc, ◌+◌, ◌*◌, ◌<◌}
use mathlib.Core.Bool.{Bool, true, false, cond, ◌&&◌}
use mathlib.Core.Logic.{⊎_elim}
use mathlib.Core.Path.{◌≡◌, refl, sym, ap, ◌∙◌}
use mathlib.Core.List.{List}
use native.Mathlib.Nat.{add_comm, mul_comm, eq-or-lt_of_le}
use native.Mathlib.Omega.{arith}
use lib.Dec.{T, lit<}
use lib.IntN.{ℤ}
use lib.Ieee.{Float, nan, inf, fin, binary64, up, down, fits, round, neg, add, sum, mul, lt, eq, le, of_bits}
use lib.Ieee.Fits.{add-fits, mul-fits}
use lib.Ieee.Positive.{positive, above, above_of_le, mul_mono}
use Rattle.loops.specs.Figures.{at, plus, times, nought, magnitude}
use Rattle.loops.specs.Loops.{sum_to}
use Rattle.loops.specs.Parts.{rows}
use Rattle.loops.proofs.Bools.{is, holds, no, both}
use Rattle.loops.proofs.Parts.{get_part}
use Rattle.loops.proofs.Rows.{row_of}
use Rattle.loops.proofs.Order.{real, le_through}
use Rattle.loops.proofs.Rounded.{round_is}
use Rattle.loops.proofs.Sums.{unsigned, infinity_above, plus_unsigned, plus_grows}
use Rattle.root.specs.Root.{root}
use Rattle.angles_defs.specs.Network.{product, dot}
use Rattle.angles.specs.Bounds.{SurelyBeyond, SurelyFar, Reached}
use Rattle.angles.specs.Rows.{row}
use Rattle.angles.proofs.Beyond.{bound_positive, beyond_square, root_beyond}

-- ---- a square, and a sum of figures without a sign
square_unsigned : (x : Float) → T (real (times x x)) → T (unsigned (times x x))
unfolding mul
square_unsigned nan h = absurd h
square_unsigned (inf true) h = tt
square_unsigned (inf false) h = tt
square_unsigned (fin true m e) h = round_is binary64 false (λ (x : Float). T (unsigned x)) (λ m e. tt) tt (m * up e * (m * up e)) (down e * down e)
square_unsigned (fin false m e) h = round_is binary64 false (λ (x : Float). T (unsigned x)) (λ m e. tt) tt (m * up e * (m * up e)) (down e * down e)

-- a sum that is no NaN has no NaN for a term
terms_real : (x k : Float) → T (real (plus x k)) → T (real x) × T (real k)
unfolding add
terms_real nan k h = absurd h
terms_real (inf s) nan h = absurd h
terms_real (inf s) (inf t) h = (tt, tt)
terms_real (inf s) (fin t n d) h = (tt, tt)
terms_real (fin s m e) nan h = absurd h
terms_real (fin s m e) (inf t) h = (tt, tt)
terms_real (fin s m e) (fin t n d) h = (tt, tt)

plus_infinite : (x : Float) → T (unsigned x) → plus x (inf false) ≡ inf false
unfolding add
plus_infinite nan g = absurd g
plus_infinite (inf true) g = absurd g
plus_infinite (inf false) g = refl
plus_infinite (fin s m e) g = refl

both_unsigned : (x k : Float) → T (unsigned x) → T (unsigned k) → T (unsigned (plus x k))
both_unsigned x nan g h = absurd h
both_unsigned x (inf true) g h = absurd h
both_unsigned x (inf false) g h = rw (plus_infinite x g) tt
both_unsigned x (fin true n d) g h = absurd h
both_unsigned x (fin false n d) g h = plus_unsigned x (fin false n d) g (tt, tt)

under : (x : Float) → T (unsigned x) → le x (inf false) ≡ true
unfolding of_bits
under x g = infinity_above x g

first_most : (x k : Float) → T (unsigned x) → T (unsigned k) → T (fits binary64 x) → le x (plus x k) ≡ true
first_most x nan g h f = absurd h
first_most x (inf true) g h f = absurd h
first_most x (inf false) g h f = rw (plus_infinite x g) (under x g)
first_most x (fin true n d) g h f = absurd h
first_most x (fin false n d) g h f = plus_grows x (fin false n d) g f (tt, tt)

turned : (x k : Float) → T (unsigned x) → T (unsigned k) → plus x k ≡ plus k x
unfolding add sum
turned nan k g h = absurd g
turned (inf true) k g h = absurd g
turned (fin true m e) k g h = absurd g
turned (inf false) nan g h = absurd h
turned (inf false) (inf true) g h = absurd h
turned (inf false) (inf false) g h = refl
turned (inf false) (fin t n d) g h = refl
turned (fin false m e) nan g h = absurd h
turned (fin false m e) (inf t) g h = refl
turned (fin false m e) (fin true n d) g h = absurd h
turned (fin false m e) (fin false n d) g h =
    ap (λ (a : ℕ). round binary64 false a (down e * down d)) (add_comm (m * up e * down d) (n * up d * down e))
    ∙ ap (λ (c : ℕ). round binary64 false (n * up d * down e + m * up e * down d) c) (mul_comm (down e) (down d))

-- ---- a sum of such figures, each of which is a NaN or has no sign
module _ (f : ℕ → Float) (plain : (i : ℕ) → T (real (f i)) → T (unsigned (f i))) (held : (i : ℕ) → T (fits binary64 (f i))) where
  sum_unsigned : (n : ℕ) → T (real (sum_to f n)) → T (unsigned (sum_to f n))
  unfolding sum_to of_bits
  sum_unsigned zero h = tt
  sum_unsigned (suc n) h =
      let p = terms_real (sum_to f n) (f n) h in
      both_unsigned (sum_to f n) (f n) (sum_unsigned n p.0) (plain n p.1)

  sum_held : (n : ℕ) → T (fits binary64 (sum_to f n))
  unfolding sum_to of_bits fits
  sum_held zero = tt
  sum_held (suc n) = add-fits binary64 (sum_to f n) (f n)

  -- each term is at most the sum
  sum_most : (n i : ℕ) → i < n → T (real (sum_to f n)) → le (f i) (sum_to f n) ≡ true
  unfolding sum_to
  sum_most zero i l h = absurd (omega arith)
  sum_most (suc n) i l h =
      let p = terms_real (sum_to f n) (f n) h in
      let g = sum_unsigned n p.0 in
      let k = plain n p.1 in
      ⊎_elim
      (λ e. ap (λ (j : ℕ). le (f j) (plus (sum_to f n) (f n))) (let q : i ≡ n = omega arith in q) ∙ ap (le (f n)) (turned (sum_to f n) (f n) g k) ∙ first_most (f n) (sum_to f n) k g (held n))
      (λ s. le_through (f i) (sum_to f n) (plus (sum_to f n) (f n)) (sum_most n i (omega arith) p.0) (first_most (sum_to f n) (f n) g k (sum_held n)))
      (eq-or-lt_of_le l)

-- ---- a sum of squares
nan_not_within : (bound : Float) → le (root nan) bound ≡ false
unfolding root le lt eq
nan_not_within bound = refl

square_beyond : (n : ℕ) (r : List Float) (bound : Float) (i : ℕ) → i < n → SurelyBeyond (times (at r i) (at r i)) bound → le (root (dot n r r)) bound ≡ false
square_beyond n r bound i l s =
    go (dot n r r) (sum_held (product r r) plain held n) (sum_most (product r r) plain held n i l)
  where
    plain : (i : ℕ) → T (real (product r r i)) → T (unsigned (product r r i))
    plain i = square_unsigned (at r i)

    held : (i : ℕ) → T (fits binary64 (product r r i))
    held i = mul-fits binary64 (at r i) (at r i)

    go : (x : Float) → T (fits binary64 x) → (T (real x) → le (times (at r i) (at r i)) x ≡ true) → le (root x) bound ≡ false
    go nan f h = nan_not_within bound
    go (inf t) f h = SurelyBeyond.far s (inf t) f (h tt)
    go (fin t m e) f h = SurelyBeyond.far s (fin t m e) f (h tt)

pub far_residual : (n : ℕ) (limit bound : Float) (r : List Float) (place : ℕ) → SurelyFar limit bound → Reached n limit r place → le (root (dot n r r)) bound ≡ false
far_residual n limit bound r place F R = square_beyond n r bound place R.below (F.far (at r place) R.reaches)

-- ---- a limit: a figure above zero whose square is one from which on every root is above the bound
same_square : (x : Float) → times (neg x) (neg x) ≡ times x x
unfolding neg mul
same_square nan = refl
same_square (inf true) = refl
same_square (inf false) = refl
same_square (fin true m e) = refl
same_square (fin false m e) = refl

size_square : (x : Float) → times (magnitude x) (magnitude x) ≡ times x x
size_square x = go (lt x nought)
  where
    go : (b : Bool) → times (cond b (neg x) x) (cond b (neg x) x) ≡ times x x
    go true = same_square x
    go false = refl

infinite_square : times (inf false) (inf false) ≡ inf false
unfolding mul
infinite_square = refl

below_infinite : (m : ℕ) (e : ℤ) → lt (fin false m e) (inf false) ≡ true
unfolding lt
below_infinite m e = refl

finite_square : (m : ℕ) (e : ℤ) (y : Float) → T (positive (fin false m e)) → le (fin false m e) y ≡ true → le (times (fin false m e) (fin false m e)) (times y y) ≡ true
finite_square m e y p h = go y (above_of_le (fin false m e) y p (is h)) h
  where
    plain : T (unsigned (times (fin false m e) (fin false m e)))
    plain = unfold mul in round_is binary64 false (λ (x : Float). T (unsigned x)) (λ m e. tt) tt (m * up e * (m * up e)) (down e * down e)

    go : (y : Float) → T (above y) → le (fin false m e) y ≡ true → le (times (fin false m e) (fin false m e)) (times y y) ≡ true
    go nan a h = absurd a
    go (inf true) a h = absurd a
    go (inf false) a h = rw infinite_square (under (times (fin false m e) (fin false m e)) plain)
    go (fin true n d) a h = absurd a
    go (fin false n d) a h =
        holds (le (times (fin false m e) (fin false m e)) (times (fin false n d) (fin false n d)))
        (mul_mono binary64 (fin false m e) (fin false n d) (fin false m e) (fin false n d) p a p a (is h) (is h))

square_mono : (limit y : Float) → lt nought limit ≡ true → le limit y ≡ true → le (times limit limit) (times y y) ≡ true
unfolding lt eq le of_bits
square_mono nan y p h = absurd (no refl h)
square_mono (inf true) y p h = absurd (no refl p)
square_mono (inf false) nan p h = absurd (no refl h)
square_mono (inf false) (inf true) p h = absurd (no refl h)
square_mono (inf false) (inf false) p h = rw infinite_square refl
square_mono (inf false) (fin s n d) p h = absurd (no refl h)
square_mono (fin true m e) y p h = absurd (no refl p)
square_mono (fin false m e) y p h = finite_square m e y (bound_positive (fin false m e) (inf false) p (below_infinite m e)) h

pub surely_far : (limit bound : Float) → lt nought limit ≡ true → SurelyBeyond (times limit limit) bound → SurelyFar limit bound
surely_far limit bound p s =
    record {
      far = λ x h. record {
        far = λ y f l.
            SurelyBeyond.far s y f
            (le_through (times limit limit) (times x x) y (ap (le (times limit limit)) (sym (size_square x)) ∙ square_mono limit (magnitude x) p h) l);
      };
    }

-- ---- a NaN, which nothing reaches
pub nothing_far : (bound : Float) → SurelyFar nan bound
unfolding lt eq le
nothing_far bound = record { far = λ x h. absurd (no refl h) }

-- ---- twice the bound, and its square, where the tests hold that `bound_of` makes
pub both_known : (bound twice above : Float) → T (fits binary64 above)
    → ((((lt nought bound && lt nought twice) && lt bound above) && lt nought (times above above)) && lt (times above above) (times twice twice)) ≡ true
    → SurelyBeyond (times twice twice) bound × SurelyFar twice bound
both_known bound twice above f h =
    let a = both _ (lt (times above above) (times twice twice)) h in
    let b = both _ (lt nought (times above above)) a.0 in
    let d = both _ (lt bound above) b.0 in
    let e = both (lt nought bound) (lt nought twice) d.0 in
    let s = beyond_square (times twice twice) bound (mul-fits binary64 twice twice) e.0 (root_beyond above (times twice twice) bound f (mul-fits binary64 twice twice) e.0 d.1 b.1 a.1) in
    (s, surely_far twice bound e.1 s)

-- ---- a place of the residual's row, as it stands in the slice
module _ (n : ℕ) (w : List Float) (place : ℕ) (l : place < n) where
  pub residual_place : at w (4 * n + place) ≡ at (row (rows 8 n w) 4) place
  residual_place = sym (get_part (4 * n) n w place nan l) ∙ ap (λ (r : List Float). at r place) (row_of 8 n 4 (4 * n) w refl (lit< tt))

  pub reached_row : (limit size : Float) → size ≡ magnitude (at w (4 * n + place)) → le limit size ≡ true → Reached n limit (row (rows 8 n w) 4) place
  reached_row limit size e h =
      record { below = l; reaches = ap (λ (x : Float). le limit (magnitude x)) (sym residual_place) ∙ ap (le limit) (sym e) ∙ h }
