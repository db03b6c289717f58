-- The search for the first trailing byte that is not zero: between which places it ends, and the same search from a place on the way.
-- A word of zeros is eight bytes passed (zeros_on), and another word holds the byte at which the search stops (stops_in).
use Prim.Native.Nat.{ℕ, zero, suc, ◌+◌, ◌-◌, ◌*◌, ◌<◌, ◌≤◌}
use mathlib.Core.Bool.{Bool, true, false, cond}
use mathlib.Core.List.{List}
use mathlib.Core.Logic.{⊎_elim}
use mathlib.Core.Path.{◌≡◌, refl, sym, ap, ◌∙◌}
use native.Mathlib.Nat.{eq-or-lt_of_le}
use native.Mathlib.Omega.{arith}
use borrow.Author.Tests.{eq-eqb, eqb-true}
use lib.ListN.{length, get_or}
use Rattle.loops.specs.Loops.{first}
use Rattle.loops.proofs.Scan.{first_most}
use Rattle.casefile_defs.specs.Layout.{word}
use Rattle.casefile_defs.specs.Reading.{zero_at, trailing, zeros_passed}
use Rattle.casefile_defs.proofs.Words.{word_none, word_more}

-- ---- a search, its answer's bounds, and the same search from a place on the way
first_low : (ok : ℕ → Bool) (k i : ℕ) → i ≤ first ok k i
unfolding first
first_low ok zero i = omega arith
first_low ok (suc k) i = go (first_low ok k (suc i)) (ok i)
  where
    go : suc i ≤ first ok k (suc i) → (b : Bool) → i ≤ cond b (first ok k (suc i)) i
    go h true = omega arith
    go h false = omega arith

first_from : (ok : ℕ → Bool) (k i p : ℕ) → i ≤ p → p ≤ first ok k i → first ok (k - (p - i)) p ≡ first ok k i
unfolding first
first_from ok zero i p l h =
    let e : p ≡ i = omega arith in
    let d : zero - (p - i) ≡ zero = omega arith in
    ap (λ (m : ℕ). first ok m p) d ∙ e
first_from ok (suc k) i p l h =
    ⊎_elim
    (λ e.
    let z : suc k - (p - i) ≡ suc k = omega arith in
    ap (λ (m : ℕ). first ok m p) z ∙ ap (λ (m : ℕ). first ok (suc k) m) (sym e))
    (λ b. go (first_from ok k (suc i) p) b (ok i) h)
    (eq-or-lt_of_le l)
  where
    go : (suc i ≤ p → p ≤ first ok k (suc i) → first ok (k - (p - suc i)) p ≡ first ok k (suc i)) → i < p → (b : Bool) → p ≤ cond b (first ok k (suc i)) i
        → first ok (suc k - (p - i)) p ≡ cond b (first ok k (suc i)) i
    go ih b true h =
        let z : suc k - (p - i) ≡ k - (p - suc i) = omega arith in
        ap (λ (m : ℕ). first ok m p) z ∙ ih (omega arith) h
    go ih b false h = absurd (omega arith)

-- ---- w bytes that make the number zero are passed; where they make another, the search stops among them
zeros_on : (w n p : ℕ) (s : List ℕ) → w ≤ n → p + w ≤ length s → word w p s ≡ 0 → first (zero_at s) n p ≡ first (zero_at s) (n - w) (p + w)
unfolding first
zeros_on zero n p s l h e =
    let a : n ≡ n - zero = omega arith in
    let b : p ≡ p + zero = omega arith in
    ap (λ (m : ℕ). first (zero_at s) m p) a ∙ ap (λ (m : ℕ). first (zero_at s) (n - zero) m) b
zeros_on (suc w) zero p s l h e = absurd (omega arith)
zeros_on (suc w) (suc n) p s l h e =
    let m : word (suc w) p s ≡ get_or s p 0 + 256 * word w (suc p) s = word_more w p s (omega arith) in
    let b : get_or s p 0 ≡ 0 = omega arith in
    let r : word w (suc p) s ≡ 0 = omega arith in
    let c : n - w ≡ suc n - suc w = omega arith in
    let d : suc p + w ≡ p + suc w = omega arith in
    ap (λ (x : Bool). cond x (first (zero_at s) n (suc p)) p) (eq-eqb _ _ b)
    ∙ zeros_on w n (suc p) s (omega arith) (omega arith) r
    ∙ ap (λ (x : ℕ). first (zero_at s) x (suc p + w)) c
    ∙ ap (λ (x : ℕ). first (zero_at s) (suc n - suc w) x) d

stops_in : (w n p : ℕ) (s : List ℕ) → w ≤ n → p + w ≤ length s → 0 < word w p s → first (zero_at s) n p < p + w
unfolding first
stops_in zero n p s l h g = absurd (let e = word_none p s in omega arith)
stops_in (suc w) zero p s l h g = absurd (omega arith)
stops_in (suc w) (suc n) p s l h g = go (λ q. stops_in w n (suc p) s (omega arith) (omega arith) q) (zero_at s p) refl
  where
    go : (0 < word w (suc p) s → first (zero_at s) n (suc p) < suc p + w) → (b : Bool) → zero_at s p ≡ b → cond b (first (zero_at s) n (suc p)) p < p + suc w
    go ih true e =
        let m : word (suc w) p s ≡ get_or s p 0 + 256 * word w (suc p) s = word_more w p s (omega arith) in
        let z : get_or s p 0 ≡ 0 = eqb-true _ _ e in
        let r : first (zero_at s) n (suc p) < suc p + w = ih (omega arith) in
        omega arith
    go ih false e = omega arith

-- ---- the same of the trailing bytes
pub trailing_low : (s : List ℕ) (at : ℕ) → at ≤ trailing s at
unfolding trailing
trailing_low s at = first_low (zero_at s) (length s - at) at

pub trailing_high : (s : List ℕ) (at : ℕ) → trailing s at ≤ at + (length s - at)
unfolding trailing
trailing_high s at = first_most (zero_at s) (length s - at) at

pub trailing_from : (s : List ℕ) (at p : ℕ) → at ≤ p → p ≤ trailing s at → trailing s p ≡ trailing s at
unfolding trailing
trailing_from s at p l h =
    let e : length s - p ≡ length s - at - (p - at) = omega arith in
    ap (λ (m : ℕ). first (zero_at s) m p) e ∙ first_from (zero_at s) (length s - at) at p l h

pub word_on : (s : List ℕ) (p : ℕ) → p + 8 ≤ length s → word 8 p s ≡ 0 → trailing s (p + 8) ≡ trailing s p
unfolding trailing
word_on s p h e =
    let d : length s - (p + 8) ≡ length s - p - 8 = omega arith in
    ap (λ (m : ℕ). first (zero_at s) m (p + 8)) d ∙ sym (zeros_on 8 (length s - p) p s (omega arith) h e)

pub word_stops : (s : List ℕ) (p : ℕ) → p + 8 ≤ length s → 0 < word 8 p s → trailing s p < p + 8
unfolding trailing
word_stops s p h g = stops_in 8 (length s - p) p s (omega arith) h g

-- the zeros passed are among the bytes
pub zeros_among : (s : List ℕ) (at : ℕ) → zeros_passed s at ≤ length s - at
zeros_among s at = let u = trailing_high s at in omega arith
