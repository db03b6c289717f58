-- The test of the trailing bytes by words and bytes comes to the same byte as the search byte by byte, and looks so often.
-- The words passed are an eighth of the zeros, rounded down, and the bytes after them the rest.
use Prim.Native.Nat.{ℕ, zero, suc, ◌+◌, ◌-◌, ◌*◌, ◌/◌, ◌%◌, ◌<◌, ◌≤◌, min}
use mathlib.Core.Bool.{Bool, true, false, cond}
use mathlib.Core.List.{List}
use mathlib.Core.Path.{◌≡◌, refl, sym, ap, ◌∙◌}
use native.Mathlib.Omega.{arith}
use borrow.Author.Tests.{eqb-true, eqb-false}
use lib.Dec.{eqb}
use lib.ListN.{length}
use Rattle.std.specs.Prelude.{Option, Some, None}
use Rattle.std.specs.Option.{unwrap_or}
use Rattle.loops.specs.Loops.{first, fault}
use Rattle.loops.proofs.Scan.{all_pass, pass_all, fault_some, fault_passed}
use Rattle.casefile_defs.specs.Layout.{word}
use Rattle.casefile_defs.specs.Looks.{looked_as, words_looked, bytes_looked, looked_at}
use Rattle.casefile_defs.specs.Reading.{zero_at, trailing, looks_for, zeros_passed}
use Rattle.casefile_defs.specs.declared.Looked.{Looked}
use Rattle.casefile_defs.proofs.Trailing.{trailing_low, trailing_high, trailing_from, word_on, word_stops}

-- ---- what the code has of a search: its place, which is the end where it found none
pub passed : (ok : ℕ → Bool) (n : ℕ) (found : Option ℕ) → found ≡ fault ok n → (unwrap_or found n ≡ first ok n 0) × (unwrap_or found n ≤ n)
passed ok n None e = (sym (pass_all ok n (all_pass ok n (fault_passed ok n e))), omega arith)
passed ok n (Some k) e = let f = fault_some ok n k e in (f.0, omega (arith, f.1))

module _ (s : List ℕ) (at : ℕ) where
  -- ---- the search by words: k of them were passed, and d are left
  abbrev zero_word : ℕ → Bool
  zero_word k = eqb (word 8 (at + 8 * k) s) 0

  words_from : (k d : ℕ) → k + d ≡ (length s - at) / 8 → trailing s (at + 8 * k) ≡ trailing s at → first zero_word d k ≡ zeros_passed s at / 8
  unfolding first
  words_from k zero e z =
      let l = trailing_low s (at + 8 * k) in
      let u = trailing_high s (at + 8 * k) in
      omega arith
  words_from k (suc d) e z = go (λ q. words_from (suc k) d (omega arith) q) (zero_word k) refl
    where
      go : (trailing s (at + 8 * suc k) ≡ trailing s at → first zero_word d (suc k) ≡ zeros_passed s at / 8) → (b : Bool) → zero_word k ≡ b → cond b (first zero_word d (suc k)) k ≡ zeros_passed s at / 8
      go ih true q =
          let n : at + 8 * suc k ≡ at + 8 * k + 8 = omega arith in
          ih (ap (λ (p : ℕ). trailing s p) n ∙ word_on s (at + 8 * k) (omega arith) (eqb-true _ _ q) ∙ z)
      go ih false q =
          let n : word 8 (at + 8 * k) s ≡ 0 → ⊥ = eqb-false _ _ q in
          let l = trailing_low s (at + 8 * k) in
          let u : trailing s (at + 8 * k) < at + 8 * k + 8 = word_stops s (at + 8 * k) (omega arith) (omega (arith, n)) in
          omega arith

  pub words_passed : (r z : ℕ) (found : Option ℕ) → r ≡ length s - at → found ≡ fault zero_word (r / 8) → z ≡ unwrap_or found (r / 8) → z ≡ zeros_passed s at / 8
  words_passed r z found e g h =
      let p : at + 8 * 0 ≡ at = omega arith in
      h ∙ (passed zero_word (r / 8) found g).0 ∙ ap (λ (d : ℕ). first zero_word (d / 8) 0) e ∙ words_from 0 ((length s - at) / 8) (omega arith) (ap (λ (q : ℕ). trailing s q) p)

  pub words_are : (k n : ℕ) → zeros_passed s at / 8 ≡ k → min (k + 1) ((length s - at) / 8) ≡ n → looked_as (at + 8 * k) n ≡ words_looked s at
  words_are k n e m = simp (e, m)

  -- ---- the search by bytes
  abbrev zero_byte : ℕ → Bool
  zero_byte i = zero_at s (at + i)

  bytes_from : (i d : ℕ) → at + first zero_byte d i ≡ first (zero_at s) d (at + i)
  unfolding first
  bytes_from i zero = refl
  bytes_from i (suc d) = go (bytes_from (suc i) d) (zero_byte i)
    where
      go : at + first zero_byte d (suc i) ≡ first (zero_at s) d (at + suc i) → (b : Bool) → at + cond b (first zero_byte d (suc i)) i ≡ cond b (first (zero_at s) d (suc (at + i))) (at + i)
      go ih true = let n : at + suc i ≡ suc (at + i) = omega arith in ih ∙ ap (λ (p : ℕ). first (zero_at s) d p) n
      go ih false = refl

  pub bytes_passed : (r z : ℕ) (found : Option ℕ) → r ≡ length s - at → found ≡ fault zero_byte r → z ≡ unwrap_or found r → at + z ≡ trailing s at
  unfolding trailing
  bytes_passed r z found e g h =
      let p : at + 0 ≡ at = omega arith in
      ap (λ (i : ℕ). at + i) (h ∙ (passed zero_byte r found g).0 ∙ ap (λ (d : ℕ). first zero_byte d 0) e) ∙ bytes_from 0 (length s - at) ∙ ap (λ (q : ℕ). first (zero_at s) (length s - at) q) p

  pub bytes_are : (i n : ℕ) → at + i ≡ trailing s at → min (i + 1) (length s - at) ≡ n → looked_as (at + i) n ≡ bytes_looked s at
  bytes_are i n e m = let z : at + i - at ≡ i = omega arith in simp (sym e, z, m)

  -- ---- both
  pub both_looked : (w b : Looked) → w ≡ words_looked s at → b ≡ bytes_looked s w.at → looked_as b.at (w.looks + b.looks) ≡ looked_at s at
  unfolding looks_for
  both_looked w b e g =
      let l = trailing_low s at in
      let p : ℕ = at + 8 * (zeros_passed s at / 8) in
      let b' : b ≡ bytes_looked s p = g ∙ ap (λ (x : Looked). bytes_looked s x.at) e in
      let t : trailing s p ≡ trailing s at = trailing_from s at p (omega arith) (omega arith) in
      let z : trailing s at - p ≡ zeros_passed s at % 8 = omega arith in
      let d : length s - p ≡ length s - at - 8 * (zeros_passed s at / 8) = omega arith in
      ap (λ (x : Looked). looked_as b.at (x.looks + b.looks)) e
      ∙ ap (λ (x : Looked). looked_as x.at ((words_looked s at).looks + x.looks)) b'
      ∙ simp (t, z, d)

  -- the sum is small
  pub few : (w b : Looked) → w ≡ words_looked s at → b ≡ bytes_looked s w.at → w.looks + b.looks ≤ length s / 8 + 8
  few w b e g =
      let l = trailing_low s at in
      let p : ℕ = at + 8 * (zeros_passed s at / 8) in
      let t : trailing s p ≡ trailing s at = trailing_from s at p (omega arith) (omega arith) in
      let x : w.looks ≡ min (zeros_passed s at / 8 + 1) ((length s - at) / 8) = ap (λ (y : Looked). y.looks) e in
      let y : b.looks ≡ min (trailing s p - p + 1) (length s - p) = ap (λ (y : Looked). y.looks) (g ∙ ap (λ (x : Looked). bytes_looked s x.at) e) in
      omega arith
