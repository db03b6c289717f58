-- Bytes that are put one behind another: a number's bytes, a record's fields, a table's records.
use Prim.Native.Nat.{ℕ, zero, suc, ◌+◌, ◌/◌, ◌^◌, ◌%◌, ◌≤◌}
use mathlib.Core.List.{List, ◌∷◌, ◌++◌, append_assoc, append-nil}
use mathlib.Core.Path.{◌≡◌, refl, sym, ap, subst, ◌∙◌}
use native.Mathlib.Numerals.{add-one}
use native.Mathlib.Omega.{arith}
use lib.ListN.{length, take, length-append}
use lib.Seq.{length-take-le}
use Rattle.std.proofs.Math.Nat.{div-one, div-div-eq-div-mul, pow-suc}
use Rattle.std.specs.Int.{bytes_low_first, byte_at, to_le_bytes, w64}
use Rattle.casefile_defs.specs.Layout.{size_of}
use Rattle.casefile_defs.specs.declared.Kind.{Kind}
use Rattle.casefile_theorems.specs.Writer.{bytes, record_bytes, table_bytes}
use Rattle.casefile_theorems.proofs.Written.{length_record}
use Rattle.casefile_writer.specs.declared.bytes.Bytes.{Bytes}
use Rattle.casefile_writer.specs.Grown.{Grown}
use Rattle.casefile_writer.specs.Put.{Put}

pub grows : {b a z : Bytes} {m n : ℕ} {t u : List ℕ} → Grown b a m t → Grown a z n u → Grown b z (m + n) (t ++ u)
grows {b} {a} {z} {m} {n} {t} {u} p q = record {
  buffer = q.buffer ∙ p.buffer;
  room = q.room ∙ p.room;
  len = omega (arith, p.len, q.len);
  bytes = q.bytes ∙ ap (λ (l : List ℕ). l ++ u) p.bytes ∙ append_assoc (take b.len b.out.now) t u;
}

pub grown_by : {b a : Bytes} {m n : ℕ} {t u : List ℕ} → m ≡ n → t ≡ u → Grown b a m t → Grown b a n u
grown_by {b} {a} {m} {n} {t} {u} e f p = record {
  buffer = p.buffer;
  room = p.room;
  len = omega (arith, e, p.len);
  bytes = p.bytes ∙ ap (λ (l : List ℕ). take b.len b.out.now ++ l) f;
}

-- ---- a number's bytes, as std has them
byte_of : (i n : ℕ) → byte_at i n ≡ n / 256 ^ i % 256
byte_of zero n = ap (λ (m : ℕ). m % 256) (sym (div-one n))
byte_of (suc i) n = refl

low_first : (k i n : ℕ) → bytes_low_first i k n ≡ bytes k (n / 256 ^ i)
unfolding bytes
low_first zero i n = refl
low_first (suc k) i n =
    ap (λ (b : ℕ). b ∷ bytes_low_first (suc i) k n) (byte_of i n)
    ∙ ap (λ (l : List ℕ). n / 256 ^ i % 256 ∷ l) (low_first k (suc i) n ∙ ap (bytes k) (ap (λ (m : ℕ). n / m) (pow-suc 256 i) ∙ sym (div-div-eq-div-mul n (256 ^ i) 256)))

first_bytes : (w k n : ℕ) → w ≤ k → take w (bytes k n) ≡ bytes w n
unfolding bytes
first_bytes zero k n h = refl
first_bytes (suc w) zero n h = absurd (omega arith)
first_bytes (suc w) (suc k) n h = ap (λ (l : List ℕ). n % 256 ∷ l) (first_bytes w k (n / 256) (omega arith))

pub low_bytes : (w n : ℕ) → w ≤ 8 → take w (to_le_bytes w64 n) ≡ bytes w n
low_bytes w n h = ap (take w) (low_first 8 0 n ∙ ap (bytes 8) (div-one n)) ∙ first_bytes w 8 n h

-- ---- a table's records
module _ {A : Type 0} (kind : A → Kind) (fields : A → ℕ → ℕ) (f : ℕ → A) where
  abbrev table : ℕ → List ℕ
  table i = table_bytes (λ j. kind (f j)) i (λ j. fields (f j))

  pub none_yet : (b : Bytes) → Grown b b (length (table 0)) (table 0)
  unfolding table_bytes
  none_yet b = record { buffer = refl; room = refl; len = omega arith; bytes = sym (append-nil (take b.len b.out.now)) }

  pub one_more : {b a z : Bytes} (i : ℕ) (r : A) → r ≡ f i → Grown b a (length (table i)) (table i) → Grown a z (size_of (kind r)) (record_bytes (kind r) (fields r))
      → Grown b z (length (table (i + 1))) (table (i + 1))
  unfolding table_bytes
  one_more {b} {a} {z} i r e p q =
      let u = record_bytes (kind r) (fields r) in
      let s : table i ++ u ≡ table (i + 1) = ap (λ (x : A). table i ++ record_bytes (kind x) (fields x)) e ∙ ap (λ (n : ℕ). table n) (sym (add-one i)) in
      grown_by (ap (λ (n : ℕ). length (table i) + n) (sym (length_record (kind r) (fields r))) ∙ sym (length-append (table i) u) ∙ ap length s) s (grows p q)

  pub all_put : {b a : Bytes} (i n : ℕ) → i ≡ n → Grown b a (length (table i)) (table i) → Grown b a (length (table n)) (table n)
  all_put {b} {a} i n e p = subst (λ (m : ℕ). Grown b a (length (table m)) (table m)) e p

-- ---- a whole file, from the front of the buffer
pub whole : {b a : Bytes} {n r : ℕ} {t before after : List ℕ} → Grown b a n t → b.len ≡ 0 → b.out.now ≡ before → a.out.now ≡ after → r ≡ a.len → r ≤ length after → Put before 0 t after r
whole {b} {a} {n} {r} {t} {before} {after} p z s e q f =
    let k : take r after ≡ t = ap (λ (l : List ℕ). take r l) (sym e) ∙ ap (λ (m : ℕ). take m a.out.now) q ∙ p.bytes ∙ ap (λ (m : ℕ). take m b.out.now ++ t) z in
    let l : length t ≡ r = ap length (sym k) ∙ length-take-le r after f in
    record { used = omega (arith, l); bytes = k }

pub same_bytes : {b a : List ℕ} {len r : ℕ} {t u : List ℕ} → t ≡ u → Put b len t a r → Put b len u a r
same_bytes {b} {a} {len} {r} e p = subst (λ s. Put b len s a r) e p
