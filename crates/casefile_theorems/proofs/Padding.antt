-- Document 02's K2. Testing words of eight, the same files are refused with the same number and index as byte by byte (same_reply). The count, by what
-- stands behind the records (looks_of_zeros, looks_in_word, looks_in_rest), and its bounds (looks_within).
use Prim.Native.Nat.{ℕ, ◌+◌, ◌-◌, ◌*◌, ◌/◌, ◌%◌, ◌<◌, ◌≤◌}
use mathlib.Core.Bool.{Bool, true, false, cond}
use mathlib.Core.List.{List}
use mathlib.Core.Path.{◌≡◌, refl, ap, ◌∙◌}
use native.Mathlib.Omega.{arith}
use lib.Dec.{ltb}
use lib.ListN.{length}
use Rattle.refusal.specs.Reply.{refused_by}
use Rattle.refusal.specs.declared.Refusal.TheVariants.{Count, FileLength, Length}
use Rattle.casefile_defs.specs.Bounds.{most_bytes}
use Rattle.casefile_defs.specs.Reading.{record_at, counts_ok, header_of, tables_walked, looks_for, zeros_passed, looks, end_read, body_read, read_as, reading_of}
use Rattle.casefile_defs.specs.Tables.{Places, Outcome, reply_of, sizes_ok, read_case}
use Rattle.casefile_defs.specs.declared.CaseRead.{CaseRead}
use Rattle.casefile_defs.specs.declared.Kind.TheVariants.{Head}
use Rattle.casefile_defs.specs.declared.Header.{Header}
use Rattle.casefile_defs.specs.declared.Wanted.TheVariants.{Either}
use Rattle.casefile_defs.proofs.Trailing.{zeros_among}
use Rattle.casefile_theorems.specs.Plain.{plain_end, plain_body, plain_reading}
use Rattle.std.specs.Prelude.{Err, Ok, Result}
use Rattle.refusal.specs.declared.Refusal.{Refusal}

-- ---- the same reading
either : (b : Bool) (r r' : CaseRead) → (cond b r r').reading ≡ cond b r.reading r'.reading
either true r r' = refl
either false r r' = refl

end_same : (h : Header) (s : List ℕ) (w : Result ℕ Refusal) → (end_read h s w).reading ≡ plain_end h s w
unfolding end_read
end_same h s (Err f) = refl
end_same h s (Ok at) = refl

body_same : (s : List ℕ) (w : Result ℕ Refusal) → (body_read Either s w).reading ≡ plain_body s w
unfolding body_read
body_same s (Err f) = refl
body_same s (Ok at) =
    either (counts_ok (header_of s)) _ _
    ∙ ap (λ (r : Result Header Refusal). cond (counts_ok (header_of s)) r (Err Count)) (end_same (header_of s) s (tables_walked Either (header_of s) s (Ok at)))

same_reading : (s : List ℕ) → reading_of s ≡ plain_reading s
unfolding read_as
same_reading s =
    either (ltb most_bytes (length s)) _ _ ∙ ap (λ (r : Result Header Refusal). cond (ltb most_bytes (length s)) (Err FileLength) r) (body_same s (record_at Head s 0 0))

told : (b : Bool) (o o' : Outcome) → (cond b o o').reply ≡ cond b o.reply o'.reply
told true o o' = refl
told false o o' = refl

-- what is said of a file, whatever the tables held
pub same_reply : (s : List ℕ) (q : Places) → (read_case s q).reply ≡ cond (sizes_ok q) (reply_of (plain_reading s)) (refused_by Length)
unfolding read_case
same_reply s q = told (sizes_ok q) _ _ ∙ ap (λ (r : Result Header Refusal). cond (sizes_ok q) (reply_of r) (refused_by Length)) (same_reading s)

-- ---- the count of t bytes behind the records, of which the first z are zero
-- nothing but zeros: each word, then each byte that is left
pub looks_of_zeros : (t : ℕ) → looks_for t t ≡ t / 8 + t % 8
unfolding looks_for
looks_of_zeros t = omega arith

-- another byte in a whole word: this word too, and its bytes up to that one
pub looks_in_word : (t z : ℕ) → z / 8 < t / 8 → looks_for t z ≡ z / 8 + z % 8 + 2
unfolding looks_for
looks_in_word t z h = omega arith

-- another byte among the last, which make no word
pub looks_in_rest : (t z : ℕ) → z < t → z / 8 ≡ t / 8 → looks_for t z ≡ t / 8 + z % 8 + 1
unfolding looks_for
looks_in_rest t z h e = omega arith

-- ---- from an eighth of the zeros passed to 8 above an eighth of the trailing bytes
pub record Bounded (t z n : ℕ) : Type 0 where
  pub least : z ≤ 8 * n
  pub most : 8 * n ≤ t + 64

looks_bounded : (t z : ℕ) → z ≤ t → Bounded t z (looks_for t z)
unfolding looks_for
looks_bounded t z h = record { least = omega arith; most = omega arith }

-- of the bytes from any place of any file on
pub looks_within : (s : List ℕ) (at : ℕ) → Bounded (length s - at) (zeros_passed s at) (looks s at)
looks_within s at = looks_bounded (length s - at) (zeros_passed s at) (zeros_among s at)
