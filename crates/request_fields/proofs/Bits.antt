-- Without small letters the kit's decoding of hexadecimal pairs reads what `bits_of` says: pair by pair, each byte is two digits more.
use Rattle.std.proofs.Common.{◌≡◌, ◌+◌, ◌*◌, ◌<◌, ◌≤◌, ◌%◌, ◌/◌, inl, inr, ℕ, true, false, List, [], ◌∷◌, length, Option, Some, None, Result, Ok, Err, refl, sym, ap, ◌∙◌, arith}
use Rattle.std.specs.Prelude.{MatchResult}
use Rattle.std.specs.Char.{is_ascii_lowercase}
use Rattle.std.specs.List.{list_any}
use Rattle.std.specs.Result.{result_ok}
use Rattle.std.specs.Int.{from_be_bytes, w64}
use Rattle.std.proofs.lemmas.Bool.{cases_eq, cases_lt}
use Rattle.hex.specs.Hex.{decode_pairs, decode_sized, digit_or_error, hex_digit_value, pair_value, value_at}
use Rattle.hex.specs.declared.error.FromHexError.{FromHexError}
use Rattle.hex.specs.declared.error.FromHexError.TheVariants.{InvalidHexCharacter}
use Rattle.hex.proofs.HexLemmas.{decode_sized-ok}
use Rattle.hex.proofs.Pairs.{cons_byte, decode_pairs-ok_pair, decode_pairs-err_pair, decode_sized-pairs}
use Rattle.request_fields.specs.Written.{digit_of, number_behind, bits_of}

-- The number of bytes behind n, most significant first.
abbrev big_endian : ℕ → List ℕ → ℕ
big_endian n [] = n
big_endian n (b ∷ bs) = big_endian (256 * n + b) bs

-- A small letter is no digit.
lowercase_none : (n : ℕ) (s : List ℕ) → list_any is_ascii_lowercase s ≡ true → number_behind 16 n s ≡ None
lowercase_none n [] h = cc h
lowercase_none n (b ∷ s) h = let rest = lowercase_none (16 * n + digit_of b) s in grind (arith, rest)

pub no_bits : (s : List ℕ) → list_any is_ascii_lowercase s ≡ true → None ≡ bits_of s
no_bits s h = let none = lowercase_none 0 s h in grind (arith, none)

-- Elsewhere the kit's digits are ours.
digit_good : (b : ℕ) → is_ascii_lowercase b ≡ false → digit_of b < 16 → hex_digit_value b ≡ Some (digit_of b)
digit_good b h k = grind arith

digit_bad : (b : ℕ) → is_ascii_lowercase b ≡ false → 16 ≤ digit_of b → hex_digit_value b ≡ None
digit_bad b h k = grind arith

number_good : (n b : ℕ) (s : List ℕ) → digit_of b < 16 → number_behind 16 n (b ∷ s) ≡ number_behind 16 (16 * n + digit_of b) s
number_good n b s h = grind arith

number_bad : (n b : ℕ) (s : List ℕ) → 16 ≤ digit_of b → number_behind 16 n (b ∷ s) ≡ None
number_bad n b s h = grind arith

-- Two digits, and two of which one is none.
pair_good : (i a b x y : ℕ) → hex_digit_value a ≡ Some x → hex_digit_value b ≡ Some y → pair_value a b i ≡ Ok (x * 16 + y)
pair_good i a b x y h k =
    let high : value_at a i ≡ Ok x = ap (digit_or_error a i) h in
    let low : value_at b (i + 1) ≡ Ok y = ap (digit_or_error b (i + 1)) k in
    rw (high, low) refl

pair_high : (i a b : ℕ) → hex_digit_value a ≡ None → pair_value a b i ≡ Err (InvalidHexCharacter a i)
pair_high i a b h =
    let high : value_at a i ≡ Err (InvalidHexCharacter a i) = ap (digit_or_error a i) h in
    rw high refl

pair_low : (i a b x : ℕ) → hex_digit_value a ≡ Some x → hex_digit_value b ≡ None → pair_value a b i ≡ Err (InvalidHexCharacter b (i + 1))
pair_low i a b x h k =
    let high : value_at a i ≡ Ok x = ap (digit_or_error a i) h in
    let low : value_at b (i + 1) ≡ Err (InvalidHexCharacter b (i + 1)) = ap (digit_or_error b (i + 1)) k in
    rw (high, low) refl

-- What a decoding comes to, beside the number that the digits write behind n.
abbrev Decodes : ℕ → Result (List ℕ) FromHexError → Option ℕ → Type 0
Decodes n decoded number = MatchResult decoded (λ bytes. number ≡ Some (big_endian n bytes)) (λ _. number ≡ None)

byte_more : (n v : ℕ) (r : Result (List ℕ) FromHexError) (o : Option ℕ) → Decodes (256 * n + v) r o → Decodes n (cons_byte v r) o
byte_more n v (Ok bytes) o h = h
byte_more n v (Err e) o h = h

decoded : (i n : ℕ) (s : List ℕ) → list_any is_ascii_lowercase s ≡ false → length s % 2 ≡ 0 → Decodes n (decode_pairs i s) (number_behind 16 n s)
unfolding decode_pairs
decoded i n [] h even = refl
decoded i n (a ∷ []) h even = absurd (omega arith)
decoded i n (a ∷ b ∷ s) h even =
    let sa : is_ascii_lowercase a ≡ false = grind (arith, h) in
    let sb : is_ascii_lowercase b ≡ false = grind (arith, h) in
    let rest = decoded (i + 2) (16 * (16 * n + digit_of a) + digit_of b) s (grind (arith, h)) (omega arith) in
    elim (cases_lt (digit_of a) 16) [
      | inl ha ↦
          elim (cases_lt (digit_of b) 16) [
            | inl hb ↦
                let pair = pair_good i a b _ _ (digit_good a sa ha) (digit_good b sb hb) in
                let same : 256 * n + (digit_of a * 16 + digit_of b) ≡ 16 * (16 * n + digit_of a) + digit_of b = omega arith in
                rw (decode_pairs-ok_pair i a b _ s pair, number_good n a (b ∷ s) ha, number_good (16 * n + digit_of a) b s hb)
                (byte_more n _ (decode_pairs (i + 2) s) _ (rw same rest))
            | inr hb ↦
                rw (decode_pairs-err_pair i a b _ s (pair_low i a b _ (digit_good a sa ha) (digit_bad b sb hb)), number_good n a (b ∷ s) ha, number_bad (16 * n + digit_of a) b s hb) refl
          ]
      | inr ha ↦ rw (decode_pairs-err_pair i a b _ s (pair_high i a b (digit_bad a sa ha)), number_bad n a (b ∷ s) ha) refl
    ]

-- The decoding into eight bytes, of a text of any length.
not_sized : (s : List ℕ) (d : Result (List ℕ) FromHexError) → decode_sized s 8 ≡ d → (length s ≡ 16 → ⊥) → Decodes 0 d (bits_of s)
not_sized s (Ok bytes) e h = let len = decode_sized-ok s 8 bytes e in absurd (h (omega arith))
not_sized s (Err x) e h = grind (arith, h)

sized : (s : List ℕ) → list_any is_ascii_lowercase s ≡ false → Decodes 0 (decode_sized s 8) (bits_of s)
sized s h =
    elim (cases_eq (length s) 16) [
      | inl e ↦
          let even : length s % 2 ≡ 0 = omega arith in
          let half : length s / 2 ≡ 8 = omega arith in
          let bits : bits_of s ≡ number_behind 16 0 s = grind (arith, e) in
          rw (decode_sized-pairs s 8 even half, bits) (decoded 0 0 s h even)
      | inr ne ↦ not_sized s (decode_sized s 8) refl ne
    ]

-- What the decoding says of its answer and of the bytes.
abbrev Answers : Result (List ℕ) FromHexError → Result Unit FromHexError → List ℕ → Type 0
Answers d r out = MatchResult d (λ bytes. (r ≡ Ok tt) × (out ≡ bytes)) (λ e. r ≡ Err e)

at_ok : (d : Result (List ℕ) FromHexError) (r : Result Unit FromHexError) (out : List ℕ) (o : Option ℕ) (u : Unit {0})
    → Answers d r out → Decodes 0 d o → Some u ≡ result_ok r → o ≡ Some (big_endian 0 out)
at_ok (Ok bytes) r out o u w d k = rw w.1 d
at_ok (Err x) r out o u w d k = absurd (cc (k ∙ ap result_ok w))

at_err : (d : Result (List ℕ) FromHexError) (r : Result Unit FromHexError) (out : List ℕ) (o : Option ℕ)
    → Answers d r out → Decodes 0 d o → None ≡ result_ok r → o ≡ None
at_err (Ok bytes) r out o w d k = absurd (cc (k ∙ ap result_ok w.0))
at_err (Err x) r out o w d k = d

-- The kit's number of eight bytes.
pub eight : (xs : List ℕ) → length xs ≡ 8 → from_be_bytes w64 xs ≡ big_endian 0 xs
eight [] h = absurd (omega arith)
eight (a ∷ []) h = absurd (omega arith)
eight (a ∷ b ∷ []) h = absurd (omega arith)
eight (a ∷ b ∷ c ∷ []) h = absurd (omega arith)
eight (a ∷ b ∷ c ∷ d ∷ []) h = absurd (omega arith)
eight (a ∷ b ∷ c ∷ d ∷ e ∷ []) h = absurd (omega arith)
eight (a ∷ b ∷ c ∷ d ∷ e ∷ f ∷ []) h = absurd (omega arith)
eight (a ∷ b ∷ c ∷ d ∷ e ∷ f ∷ g ∷ []) h = absurd (omega arith)
eight (a ∷ b ∷ c ∷ d ∷ e ∷ f ∷ g ∷ i ∷ []) h = omega arith
eight (a ∷ b ∷ c ∷ d ∷ e ∷ f ∷ g ∷ i ∷ j ∷ s) h = absurd (omega arith)

-- What the decoding puts into eight bytes, and where it fails.
pub bits_read : (s out : List ℕ) (r : Result Unit FromHexError) (u : Unit {0}) → list_any is_ascii_lowercase s ≡ false
    → Answers (decode_sized s 8) r out → Some u ≡ result_ok r → length out ≡ 8 → Some (from_be_bytes w64 out) ≡ bits_of s
bits_read s out r u h w k len = ap Some (eight out len) ∙ sym (at_ok (decode_sized s 8) r out (bits_of s) u w (sized s h) k)

pub none_read : (s out : List ℕ) (r : Result Unit FromHexError) → list_any is_ascii_lowercase s ≡ false
    → Answers (decode_sized s 8) r out → None ≡ result_ok r → None ≡ bits_of s
none_read s out r h w k = sym (at_err (decode_sized s 8) r out (bits_of s) w (sized s h) k)
