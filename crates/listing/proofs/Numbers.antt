-- The digits of a number and of a figure, as the library makes them, and how many bytes a field takes.
use Prim.Native.Nat.{ℕ, zero, suc, ◌+◌, ◌*◌, ◌/◌, ◌%◌, ◌^◌, ◌≤◌, ◌<◌}
use mathlib.Core.Bool.{Bool, true, false, cond}
use mathlib.Core.Path.{◌≡◌, refl, sym, ap, ◌∙◌}
use mathlib.Core.List.{List, [], ◌∷◌, ◌++◌, map}
use native.Mathlib.Omega.{arith}
use native.Mathlib.Nat.{pow-suc, div-div-eq-div-mul, div-one, mul_comm}
use borrow.Author.Tests.{lt-ltb, le-ltb}
use lib.Dec.{ltb}
use lib.ListN.{length, get_or, length-append}
use lib.Ieee.{Float, to_bits, is_nan, eq}
use Rattle.std.specs.Char.{to_ascii_uppercase}
use Rattle.std.specs.Fmt.{decimal as std_decimal}
use Rattle.std.specs.Int.{w64, byte_at, bytes_high_first, to_be_bytes}
use Rattle.std.specs.Prelude.{slice_index}
use Rattle.std.proofs.lemmas.Fmt.{decimal_by_steps}
use Rattle.hex.specs.Hex.{lower_digits, encode_with, encode_lower}
use Rattle.loops.specs.Loops.{tab}
use Rattle.loops.proofs.Bits.{only_nan}
use Rattle.loops.proofs.Fronts.{get_map}
use Rattle.loops.proofs.Tab.{get_tab}
use Rattle.plan_defs.specs.Listing.{bits_of}
use Rattle.listing_defs.specs.Text.{space, digit, hexadecimal, decimal, number, figure}

-- ---- a field's length
length_hexadecimal : (k n : ℕ) → length (hexadecimal k n) ≡ k
unfolding hexadecimal
length_hexadecimal zero n = refl
length_hexadecimal (suc k) n = length-append (hexadecimal k (n / 16)) (digit (n % 16) ∷ []) ∙ ap (λ (l : ℕ). l + 1) (length_hexadecimal k (n / 16)) ∙ omega arith

pub length_figure : (x : Float) → length (figure x) ≡ 17
unfolding figure
length_figure x = ap suc (length_hexadecimal 16 (bits_of x))

-- ---- the digits of a figure's bytes
-- the first of the last k + 1 digits
first_digit : (k n : ℕ) → hexadecimal (suc k) n ≡ digit (n / 16 ^ k % 16) ∷ hexadecimal k n
unfolding hexadecimal
first_digit zero n = ap (λ (m : ℕ). digit (m % 16) ∷ []) (sym (div-one n))
first_digit (suc k) n =
    ap (λ (l : List ℕ). l ++ (digit (n % 16) ∷ [])) (first_digit k (n / 16))
    ∙ ap (λ (m : ℕ). digit (m % 16) ∷ (hexadecimal k (n / 16) ++ (digit (n % 16) ∷ []))) (div-div-eq-div-mul n 16 (16 ^ k) ∙ ap (λ (m : ℕ). n / m) (sym (pow-suc 16 k ∙ mul_comm (16 ^ k) 16)))

-- a digit of either case, in upper case
upper_digit : (d : ℕ) → d < 16 → to_ascii_uppercase (slice_index lower_digits d) ≡ digit d
unfolding tab
upper_digit d h = sym (get_map to_ascii_uppercase lower_digits d 0 0 h) ∙ ap (λ (l : List ℕ). get_or l d 0) table ∙ get_tab 16 digit d 0 h
  where
    table : map to_ascii_uppercase lower_digits ≡ tab 16 digit
    table = refl

squares : (j : ℕ) → 256 ^ j ≡ 16 ^ (2 * j)
squares zero = refl
squares (suc j) =
    let a = pow-suc 256 j in
    let b = pow-suc 16 (2 * j) in
    let c = pow-suc 16 (suc (2 * j)) in
    let d : 2 * suc j ≡ suc (suc (2 * j)) = omega arith in
    rw d (omega (arith, a, b, c, squares j))

byte_digits : (j n : ℕ) → (byte_at j n / 16 ≡ n / 16 ^ suc (2 * j) % 16) × (byte_at j n % 16 ≡ n / 16 ^ (2 * j) % 16)
byte_digits j n = (ap (λ (m : ℕ). m / 16) (byte_of j n) ∙ high, ap (λ (m : ℕ). m % 16) (byte_of j n) ∙ low)
  where
    byte_of : (j n : ℕ) → byte_at j n ≡ n / 16 ^ (2 * j) % 256
    byte_of zero n = ap (λ (m : ℕ). m % 256) (sym (div-one n))
    byte_of (suc j) n = ap (λ (m : ℕ). n / m % 256) (squares (suc j))

    high : n / 16 ^ (2 * j) % 256 / 16 ≡ n / 16 ^ suc (2 * j) % 16
    high =
        let e : n / 16 ^ suc (2 * j) ≡ n / 16 ^ (2 * j) / 16 = ap (λ (m : ℕ). n / m) (pow-suc 16 (2 * j)) ∙ sym (div-div-eq-div-mul n (16 ^ (2 * j)) 16) in
        rw e (omega arith)

    low : n / 16 ^ (2 * j) % 256 % 16 ≡ n / 16 ^ (2 * j) % 16
    low = omega arith

hex_bytes : (j n : ℕ) → map to_ascii_uppercase (encode_lower (bytes_high_first j n)) ≡ hexadecimal (2 * j) n
unfolding encode_with
hex_bytes zero n = unfold hexadecimal in refl
hex_bytes (suc j) n =
    let d = byte_digits j n in
    let e : 2 * suc j ≡ suc (suc (2 * j)) = omega arith in
    ap (λ (l : List ℕ). to_ascii_uppercase (slice_index lower_digits (byte_at j n / 16)) ∷ to_ascii_uppercase (slice_index lower_digits (byte_at j n % 16)) ∷ l) (hex_bytes j n)
    ∙ ap (λ (x : ℕ). x ∷ to_ascii_uppercase (slice_index lower_digits (byte_at j n % 16)) ∷ hexadecimal (2 * j) n) (ap (λ (x : ℕ). to_ascii_uppercase (slice_index lower_digits x)) d.0 ∙ upper_digit (n / 16 ^ suc (2 * j) % 16) (omega arith))
    ∙ ap (λ (x : ℕ). digit (n / 16 ^ suc (2 * j) % 16) ∷ x ∷ hexadecimal (2 * j) n) (ap (λ (x : ℕ). to_ascii_uppercase (slice_index lower_digits x)) d.1 ∙ upper_digit (n / 16 ^ (2 * j) % 16) (omega arith))
    ∙ ap (λ (l : List ℕ). digit (n / 16 ^ suc (2 * j) % 16) ∷ l) (sym (first_digit (2 * j) n))
    ∙ sym (first_digit (suc (2 * j)) n)
    ∙ ap (λ (k : ℕ). hexadecimal k n) (sym e)

pub figure_digits : (n : ℕ) → map to_ascii_uppercase (encode_lower (to_be_bytes w64 n)) ≡ hexadecimal 16 n
figure_digits n = hex_bytes 8 n

-- ---- the fewest digits that hold a number are its decimal text
decimal_one : (f n : ℕ) → n < 10 → decimal (suc f) n ≡ digit n ∷ []
unfolding decimal
decimal_one f n h = ap (λ (t : Bool). cond t (digit n ∷ []) (decimal f (n / 10) ++ (digit (n % 10) ∷ []))) (lt-ltb n 10 h)

decimal_more : (f n : ℕ) → 10 ≤ n → decimal (suc f) n ≡ decimal f (n / 10) ++ (digit (n % 10) ∷ [])
unfolding decimal
decimal_more f n h = ap (λ (t : Bool). cond t (digit n ∷ []) (decimal f (n / 10) ++ (digit (n % 10) ∷ []))) (le-ltb n 10 h)

length_by : (f n : ℕ) (t : Bool) → length (decimal f (n / 10)) ≤ f → length (cond t (digit n ∷ []) (decimal f (n / 10) ++ (digit (n % 10) ∷ []))) ≤ suc f
length_by f n true h = omega arith
length_by f n false h = omega (arith, length-append (decimal f (n / 10)) (digit (n % 10) ∷ []))

length_decimal : (f n : ℕ) → length (decimal f n) ≤ f
unfolding decimal
length_decimal zero n = omega arith
length_decimal (suc f) n = length_by f n (ltb n 10) (length_decimal f (n / 10))

pub length_number : (n : ℕ) → length (number n) ≤ 21
unfolding number
length_number n = omega (arith, length_decimal 20 n)

-- std's text of a number is the listing's
by_steps : (n : ℕ) → n < 2 ^ 64 → (f : ℕ) → 0 < f → n < 10 ^ f → std_decimal n ≡ decimal f n
by_steps = decimal_by_steps (λ n ds. (f : ℕ) → 0 < f → n < 10 ^ f → ds ≡ decimal f n) one more
  where
    one : (n : ℕ) → n < 10 → (f : ℕ) → 0 < f → n < 10 ^ f → (48 + n) ∷ [] ≡ decimal f n
    one n h zero p b = absurd (omega arith)
    one n h (suc f) p b = ap (λ (t : Bool). cond t (48 + n) (55 + n) ∷ []) (sym (lt-ltb n 10 h)) ∙ sym (decimal_one f n h)

    more : (n : ℕ) (ds : List ℕ) → 10 ≤ n → ((f : ℕ) → 0 < f → n / 10 < 10 ^ f → ds ≡ decimal f (n / 10)) → (f : ℕ) → 0 < f → n < 10 ^ f → ds ++ ((48 + n % 10) ∷ []) ≡ decimal f n
    more n ds h e zero p b = absurd (omega arith)
    more n ds h e (suc f) p b =
        let q : 0 < f = some f b in
        let t = pow-suc 10 f in
        ap (λ (l : List ℕ). l ++ ((48 + n % 10) ∷ [])) (e f q (omega (arith, t)))
        ∙ ap (λ (d : ℕ). decimal f (n / 10) ++ (d ∷ [])) (ap (λ (t : Bool). cond t (48 + n % 10) (55 + n % 10)) (sym (lt-ltb (n % 10) 10 (omega arith))))
        ∙ sym (decimal_more f n h)
      where
        some : (f : ℕ) → n < 10 ^ suc f → 0 < f
        some zero b = absurd (omega arith)
        some (suc f) b = omega arith

pub number_text : (n : ℕ) → n < 2 ^ 64 → space ∷ std_decimal n ≡ number n
unfolding number
number_text n h = ap (λ (l : List ℕ). space ∷ l) (by_steps n h 20 (omega arith) (omega arith))

-- a NaN is listed by its one pattern
pub nan_listed : (x : Float) → is_nan x ≡ true → bits_of x ≡ 0x7ff8000000000000
unfolding to_bits eq
nan_listed x h = ap bits_of (only_nan x h)
