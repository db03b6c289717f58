-- How many places of a table differ from a given number: what falls with each turn.
-- By the places, from the last to the first.
use mathlib.Core.Path.{◌≡◌, refl, sym, ap, ◌∙◌}
use mathlib.Core.Bool.{Bool, true, false}
use mathlib.Core.List.{List}
use Prim.Native.Nat.{ℕ, zero, suc, ◌+◌, ◌<◌, ◌≤◌}
use native.Mathlib.Decide.{ℕ_discrete}
use native.Mathlib.Omega.{arith}
use borrow.Author.Tests.{eqb-true, eq-eqb, ne_eqb}
use lib.Dec.{eqb}
use lib.ListN.{length, get_or, set}
use lib.Seq.{get_or-set_same, get_or-set_other}

-- one for a place that differs
abbrev bit : Bool → ℕ
bit true = 0
bit false = 1

-- of the first n places, those that differ from v
unfoldable pub left : ℕ → List ℕ → ℕ → ℕ
left v mark zero = 0
left v mark (suc j) = bit (eqb (get_or mark j 0) v) + left v mark j

one : (b : Bool) → bit b ≤ 1
one true = omega arith
one false = omega arith

pub left_most : (v : ℕ) (mark : List ℕ) (n : ℕ) → left v mark n ≤ n
unfolding left
left_most v mark zero = omega arith
left_most v mark (suc j) = omega (arith, one (eqb (get_or mark j 0) v), left_most v mark j)

pub left_same : (v : ℕ) (a b : List ℕ) (n : ℕ) → ((j : ℕ) → j < n → eqb (get_or a j 0) v ≡ eqb (get_or b j 0) v) → left v a n ≡ left v b n
unfolding left
left_same v a b zero h = refl
left_same v a b (suc n) h =
    ap (λ (t : Bool). bit t + left v a n) (h n (omega arith)) ∙ ap (λ (t : ℕ). bit (eqb (get_or b n 0) v) + t) (left_same v a b n (λ j l. h j (omega arith)))

-- a place that differed is given another number that differs
pub left_reached : (v u : ℕ) (mark : List ℕ) (n j₀ : ℕ) → (u ≡ v → ⊥) → j₀ < length mark → (get_or mark j₀ 0 ≡ v → ⊥) → left v (set mark j₀ u) n ≡ left v mark n
left_reached v u mark n j₀ d h k =
    left_same v (set mark j₀ u) mark n
    (λ j l. elim (ℕ_discrete j j₀) [
      | yes e ↦ ap (λ (t : ℕ). eqb (get_or (set mark j₀ u) t 0) v) e ∙ ap (λ (t : ℕ). eqb t v) (get_or-set_same mark j₀ u 0 h) ∙ ne_eqb u v d
          ∙ sym (ap (λ (t : ℕ). eqb (get_or mark t 0) v) e ∙ ne_eqb (get_or mark j₀ 0) v k)
      | no e ↦ ap (λ (t : ℕ). eqb t v) (get_or-set_other mark j₀ j u 0 e)
    ])

-- a place that differed is given the number: one less
pub left_settled : (v : ℕ) (mark : List ℕ) (n i : ℕ) → i < n → i < length mark → (get_or mark i 0 ≡ v → ⊥) → left v (set mark i v) n + 1 ≡ left v mark n
unfolding left
left_settled v mark zero i h l k = absurd (omega arith)
left_settled v mark (suc n) i h l k = elim (ℕ_discrete i n) [ yes e ↦ at_end e | no e ↦ before e (left_settled v mark n i (omega arith) l k) ]
  where
    at_end : i ≡ n → bit (eqb (get_or (set mark i v) n 0) v) + left v (set mark i v) n + 1 ≡ bit (eqb (get_or mark n 0) v) + left v mark n
    at_end e =
        let p : eqb (get_or (set mark i v) n 0) v ≡ true = eq-eqb (get_or (set mark i v) n 0) v (ap (λ (t : ℕ). get_or (set mark i v) t 0) (sym e) ∙ get_or-set_same mark i v 0 l) in
        let q : eqb (get_or mark n 0) v ≡ false = ne_eqb (get_or mark n 0) v (λ z. k (ap (λ (t : ℕ). get_or mark t 0) e ∙ z)) in
        let r : left v (set mark i v) n ≡ left v mark n = left_same v (set mark i v) mark n (λ j m. ap (λ (t : ℕ). eqb t v) (get_or-set_other mark i j v 0 (λ z. differ z m))) in
        let u : bit (eqb (get_or (set mark i v) n 0) v) ≡ 0 = ap (λ (t : Bool). bit t) p in
        let v : bit (eqb (get_or mark n 0) v) ≡ 1 = ap (λ (t : Bool). bit t) q in
        omega arith
      where
        differ : {j : ℕ} → j ≡ i → j < n → ⊥
        differ z m = omega arith

    before : (i ≡ n → ⊥) → left v (set mark i v) n + 1 ≡ left v mark n → bit (eqb (get_or (set mark i v) n 0) v) + left v (set mark i v) n + 1 ≡ bit (eqb (get_or mark n 0) v) + left v mark n
    before e r =
        let p : bit (eqb (get_or (set mark i v) n 0) v) ≡ bit (eqb (get_or mark n 0) v) = ap (λ (t : ℕ). bit (eqb t v)) (get_or-set_other mark i n v 0 (λ z. e (sym z))) in
        omega arith

-- where none is left, each is the number
pub all_settled : (v : ℕ) (mark : List ℕ) (n : ℕ) → left v mark n ≡ 0 → (j : ℕ) → j < n → get_or mark j 0 ≡ v
unfolding left
all_settled v mark zero e j h = absurd (omega arith)
all_settled v mark (suc n) e j h = elim (ℕ_discrete j n) [ yes p ↦ ap (λ (t : ℕ). get_or mark t 0) p ∙ head (eqb (get_or mark n 0) v) refl e | no p ↦ all_settled v mark n (omega arith) j (omega arith) ]
  where
    head : (b : Bool) → eqb (get_or mark n 0) v ≡ b → bit b + left v mark n ≡ 0 → get_or mark n 0 ≡ v
    head true q r = eqb-true (get_or mark n 0) v q
    head false q r = absurd (omega arith)
