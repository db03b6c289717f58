-- A fraction in lowest terms (document 02, K3). `InLowestTerms` says what that is. proofs/Euclid.antt proves it of `lowest`.
use Rattle.std.specs.Prelude.{ℕ, zero, suc, ◌*◌, ◌/◌, ◌%◌, ◌<◌, cond, ◌≡◌, eqb}
use Rattle.std.specs.Int.{◌∣◌}
use Rattle.season_defs.specs.declared.Ratio.{Ratio}

-- Euclid's algorithm, in at most k turns
unfoldable pub euclid : ℕ → ℕ → ℕ → ℕ
euclid zero x y = x
euclid (suc k) x zero = x
euclid (suc k) x (suc y) = euclid k (suc y) (x % suc y)

-- y falls with each turn, so y turns are enough
unfoldable pub divisor : ℕ → ℕ → ℕ
divisor x y = euclid y x y

-- a over b; 0 over 1 where b is 0
unfoldable pub lowest : ℕ → ℕ → Ratio
lowest a b = record { over = cond (eqb b 0) 0 (a / divisor a b); under = cond (eqb b 0) 1 (b / divisor a b) }

-- ---- what is true of it: the same ratio, above zero below the line, and nothing divides both but 1
pub record InLowestTerms (a b : ℕ) (r : Ratio) : Type 0 where
  pub same : r.over * b ≡ a * r.under
  pub positive : 0 < r.under
  pub coprime : (d : ℕ) → d ∣ r.over → d ∣ r.under → d ≡ 1

abbrev pub Correct : Type 0
Correct = (a b : ℕ) → 0 < b → InLowestTerms a b (lowest a b)
