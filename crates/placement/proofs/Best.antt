-- A loop that keeps the best of the indices passed: the one law of the nearest candidate and the farthest bus.
-- By the turns: the next index wins, or the best so far is as good.
use mathlib.Core.Path.{◌≡◌, refl, sym, ap, ◌∙◌, subst}
use mathlib.Core.Bool.{Bool, true, false, cond, ◌&&◌, ◌||◌}
use Prim.Native.Nat.{ℕ, suc, ◌<◌, ◌≤◌}
use native.Mathlib.Decide.{ℕ_discrete}
use native.Mathlib.Omega.{arith}
use borrow.Author.Tests.{eqb-true, eqb-false}
use lib.Dec.{eqb}
use Rattle.loops.proofs.Bools.{no as clash}

pub split : {j i : ℕ} → j < suc i → (j ≡ i → ⊥) → j < i
split h n = omega arith

-- of the indices below i, best is one that p takes and that is R to each that p takes; n where p takes none
pub record Best (n : ℕ) (p : ℕ → Bool) (R : ℕ → ℕ → Type 0) (i best : ℕ) : Type 0 where
  pub within : best ≤ n
  pub none : best ≡ n → (j : ℕ) → j < i → p j ≡ true → ⊥
  pub some : best < n → (p best ≡ true) × ((j : ℕ) → j < i → p j ≡ true → R best j)

module _ (n : ℕ) (p : ℕ → Bool) (R : ℕ → ℕ → Type 0) (better : ℕ → ℕ → Bool)
    (own : (i : ℕ) → i < n → p i ≡ true → R i i)
    (wins : (i b j : ℕ) → i < n → b < n → j < n → p i ≡ true → p b ≡ true → p j ≡ true → better i b ≡ true → R b j → R i j)
    (loses : (i b : ℕ) → i < n → b < n → p i ≡ true → p b ≡ true → better i b ≡ false → R b i) where
  at_own : (i j : ℕ) → j ≡ i → i < n → p i ≡ true → R i j
  at_own i j u h c = subst (λ (t : ℕ). R i t) (sym u) (own i h c)

  next : (i b : ℕ) → i < n → Best n p R i b → (x y z : Bool) → p i ≡ x → eqb b n ≡ y → better i b ≡ z → Best n p R (suc i) (cond (x && (y || z)) i b)
  next i b h r false y z c q e =
      record {
        within = r.within;
        none = λ o j l m. elim (ℕ_discrete j i) [ yes u ↦ clash c (ap p (sym u) ∙ m) | no u ↦ r.none o j (split l u) m ];
        some = λ o. ((r.some o).0, λ j l m. elim (ℕ_discrete j i) [ yes u ↦ absurd (clash c (ap p (sym u) ∙ m)) | no u ↦ (r.some o).1 j (split l u) m ]);
      }
  next i b h r true true z c q e =
      record {
        within = omega arith;
        none = λ o j l m. omega arith;
        some = λ o. (c, λ j l m. elim (ℕ_discrete j i) [ yes u ↦ at_own i j u h c | no u ↦ absurd (r.none (eqb-true b n q) j (split l u) m) ]);
      }
  next i b h r true false true c q e =
      let d = eqb-false b n q in
      let w = r.within in
      let o : b < n = omega arith in
      let k = r.some o in
      record {
        within = omega arith;
        none = λ o j l m. omega arith;
        some = λ v. (c, λ j l m. elim (ℕ_discrete j i) [ yes u ↦ at_own i j u h c | no u ↦ wins i b j h o (below l h) c k.0 m e (k.1 j (split l u) m) ]);
      }
    where
      below : {j i : ℕ} → j < suc i → i < n → j < n
      below l h = omega arith
  next i b h r true false false c q e =
      record {
        within = r.within;
        none = λ o. absurd (eqb-false b n q o);
        some = λ o. (
          (r.some o).0,
          λ j l m. elim (ℕ_discrete j i) [ yes u ↦ subst (λ (t : ℕ). R b t) (sym u) (loses i b h o c (r.some o).0 e) | no u ↦ (r.some o).1 j (split l u) m ],
        );
      }

  pub first_best : Best n p R 0 n
  first_best = record { within = omega arith; none = λ o j l m. omega arith; some = λ o. absurd (omega arith) }

  pub next_best : (i b : ℕ) → i < n → Best n p R i b → Best n p R (suc i) (cond (p i && (eqb b n || better i b)) i b)
  next_best i b h r = next i b h r (p i) (eqb b n) (better i b) refl refl refl
