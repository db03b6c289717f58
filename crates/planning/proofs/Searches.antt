-- A search whose definition says the end where there is none.
use Rattle.std.proofs.Common.{◌≡◌, ℕ, ◌+◌, ◌≤◌, Bool, true, false, cond, ltb, refl, ap, ◌∙◌, arith}
use Rattle.std.specs.Prelude.{Option, Some, None, unwrap_or}
use Rattle.loops.specs.Loops.{first, fault}
use Rattle.loops.proofs.Scan.{first_most}
use borrow.Author.Tests.{ltb-false}

pub fault_or : (ok : ℕ → Bool) (n : ℕ) (found : Option ℕ) → found ≡ fault ok n → unwrap_or found n ≡ first ok n 0
unfolding fault
fault_or ok n found e = ap (λ (o : Option ℕ). unwrap_or o n) e ∙ go (first ok n 0) (ltb (first ok n 0) n) refl (first_most ok n 0)
  where
    go : (p : ℕ) (b : Bool) → ltb p n ≡ b → p ≤ 0 + n → unwrap_or (cond b (Some p) None) n ≡ p
    go p true q h = refl
    go p false q h = let l : n ≤ p = ltb-false p n q in omega arith
