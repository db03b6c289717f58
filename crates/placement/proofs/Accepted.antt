-- A request that is answered with a count passed the checks.
-- By the verdict: a refusal is no count.
use mathlib.Core.Path.{◌≡◌, refl, sym}
use mathlib.Core.List.{List}
use Prim.Native.Nat.{ℕ}
use lib.ListN.{length}
use lib.Ieee.{Float}
use Rattle.loops.proofs.Bools.{unequal}
use Rattle.refusal.specs.Reply.{answered}
use Rattle.placement_defs.specs.Request.{Request, check_of}
use Rattle.placement_defs.specs.Support.{answer_to, placement}
use Rattle.placement.proofs.Checks.{Passed, passed}
use Rattle.std.specs.Prelude.{Err, Ok, Result}
use Rattle.refusal.specs.declared.Refusal.{Refusal}

pub accepted : (k : Request) (buses : List ℕ) (mvars : List Float) (count : ℕ) → (placement k buses mvars).reply ≡ answered count → Passed k (length buses) (length mvars)
unfolding placement answer_to
accepted k buses mvars count e = go (check_of k (length buses) (length mvars)) refl e
  where
    go : (v : Result (Unit {0}) Refusal) → check_of k (length buses) (length mvars) ≡ v → (answer_to v k buses mvars).reply ≡ answered count → Passed k (length buses) (length mvars)
    go (Ok tt) p q = passed k (length buses) (length mvars) (sym p)
    go (Err f) p q = absurd (unequal cc)
