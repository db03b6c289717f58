use Prim.Native.Nat.{ℕ, min}
use mathlib.Core.Bool.{Bool, true, false, cond}
use mathlib.Core.Path.{◌≡◌, refl, ◌∙◌}
use native.Mathlib.Omega.{arith}
use borrow.Author.Tests.{lt-ltb, le-ltb, ltb-true, ltb-false}
use lib.Dec.{ltb}
use Rattle.placement.specs.Blocks.{nearest_with}
use Rattle.placement.proofs.blocks.nearest_with.Goals as goal

lower : (j b : ℕ) → min j b ≡ cond (ltb j b) j b
lower j b = go (ltb j b) refl
  where
    go : (c : Bool) → ltb j b ≡ c → min j b ≡ cond c j b
    go true e = let l = ltb-true j b e in omega arith
    go false e = let l = ltb-false j b e in omega arith

pub returns-in_default-clause-value : goal.returns-in_default-clause-value
unfolding nearest_with
returns-in_default-clause-value c = rw (c.in_default.is, le-ltb c.args.n c.args.n (omega arith))

pub returns-then-nd-dist-clause-value : goal.returns-then-nd-dist-clause-value
unfolding nearest_with
returns-then-nd-dist-clause-value c = rw (c.in-Some.is, lt-ltb _ _ (c.requires.2 _ c.in-Some.is), c.if-nd-dist.true)

pub returns-then-dist-b-clause-value : goal.returns-then-dist-b-clause-value
unfolding nearest_with
returns-then-dist-b-clause-value c = rw (c.in-Some.is, lt-ltb _ _ (c.requires.2 _ c.in-Some.is), c.if-nd-dist.false, c.if-dist-b.true)

pub returns-clause-value : goal.returns-clause-value
unfolding nearest_with
returns-clause-value c = rw (c.in-Some.is, lt-ltb _ _ (c.requires.2 _ c.in-Some.is), c.if-nd-dist.false, c.if-dist-b.false) (c.min.ensures ∙ lower _ _)
