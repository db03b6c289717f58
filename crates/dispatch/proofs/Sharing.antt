-- A turn of the bisection, and the way the gap goes.
-- Each is what the definition computes to once the tests are known.
use Prim.Native.Nat.{ℕ, zero, suc, ◌+◌, ◌-◌, ◌<◌, ◌≤◌}
use mathlib.Core.Bool.{Bool, true, false}
use mathlib.Core.List.{List}
use mathlib.Core.Path.{◌≡◌, refl, sym, ap, ◌∙◌}
use borrow.Author.Tests.{lt-ltb, le-ltb}
use lib.ListN.{length, set}
use lib.Ieee.{Float}
use Rattle.loops.specs.Figures.{at, plus, minus, clamped}
use Rattle.loops.proofs.Loops.{gap, none}
use Rattle.dispatch_defs.specs.Units.{Units, total}
use Rattle.dispatch_defs.specs.Share.{halved, narrow, halvings, bisected, first_free, closed}
use Rattle.dispatch_defs.specs.declared.Bracket.{Bracket}

-- ---- the bisection
-- a narrow bracket is left as it is
stays : (u : Units) (d : Float) (k : ℕ) (b : Bracket) → bisected u d k true b ≡ b
unfolding bisected
stays u d zero b = refl
stays u d (suc k) b = refl

module _ (u : Units) (d : Float) (turn : ℕ) (b h : Bracket) (t : turn < halvings) (e : h ≡ halved u d b) where
  next : (stop : Bool) → narrow h ≡ stop → bisected u d (halvings - turn) false b ≡ bisected u d (halvings - (turn + 1)) stop h
  unfolding bisected
  next stop n =
      ap (λ (k : ℕ). bisected u d k false b) (gap halvings turn t)
      ∙ ap (λ (x : Bracket). bisected u d (halvings - (turn + 1)) (narrow x) x) (sym e)
      ∙ ap (λ (s : Bool). bisected u d (halvings - (turn + 1)) s h) n

  pub halving_ends : narrow h ≡ true → bisected u d (halvings - turn) false b ≡ h
  halving_ends n = next true n ∙ stays u d (halvings - (turn + 1)) h

  pub halving_goes_on : narrow h ≡ false → bisected u d (halvings - turn) false b ≡ bisected u d (halvings - (turn + 1)) false h
  halving_goes_on n = next false n

pub halvings_spent : (u : Units) (d : Float) (turn : ℕ) (b : Bracket) → halvings ≤ turn → bisected u d (halvings - turn) false b ≡ b
unfolding bisected
halvings_spent u d turn b h = ap (λ (k : ℕ). bisected u d k false b) (none halvings turn h)

-- ---- the gap goes to the first free unit, or stays
module _ (pmin pmax : List Float) (d : Float) (out : List Float) (i : ℕ) (f : i ≡ first_free pmin pmax out) where
  pub closed_at_lem : (s a : Float) → s ≡ total out → i < length pmin → a ≡ clamped (at pmin i) (at pmax i) (plus (at out i) (minus d s)) → set out i a ≡ closed pmin pmax d out
  unfolding closed
  closed_at_lem s a e h q = rw (← f, lt-ltb i (length pmin) h, q, e)

  pub closed_none : length pmin ≤ i → out ≡ closed pmin pmax d out
  unfolding closed
  closed_none h = rw (← f, le-ltb i (length pmin) h)
