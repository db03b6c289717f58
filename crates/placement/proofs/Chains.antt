-- Chains: their ends are buses, and their lengths are figures without a sign that binary64 holds.
-- A corridor's length is finite and not below zero, so each sum has no sign; what is rounded, binary64 holds.
use mathlib.Core.Path.{◌≡◌, sym, subst}
use mathlib.Core.Bool.{true}
use mathlib.Core.List.{List}
use mathlib.Core.Logic.{⊎_elim}
use Prim.Native.Nat.{ℕ, ◌<◌}
use lib.Dec.{T}
use lib.Ieee.{Float, binary64, fits, of_bits, le}
use lib.Ieee.Fits.{add-fits}
use lib.Ieee.Scale.{finite as bounded}
use Rattle.loops.specs.Figures.{at, nought, ten_thousand, infinity}
use Rattle.loops.proofs.Bools.{and_of}
use Rattle.loops.proofs.Order.{inside_bounded}
use Rattle.loops.proofs.Signs.{sound_of}
use Rattle.placement_defs.specs.Request.{Net}
use Rattle.placement_defs.specs.Distance.{Network}
use Rattle.placement.proofs.Tests.{net_ends}
use Rattle.placement_defs.specs.Support.{support_km}
use Rattle.placement_defs.specs.Chain.{Chain, here, along, Joins}
use Rattle.loops.proofs.Sums.{unsigned, Term, plus_unsigned}

-- a chain as its ends and its length are written
pub chain_as : {w : Network} {sources : List ℕ} (s s' j j' : ℕ) (d d' : Float) → s' ≡ s → j' ≡ j → d' ≡ d → Chain w sources s j d → Chain w sources s' j' d'
chain_as {w} {sources} s s' j j' d d' p q r k =
    subst (λ (x : ℕ). Chain w sources x j' d') (sym p) (subst (λ (x : ℕ). Chain w sources s x d') (sym q) (subst (λ (x : Float). Chain w sources s j x) (sym r) k))

pub nought_unsigned : T (unsigned nought)
unfolding of_bits
nought_unsigned = tt

nought_fits : T (fits binary64 nought)
unfolding of_bits fits
nought_fits = tt

-- a corridor's length is finite
bounded_length : (km : Float) → le nought km ≡ true → le km ten_thousand ≡ true → T (bounded km)
unfolding of_bits
bounded_length km p q = inside_bounded nought ten_thousand km tt tt (and_of p q)

pub limit_unsigned : T (unsigned support_km)
unfolding of_bits
limit_unsigned = tt

pub infinity_unsigned : T (unsigned infinity) × T (fits binary64 infinity)
unfolding of_bits fits
infinity_unsigned = (tt, tt)

module _ (w : Network) (net : Net w.n w.m w.a w.b w.km) where
  pub length_at : (c : ℕ) → c < w.m → Term (at w.km c)
  length_at c h = let e = net_ends net c h in (sound_of (at w.km c) e.low, bounded_length (at w.km c) e.low e.high)

  pub far_bus : (c i j : ℕ) → c < w.m → Joins w c i j → j < w.n
  far_bus c i j h k =
      let e = net_ends net c h in
      ⊎_elim (λ p. subst (λ (x : ℕ). x < w.n) p.1 e.b_below) (λ p. subst (λ (x : ℕ). x < w.n) p.0 e.a_below) k

  pub chain_unsigned : {sources : List ℕ} {s j : ℕ} {d : Float} → Chain w sources s j d → T (unsigned d) × T (fits binary64 d)
  chain_unsigned (here s h q) = (nought_unsigned, nought_fits)
  chain_unsigned (along s i j c d k h q) = (plus_unsigned d (at w.km c) (chain_unsigned k).0 (length_at c h), add-fits binary64 d (at w.km c))
