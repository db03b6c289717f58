-- Each vector of a solve has a place for each bus, and is zero at a grounded bus.
-- A vector made by `tab` has its length by construction; one made by an edge's turns keeps the length that it starts with.
use Prim.Native.Nat.{ℕ, suc, ◌<◌}
use mathlib.Core.Path.{◌≡◌, refl, ap, ◌∙◌}
use mathlib.Core.List.{List}
use native.Mathlib.Decide.{ℕ_discrete}
use native.Mathlib.Nat.{eq-or-lt_of_le, le_of_suc-le-suc}
use native.Mathlib.Omega.{arith}
use mathlib.Core.Logic.{⊎_elim}
use lib.Ieee.{Float, nan, ne, of_bits}
use lib.ListN.{length, get_or, length-set, length-replicate}
use lib.Seq.{get_or-set_same, get_or-set_other}
use Rattle.loops.specs.Figures.{at, nought, one}
use Rattle.loops.proofs.Loops.{iter_keeps, iter_carries}
use Rattle.loops.proofs.Tab.{length_tab, get_tab}
use Rattle.angles_defs.specs.Network.{Edges, Network, zeros, ground, grounded_of, weigh, diag_of, carry, scatter, kept_at, kept, share_at, shares, precondition, along, back, less}

-- ---- lengths
pub length_zeros : (n : ℕ) → length (zeros n) ≡ n
length_zeros n = length-replicate n nought

pub length_grounded : (n : ℕ) (grounds : List ℕ) → length (grounded_of n grounds) ≡ n
unfolding grounded_of
length_grounded n grounds =
    iter_keeps (ground grounds) (λ y. length y ≡ n) (λ k y e. simp length-set e) (length grounds) 0 (zeros n) (length_zeros n)

pub length_diag : (n : ℕ) (E : Edges) → length (diag_of n E) ≡ n
unfolding diag_of
length_diag n E =
    iter_keeps (weigh E) (λ y. length y ≡ n) (λ e y h. simp length-set h) (length E.from) 0 (zeros n) (length_zeros n)

pub length_scatter : (n : ℕ) (E : Edges) (x : List Float) → length (scatter n E x) ≡ n
unfolding scatter
length_scatter n E x =
    iter_keeps (carry E x) (λ y. length y ≡ n) (λ e y h. simp length-set h) (length E.from) 0 (zeros n) (length_zeros n)

pub length_kept : (n : ℕ) (grounded y : List Float) → length (kept n grounded y) ≡ n
unfolding kept
length_kept n grounded y = length_tab n _

pub length_shares : (n : ℕ) (grounded diag r : List Float) → length (shares n grounded diag r) ≡ n
unfolding shares
length_shares n grounded diag r = length_tab n _

pub length_along : (n : ℕ) (y : List Float) (a : Float) (x : List Float) → length (along n y a x) ≡ n
unfolding along
length_along n y a x = length_tab n _

pub length_back : (n : ℕ) (y : List Float) (a : Float) (x : List Float) → length (back n y a x) ≡ n
unfolding back
length_back n y a x = length_tab n _

pub length_less : (n : ℕ) (b y : List Float) → length (less n b y) ≡ n
unfolding less
length_less n b y = length_tab n _

-- ---- grounds that are buses have a one
abbrev Marked : ℕ → List ℕ → ℕ → List Float → Type 0
Marked n grounds i y = (length y ≡ n) × ((k : ℕ) → k < i → at y (get_or grounds k 0) ≡ one)

mark_turn : (n : ℕ) (grounds : List ℕ) → ((k : ℕ) → k < length grounds → get_or grounds k 0 < n)
    → (i : ℕ) (y : List Float) → i < length grounds → Marked n grounds i y → Marked n grounds (suc i) (ground grounds i y)
mark_turn n grounds below i y l m = (simp length-set m.0, λ k h. at_k k h (ℕ_discrete (get_or grounds k 0) (get_or grounds i 0)))
  where
    here : get_or grounds i 0 < length y
    here = let b = below i l in let e = m.0 in omega arith

    at_k : (k : ℕ) → k < suc i → Dec (get_or grounds k 0 ≡ get_or grounds i 0) → at (ground grounds i y) (get_or grounds k 0) ≡ one
    at_k k h (yes e) = ap (λ (j : ℕ). at (ground grounds i y) j) e ∙ get_or-set_same y (get_or grounds i 0) one nan here
    at_k k h (no ne) =
        get_or-set_other y (get_or grounds i 0) (get_or grounds k 0) one nan ne
        ∙ ⊎_elim (λ e. absurd (ne (ap (λ (j : ℕ). get_or grounds j 0) e))) (λ lt. m.1 k lt) (eq-or-lt_of_le (le_of_suc-le-suc h))

pub grounded_one : (n : ℕ) (grounds : List ℕ) → ((k : ℕ) → k < length grounds → get_or grounds k 0 < n)
    → (k : ℕ) → k < length grounds → at (grounded_of n grounds) (get_or grounds k 0) ≡ one
unfolding grounded_of
grounded_one n grounds below k h =
    (iter_carries (ground grounds) (Marked n grounds) (length grounds) (mark_turn n grounds below) (length grounds) 0 (zeros n) (omega arith)
    (length_zeros n, λ j b. absurd (omega arith))).1 k h

-- ---- where the mark is one, what is kept, applied or preconditioned is zero
kept_one : (v : Float) → kept_at one v ≡ nought
unfolding ne of_bits
kept_one v = refl

share_one : (c r : Float) → share_at one c r ≡ nought
unfolding ne of_bits
share_one c r = refl

module _ (n : ℕ) (grounded : List Float) (g : ℕ) (h : g < n) (m : at grounded g ≡ one) where
  pub kept_ground : (y : List Float) → at (kept n grounded y) g ≡ nought
  unfolding kept
  kept_ground y = get_tab n _ g nan h ∙ ap (λ (v : Float). kept_at v (at y g)) m ∙ kept_one (at y g)

pub precondition_ground : (N : Network) (g : ℕ) → g < N.n → at N.grounded g ≡ one → (r : List Float) → at (precondition N r) g ≡ nought
unfolding shares
precondition_ground N g h m r =
    get_tab N.n _ g nan h ∙ ap (λ (v : Float). share_at v (at N.diag g) (at r g)) m ∙ share_one (at N.diag g) (at r g)
