-- What the search keeps from one corridor considered to the next: each distance is infinite or a chain's length, no candidate lies nearer than
-- a settled bus, and no bus lies farther than over a corridor from a bus that is no candidate.
-- A bus that is reached over a corridor of the bus just settled comes nearer, and not nearer than that bus, since sums grow.
use mathlib.Core.Path.{◌≡◌, refl, sym, ap, ◌∙◌, subst}
use mathlib.Core.Bool.{true}
use mathlib.Core.List.{List}
use mathlib.Core.Logic.{◌⊎◌, inl, inr, ⊎_elim}
use Prim.Native.Nat.{ℕ, suc, ◌<◌}
use native.Mathlib.Decide.{ℕ_discrete}
use native.Mathlib.Omega.{arith}
use lib.Dec.{T}
use lib.ListN.{length, get_or, length-set}
use lib.Seq.{get_or-set_same, get_or-set_other}
use lib.Ieee.{Float, nan, binary64, fits, lt, le}
use Rattle.loops.specs.Bounds.{most_buses}
use Rattle.loops.specs.Figures.{at, plus, nought, infinity}
use Rattle.loops.proofs.Bools as bools
use Rattle.loops.proofs.Order.{le_of_lt}
use Rattle.loops.proofs.Sums.{unsigned, plus_unsigned, plus_grows, plus_infinity, infinity_most, le_refl, le_trans}
use Rattle.placement_defs.specs.Request.{Net}
use Rattle.placement_defs.specs.Distance.{Network, Labels, candidate, settled, reached}
use Rattle.placement_defs.specs.Chain.{Chain, along, Joins, Source}
use Rattle.placement.proofs.Best.{split}
use Rattle.placement.proofs.Chains.{chain_as, chain_unsigned, nought_unsigned, infinity_unsigned, length_at}

abbrev pub M : Labels → ℕ → ℕ
M s j = get_or s.mark j 0

abbrev pub D : Labels → ℕ → Float
D s j = at s.dist j

abbrev pub F : Labels → ℕ → ℕ
F s j = get_or s.from j 0

pub not_both : {x : ℕ} → x ≡ candidate → x ≡ settled → ⊥
not_both p q = omega arith

-- ---- labels in which one bus is reached
pub record Changed (s t : Labels) (j₀ : ℕ) (nd : Float) (src : ℕ) : Type 0 where
  pub marks : length t.mark ≡ length s.mark
  pub dists : length t.dist ≡ length s.dist
  pub froms : length t.from ≡ length s.from
  pub mark_here : M t j₀ ≡ candidate
  pub dist_here : D t j₀ ≡ nd
  pub from_here : F t j₀ ≡ src
  pub mark_else : (j : ℕ) → (j ≡ j₀ → ⊥) → M t j ≡ M s j
  pub dist_else : (j : ℕ) → (j ≡ j₀ → ⊥) → D t j ≡ D s j
  pub from_else : (j : ℕ) → (j ≡ j₀ → ⊥) → F t j ≡ F s j

pub reached_changes : (s : Labels) (j₀ : ℕ) (nd : Float) (src : ℕ) → j₀ < length s.mark → j₀ < length s.dist → j₀ < length s.from → Changed s (reached j₀ nd src s) j₀ nd src
reached_changes s j₀ nd src h k l =
    record {
      marks = length-set s.mark j₀ candidate;
      dists = length-set s.dist j₀ nd;
      froms = length-set s.from j₀ src;
      mark_here = get_or-set_same s.mark j₀ candidate 0 h;
      dist_here = get_or-set_same s.dist j₀ nd nan k;
      from_here = get_or-set_same s.from j₀ src 0 l;
      mark_else = λ j n. get_or-set_other s.mark j₀ j candidate 0 n;
      dist_else = λ j n. get_or-set_other s.dist j₀ j nd nan n;
      from_else = λ j n. get_or-set_other s.from j₀ j src 0 n;
    }

-- bus j is no farther than over corridor c from k
abbrev pub Relaxed : Network → Labels → ℕ → ℕ → ℕ → Type 0
Relaxed w s k c j = le (D s j) (plus (D s k) (at w.km c)) ≡ true

module _ (w : Network) (sources : List ℕ) where
  -- ---- what holds throughout
  pub record Kept (s : Labels) : Type 0 where
    pub marks : length s.mark ≡ most_buses
    pub dists : length s.dist ≡ most_buses
    pub froms : length s.from ≡ most_buses
    pub known : (j : ℕ) → j < w.n → (D s j ≡ infinity) ⊎ Chain w sources (F s j) j (D s j)
    pub seeds : (j : ℕ) → j < w.n → Source sources j → le (D s j) nought ≡ true
    pub order : (i j : ℕ) → i < w.n → j < w.n → M s i ≡ settled → M s j ≡ candidate → le (D s i) (D s j) ≡ true

  -- between two turns
  pub record Stand (s : Labels) : Type 0 where
    pub kept : Kept s
    pub relaxed : (k j c : ℕ) → k < w.n → j < w.n → c < w.m → (M s k ≡ candidate → ⊥) → Joins w c k j → Relaxed w s k c j

  -- within a turn: bus i was settled last, and its corridors below c are considered
  pub record SettledWithin (i c : ℕ) (s : Labels) : Type 0 where
    pub kept : Kept s
    pub done : M s i ≡ settled
    pub last : (k : ℕ) → k < w.n → M s k ≡ settled → le (D s k) (D s i) ≡ true
    pub relaxed : (k j e : ℕ) → k < w.n → j < w.n → e < w.m → (M s k ≡ candidate → ⊥) → Joins w e k j → (k ≡ i → e < c) → Relaxed w s k e j

module _ (w : Network) (net : Net w.n w.m w.a w.b w.km) (sources : List ℕ) where
  pub sign_at : (s : Labels) → Kept w sources s → (j : ℕ) → j < w.n → T (unsigned (D s j)) × T (fits binary64 (D s j))
  sign_at s k j h =
      ⊎_elim (λ e. subst (λ (x : Float). T (unsigned x) × T (fits binary64 x)) (sym e) infinity_unsigned) (λ p. chain_unsigned w net p) (k.known j h)

  -- ---- a corridor that changes nothing
  pub advance : (i c : ℕ) (s : Labels) → SettledWithin w sources i c s → ((j : ℕ) → j < w.n → Joins w c i j → Relaxed w s i c j) → SettledWithin w sources i (suc c) s
  advance i c s b x =
      record {
        kept = b.kept;
        done = b.done;
        last = b.last;
        relaxed = λ k j e hk hj he n jo below.
            elim (ℕ_discrete k i) [
              | yes p ↦ elim (ℕ_discrete e c) [
                | yes q ↦ subst (λ (t : ℕ). Relaxed w s t e j) (sym p) (subst (λ (t : ℕ). Relaxed w s i t j) (sym q) (x j hj (subst (λ (t : ℕ). Joins w t i j) q (subst (λ (t : ℕ). Joins w e t j) p jo))))
                | no q ↦ b.relaxed k j e hk hj he n jo (λ z. split (below z) q)
              ]
              | no p ↦ b.relaxed k j e hk hj he n jo (λ z. absurd (p z))
            ];
      }

  -- ---- a corridor over which bus j₀ is reached
  module _ (i c j₀ : ℕ) (s t : Labels) (hi : i < w.n) (hc : c < w.m) (jo : Joins w c i j₀) (only : (j : ℕ) → Joins w c i j → j ≡ j₀)
      (ch : Changed s t j₀ (plus (D s i) (at w.km c)) (F s i)) (free : M s j₀ ≡ settled → ⊥) (less : lt (plus (D s i) (at w.km c)) (D s j₀) ≡ true)
      (b : SettledWithin w sources i c s) where
    i≢j₀ : i ≡ j₀ → ⊥
    i≢j₀ e = free (subst (λ (x : ℕ). M s x ≡ settled) e b.done)

    -- a bus that is no candidate now was none before, and is not j₀
    open_else : (k : ℕ) → (M t k ≡ candidate → ⊥) → k ≡ j₀ → ⊥
    open_else k n e = n (ap (λ (x : ℕ). M t x) e ∙ ch.mark_here)

    was_open : (k : ℕ) → (M t k ≡ candidate → ⊥) → M s k ≡ candidate → ⊥
    was_open k n z = n (ch.mark_else k (open_else k n) ∙ z)

    done_else : (k : ℕ) → M t k ≡ settled → k ≡ j₀ → ⊥
    done_else k d = open_else k (λ z. not_both z d)

    was_done : (k : ℕ) → M t k ≡ settled → M s k ≡ settled
    was_done k d = sym (ch.mark_else k (done_else k d)) ∙ d

    sign_i : T (unsigned (D s i)) × T (fits binary64 (D s i))
    sign_i = sign_at s b.kept i hi

    sign_nd : T (unsigned (plus (D s i) (at w.km c)))
    sign_nd = plus_unsigned (D s i) (at w.km c) sign_i.0 (length_at w net c hc)

    grows : le (D s i) (plus (D s i) (at w.km c)) ≡ true
    grows = plus_grows (D s i) (at w.km c) sign_i.0 sign_i.1 (length_at w net c hc)

    lower : (j : ℕ) → j ≡ j₀ → le (plus (D s i) (at w.km c)) (D s j) ≡ true
    lower j e = subst (λ (x : ℕ). le (plus (D s i) (at w.km c)) (D s x) ≡ true) (sym e) (le_of_lt (plus (D s i) (at w.km c)) (D s j₀) less)

    dist_at : (j : ℕ) → j ≡ j₀ → D t j ≡ plus (D s i) (at w.km c)
    dist_at j e = ap (λ (x : ℕ). D t x) e ∙ ch.dist_here

    -- nothing is reached from a bus at an infinite distance
    chain_i : Chain w sources (F s i) i (D s i)
    chain_i =
        ⊎_elim
        (λ e. absurd (bools.no (ap (λ (x : Float). lt (plus x (at w.km c)) (D s j₀)) e ∙ ap (λ (x : Float). lt x (D s j₀)) (plus_infinity (at w.km c) (length_at w net c hc)) ∙ infinity_most (D s j₀)) less))
        (λ p. p) (b.kept.known i hi)

    reach_kept : Kept w sources t
    reach_kept =
        record {
          marks = ch.marks ∙ b.kept.marks;
          dists = ch.dists ∙ b.kept.dists;
          froms = ch.froms ∙ b.kept.froms;
          known = λ j h.
              elim (ℕ_discrete j j₀) [
                | yes e ↦ inr (chain_as (F s i) (F t j) j₀ j (plus (D s i) (at w.km c)) (D t j) (ap (λ (x : ℕ). F t x) e ∙ ch.from_here) e (dist_at j e) (along (F s i) i j₀ c (D s i) chain_i hc jo))
                | no e ↦ ⊎_elim (λ z. inl (ch.dist_else j e ∙ z)) (λ p. inr (chain_as (F s j) (F t j) j j (D s j) (D t j) (ch.from_else j e) refl (ch.dist_else j e) p)) (b.kept.known j h)
              ];
          seeds = λ j h q.
              elim (ℕ_discrete j j₀) [
                | yes e ↦ ap (λ (x : Float). le x nought) (dist_at j e)
                    ∙ le_trans (plus (D s i) (at w.km c)) (D s j) nought sign_nd (sign_at s b.kept j h).0 nought_unsigned (lower j e) (b.kept.seeds j h q)
                | no e ↦ ap (λ (x : Float). le x nought) (ch.dist_else j e) ∙ b.kept.seeds j h q
              ];
          order = λ k j hk hj d m.
              let dk = was_done k d in
              let ek = ap (λ (x : Float). le x (D t j)) (ch.dist_else k (done_else k d)) in
              elim (ℕ_discrete j j₀) [
                | yes e ↦ ek ∙ ap (λ (x : Float). le (D s k) x) (dist_at j e)
                    ∙ le_trans (D s k) (D s i) (plus (D s i) (at w.km c)) (sign_at s b.kept k hk).0 sign_i.0 sign_nd (b.last k hk dk) grows
                | no e ↦ ek ∙ ap (λ (x : Float). le (D s k) x) (ch.dist_else j e) ∙ b.kept.order k j hk hj dk (sym (ch.mark_else j e) ∙ m)
              ];
        }

    -- what held of j over corridor e from k still holds
    still : (k j e : ℕ) → k < w.n → j < w.n → e < w.m → (k ≡ j₀ → ⊥) → Relaxed w s k e j → Relaxed w t k e j
    still k j e hk hj he nk r =
        let gk = plus_unsigned (D s k) (at w.km e) (sign_at s b.kept k hk).0 (length_at w net e he) in
        let ek : (x : Float) → le x (plus (D t k) (at w.km e)) ≡ le x (plus (D s k) (at w.km e)) = λ x. ap (λ (y : Float). le x (plus y (at w.km e))) (ch.dist_else k nk) in
        elim (ℕ_discrete j j₀) [
          | yes q ↦ ek (D t j) ∙ ap (λ (x : Float). le x (plus (D s k) (at w.km e))) (dist_at j q)
              ∙ le_trans (plus (D s i) (at w.km c)) (D s j) (plus (D s k) (at w.km e)) sign_nd (sign_at s b.kept j hj).0 gk (lower j q) r
          | no q ↦ ek (D t j) ∙ ap (λ (x : Float). le x (plus (D s k) (at w.km e))) (ch.dist_else j q) ∙ r
        ]

    -- j₀ is as far as over corridor c from i
    new : (j : ℕ) → j ≡ j₀ → Relaxed w t i c j
    new j q =
        ap (λ (x : Float). le x (plus (D t i) (at w.km c))) (dist_at j q)
        ∙ ap (λ (y : Float). le (plus (D s i) (at w.km c)) (plus y (at w.km c))) (ch.dist_else i i≢j₀)
        ∙ le_refl (plus (D s i) (at w.km c)) sign_nd

    pub reach_step : SettledWithin w sources i (suc c) t
    reach_step =
        record {
          kept = reach_kept;
          done = ch.mark_else i i≢j₀ ∙ b.done;
          last = λ k hk d.
              ap (λ (x : Float). le x (D t i)) (ch.dist_else k (done_else k d)) ∙ ap (λ (x : Float). le (D s k) x) (ch.dist_else i i≢j₀) ∙ b.last k hk (was_done k d);
          relaxed = λ k j e hk hj he n jn below.
              let old : (k ≡ i → e < c) → Relaxed w t k e j = λ l. still k j e hk hj he (open_else k n) (b.relaxed k j e hk hj he (was_open k n) jn l) in
              elim (ℕ_discrete k i) [
                | yes p ↦ elim (ℕ_discrete e c) [
                  | yes q ↦ subst (λ (x : ℕ). Relaxed w t x e j) (sym p) (subst (λ (x : ℕ). Relaxed w t i x j) (sym q)
                      (new j (only j (subst (λ (x : ℕ). Joins w x i j) q (subst (λ (x : ℕ). Joins w e x j) p jn)))))
                  | no q ↦ old (λ z. split (below z) q)
                ]
                | no p ↦ old (λ z. absurd (p z))
              ];
        }
