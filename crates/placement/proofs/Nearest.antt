-- The theorem: the distances are the least lengths of chains, and each finite one is the length of a chain from the bus's own source.
-- By the length of the chain: where no candidate is left, no bus lies farther than over a corridor from another, and sums are monotone.
use mathlib.Core.Path.{◌≡◌, refl, sym, ap, ◌∙◌}
use mathlib.Core.Bool.{Bool, true, false, cond}
use mathlib.Core.List.{List}
use mathlib.Core.Logic.{inl, inr, ⊎_elim}
use Prim.Native.Nat.{ℕ, suc, ◌<◌, ◌≤◌}
use native.Mathlib.Decide.{ℕ_discrete}
use native.Mathlib.Nat.{zero-add}
use native.Mathlib.Omega.{arith}
use borrow.Author.Tests.{eqb-true, eqb-false}
use lib.Dec.{eqb}
use lib.ListN.{length, get_or, replicate, length-replicate, get_or-replicate}
use lib.Ieee.{Float, nan, lt, le}
use Rattle.loops.specs.Bounds.{most_buses}
use Rattle.loops.specs.Loops.{iter}
use Rattle.loops.proofs.Loops.{iter_carries}
use Rattle.loops.specs.Figures.{at, plus, nought, infinity}
use Rattle.placement_defs.specs.Request.{Net}
use Rattle.placement_defs.specs.Distance.{Network, Labels, rest, candidate, settled, nobody, blank, seeded, seed, reached, searched, distances_from, distances}
use Rattle.placement_defs.specs.Chain.{Chain, here, along, Source, Nearest}
use Rattle.loops.proofs.Sums.{plus_unsigned, plus_mono, plus_infinity, infinity_most, infinity_above, le_refl, le_trans}
use Rattle.loops.proofs.Bools as bools
use Rattle.placement.proofs.Best.{split}
use Rattle.placement.proofs.Chains.{chain_as, chain_unsigned, nought_unsigned, length_at, far_bus}
use Rattle.placement.proofs.Count.{left_most}
use Rattle.placement.proofs.Settled.{M, D, F, not_both, Changed, reached_changes, Kept, Relaxed, Stand, sign_at}
use Rattle.placement.proofs.Settling.{Ready, all_turns}

apart : {j i : ℕ} → suc i ≤ j → j ≡ i → ⊥
apart h e = omega arith

two≢zero : {x : ℕ} → x ≡ settled → x ≡ rest → ⊥
two≢zero p q = omega arith

module _ (w : Network) (net : Net w.n w.m w.a w.b w.km) (sources : List ℕ) where
  -- ---- the sources below i are placed
  pub record Seeds (i : ℕ) (s : Labels) : Type 0 where
    pub marks : length s.mark ≡ most_buses
    pub dists : length s.dist ≡ most_buses
    pub froms : length s.from ≡ most_buses
    pub placed : (j : ℕ) → j < w.n → j < i → Source sources j → (M s j ≡ candidate) × (D s j ≡ nought) × (F s j ≡ j)
    pub later : (j : ℕ) → j < w.n → i ≤ j → (M s j ≡ rest) × (D s j ≡ infinity)
    pub others : (j : ℕ) → j < w.n → get_or sources j 0 ≡ 0 → (M s j ≡ rest) × (D s j ≡ infinity)

  blank_seeds : Seeds 0 blank
  blank_seeds =
      record {
        marks = length-replicate most_buses rest;
        dists = length-replicate most_buses infinity;
        froms = length-replicate most_buses nobody;
        placed = λ j h l q. absurd (omega arith);
        later = λ j h l. is_blank j h;
        others = λ j h q. is_blank j h;
      }
    where
      is_blank : (j : ℕ) → j < w.n → (get_or (replicate most_buses rest) j 0 ≡ rest) × (at (replicate most_buses infinity) j ≡ infinity)
      is_blank j h = let f = net.few in let l : j < most_buses = omega arith in (get_or-replicate most_buses j rest 0 l, get_or-replicate most_buses j infinity nan l)

  seed_step : (i : ℕ) (s : Labels) → i < w.n → Seeds i s → Seeds (suc i) (seed sources i s)
  unfolding seeded
  seed_step i s hi b = go (eqb (get_or sources i 0) 0) refl
    where
      change : Changed s (reached i nought i s) i nought i
      change =
          let f = net.few in
          let l1 = b.marks in
          let l2 = b.dists in
          let l3 = b.froms in
          reached_changes s i nought i (omega arith) (omega arith) (omega arith)

      go : (x : Bool) → eqb (get_or sources i 0) 0 ≡ x → Seeds (suc i) (cond x s (reached i nought i s))
      go true e =
          record {
            marks = b.marks;
            dists = b.dists;
            froms = b.froms;
            placed = λ j h l q. elim (ℕ_discrete j i) [ yes p ↦ absurd (q (ap (λ (t : ℕ). get_or sources t 0) p ∙ eqb-true (get_or sources i 0) 0 e)) | no p ↦ b.placed j h (split l p) q ];
            later = λ j h l. b.later j h (omega arith);
            others = b.others;
          }
      go false e =
          record {
            marks = change.marks ∙ b.marks;
            dists = change.dists ∙ b.dists;
            froms = change.froms ∙ b.froms;
            placed = λ j h l q.
                elim (ℕ_discrete j i) [
                  | yes p ↦ (ap (λ (t : ℕ). M (reached i nought i s) t) p ∙ change.mark_here, ap (λ (t : ℕ). D (reached i nought i s) t) p ∙ change.dist_here, ap (λ (t : ℕ). F (reached i nought i s) t) p ∙ change.from_here ∙ sym p)
                  | no p ↦ let o = b.placed j h (split l p) q in (change.mark_else j p ∙ o.0, change.dist_else j p ∙ o.1, change.from_else j p ∙ o.2)
                ];
            later = λ j h l. let o = b.later j h (omega arith) in (change.mark_else j (apart l) ∙ o.0, change.dist_else j (apart l) ∙ o.1);
            others = λ j h q.
                elim (ℕ_discrete j i) [
                  | yes p ↦ absurd (eqb-false (get_or sources i 0) 0 e (ap (λ (t : ℕ). get_or sources t 0) (sym p) ∙ q))
                  | no p ↦ let o = b.others j h q in (change.mark_else j p ∙ o.0, change.dist_else j p ∙ o.1)
                ];
          }

  -- ---- so the search begins as it goes on
  pub begun : (s : Labels) → Seeds w.n s → Stand w sources s
  begun s b = record { kept = kept; relaxed = λ k j c hk hj hc n jo. relaxed k j c hk hj hc n }
    where
      none_done : (i : ℕ) → i < w.n → M s i ≡ settled → ⊥
      none_done i h d = elim (ℕ_discrete (get_or sources i 0) 0) [ yes q ↦ two≢zero d (b.others i h q).0 | no q ↦ not_both (b.placed i h h q).0 d ]

      kept : Kept w sources s
      kept =
          record {
            marks = b.marks;
            dists = b.dists;
            froms = b.froms;
            known = λ j h.
                elim (ℕ_discrete (get_or sources j 0) 0) [
                  | yes q ↦ inl (b.others j h q).1
                  | no q ↦ let o = b.placed j h h q in inr (chain_as j (F s j) j j nought (D s j) o.2 refl o.1 (here j h q))
                ];
            seeds = λ j h q. ap (λ (x : Float). le x nought) (b.placed j h h q).1 ∙ le_refl nought nought_unsigned;
            order = λ i j hi hj d m. absurd (none_done i hi d);
          }

      relaxed : (k j c : ℕ) → k < w.n → j < w.n → c < w.m → (M s k ≡ candidate → ⊥) → Relaxed w s k c j
      relaxed k j c hk hj hc n =
          elim (ℕ_discrete (get_or sources k 0) 0) [
            | yes q ↦ ap (λ (x : Float). le (D s j) (plus x (at w.km c))) (b.others k hk q).1
                ∙ ap (λ (x : Float). le (D s j) x) (plus_infinity (at w.km c) (length_at w net c hc))
                ∙ infinity_above (D s j) (sign_at w net sources s kept j hj).0
            | no q ↦ absurd (n (b.placed k hk hk q).0)
          ]

  -- ---- and ends with no candidate
  pub ends : Ready w sources (distances w sources)
  unfolding distances_from searched
  ends =
      let s₀ = iter (seed sources) w.n 0 blank in
      let b = iter_carries (seed sources) (λ i s. Seeds i s) w.n seed_step w.n 0 blank (zero-add w.n) blank_seeds in
      all_turns w net sources w.n 0 s₀ (begun s₀ b) (left_most settled s₀.mark w.n)

  -- ---- no chain is shorter
  module _ (s : Labels) (r : Ready w sources s) where
    shortest : {src j : ℕ} {d : Float} → Chain w sources src j d → (j < w.n) × (le (D s j) d ≡ true)
    shortest (here j h q) = (h, r.0.kept.seeds j h q)
    shortest (along src i j c d k hc jo) =
        let o = shortest k in
        let hj = far_bus w net c i j hc jo in
        let l = length_at w net c hc in
        let gi = (sign_at w net sources s r.0.kept i o.0).0 in
        let gd = (chain_unsigned w net k).0 in (
          hj,
          le_trans (D s j) (plus (D s i) (at w.km c)) (plus d (at w.km c)) (sign_at w net sources s r.0.kept j hj).0
              (plus_unsigned (D s i) (at w.km c) gi l) (plus_unsigned d (at w.km c) gd l)
              (r.0.relaxed i j c o.0 hj hc (r.1 i o.0) jo) (plus_mono (D s i) d (at w.km c) gi gd l o.1),
        )

    pub nearest : Nearest w sources s
    nearest =
        record {
          least = λ src j d k. (shortest k).1;
          attained = λ j h f. ⊎_elim (λ e. absurd (bools.no (ap (λ (x : Float). lt x infinity) e ∙ infinity_most infinity) f)) (λ p. p) (r.0.kept.known j h);
        }

-- The distances of a network that passes the checks, from any sources.
pub nearest_distances : (w : Network) → Net w.n w.m w.a w.b w.km → (sources : List ℕ) → Nearest w sources (distances w sources)
nearest_distances w net sources = nearest w net sources (distances w sources) (ends w net sources)
