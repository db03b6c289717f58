-- When a bus joins the sources, the search that goes on from the last distances ends with the distances of a search from all sources, and so the
-- same bus is the next to have a condenser.
-- Both ends are ready, so that both are the least lengths of the same chains; the choice only compares distances.
use mathlib.Core.Path.{◌≡◌, refl, sym, ap, ◌∙◌, subst}
use mathlib.Core.Bool.{Bool, true, false, cond, ◌&&◌, ◌||◌}
use mathlib.Core.List.{List}
use mathlib.Core.Logic.{inl, inr, ⊎_elim}
use Prim.Native.Nat.{ℕ, zero, suc, ◌<◌, ◌≤◌}
use native.Mathlib.Decide.{ℕ_discrete}
use native.Mathlib.Omega.{arith}
use borrow.Author.Tests.{eqb-false, ltb-true}
use lib.Dec.{T, eqb, ltb}
use lib.ListN.{length, get_or, set, replicate, length-replicate, get_or-replicate, length-set}
use lib.Seq.{get_or-set_same, get_or-set_other}
use lib.Ieee.{Float, lt, le}
use Rattle.loops.specs.Bounds.{most_buses}
use Rattle.loops.specs.Figures.{at, plus, nought, infinity}
use Rattle.loops.proofs.Sums.{unsigned, plus_unsigned, nought_least, infinity_above, le_refl, lt_alike}
use Rattle.placement_defs.specs.Request.{Net}
use Rattle.placement_defs.specs.Distance.{Network, Labels, labels, rest, settled, reached, seeded, searched, distances, distances_from, blank}
use Rattle.placement_defs.specs.Support.{support_km, farther, farthest_to, if_far, next_by, next_of}
use Rattle.placement_defs.specs.Chain.{Chain, here, along, Source}
use Rattle.placement.proofs.Chains.{chain_as, nought_unsigned, infinity_unsigned, limit_unsigned, length_at}
use Rattle.placement.proofs.Choice.{farthest_within}
use Rattle.placement.proofs.Turns.{blank_start}
use Rattle.placement.proofs.Count.{left_most}
use Rattle.placement.proofs.Settled.{M, D, F, not_both, Changed, reached_changes, Kept, Stand, sign_at}
use Rattle.placement.proofs.Settling.{Ready, all_turns}
use Rattle.placement.proofs.Nearest.{ends, nearest}

differ : {x : ℕ} → x ≡ rest → x ≡ settled → ⊥
differ p q = omega arith

one : {x : ℕ} → x ≡ 1 → x ≡ 0 → ⊥
one p q = omega arith

-- ---- the search goes on
module _ (w : Network) (net : Net w.n w.m w.a w.b w.km) (sources : List ℕ) (long : length sources ≡ most_buses) (i : ℕ) (hi : i < w.n)
    (s : Labels) (r : Ready w sources s) where
  abbrev more : List ℕ
  more = set sources i 1

  -- a source is one still, and so are its chains
  source_still : (j : ℕ) → Source sources j → Source more j
  source_still j q e =
      elim (ℕ_discrete j i) [
        | yes p ↦ one (get_or-set_same sources i 1 0 (let f = net.few in omega arith)) (ap (λ (t : ℕ). get_or more t 0) (sym p) ∙ e)
        | no p ↦ q (sym (get_or-set_other sources i j 1 0 p) ∙ e)
      ]

  chain_still : {src j : ℕ} {d : Float} → Chain w sources src j d → Chain w more src j d
  chain_still (here j h q) = here j h (source_still j q)
  chain_still (along src i j c d k h q) = along src i j c d (chain_still k) h q

  abbrev start : Labels
  start = labels (replicate most_buses rest) s.dist s.from

  change : Changed start (reached i nought i start) i nought i
  change =
      let f = net.few in
      let k = r.0.kept in
      let l1 = k.dists in
      let l2 = k.froms in
      let l3 : length (replicate most_buses rest) ≡ most_buses = length-replicate most_buses rest in
      reached_changes start i nought i (omega arith) (omega arith) (omega arith)

  resting : (j : ℕ) → j < w.n → (j ≡ i → ⊥) → M (reached i nought i start) j ≡ rest
  resting j h n = let f = net.few in change.mark_else j n ∙ get_or-replicate most_buses j rest 0 (omega arith)

  dist_i : (j : ℕ) → j ≡ i → D (reached i nought i start) j ≡ nought
  dist_i j e = ap (λ (t : ℕ). D (reached i nought i start) t) e ∙ change.dist_here

  none_done : (j : ℕ) → j < w.n → M (reached i nought i start) j ≡ settled → ⊥
  none_done j h d =
      elim (ℕ_discrete j i) [
        | yes e ↦ not_both (ap (λ (t : ℕ). M (reached i nought i start) t) e ∙ change.mark_here) d
        | no e ↦ differ (resting j h e) d
      ]

  start_kept : Kept w more (reached i nought i start)
  start_kept =
      record {
        marks = change.marks ∙ length-replicate most_buses rest;
        dists = change.dists ∙ r.0.kept.dists;
        froms = change.froms ∙ r.0.kept.froms;
        known = λ j h.
            elim (ℕ_discrete j i) [
              | yes e ↦ inr (chain_as i (F (reached i nought i start) j) i j nought (D (reached i nought i start) j)
                  (ap (λ (t : ℕ). F (reached i nought i start) t) e ∙ change.from_here) e (dist_i j e)
                  (here i hi (λ z. one (get_or-set_same sources i 1 0 (let f = net.few in omega arith)) z)))
              | no e ↦ ⊎_elim (λ z. inl (change.dist_else j e ∙ z))
                  (λ p. inr (chain_as (F s j) (F (reached i nought i start) j) j j (D s j) (D (reached i nought i start) j) (change.from_else j e) refl (change.dist_else j e) (chain_still p)))
                  (r.0.kept.known j h)
            ];
        seeds = λ j h q.
            elim (ℕ_discrete j i) [
              | yes e ↦ ap (λ (x : Float). le x nought) (dist_i j e) ∙ le_refl nought nought_unsigned
              | no e ↦ ap (λ (x : Float). le x nought) (change.dist_else j e) ∙ r.0.kept.seeds j h (λ z. q (get_or-set_other sources i j 1 0 e ∙ z))
            ];
        order = λ k j hk hj d m. absurd (none_done k hk d);
      }

  start_stand : Stand w more (reached i nought i start)
  start_stand =
      record {
        kept = start_kept;
        relaxed = λ k j c hk hj hc n jo.
            let nk : k ≡ i → ⊥ = λ e. n (ap (λ (t : ℕ). M (reached i nought i start) t) e ∙ change.mark_here) in
            let g = plus_unsigned (D s k) (at w.km c) (sign_at w net sources s r.0.kept k hk).0 (length_at w net c hc) in
            let ek : (x : Float) → le x (plus (D (reached i nought i start) k) (at w.km c)) ≡ le x (plus (D s k) (at w.km c)) =
            λ x. ap (λ (y : Float). le x (plus y (at w.km c))) (change.dist_else k nk) in
            ek (D (reached i nought i start) j)
            ∙ elim (ℕ_discrete j i) [
              | yes e ↦ ap (λ (x : Float). le x (plus (D s k) (at w.km c))) (dist_i j e) ∙ nought_least (plus (D s k) (at w.km c)) g
              | no e ↦ ap (λ (x : Float). le x (plus (D s k) (at w.km c))) (change.dist_else j e) ∙ r.0.relaxed k j c hk hj hc (r.1 k hk) jo
            ];
      }

  pub ready_with_lem : Ready w more (searched w (seeded i 1 start))
  unfolding searched seeded
  ready_with_lem = all_turns w net more w.n 0 (reached i nought i start) start_stand (left_most settled (reached i nought i start).mark w.n)

-- ---- two searches that are at their end agree
abbrev LeastBoth : Float → Float → Type 0
LeastBoth x y = (le x y ≡ true) × (le y x ≡ true)

abbrev Unsigned : ℕ → List Float → Type 0
Unsigned n dist = (j : ℕ) → j < n → T (unsigned (at dist j))

module _ (w : Network) (net : Net w.n w.m w.a w.b w.km) (sources : List ℕ) where
  at_most : (s t : Labels) → Ready w sources s → Ready w sources t → (j : ℕ) → j < w.n → le (D s j) (D t j) ≡ true
  at_most s t p q j h =
      ⊎_elim (λ e. ap (λ (x : Float). le (D s j) x) e ∙ infinity_above (D s j) (sign_at w net sources s p.0.kept j h).0)
      (λ k. (nearest w net sources s p).least (F t j) j (D t j) k) (q.0.kept.known j h)

-- ---- the choice compares distances
module _ (n : ℕ) (loads d d' : List Float) (g : Unsigned n d) (g' : Unsigned n d') (same : (j : ℕ) → j < n → LeastBoth (at d j) (at d' j)) where
  reached_same : (j : ℕ) → j < n → lt (at d j) infinity ≡ lt (at d' j) infinity
  reached_same j h = let i = infinity_unsigned.0 in lt_alike (at d j) (at d' j) infinity infinity (g j h) (g' j h) i i (same j h) (le_refl infinity i, le_refl infinity i)

  less_same : (i j : ℕ) → i < n → j < n → lt (at d i) (at d j) ≡ lt (at d' i) (at d' j)
  less_same i j hi hj = lt_alike (at d i) (at d' i) (at d j) (at d' j) (g i hi) (g' i hi) (g j hj) (g' j hj) (same i hi) (same j hj)

  far_same : (j : ℕ) → j < n → lt support_km (at d j) ≡ lt support_km (at d' j)
  far_same j h = let i = limit_unsigned in lt_alike support_km support_km (at d j) (at d' j) i i (g j h) (g' j h) (le_refl support_km i, le_refl support_km i) (same j h)

  farther_same : (best i : ℕ) → best ≤ n → i < n → farther n loads d best i ≡ farther n loads d' best i
  unfolding farther
  farther_same best i k h =
      ap (λ (x : Bool). cond (lt nought (at loads i) && x && (eqb best n || lt (at d best) (at d i))) i best) (reached_same i h)
      ∙ ap (λ (x : Bool). cond (lt nought (at loads i) && lt (at d' i) infinity && x) i best) (closer (eqb best n) refl)
    where
      below : (best ≡ n → ⊥) → best < n
      below e = omega arith

      closer : (b : Bool) → eqb best n ≡ b → (b || lt (at d best) (at d i)) ≡ (b || lt (at d' best) (at d' i))
      closer true e = refl
      closer false e = less_same best i (below (eqb-false best n e)) h

  farthest_same : (i : ℕ) → i ≤ n → farthest_to n loads d i ≡ farthest_to n loads d' i
  unfolding farthest_to
  farthest_same zero h = refl
  farthest_same (suc i) h =
      farther_same (farthest_to n loads d i) i (farthest_within n loads d i (omega arith)) (omega arith)
      ∙ ap (λ (t : ℕ). farther n loads d' t i) (farthest_same i (omega arith))

  if_far_same : (i : ℕ) → if_far n d i ≡ if_far n d' i
  unfolding if_far
  if_far_same i = ap (λ (x : Bool). cond x i n) (go (ltb i n) refl)
    where
      go : (b : Bool) → ltb i n ≡ b → (b && lt support_km (at d i)) ≡ (b && lt support_km (at d' i))
      go true e = far_same i (ltb-true i n e)
      go false e = refl

  next_same : next_by n loads d ≡ next_by n loads d'
  unfolding next_by
  next_same = if_far_same (farthest_to n loads d n) ∙ ap (λ (t : ℕ). if_far n d' t) (farthest_same n (omega arith))

-- ---- so the next bus is that of the definition
pub next_ready : (w : Network) (net : Net w.n w.m w.a w.b w.km) (loads : List Float) (sources : List ℕ) (s : Labels) → Ready w sources s
    → next_by w.n loads s.dist ≡ next_of w loads sources
unfolding next_of
next_ready w net loads sources s r =
    let t = distances w sources in
    let q = ends w net sources in
    next_same w.n loads s.dist t.dist (λ j h. (sign_at w net sources s r.0.kept j h).0) (λ j h. (sign_at w net sources t q.0.kept j h).0)
    (λ j h. (at_most w net sources s t r q j h, at_most w net sources t s q r j h))

-- ---- what the code knows of its distances: they are those at the end of some search from the sources
pub record Known (w : Network) (sources : List ℕ) (dist : List Float) (from : List ℕ) : Type 0 where
  pub long : length sources ≡ most_buses
  pub mark : List ℕ
  pub ready : Ready w sources (labels mark dist from)

module _ (w : Network) (net : Net w.n w.m w.a w.b w.km) (sources : List ℕ) (mark : List ℕ) (dist : List Float) (from : List ℕ) where
  pub known_first : (s₀ : Labels) → length sources ≡ most_buses → s₀ ≡ blank → labels mark dist from ≡ distances_from w sources s₀ → Known w sources dist from
  known_first s₀ long e q =
      record { long = long; mark = mark; ready = subst (λ (s : Labels). Ready w sources s) (sym (blank_start w sources s₀ (labels mark dist from) e q)) (ends w net sources) }

  pub known_next : (i : ℕ) (dist₀ : List Float) (from₀ : List ℕ) → i < w.n → Known w sources dist₀ from₀
      → labels mark dist from ≡ searched w (seeded i 1 (labels (replicate most_buses rest) dist₀ from₀)) → Known w (set sources i 1) dist from
  known_next i dist₀ from₀ h k e =
      record {
        long = length-set sources i 1 ∙ k.long;
        mark = mark;
        ready = subst (λ (s : Labels). Ready w (set sources i 1) s) (sym e) (ready_with_lem w net sources k.long i h (labels k.mark dist₀ from₀) k.ready);
      }

pub known_choice : (w : Network) → Net w.n w.m w.a w.b w.km → (sources : List ℕ) (dist : List Float) (from : List ℕ) (loads : List Float) (i : ℕ)
    → Known w sources dist from → i ≡ next_by w.n loads dist → i ≡ next_of w loads sources
known_choice w net sources dist from loads i k e = e ∙ next_ready w net loads sources (labels k.mark dist from) k.ready
