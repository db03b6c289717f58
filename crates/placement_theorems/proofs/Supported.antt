-- What placing is for: in the end every loaded bus that a source reaches has a source within 100 km.
-- Placing ends because none lies far, and not because its turns are spent: a bus that joins is no source yet, since a source is at no distance.
use mathlib.Core.Path.{◌≡◌, refl, sym, ap, ◌∙◌, subst}
use mathlib.Core.Bool.{Bool, true, false, cond, ◌&&◌}
use mathlib.Core.List.{List}
use mathlib.Core.Logic.{◌⊎◌, inl, inr, ⊎_elim}
use Prim.Native.Nat.{ℕ, zero, suc, ◌+◌, ◌<◌, ◌≤◌}
use native.Mathlib.Decide.{ℕ_discrete}
use native.Mathlib.Omega.{arith}
use borrow.Author.Tests.{ltb-true, ltb-false, lt-ltb, le-ltb}
use lib.Dec.{T, ltb}
use lib.ListN.{length, get_or, set, replicate, length-set, length-replicate}
use lib.Ieee.{Float, lt, le}
use Rattle.loops.specs.Bounds.{most_buses}
use Rattle.loops.specs.Loops.{iter}
use Rattle.loops.proofs.Bools as bools
use Rattle.loops.proofs.Bools.{and_of, unequal}
use Rattle.loops.proofs.Loops.{iter_still}
use Rattle.loops.specs.Figures.{at, nought, infinity}
use Rattle.placement_defs.specs.Request.{Request, Net}
use Rattle.placement_defs.specs.Distance.{Network, distances}
use Rattle.placement_defs.specs.Support.{support_km, farther, farthest_to, if_far, next_by, next_of, Sites, sites, join, join_next, joined, flagged, network_of, sites_by, placement}
use Rattle.refusal.specs.Reply.{answered}
use Rattle.placement.proofs.Accepted.{accepted}
use Rattle.placement.proofs.Sites.{flagged_length}
use Rattle.placement_defs.specs.Chain.{Source}
use Rattle.placement_theorems.specs.Support.{Supported, Achieved}
use Rattle.loops.proofs.Order.{le_of_lt}
use Rattle.loops.proofs.Sums.{unsigned, le_refl, le_trans, le_of_not_less, le_not_lt, nought_least}
use Rattle.placement.proofs.Chains.{nought_unsigned, limit_unsigned, infinity_unsigned, chain_unsigned}
use Rattle.placement.proofs.Best.{Best, first_best, next_best}
use Rattle.placement.proofs.Count.{left, left_most, left_settled, all_settled}
use Rattle.placement.proofs.Settled.{sign_at}
use Rattle.placement.proofs.Nearest.{ends, nearest_distances}

-- no loaded bus that is reached lies far
abbrev NoneFar : Network → List Float → List ℕ → Type 0
NoneFar w loads sources =
    (j : ℕ) → j < w.n → lt nought (at loads j) ≡ true → lt (at (distances w sources).dist j) infinity ≡ true → lt support_km (at (distances w sources).dist j) ≡ false

-- ---- the farthest loaded bus
module _ (n : ℕ) (loads dist : List Float) (signs : (j : ℕ) → j < n → T (unsigned (at dist j))) where
  abbrev Loaded : ℕ → Bool
  Loaded j = lt nought (at loads j) && lt (at dist j) infinity

  abbrev Farther : ℕ → ℕ → Type 0
  Farther b j = le (at dist j) (at dist b) ≡ true

  own : (i : ℕ) → i < n → Loaded i ≡ true → Farther i i
  own i h m = le_refl (at dist i) (signs i h)

  wins : (i b j : ℕ) → i < n → b < n → j < n → Loaded i ≡ true → Loaded b ≡ true → Loaded j ≡ true → lt (at dist b) (at dist i) ≡ true → Farther b j → Farther i j
  wins i b j hi hb hj mi mb mj e r = le_trans (at dist j) (at dist b) (at dist i) (signs j hj) (signs b hb) (signs i hi) r (le_of_lt (at dist b) (at dist i) e)

  loses : (i b : ℕ) → i < n → b < n → Loaded i ≡ true → Loaded b ≡ true → lt (at dist b) (at dist i) ≡ false → Farther b i
  loses i b hi hb mi mb e = le_of_not_less (at dist b) (at dist i) (signs b hb) (signs i hi) e

  farthest_best : (i : ℕ) → i ≤ n → Best n Loaded Farther i (farthest_to n loads dist i)
  unfolding farthest_to farther
  farthest_best zero h = first_best n Loaded Farther (λ i b. lt (at dist b) (at dist i)) own wins loses
  farthest_best (suc i) h =
      next_best n Loaded Farther (λ i b. lt (at dist b) (at dist i)) own wins loses i (farthest_to n loads dist i) (omega arith) (farthest_best i (omega arith))

  -- it lies far, or no loaded bus does
  far_or_none : (b : ℕ) → Best n Loaded Farther n b
      → ((if_far n dist b < n) × (lt support_km (at dist (if_far n dist b)) ≡ true)) ⊎ ((n ≤ if_far n dist b) × ((j : ℕ) → j < n → Loaded j ≡ true → lt support_km (at dist j) ≡ false))
  unfolding if_far
  far_or_none b r = go (ltb b n) (lt support_km (at dist b)) refl refl
    where
      same : (b n : ℕ) → b ≤ n → n ≤ b → b ≡ n
      same b n p q = omega arith

      self : (n : ℕ) → n ≤ n
      self n = omega arith

      go : (x y : Bool) → ltb b n ≡ x → lt support_km (at dist b) ≡ y
          → ((cond (x && y) b n < n) × (lt support_km (at dist (cond (x && y) b n)) ≡ true)) ⊎ ((n ≤ cond (x && y) b n) × ((j : ℕ) → j < n → Loaded j ≡ true → lt support_km (at dist j) ≡ false))
      go true true p q = inl (ltb-true b n p, q)
      go true false p q =
          let h = ltb-true b n p in
          let k = r.some h in
          inr (
            self n,
            λ j hj m.
                le_not_lt (at dist j) support_km (signs j hj) limit_unsigned
                (le_trans (at dist j) (at dist b) support_km (signs j hj) (signs b h) limit_unsigned (k.1 j hj m) (le_of_not_less support_km (at dist b) limit_unsigned (signs b h) q)),
          )
      go false y p q = inr (self n, λ j hj m. absurd (r.none (same b n r.within (ltb-false b n p)) j hj m))

module _ (w : Network) (net : Net w.n w.m w.a w.b w.km) (loads : List Float) where
  sign_dist : (sources : List ℕ) (j : ℕ) → j < w.n → T (unsigned (at (distances w sources).dist j))
  sign_dist sources j h = (sign_at w net sources (distances w sources) (ends w net sources).0.kept j h).0

  -- a source is not far
  source_near : (sources : List ℕ) (j : ℕ) → j < w.n → Source sources j → lt support_km (at (distances w sources).dist j) ≡ false
  source_near sources j h q =
      let d = at (distances w sources).dist j in
      let g = sign_dist sources j h in
      le_not_lt d support_km g limit_unsigned
      (le_trans d nought support_km g nought_unsigned limit_unsigned ((ends w net sources).0.kept.seeds j h q) (nought_least support_km limit_unsigned))

  -- the next bus is far and no source, or there is none and all is supported
  next_step : (sources : List ℕ) → ((next_of w loads sources < w.n) × (get_or sources (next_of w loads sources) 0 ≡ 0)) ⊎ ((w.n ≤ next_of w loads sources) × NoneFar w loads sources)
  unfolding next_of next_by
  next_step sources =
      let dist = (distances w sources).dist in
      let signs : (j : ℕ) → j < w.n → T (unsigned (at dist j)) = sign_dist sources in
      ⊎_elim (λ p. inl (p.0, no_source (if_far w.n dist (farthest_to w.n loads dist w.n)) p.0 p.1))
      (λ p. inr (p.0, λ j h l f. p.1 j h (and_of l f)))
      (far_or_none w.n loads dist signs (farthest_to w.n loads dist w.n) (farthest_best w.n loads dist signs w.n self))
    where
      self : w.n ≤ w.n
      self = omega arith

      no_source : (i : ℕ) → i < w.n → lt support_km (at (distances w sources).dist i) ≡ true → get_or sources i 0 ≡ 0
      no_source i h f =
          elim (ℕ_discrete (get_or sources i 0) 0) [
            | yes e ↦ e
            | no e ↦ absurd (let a : lt support_km (at (distances w sources).dist i) ≡ false = source_near sources i h e in unequal cc)
          ]

  -- ---- all turns
  module _ (k : ℕ) (s : Sites) where
    -- a bus joins, so one less is no source
    joins : next_of w loads s.sources < w.n → (join_next w loads k s).sources ≡ set s.sources (next_of w loads s.sources) 1
    unfolding join_next join
    joins h = ap (λ (b : Bool). (cond b (sites (set s.sources (next_of w loads s.sources) 1) (set s.buses s.count (next_of w loads s.sources)) (s.count + 1)) s).sources) (lt-ltb (next_of w loads s.sources) w.n h)

    stays : w.n ≤ next_of w loads s.sources → join_next w loads k s ≡ s
    unfolding join_next join
    stays h = ap (λ (b : Bool). cond b (sites (set s.sources (next_of w loads s.sources) 1) (set s.buses s.count (next_of w loads s.sources)) (s.count + 1)) s) (le-ltb (next_of w loads s.sources) w.n h)

    fewer : (d : ℕ) → length s.sources ≡ most_buses → left 1 s.sources w.n ≤ suc d → (next_of w loads s.sources < w.n) × (get_or s.sources (next_of w loads s.sources) 0 ≡ 0)
        → (length (join_next w loads k s).sources ≡ most_buses) × (left 1 (join_next w loads k s).sources w.n ≤ d)
    fewer d l h p =
        let i = next_of w loads s.sources in
        let f = net.few in
        let hi = p.0 in
        let e = joins hi in
        let q : left 1 (set s.sources i 1) w.n + 1 ≡ left 1 s.sources w.n = left_settled 1 s.sources w.n i hi (omega arith) (λ z. differ p.1 z) in
        let t : left 1 (set s.sources i 1) w.n ≤ d = omega arith in
        (ap length e ∙ length-set s.sources i 1 ∙ l, subst (λ (x : List ℕ). left 1 x w.n ≤ d) (sym e) t)
      where
        differ : {x : ℕ} → x ≡ 0 → x ≡ 1 → ⊥
        differ p q = omega arith

  pub all_joined : (d k : ℕ) (s : Sites) → length s.sources ≡ most_buses → left 1 s.sources w.n ≤ d → NoneFar w loads (iter (join_next w loads) d k s).sources
  unfolding iter
  all_joined zero k s l h = (λ j hj a b. source_near s.sources j hj (λ z. clash (all_settled 1 s.sources w.n (none (left 1 s.sources w.n) h) j hj) z))
    where
      none : (x : ℕ) → x ≤ 0 → x ≡ 0
      none x p = omega arith

      clash : {x : ℕ} → x ≡ 1 → x ≡ 0 → ⊥
      clash p q = omega arith
  all_joined (suc d) k s l h =
      ⊎_elim (λ p. let m = fewer k s d l h p in all_joined d (suc k) (join_next w loads k s) m.0 m.1)
      (λ p. stopped p.1 (ap (λ (t : Sites). iter (join_next w loads) d (suc k) t) (stays k s p.0) ∙ iter_still (join_next w loads) s (λ e. stays e s p.0) d (suc k)))
      (next_step s.sources)
    where
      stopped : NoneFar w loads s.sources → iter (join_next w loads) d (suc k) (join_next w loads k s) ≡ s → NoneFar w loads (iter (join_next w loads) d (suc k) (join_next w loads k s)).sources
      stopped p q = subst (λ (t : Sites). NoneFar w loads t.sources) (sym q) p

  pub joined_near : (s : Sites) → length s.sources ≡ most_buses → NoneFar w loads (joined w loads s).sources
  unfolding joined
  joined_near s l = all_joined w.n 0 s l (left_most 1 s.sources w.n)

-- ---- in terms of chains: a bus's distance is at most the chain's length, so finite, so the length of a chain itself, and that is not far
none_far_supported : (w : Network) → Net w.n w.m w.a w.b w.km → (loads : List Float) (sources : List ℕ) → NoneFar w loads sources → Supported w loads sources
none_far_supported w net loads sources none j h l source km chain finite =
    let near = nearest_distances w net sources in
    let d = at (distances w sources).dist j in
    let g = (sign_at w net sources (distances w sources) (ends w net sources).0.kept j h).0 in
    let reached : lt d infinity ≡ true = below (lt d infinity) d g (near.least source j km chain) refl in
    record {
      source = get_or (distances w sources).from j 0;
      km = d;
      chain = near.attained j h reached;
      short = le_of_not_less support_km d limit_unsigned g (none j h l reached);
    }
  where
    below : (b : Bool) (d : Float) → T (unsigned d) → le d km ≡ true → lt d infinity ≡ b → b ≡ true
    below true d g p e = refl
    below false d g p e =
        let i = infinity_unsigned.0 in
        let k = (chain_unsigned w net chain).0 in
        absurd (bools.no (le_not_lt infinity km i k (le_trans infinity d km i g k (le_of_not_less d infinity g i e) p)) finite)

-- Of every request that is answered.
pub placing : (k : Request) (buses : List ℕ) (mvars : List Float) (count : ℕ) → (placement k buses mvars).reply ≡ answered count → Achieved k
unfolding sites_by
placing k buses mvars count e =
    let p = accepted k buses mvars count e in
    let s₀ = sites (flagged k.generators (replicate most_buses 0)) (replicate k.n 0) 0 in
    record {
      distances_nearest = nearest_distances (network_of k) p.net (joined (network_of k) k.loads s₀).sources;
      loads_supported = none_far_supported (network_of k) p.net k.loads (joined (network_of k) k.loads s₀).sources
          (joined_near (network_of k) p.net k.loads s₀ (flagged_length k.generators (replicate most_buses 0) (length-replicate {A = ℕ} most_buses 0)));
    }
