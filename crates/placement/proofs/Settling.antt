-- A turn of the search: the least candidate is settled, and its corridors are considered; after n turns no candidate is left.
-- Each turn keeps what proofs/Settled states, and settles a bus for good, so that fewer are left.
use mathlib.Core.Path.{◌≡◌, refl, sym, ap, ◌∙◌, subst}
use mathlib.Core.Bool.{Bool, true, false, not, cond, ◌&&◌, ◌||◌}
use mathlib.Core.List.{List}
use mathlib.Core.Logic.{◌⊎◌, inl, inr, ⊎_elim}
use Prim.Native.Nat.{ℕ, zero, suc, ◌+◌, ◌<◌, ◌≤◌}
use native.Mathlib.Decide.{ℕ_discrete}
use native.Mathlib.Nat.{zero-add}
use native.Mathlib.Omega.{arith}
use borrow.Author.Tests.{eqb-true, eqb-false, eq-eqb, ne_eqb, ltb-true, ltb-false, not-true}
use lib.Dec.{T, eqb, ltb}
use lib.ListN.{length, get_or, set, length-set}
use lib.Seq.{get_or-set_same, get_or-set_other}
use lib.Ieee.{Float, lt, le}
use Rattle.loops.specs.Loops.{iter}
use Rattle.loops.proofs.Loops.{iter_carries, iter_still}
use Rattle.loops.specs.Figures.{at, plus}
use Rattle.placement_defs.specs.Request.{Net}
use Rattle.placement_defs.specs.Distance.{Network, Labels, candidate, settled, shortens, reached, offered, far_end, considered, corridor, nearer, nearest_to, settle, spread, turn}
use Rattle.placement.proofs.Tests.{net_ends}
use Rattle.placement_defs.specs.Chain.{Joins}
use Rattle.loops.proofs.Bools.{both, unequal}
use Rattle.loops.proofs.Order.{le_of_lt}
use Rattle.loops.proofs.Sums.{unsigned, plus_unsigned, plus_grows, le_refl, le_trans, le_of_not_less}
use Rattle.placement.proofs.Chains.{length_at, far_bus}
use Rattle.placement.proofs.Best.{Best, first_best, next_best}
use Rattle.placement.proofs.Count.{left, left_reached, left_settled, all_settled}
use Rattle.placement.proofs.Settled.{M, D, F, not_both, reached_changes, Kept, Relaxed, Stand, SettledWithin, sign_at, advance, reach_step}

-- ---- the tests of step 1
touches : (a b i : ℕ) → (eqb a i || eqb b i) ≡ true → ((a ≡ i) × (b ≡ far_end a b i)) ⊎ ((a ≡ far_end a b i) × (b ≡ i))
touches a b i h = go (eqb a i) (eqb b i) refl refl h
  where
    go : (x y : Bool) → eqb a i ≡ x → eqb b i ≡ y → (x || y) ≡ true → ((a ≡ i) × (b ≡ far_end a b i)) ⊎ ((a ≡ far_end a b i) × (b ≡ i))
    go true y p q r = inl (eqb-true a i p, sym (ap (λ (t : Bool). cond t b a) p))
    go false true p q r = inr (sym (ap (λ (t : Bool). cond t b a) p), eqb-true b i q)
    go false false p q r = absurd (unequal cc)

only_end : (a b i j : ℕ) → (a ≡ b → ⊥) → ((a ≡ i) × (b ≡ j)) ⊎ ((a ≡ j) × (b ≡ i)) → j ≡ far_end a b i
only_end a b i j n h =
    ⊎_elim (λ p. sym p.1 ∙ sym (ap (λ (t : Bool). cond t b a) (eq-eqb a i p.0)))
    (λ p. sym p.0 ∙ sym (ap (λ (t : Bool). cond t b a) (ne_eqb a i (λ q. n (q ∙ sym p.1))))) h

misses : (a b i j : ℕ) → (eqb a i || eqb b i) ≡ false → ((a ≡ i) × (b ≡ j)) ⊎ ((a ≡ j) × (b ≡ i)) → ⊥
misses a b i j h k = go (eqb a i) (eqb b i) refl refl h
  where
    go : (x y : Bool) → eqb a i ≡ x → eqb b i ≡ y → (x || y) ≡ false → ⊥
    go true y p q r = unequal cc
    go false true p q r = unequal cc
    go false false p q r = ⊎_elim (λ u. eqb-false a i p u.0) (λ u. eqb-false b i q u.1) k

shorter : (m : ℕ) (nd d : Float) → shortens m nd d ≡ true → (m ≡ settled → ⊥) × (lt nd d ≡ true)
shorter m nd d h = let p = both (not (eqb m settled)) (lt nd d) h in (eqb-false m settled (not-true (eqb m settled) p.0), p.1)

not_shorter : (m : ℕ) (nd d : Float) → shortens m nd d ≡ false → (m ≡ settled) ⊎ (lt nd d ≡ false)
not_shorter m nd d h = go (eqb m settled) (lt nd d) refl refl h
  where
    go : (x y : Bool) → eqb m settled ≡ x → lt nd d ≡ y → (not x && y) ≡ false → (m ≡ settled) ⊎ (lt nd d ≡ false)
    go true y p q e = inl (eqb-true m settled p)
    go false y p q e = inr (q ∙ e)

-- ---- the least candidate
module _ (n : ℕ) (mark : List ℕ) (dist : List Float) (signs : (j : ℕ) → j < n → get_or mark j 0 ≡ candidate → T (unsigned (at dist j))) where
  abbrev Closer : ℕ → ℕ → Type 0
  Closer b j = le (at dist b) (at dist j) ≡ true

  abbrev Nearest : ℕ → ℕ → Type 0
  Nearest i best = Best n (λ j. eqb (get_or mark j 0) candidate) Closer i best

  ok : (j : ℕ) → j < n → eqb (get_or mark j 0) candidate ≡ true → T (unsigned (at dist j))
  ok j h m = signs j h (eqb-true (get_or mark j 0) candidate m)

  own : (i : ℕ) → i < n → eqb (get_or mark i 0) candidate ≡ true → Closer i i
  own i h m = le_refl (at dist i) (ok i h m)

  wins : (i b j : ℕ) → i < n → b < n → j < n → eqb (get_or mark i 0) candidate ≡ true → eqb (get_or mark b 0) candidate ≡ true → eqb (get_or mark j 0) candidate ≡ true
      → lt (at dist i) (at dist b) ≡ true → Closer b j → Closer i j
  wins i b j hi hb hj mi mb mj e r = le_trans (at dist i) (at dist b) (at dist j) (ok i hi mi) (ok b hb mb) (ok j hj mj) (le_of_lt (at dist i) (at dist b) e) r

  loses : (i b : ℕ) → i < n → b < n → eqb (get_or mark i 0) candidate ≡ true → eqb (get_or mark b 0) candidate ≡ true → lt (at dist i) (at dist b) ≡ false → Closer b i
  loses i b hi hb mi mb e = le_of_not_less (at dist i) (at dist b) (ok i hi mi) (ok b hb mb) e

  pub nearest_best : (i : ℕ) → i ≤ n → Nearest i (nearest_to n mark dist i)
  unfolding nearest_to nearer
  nearest_best zero h = first_best n (λ j. eqb (get_or mark j 0) candidate) Closer (λ i b. lt (at dist i) (at dist b)) own wins loses
  nearest_best (suc i) h =
      next_best n (λ j. eqb (get_or mark j 0) candidate) Closer (λ i b. lt (at dist i) (at dist b)) own wins loses i (nearest_to n mark dist i) (omega arith) (nearest_best i (omega arith))

-- ---- a search that is at its end
abbrev pub NoneLeft : Network → Labels → Type 0
NoneLeft w s = (j : ℕ) → j < w.n → M s j ≡ candidate → ⊥

abbrev pub Ready : Network → List ℕ → Labels → Type 0
Ready w sources s = Stand w sources s × NoneLeft w s

module _ (w : Network) (net : Net w.n w.m w.a w.b w.km) (sources : List ℕ) where
  -- ---- a corridor considered
  -- what the considering of corridor c from i keeps: the invariant, and how many buses are left
  abbrev Goes : ℕ → ℕ → Labels → ℕ → Type 0
  Goes i c s k = SettledWithin w sources i c s × (left settled s.mark w.n ≡ k)

  module _ (i c : ℕ) (s : Labels) (k : ℕ) (hi : i < w.n) (hc : c < w.m) (g : Goes i c s k) where
    -- a corridor that does not end at i
    off : (eqb (get_or w.a c 0) i || eqb (get_or w.b c 0) i) ≡ false → Goes i (suc c) s k
    off t = (advance w net sources i c s g.0 (λ j h jo. absurd (misses (get_or w.a c 0) (get_or w.b c 0) i j t jo)), g.1)

    module _ (t : (eqb (get_or w.a c 0) i || eqb (get_or w.b c 0) i) ≡ true) where
      -- one whose other end is at hand already
      rejected : shortens (M s (far_end (get_or w.a c 0) (get_or w.b c 0) i)) (plus (D s i) (at w.km c)) (D s (far_end (get_or w.a c 0) (get_or w.b c 0) i)) ≡ false → Goes i (suc c) s k
      rejected u =
          let j₀ = far_end (get_or w.a c 0) (get_or w.b c 0) i in
          let nd = plus (D s i) (at w.km c) in
          let e = net_ends net c hc in
          let jo : Joins w c i j₀ = touches (get_or w.a c 0) (get_or w.b c 0) i t in
          let hj = far_bus w net c i j₀ hc jo in
          let b = g.0 in
          let n = not_shorter (M s j₀) nd (D s j₀) u in
          let gi = sign_at w net sources s b.kept i hi in
          let gj = (sign_at w net sources s b.kept j₀ hj).0 in
          let l = length_at w net c hc in
          let gn = plus_unsigned (D s i) (at w.km c) gi.0 l in
          let at_most : le (D s j₀) nd ≡ true =
          ⊎_elim (λ m. le_trans (D s j₀) (D s i) nd gj gi.0 gn (b.last j₀ hj m) (plus_grows (D s i) (at w.km c) gi.0 gi.1 l)) (λ m. le_of_not_less nd (D s j₀) gn gj m) n in
          (advance w net sources i c s b (λ j h q. subst (λ (x : ℕ). Relaxed w s i c x) (sym (only_end (get_or w.a c 0) (get_or w.b c 0) i j e.two q)) at_most), g.1)

      -- one over which it is reached
      taken : shortens (M s (far_end (get_or w.a c 0) (get_or w.b c 0) i)) (plus (D s i) (at w.km c)) (D s (far_end (get_or w.a c 0) (get_or w.b c 0) i)) ≡ true
          → Goes i (suc c) (reached (far_end (get_or w.a c 0) (get_or w.b c 0) i) (plus (D s i) (at w.km c)) (F s i) s) k
      taken u =
          let j₀ = far_end (get_or w.a c 0) (get_or w.b c 0) i in
          let nd = plus (D s i) (at w.km c) in
          let e = net_ends net c hc in
          let jo : Joins w c i j₀ = touches (get_or w.a c 0) (get_or w.b c 0) i t in
          let hj = far_bus w net c i j₀ hc jo in
          let b = g.0 in
          let f = net.few in
          let l1 = b.kept.marks in
          let l2 = b.kept.dists in
          let l3 = b.kept.froms in
          let h1 : j₀ < length s.mark = omega arith in
          let why = shorter (M s j₀) nd (D s j₀) u in (
            reach_step w net sources i c j₀ s (reached j₀ nd (F s i) s) hi hc jo (λ j q. only_end (get_or w.a c 0) (get_or w.b c 0) i j e.two q)
                (reached_changes s j₀ nd (F s i) h1 (omega arith) (omega arith)) why.0 why.1 b,
            left_reached settled candidate s.mark w.n j₀ (λ z. omega arith) h1 why.0 ∙ g.1,
          )

    pub corridor_step : Goes i (suc c) (corridor w i c s) k
    unfolding considered offered
    corridor_step = touch (eqb (get_or w.a c 0) i || eqb (get_or w.b c 0) i) refl
      where
        short : (t : (eqb (get_or w.a c 0) i || eqb (get_or w.b c 0) i) ≡ true) (y : Bool)
            → shortens (M s (far_end (get_or w.a c 0) (get_or w.b c 0) i)) (plus (D s i) (at w.km c)) (D s (far_end (get_or w.a c 0) (get_or w.b c 0) i)) ≡ y
            → Goes i (suc c) (cond y (reached (far_end (get_or w.a c 0) (get_or w.b c 0) i) (plus (D s i) (at w.km c)) (F s i) s) s) k
        short t true u = taken t u
        short t false u = rejected t u

        touch : (x : Bool) → (eqb (get_or w.a c 0) i || eqb (get_or w.b c 0) i) ≡ x
            → Goes i (suc c) (cond x (cond (shortens (M s (far_end (get_or w.a c 0) (get_or w.b c 0) i)) (plus (D s i) (at w.km c)) (D s (far_end (get_or w.a c 0) (get_or w.b c 0) i)))
            (reached (far_end (get_or w.a c 0) (get_or w.b c 0) i) (plus (D s i) (at w.km c)) (F s i) s) s) s) k
        touch true t = short t (shortens (M s (far_end (get_or w.a c 0) (get_or w.b c 0) i)) (plus (D s i) (at w.km c)) (D s (far_end (get_or w.a c 0) (get_or w.b c 0) i))) refl
        touch false t = off t

  -- ---- the least candidate is settled
  module _ (i : ℕ) (s : Labels) (hi : i < w.n) (st : Stand w sources s) (mi : M s i ≡ candidate)
      (least : (j : ℕ) → j < w.n → M s j ≡ candidate → le (D s i) (D s j) ≡ true) where
    bound : i < length s.mark
    bound = let l = st.kept.marks in let f = net.few in omega arith

    mark_i : get_or (set s.mark i settled) i 0 ≡ settled
    mark_i = get_or-set_same s.mark i settled 0 bound

    mark_else : (j : ℕ) → (j ≡ i → ⊥) → get_or (set s.mark i settled) j 0 ≡ M s j
    mark_else j n = get_or-set_other s.mark i j settled 0 n

    mark_at : (j : ℕ) → j ≡ i → get_or (set s.mark i settled) j 0 ≡ settled
    mark_at j e = ap (λ (t : ℕ). get_or (set s.mark i settled) t 0) e ∙ mark_i

    open_was : (j : ℕ) → get_or (set s.mark i settled) j 0 ≡ candidate → M s j ≡ candidate
    open_was j m = elim (ℕ_discrete j i) [ yes e ↦ absurd (not_both m (mark_at j e)) | no e ↦ sym (mark_else j e) ∙ m ]

    settled_kept : Kept w sources (settle i s)
    unfolding settle
    settled_kept =
        record {
          marks = length-set s.mark i settled ∙ st.kept.marks;
          dists = st.kept.dists;
          froms = st.kept.froms;
          known = st.kept.known;
          seeds = st.kept.seeds;
          order = λ k j hk hj d m.
              elim (ℕ_discrete k i) [
                | yes e ↦ subst (λ (t : ℕ). le (D s t) (D s j) ≡ true) (sym e) (least j hj (open_was j m))
                | no e ↦ st.kept.order k j hk hj (sym (mark_else k e) ∙ d) (open_was j m)
              ];
        }

    pub settle_step : SettledWithin w sources i 0 (settle i s)
    unfolding settle
    settle_step =
        record {
          kept = settled_kept;
          done = mark_i;
          last = λ k hk d.
              elim (ℕ_discrete k i) [
                | yes e ↦ subst (λ (t : ℕ). le (D s t) (D s i) ≡ true) (sym e) (le_refl (D s i) (sign_at w net sources s st.kept i hi).0)
                | no e ↦ st.kept.order k i hk hi (sym (mark_else k e) ∙ d) mi
              ];
          relaxed = λ k j e hk hj he n jo below.
              elim (ℕ_discrete k i) [
                | yes p ↦ absurd (let l : e < 0 = below p in omega arith)
                | no p ↦ st.relaxed k j e hk hj he (λ z. n (mark_else k p ∙ z)) jo
              ];
        }

    settled_left : left settled (settle i s).mark w.n + 1 ≡ left settled s.mark w.n
    unfolding settle
    settled_left = left_settled settled s.mark w.n i hi bound (λ z. not_both mi z)

    pub spread_step : Stand w sources (spread w i s) × (left settled (spread w i s).mark w.n + 1 ≡ left settled s.mark w.n)
    unfolding spread
    spread_step =
        let k = left settled (settle i s).mark w.n in
        let g = iter_carries (corridor w i) (λ c t. Goes i c t k) w.m (λ c t h p. corridor_step i c t k hi h p) w.m 0 (settle i s) (zero-add w.m) (settle_step, refl) in (
          record { kept = g.0.kept; relaxed = λ k j c hk hj hc d jo. g.0.relaxed k j c hk hj hc d jo (λ z. hc) },
          ap (λ (t : ℕ). t + 1) g.1 ∙ settled_left,
        )

  -- ---- a turn
  abbrev Went : Labels → Labels → Type 0
  Went s t = (Stand w sources t × (left settled t.mark w.n + 1 ≡ left settled s.mark w.n)) ⊎ ((t ≡ s) × NoneLeft w s)

  -- it settles a bus, or finds no candidate and changes nothing
  pub turn_step : (k : ℕ) (s : Labels) → Stand w sources s → Went s (turn w k s)
  unfolding turn
  turn_step k s st =
      let signs : (j : ℕ) → j < w.n → M s j ≡ candidate → T (unsigned (D s j)) = λ j h m. (sign_at w net sources s st.kept j h).0 in
      go (nearest_to w.n s.mark s.dist w.n) (nearest_best w.n s.mark s.dist signs w.n same) (ltb (nearest_to w.n s.mark s.dist w.n) w.n) refl
    where
      same : w.n ≤ w.n
      same = omega arith

      equal : (i : ℕ) → i ≤ w.n → w.n ≤ i → i ≡ w.n
      equal i p q = omega arith

      go : (i : ℕ) → Best w.n (λ j. eqb (M s j) candidate) (λ b j. le (D s b) (D s j) ≡ true) w.n i → (b : Bool) → ltb i w.n ≡ b → Went s (cond b (spread w i s) s)
      go i best true e = let h = ltb-true i w.n e in inl (spread_step i s h st (eqb-true (M s i) candidate (best.some h).0) (λ j hj m. (best.some h).1 j hj (eq-eqb (M s j) candidate m)))
      go i best false e = inr (refl, λ j hj m. best.none (equal i best.within (ltb-false i w.n e)) j hj (eq-eqb (M s j) candidate m))

  -- ---- all turns: no candidate is left
  pub all_turns : (d k : ℕ) (s : Labels) → Stand w sources s → left settled s.mark w.n ≤ d
      → Ready w sources (iter (turn w) d k s)
  unfolding iter
  all_turns zero k s st h = (st, λ j hj m. not_both m (all_settled settled s.mark w.n (least (left settled s.mark w.n) h) j hj))
    where
      least : (x : ℕ) → x ≤ 0 → x ≡ 0
      least x p = omega arith
  all_turns (suc d) k s st h =
      ⊎_elim (λ p. all_turns d (suc k) (turn w k s) p.0 (less (left settled (turn w k s).mark w.n) (left settled s.mark w.n) p.1 h))
      (λ p. idle p (iter_still (turn w) s (λ e. always e p) d (suc k)))
      (turn_step k s st)
    where
      less : (x y : ℕ) → x + 1 ≡ y → y ≤ suc d → x ≤ d
      less x y p q = omega arith

      always : (e : ℕ) → (turn w k s ≡ s) × NoneLeft w s → turn w e s ≡ s
      always e p = same_turn e k ∙ p.0
        where
          same_turn : (e k : ℕ) → turn w e s ≡ turn w k s
          same_turn e k = unfold turn in refl

      idle : (turn w k s ≡ s) × NoneLeft w s → iter (turn w) d (suc k) s ≡ s → Ready w sources (iter (turn w) d (suc k) (turn w k s))
      idle p q =
          let r : iter (turn w) d (suc k) (turn w k s) ≡ s = ap (λ (t : Labels). iter (turn w) d (suc k) t) p.0 ∙ q in
          subst (λ (t : Labels). Ready w sources t) (sym r) (st, p.1)
