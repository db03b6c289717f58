-- Dijkstra's set C: a bus that no branch has reached yet has an infinite distance, from the start and through every step of the search (`far_within`).
-- So the one test of step 1 is the paper's (`step_one`): a branch to a bus of C always brings it into B, one to a bus of B only where it is shorter, one to A never.
-- A distance changes only together with its mark, which then is no longer `rest`.
use Prim.Native.Nat.{ℕ, zero, suc, ◌<◌}
use mathlib.Core.Bool.{Bool, true, false, cond, ◌||◌}
use mathlib.Core.List.{List}
use mathlib.Core.Path.{◌≡◌, refl, sym, ap, ◌∙◌}
use native.Mathlib.Decide.{ℕ_discrete}
use native.Mathlib.Omega.{arith}
use lib.Dec.{eqb, ltb}
use lib.Ieee.{Float, nan, lt}
use lib.ListN.{length, get_or, set, replicate, length-set, length-replicate}
use lib.Seq.{get_or-set_same, get_or-set_other}
use Rattle.loops.specs.Figures.{at, plus, nought, infinity}
use Rattle.loops.specs.Loops.{iter}
use Rattle.loops.proofs.Loops.{iter_keeps}
use Rattle.placement_defs.specs.Request.{most_buses}
use Rattle.placement_defs.specs.Distance.{Network, Labels, labels, rest, candidate, settled, blank, seeded, seed, shortens, reached, offered, far_end, considered, corridor, nearest_to, settle, spread, turn}

-- every bus of C is infinitely far
pub Far : Labels → Type 0
Far s = (j : ℕ) → j < length s.mark → get_or s.mark j 0 ≡ rest → at s.dist j ≡ infinity

-- a mark set to another than `rest`, with whatever distance
far_set : (mark : List ℕ) (dist dist' : List Float) (k v : ℕ) → (v ≡ rest → ⊥) → ((j : ℕ) → (j ≡ k → ⊥) → at dist' j ≡ at dist j)
    → ((j : ℕ) → j < length mark → get_or mark j 0 ≡ rest → at dist j ≡ infinity)
    → (j : ℕ) → j < length (set mark k v) → get_or (set mark k v) j 0 ≡ rest → at dist' j ≡ infinity
far_set mark dist dist' k v n same far j h e = go (ℕ_discrete j k)
  where
    go : Dec (j ≡ k) → at dist' j ≡ infinity
    go (yes q) =
        let l : k < length mark = omega (arith, length-set mark k v) in
        absurd (n (sym (get_or-set_same mark k v 0 l) ∙ ap (λ (i : ℕ). get_or (set mark k v) i 0) (sym q) ∙ e))
    go (no m) = same j m ∙ far j (omega (arith, length-set mark k v)) (sym (get_or-set_other mark k j v 0 m) ∙ e)

reached_far : (j : ℕ) (nd : Float) (src : ℕ) (s : Labels) → Far s → Far (reached j nd src s)
unfolding Far
reached_far j nd src s f = far_set s.mark s.dist (set s.dist j nd) j candidate (λ e. omega arith) (λ i m. get_or-set_other s.dist j i nd nan m) f

settle_far : (i : ℕ) (s : Labels) → Far s → Far (settle i s)
unfolding Far settle
settle_far i s f = far_set s.mark s.dist s.dist i settled (λ e. omega arith) (λ j m. refl) f

-- ---- from the start
blank_far : Far blank
unfolding Far
blank_far j h e = go most_buses j (omega (arith, length-replicate most_buses rest))
  where
    go : (n j : ℕ) → j < n → get_or (replicate n infinity) j nan ≡ infinity
    go zero j h = absurd (omega arith)
    go (suc n) zero h = refl
    go (suc n) (suc j) h = go n j (omega arith)

seed_far : (sources : List ℕ) (i : ℕ) (s : Labels) → Far s → Far (seed sources i s)
unfolding seeded
seed_far sources i s f = go (eqb (get_or sources i 0) 0)
  where
    go : (b : Bool) → Far (cond b s (labels (set s.mark i candidate) (set s.dist i nought) (set s.from i i)))
    go true = f
    go false = reached_far i nought i s f

-- ---- through every step
offered_far : (j : ℕ) (nd : Float) (src : ℕ) (s : Labels) → Far s → Far (offered j nd src s)
unfolding offered
offered_far j nd src s f = go (shortens (get_or s.mark j 0) nd (at s.dist j))
  where
    go : (b : Bool) → Far (cond b (reached j nd src s) s)
    go true = reached_far j nd src s f
    go false = f

module _ (w : Network) (sources : List ℕ) where
  corridor_far : (i c : ℕ) (s : Labels) → Far s → Far (corridor w i c s)
  unfolding considered
  corridor_far i c s f = go (eqb (get_or w.a c 0) i || eqb (get_or w.b c 0) i)
    where
      far : Labels
      far = offered (far_end (get_or w.a c 0) (get_or w.b c 0) i) (plus (at s.dist i) (at w.km c)) (get_or s.from i 0) s

      go : (b : Bool) → Far (cond b far s)
      go true = offered_far (far_end (get_or w.a c 0) (get_or w.b c 0) i) (plus (at s.dist i) (at w.km c)) (get_or s.from i 0) s f
      go false = f

  turn_far : (k : ℕ) (s : Labels) → Far s → Far (turn w k s)
  unfolding turn spread
  turn_far k s f = go (nearest_to w.n s.mark s.dist w.n)
    where
      by : (i : ℕ) (b : Bool) → Far (cond b (iter (corridor w i) w.m 0 (settle i s)) s)
      by i true = iter_keeps (corridor w i) Far (corridor_far i) w.m 0 (settle i s) (settle_far i s f)
      by i false = f

      go : (i : ℕ) → Far (cond (ltb i w.n) (iter (corridor w i) w.m 0 (settle i s)) s)
      go i = by i (ltb i w.n)

  -- after so many turns of the search, and within the next one after so many corridors
  abbrev pub searched_for : ℕ → Labels
  searched_for d = iter (turn w) d 0 (iter (seed sources) w.n 0 blank)

  pub far_after : (d : ℕ) → Far (searched_for d)
  far_after d = iter_keeps (turn w) Far turn_far d 0 _ (iter_keeps (seed sources) Far (seed_far sources) w.n 0 blank blank_far)

  pub far_within : (d i c : ℕ) → Far (iter (corridor w i) c 0 (settle i (searched_for d)))
  far_within d i c = iter_keeps (corridor w i) Far (corridor_far i) c 0 _ (settle_far i (searched_for d) (far_after d))

-- ---- so the one test is the paper's step 1: a branch of finite length to the bus j
pub record StepOne (j : ℕ) (nd : Float) (src : ℕ) (s : Labels) : Type 0 where
  pub of_rest : get_or s.mark j 0 ≡ rest → offered j nd src s ≡ reached j nd src s
  pub of_candidates : get_or s.mark j 0 ≡ candidate → offered j nd src s ≡ cond (lt nd (at s.dist j)) (reached j nd src s) s
  pub of_settled : get_or s.mark j 0 ≡ settled → offered j nd src s ≡ s

pub step_one : (j : ℕ) (nd : Float) (src : ℕ) (s : Labels) → Far s → j < length s.mark → lt nd infinity ≡ true → StepOne j nd src s
unfolding Far offered
step_one j nd src s f h l =
    record {
      of_rest = λ e. rw (e, f j h e, l);
      of_candidates = λ e. rw e;
      of_settled = λ e. rw e;
    }
