-- The turns of placing and of sizing, and the whole answer, from what the code's callees promise.
-- Each law carries equations of the callees into the definition.
use mathlib.Core.Path.{◌≡◌, sym, ap, ◌∙◌}
use mathlib.Core.List.{List}
use Prim.Native.Nat.{ℕ, ◌+◌, ◌<◌, ◌≤◌}
use native.Mathlib.Decide.{ℕ_discrete}
use native.Mathlib.Omega.{arith}
use borrow.Author.Tests.{lt-ltb, le-ltb}
use lib.ListN.{length, get_or, set, replicate, length-set}
use lib.Seq.{get_or-set_same, get_or-set_other}
use lib.Ieee.{Float}
use Rattle.loops.specs.Bounds.{most_buses}
use Rattle.loops.specs.Loops.{iter}
use Rattle.loops.proofs.Loops.{iter_keeps}
use Rattle.loops.specs.Figures.{nought}
use Rattle.placement_defs.specs.Request.{Request, check_of}
use Rattle.placement_defs.specs.Distance.{Labels, blank, Network, distances, distances_from}
use Rattle.placement_defs.specs.Support.{next_of, Sites, sites, join, join_next, joined, size_at, sized, flag, flagged, sites_by, placed, Outcome, outcome, network_of, answer_to, placement}
use Rattle.placement.specs.Stages.{Joined, Placing}
use Rattle.placement.proofs.Turns.{blank_start}
use Rattle.refusal.specs.declared.Refusal.{Refusal}
use Rattle.std.specs.Prelude.{Err, Ok, Result}
use Rattle.refusal.specs.Reply.{no_refusal}

-- ---- a condenser joins
module _ (w : Network) (loads : List Float) (s : Sites) (i : ℕ) where
  pub join_idle : i ≡ next_of w loads s.sources → w.n ≤ i → (k : ℕ) → join_next w loads k s ≡ s
  unfolding join_next join
  join_idle e h k = rw (← e, le-ltb i w.n h)

  pub join_busy : (k : ℕ) → i ≡ next_of w loads s.sources → i < w.n
      → sites (set s.sources i 1) (set s.buses s.count i) (s.count + 1) ≡ join_next w loads k s
  unfolding join_next join
  join_busy k e h = rw (← e, lt-ltb i w.n h)

pub all_joined : (w : Network) (loads : List Float) (sources₀ buses₀ sources buses : List ℕ) (count : ℕ) → count ≤ w.n
    → sites sources buses count ≡ iter (join_next w loads) w.n 0 (sites sources₀ buses₀ 0) → Joined w loads sources₀ buses₀ sources buses count
unfolding joined
all_joined w loads sources₀ buses₀ sources buses count h e = record { all = e; few = h }

-- each at a bus
pub stand_more : (n count i : ℕ) (buses : List ℕ) → count < length buses → i < n → ((k : ℕ) → k < count → get_or buses k 0 < n) → (k : ℕ) → k < count + 1 → get_or (set buses count i) k 0 < n
stand_more n count i buses h b stand k l =
    elim (ℕ_discrete k count) [
      | yes e ↦ let q = ap (λ (t : ℕ). get_or (set buses count i) t 0) e ∙ get_or-set_same buses count i 0 h in omega arith
      | no d ↦ let q = get_or-set_other buses count k i 0 d in let s = stand k (omega arith) in omega arith
    ]

-- ---- the condensers are sized
pub sized_none : (w : Network) (loads : List Float) (sources buses : List ℕ) (count : ℕ) (mvars : List Float) → count ≡ 0 → mvars ≡ sized w loads sources buses count mvars
unfolding sized iter
sized_none w loads sources buses count mvars e = rw e

pub sized_is : (w : Network) (loads : List Float) (sources buses : List ℕ) (s₀ s : Labels) (count : ℕ) (mvars₀ mvars : List Float) → s₀ ≡ blank → s ≡ distances_from w sources s₀
    → mvars ≡ iter (size_at loads s.from w.n buses) count 0 mvars₀ → mvars ≡ sized w loads sources buses count mvars₀
unfolding sized
sized_is w loads sources buses s₀ s count mvars₀ mvars e q f =
    let d : s.from ≡ (distances w sources).from = ap (λ (u : Labels). u.from) (blank_start w sources s₀ s e q) in
    f ∙ ap (λ (l : List ℕ). iter (size_at loads l w.n buses) count 0 mvars₀) d

-- ---- the whole
pub placed_is : (w : Network) (loads : List Float) (generators : List ℕ) (buses₀ buses₁ buses₂ sources₁ sources₂ : List ℕ) (mvars₀ mvars₁ mvars₂ : List Float) (count : ℕ)
    → length buses₀ ≡ w.n → length mvars₀ ≡ w.n → buses₁ ≡ replicate (length buses₀) 0 → mvars₁ ≡ replicate (length mvars₀) nought
    → sources₁ ≡ flagged generators (replicate most_buses 0) → Joined w loads sources₁ buses₁ sources₂ buses₂ count
    → mvars₂ ≡ sized w loads sources₂ buses₂ count mvars₁ → Placing w loads generators count buses₂ mvars₂
unfolding placed sites_by
placed_is w loads generators buses₀ buses₁ buses₂ sources₁ sources₂ mvars₀ mvars₁ mvars₂ count p q e f g j z =
    let e' : buses₁ ≡ replicate w.n 0 = e ∙ ap (λ (t : ℕ). replicate t 0) p in
    let f' : mvars₁ ≡ replicate w.n nought = f ∙ ap (λ (t : ℕ). replicate t nought) q in
    let s : sites sources₂ buses₂ count ≡ joined w loads (sites (flagged generators (replicate most_buses 0)) (replicate w.n 0) 0) =
    j.all ∙ ap (λ (t : List ℕ). joined w loads (sites t buses₁ 0)) g ∙ ap (λ (t : List ℕ). joined w loads (sites (flagged generators (replicate most_buses 0)) t 0)) e' in
    ap (λ (t : List Float). outcome (Ok count) buses₂ t) (z ∙ ap (λ (t : List Float). sized w loads sources₂ buses₂ count t) f')
    ∙ ap (λ (t : Sites). outcome (Ok t.count) t.buses (sized w loads t.sources t.buses t.count (replicate w.n nought))) s

pub flagged_length : (generators l : List ℕ) → length l ≡ most_buses → length (flagged generators l) ≡ most_buses
unfolding flagged
flagged_length generators l h = iter_keeps (flag generators) (λ t. length t ≡ most_buses) (λ i t p. length-set t (get_or generators i 0) 1 ∙ p) (length generators) 0 l h

-- ---- the answer, from the verdict
module _ (k : Request) (buses : List ℕ) (mvars : List Float) (v : Result (Unit {0}) Refusal) (e : v ≡ check_of k (length buses) (length mvars)) where
  pub refused_is : (f : Refusal) → v ≡ Err f → outcome (Err f) buses mvars ≡ placement k buses mvars
  unfolding placement answer_to
  refused_is f q = ap (λ (t : Result (Unit {0}) Refusal). answer_to t k buses mvars) (sym q ∙ e)

  pub done_is : (o : Outcome) → v ≡ no_refusal → o ≡ placed (network_of k) k.loads k.generators → o ≡ placement k buses mvars
  unfolding placement answer_to
  done_is o q p = p ∙ ap (λ (t : Result (Unit {0}) Refusal). answer_to t k buses mvars) (sym q ∙ e)
