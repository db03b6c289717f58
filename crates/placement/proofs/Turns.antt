-- A turn of Dijkstra's method with the candidate that the code found, and the whole search.
-- By the definitions.
use mathlib.Core.Path.{◌≡◌, ap, ◌∙◌}
use Prim.Native.Nat.{ℕ, ◌<◌, ◌≤◌}
use mathlib.Core.List.{List}
use Rattle.loops.specs.Loops.{iter}
use borrow.Author.Tests.{lt-ltb, le-ltb}
use Rattle.placement_defs.specs.Distance.{Labels, Network, blank, distances, seed, nearest_to, spread, turn, searched, distances_from}

module _ (w : Network) (s : Labels) (i : ℕ) where
  pub turn_idle : i ≡ nearest_to w.n s.mark s.dist w.n → w.n ≤ i → (k : ℕ) → turn w k s ≡ s
  unfolding turn
  turn_idle e h k = rw (← e, le-ltb i w.n h)

  pub turn_busy : (t : Labels) (k : ℕ) → i ≡ nearest_to w.n s.mark s.dist w.n → i < w.n → t ≡ spread w i s → t ≡ turn w k s
  unfolding turn
  turn_busy t k e h q = rw (← e, lt-ltb i w.n h) q

pub turns_done : (w : Network) (s t : Labels) → t ≡ iter (turn w) w.n 0 s → t ≡ searched w s
unfolding searched
turns_done w s t e = e

pub searched_from : (w : Network) (s t x : Labels) → t ≡ s → x ≡ searched w t → x ≡ searched w s
searched_from w s t x e q = q ∙ ap (λ (u : Labels). searched w u) e

pub distances_from_lem : (w : Network) (sources : List ℕ) (s t x : Labels) → t ≡ iter (seed sources) w.n 0 s → x ≡ searched w t → x ≡ distances_from w sources s
unfolding distances_from
distances_from_lem w sources s t x e q = searched_from w (iter (seed sources) w.n 0 s) t x e q

-- the labels that the code begins with are blank
pub blank_start : (w : Network) (sources : List ℕ) (s₀ s : Labels) → s₀ ≡ blank → s ≡ distances_from w sources s₀ → s ≡ distances w sources
blank_start w sources s₀ s e q = q ∙ ap (λ (u : Labels). distances_from w sources u) e
