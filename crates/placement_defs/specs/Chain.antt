-- What Dijkstra's method is for. A chain of corridors leads from a source to a bus; its length is that of its corridors,
-- added up from the source, each sum rounded once.
use Rattle.std.specs.Prelude.{◌≡◌, true, List, ◌⊎◌, ℕ, ◌<◌, get_or, Float}
use Rattle.std.specs.Float.Ieee.{lt, le}
use Rattle.loops.specs.Figures.{at, plus, nought, infinity}
use Rattle.placement_defs.specs.Distance.{Network, Labels}

-- corridor c leads from i to j
abbrev pub Joins : Network → ℕ → ℕ → ℕ → Type 0
Joins w c i j = ((get_or w.a c 0 ≡ i) × (get_or w.b c 0 ≡ j)) ⊎ ((get_or w.a c 0 ≡ j) × (get_or w.b c 0 ≡ i))

-- a bus flagged among the sources
abbrev pub Source : List ℕ → ℕ → Type 0
Source sources s = get_or sources s 0 ≡ 0 → ⊥

-- from the source s to the bus j, of this length
pub data Chain (w : Network) (sources : List ℕ) : ℕ → ℕ → Float → Type 0 where
  here : (s : ℕ) → s < w.n → Source sources s → Chain w sources s s nought
  along : (s i j c : ℕ) (d : Float) → Chain w sources s i d → c < w.m → Joins w c i j → Chain w sources s j (plus d (at w.km c))

-- No chain to a bus is shorter than its distance, and a finite distance is the length of a chain from the bus's own source.
pub record Nearest (w : Network) (sources : List ℕ) (s : Labels) : Type 0 where
  pub least : (src j : ℕ) (d : Float) → Chain w sources src j d → le (at s.dist j) d ≡ true
  pub attained : (j : ℕ) → j < w.n → lt (at s.dist j) infinity ≡ true → Chain w sources (get_or s.from j 0) j (at s.dist j)
