-- Corridor-km from every bus to its nearest source, and that source, as Dijkstra published the method
-- (Numerische Mathematik 1, 1959, problem 2), from several sources at once.
-- His sets of nodes: A, whose least distance is known (settled); B, from which the next one of A is chosen (candidates); C, the rest.
-- Of his branches II, the one that leads to each candidate, we keep what he uses of it: the distance over it, and the source it comes from.
use Rattle.std.specs.Prelude.{List, Bool, not, cond, ◌&&◌, ◌||◌, ℕ, zero, suc, eqb, ltb, get_or, set, replicate, Float}
use Rattle.std.specs.Float.Ieee.{lt}
use Rattle.loops.specs.Figures.{at, plus, nought, infinity}
use Rattle.loops.specs.Loops.{iter}
use Rattle.placement_defs.specs.Request.{most_buses}

-- the three sets, as a mark of each bus
abbrev pub rest : ℕ
rest = 0

abbrev pub candidate : ℕ
candidate = 1

abbrev pub settled : ℕ
settled = 2

-- the source of a bus that none reaches
abbrev pub nobody : ℕ
nobody = most_buses

-- a mark, a distance and a source for each bus, with places for as many as there may be
pub record Labels : Type 0 where
  pub mark : List ℕ
  pub dist : List Float
  pub from : List ℕ

abbrev pub labels : List ℕ → List Float → List ℕ → Labels
labels mark dist from = record { mark = mark; dist = dist; from = from }

-- n buses, m corridors
pub record Network : Type 0 where
  pub n : ℕ
  pub m : ℕ
  pub a : List ℕ
  pub b : List ℕ
  pub km : List Float

abbrev pub network : ℕ → ℕ → List ℕ → List ℕ → List Float → Network
network n m a b km = record { n = n; m = m; a = a; b = b; km = km }

-- To start with, all buses are in C.
abbrev pub blank : Labels
blank = labels (replicate most_buses rest) (replicate most_buses infinity) (replicate most_buses nobody)

-- Each source is where it is, at no distance: the first candidates.
unfoldable pub seeded : ℕ → ℕ → Labels → Labels
seeded i source s =
    cond (eqb source 0) s (labels (set s.mark i candidate) (set s.dist i nought) (set s.from i i))

abbrev pub seed : List ℕ → ℕ → Labels → Labels
seed sources i s = seeded i (get_or sources i 0) s

-- Step 1, one branch r to the node R = j, which is not of A, and which r reaches at nd: where R is of C, so that its distance is infinite,
-- it joins B; where it is of B, r replaces the branch that led to it if it is shorter; otherwise r is rejected.
abbrev pub shortens : ℕ → Float → Float → Bool
shortens mark nd d = not (eqb mark settled) && lt nd d

abbrev pub reached : ℕ → Float → ℕ → Labels → Labels
reached j nd src s = labels (set s.mark j candidate) (set s.dist j nd) (set s.from j src)

unfoldable pub offered : ℕ → Float → ℕ → Labels → Labels
offered j nd src s = cond (shortens (get_or s.mark j 0) nd (at s.dist j)) (reached j nd src s) s

-- the end of a corridor that is not i
abbrev pub far_end : ℕ → ℕ → ℕ → ℕ
far_end a b i = cond (eqb a i) b a

-- corridor c is considered if it ends at i, the bus just settled
unfoldable pub considered : ℕ → ℕ → ℕ → Float → Labels → Labels
considered i a b km s =
    cond (eqb a i || eqb b i) (offered (far_end a b i) (plus (at s.dist i) km) (get_or s.from i 0) s) s

abbrev pub corridor : Network → ℕ → ℕ → Labels → Labels
corridor w i c s = considered i (get_or w.a c 0) (get_or w.b c 0) (at w.km c) s

-- Step 2: the candidate of least distance, the lowest bus on a tie; n where there is none.
unfoldable pub nearer : ℕ → List ℕ → List Float → ℕ → ℕ → ℕ
nearer n mark dist best i =
    cond (eqb (get_or mark i 0) candidate && (eqb best n || lt (at dist i) (at dist best))) i best

unfoldable pub nearest_to : ℕ → List ℕ → List Float → ℕ → ℕ
nearest_to n mark dist zero = n
nearest_to n mark dist (suc i) = let best = nearest_to n mark dist i in nearer n mark dist best i

-- It is settled, and step 1 follows for it.
unfoldable pub settle : ℕ → Labels → Labels
settle i s = labels (set s.mark i settled) s.dist s.from

unfoldable pub spread : Network → ℕ → Labels → Labels
spread w i s = iter (corridor w i) w.m 0 (settle i s)

unfoldable pub turn : Network → ℕ → Labels → Labels
turn w k s = let i = nearest_to w.n s.mark s.dist w.n in cond (ltb i w.n) (spread w i s) s

-- Both steps are repeated until B is empty: n turns do, since each settles a bus.
unfoldable pub searched : Network → Labels → Labels
searched w s = iter (turn w) w.n 0 s

unfoldable pub distances_from : Network → List ℕ → Labels → Labels
distances_from w sources s = searched w (iter (seed sources) w.n 0 s)

abbrev pub distances : Network → List ℕ → Labels
distances w sources = distances_from w sources blank
