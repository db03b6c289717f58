-- Angles (document 01, modules, 5), after dc_angles_cg: the network of a solve, its two maps `apply` and `precondition`, and the sums of vectors.
-- A vector is a list with a place for each of n buses. Each operation rounds once, in the Rust's order.
use Rattle.std.specs.Prelude.{ℕ, cond, List, length, get_or, set, replicate, Float}
use Rattle.std.specs.Float.Ieee.{ne, le}
use Rattle.loops.specs.Figures.{at, plus, minus, times, over, nought, one}
use Rattle.loops.specs.Loops.{iter, tab, sum_to}

-- the edges: their ends and their weights, the susceptances
pub record Edges : Type 0 where
  pub from : List ℕ
  pub to : List ℕ
  pub weight : List Float

abbrev pub edges_of : List ℕ → List ℕ → List Float → Edges
edges_of from to weight = record { from = from; to = to; weight = weight }

-- what a solve is of: n buses, the edges, `grounded`, one at each grounded bus and zero elsewhere, and `diag`, the sum of the weights at each bus
pub record Network : Type 0 where
  pub n : ℕ
  pub edges : Edges
  pub grounded : List Float
  pub diag : List Float

abbrev pub zeros : ℕ → List Float
zeros n = replicate n nought

-- y with d added at a, and with d taken off at b
abbrev pub raise : List Float → ℕ → Float → List Float
raise y a d = set y a (plus (at y a) d)

abbrev pub lower : List Float → ℕ → Float → List Float
lower y b d = set y b (minus (at y b) d)

-- ---- the network of the edges and the grounds
abbrev pub ground : List ℕ → ℕ → List Float → List Float
ground grounds k y = set y (get_or grounds k 0) one

unfoldable pub grounded_of : ℕ → List ℕ → List Float
grounded_of n grounds = iter (ground grounds) (length grounds) 0 (zeros n)

-- edge e adds its weight at both ends
abbrev pub weighed : List Float → ℕ → ℕ → Float → List Float
weighed y a b w = raise (raise y a w) b w

abbrev pub weigh : Edges → ℕ → List Float → List Float
weigh E e y = weighed y (get_or E.from e 0) (get_or E.to e 0) (at E.weight e)

unfoldable pub diag_of : ℕ → Edges → List Float
diag_of n E = iter (weigh E) (length E.from) 0 (zeros n)

abbrev pub network_of : ℕ → Edges → List ℕ → Network
network_of n E grounds = record { n = n; edges = E; grounded = grounded_of n grounds; diag = diag_of n E }

-- ---- the map `apply`: the grounded Laplacian
-- what edge e carries at x
abbrev pub flow : Edges → List Float → ℕ → Float
flow E x e = times (at E.weight e) (minus (at x (get_or E.from e 0)) (at x (get_or E.to e 0)))

-- y with d moved from b to a
abbrev pub moved : List Float → ℕ → ℕ → Float → List Float
moved y a b d = lower (raise y a d) b d

-- edge e moves what it carries
abbrev pub carry : Edges → List Float → ℕ → List Float → List Float
carry E x e y = moved y (get_or E.from e 0) (get_or E.to e 0) (flow E x e)

unfoldable pub scatter : ℕ → Edges → List Float → List Float
scatter n E x = iter (carry E x) (length E.from) 0 (zeros n)

-- v, or zero at a grounded bus
abbrev pub kept_at : Float → Float → Float
kept_at grounded v = cond (ne grounded nought) nought v

unfoldable pub kept : ℕ → List Float → List Float → List Float
kept n grounded y = tab n (λ i. kept_at (at grounded i) (at y i))

abbrev pub apply : Network → List Float → List Float
apply N x = kept N.n N.grounded (scatter N.n N.edges x)

-- ---- the map `precondition`: division by the diagonal, with zero at a grounded bus and where the diagonal is not above zero
abbrev pub share_at : Float → Float → Float → Float
share_at grounded diag r = cond (ne grounded nought) nought (cond (le diag nought) nought (over r diag))

unfoldable pub shares : ℕ → List Float → List Float → List Float → List Float
shares n grounded diag r = tab n (λ i. share_at (at grounded i) (at diag i) (at r i))

abbrev pub precondition : Network → List Float → List Float
precondition N r = shares N.n N.grounded N.diag r

-- ---- sums: u · v from the left, y + a x, y - a x, b - y
abbrev pub product : List Float → List Float → ℕ → Float
product u v i = times (at u i) (at v i)

abbrev pub dot : ℕ → List Float → List Float → Float
dot n u v = sum_to (product u v) n

unfoldable pub along : ℕ → List Float → Float → List Float → List Float
along n y a x = tab n (λ i. plus (at y i) (times a (at x i)))

unfoldable pub back : ℕ → List Float → Float → List Float → List Float
back n y a x = tab n (λ i. minus (at y i) (times a (at x i)))

unfoldable pub less : ℕ → List Float → List Float → List Float
less n b y = tab n (λ i. minus (at b i) (at y i))
