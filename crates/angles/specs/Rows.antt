-- How the work slice holds a solve: eight rows of n places, in this order: b, grounded, diag, x, r, z, d, q. What each function leaves in them.
use Rattle.std.specs.Prelude.{ℕ, cond, ◌≡◌, List, [], ◌∷◌, Some, None, Option, get_or, set, Float}
use Rattle.std.specs.Float.Ieee.{le}
use Rattle.loops.specs.Loops.{fault}
use Rattle.root.specs.Root.{root}
use Rattle.angles_defs.specs.Network.{Edges, Network, grounded_of, diag_of, kept, shares, dot, along, back, less, zeros}
use Rattle.angles_defs.specs.Solve.{Solved, solved, State, Next, halt, go, step, begin}
use Rattle.angles_defs.specs.Operation.{finite_at, work_places}
use Rattle.angles_defs.specs.declared.Solution.{Solution}
use Rattle.angles.specs.Bounds.{Reached}
use Rattle.angles.specs.declared.solve.Carried.{Carried}
use Rattle.std.specs.declared.ops.ControlFlow.{ControlFlow}
use Rattle.std.specs.declared.ops.ControlFlow.TheVariants.{Break, Continue}

-- ---- the rows
abbrev pub row : List (List Float) → ℕ → List Float
row R k = get_or R k []

abbrev pub network_in : ℕ → Edges → List (List Float) → Network
network_in n E R = record { n = n; edges = E; grounded = row R 1; diag = row R 2 }

-- the state between two iterations, with what the code carries
abbrev pub state_in : ℕ → List (List Float) → Carried → State
state_in n R c = record { x = row R 3; r = row R 4; d = row R 6; rz = c.rz; norm = root (dot n (row R 4) (row R 4)); steps = c.steps }

abbrev pub carried_by : Float → ℕ → ℕ → Carried
carried_by rz look steps = record { rz = rz; look = look; steps = steps }

-- a solution with the rows that it leaves, and an iteration
abbrev pub solved_in : List (List Float) → Solution → Solved
solved_in R s = solved (row R 3) s.steps s.ended

abbrev pub Iteration : Type 0
Iteration = ControlFlow Solution Carried

abbrev pub next_in : ℕ → List (List Float) → Iteration → Next
next_in n R (Break s) = halt (solved_in R s)
next_in n R (Continue c) = go (state_in n R c)

-- ---- what the parts of an iteration leave and answer
pub record Preconditioned (n : ℕ) (R R' : List (List Float)) (rz : Float) : Type 0 where
  pub left : R' ≡ set R 5 (shares n (row R 1) (row R 2) (row R 4))
  pub answered : rz ≡ dot n (row R 4) (shares n (row R 1) (row R 2) (row R 4))

pub record Residual (n : ℕ) (R R' : List (List Float)) (rr : Float) : Type 0 where
  pub left : R' ≡ set R 4 (less n (row R 0) (row R 4))
  pub answered : rr ≡ dot n (less n (row R 0) (row R 4)) (less n (row R 0) (row R 4))

-- r · r, or a place that reaches the limit
abbrev pub Told : ℕ → Float → List Float → ControlFlow ℕ Float → Type 0
Told n limit r (Break place) = Reached n limit r place
Told n limit r (Continue rr) = rr ≡ dot n r r

-- r after a step of alpha, and its z
abbrev pub next_r : ℕ → Float → List (List Float) → List Float
next_r n alpha R = back n (row R 4) alpha (row R 7)

abbrev pub next_z : ℕ → Float → List (List Float) → List Float
next_z n alpha R = shares n (row R 1) (row R 2) (next_r n alpha R)

pub record ResidualStep (n : ℕ) (alpha : Float) (R R' : List (List Float)) (rz : Float) : Type 0 where
  pub left : R' ≡ set (set R 4 (next_r n alpha R)) 5 (next_z n alpha R)
  pub answered : rz ≡ dot n (next_r n alpha R) (next_z n alpha R)

pub record AngleStep (n : ℕ) (alpha : Float) (R R' : List (List Float)) : Type 0 where
  pub left : R' ≡ set R 3 (along n (row R 3) alpha (row R 6))

pub record DirectionStep (n : ℕ) (alpha beta : Float) (R R' : List (List Float)) : Type 0 where
  pub left : R' ≡ set (set R 3 (along n (row R 3) alpha (row R 6))) 6 (along n (row R 5) beta (row R 6))

-- a norm that is within the bound
abbrev pub within : Float → Float → Option Float
within norm bound = cond (le norm bound) (Some norm) None

-- ---- an iteration, and what stands before the first: the network stays
pub record Stepped (n : ℕ) (E : Edges) (bound : Float) (R : List (List Float)) (c : Carried) (R' : List (List Float)) (i : Iteration) : Type 0 where
  pub next : next_in n R' i ≡ step (network_in n E R) bound (state_in n R c)
  pub same : network_in n E R' ≡ network_in n E R

pub record Begun (n : ℕ) (E : Edges) (bound : Float) (R R' : List (List Float)) (i : Iteration) : Type 0 where
  pub next : next_in n R' i ≡ begin (network_in n E R) bound (row R 0) (row R 3)
  pub same : network_in n E R' ≡ network_in n E R

-- ---- the operation: the rows that a solve begins with, and what is handed out
unfoldable pub start_rows : ℕ → Edges → List ℕ → List Float → List Float → List (List Float)
start_rows n E grounds injection guess =
    kept n (grounded_of n grounds) injection ∷ grounded_of n grounds ∷ diag_of n E ∷ kept n (grounded_of n grounds) guess ∷ zeros n ∷ zeros n ∷ zeros n ∷ zeros n ∷ []

-- the angles, or zeros where a bus has none
abbrev pub given_or_zeros : ℕ → List Float → Option ℕ → List Float
given_or_zeros n x (Some bus) = zeros n
given_or_zeros n x None = x

pub record HandedOut (n : ℕ) (x : List Float) (bus : Option ℕ) (result work : List Float) : Type 0 where
  pub found : bus ≡ fault (finite_at x) n
  pub given : result ≡ given_or_zeros n x bus
  pub cleared : work ≡ zeros (work_places n)
