-- Angles (document 01, modules, 5): dc_angles_cg, Jacobi-preconditioned conjugate gradients from a guess, line by line.
-- What is used more than once has a name, so that it is computed once.
use Rattle.std.specs.Prelude.{ℕ, zero, suc, ◌+◌, ◌*◌, cond, List, ◌≡◌, refl, Float}
use Rattle.std.specs.Float.{binary64}
use Rattle.std.specs.Float.Ieee.{round, of_bits, eq, le}
use Rattle.loops.specs.Figures.{times, over, nought, decimal}
use Rattle.root.specs.Root.{root}
use Rattle.angles_defs.specs.Network.{Edges, Network, network_of, zeros, kept, apply, precondition, dot, along, back, less}
use Rattle.angles_defs.specs.declared.Ended.{Ended}
use Rattle.angles_defs.specs.declared.Ended.TheVariants.{Settled, NoDescent, StepsSpent}

-- 1e-11: the share of the right side's norm at which the residual's settles the solve
abbrev pub settled_share : Float
settled_share = of_bits binary64 0x3da5_fd7f_e179_6495

pub settled_share_lem : settled_share ≡ decimal 1 100_000_000_000
unfolding of_bits round
settled_share_lem = refl

-- how often x is moved at most
abbrev pub max_iterations : ℕ → ℕ
max_iterations n = 50 * n + 100

-- the angles x, how often x was moved, and how the solve ended
pub record Solved : Type 0 where
  pub x : List Float
  pub steps : ℕ
  pub ended : Ended

abbrev pub solved : List Float → ℕ → Ended → Solved
solved x steps ended = record { x = x; steps = steps; ended = ended }

-- between two iterations: the angles, the residual and the direction, r · z, the residual's norm, and how often x was moved
pub record State : Type 0 where
  pub x : List Float
  pub r : List Float
  pub d : List Float
  pub rz : Float
  pub norm : Float
  pub steps : ℕ

-- an iteration ends the solve or hands a state on
pub data Next : Type 0 where
  halt : Solved → Next
  go : State → Next

module _ (N : Network) (bound : Float) where
  -- an iteration: no descent where dq is not above zero; settled, after the move, where the norm is within the bound
  unfoldable pub step : State → Next
  step s =
      let q = apply N s.d in
      let dq = dot N.n s.d q in
      cond (le dq nought) (halt (solved s.x s.steps (NoDescent dq)))
      (let alpha = over s.rz dq in
      let x = along N.n s.x alpha s.d in
      let r = back N.n s.r alpha q in
      let norm = root (dot N.n r r) in
      cond (le norm bound) (halt (solved x (s.steps + 1) (Settled norm)))
      (let z = precondition N r in
      let rz = dot N.n r z in
      let beta = over rz s.rz in
      go (record { x = x; r = r; d = along N.n z beta s.d; rz = rz; norm = norm; steps = s.steps + 1 })))

  -- at most k iterations
  unfoldable pub run : ℕ → Next → Solved
  run zero (halt o) = o
  run (suc k) (halt o) = o
  run zero (go s) = solved s.x s.steps (StepsSpent s.norm)
  run (suc k) (go s) = run k (step s)

  -- before the first iteration: r = b - L x
  unfoldable pub begin : List Float → List Float → Next
  begin b x =
      let r = less N.n b (apply N x) in
      let norm = root (dot N.n r r) in
      cond (le norm bound) (halt (solved x 0 (Settled norm)))
      (let z = precondition N r in
      let rz = dot N.n r z in
      go (record { x = x; r = r; d = z; rz = rz; norm = norm; steps = 0 }))

-- from the grounded right side b and guess x; where the computed norm of b is zero the answer is zeros, whatever the guess
unfoldable pub solve_from : Network → List Float → List Float → Solved
solve_from N b x =
    let norm0 = root (dot N.n b b) in
    let bound = times settled_share norm0 in
    cond (eq norm0 nought) (solved (zeros N.n) 0 (Settled nought))
    (run N bound (max_iterations N.n) (begin N bound b x))

-- the solve of n buses: edges, grounds, injections and a guess
unfoldable pub solve : ℕ → Edges → List ℕ → List Float → List Float → Solved
solve n E grounds injection guess =
    let N = network_of n E grounds in
    solve_from N (kept n N.grounded injection) (kept n N.grounded guess)
