-- What every solve keeps: its angles have a place for each bus, x is moved at most 50 times for each bus and 100 times more,
-- and a grounded bus is at zero, or at no number.
-- An iteration hands on what it was handed: x and the direction are zero (or no number) at a grounded bus, and so is their sum.
use Prim.Native.Nat.{ℕ, zero, suc, ◌+◌, ◌*◌, ◌<◌, ◌≤◌}
use mathlib.Core.Bool.{Bool, true, false, cond}
use mathlib.Core.Path.{◌≡◌, sym, subst}
use mathlib.Core.List.{List}
use native.Mathlib.Omega.{arith}
use lib.Dec.{T}
use lib.Ieee.{Float, nan, binary64, le, eq, of_bits}
use lib.ListN.{length, get_or, get_or-replicate}
use Rattle.loops.specs.Figures.{at, times, over, nought, one}
use Rattle.root.specs.Root.{root}
use Rattle.loops.proofs.Tab.{get_tab}
use Rattle.loops.proofs.Zeros.{void, mul_void, add_void}
use Rattle.angles_defs.specs.Network.{Edges, Network, network_of, grounded_of, zeros, kept, apply, precondition, dot, along}
use Rattle.angles_defs.specs.Solve.{Solved, State, Next, halt, go, step, run, begin, solve_from, solve, max_iterations, settled_share}
use Rattle.angles_defs.proofs.Vectors.{length_zeros, length_kept, length_along, kept_ground, precondition_ground, grounded_one}

nought_void : T (void nought)
unfolding of_bits
nought_void = tt

-- what holds of a state or of an answer holds of what an iteration hands on
abbrev Holds : (State → Type 0) → (Solved → Type 0) → Next → Type 0
Holds P Q (halt o) = Q o
Holds P Q (go s) = P s

-- of two, whichever a test takes
pub whichever : {A : Type 0} (P : A → Type 0) (b : Bool) (x y : A) → P x → P y → P (cond b x y)
whichever P true x y p q = p
whichever P false x y p q = q

-- ---- the number of moves
module _ (N : Network) (bound : Float) where
  abbrev Counts : ℕ → Next → Type 0
  Counts k n = Holds (λ s. s.steps ≤ k) (λ o. o.steps ≤ k) n

  step_counts : (s : State) (k : ℕ) → s.steps ≤ k → Counts (k + 1) (step N bound s)
  unfolding step
  step_counts s k h =
      whichever (Counts (k + 1)) (le _ nought) _ _ (omega arith) (whichever (Counts (k + 1)) (le _ bound) _ _ (omega arith) (omega arith))

  run_counts : (d k : ℕ) (n : Next) → Counts k n → (run N bound d n).steps ≤ k + d
  unfolding run
  run_counts zero k (halt o) h = omega arith
  run_counts (suc d) k (halt o) h = omega arith
  run_counts zero k (go s) h = omega arith
  run_counts (suc d) k (go s) h = let i = run_counts d (k + 1) (step N bound s) (step_counts s k h) in omega arith

  begin_counts : (b x : List Float) → Counts 0 (begin N bound b x)
  unfolding begin
  begin_counts b x = whichever (Counts 0) (le _ bound) _ _ (omega arith) (omega arith)

  -- ---- what holds of x and of the direction from the start, and is kept by a move and by a turn of the direction, holds of the answer
  module _ (X D : List Float → Type 0) (first : (r : List Float) → D (precondition N r))
      (move : (x : List Float) (alpha : Float) (d : List Float) → X x → D d → X (along N.n x alpha d))
      (turn : (r : List Float) (beta : Float) (d : List Float) → D d → D (along N.n (precondition N r) beta d)) where
    abbrev Keeps : Next → Type 0
    Keeps n = Holds (λ s. X s.x × D s.d) (λ o. X o.x) n

    step_keeps : (s : State) → X s.x → D s.d → Keeps (step N bound s)
    unfolding step
    step_keeps s p q =
        let p' = move s.x (over s.rz (dot N.n s.d (apply N s.d))) s.d p q in
        whichever Keeps (le _ nought) _ _ p (whichever Keeps (le _ bound) _ _ p' (p', turn _ _ s.d q))

    run_keeps : (k : ℕ) (n : Next) → Keeps n → X (run N bound k n).x
    unfolding run
    run_keeps zero (halt o) h = h
    run_keeps (suc k) (halt o) h = h
    run_keeps zero (go s) h = h.0
    run_keeps (suc k) (go s) h = run_keeps k (step N bound s) (step_keeps s h.0 h.1)

    begin_keeps : (b x : List Float) → X x → Keeps (begin N bound b x)
    unfolding begin
    begin_keeps b x h = whichever Keeps (le _ bound) _ _ h (h, first _)

-- ---- the solve
module _ (N : Network) (b x : List Float) where
  abbrev bound₀ : Float
  bound₀ = times settled_share (root (dot N.n b b))

  from_counts : (solve_from N b x).steps ≤ 50 * N.n + 100
  unfolding solve_from
  from_counts =
      let h = run_counts N bound₀ (max_iterations N.n) 0 (begin N bound₀ b x) (begin_counts N bound₀ b x) in
      whichever (λ (o : Solved). o.steps ≤ 50 * N.n + 100) (eq _ nought) _ _ (omega arith) (omega arith)

  abbrev Whole : List Float → Type 0
  Whole y = length y ≡ N.n

  abbrev Any : List Float → Type 0
  Any y = Unit

  from_placed : length x ≡ N.n → length (solve_from N b x).x ≡ N.n
  unfolding solve_from
  from_placed h =
      whichever (λ (o : Solved). length o.x ≡ N.n) (eq _ nought) _ _ (length_zeros N.n)
      (run_keeps N bound₀ Whole Any (λ r. tt) (λ x alpha d p q. length_along N.n x alpha d) (λ r beta d q. tt) (max_iterations N.n) (begin N bound₀ b x)
      (begin_keeps N bound₀ Whole Any (λ r. tt) (λ x alpha d p q. length_along N.n x alpha d) (λ r beta d q. tt) b x h))

  -- a grounded bus g
  module _ (g : ℕ) (l : g < N.n) (m : at N.grounded g ≡ one) where
    abbrev Still : List Float → Type 0
    Still y = T (void (at y g))

    zero_still : (y : List Float) → at y g ≡ nought → Still y
    zero_still y e = subst (λ (v : Float). T (void v)) (sym e) nought_void

    along_still : (y : List Float) (a : Float) (x : List Float) → Still y → Still x → Still (along N.n y a x)
    unfolding along
    along_still y a x p q =
        subst (λ (v : Float). T (void v)) (sym (get_tab N.n _ g nan l))
        (add_void binary64 (at y g) (times a (at x g)) p (mul_void binary64 a (at x g) q))

    z_still : (r : List Float) → Still (precondition N r)
    z_still r = zero_still (precondition N r) (precondition_ground N g l m r)

    from_still : Still x → Still (solve_from N b x).x
    unfolding solve_from
    from_still h =
        whichever (λ (o : Solved). Still o.x) (eq _ nought) _ _ (zero_still (zeros N.n) (get_or-replicate N.n g nought nan l))
        (run_keeps N bound₀ Still Still z_still along_still (λ r beta d. along_still (precondition N r) beta d (z_still r)) (max_iterations N.n) (begin N bound₀ b x)
        (begin_keeps N bound₀ Still Still z_still along_still (λ r beta d. along_still (precondition N r) beta d (z_still r)) b x h))

module _ (n : ℕ) (E : Edges) (grounds : List ℕ) (injection guess : List Float) where
  abbrev N : Network
  N = network_of n E grounds

  abbrev b : List Float
  b = kept n (grounded_of n grounds) injection

  abbrev x : List Float
  x = kept n (grounded_of n grounds) guess

  pub solve_steps : (solve n E grounds injection guess).steps ≤ 50 * n + 100
  unfolding solve
  solve_steps = from_counts N b x

  pub solve_places : length (solve n E grounds injection guess).x ≡ n
  unfolding solve
  solve_places = from_placed N b x (length_kept n (grounded_of n grounds) guess)

  -- where every ground is a bus
  pub solve_ground : ((k : ℕ) → k < length grounds → get_or grounds k 0 < n)
      → (k : ℕ) → k < length grounds → T (void (at (solve n E grounds injection guess).x (get_or grounds k 0)))
  unfolding solve
  solve_ground below k h =
      let m : at (grounded_of n grounds) (get_or grounds k 0) ≡ one = grounded_one n grounds below k h in
      from_still N b x (get_or grounds k 0) (below k h) m
      (zero_still N b x (get_or grounds k 0) (below k h) m x (kept_ground n (grounded_of n grounds) (get_or grounds k 0) (below k h) m guess))
