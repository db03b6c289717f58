-- What the calls of an iteration, and of what stands before the first, come to: the defined `step` and `begin` on the rows; and the loop that runs them.
-- On eight named rows each call sets one or two, so that the equations of the calls join the two sides.
use Prim.Native.Nat.{ℕ, zero, suc, ◌+◌, ◌-◌, ◌<◌, ◌≤◌}
use mathlib.Core.Bool.{Bool, true, false, cond}
use mathlib.Core.Path.{◌≡◌, refl, sym, ap, ◌∙◌}
use mathlib.Core.List.{List, [], ◌∷◌}
use native.Mathlib.Omega.{arith}
use lib.Ieee.{Float, le, eq}
use lib.ListN.{set}
use Rattle.loops.proofs.Bools.{unequal}
use Rattle.loops.specs.Figures.{times, over, nought}
use Rattle.root.specs.Root.{root}
use Rattle.angles_defs.specs.Network.{Edges, Network, apply, precondition, shares, dot, along, back, less, zeros}
use Rattle.angles_defs.specs.Solve.{Solved, solved, State, Next, halt, go, step, run, begin, solve_from, settled_share, max_iterations}
use Rattle.angles_defs.proofs.Solves.{whichever}
use Rattle.angles_defs.specs.declared.Ended.TheVariants.{Settled, NoDescent, StepsSpent}
use Rattle.angles_defs.specs.declared.Solution.{Solution}
use Rattle.angles.specs.Rows.{row, network_in, state_in, carried_by, solved_in, Iteration, next_in, within, Stepped, Begun, Preconditioned, Residual, next_r, next_z, ResidualStep, AngleStep, DirectionStep}
use Rattle.angles.specs.declared.solve.Carried.{Carried}
use Rattle.std.specs.declared.ops.ControlFlow.TheVariants.{Break, Continue}
use Rattle.std.specs.Prelude.{Some, None}
use Rattle.angles.proofs.Rows.{Set}

-- ---- a norm that was judged
pub near : (v bound norm : Float) → Some norm ≡ within v bound → (le v bound ≡ true) × (norm ≡ v)
near v bound norm h = go (le v bound) refl h
  where
    go : (b : Bool) → le v bound ≡ b → Some norm ≡ cond b (Some v) None → (le v bound ≡ true) × (norm ≡ v)
    go true e p = (e, cc)
    go false e p = absurd (unequal cc)

pub far : (v bound : Float) → None ≡ within v bound → le v bound ≡ false
far v bound h = go (le v bound) refl h
  where
    go : (b : Bool) → le v bound ≡ b → None ≡ cond b (Some v) None → le v bound ≡ false
    go true e p = absurd (unequal cc)
    go false e p = e

pub not_within : (v bound : Float) → le v bound ≡ false → None ≡ within v bound
not_within v bound h = rw h

-- ---- an iteration that goes on or settles, and a beginning, with a name for each value
module _ (N : Network) (bound : Float) where
  settles : (s : State) (q x r : List Float) (dq rr norm : Float)
      → q ≡ apply N s.d → dq ≡ dot N.n s.d q → le dq nought ≡ false
      → x ≡ along N.n s.x (over s.rz dq) s.d → r ≡ back N.n s.r (over s.rz dq) q → rr ≡ dot N.n r r → le (root rr) bound ≡ true → norm ≡ root rr
      → halt (solved x (s.steps + 1) (Settled norm)) ≡ step N bound s
  unfolding step
  settles s q x r dq rr norm eq edq down ex er err near en = cc

  goes_on_lem : (s : State) (q x r z : List Float) (dq rr rz : Float)
      → q ≡ apply N s.d → dq ≡ dot N.n s.d q → le dq nought ≡ false
      → x ≡ along N.n s.x (over s.rz dq) s.d → r ≡ back N.n s.r (over s.rz dq) q → rr ≡ dot N.n r r → le (root rr) bound ≡ false
      → z ≡ precondition N r → rz ≡ dot N.n r z
      → go (record { x = x; r = r; d = along N.n z (over rz s.rz) s.d; rz = rz; norm = root rr; steps = s.steps + 1 }) ≡ step N bound s
  unfolding step
  goes_on_lem s q x r z dq rr rz eq edq down ex er err far ez erz = cc

  begins : (b x r z : List Float) (rr rz : Float) → r ≡ less N.n b (apply N x) → rr ≡ dot N.n r r → le (root rr) bound ≡ false → z ≡ precondition N r → rz ≡ dot N.n r z
      → go (record { x = x; r = r; d = z; rz = rz; norm = root rr; steps = 0 }) ≡ begin N bound b x
  unfolding begin
  begins b x r z rr rz er err far ez erz = cc

-- ---- an iteration and the beginning, from eight rows
module _ (n : ℕ) (E : Edges) (bound : Float) (b g c x r z d q : List Float) where
  abbrev R₀ : List (List Float)
  R₀ = b ∷ g ∷ c ∷ x ∷ r ∷ z ∷ d ∷ q ∷ []

  abbrev N : Network
  N = network_in n E R₀

  module _ (k : Carried) (R₁ : List (List Float)) (dq : Float) (A : Set R₀ R₁ 7 (apply N d) (dot n d (apply N d)) dq) where
    pub step_none : le dq nought ≡ true → Stepped n E bound R₀ k R₁ (Break (record { steps = k.steps; ended = NoDescent dq }))
    unfolding step
    step_none h = record { next = cc (A.left, A.answered, h); same = cc A.left }

    module _ (R₂ : List (List Float)) (rz : Float) (down : le dq nought ≡ false) (M : ResidualStep n (over k.rz dq) R₁ R₂ rz) where
      abbrev alpha : Float
      alpha = over k.rz dq

      abbrev y : List Float
      y = apply N d

      abbrev x' : List Float
      x' = along n x alpha d

      abbrev r' : List Float
      r' = back n r alpha y

      abbrev z' : List Float
      z' = shares n g c r'

      e₂ : R₂ ≡ b ∷ g ∷ c ∷ x ∷ r' ∷ z' ∷ d ∷ y ∷ []
      e₂ = M.left ∙ ap (λ (S : List (List Float)). set (set S 4 (next_r n alpha S)) 5 (next_z n alpha S)) A.left

      square : dot n (row R₂ 4) (row R₂ 4) ≡ dot n r' r'
      square = ap (λ (S : List (List Float)). dot n (row S 4) (row S 4)) e₂

      erz : rz ≡ dot n r' z'
      erz = M.answered ∙ ap (λ (S : List (List Float)). dot n (next_r n alpha S) (next_z n alpha S)) A.left

      pub step_settled : (R₃ : List (List Float)) (norm : Float) → Some norm ≡ within (root (dot n (row R₂ 4) (row R₂ 4))) bound → AngleStep n alpha R₂ R₃
          → Stepped n E bound R₀ k R₃ (Break (record { steps = k.steps + 1; ended = Settled norm }))
      step_settled R₃ norm j T =
          let w = near (root (dot n (row R₂ 4) (row R₂ 4))) bound norm j in
          let e₃ : R₃ ≡ b ∷ g ∷ c ∷ x' ∷ r' ∷ z' ∷ d ∷ y ∷ [] = T.left ∙ ap (λ (S : List (List Float)). set S 3 (along n (row S 3) alpha (row S 6))) e₂ in
          record {
            next =
                ap (λ (S : List (List Float)). halt (solved (row S 3) (k.steps + 1) (Settled norm))) e₃
                ∙ settles N bound (state_in n R₀ k) y x' r' dq (dot n (row R₂ 4) (row R₂ 4)) norm refl A.answered down refl refl square w.0 w.1;
            same = ap (λ (S : List (List Float)). network_in n E S) e₃;
          }

      pub step_more : (R₃ : List (List Float)) (look : ℕ) → None ≡ within (root (dot n (row R₂ 4) (row R₂ 4))) bound → DirectionStep n alpha (over rz k.rz) R₂ R₃
          → Stepped n E bound R₀ k R₃ (Continue (carried_by rz look (k.steps + 1)))
      step_more R₃ look j D =
          let beta : Float = over rz k.rz in
          let e₃ : R₃ ≡ b ∷ g ∷ c ∷ x' ∷ r' ∷ z' ∷ along n z' beta d ∷ y ∷ [] =
          D.left ∙ ap (λ (S : List (List Float)). set (set S 3 (along n (row S 3) alpha (row S 6))) 6 (along n (row S 5) beta (row S 6))) e₂ in
          record {
            next =
                ap (λ (S : List (List Float)). go (state_in n S (carried_by rz look (k.steps + 1)))) e₃
                ∙ goes_on_lem N bound (state_in n R₀ k) y x' r' z' dq (dot n r' r') rz refl A.answered down refl refl refl
                (ap (λ (v : Float). le (root v) bound) (sym square) ∙ far (root (dot n (row R₂ 4) (row R₂ 4))) bound j) refl erz;
            same = ap (λ (S : List (List Float)). network_in n E S) e₃;
          }

  module _ (R₁ R₂ : List (List Float)) (a rr : Float) (A : Set R₀ R₁ 4 (apply N x) (dot n x (apply N x)) a) (D : Residual n R₁ R₂ rr) where
    pub begin_stop : (norm : Float) → Some norm ≡ within (root rr) bound → Begun n E bound R₀ R₂ (Break (record { steps = 0; ended = Settled norm }))
    unfolding begin
    begin_stop norm j =
        let w = near (root rr) bound norm j in
        record { next = cc (A.left, D.left, D.answered, w.0, w.1); same = cc (A.left, D.left) }

    pub begin_more : (R₃ R₄ : List (List Float)) (rz : Float) (look : ℕ) → None ≡ within (root rr) bound → Preconditioned n R₂ R₃ rz → R₄ ≡ set R₃ 6 (row R₃ 5)
        → Begun n E bound R₀ R₄ (Continue (carried_by rz look 0))
    begin_more R₃ R₄ rz look j P C =
        let r' : List Float = less n b (apply N x) in
        let z' : List Float = shares n g c r' in
        let e₂ : R₂ ≡ b ∷ g ∷ c ∷ x ∷ r' ∷ z ∷ d ∷ q ∷ [] = D.left ∙ ap (λ (S : List (List Float)). set S 4 (less n (row S 0) (row S 4))) A.left in
        let e₃ : R₃ ≡ b ∷ g ∷ c ∷ x ∷ r' ∷ z' ∷ d ∷ q ∷ [] = P.left ∙ ap (λ (S : List (List Float)). set S 5 (shares n (row S 1) (row S 2) (row S 4))) e₂ in
        let e₄ : R₄ ≡ b ∷ g ∷ c ∷ x ∷ r' ∷ z' ∷ z' ∷ q ∷ [] = C ∙ ap (λ (S : List (List Float)). set S 6 (row S 5)) e₃ in
        let err : rr ≡ dot n r' r' = D.answered ∙ ap (λ (S : List (List Float)). dot n (less n (row S 0) (row S 4)) (less n (row S 0) (row S 4))) A.left in
        let erz : rz ≡ dot n r' z' = P.answered ∙ ap (λ (S : List (List Float)). dot n (row S 4) (shares n (row S 1) (row S 2) (row S 4))) e₂ in
        record {
          next =
              ap (λ (S : List (List Float)). go (state_in n S (carried_by rz look 0))) e₄
              ∙ begins N bound b x r' z' (dot n r' r') rz refl refl (ap (λ (v : Float). le (root v) bound) (sym err) ∙ far (root rr) bound j) refl erz;
          same = ap (λ (S : List (List Float)). network_in n E S) e₄;
        }

-- ---- how often x was moved in a state that is handed on
abbrev Moved : State → ℕ → Next → Type 0
Moved s k next = go s ≡ next → s.steps ≡ k

halted : (s : State) (k : ℕ) (o : Solved) → Moved s k (halt o)
halted s k o h = cc

handed : (s t : State) → Moved s t.steps (go t)
handed s t h = cc

-- ---- the loop
module _ (N : Network) (bound : Float) where
  pub run_halt : (k : ℕ) (o : Solved) → run N bound k (halt o) ≡ o
  unfolding run
  run_halt zero o = refl
  run_halt (suc k) o = refl

  run_turn : (m i : ℕ) (s : State) → i < m → run N bound (m - i) (go s) ≡ run N bound (m - (i + 1)) (step N bound s)
  unfolding run
  run_turn m i s l =
      let q : m - i ≡ suc (m - (i + 1)) = omega arith in
      ap (λ (k : ℕ). run N bound k (go s)) q

  run_end : (m i : ℕ) (s : State) → m ≤ i → run N bound (m - i) (go s) ≡ solved s.x s.steps (StepsSpent s.norm)
  unfolding run
  run_end m i s l =
      let q : m - i ≡ 0 = omega arith in
      ap (λ (k : ℕ). run N bound k (go s)) q

  -- an iteration that goes on has moved x once
  step_moves : (s s' : State) → go s' ≡ step N bound s → s'.steps ≡ s.steps + 1
  unfolding step
  step_moves s s' e =
      let k = s.steps + 1 in
      whichever (Moved s' k) (le _ nought) _ _ (halted s' k _) (whichever (Moved s' k) (le _ bound) _ _ (halted s' k _) (handed s' _)) e

-- with some of m iterations taken: one that ends is the answer, one that goes on leaves one fewer, and after the last the norm is told
module _ (n : ℕ) (E : Edges) (bound : Float) (R₀ R : List (List Float)) (k : Carried) (m : ℕ) (total : Solved)
    (e : run (network_in n E R₀) bound (m - k.steps) (go (state_in n R k)) ≡ total) where
  abbrev N₀ : Network
  N₀ = network_in n E R₀

  module _ (R' : List (List Float)) (i : Iteration) (S : Stepped n E bound R k R' i) (same : network_in n E R ≡ network_in n E R₀) (l : k.steps < m) where
    left : (next : Next) → next ≡ next_in n R' i → run N₀ bound (m - (k.steps + 1)) next ≡ total
    left next h =
        ap (λ (x : Next). run N₀ bound (m - (k.steps + 1)) x) (h ∙ S.next ∙ ap (λ (N : Network). step N bound (state_in n R k)) same)
        ∙ sym (run_turn N₀ bound m k.steps (state_in n R k) l) ∙ e

    pub iterate_stop : (s : Solution) → i ≡ Break s → solved_in R' s ≡ total
    iterate_stop s h = sym (run_halt N₀ bound (m - (k.steps + 1)) (solved_in R' s)) ∙ left (halt (solved_in R' s)) (ap (next_in n R') (sym h))

    module _ (k' : Carried) (h : i ≡ Continue k') where
      pub iterate_moves : k'.steps ≡ k.steps + 1
      iterate_moves = step_moves (network_in n E R) bound (state_in n R k) (state_in n R' k') (ap (next_in n R') (sym h) ∙ S.next)

      pub iterate_more : run N₀ bound (m - k'.steps) (go (state_in n R' k')) ≡ total
      iterate_more = ap (λ (j : ℕ). run N₀ bound (m - j) (go (state_in n R' k'))) iterate_moves ∙ left (go (state_in n R' k')) (ap (next_in n R') (sym h))

  pub iterate_end : (norm : Float) → m ≤ k.steps → norm ≡ root (dot n (row R 4) (row R 4)) → solved (row R 3) k.steps (StepsSpent norm) ≡ total
  iterate_end norm l h =
      ap (λ (v : Float). solved (row R 3) k.steps (StepsSpent v)) h ∙ sym (run_end N₀ bound m k.steps (state_in n R k) l) ∙ e

-- ---- the solve from the rows: where the norm is zero, where it ends at the beginning, and where it is run
module _ (n : ℕ) (E : Edges) (R : List (List Float)) (norm0 : Float) (e : norm0 ≡ root (dot n (row R 0) (row R 0))) where
  abbrev defined : Solved
  defined = solve_from (network_in n E R) (row R 0) (row R 3)

  abbrev bound₀ : Float
  bound₀ = times settled_share norm0

  pub solve_zero : eq norm0 nought ≡ true → solved (zeros n) 0 (Settled nought) ≡ defined
  unfolding solve_from
  solve_zero h = rw (sym e, h)

  begun : eq norm0 nought ≡ false → (next : Next) → next ≡ begin (network_in n E R) bound₀ (row R 0) (row R 3)
      → run (network_in n E R) bound₀ (max_iterations n) next ≡ defined
  unfolding solve_from
  begun h next p = rw (sym e, h, p)

  -- the beginning hands on a state in which x was not moved yet
  begin_moves : (s : State) → go s ≡ begin (network_in n E R) bound₀ (row R 0) (row R 3) → s.steps ≡ 0
  unfolding begin
  begin_moves s p = whichever (Moved s 0) (le _ bound₀) _ _ (halted s 0 _) (handed s _) p

  module _ (h : eq norm0 nought ≡ false) (R' : List (List Float)) (i : Iteration) (B : Begun n E bound₀ R R' i) where
    pub solve_stop : (s : Solution) → i ≡ Break s → solved_in R' s ≡ defined
    solve_stop s q = sym (run_halt (network_in n E R) bound₀ (max_iterations n) (solved_in R' s)) ∙ begun h (halt (solved_in R' s)) (ap (next_in n R') (sym q) ∙ B.next)

    pub solve_begins : (k : Carried) → i ≡ Continue k → k.steps ≡ 0
    solve_begins k q = begin_moves (state_in n R' k) (ap (next_in n R') (sym q) ∙ B.next)

    pub solve_run : (k : Carried) (o : Solved) → i ≡ Continue k → o ≡ run (network_in n E R') bound₀ (max_iterations n) (go (state_in n R' k)) → o ≡ defined
    solve_run k o q r =
        r
        ∙ ap (λ (N : Network). run N bound₀ (max_iterations n) (go (state_in n R' k))) B.same
        ∙ begun h (go (state_in n R' k)) (ap (next_in n R') (sym q) ∙ B.next)
