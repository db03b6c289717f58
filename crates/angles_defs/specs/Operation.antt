-- Angles (document 01, "Refusals of each operation, in order", and modules, 5): what `dc_angles` answers, and what it leaves in the slices that it is lent.
use Rattle.std.specs.Prelude.{ℕ, ◌*◌, Bool, true, false, ◌&&◌, List, [], ◌∷◌, eqb, leb, ltb, length, get_or, Float, Err, Ok, Result}
use Rattle.loops.specs.Bounds.{most_buses, most_corridors}
use Rattle.loops.specs.Figures.{at, finite}
use Rattle.loops.specs.Loops.{first}
use Rattle.loops.specs.Verdict.{Test, fact, each_row, verdict}
use Rattle.refusal.specs.Reply.{Reply, reply_of}
use Rattle.refusal.specs.declared.Refusal.{Refusal}
use Rattle.refusal.specs.declared.Refusal.TheVariants.{Length, Count, Edge, Ground, NotFinite}
use Rattle.angles_defs.specs.Network.{Edges, edges_of, zeros}
use Rattle.angles_defs.specs.Solve.{Solved, solve}
use Rattle.angles_defs.specs.declared.Solution.{Solution}

-- ---- what is handed in: n buses, m edges and k grounds, and their tables
pub record Request : Type 0 where
  pub n : ℕ
  pub m : ℕ
  pub k : ℕ
  pub edges : Edges
  pub injection : List Float
  pub grounds : List ℕ
  pub guess : List Float

abbrev pub request_of : ℕ → ℕ → ℕ → List ℕ → List ℕ → List Float → List Float → List ℕ → List Float → Request
request_of n m k from to weight injection grounds guess =
    record { n = n; m = m; k = k; edges = edges_of from to weight; injection = injection; grounds = grounds; guess = guess }

-- the places of the work slice
abbrev pub work_places : ℕ → ℕ
work_places n = 8 * n

-- ---- refusals 1, 2 and 10, with the lengths of the result and of the work
abbrev pub lengths_ok : Request → ℕ → ℕ → Bool
lengths_ok q result work =
    eqb (length q.injection) q.n && eqb (length q.edges.from) q.m && eqb (length q.edges.to) q.m && eqb (length q.edges.weight) q.m
    && eqb (length q.grounds) q.k && eqb (length q.guess) q.n && eqb result q.n && eqb work (work_places q.n)

abbrev pub counts_ok : ℕ → ℕ → ℕ → Bool
counts_ok n m k = leb n most_buses && leb m most_corridors && leb k most_buses

-- both ends of edge e are buses; ground g is a bus
abbrev pub edge_ok : ℕ → List ℕ → List ℕ → ℕ → Bool
edge_ok n from to e = ltb (get_or from e 0) n && ltb (get_or to e 0) n

abbrev pub ground_ok : ℕ → List ℕ → ℕ → Bool
ground_ok n grounds g = ltb (get_or grounds g 0) n

unfoldable pub tests_of : Request → ℕ → ℕ → List (Test Refusal)
tests_of q result work =
    fact (lengths_ok q result work) Length
    ∷ fact (counts_ok q.n q.m q.k) Count
    ∷ each_row (edge_ok q.n q.edges.from q.edges.to) Edge q.m
    ∷ each_row (ground_ok q.n q.grounds) Ground q.k
    ∷ []

abbrev pub check_of : Request → ℕ → ℕ → Result (Unit {0}) Refusal
check_of q result work = verdict (tests_of q result work)

-- ---- what is said, and what the result and the work hold then
pub record Outcome : Type 0 where
  pub reply : Reply Solution
  pub result : List Float
  pub work : List Float

abbrev pub outcome : Result Solution Refusal → List Float → List Float → Outcome
outcome a result work = record { reply = reply_of a; result = result; work = work }

-- ---- refusal 9 and the answer: the lowest bus i whose angle is not finite, if that is below n
abbrev pub finite_at : List Float → ℕ → Bool
finite_at x i = finite (at x i)

abbrev pub solution_of : Solved → Solution
solution_of o = record { steps = o.steps; ended = o.ended }

unfoldable pub finish_if : Bool → ℕ → Solved → ℕ → Outcome
finish_if true n o i = outcome (Err (NotFinite i)) (zeros n) (zeros (work_places n))
finish_if false n o i = outcome (Ok (solution_of o)) o.x (zeros (work_places n))

abbrev pub finish_at : ℕ → Solved → ℕ → Outcome
finish_at n o i = finish_if (ltb i n) n o i

abbrev pub finish : ℕ → Solved → Outcome
finish n o = finish_at n o (first (finite_at o.x) n 0)

-- ---- the operation, lent a result and a work slice. A request that passes is answered from nothing else.
abbrev pub solve_of : Request → Solved
solve_of q = solve q.n q.edges q.grounds q.injection q.guess

abbrev pub answer_to : Result (Unit {0}) Refusal → Request → List Float → List Float → Outcome
answer_to (Err f) q result work = outcome (Err f) result work
answer_to (Ok tt) q result work = finish q.n (solve_of q)

unfoldable pub dc_angles : Request → List Float → List Float → Outcome
dc_angles q result work = answer_to (check_of q (length result) (length work)) q result work
