-- Worked examples, by computation: the solves of four small networks, whole, and what the operation leaves where it refuses.
-- The figures are halves and whole numbers, so that each operation is exact.
use Prim.Native.Nat.{ℕ}
use mathlib.Core.Path.{◌≡◌, refl}
use mathlib.Core.List.{List, [], ◌∷◌}
use lib.ListN.{replicate}
use lib.Ieee.{Float, add, sub, mul, div, neg, lt, eq, le, ne, of_bits, binary64}
use Rattle.loops.specs.Figures.{nought, half, one, two, infinity}
use Rattle.loops.specs.Loops.{iter, tab, sum_to, first}
use Rattle.refusal.specs.Number.{number_of, index_of}
use Rattle.refusal.specs.Reply.{refused}
use Rattle.root.specs.Root.{root}
use Rattle.angles_defs.specs.Network.{Edges, Network, edges_of, network_of, zeros, grounded_of, diag_of, scatter, kept, shares, along, back, less}
use Rattle.angles_defs.specs.Solve.{Solved, solved, settled_share, step, run, begin, solve_from, solve}
use Rattle.angles_defs.specs.Operation.{Request, request_of, tests_of, finish_if, Outcome, dc_angles}
use Rattle.angles_defs.specs.declared.Ended.TheVariants.{Settled, NoDescent}

abbrev minus_quarter : Float
minus_quarter = of_bits binary64 0xbfd0_0000_0000_0000

-- an edge of weight w between buses 0 and 1
abbrev line : Float → Edges
line w = edges_of (0 ∷ []) (1 ∷ []) (w ∷ [])

-- ★9 Injection at the ground only: zeros, whatever the guess; no steps, settled with 0.
abbrev pub ground_only : Solved
ground_only = solve 2 (line two) (0 ∷ []) (half ∷ nought ∷ []) (half ∷ two ∷ [])

-- Half a unit drawn at bus 1, over a weight of 2: one step.
abbrev pub one_step : Solved
one_step = solve 2 (line two) (0 ∷ []) (half ∷ neg half ∷ []) (nought ∷ nought ∷ [])

-- One unit from bus 2 over bus 1 to the ground at 0, with norm0 one: settled in the second of two iterations, whose direction is turned by beta, a half.
abbrev path : Network
path = network_of 3 (edges_of (0 ∷ 1 ∷ []) (1 ∷ 2 ∷ []) (one ∷ one ∷ [])) (0 ∷ [])

abbrev pub two_steps : Solved
two_steps = run path settled_share 2 (begin path settled_share (nought ∷ nought ∷ one ∷ []) (zeros 3))

-- No weight reaches bus 1, so no direction descends: dq is 0, and the guess is left as it is.
abbrev pub no_descent : Solved
no_descent = solve 2 (line nought) (0 ∷ []) (nought ∷ one ∷ []) (nought ∷ half ∷ [])

pub examples :
    ground_only ∷ one_step ∷ two_steps ∷ no_descent ∷ []
    ≡ solved (nought ∷ nought ∷ []) 0 (Settled nought)
    ∷ solved (nought ∷ minus_quarter ∷ []) 1 (Settled nought)
    ∷ solved (nought ∷ one ∷ two ∷ []) 2 (Settled nought)
    ∷ solved (nought ∷ half ∷ []) 0 (NoDescent nought)
    ∷ []
unfolding iter tab sum_to root grounded_of diag_of scatter kept shares along back less step run begin solve_from solve of_bits add sub mul div neg lt eq le ne
examples = refl

-- ---- refusals, lent a result and a work slice of ones: 10 names the edge and not the ground before it, and touches nothing;
-- 9 names the lowest bus whose angle is not finite, and leaves zeros
abbrev ones : ℕ → List Float
ones n = replicate n one

abbrev refuses : ℕ → ℕ → List Float → List Float → Outcome
refuses number index result work = record { reply = refused number index; result = result; work = work }

-- the second edge and the first ground name a bus that is not there
abbrev pub wrong_ends : Request
wrong_ends = request_of 2 2 1 (0 ∷ 1 ∷ []) (1 ∷ 2 ∷ []) (one ∷ one ∷ []) (one ∷ one ∷ []) (2 ∷ []) (zeros 2)

-- the norm overflows, so that the guess settles at once; bus 1's is infinite, and bus 0's gives way to the ground
abbrev pub infinite_guess : Request
infinite_guess = request_of 2 1 1 (0 ∷ []) (1 ∷ []) (one ∷ []) (nought ∷ of_bits binary64 0x7fe0_0000_0000_0000 ∷ []) (0 ∷ []) (infinity ∷ infinity ∷ [])

pub refusals :
    dc_angles wrong_ends (ones 2) (ones 16) ∷ dc_angles infinite_guess (ones 2) (ones 16) ∷ []
    ≡ refuses 10 1 (ones 2) (ones 16) ∷ refuses 9 1 (zeros 2) (zeros 16) ∷ []
unfolding dc_angles tests_of finish_if first number_of index_of iter tab sum_to root grounded_of diag_of scatter kept shares along back less step run begin solve_from solve of_bits add sub mul div neg lt eq le ne
refusals = refl
