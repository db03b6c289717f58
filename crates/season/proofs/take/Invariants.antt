-- The invariant: the places passed hold what they held and the circuits give, and the sums are untouched.
use Rattle.std.proofs.Common.{◌≡◌, min, max, get_or}
use Rattle.loops.specs.Loops.{filled}
use Rattle.season_defs.specs.Feeding.{sum64}
use Rattle.season.proofs.take.Given as goal

abbrev pub invariant-loop-k : goal.invariant-loop-k
invariant-loop-k l =
    let s = l.initial.season in
    (l.season.least ≡ filled s.least (λ j. min (get_or s.least j 0) (get_or l.circuits j 0)) l.k)
    × (l.season.greatest ≡ filled s.greatest (λ j. max (get_or s.greatest j 0) (get_or l.circuits j 0)) l.k)
    × (l.season.total ≡ filled s.total (λ j. sum64 (get_or s.total j 0) (get_or l.circuits j 0)) l.k)
    × (l.season.taken ≡ s.taken)
    × (l.season.rounds ≡ s.rounds)
    × (l.season.converged ≡ s.converged)
