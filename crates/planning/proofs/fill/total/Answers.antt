use Rattle.std.proofs.Common.{◌≡◌, ◌^◌, ◌<◌, ◌+◌, ℕ, ◌∙◌, rules}
use Rattle.std.specs.Prelude.{fold}
use Rattle.planning.proofs.Fillings.{sum_is, sum_few}
use Rattle.planning.proofs.fill.total.Goals as goal

pub sum-requires-clause-fits : goal.sum-requires-clause-fits
sum-requires-clause-fits c = let h : fold (λ (s x : ℕ). s + x) 0 c.args.circuits.now < 2 ^ 32 = sum_few c.args.circuits.now c.requires in search (rules, h)

pub returns : goal.returns
returns c = let h : c.sum.result ≡ fold (λ (s x : ℕ). s + x) 0 c.args.circuits.now = search rules in h ∙ sum_is c.args.circuits.now
