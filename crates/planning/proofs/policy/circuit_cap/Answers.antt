-- The definition with its test decided.
use Rattle.std.proofs.Common.{arith}
use Rattle.plan_defs.specs.Case.{circuit_cap}
use Rattle.planning.proofs.policy.circuit_cap.Goals as goal

pub returns-then-promote-kv : goal.returns-then-promote-kv
unfolding circuit_cap
returns-then-promote-kv c = (simp c.if-promote-kv.true, omega arith)

pub returns-else-promote-kv : goal.returns-else-promote-kv
unfolding circuit_cap
returns-else-promote-kv c = (simp c.if-promote-kv.false, omega arith)
