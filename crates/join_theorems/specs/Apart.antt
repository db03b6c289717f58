-- Two districts apart in the joined case (document 02, K10): each generator's dispatch is its dispatch apart, and the second's grounds are moved by the first's
-- bus count. Angles and circuits may differ.
use Rattle.std.specs.Prelude.{ℕ, ◌+◌, ◌<◌, ◌++◌, ◌≡◌, length, get_or}
use Rattle.loops.specs.Figures.{at}
use Rattle.plan_defs.specs.Case.{Case}
use Rattle.plan_defs.specs.Plan.{Plan}
use Rattle.plan_defs.specs.Outcome.{Outcome}
use Rattle.plan_defs.specs.declared.CorridorPlan.{CorridorPlan}
use Rattle.join_defs.specs.Districts.{moved}

-- p, q and r are the plans of the first case, of the second and of the joined
pub record Apart (c d : Case) (p q r : Plan) : Type 0 where
  pub generators : length p.mw ≡ c.generators
  pub dispatch : r.mw ≡ p.mw ++ q.mw
  pub grounds : r.grounds ≡ p.grounds ++ moved c.buses q.grounds

-- the same of three calls of `plan_corridors`: o and x are what that of the first leaves and says, v and y the second's, w and z the joined's
pub record AnswersApart (c d : Case) (o v w : Outcome) (x y z : CorridorPlan) : Type 0 where
  pub first_dispatch : (k : ℕ) → k < c.generators → at w.lent.mw k ≡ at o.lent.mw k
  pub second_dispatch : (k : ℕ) → k < d.generators → at w.lent.mw (c.generators + k) ≡ at v.lent.mw k
  pub grounds : z.grounds ≡ x.grounds + y.grounds
  pub first_grounds : (i : ℕ) → i < x.grounds → get_or w.lent.ground i 0 ≡ get_or o.lent.ground i 0
  pub second_grounds : (i : ℕ) → i < y.grounds → get_or w.lent.ground (x.grounds + i) 0 ≡ c.buses + get_or v.lent.ground i 0
