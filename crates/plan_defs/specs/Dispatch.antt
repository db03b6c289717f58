-- Dispatch by component with ascending leader, refusal 8, and the injections: `plan_corridors` up to `let mut circuits`.
use Rattle.std.specs.Prelude.{ℕ, Bool, true, false, List, map, ltb, length, get_or, set, replicate, Float}
use Rattle.std.specs.Float.Ieee.{neg}
use Rattle.loops.specs.Figures.{at, plus, over, nought}
use Rattle.loops.specs.Loops.{iter, tab}
use Rattle.refusal.specs.declared.Refusal.TheVariants.{Cost}
use Rattle.dispatch_defs.specs.Units.{Units, units_of}
use Rattle.dispatch_defs.specs.Dispatch.{faulty_cost}
use Rattle.plan_defs.specs.Constants.{base_mva}
use Rattle.plan_defs.specs.Lists.{sum_over}
use Rattle.plan_defs.specs.Stage.{Stage, stopped, going, each_stage}
use Rattle.plan_defs.specs.Case.{Case, tops_up, load_of}
use Rattle.plan_defs.specs.TopUp.{given_by}
use Rattle.plan_defs.specs.Components.{roots, members, units_in}

-- ---- a component: its units in order, and its load
abbrev pub units_at : Case → List ℕ → Units
units_at c ks = units_of (map (at c.pmin) ks) (map (at c.pmax) ks) (map (at c.c1) ks) (map (at c.c2) ks)

abbrev pub demand_of : Case → List ℕ → ℕ → Float
demand_of c led root = sum_over (load_of c) (members led root)

-- each output to its unit's place
abbrev pub scatter_at : List ℕ → List Float → ℕ → List Float → List Float
scatter_at ks out j mw = set mw (get_or ks j 0) (at out j)

unfoldable pub scatter : List ℕ → List Float → List Float → List Float
scatter ks out mw = iter (scatter_at ks out) (length ks) 0 mw

-- what a component's units give, with the pass of K4 where the mode has it. Refusal 8 names the unit, by its index among all generators
unfoldable pub served_if : Bool → Bool → List ℕ → Units → Float → ℕ → List Float → Stage (List Float)
served_if true tops ks u demand i mw = stopped (Cost (get_or ks i 0))
served_if false tops ks u demand i mw = going (scatter ks (given_by tops u demand) mw)

abbrev pub served_at : Bool → List ℕ → Units → Float → ℕ → List Float → Stage (List Float)
served_at tops ks u demand i mw = served_if (ltb i (length ks)) tops ks u demand i mw

abbrev pub served_by : Bool → List ℕ → Units → Float → List Float → Stage (List Float)
served_by tops ks u demand mw = served_at tops ks u demand (faulty_cost u demand) mw

abbrev pub served : Case → List ℕ → Float → List Float → Stage (List Float)
served c ks demand mw = served_by (tops_up c.mode) ks (units_at c ks) demand mw

unfoldable pub serve : Case → List ℕ → ℕ → List Float → Stage (List Float)
serve c led root mw = served c (units_in c led root) (demand_of c led root) mw

-- ---- all of them, MW of each generator
unfoldable pub dispatch_of : Case → List ℕ → Stage (List Float)
dispatch_of c led = each_stage (serve c led) (roots led) (replicate c.generators nought)

-- ---- the injections of the buses, MW: minus the load, plus what the units give in their order; and per unit
abbrev pub inject_at : Case → List Float → ℕ → List Float → List Float
inject_at c mw k y = set y (get_or c.bus k 0) (plus (at y (get_or c.bus k 0)) (at mw k))

unfoldable pub injection_mw : Case → List Float → List Float
injection_mw c mw = iter (inject_at c mw) c.generators 0 (tab c.buses (λ i. neg (load_of c i)))

unfoldable pub injections : Case → List Float → List Float
injections c mw = let p = injection_mw c mw in tab c.buses (λ i. over (at p i) base_mva)
