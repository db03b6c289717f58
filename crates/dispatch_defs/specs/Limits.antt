-- What is true of a dispatch, and what a caller shows of its request so that refusal 8 alone is left.
use Rattle.std.specs.Prelude.{ℕ, ◌<◌, ◌≤◌, true, List, ◌≡◌, length, Float}
use Rattle.std.specs.Float.Ieee.{le}
use Rattle.loops.specs.Figures.{at}
use Rattle.dispatch_defs.specs.Units.{Units, Even, count, unit_ok_at}
use Rattle.loops.specs.Bounds.{most_generators}
use Rattle.dispatch_defs.specs.Operation.{demand_ok}

-- a place for each unit, each between the unit's limits
pub record Within (u : Units) (mw : List Float) : Type 0 where
  pub size : length mw ≡ count u
  pub low : (i : ℕ) → i < count u → le (at u.pmin i) (at mw i) ≡ true
  pub high : (i : ℕ) → i < count u → le (at mw i) (at u.pmax i) ≡ true

-- tables of one length, each unit's limits and costs in order
pub record SoundUnits (u : Units) : Type 0 where
  pub even : Even u
  pub each : (i : ℕ) → i < count u → unit_ok_at u i ≡ true

-- a request that 1, 2 and 5 let pass: n units, and as many places for the result
pub record Accepted (n : ℕ) (u : Units) (d : Float) (places : ℕ) : Type 0 where
  pub size : count u ≡ n
  pub room : places ≡ n
  pub few : n ≤ most_generators
  pub units : SoundUnits u
  pub demand : demand_ok d ≡ true
