-- Where no corridor has a cap of its own (document 02, K5) plans are what they were: every place that reads a cap finds 4 or 6, and filling is four turns
-- round the order with 4 for each corridor. No other definition of the plan reads the column.
use Prim.Native.Nat.{ℕ, ◌<◌}
use mathlib.Core.Bool.{Bool, true, false}
use mathlib.Core.List.{List}
use mathlib.Core.Path.{◌≡◌, refl, ap, ◌∙◌, fun_ext}
use native.Mathlib.Nat.{le_refl}
use lib.Ieee.{Float}
use lib.ListN.{length}
use Rattle.loops.specs.Sorting.{occ}
use Rattle.plan_defs.specs.Constants.{max_circuits_per_corridor}
use Rattle.plan_defs.specs.Case.{Case, promote, circuit_cap, own_cap, cap_by, full_by, cap_at, full_at}
use Rattle.plan_defs.specs.Fill.{Filled, unfilled, fill_rounds, filled_if, fill}
use Rattle.plan_theorems.proofs.Filling.{turns_enough}

-- filling before there were own caps: so many turns, and so many circuits, for every corridor
abbrev pub usual : ℕ → ℕ
usual k = max_circuits_per_corridor

abbrev pub usual_if : Bool → ℕ → List ℕ → Filled → Filled
usual_if true target order s = fill_rounds max_circuits_per_corridor usual target order s
usual_if false target order s = s

pub record Uncapped (c : Case) : Type 0 where
  -- sizing and the capped count
  pub sizing : (k : ℕ) (kv : Float) → cap_at c k kv ≡ circuit_cap (promote c.mode) kv
  -- stiffening
  pub stiffening : (k : ℕ) → full_at c k ≡ max_circuits_per_corridor
  -- filling, in an order that names each corridor once
  pub filling : (target : ℕ) (order counts : List ℕ) → length counts ≡ c.corridors → ((k : ℕ) → k < c.corridors → occ k order ≡ 1)
      → fill c target order counts ≡ usual_if (promote c.mode) target order (unfilled counts)

pub uncapped : (c : Case) → ((k : ℕ) → own_cap c k ≡ 0) → Uncapped c
unfolding cap_at full_at fill
uncapped c none =
    record {
      sizing = λ k kv. ap (λ (own : ℕ). cap_by c.mode own kv) (none k);
      stiffening = λ k. ap (λ (own : ℕ). full_by own) (none k);
      filling = λ target order counts size named. by target order counts size named (promote c.mode);
    }
  where
    full_is : (λ (k : ℕ). full_by (own_cap c k)) ≡ usual
    full_is = fun_ext (λ k. ap (λ (own : ℕ). full_by own) (none k))

    by : (target : ℕ) (order counts : List ℕ) → length counts ≡ c.corridors → ((k : ℕ) → k < c.corridors → occ k order ≡ 1) → (b : Bool)
        → filled_if b (λ k. full_by (own_cap c k)) target order (unfilled counts) ≡ usual_if b target order (unfilled counts)
    by target order counts size named false = refl
    by target order counts size named true =
        ap (λ (full : ℕ → ℕ). filled_if true full target order (unfilled counts)) full_is
        ∙ turns_enough usual target c.corridors max_circuits_per_corridor (λ k. le_refl max_circuits_per_corridor) counts 2 order named (unfilled counts) size refl
