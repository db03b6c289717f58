-- Where every weight is 1 (document 02, K6) a case is the one that has its readings for loads, bit for bit, and 4 is the test of the reading alone: so the
-- files of before plan as they did.
use Prim.Native.Nat.{ℕ, ◌<◌}
use mathlib.Core.Bool.{Bool, true, false, ◌&&◌}
use mathlib.Core.List.{List}
use mathlib.Core.Path.{◌≡◌, refl, ap, ◌∙◌}
use lib.Dec.{T, ltb}
use lib.ListN.{length, get_or}
use lib.Ieee.{Float, binary64, fits, lt, le, of_bits}
use Rattle.loops.specs.Figures.{at, nought, one, thousand, million, inside}
use Rattle.loads.specs.Load.{load_ok}
use Rattle.loads.proofs.One.{weights_one}
use Rattle.mode.specs.declared.PlanMode.{PlanMode}
use Rattle.plan_defs.specs.Case.{Case, case_of, surveyed}
use Rattle.plan_defs.specs.Accept.{bus_ok}

and_same : (b : Bool) → (b && b) ≡ b
and_same true = refl
and_same false = refl

weight_passes : (lt nought one && le one thousand) ≡ true
unfolding of_bits lt le
weight_passes = refl

-- the readings, which binary64 holds, as those of a slice of f64 are
module _ (mode : PlanMode) (n m g above requested : ℕ) (ladder : List Float) (tier : List ℕ) (reading weight : List Float) (bus slack : List ℕ) (pmin pmax c1 c2 : List Float)
    (a b circuits : List ℕ) (km share : List Float) (cap : List ℕ) (sheet : List Float)
    (size : length reading ≡ n) (held : (i : ℕ) → i < n → T (fits binary64 (at reading i))) (ones : (i : ℕ) → i < n → at weight i ≡ one) where
  abbrev read : List Float → Case
  read load = case_of mode n m g above requested ladder tier reading weight load bus slack pmin pmax c1 c2 a b circuits km share cap sheet

  abbrev given : Case
  given = surveyed mode n m g above requested ladder tier reading weight bus slack pmin pmax c1 c2 a b circuits km share cap sheet

  pub unweighed : given ≡ read reading
  unweighed = ap read (weights_one n reading weight size held ones)

  pub reading_tested : (i : ℕ) → i < n → bus_ok given i ≡ (ltb (get_or tier i 0) requested && inside nought million (at reading i))
  unfolding bus_ok
  reading_tested i h =
      ap (λ (l : List Float). ltb (get_or tier i 0) requested && load_ok (at reading i) (at weight i) (at l i)) (weights_one n reading weight size held ones)
      ∙ ap (λ (w : Float). ltb (get_or tier i 0) requested && load_ok (at reading i) w (at reading i)) (ones i h)
      ∙ ap (λ (t : Bool). ltb (get_or tier i 0) requested && (inside nought million (at reading i) && (t && inside nought million (at reading i)))) weight_passes
      ∙ ap (λ (t : Bool). ltb (get_or tier i 0) requested && t) (and_same (inside nought million (at reading i)))
