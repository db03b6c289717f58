-- The closing figures of `plan_corridors`, of the circuits after filling: the spread, the loadings, the counts of overloaded, capped and upsized corridors,
-- the tiers and the levels added.
use Rattle.std.specs.Prelude.{ℕ, ◌-◌, min, Bool, ◌&&◌, List, [], ◌∷◌, map, leb, length, get_or, take, drop, Float}
use Rattle.std.specs.Float.Ieee.{lt}
use Rattle.loops.specs.Figures.{at, float, plus, minus, over, nought, one, infinity, minus_infinity, lesser, greater, magnitude}
use Rattle.loops.specs.Loops.{iter, tab}
use Rattle.plan_defs.specs.Constants.{planning_utilisation, loading_tolerance}
use Rattle.plan_defs.specs.Lists.{counting, each}
use Rattle.plan_defs.specs.Case.{Case, expand, cap_at}
use Rattle.plan_defs.specs.Components.{roots, members}
use Rattle.plan_defs.specs.Design.{design}
use Rattle.plan_defs.specs.Fill.{loading_at}
use Rattle.plan_defs.specs.declared.CircuitDesign.{CircuitDesign}

-- ---- the widest spread of a component's angles, radians
abbrev pub highest : List Float → List ℕ → Float
highest theta buses = each (λ i m. greater m (at theta i)) buses minus_infinity

abbrev pub lowest : List Float → List ℕ → Float
lowest theta buses = each (λ i m. lesser m (at theta i)) buses infinity

abbrev pub spread_in : List Float → List ℕ → Float
spread_in theta buses = minus (highest theta buses) (lowest theta buses)

unfoldable pub spread_of : List ℕ → List Float → Float
spread_of led theta = each (λ root m. greater m (spread_in theta (members led root))) (roots led) nought

-- ---- loadings
unfoldable pub loadings : Case → List CircuitDesign → List ℕ → List Float → List Float
loadings c ds counts flows = tab c.corridors (loading_at ds counts flows)

unfoldable pub max_loading : List Float → Float
max_loading l = iter (λ k m. greater m (at l k)) (length l) 0 nought

unfoldable pub overloaded_of : List Float → ℕ
overloaded_of l = counting (λ k. lt (plus one loading_tolerance) (at l k)) (length l)

-- ---- corridors at their cap and in want of more circuits
abbrev pub need_of : Float → Float → Float
need_of flow rate = over (over (magnitude flow) planning_utilisation) rate

abbrev pub capped_at : Case → List CircuitDesign → List ℕ → List Float → ℕ → Bool
capped_at c ds counts flows k =
    expand c.mode
    && (leb (cap_at c k (design ds k).kv) (get_or counts k 0)
    && lt (plus (float (get_or counts k 0)) loading_tolerance) (need_of (at flows k) (design ds k).rate_a))

unfoldable pub capped_of : Case → List CircuitDesign → List ℕ → List Float → ℕ
capped_of c ds counts flows = counting (capped_at c ds counts flows) c.corridors

unfoldable pub upsized_of : List ℕ → ℕ
upsized_of upsized = counting (λ k. leb 1 (get_or upsized k 0)) (length upsized)

-- ---- the levels above that no bus took are dropped; tiers count from the highest level in use, or from the request where none above is
unfoldable pub least_of : ℕ → List ℕ → ℕ
least_of top [] = top
least_of top (l ∷ level) = least_of (min top l) level

abbrev pub unused : Case → List ℕ → ℕ
unused c level = least_of c.above level

unfoldable pub tiers_of : Case → List ℕ → List ℕ
tiers_of c level = map (λ l. l - unused c level) level

unfoldable pub added_of : Case → List ℕ → List Float
added_of c level = drop (unused c level) (take c.above c.ladder)
