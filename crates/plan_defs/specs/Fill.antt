-- Filling ("3. Fill to the requested branch count" of `plan_corridors`): the order, by the loading before filling, and then round and round it,
-- a circuit to each corridor that has fewer than its own cap, or than 4 where it has none, up to the target.
use Rattle.std.specs.Prelude.{ℕ, zero, suc, ◌+◌, Bool, true, false, ◌&&◌, ◌||◌, List, [], ◌∷◌, ltb, get_or, set, Float}
use Rattle.std.specs.Float.Ieee.{lt, eq}
use Rattle.loops.specs.Figures.{at, float, times, over, magnitude}
use Rattle.loops.specs.Loops.{iter}
use Rattle.loops.specs.Sorting.{insert_by}
use Rattle.plan_defs.specs.Constants.{most_cap}
use Rattle.plan_defs.specs.Lists.{each, sum}
use Rattle.plan_defs.specs.Case.{Case, promote, full_at}
use Rattle.plan_defs.specs.Design.{design}
use Rattle.plan_defs.specs.declared.CircuitDesign.{CircuitDesign}

-- ---- the order: loading falling, kV falling, length rising, then index
abbrev pub loading : Float → ℕ → Float → Float
loading flow count rate = over (magnitude flow) (times (float count) rate)

abbrev pub loading_at : List CircuitDesign → List ℕ → List Float → ℕ → Float
loading_at ds counts flows k = loading (at flows k) (get_or counts k 0) (design ds k).rate_a

pub record Rank : Type 0 where
  pub loading : Float
  pub kv : Float
  pub km : Float
  pub corridor : ℕ

abbrev pub rank_at : List CircuitDesign → List ℕ → List Float → ℕ → Rank
rank_at ds counts flows k =
    record { loading = loading_at ds counts flows k; kv = (design ds k).kv; km = (design ds k).length_km; corridor = k }

-- i comes before j, which has a lower index
abbrev pub before : Rank → Rank → Bool
before i j =
    lt j.loading i.loading
    || (eq j.loading i.loading && (lt j.kv i.kv || (eq j.kv i.kv && lt i.km j.km)))

abbrev pub rank_next : List CircuitDesign → List ℕ → List Float → ℕ → List Rank → List Rank
rank_next ds counts flows k l = insert_by before (rank_at ds counts flows k) l

unfoldable pub corridors_in : List Rank → List ℕ
corridors_in [] = []
corridors_in (r ∷ l) = r.corridor ∷ corridors_in l

-- seam: the filling order of m corridors
unfoldable pub order_of : ℕ → List CircuitDesign → List ℕ → List Float → List ℕ
order_of m ds counts flows = corridors_in (iter (rank_next ds counts flows) m 0 [])

-- ---- filling in an order
pub record Filled : Type 0 where
  pub counts : List ℕ
  pub total : ℕ
  pub filler : ℕ

abbrev pub unfilled : List ℕ → Filled
unfilled counts = record { counts = counts; total = sum counts; filler = 0 }

abbrev pub fill_if : Bool → ℕ → Filled → Filled
fill_if true k s = record { counts = set s.counts k (get_or s.counts k 0 + 1); total = s.total + 1; filler = s.filler + 1 }
fill_if false k s = s

-- `full k` is the most that corridor k is given (a place past the end has no room)
abbrev pub below_full : (ℕ → ℕ) → ℕ → Filled → Bool
below_full full k s = ltb (get_or s.counts k (full k)) (full k)

abbrev pub room : (ℕ → ℕ) → ℕ → ℕ → Filled → Bool
room full target k s = ltb s.total target && below_full full k s

abbrev pub fill_at : (ℕ → ℕ) → ℕ → ℕ → Filled → Filled
fill_at full target k s = fill_if (room full target k s) k s

-- once round, and so many times round
unfoldable pub fill_once : (ℕ → ℕ) → ℕ → List ℕ → Filled → Filled
fill_once full target order s = each (fill_at full target) order s

unfoldable pub fill_rounds : ℕ → (ℕ → ℕ) → ℕ → List ℕ → Filled → Filled
fill_rounds zero full target order s = s
fill_rounds (suc d) full target order s = fill_rounds d full target order (fill_once full target order s)

-- six times round, the most that a cap may be, bring every corridor to its cap, or the total to the target
abbrev pub fill_turns : ℕ
fill_turns = most_cap

-- only a mode that promotes fills
abbrev pub filled_if : Bool → (ℕ → ℕ) → ℕ → List ℕ → Filled → Filled
filled_if true full target order s = fill_rounds fill_turns full target order s
filled_if false full target order s = s

-- seam: the filling
unfoldable pub fill : Case → ℕ → List ℕ → List ℕ → Filled
fill c target order counts = filled_if (promote c.mode) (full_at c) target order (unfilled counts)
