-- The pass after a component's dispatch under modes 3 to 5 (document 02, K4): while the demand less the sum is above zero, all units, once each by c1, then
-- index, become the lesser of pmax and their MW plus that difference, the sum (by index) worked out afresh after each. It ends at the first unit left below pmax.
use Rattle.std.specs.Prelude.{ℕ, Bool, true, false, List, [], ◌∷◌, length, set, Float}
use Rattle.std.specs.Float.Ieee.{lt}
use Rattle.loops.specs.Figures.{at, plus, nought, lesser}
use Rattle.loops.specs.Loops.{iter}
use Rattle.loops.specs.Sorting.{insert_by}
use Rattle.dispatch_defs.specs.Units.{Units}
use Rattle.dispatch_defs.specs.Share.{gap_of}
use Rattle.dispatch_defs.specs.Dispatch.{economic_dispatch}

-- ---- the order: c1 rising, then index. k, put in after those of a lower index, comes before j where it is cheaper
abbrev pub cheaper : List Float → ℕ → ℕ → Bool
cheaper c1 k j = lt (at c1 k) (at c1 j)

unfoldable pub by_cost : List Float → List ℕ
by_cost c1 = iter (insert_by (cheaper c1)) (length c1) 0 []

-- ---- one unit, where the gap is above zero, and `next` those after it
abbrev pub topped_to : Float → Float → Float → Float
topped_to pmax mw gap = lesser pmax (plus mw gap)

-- a unit left below pmax is the last
abbrev pub unless_below : Bool → List Float → (List Float → List Float) → List Float
unless_below true out next = out
unless_below false out next = next out

abbrev pub topped_at : Float → ℕ → Float → List Float → (List Float → List Float) → List Float
topped_at pmax k mw out next = unless_below (lt mw pmax) (set out k mw) next

abbrev pub topped_if : Bool → Float → ℕ → Float → List Float → (List Float → List Float) → List Float
topped_if true pmax k gap out next = topped_at pmax k (topped_to pmax (at out k) gap) out next
topped_if false pmax k gap out next = out

abbrev pub topped_by : Float → ℕ → Float → List Float → (List Float → List Float) → List Float
topped_by pmax k gap out next = topped_if (lt nought gap) pmax k gap out next

-- ---- the units of a list in turn
unfoldable pub top_up : List Float → Float → List ℕ → List Float → List Float
top_up pmax demand [] out = out
top_up pmax demand (k ∷ ks) out = topped_by (at pmax k) k (gap_of demand out) out (top_up pmax demand ks)

-- ---- seam: what a component's units give, with the pass and without it
abbrev pub given_by : Bool → Units → Float → List Float
given_by false u demand = economic_dispatch u demand
given_by true u demand = top_up u.pmax demand (by_cost u.c1) (economic_dispatch u demand)
