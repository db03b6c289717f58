-- The closing figures as code's loops make them are the defined ones.
-- A loop over those that pass a test is a loop over all with the test; a table's figure is read off its place.
use Rattle.std.proofs.Common.{◌≡◌, ℕ, zero, suc, ◌+◌, ◌-◌, ◌<◌, ◌≤◌, min, Bool, true, false, cond, ltb, List, [], ◌∷◌, map, length, get_or, take, drop, fold, replicate, sym, refl, ap, ◌∙◌, arith, length-append, length-drop, length-take, get_or-drop, get_or-take, get_or-append-add, ext_get_or, ltb-false, ltb-true, eq-eqb}
use lib.ListN.{length-replicate, get_or-replicate, get_or-append}
use lib.Ieee.{Float, nan, lt}
use Rattle.loops.specs.Figures.{at, plus, minus, nought, one, greater}
use Rattle.loops.specs.Loops.{iter, tab}
use Rattle.loops.proofs.Tab.{length_tab, get_tab, tab_of, tab_same}
use Rattle.loops.proofs.Fronts.{map_tab}
use Rattle.mode.specs.declared.PlanMode.{PlanMode}
use Rattle.plan_defs.specs.Constants.{loading_tolerance}
use Rattle.plan_defs.specs.Lists.{keep, pass_from, counting, each}
use Rattle.plan_defs.specs.Case.{cap_by, cap_at}
use Rattle.plan_defs.specs.Components.{within, leads, members}
use Rattle.plan_defs.specs.Design.{drawn, design}
use Rattle.plan_defs.specs.Build.{drawn_all}
use Rattle.plan_defs.specs.Fill.{loading}
use Rattle.plan_defs.specs.Closing.{highest, lowest, spread_in, spread_of, max_loading, overloaded_of, capped_at, capped_of, upsized_of, least_of, tiers_of, added_of}
use Rattle.plan_defs.specs.Outcome.{up_to}
use Rattle.plan_defs.specs.declared.CircuitDesign.{CircuitDesign}
use Rattle.plan_defs.proofs.Drawn.{length_drawn}
use Rattle.plan_theorems.proofs.Demand.{least_most}
use Rattle.planning.specs.Design.{lines_for}
use Rattle.planning.specs.Fill.{designs_for}
use Rattle.planning.specs.Close.{corridors_of, levels_for, wider_by, loadings_by, cap_full, added_at, closing_of}
use Rattle.planning.proofs.Orders.{drawn_here}
use Rattle.planning.specs.Tables.{GridColumns}

-- ---- the spread
each_tested : {S : Type 0} (f : ℕ → S → S) (p : ℕ → Bool) (d i : ℕ) (s : S) → each f (pass_from p d i) s ≡ iter (λ j t. cond (p j) (f j t) t) d i s
unfolding each pass_from iter
each_tested f p zero i s = refl
each_tested f p (suc d) i s = go (p i) (each_tested f p d (suc i))
  where
    go : (b : Bool) → ((t : _) → each f (pass_from p d (suc i)) t ≡ iter (λ j t. cond (p j) (f j t) t) d (suc i) t)
        → each f (keep b i (pass_from p d (suc i))) s ≡ iter (λ j t. cond (p j) (f j t) t) d (suc i) (cond b (f i s) s)
    go true rest = rest (f i s)
    go false rest = rest s

module _ (led : List ℕ) (theta : List Float) where
  abbrev pub picking : (Float → Float → Float) → ℕ → ℕ → Float → Float
  picking f root i m = cond (within led root i) (f m (at theta i)) m

  pub picking_is : (f : Float → Float → Float) (root : ℕ) (start : Float) → iter (picking f root) (length led) 0 start ≡ each (λ i m. f m (at theta i)) (members led root) start
  picking_is f root start = sym (each_tested (λ i m. f m (at theta i)) (within led root) (length led) 0 start)

  module _ (i : ℕ) (m : Float) where
    abbrev widest : Bool → Float
    widest b = cond b (greater m (spread_in theta (members led i))) m

    pub wider_leads : (r x y : Float) → get_or led i 0 ≡ i → x ≡ highest theta (members led i) → y ≡ lowest theta (members led i) → r ≡ greater m (minus x y)
        → r ≡ wider_by led theta i m
    wider_leads r x y e p q s =
        s ∙ ap (λ (z : Float). greater m (minus z y)) p ∙ ap (λ (z : Float). greater m (minus (highest theta (members led i)) z)) q
        ∙ sym (ap widest (eq-eqb (get_or led i 0) i e))

  pub spread_is : iter (wider_by led theta) (length led) 0 nought ≡ spread_of led theta
  unfolding spread_of
  spread_is = sym (each_tested (λ root m. greater m (spread_in theta (members led root))) (leads led) (length led) 0 nought)

-- ---- ratings and loadings
module _ (grid : GridColumns) (level : List ℕ) (banks : List Float) where
  abbrev rate_of : ℕ → Float
  rate_of k = (drawn (lines_for grid) level k (at banks k)).rate_a

  rates_are : tab (length grid.a) rate_of ≡ map (λ (d : CircuitDesign). d.rate_a) (designs_for grid level banks)
  unfolding drawn_all
  rates_are = sym (map_tab (λ (d : CircuitDesign). d.rate_a) (length grid.a) (λ (k : ℕ). drawn (lines_for grid) level k (at banks k)))

  pub rates_drawn : (rate : List Float) → rate ≡ tab (length grid.a) (λ k. (design (designs_for grid level banks) k).rate_a)
      → rate ≡ map (λ (d : CircuitDesign). d.rate_a) (designs_for grid level banks)
  rates_drawn rate h =
      h
      ∙ tab_same (length grid.a) _ rate_of (λ k w. ap (λ (d : CircuitDesign). d.rate_a) (sym (drawn_here grid level banks k _ w refl)))
      ∙ rates_are

module _ (circuits : List ℕ) (flow rate : List Float) where
  abbrev pub loading_of : ℕ → Float
  loading_of k = loading (at flow k) (get_or circuits k 0) (at rate k)

  loaded_at : (k : ℕ) → k < length rate → at (loadings_by circuits flow rate) k ≡ loading_of k
  loaded_at k h = get_tab (length rate) loading_of k nan h

  abbrev pub most : ℕ → Float → Float
  most k m = greater m (at (loadings_by circuits flow rate) k)

  pub max_start : iter most (length rate) 0 nought ≡ max_loading (loadings_by circuits flow rate)
  unfolding max_loading
  max_start = ap (λ (n : ℕ). iter most n 0 nought) (sym (length_tab (length rate) loading_of))

  pub max_next : (k : ℕ) (m x y : Float) → k < length rate → x ≡ loading_of k → y ≡ greater m x → y ≡ most k m
  max_next k m x y h e f = f ∙ ap (greater m) (e ∙ sym (loaded_at k h))

  abbrev pub heavy : ℕ → Bool
  heavy k = lt (plus one loading_tolerance) (at (loadings_by circuits flow rate) k)

  pub heavy_is : (k : ℕ) (x : Float) → k < length rate → x ≡ loading_of k → lt (plus one loading_tolerance) x ≡ heavy k
  heavy_is k x h e = ap (lt (plus one loading_tolerance)) (e ∙ sym (loaded_at k h))

  pub overloaded_is : counting heavy (length rate) ≡ overloaded_of (loadings_by circuits flow rate)
  unfolding overloaded_of
  overloaded_is = ap (counting heavy) (sym (length_tab (length rate) loading_of))

-- ---- corridors at their cap
module _ (mode : PlanMode) (grid : GridColumns) (level : List ℕ) (banks : List Float) (circuits : List ℕ) (flow : List Float) where
  abbrev ds : List CircuitDesign
  ds = designs_for grid level banks

  abbrev pub capped_in : ℕ → Bool
  capped_in = capped_at (corridors_of mode (length grid.a) grid.cap) ds circuits flow

  pub capped_is : (k full : ℕ) (d : CircuitDesign) → k < length grid.a → d ≡ drawn (lines_for grid) level k (at banks k)
      → full ≡ cap_by mode (get_or grid.cap k 0) d.kv → cap_full mode full (get_or circuits k 0) (at flow k) d.rate_a ≡ capped_in k
  unfolding cap_at
  capped_is k full d h e g =
      ap (λ (n : ℕ). cap_full mode n (get_or circuits k 0) (at flow k) d.rate_a) g
      ∙ ap (λ (x : CircuitDesign). cap_full mode (cap_by mode (get_or grid.cap k 0) x.kv) (get_or circuits k 0) (at flow k) x.rate_a)
      (drawn_here grid level banks k d h e)

-- ---- levels
pub least_is : (top : ℕ) (l : List ℕ) → fold (λ n x. min n x) top l ≡ least_of top l
unfolding least_of
least_is top [] = refl
least_is top (x ∷ l) = least_is (min top x) l

pub tab_map : (f : ℕ → ℕ) (l : List ℕ) → tab (length l) (λ i. f (get_or l i 0)) ≡ map f l
tab_map f l = sym (map_tab f (length l) (λ i. get_or l i 0)) ∙ ap (map f) (tab_of (length l) l 0 refl)

-- the levels added, with zero past them
module _ (ladder : List Float) (above u : ℕ) (within-ladder : above ≤ length ladder) (few : u ≤ above) where
  abbrev new : List Float
  new = drop u (take above ladder)

  pub new_size : length new ≡ above - u
  new_size = length-drop u (take above ladder) ∙ ap (λ (n : ℕ). n - u) (length-take above ladder ∙ (omega arith))

  abbrev whole : List Float
  whole = up_to above nought new

  whole_size : length whole ≡ above
  whole_size = length-append new (replicate (above - length new) nought) ∙ omega (arith, new_size, length-replicate (above - length new) nought)

  here : (j : ℕ) → j < above → (b : Bool) → ltb (u + j) above ≡ b → cond b (at ladder (u + j)) nought ≡ get_or whole j nan
  here j h true e =
      let w : u + j < above = ltb-true (u + j) above e in
      sym (get_or-append new (replicate (above - length new) nought) nan j (omega (arith, new_size))
      ∙ get_or-drop u (take above ladder) j nan ∙ get_or-take above ladder (u + j) nan w)
  here j h false e =
      let w : above ≤ u + j = ltb-false (u + j) above e in
      let z : j ≡ length new + (j - length new) = omega (arith, new_size) in
      let y : j - length new < above - length new = omega (arith, new_size) in
      sym (ap (λ (i : ℕ). get_or whole i nan) z
      ∙ get_or-append-add new (replicate (above - length new) nought) (j - length new) nan
      ∙ get_or-replicate (above - length new) (j - length new) nought nan y)

  pub added_is : tab above (added_at ladder above u) ≡ up_to above nought new
  added_is =
      ext_get_or nan (tab above (added_at ladder above u)) whole (length_tab above (added_at ladder above u) ∙ sym whole_size)
      (λ j b. let h : j < above = omega (arith, length_tab above (added_at ladder above u)) in get_tab above (added_at ladder above u) j nan h ∙ here j h (ltb (u + j) above) refl)

-- ---- all of it: ratings first, then the figures from them
module _ (mode : PlanMode) (above : ℕ) (grid : GridColumns) (led level : List ℕ) (banks : List Float) (circuits upsized : List ℕ)
    (flow theta rate : List Float) (rated : rate ≡ map (λ (d : CircuitDesign). d.rate_a) (designs_for grid level banks)) where
  abbrev designs : List CircuitDesign
  designs = designs_for grid level banks

  designs_size : length designs ≡ length grid.a
  designs_size = length_drawn (lines_for grid) level banks

  pub closing_is : (enlarged heavy full dropped : ℕ) (high wide : Float) → enlarged ≡ upsized_of upsized → heavy ≡ overloaded_of (loadings_by circuits flow rate)
      → full ≡ capped_of (corridors_of mode (length grid.a) grid.cap) designs circuits flow → high ≡ max_loading (loadings_by circuits flow rate) → wide ≡ spread_of led theta
      → dropped ≡ least_of above level
      → record { upsized = enlarged; overloaded = heavy; capped = full; loading = high; spread = wide; added = above - dropped }
      ≡ closing_of mode grid.cap above led level designs circuits upsized flow theta
  closing_is enlarged heavy full dropped high wide e f g h i j =
      let x = f ∙ ap (λ (r : List Float). overloaded_of (loadings_by circuits flow r)) rated in
      let y = h ∙ ap (λ (r : List Float). max_loading (loadings_by circuits flow r)) rated in
      let z = g ∙ ap (λ (n : ℕ). capped_of (corridors_of mode n grid.cap) designs circuits flow) (sym designs_size) in
      rw (e, x, y, z, i, j)

-- the tiers, and the levels added
pub tiers_are : (above : ℕ) (ladder : List Float) (level tiers : List ℕ) (dropped : ℕ) → tiers ≡ map (λ (l : ℕ). l - dropped) level → dropped ≡ least_of above level
    → tiers ≡ tiers_of (levels_for above ladder) level
unfolding tiers_of
tiers_are above ladder level tiers dropped e f = e ∙ ap (λ (n : ℕ). map (λ (l : ℕ). l - n) level) f

pub added_are : (above : ℕ) (ladder : List Float) (level : List ℕ) (added : List Float) (dropped : ℕ) → above ≤ length ladder → dropped ≡ least_of above level
    → added ≡ tab above (added_at ladder above dropped) → added ≡ up_to above nought (added_of (levels_for above ladder) level)
unfolding added_of
added_are above ladder level added dropped h e f =
    f ∙ ap (λ (n : ℕ). tab above (added_at ladder above n)) e ∙ added_is ladder above (least_of above level) h (least_most above level)
