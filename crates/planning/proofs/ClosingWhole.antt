-- Filling, closing and finishing of slices, lifted to the whole case and the defined plan.
-- The definitions read only fields of the case, so each law is by computing, with the lengths of the columns put in.
use Rattle.std.proofs.Common.{◌≡◌, ℕ, ◌-◌, ◌<◌, ◌≤◌, List, map, length, get_or, replicate, sym, refl, ap, ◌∙◌, arith}
use lib.ListN.{length-map}
use lib.Ieee.{Float, nan}
use Rattle.loops.specs.Figures.{at, nought}
use Rattle.loops.specs.Loops.{tab}
use Rattle.loops.proofs.Tab.{tab_same}
use Rattle.loops.proofs.Fronts.{get_map}
use Rattle.plan_defs.specs.Case.{Case, cap_at, full_at}
use Rattle.plan_defs.specs.Design.{no_design}
use Rattle.plan_defs.specs.Build.{drawn_all}
use Rattle.plan_defs.specs.Fill.{loading, loading_at, fill}
use Rattle.plan_defs.specs.Closing.{spread_of, loadings, max_loading, overloaded_of, capped_of, upsized_of, least_of, tiers_of, added_of}
use Rattle.plan_defs.specs.Plan.{Plan}
use Rattle.plan_defs.specs.Outcome.{Slices, slices, up_to, work_places, cleared, kept_of, held}
use Rattle.plan_defs.specs.declared.CircuitDesign.{CircuitDesign}
use Rattle.plan_theorems.proofs.Outcomes.{Lengths}
use Rattle.planning.specs.Fill.{designs_for, caps_for}
use Rattle.planning.specs.Close.{corridors_of, levels_for, loadings_by, closing_of, zeroed}
use Rattle.planning.specs.Sound.{Sound}
use Rattle.planning.specs.declared.close.Closing.{Closing}
use Rattle.planning.proofs.Draws.{Laid}
use Rattle.planning.proofs.Builds.{drawn_all_lifts}
use Rattle.plan_theorems.proofs.Demand.{least_most}
use Rattle.planning.proofs.Closings.{new_size}
use Rattle.planning.specs.Tables.{grid_of}

module _ (c : Case) (target : ℕ) (s : Sound c target) (level : List ℕ) (banks : List Float) where
  -- ---- the designs and the filling order
  pub designs_lift : (sheet : List Float) → Laid c sheet → designs_for (grid_of c.ladder c.a c.b c.km c.share c.cap sheet) level banks ≡ drawn_all c level banks
  designs_lift sheet laid = drawn_all_lifts c level sheet laid banks s.a_size s.ladder_size

-- ---- the filling
pub fill_lifts : (c : Case) (target : ℕ) (order counts : List ℕ) → fill (caps_for c.mode c.cap) target order counts ≡ fill c target order counts
unfolding fill full_at
fill_lifts c target order counts = refl

-- ---- the closing figures of any designs of the case's corridors
module _ (c : Case) (ds : List CircuitDesign) (size : length ds ≡ c.corridors) where
  abbrev ratings : List Float
  ratings = map (λ (d : CircuitDesign). d.rate_a) ds

  ratings_size : length ratings ≡ c.corridors
  ratings_size = length-map ds (λ (d : CircuitDesign). d.rate_a) ∙ size

  pub loadings_lift : (circuits : List ℕ) (flow : List Float) → loadings_by circuits flow ratings ≡ loadings c ds circuits flow
  unfolding loadings
  loadings_lift circuits flow =
      ap (λ (n : ℕ). tab n (λ (k : ℕ). loading (at flow k) (get_or circuits k 0) (at ratings k))) ratings_size
      ∙ tab_same c.corridors (λ (k : ℕ). loading (at flow k) (get_or circuits k 0) (at ratings k)) (loading_at ds circuits flow)
      (λ k h. ap (loading (at flow k) (get_or circuits k 0)) (get_map (λ (d : CircuitDesign). d.rate_a) ds k no_design nan (let w : k < length ds = omega arith in w)))

  pub capped_lifts : (circuits : List ℕ) (flow : List Float) → capped_of (corridors_of c.mode (length ds) c.cap) ds circuits flow ≡ capped_of c ds circuits flow
  unfolding capped_of cap_at
  capped_lifts circuits flow = ap (λ (n : ℕ). capped_of (corridors_of c.mode n c.cap) ds circuits flow) size

  pub added_count : (level : List ℕ) → c.above ≤ length c.ladder → c.above - least_of c.above level ≡ length (added_of c level)
  unfolding added_of
  added_count level h = sym (new_size c.ladder c.above (least_of c.above level) h (least_most c.above level))

  -- as the defined plan has them
  abbrev pub defined_closing : List ℕ → List ℕ → List ℕ → List ℕ → List Float → List Float → Closing
  defined_closing led level circuits upsized flow theta =
      record {
        upsized = upsized_of upsized;
        overloaded = overloaded_of (loadings c ds circuits flow);
        capped = capped_of c ds circuits flow;
        loading = max_loading (loadings c ds circuits flow);
        spread = spread_of led theta;
        added = length (added_of c level);
      }

  pub closing_lifts : (led level circuits upsized : List ℕ) (flow theta : List Float) → c.above ≤ length c.ladder
      → closing_of c.mode c.cap c.above led level ds circuits upsized flow theta ≡ defined_closing led level circuits upsized flow theta
  closing_lifts led level circuits upsized flow theta h = rw (loadings_lift circuits flow, capped_lifts circuits flow, added_count level h)

pub tiers_lift : (c : Case) (level : List ℕ) → tiers_of (levels_for c.above c.ladder) level ≡ tiers_of c level
unfolding tiers_of
tiers_lift c level = refl

pub added_lifts : (c : Case) (level : List ℕ) → added_of (levels_for c.above c.ladder) level ≡ added_of c level
unfolding added_of
added_lifts c level = refl

-- ---- the slices at the end
pub zeroed_is : (c : Case) (s : Slices) → Lengths c s → zeroed s ≡ cleared c
zeroed_is c s l =
    let e = l.stages in rw (e.circuits, e.flow, e.rate, l.before, l.order, l.cap, e.mw, e.angle, e.tier, e.ground, e.added, e.figures, e.counts)

pub held_is : (c : Case) (s : Slices) (p : Plan) → s.before ≡ kept_of c p.before → s.order ≡ kept_of c p.order → s.cap ≡ c.cap
    → s.circuits ≡ p.circuits → s.flow ≡ p.flow → s.rate ≡ map (λ (d : CircuitDesign). d.rate_a) p.designs → s.mw ≡ p.mw → s.angle ≡ p.angle
    → s.tier ≡ p.tier → s.ground ≡ up_to c.buses 0 p.grounds → s.added ≡ up_to c.above nought p.added
    → s.figures ≡ replicate (work_places c) nought → s.counts ≡ replicate (work_places c) 0
    → slices s.circuits s.flow s.rate s.before s.order s.cap s.mw s.angle s.tier s.ground s.added s.figures s.counts ≡ held c p
unfolding held
held_is c s p a b d e f g h i j k l m n = rw (a, b, d, e, f, g, h, i, j, k, l, m, n)
