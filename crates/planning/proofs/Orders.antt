-- The filling order from the columns that code keeps is the defined one.
use Rattle.std.proofs.Common.{◌≡◌, ℕ, ◌<◌, Bool, List, length, All, sym, refl, ap, ◌∙◌, arith}
use lib.Ieee.{Float, nan}
use Rattle.loops.specs.Figures.{at}
use Rattle.loops.specs.Loops.{tab}
use Rattle.loops.proofs.Tab.{get_tab}
use Rattle.plan_defs.specs.Design.{design, drawn}
use Rattle.plan_defs.proofs.Drawn.{drawn_at, drawn_km}
use Rattle.planning.specs.Design.{lines_for}
use Rattle.plan_defs.specs.Fill.{loading_at, order_of}
use Rattle.plan_defs.specs.declared.CircuitDesign.{CircuitDesign}
use Rattle.plan_theorems.proofs.Ranking.{comes_in_order, order_inserted}
use Rattle.planning.specs.Fill.{designs_for, rank_before, order_by}
use Rattle.planning.proofs.Insertion.{order_same, order_names}
use Rattle.planning.specs.Tables.{GridColumns}

module _ (ds : List CircuitDesign) (counts : List ℕ) (flows : List Float) where
  -- the defined order's own rule
  abbrev comes : ℕ → ℕ → Bool
  comes = comes_in_order ds counts flows

  order_is : (m : ℕ) → order_of m ds counts flows ≡ order_by comes m
  unfolding order_by
  order_is m = order_inserted ds counts flows m

  -- ---- from columns that hold each corridor's loading, kV and length
  pub order_columns : (loading kv km : List Float) (m : ℕ)
      → ((k : ℕ) → k < m → at loading k ≡ loading_at ds counts flows k)
      → ((k : ℕ) → k < m → at kv k ≡ (design ds k).kv)
      → ((k : ℕ) → k < m → at km k ≡ (design ds k).length_km)
      → order_by (rank_before loading kv km) m ≡ order_of m ds counts flows
  order_columns loading kv km m p q r =
      order_same m (rank_before loading kv km) comes (λ k j h w. rw (p k h, p j w, q k h, q j w, r k h, r j w)) ∙ sym (order_is m)

  -- an order names corridors
  pub corridors_named : (m : ℕ) (order : List ℕ) → order ≡ order_of m ds counts flows → All (λ (j : ℕ). j < m) order
  corridors_named m order e = order_names comes m order (e ∙ order_is m) m (omega arith)

-- ---- the design that code draws is the one in its place
pub drawn_here : (grid : GridColumns) (level : List ℕ) (banks : List Float) (k : ℕ) (d : CircuitDesign) → k < length grid.a
    → d ≡ drawn (lines_for grid) level k (at banks k) → d ≡ design (designs_for grid level banks) k
drawn_here grid level banks k d h e = e ∙ sym (drawn_at (lines_for grid) level banks k h)

-- ---- the order from columns of the corridors' figures
module _ (grid : GridColumns) (level : List ℕ) (banks : List Float) (circuits : List ℕ) (flow : List Float) where
  abbrev ds : List CircuitDesign
  ds = designs_for grid level banks

  pub order_made : (loading kv : List Float) (order : List ℕ) → length grid.km ≡ length grid.a
      → loading ≡ tab (length grid.a) (loading_at ds circuits flow) → kv ≡ tab (length grid.a) (λ (k : ℕ). (design ds k).kv)
      → order ≡ order_by (rank_before loading kv grid.km) (length grid.km) → order ≡ order_of (length grid.a) ds circuits flow
  order_made loading kv order e p q r =
      r ∙ ap (order_by (rank_before loading kv grid.km)) e
      ∙ order_columns ds circuits flow loading kv grid.km (length grid.a)
      (λ k h. ap (λ (l : List Float). at l k) p ∙ get_tab (length grid.a) (loading_at ds circuits flow) k nan h)
      (λ k h. ap (λ (l : List Float). at l k) q ∙ get_tab (length grid.a) (λ (j : ℕ). (design ds j).kv) k nan h)
      (λ k h. sym (drawn_km (lines_for grid) level k (at banks k)) ∙ ap (λ (d : CircuitDesign). d.length_km) (drawn_here grid level banks k _ h refl))
