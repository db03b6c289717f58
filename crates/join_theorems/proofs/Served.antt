-- A district within a larger case that no corridor leaves: each of its components has the units, the demand, the dispatch and the ground that it has alone.
-- Sums and outputs are over the same figures in the same order, so nothing is rounded otherwise.
use Prim.Native.Nat.{ℕ, ◌+◌, ◌≤◌, ◌<◌}
use mathlib.Core.Bool.{Bool, true, false, not, ◌&&◌}
use mathlib.Core.List.{List, [], ◌∷◌, ◌++◌}
use mathlib.Core.Path.{◌≡◌, refl, sym, ap, ◌∙◌}
use native.Mathlib.Omega.{arith}
use borrow.Author.Tests.{ne_eqb}
use lib.Dec.{eqb, ltb}
use lib.Ieee.{Float}
use lib.ListN.{length, get_or, length-map}
use Rattle.loops.specs.Figures.{at, plus, nought}
use Rattle.loops.proofs.Bools.{unequal}
use Rattle.dispatch_defs.specs.Units.{Units}
use Rattle.dispatch_defs.specs.Dispatch.{faulty_cost}
use Rattle.plan_defs.specs.Lists.{passing, sum_over}
use Rattle.plan_defs.specs.Stage.{going}
use Rattle.plan_defs.specs.Case.{Case, tops_up, load_of}
use Rattle.plan_defs.specs.TopUp.{given_by}
use Rattle.plan_defs.specs.Components.{leads, within, members, unit_within, units_in, slack_within, bus_or, ground_of}
use Rattle.plan_defs.specs.Dispatch.{units_at, demand_of, scatter, served_if, served_by, serve}
use Rattle.plan_defs.proofs.Lists.{All, pass_below}
use Rattle.join_defs.specs.Districts.{moved}
use Rattle.join_theorems.proofs.Lists.{eqb_moved, passing_within, each_moved, map_moved, scatter_middle, length_scatter}
use Rattle.join_theorems.proofs.Within.{LiesIn}

-- no leader of the district leads a bus outside it, and none outside one of its own; e buses and f generators follow
pub record Closed (c j : Case) (led wide : List ℕ) (b o e f : ℕ) : Type 0 where
  pub buses : length wide ≡ b + c.buses + e
  pub units : j.generators ≡ o + c.generators + f
  pub size : length led ≡ c.buses
  pub leader : (i : ℕ) → i < c.buses → get_or wide (b + i) 0 ≡ b + get_or led i 0
  pub before : (i : ℕ) → i < b → get_or wide i 0 < b
  pub after : (i : ℕ) → b + c.buses ≤ i → i < length wide → b + c.buses ≤ get_or wide i 0
  -- the same of the generators' buses
  pub bus_below : (k : ℕ) → k < c.generators → get_or c.bus k 0 < c.buses
  pub bus_before : (k : ℕ) → k < o → get_or j.bus k 0 < b
  pub bus_after : (k : ℕ) → o + c.generators ≤ k → k < j.generators → (b + c.buses ≤ get_or j.bus k 0) × (get_or j.bus k 0 < length wide)

pub leads_is : (c j : Case) (led wide : List ℕ) (b o e f : ℕ) → Closed c j led wide b o e f → (i : ℕ) → i < c.buses → leads wide (b + i) ≡ leads led i
leads_is c j led wide b o e f z i h = ap (λ (x : ℕ). eqb x (b + i)) (z.leader i h) ∙ eqb_moved b (get_or led i 0) i

module _ (c j : Case) (led wide : List ℕ) (b o m e f : ℕ) (w : LiesIn c j b o m) (z : Closed c j led wide b o e f) (root : ℕ) (inside : root < c.buses) where
  -- ---- who belongs to a component
  leader_is : (i : ℕ) → i < c.buses → within wide (b + root) (b + i) ≡ within led root i
  leader_is i h = ap (λ (x : ℕ). eqb x (b + root)) (z.leader i h) ∙ eqb_moved b (get_or led i 0) root

  not_before : (i : ℕ) → i < b → within wide (b + root) i ≡ false
  not_before i h = ne_eqb (get_or wide i 0) (b + root) (λ q. omega (arith, z.before i h))

  not_after : (i : ℕ) → b + c.buses ≤ i → i < length wide → within wide (b + root) i ≡ false
  not_after i l h = ne_eqb (get_or wide i 0) (b + root) (λ q. omega (arith, z.after i l h))

  members_are : members wide (b + root) ≡ moved b (members led root)
  members_are =
      ap (passing (within wide (b + root))) z.buses
      ∙ passing_within (within wide (b + root)) (within led root) b c.buses e not_before leader_is (λ i l h. not_after i l (omega (arith, z.buses)))
      ∙ ap (λ (n : ℕ). moved b (passing (within led root) n)) (sym z.size)

  unit_is : (k : ℕ) → k < c.generators → unit_within j wide (b + root) (o + k) ≡ unit_within c led root k
  unit_is k h = ap (within wide (b + root)) (w.bus k h) ∙ leader_is (get_or c.bus k 0) (z.bus_below k h)

  unit_before : (k : ℕ) → k < o → unit_within j wide (b + root) k ≡ false
  unit_before k h = not_before (get_or j.bus k 0) (z.bus_before k h)

  unit_after : (k : ℕ) → o + c.generators ≤ k → k < o + c.generators + f → unit_within j wide (b + root) k ≡ false
  unit_after k l h = let p = z.bus_after k l (omega (arith, z.units)) in not_after (get_or j.bus k 0) p.0 p.1

  units_are : units_in j wide (b + root) ≡ moved o (units_in c led root)
  units_are =
      ap (passing (unit_within j wide (b + root))) z.units
      ∙ passing_within (unit_within j wide (b + root)) (unit_within c led root) o c.generators f unit_before unit_is unit_after

  no_slack : (k : ℕ) → unit_within j wide (b + root) k ≡ false → slack_within j wide (b + root) k ≡ false
  no_slack k p = ap (λ (t : Bool). t && not (eqb (get_or j.slack k 0) 0)) p

  slack_are : passing (slack_within j wide (b + root)) j.generators ≡ moved o (passing (slack_within c led root) c.generators)
  slack_are =
      ap (passing (slack_within j wide (b + root))) z.units
      ∙ passing_within (slack_within j wide (b + root)) (slack_within c led root) o c.generators f
      (λ k h. no_slack k (unit_before k h))
      (λ k h. ap (λ (t : Bool). t && not (eqb (get_or j.slack (o + k) 0) 0)) (unit_is k h) ∙ ap (λ (x : ℕ). unit_within c led root k && not (eqb x 0)) (w.slack k h))
      (λ k l h. no_slack k (unit_after k l h))

  -- ---- its ground
  ground_of_lem : (ks : List ℕ) → All (λ k. k < c.generators) ks → bus_or j (b + root) (moved o ks) ≡ b + bus_or c root ks
  ground_of_lem [] h = refl
  ground_of_lem (k ∷ ks) h = w.bus k (h 0 (omega arith))

  pub ground_is : ground_of j wide (b + root) ≡ b + ground_of c led root
  ground_is =
      ap (bus_or j (b + root)) slack_are ∙ ground_of_lem (passing (slack_within c led root) c.generators) (pass_below (slack_within c led root) c.generators)

  -- ---- its demand and its units
  demand_is : demand_of j wide (b + root) ≡ demand_of c led root
  demand_is =
      ap (λ (ks : List ℕ). sum_over (load_of j) ks) members_are
      ∙ each_moved b c.buses (λ k s. plus s (load_of j k)) (λ k s. plus s (load_of c k)) (λ k s h. ap (plus s) (w.load k h)) (members led root)
      (λ i h. (let p = pass_below (within led root) (length led) i h in omega (arith, z.size))) nought

  limits_are : (ks : List ℕ) → All (λ k. k < c.generators) ks → units_at j (moved o ks) ≡ units_at c ks
  limits_are ks h =
      cc (
        map_moved o c.generators (at j.pmin) (at c.pmin) w.pmin ks h,
        map_moved o c.generators (at j.pmax) (at c.pmax) w.pmax ks h,
        map_moved o c.generators (at j.c1) (at c.c1) w.c1 ks h,
        map_moved o c.generators (at j.c2) (at c.c2) w.c2 ks h,
      )

  -- ---- its dispatch, put to the units' places; what stands before and after is left
  module _ (left right : List Float) (size : length left ≡ o) where
    put_within : (ks : List ℕ) → All (λ k. k < c.generators) ks → (u : Units) (demand : Float) (i : ℕ) (x y : List Float) → length x ≡ c.generators → (t : Bool)
        → served_if t (tops_up c.mode) ks u demand i x ≡ going y
        → (served_if t (tops_up c.mode) (moved o ks) u demand i (left ++ (x ++ right)) ≡ going (left ++ (y ++ right))) × (length y ≡ c.generators)
    unfolding served_if
    put_within ks h u demand i x y s true q = absurd (unequal (cc))
    put_within ks h u demand i x y s false q =
        let p : scatter ks (given_by (tops_up c.mode) u demand) x ≡ y = cc in (
          ap going (scatter_middle ks (given_by (tops_up c.mode) u demand) left right o c.generators size h x s ∙ ap (λ (l : List Float). left ++ (l ++ right)) p),
          ap length (sym p) ∙ length_scatter ks (given_by (tops_up c.mode) u demand) x ∙ s,
        )

    pub served_within : (x y : List Float) → length x ≡ c.generators → serve c led root x ≡ going y
        → (serve j wide (b + root) (left ++ (x ++ right)) ≡ going (left ++ (y ++ right))) × (length y ≡ c.generators)
    unfolding serve
    served_within x y s q =
        let ks = units_in c led root in
        let h = pass_below (unit_within c led root) c.generators in
        let u = units_at c ks in
        let d = demand_of c led root in
        let i = faulty_cost u d in
        let r = put_within ks h u d i x y s (ltb i (length ks)) q in
        let all = left ++ (x ++ right) in (
          ap (λ (l : List ℕ). served_by (tops_up j.mode) l (units_at j l) (demand_of j wide (b + root)) all) units_are
              ∙ ap (λ (v : Units). served_by (tops_up j.mode) (moved o ks) v (demand_of j wide (b + root)) all) (limits_are ks h)
              ∙ ap (λ (v : Float). served_by (tops_up j.mode) (moved o ks) u v all) demand_is
              ∙ ap (λ (t : Bool). served_by t (moved o ks) u d all) w.tops
              ∙ ap (λ (n : ℕ). served_if (ltb i n) (tops_up c.mode) (moved o ks) u d i all) (length-map ks (λ k. o + k))
              ∙ r.0,
          r.1,
        )
