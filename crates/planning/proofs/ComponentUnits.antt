-- A component's units and demand pass every check of dispatch but 8; so what they give, or 8, handed out, is the defined `serve`.
-- Each unit picked is a sound unit of the table, and the demand is in bounds.
use Rattle.std.proofs.Common.{◌≡◌, ℕ, ◌<◌, ◌≤◌, Bool, true, false, ltb, List, [], map, length, get_or, sym, refl, ap, ◌∙◌, subst, arith, ltb-true}
use lib.ListN.{length-map}
use lib.Ieee.{Float, nan}
use Rattle.loops.proofs.Bools.{unequal}
use Rattle.loops.specs.Figures.{at, nought, million, inside}
use Rattle.refusal.specs.Number.{index_of}
use Rattle.refusal.specs.declared.Refusal.{Refusal}
use Rattle.refusal.specs.declared.Refusal.TheVariants.{Cost}
use Rattle.mode.specs.declared.PlanMode.{PlanMode}
use Rattle.dispatch_defs.specs.Units.{Units, count, units_of}
use Rattle.dispatch_defs.specs.Dispatch.{faulty_cost}
use Rattle.dispatch_defs.specs.Operation.{demand_ok}
use Rattle.dispatch_defs.specs.Limits.{Accepted, SoundUnits}
use Rattle.plan_defs.specs.Stage.{Stage, stopped, going}
use Rattle.plan_defs.specs.Lists.{sum_over}
use Rattle.plan_defs.specs.Case.{Case, tops_up}
use Rattle.plan_defs.specs.Components.{within, members, unit_within, units_in}
use Rattle.plan_defs.specs.Dispatch.{units_at, demand_of, scatter, served_if, serve}
use Rattle.planning.specs.Opening.{stage_of, bus_case, dispatch_case, given_if, given_stage, Picked}
use Rattle.plan_defs.proofs.Lists.{pass_length}
use Rattle.planning.proofs.Passing.{pass_below}
use Rattle.loops.proofs.Fronts.{get_map}
use Rattle.plan_theorems.proofs.Demanded.{demand_ok_lem}
use Rattle.std.specs.Prelude.{Err, Result}
use Rattle.refusal.specs.Reply.{no_refusal}
use Rattle.planning.specs.Supplied.{SupplyColumns, Supplied}
use Rattle.plan_defs.specs.Constants.{most_buses, most_generators}

module _ (led bus : List ℕ) (root : ℕ) where
  abbrev units : List ℕ
  units = units_in (bus_case bus) led root

  pub units_below : (j : ℕ) → j < length units → get_or units j 0 < length bus
  units_below j h = omega (arith, pass_below (unit_within (bus_case bus) led root) (length bus) 0 j h)

  pub units_few : length units ≤ length bus
  units_few = pass_length (unit_within (bus_case bus) led root) (length bus) 0

  pub picked : (ks : List ℕ) (places : ℕ) → ks ≡ units → length bus ≤ most_generators → places ≡ length bus → Picked ks places
  picked ks places q few r =
      record {
        few = omega (arith, ap length q, units_few, few);
        below = λ j h.
            let l : j < length units = omega (arith, ap length q, h) in
            omega (arith, ap (λ (u : List ℕ). get_or u j 0) q, r, units_below j l);
      }

-- ---- what the units give, handed out to their places; 8 names a unit by its index among all generators
abbrev handed : List ℕ → List Float → Stage (List Float) → Stage (List Float)
handed ks mw (stopped f) = stopped (Cost (get_or ks (index_of f) 0))
handed ks mw (going out) = going (scatter ks out mw)

handed_as : (b tops : Bool) (ks : List ℕ) (u : Units) (d : Float) (mw : List Float) → handed ks mw (given_if b tops u d) ≡ served_if b tops ks u d (faulty_cost u d) mw
unfolding served_if index_of
handed_as true tops ks u d mw = refl
handed_as false tops ks u d mw = refl

refused_below : (tops : Bool) (u : Units) (d : Float) (f : Refusal) → stopped f ≡ given_stage tops u d → index_of f < count u
unfolding index_of
refused_below tops u d f e = go (ltb (faulty_cost u d) (count u)) refl e
  where
    go : (b : Bool) → ltb (faulty_cost u d) (count u) ≡ b → stopped f ≡ given_if b tops u d → index_of f < count u
    go true q h = let z : f ≡ Cost (faulty_cost u d) = cc in subst (λ (g : Refusal). index_of g < count u) (sym z) (ltb-true (faulty_cost u d) (count u) q)
    go false q h = absurd (unequal cc)

module _ (mode : PlanMode) (led : List ℕ) (supply : SupplyColumns) (root : ℕ) where
  abbrev case : Case
  case = dispatch_case mode supply.load supply.bus supply.pmin supply.pmax supply.c1 supply.c2

  abbrev own : List ℕ
  own = units_in case led root

  abbrev table : Units
  table = units_at case own

  abbrev demand : Float
  demand = demand_of case led root

  is_handed : (mw : List Float) → handed own mw (given_stage (tops_up mode) table demand) ≡ serve case led root mw
  unfolding serve
  is_handed mw =
      handed_as (ltb (faulty_cost table demand) (count table)) (tops_up mode) own table demand mw
      ∙ ap (λ (n : ℕ). served_if (ltb (faulty_cost table demand) n) (tops_up mode) own table demand (faulty_cost table demand) mw) (length-map own (at supply.pmin))

  module _ (a : Result (Unit {0}) Refusal) (out mw : List Float) (e : stage_of a out ≡ given_stage (tops_up mode) table demand) where
    serve_answered : a ≡ no_refusal → going (scatter own out mw) ≡ serve case led root mw
    serve_answered h = ap (λ (x : Result (Unit {0}) Refusal). handed own mw (stage_of x out)) (sym h) ∙ ap (handed own mw) e ∙ is_handed mw

    serve_refused : (f : Refusal) → a ≡ Err f → (index_of f < length own) × (stopped (Cost (get_or own (index_of f) 0)) ≡ serve case led root mw)
    serve_refused f h =
        let g : stopped f ≡ given_stage (tops_up mode) table demand = ap (λ (x : Result (Unit {0}) Refusal). stage_of x out) (sym h) ∙ e in
        (omega (arith, refused_below (tops_up mode) table demand f g, length-map own (at supply.pmin)), ap (handed own mw) g ∙ is_handed mw)

-- ---- a call on the columns of the units picked
module _ (mode : PlanMode) (led : List ℕ) (supply : SupplyColumns) (root : ℕ) (S : Supplied supply) (size : length led ≡ length supply.load)
    (ks : List ℕ) (pk : ks ≡ units_in (bus_case supply.bus) led root) where
  abbrev ours : List ℕ
  ours = own mode led supply root

  abbrev all : Units
  all = table mode led supply root

  sound : SoundUnits all
  sound =
      record {
        even =
            record {
              pmax = length-map ours (at supply.pmax) ∙ sym (length-map ours (at supply.pmin));
              c1 = length-map ours (at supply.c1) ∙ sym (length-map ours (at supply.pmin));
              c2 = length-map ours (at supply.c2) ∙ sym (length-map ours (at supply.pmin));
            };
        each = λ j h.
            let l : j < length ours = subst (λ (k : ℕ). j < k) (length-map ours (at supply.pmin)) h in
            rw (get_map (at supply.pmin) ours j 0 nan l, get_map (at supply.pmax) ours j 0 nan l, get_map (at supply.c1) ours j 0 nan l, get_map (at supply.c2) ours j 0 nan l)
            (S.units (get_or ours j 0) (units_below led supply.bus root j l));
      }

  -- the units picked, of which there is room for each one's output
  pub room : length ks ≤ most_generators
  room = omega (arith, ap length pk, units_few led supply.bus root, S.few_units)

  module _ (least most linear quadratic : List Float) (pl : least ≡ map (at supply.pmin) ks) (pm : most ≡ map (at supply.pmax) ks)
      (pn : linear ≡ map (at supply.c1) ks) (pq : quadratic ≡ map (at supply.c2) ks) (d : Float) (pd : d ≡ sum_over (at supply.load) (members led root)) where
    abbrev lent : Units
    lent = units_of least most linear quadratic

    lent_is : lent ≡ all
    lent_is = rw (pl, pm, pn, pq, pk)

    loads_few : length (members led root) ≤ most_buses
    loads_few = omega (arith, pass_length (within led root) (length led) 0, size, S.few_buses)

    loads_small : (j : ℕ) → j < length (members led root) → inside nought million (at supply.load (get_or (members led root) j 0)) ≡ true
    loads_small j l = S.loads _ (omega (arith, pass_below (within led root) (length led) 0 j l, size))

    -- it keeps the rules of dispatch
    pub asked : (places : ℕ) → places ≡ length ks → Accepted (length least) lent d places
    asked places n =
        subst (λ (u : Units). Accepted (count u) u d places) (sym lent_is)
        (record {
          size = refl;
          room = n ∙ ap length pk ∙ sym (length-map ours (at supply.pmin));
          few = omega (arith, length-map ours (at supply.pmin), units_few led supply.bus root, S.few_units);
          units = sound;
          demand = subst (λ (x : Float). demand_ok x ≡ true) (sym pd) (demand_ok_lem (at supply.load) (members led root) loads_few loads_small);
        })

    module _ (a : Result (Unit {0}) Refusal) (out : List Float) (e : stage_of a out ≡ given_stage (tops_up mode) lent d) where
      call : stage_of a out ≡ given_stage (tops_up mode) all (demand mode led supply root)
      call = e ∙ ap (λ (u : Units). given_stage (tops_up mode) u d) lent_is ∙ ap (given_stage (tops_up mode) all) pd

      pub refused_index : (f : Refusal) → a ≡ Err f → index_of f < length ks
      refused_index f h = omega (arith, (serve_refused mode led supply root a out [] call f h).0, ap length pk)

      pub refused_stage : (f : Refusal) → a ≡ Err f → (mw : List Float)
          → stopped (Cost (get_or ks (index_of f) 0)) ≡ serve (dispatch_case mode supply.load supply.bus supply.pmin supply.pmax supply.c1 supply.c2) led root mw
      refused_stage f h mw =
          ap (λ (u : List ℕ). stopped (Cost (get_or u (index_of f) 0))) pk ∙ (serve_refused mode led supply root a out mw call f h).1

      pub answered_stage : a ≡ no_refusal → (mw mw' : List Float) → mw' ≡ scatter ks out mw
          → going mw' ≡ serve (dispatch_case mode supply.load supply.bus supply.pmin supply.pmax supply.c1 supply.c2) led root mw
      answered_stage h mw mw' w =
          ap going (w ∙ ap (λ (u : List ℕ). scatter u out mw) pk) ∙ serve_answered mode led supply root a out mw call h
