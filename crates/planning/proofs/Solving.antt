-- A solve over slices is the defined planning state: the edges that were drawn, the angles of `dc_angles`, which refuses 9 alone, and the flows.
-- Drawn edges join buses, so the request is sound; and `dc_angles` refuses exactly where an angle is not finite.
use Rattle.std.proofs.Common.{◌≡◌, ℕ, ◌+◌, ◌-◌, ◌<◌, ◌≤◌, Bool, true, false, not, ltb, leb, List, [], ◌∷◌, ◌++◌, map, length, get_or, take, set, replicate, sym, refl, ap, ◌∙◌, subst, add-one, arith, ltb-false, ltb-true, le-leb}
use native.Mathlib.Nat.{sub-zero}
use borrow.Author.Tests.{lt-leb}
use lib.ListN.{length-replicate}
use lib.Seq.{take-set-lt}
use lib.Ieee.{Float, neg}
use Rattle.loops.specs.Bounds.{most_buses}
use Rattle.loops.specs.Figures.{at, float, times, minus, nought, one}
use Rattle.loops.specs.Loops.{first, tab}
use Rattle.loops.proofs.Tab.{length_tab, get_tab, tab_same}
use Rattle.refusal.specs.Number.{number_of, index_of}
use Rattle.refusal.specs.declared.Refusal.{Refusal}
use Rattle.refusal.specs.declared.Refusal.TheVariants.{NotFinite}
use Rattle.dispatch_defs.proofs.Callers.{never}
use Rattle.angles_defs.specs.Network.{Edges, edges_of}
use Rattle.angles_defs.specs.Solve.{Solved, solve}
use Rattle.angles_defs.specs.Operation.{Request, request_of, work_places, Outcome, outcome, finite_at, finish_if, solve_of, dc_angles}
use Rattle.angles_defs.specs.declared.Solution.{Solution}
use Rattle.angles_defs.proofs.Answers.{Sound, of_request}
use Rattle.angles_defs.proofs.Solves.{solve_places}
use Rattle.plan_defs.specs.Case.{Case, from_of, to_of}
use Rattle.plan_defs.specs.Constants.{base_mva}
use Rattle.plan_defs.specs.Stage.{Stage, stopped, going}
use Rattle.plan_defs.specs.Design.{drawn, no_design}
use Rattle.plan_defs.specs.Build.{drawn_all}
use Rattle.plan_defs.specs.Solve.{susceptance, weight_at, edges_for, flow_mw, flows_of, all_finite}
use Rattle.plan_defs.specs.Stiffen.{unit_at}
use Rattle.plan_defs.specs.declared.CircuitDesign.{CircuitDesign}
use Rattle.plan_defs.proofs.Drawn.{drawn_from, drawn_to}
use Rattle.planning.specs.Design.{lines_for, Lines}
use Rattle.planning.specs.Edges.{Between, Grounded}
use Rattle.planning.specs.Solve.{finite_if, finite_angles, SolvePlaces}
use Rattle.planning.proofs.Draws.{ends_fit, from_below, to_below}
use Rattle.loops.proofs.Fronts.{map_tab, front_replicate}
use Rattle.std.specs.Prelude.{Err, Ok, Result}
use Rattle.planning.specs.Tables.{GridColumns}

-- ---- angles
-- what angles alone say
abbrev pub angle_stage : Result Solution Refusal → List Float → Stage (List Float)
angle_stage (Ok s) y = going y
angle_stage (Err f) y = stopped (NotFinite 0)

finished : (b : Bool) (n : ℕ) (o : Solved) (i : ℕ) (r : Result Solution Refusal) (y w : List Float) → outcome r y w ≡ finish_if b n o i → angle_stage r y ≡ finite_if (not b) o.x
unfolding finish_if
finished true n o i (Ok s) y w e = absurd (never s (number_of (NotFinite i)) (index_of (NotFinite i)) (ap (λ (z : Outcome). z.reply) e))
finished true n o i (Err f) y w e = refl
finished false n o i (Ok s) y w e = ap going (ap (λ (z : Outcome). z.result) e)
finished false n o i (Err f) y w e = absurd (never _ (number_of f) (index_of f) (sym (ap (λ (z : Outcome). z.reply) e)))

flip : (i n : ℕ) → leb n i ≡ not (ltb i n)
flip i n = go (ltb i n) refl
  where
    go : (b : Bool) → ltb i n ≡ b → leb n i ≡ not b
    go true e = lt-leb n i (ltb-true i n e)
    go false e = le-leb n i (ltb-false i n e)

pub angles_stage : (q : Request) (result work : List Float) → Sound q (length result) (length work) → (r : Result Solution Refusal) (y w : List Float)
    → outcome r y w ≡ dc_angles q result work → angle_stage r y ≡ finite_angles (solve_of q).x
unfolding all_finite
angles_stage q result work S r y w e =
    let o = solve_of q in
    let i = first (finite_at o.x) q.n 0 in
    finished (ltb i q.n) q.n o i r y w (e ∙ of_request q result work S)
    ∙ ap (λ (b : Bool). finite_if b o.x) (sym (flip i q.n))
    ∙ ap (λ (n : ℕ). finite_if (leb n (first (finite_at o.x) n 0)) o.x) (sym (solve_places q.n q.edges q.grounds q.injection q.guess))

-- where the solver's work is a part of an array of zeros
pub work_room : (n : ℕ) → n ≤ most_buses → work_places n ≤ work_places most_buses
work_room n h = omega arith

-- ---- what a call of `dc_angles` on these edges says
module _ (n m : ℕ) (from to : List ℕ) (weight : List Float) (grounds : List ℕ) (injection guess angle : List Float) (E : Edges) (same : edges_of from to weight ≡ E) (size : m ≡ length E.from)
    (b : ℕ) (buses : b ≡ n) (joined : Between b E) (G : Grounded n grounds) (P : SolvePlaces n injection guess angle) (r : Result Solution Refusal) (y w : List Float)
    (e : outcome r y w ≡ dc_angles (request_of n m (length grounds) from to weight injection grounds guess) angle (take (work_places n - 0) (replicate (work_places most_buses) nought))) where
  own_sound : Sound (request_of n m (length grounds) from to weight injection grounds guess) (length angle) (length (take (work_places n - 0) (replicate (work_places most_buses) nought)))
  own_sound =
      let J : Between n (edges_of from to weight) = subst (Between n) (sym same) (subst (λ (i : ℕ). Between i E) buses joined) in
      let long : m ≡ length from = size ∙ sym (ap (λ (x : Edges). length x.from) same) in
      record {
        lengths =
            record {
              injection = P.injection_size;
              from = sym long;
              to = J.to_size ∙ sym long;
              weight = J.weight_size ∙ sym long;
              grounds = refl;
              guess = P.guess_size;
              result = P.angle_size;
              work = ap length (front_replicate (work_places most_buses) (work_places n) nought (work_room n J.few_buses)) ∙ length-replicate (work_places n) nought;
            };
        buses = J.few_buses;
        edges = omega (arith, long, J.few_edges);
        grounds = G.few;
        from_below = λ k h. J.from_below k (omega (arith, long, h));
        to_below = λ k h. J.to_below k (omega (arith, long, h));
        ground_below = G.below;
      }

  own_stage : angle_stage r y ≡ finite_angles (solve n E grounds injection guess).x
  own_stage =
      angles_stage _ angle (take (work_places n - 0) (replicate (work_places most_buses) nought)) own_sound r y w e
      ∙ ap (λ (x : Edges). finite_angles (solve n x grounds injection guess).x) same

  pub angles_refused : (f : Refusal) → r ≡ Err f → stopped (NotFinite 0) ≡ finite_angles (solve n E grounds injection guess).x
  angles_refused f h = ap (λ (a : Result Solution Refusal). angle_stage a y) (sym h) ∙ own_stage

  pub angles_answered : (s : Solution) → r ≡ Ok s → going y ≡ finite_angles (solve n E grounds injection guess).x
  angles_answered s h = ap (λ (a : Result Solution Refusal). angle_stage a y) (sym h) ∙ own_stage

-- ---- the edges
module _ (c : Case) (level : List ℕ) (banks : List Float) (circuits : List ℕ) where
  abbrev line : ℕ → CircuitDesign
  line k = drawn c level k (at banks k)

  abbrev weighed : ℕ → Float
  weighed k = times (susceptance (line k)) (float (get_or circuits k 0))

  pub edges_are : (from to : List ℕ) (weight : List Float) → from ≡ tab c.corridors (λ k. (line k).from) → to ≡ tab c.corridors (λ k. (line k).to)
      → weight ≡ tab c.corridors weighed → edges_of from to weight ≡ edges_for (drawn_all c level banks) circuits
  unfolding edges_for drawn_all
  edges_are from to weight p q r =
      let m = c.corridors in
      let ds = tab m line in
      let w : weight ≡ tab (length ds) (weight_at ds circuits) =
      r
      ∙ tab_same m weighed (weight_at ds circuits) (λ k h. ap (λ (d : CircuitDesign). times (susceptance d) (float (get_or circuits k 0))) (sym (get_tab m line k no_design h)))
      ∙ ap (λ (n : ℕ). tab n (weight_at ds circuits)) (sym (length_tab m line)) in
      ap (λ (l : List ℕ). edges_of l to weight) (p ∙ sym (map_tab (λ (d : CircuitDesign). d.from) m line))
      ∙ ap (λ (l : List ℕ). edges_of (map (λ (d : CircuitDesign). d.from) ds) l weight) (q ∙ sym (map_tab (λ (d : CircuitDesign). d.to) m line))
      ∙ ap (λ (l : List Float). edges_of (map (λ (d : CircuitDesign). d.from) ds) (map (λ (d : CircuitDesign). d.to) ds) l) w

-- ---- the ends of a drawn corridor are buses
module _ (grid : GridColumns) (level : List ℕ) (k : ℕ) (mva : Float) (lines : Lines grid level) (h : k < length grid.a) where
  pub drawn_from_below : (drawn (lines_for grid) level k mva).from < length level
  unfolding from_of
  drawn_from_below =
      subst (λ (i : ℕ). i < length level) (sym (drawn_from (lines_for grid) level k mva)) (from_below grid level k (ends_fit grid level k lines h))

  pub drawn_to_below : (drawn (lines_for grid) level k mva).to < length level
  unfolding to_of
  drawn_to_below =
      subst (λ (i : ℕ). i < length level) (sym (drawn_to (lines_for grid) level k mva)) (to_below grid level k (ends_fit grid level k lines h))

-- ---- one more of a table
pub tab_more : {A : Type 0} (f : ℕ → A) (n : ℕ) (l l' : List A) (x : A) → l' ≡ l ++ (x ∷ []) → l ≡ tab n f → x ≡ f n → l' ≡ tab (n + 1) f
unfolding tab
tab_more {A = A} f n l l' x e h p =
    e ∙ ap (λ (y : List A). y ++ (x ∷ [])) h ∙ ap (λ (y : A). tab n f ++ (y ∷ [])) p ∙ ap (λ (k : ℕ). tab k f) (sym (add-one n))

-- ---- flows
pub flow_turn : (E : Edges) (from to : List ℕ) (weight angle : List Float) (k : ℕ) → from ≡ E.from → to ≡ E.to → weight ≡ E.weight
    → times (times (at weight k) (minus (at angle (get_or from k 0)) (at angle (get_or to k 0)))) base_mva ≡ flow_mw E angle k
flow_turn E from to weight angle k p q r = rw (p, q, r)

pub flows_are : (E : Edges) (angle : List Float) (m : ℕ) → length E.from ≡ m → tab m (flow_mw E angle) ≡ flows_of E angle
unfolding flows_of
flows_are E angle m e = ap (λ (n : ℕ). tab n (flow_mw E angle)) (sym e)

-- ---- the unit solve: what is lent of its local figures
pub unit_front : (N n lead lag : ℕ) → n ≤ N → lead < n → lag < n → take (n - 0) (set (set (replicate N nought) lead one) lag (neg one)) ≡ unit_at n lead lag
unit_front N n lead lag h p q =
    let k : n - 0 ≡ n = sub-zero n in
    take-set-lt (n - 0) (set (replicate N nought) lead one) lag (neg one) (omega arith)
    ∙ ap (λ (l : List Float). set l lag (neg one)) (take-set-lt (n - 0) (replicate N nought) lead one (omega arith) ∙ ap (λ (l : List Float). set l lead one) (front_replicate N n nought h))

pub unit_angles_are : (t : Stage (List Float)) (n : ℕ) (E : Edges) (grounds : List ℕ) (injection injection' guess guess' : List Float) → injection ≡ injection' → guess ≡ guess'
    → t ≡ finite_angles (solve n E grounds injection guess).x → t ≡ finite_angles (solve n E grounds injection' guess').x
unit_angles_are t n E grounds injection injection' guess guess' p q e =
    e
    ∙ ap (λ (l : List Float). finite_angles (solve n E grounds l guess).x) p
    ∙ ap (λ (l : List Float). finite_angles (solve n E grounds injection' l).x) q
