-- The loop that collects the grounds: what it keeps true, at bus i with `count` grounds kept.
-- The grounds kept, and those of the leaders still to come, are all; and the places past them are zero.
use Rattle.std.proofs.Common.{◌≡◌, ℕ, zero, suc, ◌+◌, ◌-◌, ◌<◌, ◌≤◌, Bool, true, false, cond, not, ◌&&◌, ◌||◌, ltb, List, [], ◌∷◌, ◌++◌, map, length, get_or, take, drop, set, replicate, sym, refl, ap, ◌∙◌, subst, arith, length-set, take_at, eqb, eq-eqb, le-ltb, lt-ltb}
use Rattle.std.specs.Prelude.{Option, Some, None}
use native.Mathlib.Nat.{sub-zero}
use lib.ListN.{length-replicate, length-map}
use Rattle.loops.proofs.Collect.{collect_keep, collect_past, collect_count, collect_end}
use Rattle.loops.proofs.Fronts.{get_map, front_lent}
use Rattle.loops.specs.Loops.{first, fault}
use Rattle.plan_defs.specs.Lists.{keep, pass_from, passing}
use Rattle.plan_defs.specs.Case.{Case}
use Rattle.plan_defs.specs.Components.{leads, roots, slack_within, bus_or, ground_of, grounds_of}
use Rattle.plan_defs.specs.Outcome.{up_to}
use Rattle.planning.specs.Opening.{slack_case}
use Rattle.plan_defs.proofs.Lists.{pass_length}
use Rattle.planning.proofs.Passing.{pass_start, pass_yes, pass_no, pass_end, pass_below}

module _ (leader bus slack : List ℕ) where
  abbrev of : ℕ → ℕ
  of = ground_of (slack_case bus slack) leader

  abbrev all : List ℕ
  all = grounds_of (slack_case bus slack) leader

  pub record GroundsSoFar (ground : List ℕ) (count i : ℕ) : Type 0 where
    pub within : i ≤ length leader
    pub few : count ≤ i
    pub size : length ground ≡ length leader
    pub kept : take count ground ++ map of (pass_from (leads leader) (length leader - i) i) ≡ all
    pub past : drop count ground ≡ replicate (length leader - count) 0

  pub grounded_start : (old ground : List ℕ) → length old ≡ length leader → ground ≡ replicate (length old) 0 → GroundsSoFar ground 0 0
  unfolding grounds_of
  grounded_start old ground e h =
      record {
        within = omega arith;
        few = omega arith;
        size = ap length h ∙ length-replicate (length old) 0 ∙ e;
        kept = ap (map of) (pass_start (leads leader) (length leader));
        past = h ∙ ap (λ (k : ℕ). replicate k 0) (e ∙ sym (sub-zero (length leader)));
      }

  pub grounded_yes : (ground : List ℕ) (count i root a : ℕ) → GroundsSoFar ground count i → i < length leader → root ≡ get_or leader i 0 → root ≡ i → a ≡ of (get_or leader i 0)
      → GroundsSoFar (set ground count a) (count + 1) (i + 1)
  grounded_yes ground count i root a G h p q e =
      let own : get_or leader i 0 ≡ i = sym p ∙ q in
      let next = map of (pass_from (leads leader) (length leader - (i + 1)) (i + 1)) in
      record {
        within = omega arith;
        few = omega (arith, G.few);
        size = length-set ground count a ∙ G.size;
        kept =
            collect_keep ground count a next all (omega (arith, G.few, G.size))
            (ap (λ (x : ℕ). take count ground ++ (x ∷ next)) (e ∙ ap of own)
            ∙ ap (λ (ks : List ℕ). take count ground ++ map of ks) (sym (pass_yes (leads leader) h (eq-eqb (get_or leader i 0) i own)))
            ∙ G.kept);
        past = collect_past ground count a 0 (length leader) (omega (arith, G.few)) G.past;
      }

  pub grounded_no : (ground : List ℕ) (count i : ℕ) → GroundsSoFar ground count i → i < length leader → leads leader i ≡ false → GroundsSoFar ground count (i + 1)
  grounded_no ground count i G h e =
      record {
        within = omega arith;
        few = omega (arith, G.few);
        size = G.size;
        kept = ap (λ (ks : List ℕ). take count ground ++ map of ks) (sym (pass_no (leads leader) h e)) ∙ G.kept;
        past = G.past;
      }

  pub grounded_end : (ground : List ℕ) (count i : ℕ) → GroundsSoFar ground count i → length leader ≤ i → (count ≡ length all) × (ground ≡ up_to (length leader) 0 all)
  grounded_end ground count i G h =
      let e : take count ground ++ [] ≡ all = ap (λ (ks : List ℕ). take count ground ++ map of ks) (sym (pass_end (leads leader) h)) ∙ G.kept in
      let l : count ≤ length ground = omega (arith, G.few, G.size, G.within) in
      (collect_count ground count all l e, collect_end ground count 0 (length leader) all l e G.past)

-- ---- what a solve asks of the grounds: they are at most the buses, each is a bus, and the part of the slice that is lent is all of them
module _ (c : Case) (led : List ℕ) where
  pub grounds_few : length (grounds_of c led) ≤ length led
  unfolding grounds_of
  grounds_few = omega (arith, length-map (roots led) (ground_of c led), pass_length (leads led) (length led) 0)

  bus_or_below : (n root : ℕ) (ks : List ℕ) → root < n → (0 < length ks → get_or c.bus (get_or ks 0 0) 0 < n) → bus_or c root ks < n
  bus_or_below n root [] h k = h
  bus_or_below n root (i ∷ ks) h k = k (omega arith)

  pub grounds_below : ((k : ℕ) → k < c.generators → get_or c.bus k 0 < length led) → (g : ℕ) → g < length (grounds_of c led) → get_or (grounds_of c led) g 0 < length led
  unfolding grounds_of
  grounds_below below g h =
      let l : g < length (roots led) = omega (arith, h, length-map (roots led) (ground_of c led)) in
      let root = get_or (roots led) g 0 in
      let first = slack_within c led root in
      subst (λ (i : ℕ). i < length led) (sym (get_map (ground_of c led) (roots led) g 0 0 l))
      (bus_or_below (length led) root (passing first c.generators) (omega (arith, pass_below (leads led) (length led) 0 g l))
      (λ k. below (get_or (passing first c.generators) 0 0) (omega (arith, pass_below first c.generators 0 0 k))))

pub grounds_lent : (ground all : List ℕ) (n k : ℕ) → k ≡ length all → ground ≡ up_to n 0 all → take (k - 0) ground ≡ all
grounds_lent ground all n k e h = front_lent k ground all (ap (take k) h ∙ take_at all (replicate (n - length all) 0) k (sym e))

-- ---- the search for a component's slack unit: where it ends is the first of those that pass
over : (a b : Bool) → (not a || b) ≡ not (a && not b)
over true true = refl
over true false = refl
over false b = refl

abbrev pub chosen : List ℕ → ℕ → Option ℕ → ℕ
chosen bus root None = root
chosen bus root (Some k) = get_or bus k 0

module _ (leader bus slack : List ℕ) (root : ℕ) where
  abbrev own : ℕ → Bool
  own = slack_within (slack_case bus slack) leader root

  abbrev pub passed_over : ℕ → Bool
  passed_over k = not (eqb (get_or leader (get_or bus k 0) 0) root) || eqb (get_or slack k 0) 0

  abbrev bus_at : Bool → ℕ → ℕ
  bus_at b k = cond b (get_or bus k 0) root

  found : (d i : ℕ) → bus_at (ltb (first passed_over d i) (i + d)) (first passed_over d i) ≡ bus_or (slack_case bus slack) root (pass_from own d i)
  unfolding first pass_from
  found zero i = ap (λ (b : Bool). bus_at b i) (le-ltb i (i + 0) (omega arith))
  found (suc d) i =
      ap (λ (b : Bool). bus_at (ltb (cond b (first passed_over d (suc i)) i) (i + suc d)) (cond b (first passed_over d (suc i)) i))
      (over (eqb (get_or leader (get_or bus i 0) 0) root) (eqb (get_or slack i 0) 0))
      ∙ go (own i) (first passed_over d (suc i)) (found d (suc i))
    where
      go : (b : Bool) (n : ℕ) → bus_at (ltb n (suc i + d)) n ≡ bus_or (slack_case bus slack) root (pass_from own d (suc i))
          → bus_at (ltb (cond (not b) n i) (i + suc d)) (cond (not b) n i) ≡ bus_or (slack_case bus slack) root (keep b i (pass_from own d (suc i)))
      go true n h = ap (λ (b : Bool). bus_at b i) (lt-ltb i (i + suc d) (omega arith))
      go false n h = let e : i + suc d ≡ suc i + d = omega arith in ap (λ (m : ℕ). bus_at (ltb n m) n) e ∙ h

  pub ground_found : (o : Option ℕ) → o ≡ fault passed_over (length bus) → chosen bus root o ≡ ground_of (slack_case bus slack) leader root
  unfolding fault
  ground_found o e =
      let z : length bus ≡ 0 + length bus = omega arith in
      let n = first passed_over (length bus) 0 in
      ap (chosen bus root) e ∙ pick (ltb n (length bus)) n ∙ ap (λ (m : ℕ). bus_at (ltb n m) n) z ∙ found (length bus) 0
    where
      pick : (b : Bool) (k : ℕ) → chosen bus root (cond b (Some k) None) ≡ bus_at b k
      pick true k = refl
      pick false k = refl
