-- Filling as the Rust goes, with a cursor that runs round the order and a count of corridors in a row without room, fills as `fill_rounds` does, and has
-- ended after seven times round.
-- What the loop knows (`Window`): the last `idle` corridors that it passed are full. So where it stops before the target, all are, and each further
-- step of a pass would change nothing.
use Prim.Native.Nat.{ℕ, zero, suc, ◌+◌, ◌*◌, ◌/◌, ◌%◌, ◌≤◌, ◌<◌, zero-le}
use mathlib.Core.Bool.{Bool, true, false, ◌&&◌}
use mathlib.Core.List.{List, [], ◌∷◌}
use mathlib.Core.Path.{◌≡◌, refl, sym, ap, ◌∙◌, subst}
use mathlib.Core.Logic.{⊎_elim}
use native.Mathlib.Nat.{div-add-mod', mod-lt, mod-eq_of_lt, mul-add-mod_self_right, suc-mul, eq-or-lt_of_le}
use native.Mathlib.Omega.{arith}
use borrow.Author.Tests.{ltb-true, ltb-false, le-ltb}
use lib.Dec.{ltb}
use lib.Ieee.{Float}
use lib.ListN.{length, get_or}
use Rattle.loops.specs.Sorting.{occ}
use Rattle.loops.specs.Loops.{iter}
use Rattle.loops.proofs.Bools.{both, no, and_no}
use Rattle.loops.proofs.Inserted.{all_inserted_length}
use Rattle.plan_defs.specs.Lists.{each}
use Rattle.plan_defs.specs.Constants.{max_circuits_per_corridor, most_cap}
use Rattle.plan_defs.specs.Case.{Case, promote, own_cap, full_at}
use Rattle.plan_defs.specs.Fill.{Filled, unfilled, fill_if, fill_at, below_full, room, fill_once, fill_rounds, fill_turns, filled_if, fill, order_of}
use Rattle.plan_defs.specs.declared.CircuitDesign.{CircuitDesign}
use Rattle.plan_defs.proofs.Lists.{each_places}
use Rattle.plan_defs.proofs.Accepted.{own_few}
use Rattle.plan_theorems.specs.Cursor.{Cursor, cursor_at, runs, advance_if, advance, cursor_if, cursor_step, cursor_run}
use Rattle.plan_theorems.proofs.Filling.{rounds_grown, Ends, reached, unreached, fills, all_full}
use Rattle.plan_theorems.proofs.Ranking.{order_once, order_inserted, comes_in_order}

-- a window of m numbers before c has one of each remainder
residue : (m c p : ℕ) → m ≤ c → p < m → (q : ℕ) × (q < c) × (c ≤ q + m) × (q % m ≡ p)
residue m c p h l = go (c / m) (c % m) (div-add-mod' c m) (mod-lt c (let z : 0 < m = omega arith in z))
  where
    at : (a : ℕ) → (a * m + p) % m ≡ p
    at a = mul-add-mod_self_right a m p ∙ mod-eq_of_lt l

    high : (a b : ℕ) → a * m + b ≡ c → (t : Bool) → ltb p b ≡ t → b < m → (q : ℕ) × (q < c) × (c ≤ q + m) × (q % m ≡ p)
    high zero b e true f k = (0 * m + p, (let z = ltb-true p b f in omega arith), (omega arith), at 0)
    high zero b e false f k = absurd (omega arith)
    high (suc a) b e true f k = (suc a * m + p, (let z = ltb-true p b f in omega arith), (omega arith), at (suc a))
    high (suc a) b e false f k =
        let s = suc-mul a m in
        let z = ltb-false p b f in
        (a * m + p, (omega arith), (omega arith), at a)

    go : (a b : ℕ) → a * m + b ≡ c → b < m → (q : ℕ) × (q < c) × (c ≤ q + m) × (q % m ≡ p)
    go a b e k = high a b e (ltb p b) refl k

module _ (full : ℕ → ℕ) (target : ℕ) (order : List ℕ) where
  -- the corridor that the cursor points to
  abbrev nth : ℕ → ℕ
  nth q = get_or order (q % length order) 0

  record Window (s : Cursor) : Type 0 where
    idle_le : s.idle ≤ s.cursor
    shut : (q : ℕ) → q < s.cursor → s.cursor ≤ q + s.idle → below_full full (nth q) s.filled ≡ false

  record Inv (n : ℕ) (s : Cursor) : Type 0 where
    window : Window s
    place : runs target (length order) s ≡ true → s.cursor ≡ n

  start : (f : Filled) → Inv 0 (cursor_at f 0 0)
  start f = record { window = record { idle_le = zero-le; shut = λ q h k. absurd (omega arith) }; place = λ e. refl }

  -- ---- where the loop has ended, there is room nowhere
  module _ (some : 0 < length order) where
    stopped : (s : Cursor) → Window s → runs target (length order) s ≡ false → (n : ℕ) → room full target (nth n) s.filled ≡ false
    stopped s w e n = go (ltb s.filled.total target) refl e
      where
        go : (t : Bool) → ltb s.filled.total target ≡ t → (t && ltb s.idle (length order)) ≡ false → room full target (nth n) s.filled ≡ false
        go false f h = ap (λ (b : Bool). b && below_full full (nth n) s.filled) f
        go true f h =
            let i : length order ≤ s.idle = ltb-false _ _ h in
            let l = w.idle_le in
            let r = residue (length order) s.cursor (n % length order) (omega arith) (mod-lt n some) in
            let c = w.shut r.0 r.1 (omega (arith, r.2)) in
            and_no (ltb s.filled.total target) (below_full full (nth n) s.filled)
            (ap (λ (j : ℕ). below_full full (get_or order j 0) s.filled) (sym r.3) ∙ c)

    -- ---- a step: the corridor at the cursor, as a pass would treat it
    record CursorStepped (n : ℕ) (s t : Cursor) : Type 0 where
      inv : Inv (suc n) t
      fills_it : t.filled ≡ fill_at full target (nth n) s.filled

    advanced : (n : ℕ) (s : Cursor) → Inv n s → runs target (length order) s ≡ true → (b : Bool) → below_full full (nth s.cursor) s.filled ≡ b
        → CursorStepped n s (advance_if b (nth s.cursor) s)
    advanced n s h e true f =
        record {
          inv = record { window = record { idle_le = zero-le; shut = λ q l k. absurd (omega arith) }; place = λ x. (let y = h.place e in omega arith) };
          fills_it =
              ap (λ (b : Bool). fill_if b (nth s.cursor) s.filled) (sym (room_is true f))
              ∙ ap (λ (i : ℕ). fill_at full target (nth i) s.filled) (h.place e);
        }
      where
        below : ltb s.filled.total target ≡ true
        below = (both (ltb s.filled.total target) _ e).0

        room_is : (b : Bool) → below_full full (nth s.cursor) s.filled ≡ b → room full target (nth s.cursor) s.filled ≡ b
        room_is b g = ap (λ (x : Bool). x && below_full full (nth s.cursor) s.filled) below ∙ g
    advanced n s h e false f =
        record {
          inv =
              record {
                window =
                    record {
                      idle_le = (let y = h.window.idle_le in omega arith);
                      shut = λ q l k.
                          ⊎_elim (λ z. ap (λ (i : ℕ). below_full full (nth i) s.filled) z ∙ f) (λ z. h.window.shut q z (omega arith))
                          (eq-or-lt_of_le (let z : q ≤ s.cursor = omega arith in z));
                    };
                place = λ x. (let y = h.place e in omega arith);
              };
          fills_it =
              ap (λ (b : Bool). fill_if b (nth s.cursor) s.filled) (sym (and_no (ltb s.filled.total target) (below_full full (nth s.cursor) s.filled) f))
              ∙ ap (λ (i : ℕ). fill_at full target (nth i) s.filled) (h.place e);
        }

    stepped : (n : ℕ) (s : Cursor) → Inv n s → CursorStepped n s (cursor_step full target order s)
    unfolding cursor_step advance
    stepped n s h = go (runs target (length order) s) refl
      where
        go : (b : Bool) → runs target (length order) s ≡ b → CursorStepped n s (cursor_if b full order s)
        go true e = advanced n s h e (below_full full (nth s.cursor) s.filled) refl
        go false e =
            record {
              inv = record { window = h.window; place = λ x. absurd (no e x) };
              fills_it = sym (ap (λ (b : Bool). fill_if b (nth n) s.filled) (stopped s h.window e n));
            }

    -- ---- a pass
    record Passed (n d : ℕ) (s : Cursor) (f : Filled) : Type 0 where
      inv : Inv (n + d) (cursor_run d full target order s)
      filled_is : (cursor_run d full target order s).filled ≡ f

    at_place : (r p : ℕ) → p < length order → nth (r * length order + p) ≡ get_or order p 0
    at_place r p l = ap (λ (j : ℕ). get_or order j 0) (mul-add-mod_self_right r (length order) p ∙ mod-eq_of_lt l)

    along : (r d p : ℕ) (s : Cursor) → p + d ≤ length order → Inv (r * length order + p) s
        → Passed (r * length order + p) d s (iter (λ j t. fill_at full target (get_or order j 0) t) d p s.filled)
    unfolding cursor_run iter
    along r zero p s l h = record { inv = subst (λ (i : ℕ). Inv i s) (let z : r * length order + p ≡ r * length order + p + 0 = omega arith in z) h; filled_is = refl }
    along r (suc d) p s l h =
        let t = stepped (r * length order + p) s h in
        let q : p < length order = omega arith in
        let rest =
        along r d (suc p) (cursor_step full target order s) (omega arith)
        (subst (λ (i : ℕ). Inv i (cursor_step full target order s)) (let z : suc (r * length order + p) ≡ r * length order + suc p = omega arith in z) t.inv) in
        record {
          inv =
              subst (λ (i : ℕ). Inv i (cursor_run d full target order (cursor_step full target order s)))
              (let z : r * length order + suc p + d ≡ r * length order + p + suc d = omega arith in z) rest.inv;
          filled_is =
              rest.filled_is
              ∙ ap (iter (λ j u. fill_at full target (get_or order j 0) u) d (suc p)) (t.fills_it ∙ ap (λ (k : ℕ). fill_at full target k s.filled) (at_place r p q));
        }

    pass : (r : ℕ) (s : Cursor) → Inv (r * length order) s → Passed (r * length order) (length order) s (fill_once full target order s.filled)
    unfolding fill_once
    pass r s h =
        let a =
        along r (length order) 0 s (omega arith) (subst (λ (i : ℕ). Inv i s) (let z : r * length order ≡ r * length order + 0 = omega arith in z) h) in
        record {
          inv =
              subst (λ (i : ℕ). Inv i (cursor_run (length order) full target order s))
              (let z : r * length order + 0 + length order ≡ r * length order + length order = omega arith in z) a.inv;
          filled_is = a.filled_is ∙ sym (each_places (fill_at full target) order s.filled);
        }

    -- ---- so many passes
    run_more : (d e : ℕ) (s : Cursor) → cursor_run (d + e) full target order s ≡ cursor_run e full target order (cursor_run d full target order s)
    unfolding cursor_run
    run_more zero e s = ap (λ (i : ℕ). cursor_run i full target order s) (let z : 0 + e ≡ e = omega arith in z)
    run_more (suc d) e s =
        ap (λ (i : ℕ). cursor_run i full target order s) (let z : suc d + e ≡ suc (d + e) = omega arith in z) ∙ run_more d e (cursor_step full target order s)

    rounds_filled : (d r : ℕ) (s : Cursor) → Inv (r * length order) s → (cursor_run (d * length order) full target order s).filled ≡ fill_rounds d full target order s.filled
    unfolding fill_rounds cursor_run
    rounds_filled zero r s h = ap (λ (i : ℕ). (cursor_run i full target order s).filled) (let z : 0 * length order ≡ 0 = omega arith in z)
    rounds_filled (suc d) r s h =
        let p = pass r s h in
        let t = cursor_run (length order) full target order s in
        ap (λ (i : ℕ). (cursor_run i full target order s).filled) (suc-mul d (length order) ∙ (let z : d * length order + length order ≡ length order + d * length order = omega arith in z))
        ∙ ap (λ (u : Cursor). u.filled) (run_more (length order) (d * length order) s)
        ∙ rounds_filled d (suc r) t (subst (λ (i : ℕ). Inv i t) (sym (suc-mul r (length order))) p.inv)
        ∙ ap (fill_rounds d full target order) p.filled_is

    -- ---- an ended loop stays as it is
    ended_still : (d : ℕ) (s : Cursor) → runs target (length order) s ≡ false → cursor_run d full target order s ≡ s
    unfolding cursor_run cursor_step
    ended_still zero s e = refl
    ended_still (suc d) s e = ap (cursor_run d full target order) (ap (λ (b : Bool). cursor_if b full order s) e) ∙ ended_still d s e

    -- ---- where all are full, a whole idle turn ends it
    abbrev Shut : Cursor → Type 0
    Shut s = (q : ℕ) → below_full full (nth q) s.filled ≡ false

    record Idled (s t : Cursor) : Type 0 where
      ended : runs target (length order) t ≡ false
      same : t.filled ≡ s.filled

    idles : (d : ℕ) (s : Cursor) → Shut s → length order ≤ s.idle + d → Idled s (cursor_run d full target order s)
    unfolding cursor_run cursor_step advance
    idles zero s f l =
        record {
          ended = and_no (ltb s.filled.total target) (ltb s.idle (length order)) (le-ltb s.idle (length order) (omega arith));
          same = refl;
        }
    idles (suc d) s f l = go (runs target (length order) s) refl (λ t h k. idles d t h k)
      where
        waits : Cursor
        waits = cursor_at s.filled (s.cursor + 1) (s.idle + 1)

        go : (b : Bool) → runs target (length order) s ≡ b → ((t : Cursor) → Shut t → length order ≤ t.idle + d → Idled t (cursor_run d full target order t))
            → Idled s (cursor_run d full target order (cursor_if b full order s))
        go true e next =
            let h : advance_if (below_full full (nth s.cursor) s.filled) (nth s.cursor) s ≡ waits =
            ap (λ (b : Bool). advance_if b (nth s.cursor) s) (f s.cursor) in
            let i = next waits f (omega arith) in
            subst (λ (u : Cursor). Idled s (cursor_run d full target order u)) (sym h) (record { ended = i.ended; same = i.same })
        go false e next =
            subst (λ (u : Cursor). Idled s u) (sym (ended_still d s e)) (record { ended = e; same = refl })

-- ---- the theorem
-- seven times round: the loop has ended, and has filled what six passes fill
abbrev pub cursor_turns : ℕ
cursor_turns = suc fill_turns

pub record CursorFills (full : ℕ → ℕ) (target : ℕ) (order counts : List ℕ) : Type 0 where
  pub ended : runs target (length order) (cursor_run (cursor_turns * length order) full target order (cursor_at (unfilled counts) 0 0)) ≡ false
  pub same : (cursor_run (cursor_turns * length order) full target order (cursor_at (unfilled counts) 0 0)).filled ≡ fill_rounds fill_turns full target order (unfilled counts)

module _ (full : ℕ → ℕ) (few : (k : ℕ) → full k ≤ fill_turns) (target m : ℕ) (counts : List ℕ) (size : length counts ≡ m) where
  module _ (order : List ℕ) (named : (j : ℕ) → j < m → occ j order ≡ 1) (some : 0 < length order) where
    filled_all : Filled
    filled_all = fill_rounds fill_turns full target order (unfilled counts)

    cursor_all : Cursor
    cursor_all = cursor_run (fill_turns * length order) full target order (cursor_at (unfilled counts) 0 0)

    all_is : cursor_all.filled ≡ filled_all
    unfolding cursor_all filled_all
    all_is =
        rounds_filled full target order some fill_turns 0 (cursor_at (unfilled counts) 0 0)
        (subst (λ (i : ℕ). Inv full target order i (cursor_at (unfilled counts) 0 0)) (let z : 0 ≡ 0 * length order = omega arith in z) (start full target order (unfilled counts)))

    -- not reached: every corridor is full
    full_now : ((j : ℕ) → j < m → get_or filled_all.counts j 0 < full j → get_or filled_all.counts j 0 ≡ get_or counts j 0 + fill_turns)
        → (k : ℕ) → below_full full k filled_all ≡ false
    unfolding filled_all
    full_now f k = all_full full target m fill_turns few counts filled_all ((rounds_grown full target fill_turns order (unfilled counts)).size ∙ size) f k

    last : Ends full target m counts fill_turns filled_all → Idled full target order some cursor_all (cursor_run (length order) full target order cursor_all)
    last (reached p h f) =
        let t : ltb cursor_all.filled.total target ≡ false =
        ap (λ (x : Filled). ltb x.total target) all_is ∙ le-ltb filled_all.total target h in
        let e : runs target (length order) cursor_all ≡ false = ap (λ (b : Bool). b && ltb cursor_all.idle (length order)) t in
        subst (λ (u : Cursor). Idled full target order some cursor_all u) (sym (ended_still full target order some (length order) cursor_all e)) (record { ended = e; same = refl })
    last (unreached h f) =
        idles full target order some (length order) cursor_all (λ q. ap (λ (x : Filled). below_full full (nth full target order q) x) all_is ∙ full_now f (nth full target order q)) (omega arith)

    once_more : cursor_run (cursor_turns * length order) full target order (cursor_at (unfilled counts) 0 0) ≡ cursor_run (length order) full target order cursor_all
    unfolding cursor_all
    once_more =
        ap (λ (i : ℕ). cursor_run i full target order (cursor_at (unfilled counts) 0 0)) (suc-mul fill_turns (length order))
        ∙ run_more full target order some (fill_turns * length order) (length order) (cursor_at (unfilled counts) 0 0)

    fills_all : CursorFills full target order counts
    unfolding filled_all
    fills_all =
        let i = last (fills full target m counts order named fill_turns (unfilled counts) size refl) in
        record {
          ended = ap (runs target (length order)) once_more ∙ i.ended;
          same = ap (λ (s : Cursor). s.filled) once_more ∙ i.same ∙ all_is;
        }

  pub cursor_fills : (order : List ℕ) → ((j : ℕ) → j < m → occ j order ≡ 1) → CursorFills full target order counts
  unfolding cursor_run fill_rounds fill_once each
  cursor_fills [] named =
      record {
        ended = and_no (ltb (unfilled counts).total target) false refl;
        same = refl;
      }
  cursor_fills (k ∷ ks) named = fills_all (k ∷ ks) named (omega arith)

-- ---- of the defined filling: the order has a place for each corridor, and the Rust's loop over it fills what the definition fills
module _ (ds : List CircuitDesign) (counts : List ℕ) (flows : List Float) where
  pub order_length : (m : ℕ) → length (order_of m ds counts flows) ≡ m
  order_length m = ap length (order_inserted ds counts flows m) ∙ all_inserted_length (comes_in_order ds counts flows) m

pub record FilledByCursor (c : Case) (target : ℕ) (order counts : List ℕ) : Type 0 where
  pub ended : runs target c.corridors (cursor_run (cursor_turns * c.corridors) (full_at c) target order (cursor_at (unfilled counts) 0 0)) ≡ false
  pub same : fill c target order counts ≡ (cursor_run (cursor_turns * c.corridors) (full_at c) target order (cursor_at (unfilled counts) 0 0)).filled

-- what filling gives a corridor is at most 6, where its own cap is
pub full_few : (c : Case) → ((k : ℕ) → own_cap c k ≤ most_cap) → (k : ℕ) → full_at c k ≤ fill_turns
unfolding full_at
full_few c few k = own_few (own_cap c k) max_circuits_per_corridor (few k) (omega arith)

pub fill_cursor : (c : Case) (target : ℕ) (ds : List CircuitDesign) (counts : List ℕ) (flows : List Float) → ((k : ℕ) → own_cap c k ≤ most_cap) → promote c.mode ≡ true → length counts ≡ c.corridors
    → FilledByCursor c target (order_of c.corridors ds counts flows) counts
unfolding fill
fill_cursor c target ds counts flows few e n =
    let m = c.corridors in
    let order = order_of m ds counts flows in
    let l = order_length ds counts flows m in
    let f = cursor_fills (full_at c) (full_few c few) target m counts n order (order_once ds counts flows m) in
    record {
      ended = ap (λ (k : ℕ). runs target k (cursor_run (cursor_turns * k) (full_at c) target order (cursor_at (unfilled counts) 0 0))) (sym l) ∙ f.ended;
      same =
          ap (λ (b : Bool). filled_if b (full_at c) target order (unfilled counts)) e
          ∙ sym f.same
          ∙ ap (λ (k : ℕ). (cursor_run (cursor_turns * k) (full_at c) target order (cursor_at (unfilled counts) 0 0)).filled) l;
    }
