-- What an answered file holds: each record passed, in its place, and nothing but zeros after the last.
-- A fault stays, so a walk that ends at a place passed every record (walked_all); the tests on the way are taken apart one by one.
use Prim.Native.Nat.{ℕ, zero, suc, ◌-◌, ◌<◌, ◌≤◌}
use mathlib.Core.Path.{◌≡◌, refl, sym, ap, ◌∙◌, subst}
use mathlib.Core.Bool.{Bool, true, false, cond}
use mathlib.Core.List.{List}
use native.Mathlib.Nat.{not-suc-le-zero, le_of_suc-le-suc}
use native.Mathlib.Omega.{arith}
use borrow.Author.Tests.{ltb-false}
use lib.Dec.{ltb}
use lib.ListN.{length}
use Rattle.loops.proofs.Bools.{unequal}
use Rattle.loops.specs.Loops.{iter}
use Rattle.loops.proofs.Chains.{err_not_ok}
use Rattle.loops.proofs.Loops.{iter_still}
use Rattle.refusal.specs.declared.Refusal.{Refusal}
use Rattle.casefile_defs.specs.Bounds.{most_bytes}
use Rattle.casefile_defs.specs.Layout.{marked, standing, suits, end_of, spot}
use Rattle.casefile_defs.specs.Reading.{record_at, admitted, stepped, walked, bus_form, counts_ok, header_of, levels, lines, tables_walked, trailing, unread, end_read, body_read, read_as, reading_of, before_buses, before_generators, before_corridors, before_lines, records_of}
use Rattle.casefile_defs.specs.Tables.{levels_at, buses_at, generators_at, corridors_at, lines_at}
use Rattle.casefile_defs.specs.declared.Kind.{Kind}
use Rattle.casefile_defs.specs.declared.Kind.TheVariants.{Head, Level, Bus, Generator, Corridor, Line, WeighedBus}
use Rattle.casefile_defs.specs.declared.Header.{Header}
use Rattle.casefile_defs.specs.declared.Wanted.{Wanted}
use Rattle.casefile_defs.specs.declared.Wanted.TheVariants.{Either}
use Rattle.casefile_defs.specs.declared.CaseRead.{CaseRead}
use Rattle.casefile_defs.proofs.Records.{Passed, passed, admitted_at}
use Rattle.casefile_defs.proofs.Spots.{spot_next}
use Rattle.std.specs.Prelude.{Err, Ok, Result}

-- n records from a place on where one of kind k is due, each of them passed
abbrev pub Table : Kind → List ℕ → ℕ → ℕ → Type 0
Table k s at n = (i : ℕ) → i < n → Passed (standing k s (spot k s at i)) s (spot k s at i) (spot k s at (suc i))

-- a record that was passed where one of kind k is due, in a file of BU or of BV
record Stood (k : Kind) (weighed : Bool) (s : List ℕ) (at : ℕ) : Type 0 where
  pub passed : Passed (standing k s at) s at (end_of k s at)
  pub suited : suits weighed (standing k s at) ≡ true

module _ (k : Kind) (weighed : Bool) (s : List ℕ) where
  abbrev All : ℕ → ℕ → Type 0
  All at n = (i : ℕ) → i < n → Stood k weighed s (spot k s at i)

  no_fault : (d r : ℕ) (f : Refusal) (next : ℕ) → iter (stepped k weighed s) d r (Err f) ≡ Ok next → ⊥
  unfolding stepped
  no_fault d r f next e = err_not_ok (sym (iter_still (stepped k weighed s) (Err f) (λ i. refl) d r) ∙ e)

  put_first : (at d : ℕ) → Stood k weighed s at → All (end_of k s at) d → All at (suc d)
  unfolding spot
  put_first at d p t zero h = p
  put_first at d p t (suc i) h = subst (λ (n : ℕ). Stood k weighed s n) (spot_next k s at i) (t i (le_of_suc-le-suc h))

  Went : ℕ → Result ℕ Refusal → ℕ → Type 0
  Went d (Ok at) next = All at d × (next ≡ spot k s at d)
  Went d (Err f) next = ⊥

  first_on : (d r at next : ℕ) (w : Result ℕ Refusal) → admitted weighed (standing k s at) r (record_at (standing k s at) s r at) ≡ w → Went d w next → Went (suc d) (Ok at) next
  unfolding Went
  first_on d r at next (Err f) q g = absurd g
  first_on d r at next (Ok m) q g =
      let a = admitted_at weighed (standing k s at) r m _ q in
      let p = passed (standing k s at) s r at m a.0 in
      let p' : Passed (standing k s at) s at (end_of k s at) = subst (λ (n : ℕ). Passed (standing k s at) s at n) p.past p in
      let t : All (end_of k s at) d = subst (λ (n : ℕ). All n d) p.past g.0 in
      (put_first at d (record { passed = p'; suited = a.1 }) t, g.1 ∙ ap (λ (n : ℕ). spot k s n d) p.past ∙ spot_next k s at d)

  went : (d r : ℕ) (w : Result ℕ Refusal) (next : ℕ) → iter (stepped k weighed s) d r w ≡ Ok next → Went d w next
  unfolding iter stepped spot Went
  went zero r (Ok at) next e = ((λ i h. absurd (not-suc-le-zero h)), cc)
  went zero r (Err f) next e = no_fault 0 r f next e
  went (suc d) r (Ok at) next e =
      first_on d r at next (stepped k weighed s r (Ok at)) refl (went d (suc r) (stepped k weighed s r (Ok at)) next e)
  went (suc d) r (Err f) next e = no_fault (suc d) r f next e

  -- a walk that was not refused began at a place and passed every record
  record Walked (n : ℕ) (w : Result ℕ Refusal) (next : ℕ) : Type 0 where
    pub at : ℕ
    pub from : w ≡ Ok at
    pub all : All at n
    pub end : next ≡ spot k s at n

  walked_all : (start end n : ℕ) (w : Result ℕ Refusal) (next : ℕ) → end - start ≡ n → walked k weighed start end s w ≡ Ok next → Walked n w next
  unfolding walked Went
  walked_all start end n (Ok at) next q e =
      let g = went (end - start) start (Ok at) next e in
      record {
        at = at;
        from = refl;
        all = subst (λ (m : ℕ). All at m) q g.0;
        end = g.1 ∙ ap (λ (m : ℕ). spot k s at m) q;
      }
  walked_all start end n (Err f) next q e = absurd (no_fault (end - start) start f next e)

-- one of BU and BV stands in a file of the one or of the other
one_form : (weighed b : Bool) → suits weighed (cond b WeighedBus Bus) ≡ true → b ≡ weighed
one_form true true e = refl
one_form true false e = e
one_form false true e = sym e
one_form false false e = refl

-- each bus of a file is of the form that the first has
abbrev pub OneForm : List ℕ → ℕ → ℕ → Type 0
OneForm s at n = (i : ℕ) → i < n → marked WeighedBus s (spot Bus s at i) ≡ marked WeighedBus s at

-- each bus of a file is of the form that is wanted
abbrev pub AsWanted : Wanted → List ℕ → ℕ → ℕ → Type 0
AsWanted wanted s at n = (i : ℕ) → i < n → marked WeighedBus s (spot Bus s at i) ≡ bus_form wanted s (Ok at)

one_form_of : (wanted : Wanted) (s : List ℕ) (at n : ℕ) → AsWanted wanted s at n → OneForm s at n
unfolding spot
one_form_of wanted s at n g i h = g i h ∙ sym (g 0 (omega arith))

-- where the last record ends
abbrev pub end_at : List ℕ → Header → ℕ
end_at s h = spot Line s (lines_at s h) (lines h)

pub record Accepted (s : List ℕ) (h : Header) : Type 0 where
  pub short : length s ≤ most_bytes
  pub header : h ≡ header_of s
  pub head : Passed Head s 0 levels_at
  pub counts : counts_ok h ≡ true
  pub levels : Table Level s levels_at (levels h)
  pub buses : Table Bus s (buses_at s h) h.buses
  pub form : OneForm s (buses_at s h) h.buses
  pub generators : Table Generator s (generators_at s h) h.generators
  pub corridors : Table Corridor s (corridors_at s h) h.corridors
  pub rows : Table Line s (lines_at s h) (lines h)
  pub zeros : length s ≤ trailing s (end_at s h)

-- the tables of a walk over all of them
pub record Tables (wanted : Wanted) (s : List ℕ) (h : Header) (next : ℕ) : Type 0 where
  pub levels : Table Level s levels_at (levels h)
  pub buses : Table Bus s (buses_at s h) h.buses
  pub form : AsWanted wanted s (buses_at s h) h.buses
  pub generators : Table Generator s (generators_at s h) h.generators
  pub corridors : Table Corridor s (corridors_at s h) h.corridors
  pub rows : Table Line s (lines_at s h) (lines h)
  pub end : next ≡ end_at s h

-- a table from where the walk before it ended
moved : (k : Kind) (weighed : Bool) (s : List ℕ) (n : ℕ) {at place : ℕ} → at ≡ place → ((i : ℕ) → i < n → Stood k weighed s (spot k s at i)) → Table k s place n
unfolding spot
moved k weighed s n p t = subst (λ (m : ℕ). Table k s m n) p (λ i h. (t i h).passed)

at_same : {m n : ℕ} → ◌≡◌ {A = Result ℕ Refusal} (Ok m) (Ok n) → m ≡ n
at_same e = cc

tables_of_lem : (wanted : Wanted) (s : List ℕ) (h : Header) (next : ℕ) → tables_walked wanted h s (Ok levels_at) ≡ Ok next → Tables wanted s h next
unfolding tables_walked
tables_of_lem wanted s h next e =
    let w₅ = walked_all Line false s (before_lines h) (records_of h) (lines h) _ next (omega arith) e in
    let w₄ = walked_all Corridor false s (before_corridors h) (before_lines h) h.corridors _ w₅.at (omega arith) w₅.from in
    let w₃ = walked_all Generator false s (before_generators h) (before_corridors h) h.generators _ w₄.at (omega arith) w₄.from in
    let w₂ = walked_all Bus _ s (before_buses h) (before_generators h) h.buses _ w₃.at (omega arith) w₃.from in
    let w₁ = walked_all Level false s 1 (before_buses h) (levels h) _ w₂.at (omega arith) w₂.from in
    let p₁ : w₁.at ≡ levels_at = at_same (sym w₁.from) in
    let p₂ : w₂.at ≡ buses_at s h = w₁.end ∙ ap (λ (m : ℕ). spot Level s m (levels h)) p₁ in
    let p₃ : w₃.at ≡ generators_at s h = w₂.end ∙ ap (λ (m : ℕ). spot Bus s m h.buses) p₂ in
    let p₄ : w₄.at ≡ corridors_at s h = w₃.end ∙ ap (λ (m : ℕ). spot Generator s m h.generators) p₃ in
    let p₅ : w₅.at ≡ lines_at s h = w₄.end ∙ ap (λ (m : ℕ). spot Corridor s m h.corridors) p₄ in
    record {
      levels = moved Level false s (levels h) p₁ w₁.all;
      buses = moved Bus _ s h.buses p₂ w₂.all;
      form = subst (λ (m : ℕ). AsWanted wanted s m h.buses) p₂ (λ i l. one_form _ _ (w₂.all i l).suited ∙ ap (λ (w : Result ℕ Refusal). bus_form wanted s w) w₂.from);
      generators = moved Generator false s h.generators p₃ w₃.all;
      corridors = moved Corridor false s h.corridors p₄ w₄.all;
      rows = moved Line false s (lines h) p₅ w₅.all;
      end = w₅.end ∙ ap (λ (m : ℕ). spot Line s m (lines h)) p₅;
    }

-- ---- the tests on the way to an answer
refused_not_read : {f : Refusal} {h : Header} → Err f ≡ Ok h → ⊥
refused_not_read e = unequal cc

-- the end of an answered reading, from its test and its walk
end_by : (s : List ℕ) (h h₀ : Header) (next : ℕ) (z : Bool) (i : ℕ) (f : Refusal) → ltb i (length s) ≡ z → cond z (Err f) (Ok h₀) ≡ Ok h
    → (h ≡ h₀) × (length s ≤ i)
end_by s h h₀ next true i f q e = absurd (refused_not_read e)
end_by s h h₀ next false i f q e = (cc, ltb-false i (length s) q)

pub record Ended (s : List ℕ) (h h₀ : Header) (w : Result ℕ Refusal) : Type 0 where
  pub next : ℕ
  pub walk : w ≡ Ok next
  pub same : h ≡ h₀
  pub zeros : length s ≤ trailing s next

ended : (s : List ℕ) (h h₀ : Header) (w : Result ℕ Refusal) → (end_read h₀ s w).reading ≡ Ok h → Ended s h h₀ w
unfolding end_read
ended s h h₀ (Err f) e = absurd (refused_not_read e)
ended s h h₀ (Ok next) e =
    let g = end_by s h h₀ next _ (trailing s next) _ refl e in
    record { next = next; walk = refl; same = g.0; zeros = g.1 }

counted : (s : List ℕ) (h : Header) (y : Bool) (r : CaseRead) (f : Refusal) → (cond y r (unread f)).reading ≡ Ok h → (y ≡ true) × (r.reading ≡ Ok h)
counted s h true r f e = (refl, e)
counted s h false r f e = absurd (refused_not_read e)

body_accepted : (wanted : Wanted) (s : List ℕ) (h : Header) (w : Result ℕ Refusal) → length s ≤ most_bytes → record_at Head s 0 0 ≡ w → (body_read wanted s w).reading ≡ Ok h
    → Accepted s h × AsWanted wanted s (buses_at s h) h.buses
unfolding body_read
body_accepted wanted s h (Err f) l q e = absurd (refused_not_read e)
body_accepted wanted s h (Ok at) l q e =
    let c = counted s h _ _ _ e in
    let n = ended s h (header_of s) _ c.1 in
    let p = passed Head s 0 0 at q in
    let a : at ≡ levels_at = p.past in
    let w : tables_walked wanted (header_of s) s (Ok levels_at) ≡ Ok n.next = ap (λ (m : ℕ). tables_walked wanted (header_of s) s (Ok m)) (sym a) ∙ n.walk in
    let t = tables_of_lem wanted s h n.next (ap (λ (g : Header). tables_walked wanted g s (Ok levels_at)) n.same ∙ w) in (
      record {
        short = l;
        header = n.same;
        head = subst (λ (m : ℕ). Passed Head s 0 m) a p;
        counts = ap (λ (g : Header). counts_ok g) n.same ∙ c.0;
        levels = t.levels;
        buses = t.buses;
        form = one_form_of wanted s (buses_at s h) h.buses t.form;
        generators = t.generators;
        corridors = t.corridors;
        rows = t.rows;
        zeros = subst (λ (m : ℕ). length s ≤ trailing s m) t.end n.zeros;
      },
      t.form,
    )

whole_by : (s : List ℕ) (h : Header) (x : Bool) (r : CaseRead) (f : Refusal) → ltb most_bytes (length s) ≡ x → (cond x (unread f) r).reading ≡ Ok h
    → (length s ≤ most_bytes) × (r.reading ≡ Ok h)
whole_by s h true r f q e = absurd (refused_not_read e)
whole_by s h false r f q e = (ltb-false most_bytes (length s) q, e)

-- a file that is answered, whatever is wanted, is such a file, and its buses are as wanted
pub accepted_as : (wanted : Wanted) (s : List ℕ) (h : Header) → (read_as wanted s).reading ≡ Ok h → Accepted s h × AsWanted wanted s (buses_at s h) h.buses
unfolding read_as
accepted_as wanted s h e =
    let g = whole_by s h _ _ _ refl e in
    body_accepted wanted s h (record_at Head s 0 0) g.0 refl g.1

pub accepted : (s : List ℕ) (h : Header) → reading_of s ≡ Ok h → Accepted s h
accepted s h e = (accepted_as Either s h e).0
