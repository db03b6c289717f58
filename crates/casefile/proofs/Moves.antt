-- Moving, way by way, and the two operations that it is. A file that is answered can be moved.
use Prim.Native.Nat.{ℕ, zero, suc, ◌+◌, ◌*◌, ◌≤◌}
use mathlib.Core.Bool.{Bool, true, false, cond}
use mathlib.Core.List.{List}
use mathlib.Core.Path.{◌≡◌, refl, sym, ap, ◌∙◌, subst}
use borrow.Author.Tests.{eq-eqb, ne_eqb}
use native.Mathlib.Omega.{arith}
use lib.Dec.{ltb, eqb}
use lib.ListN.{length, replicate}
use Rattle.refusal.specs.declared.Refusal.{Refusal}
use Rattle.refusal.specs.declared.Refusal.TheVariants.{Length, Weight}
use Rattle.std.specs.Prelude.{Option, Some, None}
use Rattle.loops.specs.Loops.{first, fault}
use Rattle.loops.proofs.Scan.{fault_none}
use Rattle.casefile_defs.specs.Bounds.{most_bytes}
use Rattle.casefile_defs.specs.Layout.{size_of, marked, spot}
use Rattle.casefile_defs.specs.Moving.{Moved, moved_as, unmoved, moved_to, file_as, fitted, first_other, weighs_one, forward_by, move_forward, back_by, move_back}
use Rattle.casefile_defs.specs.Reading.{levels, Small, bus_form, read_as}
use Rattle.casefile_defs.specs.Tables.{levels_at, buses_at}
use Rattle.casefile_defs.specs.declared.Kind.{Kind}
use Rattle.casefile_defs.specs.declared.Kind.TheVariants.{Level, Bus, WeighedBus}
use Rattle.casefile_defs.specs.declared.CaseRead.{CaseRead}
use Rattle.casefile_defs.specs.declared.Header.{Header}
use Rattle.casefile_defs.specs.declared.Wanted.{Wanted}
use Rattle.casefile_defs.specs.declared.Wanted.TheVariants.{Plain, Weighed}
use Rattle.casefile_defs.proofs.Accepted.{Accepted, accepted_as}
use Rattle.casefile_defs.proofs.Counts.{small_of}
use Rattle.casefile_defs.proofs.Spots.{standing_least}
use Rattle.casefile.specs.Movable.{Kept, AllWeighed, Movable, keeps, lost_by, sent_by, moved_by}
use Rattle.casefile.specs.Records.{Records, Room, records_of}
use Rattle.casefile.proofs.Fitted.{spot_inside}
use Rattle.std.specs.Prelude.{Err, Ok, Result}
use Rattle.refusal.specs.Reply.{no_refusal}

-- ---- an answered file: where its buses begin, and that they can be moved
level_spot : (s : List ℕ) (at i : ℕ) → spot Level s at i ≡ at + i * size_of Level
unfolding spot
level_spot s at zero = omega arith
level_spot s at (suc i) = omega (arith, level_spot s at i)

pub at_buses : (s : List ℕ) (h : Header) {at : ℕ} → at ≡ levels_at + levels h * size_of Level → at ≡ buses_at s h
at_buses s h e = e ∙ sym (level_spot s levels_at (levels h))

pub table_at : (s : List ℕ) (h : Header) {at : ℕ} {t : Records} → at ≡ levels_at + levels h * size_of Level → t ≡ records_of Bus s at h.buses → t ≡ records_of Bus s (buses_at s h) h.buses
table_at s h e g = g ∙ ap (λ (p : ℕ). records_of Bus s p h.buses) (at_buses s h e)

pub read_is : (wanted : Wanted) (s : List ℕ) {r : CaseRead} → r ≡ read_as wanted s → (read_as wanted s).reading ≡ r.reading
read_is wanted s e = ap (λ (x : CaseRead). x.reading) (sym e)

module _ (wanted : Wanted) (s : List ℕ) (h : Header) (e : (read_as wanted s).reading ≡ Ok h) where
  file : Accepted s h
  file = (accepted_as wanted s h e).0

  pub small : Small h
  small = small_of h file.counts

  pub buses_room : Room Bus s (buses_at s h) h.buses
  buses_room i l = (file.buses i l).room

  buses_kept : Kept s (buses_at s h) h.buses
  buses_kept i l = omega (arith, buses_room i l, standing_least Bus s (spot Bus s (buses_at s h) i))

  buses_inside : buses_at s h ≤ length s
  buses_inside = spot_inside Level s levels_at (levels h) file.head.room (λ i l. (file.levels i l).room)

  pub movable : Movable (records_of Bus s (buses_at s h) h.buses)
  movable = record {
    buses = refl;
    kept = buses_kept;
    few = small.buses;
    inside = buses_inside;
    early = omega (arith, level_spot s levels_at (levels h), small.levels);
    within = spot_inside Bus s (buses_at s h) h.buses buses_inside buses_room;
  }

-- a bus of a file of BV has a weight
pub all_weighed : (wanted : Wanted) (s : List ℕ) (h : Header) → wanted ≡ Weighed → (read_as wanted s).reading ≡ Ok h → AllWeighed s (buses_at s h) h.buses
unfolding bus_form
all_weighed wanted s h g e i l =
    let e' : (read_as Weighed s).reading ≡ Ok h = ap (λ (w : Wanted). (read_as w s).reading) (sym g) ∙ e in
    let w : marked WeighedBus s (spot Bus s (buses_at s h) i) ≡ true = (accepted_as Weighed s h e').1 i l in
    subst (λ (b : Bool). spot Bus s (buses_at s h) i + size_of (cond b WeighedBus Bus) ≤ length s) w (buses_room Weighed s h e' i l)

-- ---- the ways: the length of the output first
module _ (wanted : Wanted) (k : Kind) (s out l : List ℕ) where
  pub moved_length : (length out ≡ most_bytes → ⊥) → moved_as (Err Length) out ≡ moved_by wanted k s out
  unfolding moved_by
  moved_length n = simp (ne_eqb (length out) most_bytes n)

  module _ (n : length out ≡ most_bytes) where
    way : (r : Result Header Refusal) → (read_as wanted s).reading ≡ r → sent_by k s r ≡ moved_by wanted k s out
    unfolding moved_by
    way r e = ap (λ (x : Result Header Refusal). sent_by k s x) (sym e) ∙ simp (eq-eqb (length out) most_bytes n)

    pub moved_refused : (a : Result (Unit {0}) Refusal) (f : Refusal) → (read_as wanted s).reading ≡ Err f → a ≡ Err f → l ≡ replicate most_bytes 0
        → moved_as a l ≡ moved_by wanted k s out
    unfolding sent_by
    moved_refused a f e g z =
        ap (λ (x : Result (Unit {0}) Refusal). moved_as x l) g ∙ ap (λ (x : List ℕ). moved_as (Err f) x) z ∙ way (Err f) e

    pub moved_lost : (h : Header) (i : ℕ) → (read_as wanted s).reading ≡ Ok h → Some i ≡ fault (keeps k s (buses_at s h)) h.buses → l ≡ replicate most_bytes 0
        → moved_as (Err (Weight i)) l ≡ moved_by wanted k s out
    unfolding sent_by
    moved_lost h i e q z = ap (λ (x : List ℕ). moved_as (Err (Weight i)) x) z ∙ ap (λ (x : Option ℕ). lost_by k s h x) q ∙ way (Ok h) e

    pub moved_whole : (h : Header) → (read_as wanted s).reading ≡ Ok h → None ≡ fault (keeps k s (buses_at s h)) h.buses
        → l ≡ fitted (file_as k s (buses_at s h) h.buses) → moved_as no_refusal l ≡ moved_by wanted k s out
    unfolding sent_by
    moved_whole h e q g = ap (λ (x : List ℕ). moved_as no_refusal x) g ∙ ap (λ (x : Option ℕ). lost_by k s h x) q ∙ way (Ok h) e

-- ---- the two operations: a weight is lost on the way back alone
module _ (s : List ℕ) where
  forward_same : (r : Result Header Refusal) → sent_by WeighedBus s r ≡ forward_by s r
  unfolding sent_by forward_by
  forward_same (Err f) = refl
  forward_same (Ok h) = ap (λ (x : Option ℕ). lost_by WeighedBus s h x) (sym (fault_none (keeps WeighedBus s (buses_at s h)) h.buses (λ j l. refl)))

  back_same : (r : Result Header Refusal) → sent_by Bus s r ≡ back_by s r
  unfolding sent_by back_by first_other fault
  back_same (Err f) = refl
  back_same (Ok h) = go (ltb (first (weighs_one s (buses_at s h)) h.buses 0) h.buses)
    where
      n : ℕ
      n = first (weighs_one s (buses_at s h)) h.buses 0

      go : (b : Bool) → lost_by Bus s h (cond b (Some n) None) ≡ cond b (unmoved (Weight n)) (moved_to Bus s h)
      go true = refl
      go false = refl

  pub is_moved_forward : (out : List ℕ) → moved_by Plain WeighedBus s out ≡ move_forward s out
  unfolding moved_by move_forward
  is_moved_forward out = ap (λ (m : Moved). cond (eqb (length out) most_bytes) m (moved_as (Err Length) out)) (forward_same (read_as Plain s).reading)

  pub is_moved_back : (out : List ℕ) → moved_by Weighed Bus s out ≡ move_back s out
  unfolding moved_by move_back
  is_moved_back out = ap (λ (m : Moved). cond (eqb (length out) most_bytes) m (moved_as (Err Length) out)) (back_same (read_as Weighed s).reading)
