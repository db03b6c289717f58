-- Each case is accepted, and the network that is read off it has its place: one computed test over all places.
use Prim.Native.Nat.{ℕ, ◌<◌}
use mathlib.Core.Bool.{Bool, true, false, ◌&&◌}
use mathlib.Core.List.{List, [], ◌∷◌}
use mathlib.Core.Path.{◌≡◌, refl}
use native.Mathlib.Omega.{arith}
use borrow.Author.Tests.{eqb-true}
use lib.Dec.{eqb, leb}
use lib.Ieee.{of_bits, add, mul, lt, le, eq, neg, round}
use Rattle.std.specs.Prelude.{Err, Ok, Result}
use Rattle.loops.specs.Loops.{first, tab}
use Rattle.loops.proofs.Bools.{both, unequal}
use Rattle.loops.proofs.Scan.{all_pass}
use Rattle.refusal.specs.Reply.{no_refusal}
use Rattle.refusal.specs.declared.Refusal.{Refusal}
use Rattle.casefile_defs.specs.Reading.{counts_ok}
use Rattle.plan_defs.specs.Case.{rows_of, row_at}
use Rattle.plan_defs.specs.Accept.{lengths_ok, counts_ok as case_counts_ok, level_ok, bus_ok, generator_ok, corridor_sound, row_ok, tables_tests, case_tests, case_check}
use Rattle.small_defs.specs.Networks.{bits, numbered, all_places, buses_at, number_at, network_at}
use Rattle.small_defs.specs.Tables.{chosen, header_of, columns_of, header_at}
use Rattle.small_theorems.specs.Inverse.{binary, first_place, place_for}
use Rattle.case_defs.specs.Cases.{case_as}
use Rattle.small_theorems.specs.Held.{joins, network_with}

abbrev passed : Result (Unit {0}) Refusal → Bool
passed (Ok tt) = true
passed (Err f) = false

passed_lem : (r : Result (Unit {0}) Refusal) → passed r ≡ true → r ≡ no_refusal
passed_lem (Ok tt) e = refl
passed_lem (Err f) e = absurd (unequal cc)

-- every number of a column is at most 2
abbrev pub low : List ℕ → Bool
low [] = true
low (x ∷ l) = leb x 2 && low l

-- of a place: its case is accepted, a file can hold it, and the network read off it is the place's
unfoldable sound : ℕ → Bool
sound i =
    let h = header_at i in
    let p = columns_of (network_at i) in
    passed (case_check (case_as h p) h.target) && (counts_ok h && (low p.a && (low p.b && eqb (place_for (network_with h p)) i)))

-- what the test opens: the case's checks, and what gives a place its network
unfoldable checks : ℕ
unfolding rows_of row_at lengths_ok case_counts_ok level_ok bus_ok generator_ok corridor_sound row_ok tables_tests case_tests add mul lt le eq neg of_bits round
checks = 0

unfoldable tests : ℕ
unfolding checks sound first tab buses_at number_at network_at numbered bits chosen header_of columns_of binary first_place place_for joins network_with
tests = 0

all_sound : first sound all_places 0 ≡ all_places
unfolding tests
all_sound = refl

pub record Sound (i : ℕ) : Type 0 where
  pub accepted : case_check (case_as (header_at i) (columns_of (network_at i))) (header_at i).target ≡ no_refusal
  pub counts : counts_ok (header_at i) ≡ true
  pub a : low (columns_of (network_at i)).a ≡ true
  pub b : low (columns_of (network_at i)).b ≡ true
  pub place : place_for (network_with (header_at i) (columns_of (network_at i))) ≡ i

pub sound_at : (i : ℕ) → i < all_places → Sound i
unfolding sound
sound_at i h =
    let t = both _ _ (all_pass sound all_places (omega (arith, all_sound)) i h) in
    let u = both _ _ t.1 in
    let v = both _ _ u.1 in
    let w = both _ _ v.1 in
    record { accepted = passed_lem _ t.0; counts = u.0; a = v.0; b = w.0; place = eqb-true _ _ w.1 }
