-- How many bytes a line takes at most, and a listing.
use Prim.Native.Nat.{ℕ, zero, suc, ◌*◌, ◌≤◌}
use mathlib.Core.List.{List}
use native.Mathlib.Omega.{arith}
use lib.Ieee.{Float}
use lib.ListN.{length, get_or, length-append, length-take, take}
use Rattle.loops.specs.Figures.{at}
use Rattle.mode.specs.Number.{mode_number}
use Rattle.mode.specs.declared.PlanMode.{PlanMode}
use Rattle.refusal.specs.Number.{number_of, index_of}
use Rattle.refusal.specs.declared.Refusal.{Refusal}
use Rattle.plan_defs.specs.Listing.{flag}
use Rattle.plan_defs.specs.declared.CorridorPlan.{CorridorPlan}
use Rattle.casefile_defs.specs.Bounds.{most_buses, most_levels}
use Rattle.planned_files.specs.declared.file.PlannedFile.{PlannedFile}
use Rattle.listing_defs.specs.Lines.{lines, plan_room, line_room, most_text, refusal_line, plan_line, added_line, ground_line, bus_line, generator_line, corridor_line, most_line}
use Rattle.listing.specs.Listing.{planned_lines}
use Rattle.listing.proofs.Numbers.{length_number, length_figure}

pub refusal_short : (f : Refusal) → length (refusal_line f) ≤ line_room
unfolding refusal_line
refusal_short f = simp length-append (omega (arith, length_number (number_of f), length_number (index_of f)))

plan_short : (mode : PlanMode) (p : CorridorPlan) → length (plan_line mode p) ≤ plan_room
unfolding plan_line
plan_short mode p =
    simp length-append
    (omega (arith, length_number (mode_number mode), length_number p.rounds, length_number (flag p.converged), length_number p.capacity, length_number p.stiffening, length_number p.filler, length_number p.promoted, length_number p.upsized, length_number p.overloaded, length_number p.capped))

added_short : (kv : Float) → length (added_line kv) ≤ line_room
unfolding added_line
added_short kv = simp length-append (omega (arith, length_figure kv))

ground_short : (bus : ℕ) → length (ground_line bus) ≤ line_room
unfolding ground_line
ground_short bus = simp length-append (omega (arith, length_number bus))

bus_short : (i tier : ℕ) (angle : Float) → length (bus_line i tier angle) ≤ line_room
unfolding bus_line
bus_short i tier angle = simp length-append (omega (arith, length_number i, length_number tier, length_figure angle))

generator_short : (i : ℕ) (mw : Float) → length (generator_line i mw) ≤ line_room
unfolding generator_line
generator_short i mw = simp length-append (omega (arith, length_number i, length_figure mw))

corridor_short : (i circuits : ℕ) (flow rate : Float) → length (corridor_line i circuits flow rate) ≤ line_room
unfolding corridor_line
corridor_short i circuits flow rate = simp length-append (omega (arith, length_number i, length_number circuits, length_figure flow, length_figure rate))

most_short : (loading spread : Float) → length (most_line loading spread) ≤ line_room
unfolding most_line
most_short loading spread = simp length-append (omega (arith, length_figure loading, length_figure spread))

-- ---- of a table, and of a plan
lines_short : (f : ℕ → List ℕ) (n : ℕ) → ((i : ℕ) → length (f i) ≤ line_room) → length (lines f n) ≤ line_room * n
unfolding lines
lines_short f zero h = omega arith
lines_short f (suc n) h = omega (arith, length-append (lines f n) (f n), lines_short f n h, h n)

few : {A : Type 0} (n k : ℕ) (xs : List A) → n ≤ k → length (take n xs) ≤ k
few n k xs h = omega (arith, length-take n xs)

pub planned_short : (r : PlannedFile) (p : CorridorPlan) → p.added ≤ most_levels → p.grounds ≤ most_buses → length (planned_lines r p) ≤ most_text
unfolding planned_lines
planned_short r p a g =
    let s = r.small in
    let added = take p.added r.results.added in
    let ground = take p.grounds r.results.ground in
    let tier = take r.header.buses r.results.tier in
    let angle = take r.header.buses r.results.angle in
    let mw = take r.header.generators r.results.mw in
    let circuits = take r.header.corridors r.results.circuits in
    let flow = take r.header.corridors r.results.flow in
    let rate = take r.header.corridors r.results.rate in
    simp length-append
    (omega (
      arith,
      plan_short r.header.mode p,
      lines_short (λ i. added_line (at added i)) (length added) (λ i. added_short _),
      few _ _ r.results.added a,
      lines_short (λ i. ground_line (get_or ground i 0)) (length ground) (λ i. ground_short _),
      few _ _ r.results.ground g,
      lines_short (λ i. bus_line i (get_or tier i 0) (at angle i)) (length angle) (λ i. bus_short _ _ _),
      few _ _ r.results.angle s.buses,
      lines_short (λ i. generator_line i (at mw i)) (length mw) (λ i. generator_short _ _),
      few _ _ r.results.mw s.generators,
      lines_short (λ i. corridor_line i (get_or circuits i 0) (at flow i) (at rate i)) (length circuits) (λ i. corridor_short _ _ _ _),
      few _ _ r.results.circuits s.corridors,
      most_short p.loading p.spread,
    ))
