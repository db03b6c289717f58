-- The whole operation, from what its parts leave.
-- Each column is its field's, so the tables are the definition's (tables_same); the lengths are a chain of `and`, taken apart link by link.
use Prim.Native.Nat.{ℕ}
use mathlib.Core.Path.{◌≡◌, sym}
use mathlib.Core.Bool.{true, false}
use mathlib.Core.List.{List}
use borrow.Author.Tests.{eqb-true}
use lib.Ieee.{Float}
use lib.ListN.{length}
use Rattle.loops.specs.Loops.{tab}
use Rattle.loops.proofs.Bools.{both}
use Rattle.refusal.specs.declared.Refusal.TheVariants.{Length}
use Rattle.casefile_defs.specs.Bounds.{most_levels, most_buses, most_generators, most_corridors, most_sheet}
use Rattle.casefile_defs.specs.Reading.{levels, read_of, unread}
use Rattle.casefile_defs.specs.Tables.{Places, places_of, numbers_of, numbers, figures, weights, cap_field, sheet_in, levels_at, buses_at, generators_at, corridors_at, lines_at, tables_of, held, sizes_ok, outcome, read_case}
use Rattle.casefile_defs.specs.declared.Kind.TheVariants.{Level, Bus, Generator, Corridor, CappedCorridor}
use Rattle.casefile_defs.specs.declared.Header.{Header}
use Rattle.casefile_defs.specs.declared.CaseRead.{CaseRead}

-- every table has its largest size
pub record Sizes (p : Places) : Type 0 where
  pub ladder : length p.ladder ≡ most_levels
  pub tier : length p.tier ≡ most_buses
  pub reading : length p.reading ≡ most_buses
  pub weight : length p.weight ≡ most_buses
  pub bus : length p.bus ≡ most_generators
  pub slack : length p.slack ≡ most_generators
  pub pmin : length p.pmin ≡ most_generators
  pub pmax : length p.pmax ≡ most_generators
  pub c1 : length p.c1 ≡ most_generators
  pub c2 : length p.c2 ≡ most_generators
  pub a : length p.a ≡ most_corridors
  pub b : length p.b ≡ most_corridors
  pub circuits : length p.circuits ≡ most_corridors
  pub length_km : length p.length_km ≡ most_corridors
  pub share : length p.share ≡ most_corridors
  pub cap : length p.cap ≡ most_corridors
  pub sheet : length p.sheet ≡ most_sheet

pub sizes : (p : Places) → sizes_ok p ≡ true → Sizes p
unfolding sizes_ok
sizes p e =
    let t16 = both _ _ e in
    let t15 = both _ _ t16.0 in
    let t14 = both _ _ t15.0 in
    let t13 = both _ _ t14.0 in
    let t12 = both _ _ t13.0 in
    let t11 = both _ _ t12.0 in
    let t10 = both _ _ t11.0 in
    let t9 = both _ _ t10.0 in
    let t8 = both _ _ t9.0 in
    let t7 = both _ _ t8.0 in
    let t6 = both _ _ t7.0 in
    let t5 = both _ _ t6.0 in
    let t4 = both _ _ t5.0 in
    let t3 = both _ _ t4.0 in
    let t2 = both _ _ t3.0 in
    let t1 = both _ _ t2.0 in
    record {
      ladder = eqb-true (length p.ladder) most_levels t1.0;
      tier = eqb-true (length p.tier) most_buses t1.1;
      reading = eqb-true (length p.reading) most_buses t2.1;
      weight = eqb-true (length p.weight) most_buses t3.1;
      bus = eqb-true (length p.bus) most_generators t4.1;
      slack = eqb-true (length p.slack) most_generators t5.1;
      pmin = eqb-true (length p.pmin) most_generators t6.1;
      pmax = eqb-true (length p.pmax) most_generators t7.1;
      c1 = eqb-true (length p.c1) most_generators t8.1;
      c2 = eqb-true (length p.c2) most_generators t9.1;
      a = eqb-true (length p.a) most_corridors t10.1;
      b = eqb-true (length p.b) most_corridors t11.1;
      circuits = eqb-true (length p.circuits) most_corridors t12.1;
      length_km = eqb-true (length p.length_km) most_corridors t13.1;
      share = eqb-true (length p.share) most_corridors t14.1;
      cap = eqb-true (length p.cap) most_corridors t15.1;
      sheet = eqb-true (length p.sheet) most_sheet t16.1;
    }

-- the tables, column by column
pub tables_same : (s : List ℕ) (h : Header) (ladder : List Float) (tier : List ℕ) (reading : List Float) (weight : List Float) (bus : List ℕ) (slack : List ℕ) (pmin : List Float) (pmax : List Float) (c1 : List Float) (c2 : List Float) (a : List ℕ) (b : List ℕ) (circuits : List ℕ) (length_km : List Float) (share : List Float) (cap : List ℕ) (sheet : List Float)
    → ladder ≡ figures Level 0 s levels_at (levels h) most_levels
    → tier ≡ numbers Bus 0 s (buses_at s h) h.buses most_buses
    → reading ≡ figures Bus 1 s (buses_at s h) h.buses most_buses
    → weight ≡ weights s (buses_at s h) h.buses most_buses
    → bus ≡ numbers Generator 0 s (generators_at s h) h.generators most_generators
    → slack ≡ numbers Generator 1 s (generators_at s h) h.generators most_generators
    → pmin ≡ figures Generator 2 s (generators_at s h) h.generators most_generators
    → pmax ≡ figures Generator 3 s (generators_at s h) h.generators most_generators
    → c1 ≡ figures Generator 4 s (generators_at s h) h.generators most_generators
    → c2 ≡ figures Generator 5 s (generators_at s h) h.generators most_generators
    → a ≡ numbers Corridor 0 s (corridors_at s h) h.corridors most_corridors
    → b ≡ numbers Corridor 1 s (corridors_at s h) h.corridors most_corridors
    → circuits ≡ numbers Corridor 2 s (corridors_at s h) h.corridors most_corridors
    → length_km ≡ figures Corridor 3 s (corridors_at s h) h.corridors most_corridors
    → share ≡ figures Corridor 4 s (corridors_at s h) h.corridors most_corridors
    → cap ≡ numbers_of Corridor CappedCorridor cap_field s (corridors_at s h) h.corridors most_corridors
    → sheet ≡ tab most_sheet (sheet_in s (lines_at s h) h.corridors (levels h))
    → places_of ladder tier reading weight bus slack pmin pmax c1 c2 a b circuits length_km share cap sheet ≡ tables_of s h
unfolding tables_of
tables_same s h ladder tier reading weight bus slack pmin pmax c1 c2 a b circuits length_km share cap sheet e0 e1 e2 e3 e4 e5 e6 e7 e8 e9 e10 e11 e12 e13 e14 e15 e16 = cc

pub refused_lengths : (s : List ℕ) (p : Places) → sizes_ok p ≡ false → outcome (unread Length) p ≡ read_case s p
unfolding read_case
refused_lengths s p e = simp e

pub read_whole : (s : List ℕ) (p q : Places) (r : CaseRead) (h : Header) → sizes_ok p ≡ true → r ≡ read_of s → h ≡ held r.reading → q ≡ tables_of s h → outcome r q ≡ read_case s p
unfolding read_case
read_whole s p q r h z e g t = simp (z, sym e, sym g, t)
