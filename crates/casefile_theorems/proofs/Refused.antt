-- A refusal leaves zeros: with no records every place of every column is past them.
use Prim.Native.Nat.{ℕ}
use mathlib.Core.Path.{◌≡◌, sym, ◌∙◌}
use mathlib.Core.List.{List}
use native.Mathlib.Omega.{arith}
use lib.ListN.{replicate}
use Rattle.loops.specs.Figures.{nought}
use Rattle.loops.specs.Loops.{tab}
use Rattle.loops.proofs.Tab.{tab_same, tab_replicate}
use Rattle.refusal.specs.declared.Refusal.{Refusal}
use Rattle.casefile_defs.specs.Bounds.{most_levels, most_buses, most_generators, most_corridors, most_sheet}
use Rattle.casefile_defs.specs.Layout.{place_of, span_of}
use Rattle.casefile_defs.specs.Tables.{numbers_of, figures, weights, sheet_in, cap_field, tables_of, held}
use Rattle.casefile_defs.specs.declared.Kind.{Kind}
use Rattle.casefile_defs.specs.declared.Kind.TheVariants.{Level, Bus, Generator, Corridor, CappedCorridor}
use Rattle.casefile_defs.proofs.Spots.{number_past, figure_past, weight_past, sheet_past}
use Rattle.casefile_defs.proofs.Whole.{tables_same}
use Rattle.casefile_theorems.specs.Cases.{blank}
use Rattle.std.specs.Prelude.{Err}

no_numbers : (k l : Kind) (j : ℕ) (s : List ℕ) (at n : ℕ) → replicate n 0 ≡ numbers_of k l j s at 0 n
no_numbers k l j s at n = sym (tab_replicate n 0) ∙ tab_same n (λ i. 0) _ (λ i h. number_past k s at 0 (place_of l j) (span_of l j) i (omega arith))

no_figures_lem : (k : Kind) (j : ℕ) (s : List ℕ) (at n : ℕ) → replicate n nought ≡ figures k j s at 0 n
no_figures_lem k j s at n = sym (tab_replicate n nought) ∙ tab_same n (λ i. nought) _ (λ i h. figure_past k s at 0 (place_of k j) i (omega arith))

no_weights : (s : List ℕ) (at n : ℕ) → replicate n nought ≡ weights s at 0 n
no_weights s at n = sym (tab_replicate n nought) ∙ tab_same n (λ i. nought) _ (λ i h. weight_past s at 0 i (omega arith))

no_sheet : (s : List ℕ) (at n : ℕ) → replicate n nought ≡ tab n (sheet_in s at 0 0)
no_sheet s at n = sym (tab_replicate n nought) ∙ tab_same n (λ i. nought) _ (λ i h. sheet_past s at 0 0 i (omega arith))

pub refused_blank : (s : List ℕ) (f : Refusal) → blank ≡ tables_of s (held (Err f))
unfolding held blank
refused_blank s f =
    tables_same s (held (Err f)) _ _ _ _ _ _ _ _ _ _ _ _ _ _ _ _ _
    (no_figures_lem Level 0 s _ most_levels)
    (no_numbers Bus Bus 0 s _ most_buses)
    (no_figures_lem Bus 1 s _ most_buses)
    (no_weights s _ most_buses)
    (no_numbers Generator Generator 0 s _ most_generators)
    (no_numbers Generator Generator 1 s _ most_generators)
    (no_figures_lem Generator 2 s _ most_generators)
    (no_figures_lem Generator 3 s _ most_generators)
    (no_figures_lem Generator 4 s _ most_generators)
    (no_figures_lem Generator 5 s _ most_generators)
    (no_numbers Corridor Corridor 0 s _ most_corridors)
    (no_numbers Corridor Corridor 1 s _ most_corridors)
    (no_numbers Corridor Corridor 2 s _ most_corridors)
    (no_figures_lem Corridor 3 s _ most_corridors)
    (no_figures_lem Corridor 4 s _ most_corridors)
    (no_numbers Corridor CappedCorridor cap_field s _ most_corridors)
    (no_sheet s _ most_sheet)
