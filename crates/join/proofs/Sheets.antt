-- Of two sheets by level the figure that is read for place p of the joined one.
use Prim.Native.Nat.{ℕ, ◌+◌, ◌-◌, ◌*◌, ◌/◌, ◌%◌, ◌≤◌, ◌<◌}
use mathlib.Core.List.{List}
use mathlib.Core.Path.{◌≡◌}
use native.Mathlib.Nat.{mod-lt}
use native.Mathlib.Omega.{arith}
use borrow.Author.Tests.{lt-ltb, le-ltb}
use lib.Ieee.{Float}
use lib.ListN.{length}
use Rattle.loops.specs.Figures.{at}
use Rattle.sheets.specs.Sheet.{row_figures, row_place, row_corridor, row_level}
use Rattle.sheets.proofs.Layouts.{row_level_lem, row_corridor_lem, row_inside}
use Rattle.join_defs.specs.Columns.{sheet_at}
use Rattle.join.specs.Joins.{Rowed}

module _ (m o n : ℕ) (x y : List Float) (s : Rowed m o n (length x) (length y)) where
  module _ (p : ℕ) where
    abbrev corridor : ℕ
    corridor = row_corridor (m + o) (p / row_figures)

    abbrev level : ℕ
    level = row_level (m + o) (p / row_figures)

    abbrev field : ℕ
    field = p % row_figures

    module _ (h : p / row_figures < (m + o) * n) where
      -- k and l are what code has asked sheets for
      module _ (k l : ℕ) (e : k ≡ corridor) (f : l ≡ level) where
        there : l < n
        there = omega (arith, f, row_level_lem (m + o) n (p / row_figures) h)

        few : field < row_figures
        few = mod-lt p (omega arith)

        pub in_first : k < m → row_place m k l + field < length x
        in_first b = omega (arith, row_inside m n k l b there, few, s.first_size)

        pub in_second : m ≤ k → row_place o (k - m) l + field < length y
        in_second b =
            let z : k - m < o = omega (arith, e, row_corridor_lem (m + o) n (p / row_figures) h) in
            omega (arith, row_inside o n (k - m) l z there, few, s.second_size)

        pub first_is : k < m → at x (row_place m k l + field) ≡ sheet_at m o n x y p
        first_is b = let z : corridor < m = omega (arith, e, b) in rw (e, f, lt-ltb (p / row_figures) ((m + o) * n) h, lt-ltb corridor m z)

        pub second_is : m ≤ k → at y (row_place o (k - m) l + field) ≡ sheet_at m o n x y p
        second_is b = let z : m ≤ corridor = omega (arith, e, b) in rw (e, f, lt-ltb (p / row_figures) ((m + o) * n) h, le-ltb corridor m z)
