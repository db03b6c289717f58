-- The small networks' sheets lie by level (document 02, K11): they have one level, and then a sheet by corridor and the same sheet by level are one.
use Prim.Native.Nat.{ℕ, ◌+◌, ◌*◌, ◌/◌, ◌%◌, ◌<◌}
use mathlib.Core.List.{List}
use mathlib.Core.Path.{◌≡◌, ap, ◌∙◌}
use native.Mathlib.Omega.{arith}
use lib.Ieee.{Float, nan}
use lib.ListN.{length}
use Rattle.loops.specs.Figures.{at}
use Rattle.loops.proofs.Tab.{tab_same, tab_of, length_tab}
use Rattle.sheets.specs.Sheet.{row_figures, line_of, by_level}
use Rattle.sheets.proofs.Layouts.{line_at_lem}
use Rattle.casefile_defs.specs.Reading.{levels}
use Rattle.small_defs.specs.Networks.{Network}
use Rattle.small_defs.specs.Tables.{corridors_of, header_of, columns_of}

line_same : (m i : ℕ) → i < m → line_of m 1 i ≡ i
line_same m i h = ap (line_of m 1) (let z : i ≡ 0 * m + i = omega arith in z) ∙ line_at_lem m 1 i 0 h ∙ (let z : i * 1 + 0 ≡ i = omega arith in z)

one_level : (m : ℕ) (sheet : List Float) → length sheet ≡ row_figures * (m * 1) → by_level m 1 sheet ≡ sheet
unfolding by_level
one_level m sheet e =
    tab_same (row_figures * (m * 1)) _ (at sheet) (λ p h.
    let q : p / row_figures < m = omega arith in
    ap (λ (x : ℕ). at sheet (row_figures * x + p % row_figures)) (line_same m (p / row_figures) q)
    ∙ ap (at sheet) (let z : row_figures * (p / row_figures) + p % row_figures ≡ p = omega arith in z))
    ∙ tab_of (row_figures * (m * 1)) sheet nan e

pub small_by_level : (s : Network) → by_level (header_of s).corridors (levels (header_of s)) (columns_of s).sheet ≡ (columns_of s).sheet
unfolding header_of columns_of
small_by_level s =
    let m = length (corridors_of s) in
    one_level m (columns_of s).sheet (length_tab (m * row_figures) _ ∙ (let z : m * row_figures ≡ row_figures * (m * 1) = omega arith in z))
