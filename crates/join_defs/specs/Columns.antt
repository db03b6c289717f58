-- How code fills a joined column: place i is the first's, then the second's, then zero. proofs/Tables ties it to the tables of `Joining`.
use Rattle.std.specs.Prelude.{ℕ, ◌+◌, ◌-◌, ◌*◌, ◌/◌, ◌%◌, cond, List, ltb, Float, length, get_or}
use Rattle.loops.specs.Figures.{at, nought}
use Rattle.loops.specs.Loops.{tab}
use Rattle.sheets.specs.Sheet.{row_figures, row_place, row_corridor, row_level}

abbrev pub figure_at : List Float → List Float → ℕ → Float
figure_at x y i = cond (ltb i (length x)) (at x i) (cond (ltb i (length x + length y)) (at y (i - length x)) nought)

abbrev pub figures : ℕ → List Float → List Float → List Float
figures places x y = tab places (figure_at x y)

-- the second's are raised by some number
abbrev pub count_at : ℕ → List ℕ → List ℕ → ℕ → ℕ
count_at by x y i = cond (ltb i (length x)) (get_or x i 0) (cond (ltb i (length x + length y)) (by + get_or y (i - length x) 0) 0)

abbrev pub counts : ℕ → ℕ → List ℕ → List ℕ → List ℕ
counts places by x y = tab places (count_at by x y)

-- the sheet by level: the first's m corridors and the second's o, at n levels
abbrev pub sheet_at : ℕ → ℕ → ℕ → List Float → List Float → ℕ → Float
sheet_at m o n x y p =
    let i = p / row_figures in
    let k = row_corridor (m + o) i in
    let l = row_level (m + o) i in
    cond (ltb i ((m + o) * n)) (cond (ltb k m) (at x (row_place m k l + p % row_figures)) (at y (row_place o (k - m) l + p % row_figures))) nought

abbrev pub joined_sheet : ℕ → ℕ → ℕ → ℕ → List Float → List Float → List Float
joined_sheet places m o n x y = tab places (sheet_at m o n x y)
