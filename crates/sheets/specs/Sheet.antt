-- A line sheet of m corridors and n levels, and where its rows lie (document 02, K11). By corridor, as the case file and the line office have it, the rows of the
-- first corridor come first, a level each; by level, as the planner has it, those of the first level, a corridor each.
use Rattle.std.specs.Prelude.{ℕ, ◌+◌, ◌*◌, ◌/◌, ◌%◌, List, Float}
use Rattle.loops.specs.Figures.{at}
use Rattle.loops.specs.Loops.{tab}

-- a row's figures: r, x, b, rate, basis
abbrev pub row_figures : ℕ
row_figures = 5

-- ---- by level, of m corridors: seam: which row the row of a corridor and a level is, and its first figure
abbrev pub row_index : ℕ → ℕ → ℕ → ℕ
row_index m k level = level * m + k

abbrev pub row_place : ℕ → ℕ → ℕ → ℕ
row_place m k level = row_figures * row_index m k level

-- and back: the corridor and the level of row i
abbrev pub row_corridor : ℕ → ℕ → ℕ
row_corridor m i = i % m

abbrev pub row_level : ℕ → ℕ → ℕ
row_level m i = i / m

-- ---- by corridor, of n levels: the same. It is 7's index too.
abbrev pub line_index : ℕ → ℕ → ℕ → ℕ
line_index n k level = k * n + level

abbrev pub corridor_place : ℕ → ℕ → ℕ → ℕ
corridor_place n k level = row_figures * line_index n k level

abbrev pub line_corridor : ℕ → ℕ → ℕ
line_corridor n i = i / n

abbrev pub line_level : ℕ → ℕ → ℕ
line_level n i = i % n

-- ---- from the one to the other: the row by corridor that is row i by level, and the place by level of row i by corridor
abbrev pub line_of : ℕ → ℕ → ℕ → ℕ
line_of m n i = line_index n (row_corridor m i) (row_level m i)

abbrev pub line_place : ℕ → ℕ → ℕ → ℕ
line_place m n i = row_place m (line_corridor n i) (line_level n i)

-- and the figure by corridor that is figure p by level
abbrev pub figure_of : ℕ → ℕ → ℕ → ℕ
figure_of m n p = row_figures * line_of m n (p / row_figures) + p % row_figures

-- a sheet by corridor laid out by level
unfoldable pub by_level : ℕ → ℕ → List Float → List Float
by_level m n sheet = tab (row_figures * (m * n)) (λ p. at sheet (figure_of m n p))
