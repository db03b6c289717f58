-- The largest file, from document 01's refusal 13, and the largest sheet.
use Rattle.std.specs.Prelude.{ℕ, ◌*◌}
pub use Rattle.loops.specs.Bounds.{most_levels, most_buses, most_generators, most_corridors, most_target}
pub use Rattle.sheets.specs.Sheet.{row_figures}

abbrev pub most_bytes : ℕ
most_bytes = 65536

-- a row for each corridor and level
abbrev pub most_sheet : ℕ
most_sheet = most_corridors * most_levels * row_figures
