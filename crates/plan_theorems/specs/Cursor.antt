-- Filling as the Rust goes: a cursor that runs round the order, and how many corridors in a row had no room. It stops at the target or after a whole
-- idle turn. That it fills what the defined plan's filling fills is a theorem (proofs/Cursor).
use Rattle.std.specs.Prelude.{ℕ, zero, suc, ◌+◌, ◌%◌, Bool, true, false, ◌&&◌, List, ltb, length, get_or}
use Rattle.plan_defs.specs.Fill.{Filled, fill_if, below_full}

pub record Cursor : Type 0 where
  pub filled : Filled
  pub cursor : ℕ
  pub idle : ℕ

abbrev pub cursor_at : Filled → ℕ → ℕ → Cursor
cursor_at filled cursor idle = record { filled = filled; cursor = cursor; idle = idle }

abbrev pub runs : ℕ → ℕ → Cursor → Bool
runs target places s = ltb s.filled.total target && ltb s.idle places

abbrev pub advance_if : Bool → ℕ → Cursor → Cursor
advance_if true k s = cursor_at (fill_if true k s.filled) (s.cursor + 1) 0
advance_if false k s = cursor_at s.filled (s.cursor + 1) (s.idle + 1)

abbrev pub advance_to : (ℕ → ℕ) → ℕ → Cursor → Cursor
advance_to full k s = advance_if (below_full full k s.filled) k s

-- the remainder is by the order's length, as long as there is one
unfoldable pub advance : (ℕ → ℕ) → List ℕ → Cursor → Cursor
advance full order s = advance_to full (get_or order (s.cursor % length order) 0) s

abbrev pub cursor_if : Bool → (ℕ → ℕ) → List ℕ → Cursor → Cursor
cursor_if true full order s = advance full order s
cursor_if false full order s = s

unfoldable pub cursor_step : (ℕ → ℕ) → ℕ → List ℕ → Cursor → Cursor
cursor_step full target order s = cursor_if (runs target (length order) s) full order s

-- so many steps of the loop, those past its end doing nothing
unfoldable pub cursor_run : ℕ → (ℕ → ℕ) → ℕ → List ℕ → Cursor → Cursor
cursor_run zero full target order s = s
cursor_run (suc d) full target order s = cursor_run d full target order (cursor_step full target order s)
