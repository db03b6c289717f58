-- The file that is written of a case.
use Rattle.std.specs.Prelude.{ℕ, List}
use Rattle.casefile_defs.specs.Tables.{Places}
use Rattle.casefile_defs.specs.declared.Header.{Header}
use Rattle.casefile_theorems.specs.Writer.{file_of, caps_only}
use Rattle.casefile_writer.specs.Words.{weighs}

-- with BV where a weight is not 1, and CP for the corridors that have a cap
abbrev pub file_in : Header → Places → List ℕ
file_in h p = file_of (caps_only (weighs p.weight h.buses) p) h p
