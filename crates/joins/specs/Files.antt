-- What the program does with two files: reading the first, reading the second, joining the cases; the file of the joined tables, or the first refusal. Tables
-- are lent as zeros.
use Rattle.std.specs.Prelude.{ℕ, ◌≤◌, List, ◌≡◌, take, Result, Ok, Err}
use Rattle.refusal.specs.Reply.{Reply, answered, refused, refused_by}
use Rattle.refusal.specs.declared.Refusal.{Refusal}
use Rattle.casefile_defs.specs.Tables.{Places, read_case, Outcome as ReadOutcome}
use Rattle.casefile_defs.specs.declared.Header.{Header}
use Rattle.casefile_theorems.specs.Cases.{longest, blank}
use Rattle.casefile_writer.specs.Files.{file_in}
use Rattle.join_defs.specs.Joining.{Outcome, join_cases}
use Rattle.casefile_theorems.specs.Cases.{fronts}

-- ---- the two cases
-- the file of what joining leaves
abbrev pub file_by : Reply Header → Places → Reply (List ℕ)
file_by (answered h) p = answered (file_in h p)
file_by (refused n i) p = refused n i

abbrev pub file_of : Outcome → Reply (List ℕ)
file_of o = file_by o.reply o.places

-- in tables of exactly their counts
abbrev pub join_tables : Header → Places → Header → Places → Reply (List ℕ)
join_tables h p k q = file_of (join_cases h p k q blank)

-- ---- the second file, behind a case
abbrev pub second_by : Header → Places → Reply Header → Places → Reply (List ℕ)
second_by h p (answered k) q = join_tables h p k (fronts k q)
second_by h p (refused n i) q = refused n i

abbrev pub second_of : Header → Places → ReadOutcome → Reply (List ℕ)
second_of h p o = second_by h p o.reply o.places

abbrev pub join_second : Header → Places → List ℕ → Reply (List ℕ)
join_second h p t = second_of h p (read_case t blank)

-- ---- both files
abbrev pub first_by : List ℕ → Reply Header → Places → Reply (List ℕ)
first_by t (answered h) p = join_second h (fronts h p) t
first_by t (refused n i) p = refused n i

abbrev pub first_of : List ℕ → ReadOutcome → Reply (List ℕ)
first_of t o = first_by t o.reply o.places

unfoldable pub join_files : List ℕ → List ℕ → Reply (List ℕ)
join_files s t = first_of t (read_case s blank)

-- ---- in a buffer: so many bytes of it, or a refusal
abbrev pub written : Result ℕ Refusal → List ℕ → Reply (List ℕ)
written (Ok n) out = answered (take n out)
written (Err f) out = refused_by f

-- a file fits the buffer; a refusal touches nothing
unfoldable pub Kept : List ℕ → List ℕ → Result ℕ Refusal → Type 0
Kept before after (Ok n) = n ≤ longest
Kept before after (Err f) = after ≡ before
