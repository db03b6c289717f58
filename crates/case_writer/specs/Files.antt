-- What the program does with a place: the file of its small network, or refusal 23.
use Rattle.std.specs.Prelude.{ℕ, ◌≤◌, ◌<◌, List, ◌≡◌, Result, Ok, Err}
use Rattle.refusal.specs.Number.{number_of, index_of}
use Rattle.refusal.specs.declared.Refusal.{Refusal}
use Rattle.casefile_theorems.specs.Cases.{longest}
use Rattle.casefile_writer.specs.Put.{Put}
use Rattle.small_defs.specs.Networks.{all_places}
use Rattle.small_theorems.specs.Held.{file_at}

-- the bytes of a place, put at the front of a buffer
unfoldable pub Wrote : ℕ → List ℕ → List ℕ → Result ℕ Refusal → Type 0
Wrote i before after (Ok n) = (i < all_places) × (n ≤ longest) × Put before 0 (file_at i) after n
Wrote i before after (Err f) = (all_places ≤ i) × (number_of f ≡ 23) × (index_of f ≡ 0)
