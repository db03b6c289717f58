-- The stages of planning, one after another: a refusal, 8 or 9, stops them.
use Rattle.std.specs.Prelude.{ℕ, List, [], ◌∷◌}
use Rattle.refusal.specs.declared.Refusal.{Refusal}

-- refused, or what the stage hands on
pub data Stage (S : Type 0) : Type 0 where
  stopped : Refusal → Stage S
  going : S → Stage S

-- the next stage, where there was no refusal
abbrev pub onward : {S T : Type 0} → Stage S → (S → Stage T) → Stage T
onward (stopped f) next = stopped f
onward (going s) next = next s

-- a stage for each k of a list in turn
unfoldable pub each_stage : {S : Type 0} → (ℕ → S → Stage S) → List ℕ → S → Stage S
each_stage f [] s = going s
each_stage f (k ∷ ks) s = onward (f k s) (each_stage f ks)
