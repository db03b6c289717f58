-- What planning says of a file and leaves in its slices has the file's text, and its counts are of places there are.
use Prim.Native.Nat.{ℕ, ◌-◌, ◌≤◌}
use mathlib.Core.List.{List, [], ◌∷◌}
use mathlib.Core.Path.{◌≡◌, refl, sym, ap, subst, ◌∙◌}
use native.Mathlib.Omega.{arith}
use lib.Ieee.{Float}
use lib.ListN.{length, take, replicate, length-append, length-take}
use lib.Seq.{take_at}
use Rattle.loops.specs.Figures.{nought}
use Rattle.mode.specs.declared.PlanMode.{PlanMode}
use Rattle.refusal.specs.Reply.{Reply, answered, refused}
use Rattle.refusal.specs.declared.Refusal.{Refusal}
use Rattle.plan_defs.specs.Case.{Case}
use Rattle.plan_defs.specs.Plan.{Ending, unaccepted, unanswered, planned, ending_of}
use Rattle.plan_defs.specs.Outcome.{Slices, held, summary, up_to, cleared, Outcome, outcome, outcome_by}
use Rattle.plan_defs.specs.declared.CorridorPlan.{CorridorPlan}
use Rattle.casefile_defs.specs.Bounds.{most_levels, most_buses}
use Rattle.casefile_defs.specs.Reading.{reading_of}
use Rattle.casefile_defs.specs.Tables.{tables_of}
use Rattle.casefile_defs.specs.Tables.{held as headerOf}
use Rattle.casefile_defs.specs.declared.Header.{Header}
use Rattle.case_defs.specs.Cases.{case_in}
use Rattle.planned_files.specs.Files.{Filed, plan_read, plan_file, filed_of}
use Rattle.planned_files.specs.declared.file.PlannedFile.{PlannedFile}
use Rattle.listing_defs.specs.Text.{number}
use Rattle.listing_defs.specs.Lines.{line, refusal_line, most_text}
use Rattle.listing_defs.specs.Listing.{listed, plan_text, ending_text}
use Rattle.listing.specs.Listing.{planned_lines, read_text, file_text}
use Rattle.listing.proofs.Rooms.{planned_short}
use Rattle.std.proofs.lemmas.List.{take-take}
use Rattle.std.specs.Prelude.{Err, Ok, Result}

-- ---- the text of what is said and left
abbrev reply_text : PlanMode → Reply CorridorPlan → List Float → List ℕ → List ℕ → List Float → List Float → List ℕ → List Float → List Float → List ℕ
reply_text mode (answered p) added ground tier angle mw circuits flow rate =
    listed mode p (take p.added added) (take p.grounds ground) tier angle mw circuits flow rate
reply_text mode (refused n i) added ground tier angle mw circuits flow rate = line 82 70 (number n ∷ number i ∷ [])

abbrev outcome_text : PlanMode → Outcome → List ℕ
outcome_text mode o =
    let l = o.lent in
    reply_text mode o.reply l.added l.ground l.tier l.angle l.mw l.circuits l.flow l.rate

front : {A : Type 0} (n : ℕ) (v : A) (l : List A) → take (length l) (up_to n v l) ≡ l
front n v l = take_at l _ (length l) refl

ending_text_lem : (mode : PlanMode) (e : Ending) (c : Case) (s : Slices) → outcome_text mode (outcome_by e c s) ≡ ending_text mode e
unfolding outcome_by refusal_line plan_text held summary
ending_text_lem mode (unaccepted f) c s = refl
ending_text_lem mode (unanswered f) c s = refl
ending_text_lem mode (planned p) c s = rw (front c.buses 0 p.grounds, front c.above nought p.added)

-- ---- of a file
read_text_lem : (s : List ℕ) (r : Result Header Refusal) → outcome_text (headerOf r).mode (plan_read s r) ≡ read_text s r
unfolding headerOf refusal_line
read_text_lem s (Err f) = refl
read_text_lem s (Ok h) =
    let c = case_in h (tables_of s h) in
    ending_text_lem h.mode (ending_of c h.target) c (cleared c)

file_text_lem : (s : List ℕ) → outcome_text (plan_file s).header.mode (plan_file s).plan ≡ file_text s
unfolding plan_file file_text
file_text_lem s = read_text_lem s (reading_of s)

-- ---- an answer's counts
abbrev CountsWithin : Reply CorridorPlan → List Float → List ℕ → Type 0
CountsWithin (answered p) added ground = (p.added ≤ length added) × (p.grounds ≤ length ground)
CountsWithin (refused n i) added ground = Unit

abbrev Holds : Outcome → Type 0
Holds o = CountsWithin o.reply o.lent.added o.lent.ground

ending_holds : (e : Ending) (c : Case) (s : Slices) → Holds (outcome_by e c s)
unfolding outcome_by held summary
ending_holds (unaccepted f) c s = tt
ending_holds (unanswered f) c s = tt
ending_holds (planned p) c s =
    (omega (arith, length-append p.added (replicate (c.above - length p.added) nought)), omega (arith, length-append p.grounds (replicate (c.buses - length p.grounds) 0)))

read_holds : (s : List ℕ) (r : Result Header Refusal) → Holds (plan_read s r)
read_holds s (Err f) = tt
read_holds s (Ok h) =
    let c = case_in h (tables_of s h) in
    ending_holds (ending_of c h.target) c (cleared c)

file_holds : (s : List ℕ) → Holds (plan_file s).plan
unfolding plan_file
file_holds s = read_holds s (reading_of s)

-- ---- a file that was read and planned here
module _ (s : List ℕ) (r : PlannedFile) (e : filed_of r ≡ plan_file s) where
  text_as : outcome_text r.header.mode (filed_of r).plan ≡ file_text s
  text_as = ap (λ (f : Filed). outcome_text f.header.mode f.plan) e ∙ file_text_lem s

  pub refused_text : {f : Refusal} → r.planned ≡ Err f → refusal_line f ≡ file_text s
  unfolding refusal_line
  refused_text p = sym (ap (λ (x : Result CorridorPlan Refusal). outcome_text r.header.mode (outcome x (filed_of r).plan.lent)) p) ∙ text_as

  counted : {p : CorridorPlan} → r.planned ≡ Ok p → Holds (outcome (Ok p) (filed_of r).plan.lent)
  counted p =
      subst (λ (x : Result CorridorPlan Refusal). Holds (outcome x (filed_of r).plan.lent)) p (subst (λ (f : Filed). Holds f.plan) (sym e) (file_holds s))

  pub levels_there : {p : CorridorPlan} → r.planned ≡ Ok p → (p.added ≤ r.header.above) × (p.added ≤ most_levels)
  levels_there q = let h = counted q in (omega (arith, h.0, length-take r.header.above r.results.added), omega (arith, h.0, length-take r.header.above r.results.added, r.small.levels))

  pub grounds_there : {p : CorridorPlan} → r.planned ≡ Ok p → (p.grounds ≤ r.header.buses) × (p.grounds ≤ most_buses)
  grounds_there q = let h = counted q in (omega (arith, h.1, length-take r.header.buses r.results.ground), omega (arith, h.1, length-take r.header.buses r.results.ground, r.small.buses))

  pub planned_text : {p : CorridorPlan} → r.planned ≡ Ok p → planned_lines r p ≡ file_text s
  unfolding planned_lines
  planned_text {p} q =
      rw (← take-take p.added r.header.above r.results.added (levels_there q).0, ← take-take p.grounds r.header.buses r.results.ground (grounds_there q).0)
      (sym (ap (λ (x : Result CorridorPlan Refusal). outcome_text r.header.mode (outcome x (filed_of r).plan.lent)) q) ∙ text_as)

  pub room : {p : CorridorPlan} → r.planned ≡ Ok p → length (planned_lines r p) ≤ most_text
  room {p} q = planned_short r p (levels_there q).1 (grounds_there q).1
