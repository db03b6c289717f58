-- What an operation's outcome says of the struct that stands for its reply, and of the slices.
-- Each part is a field of the outcome.
use mathlib.Core.List.{List}
use mathlib.Core.Path.{◌≡◌, ap, ◌∙◌}
use Prim.Native.Nat.{ℕ}
use lib.Ieee.{Float}
use Rattle.angles_defs.specs.Operation as angles
use Rattle.casefile_defs.specs.Tables as tables
use Rattle.casefile_defs.specs.declared.CaseRead.{CaseRead}
use Rattle.refusal.specs.Reply.{reply_of}
use Rattle.dispatch_defs.specs.Operation as dispatch
use Rattle.leaders.specs.Operation as leaders
use Rattle.line_defs.specs.Sheet as sheets
use Rattle.placement_defs.specs.Support as support
use Rattle.exports.specs.Said.{angles_said, reading_said, case_said, answer_said, placement_said}
use Rattle.exports.specs.declared.AnglesSaid.{AnglesSaid}
use Rattle.exports.specs.declared.ReadingSaid.{ReadingSaid}
use Rattle.exports.specs.declared.AnswerSaid.{AnswerSaid}
use Rattle.exports.specs.declared.PlacementSaid.{PlacementSaid}
use Rattle.std.specs.Prelude.{Result}
use Rattle.angles_defs.specs.declared.Solution.{Solution}
use Rattle.refusal.specs.declared.Refusal.{Refusal}

pub angles_told : (a : Result Solution Refusal) (s : AnglesSaid) (x w : List Float) (o : angles.Outcome) → angles.outcome a x w ≡ o → s ≡ angles_said (reply_of a)
    → (s ≡ angles_said o.reply) × ((x ≡ o.result) × (w ≡ o.work))
angles_told a s x w o e q = (q ∙ ap (λ (p : angles.Outcome). angles_said p.reply) e, (ap (λ (p : angles.Outcome). p.result) e, ap (λ (p : angles.Outcome). p.work) e))

pub reading_told : (r : CaseRead) (s : ReadingSaid) (t : tables.Places) (o : tables.Outcome) → tables.outcome r t ≡ o → s ≡ reading_said (tables.reply_of r.reading) r.looks
    → (s ≡ case_said o) × (t ≡ o.places)
reading_told r s t o e q = (q ∙ ap (λ (p : tables.Outcome). case_said p) e, ap (λ (p : tables.Outcome). p.places) e)

pub sheet_told : (a : Result (Unit {0}) Refusal) (s : AnswerSaid) (x : List Float) (o : sheets.Outcome) → sheets.outcome a x ≡ o → s ≡ answer_said (reply_of a)
    → (s ≡ answer_said o.reply) × (x ≡ o.sheet)
sheet_told a s x o e q = (q ∙ ap (λ (p : sheets.Outcome). answer_said p.reply) e, ap (λ (p : sheets.Outcome). p.sheet) e)

pub dispatch_told : (a : Result (Unit {0}) Refusal) (s : AnswerSaid) (x : List Float) (o : dispatch.Outcome) → dispatch.outcome a x ≡ o → s ≡ answer_said (reply_of a)
    → (s ≡ answer_said o.reply) × (x ≡ o.mw)
dispatch_told a s x o e q = (q ∙ ap (λ (p : dispatch.Outcome). answer_said p.reply) e, ap (λ (p : dispatch.Outcome). p.mw) e)

pub leaders_told : (a : Result (Unit {0}) Refusal) (s : AnswerSaid) (x : List ℕ) (o : leaders.Outcome) → leaders.outcome a x ≡ o → s ≡ answer_said (reply_of a)
    → (s ≡ answer_said o.reply) × (x ≡ o.leader)
leaders_told a s x o e q = (q ∙ ap (λ (p : leaders.Outcome). answer_said p.reply) e, ap (λ (p : leaders.Outcome). p.leader) e)

pub placement_told : (a : Result ℕ Refusal) (s : PlacementSaid) (x : List ℕ) (y : List Float) (o : support.Outcome) → support.outcome a x y ≡ o → s ≡ placement_said (reply_of a)
    → (s ≡ placement_said o.reply) × ((x ≡ o.buses) × (y ≡ o.mvars))
placement_told a s x y o e q = (q ∙ ap (λ (p : support.Outcome). placement_said p.reply) e, (ap (λ (p : support.Outcome). p.buses) e, ap (λ (p : support.Outcome). p.mvars) e))
