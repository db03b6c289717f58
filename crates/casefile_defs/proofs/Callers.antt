-- What a caller may use of an answer: the file was read as its header, the tables are those of its records, and its counts are within their bounds.
-- Of the definition's three ways, only the answered one gives an answer.
use Prim.Native.Nat.{ℕ}
use mathlib.Core.Bool.{Bool, true, false, cond}
use mathlib.Core.List.{List}
use mathlib.Core.Path.{◌≡◌, sym, ap, ◌∙◌}
use Rattle.loops.proofs.Bools.{unequal}
use Rattle.refusal.specs.declared.Refusal.TheVariants.{Length}
use Rattle.casefile_defs.specs.Reading.{Small, read_of, reading_of, unread}
use Rattle.casefile_defs.specs.Tables.{Places, Outcome, reply_of, outcome, tables_of, held, sizes_ok, read_case}
use Rattle.casefile_defs.specs.declared.Header.{Header}
use Rattle.casefile_defs.specs.declared.CaseRead.{CaseRead}
use Rattle.casefile_defs.proofs.Accepted.{accepted}
use Rattle.casefile_defs.proofs.Counts.{small_of}
use Rattle.std.specs.Prelude.{Err, Ok, Result}
use Rattle.refusal.specs.declared.Refusal.{Refusal}

-- a reply that answers is a reading that did
read_of_lem : (r : Result Header Refusal) (h : Header) → reply_of (Ok h) ≡ reply_of r → r ≡ Ok h
read_of_lem (Ok g) h e = cc
read_of_lem (Err f) h e = absurd (unequal cc)

pub record Answered (s : List ℕ) (h : Header) (p : Places) : Type 0 where
  pub reading : reading_of s ≡ Ok h
  pub places : p ≡ tables_of s h

answered_by : (s : List ℕ) (q p : Places) (h : Header) (r : CaseRead) (b : Bool) → r.reading ≡ Ok h
    → outcome r p ≡ cond b (outcome (read_of s) (tables_of s (held (reading_of s)))) (outcome (unread Length) q) → Answered s h p
unfolding held
answered_by s q p h r false g e =
    absurd
    (let v = read_of_lem (Err Length) h (ap (λ (x : Result Header Refusal). reply_of x) (sym g) ∙ ap (λ (o : Outcome). o.reply) e) in
    unequal cc)
answered_by s q p h r true g e =
    let d : reading_of s ≡ Ok h = read_of_lem (reading_of s) h (ap (λ (x : Result Header Refusal). reply_of x) (sym g) ∙ ap (λ (o : Outcome). o.reply) e) in
    record { reading = d; places = ap (λ (o : Outcome). o.places) e ∙ ap (λ (x : Result Header Refusal). tables_of s (held x)) d }

pub answered_case : (s : List ℕ) (q p : Places) {r : CaseRead} {h : Header} → outcome r p ≡ read_case s q → r.reading ≡ Ok h → Answered s h p
unfolding read_case
answered_case s q p {r} {h} e g = answered_by s q p h r (sizes_ok q) g e

pub answered_small : (s : List ℕ) (q p : Places) {r : CaseRead} {h : Header} → outcome r p ≡ read_case s q → r.reading ≡ Ok h → Small h
answered_small s q p {r} {h} e g = small_of h (accepted s h (answered_case s q p e g).reading).counts
