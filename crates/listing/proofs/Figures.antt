-- One listing: the text that the program puts is that of the figures which crates/plan_cases evaluates (`one_listing`).
-- A column's bits are those of its figures, place by place.
use Prim.Native.Nat.{ℕ, zero, suc}
use mathlib.Core.List.{List, [], ◌∷◌, map}
use mathlib.Core.Path.{◌≡◌, refl, sym, ap, ◌∙◌}
use lib.Ieee.{Float}
use lib.ListN.{length, get_or, length-map}
use Rattle.loops.specs.Figures.{at}
use Rattle.mode.specs.declared.PlanMode.{PlanMode}
use Rattle.plan_defs.specs.Case.{Case}
use Rattle.plan_defs.specs.Plan.{Plan, Ending, unaccepted, unanswered, planned, ending_of}
use Rattle.plan_defs.specs.Outcome.{summary}
use Rattle.plan_defs.specs.Listing.{bits_of, listing_of}
use Rattle.plan_defs.specs.Listing.{lines as figuresOf}
use Rattle.plan_defs.specs.declared.CircuitDesign.{CircuitDesign}
use Rattle.casefile_defs.specs.Reading.{reading_of}
use Rattle.casefile_defs.specs.Tables.{tables_of}
use Rattle.casefile_defs.specs.declared.Header.{Header}
use Rattle.listing_defs.specs.Text.{number, figure}
use Rattle.listing_defs.specs.Lines.{line, lines, refusal_line, plan_line, added_line, added_lines, ground_line, ground_lines, bus_line, bus_lines, generator_line, generator_lines, corridor_line, corridor_lines, most_line}
use Rattle.case_defs.specs.Cases.{case_in}
use Rattle.listing_defs.specs.Listing.{plan_text, ending_text}
use Rattle.listing.specs.Listing.{read_text, file_text}
use Rattle.listing.specs.Figures.{bits_field, bits_at, figures_text}
use Rattle.std.specs.Prelude.{Ok, Result}
use Rattle.refusal.specs.declared.Refusal.{Refusal}

lines_same : (f g : ℕ → List ℕ) → ((i : ℕ) → f i ≡ g i) → (n : ℕ) → lines f n ≡ lines g n
unfolding lines
lines_same f g h zero = refl
lines_same f g h (suc n) = rw (lines_same f g h n, h n)

-- the bits of a column, at any place
bits_at_lem : (l : List Float) (i : ℕ) → bits_at (map bits_of l) i ≡ bits_of (at l i)
bits_at_lem [] i = refl
bits_at_lem (x ∷ l) zero = refl
bits_at_lem (x ∷ l) (suc i) = bits_at_lem l i

rates : (ds : List CircuitDesign) → map (λ (d : CircuitDesign). bits_of d.rate_a) ds ≡ map bits_of (map (λ (d : CircuitDesign). d.rate_a) ds)
rates [] = refl
rates (d ∷ ds) = ap (λ (l : List ℕ). bits_of d.rate_a ∷ l) (rates ds)

added_same : (added : List Float) → added_lines added ≡ lines (λ i. line 65 68 (bits_field (bits_at (map bits_of added) i) ∷ [])) (length (map bits_of added))
unfolding added_line figure
added_same added =
    lines_same _ _ (λ i. ap (λ (n : ℕ). line 65 68 (bits_field n ∷ [])) (sym (bits_at_lem added i))) (length added) ∙ ap (lines _) (sym (length-map added bits_of))

grounds_same : (ground : List ℕ) → ground_lines ground ≡ lines (λ i. line 71 82 (number (get_or ground i 0) ∷ [])) (length ground)
unfolding ground_line
grounds_same ground = refl

buses_same : (tier : List ℕ) (angle : List Float)
    → bus_lines tier angle ≡ lines (λ i. line 66 85 (number i ∷ number (get_or tier i 0) ∷ bits_field (bits_at (map bits_of angle) i) ∷ [])) (length (map bits_of angle))
unfolding bus_line figure
buses_same tier angle =
    lines_same _ _ (λ i. ap (λ (n : ℕ). line 66 85 (number i ∷ number (get_or tier i 0) ∷ bits_field n ∷ [])) (sym (bits_at_lem angle i))) (length angle)
    ∙ ap (lines _) (sym (length-map angle bits_of))

generators_same : (mw : List Float) → generator_lines mw ≡ lines (λ i. line 71 69 (number i ∷ bits_field (bits_at (map bits_of mw) i) ∷ [])) (length (map bits_of mw))
unfolding generator_line figure
generators_same mw =
    lines_same _ _ (λ i. ap (λ (n : ℕ). line 71 69 (number i ∷ bits_field n ∷ [])) (sym (bits_at_lem mw i))) (length mw) ∙ ap (lines _) (sym (length-map mw bits_of))

corridors_same : (circuits : List ℕ) (flow rate : List Float)
    → corridor_lines circuits flow rate
    ≡ lines (λ i. line 67 79 (number i ∷ number (get_or circuits i 0) ∷ bits_field (bits_at (map bits_of flow) i) ∷ bits_field (bits_at (map bits_of rate) i) ∷ [])) (length circuits)
unfolding corridor_line figure
corridors_same circuits flow rate =
    lines_same _ _
    (λ i.
    ap (λ (n : ℕ). line 67 79 (number i ∷ number (get_or circuits i 0) ∷ bits_field n ∷ bits_field (bits_of (at rate i)) ∷ [])) (sym (bits_at_lem flow i))
    ∙ ap (λ (n : ℕ). line 67 79 (number i ∷ number (get_or circuits i 0) ∷ bits_field (bits_at (map bits_of flow) i) ∷ bits_field n ∷ [])) (sym (bits_at_lem rate i)))
    (length circuits)

plan_same : (mode : PlanMode) (p : Plan) → plan_text mode p ≡ figures_text (figuresOf mode (planned p))
unfolding plan_text figures_text summary plan_line most_line figure
plan_same mode p =
    rw (
      added_same p.added,
      grounds_same p.grounds,
      buses_same p.tier p.angle,
      generators_same p.mw,
      corridors_same p.circuits p.flow (map (λ (d : CircuitDesign). d.rate_a) p.designs),
      rates p.designs,
    )

pub one_listing : (mode : PlanMode) (e : Ending) → ending_text mode e ≡ figures_text (figuresOf mode e)
unfolding figures_text refusal_line
one_listing mode (unaccepted f) = refl
one_listing mode (unanswered f) = refl
one_listing mode (planned p) = plan_same mode p

-- of a case: the text that is printed is that of the figures which are evaluated
pub case_listing : (c : Case) (target : ℕ) → ending_text c.mode (ending_of c target) ≡ figures_text (listing_of c target)
case_listing c target = one_listing c.mode (ending_of c target)

-- and of a file that holds a case
pub file_listing : (s : List ℕ) (h : Header) → reading_of s ≡ Ok h → file_text s ≡ figures_text (listing_of (case_in h (tables_of s h)) h.target)
unfolding file_text
file_listing s h e = ap (λ (r : Result Header Refusal). read_text s r) e ∙ case_listing (case_in h (tables_of s h)) h.target
