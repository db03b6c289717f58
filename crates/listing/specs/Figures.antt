-- The text of the program from the figures that the checker evaluates (plan_defs:Listing.lines): a list of numbers for PL and for each column, a figure by its
-- bits; of a refusal one list. proofs/Figures shows that it is the text of a plan, so that there is one listing.
use Rattle.std.specs.Prelude.{ℕ, cond, List, [], ◌∷◌, map, ◌++◌, eqb, length, get_or}
use Rattle.std.specs.Float.{nan}
use Rattle.plan_defs.specs.Listing.{bits_of}
use Rattle.listing_defs.specs.Text.{space, hexadecimal, number}
use Rattle.listing_defs.specs.Lines.{line, lines}

-- a field by its bits; past the end of a column stands a NaN's, as it does of the column itself
abbrev pub bits_field : ℕ → List ℕ
bits_field n = space ∷ hexadecimal 16 n

abbrev pub bits_at : List ℕ → ℕ → ℕ
bits_at l i = get_or l i (bits_of nan)

abbrev pub columns_text : List ℕ → List ℕ → List ℕ → List ℕ → List ℕ → List ℕ → List ℕ → List ℕ → List ℕ → List ℕ → List ℕ
columns_text plan added grounds tier angle mw circuits flow rate most =
    line 80 76 (map number plan)
    ++ (lines (λ i. line 65 68 (bits_field (bits_at added i) ∷ [])) (length added)
    ++ (lines (λ i. line 71 82 (number (get_or grounds i 0) ∷ [])) (length grounds)
    ++ (lines (λ i. line 66 85 (number i ∷ number (get_or tier i 0) ∷ bits_field (bits_at angle i) ∷ [])) (length angle)
    ++ (lines (λ i. line 71 69 (number i ∷ bits_field (bits_at mw i) ∷ [])) (length mw)
    ++ (lines (λ i. line 67 79 (number i ∷ number (get_or circuits i 0) ∷ bits_field (bits_at flow i) ∷ bits_field (bits_at rate i) ∷ [])) (length circuits)
    ++ line 77 88 (map bits_field most))))))

unfoldable pub figures_text : List (List ℕ) → List ℕ
figures_text f =
    cond (eqb (length f) 1) (line 82 70 (map number (get_or f 0 [])))
    (columns_text (get_or f 0 []) (get_or f 1 []) (get_or f 2 []) (get_or f 3 []) (get_or f 4 []) (get_or f 5 []) (get_or f 6 []) (get_or f 7 []) (get_or f 8 []) (get_or f 9 []))
