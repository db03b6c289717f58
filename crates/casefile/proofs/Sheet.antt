-- The sheet row by row: one row more leaves all other places as they are.
use Prim.Native.Nat.{ℕ, ◌+◌, ◌-◌, ◌*◌, ◌/◌, ◌%◌, ◌<◌, ◌≤◌}
use mathlib.Core.List.{List}
use mathlib.Core.Path.{◌≡◌, sym, ap, ◌∙◌, subst}
use borrow.Author.Tests.{lt-ltb, le-ltb}
use native.Mathlib.Decide.{dec_lt}
use native.Mathlib.Nat.{mul_comm, zero-mul}
use native.Mathlib.Omega.{arith}
use lib.Ieee.{Float}
use lib.ListN.{length, get_or, replicate, length-replicate}
use lib.Seq.{ext_get_or}
use Rattle.loops.specs.Figures.{nought}
use Rattle.loops.specs.Loops.{tab}
use Rattle.loops.specs.Parts.{put}
use Rattle.loops.proofs.Parts.{length_put, get_put_low, get_put_in, get_put_high}
use Rattle.loops.proofs.Rows.{row_fits}
use Rattle.loops.proofs.Tab.{length_tab, get_tab, tab_same, tab_replicate}
use Rattle.sheets.specs.Sheet.{row_figures, row_index, row_place, line_index, line_of}
use Rattle.sheets.proofs.Layouts.{line_at_lem, row_inside}
use Rattle.casefile_defs.specs.Layout.{size_of, spot}
use Rattle.casefile_defs.specs.Tables.{line_figure, sheet_in}
use Rattle.casefile_defs.specs.declared.Kind.TheVariants.{Line}
use Rattle.casefile_defs.proofs.Spots.{line_spot}
use Rattle.casefile.specs.Filled.{Lines, filled_in, IsFilled}

module _ (s : List ℕ) (at m n : ℕ) where
  -- ---- room for a line's record and for its row
  module _ (places k l : ℕ) (q : Lines s at m n places) (h : k < m) (g : l < n) where
    pub line_below : k * n + l < m * n
    line_below = omega (arith, row_fits k m n h)

    pub line_room : at + (k * n + l) * size_of Line + size_of Line ≤ length s
    line_room = omega (arith, q.room (k * n + l) line_below, line_spot s at (k * n + l))

    pub row_room : row_place m k l + row_figures ≤ places
    row_room = omega (arith, row_inside m n k l h g, q.fits)

  -- ---- a row more
  same_far : (r p : ℕ) → (p / row_figures < r) → filled_in s at m n r p ≡ filled_in s at m n (r + 1) p
  same_far r p h = let h' : p / row_figures < r + 1 = omega arith in simp (lt-ltb _ _ h, lt-ltb _ _ h')

  same_past : (r p : ℕ) → (r + 1 ≤ p / row_figures) → filled_in s at m n r p ≡ filled_in s at m n (r + 1) p
  same_past r p h = let h' : r ≤ p / row_figures = omega arith in simp (le-ltb _ _ h, le-ltb _ _ h')

  the_row : (r j x p : ℕ) → p / row_figures ≡ r → p % row_figures ≡ j → x ≡ spot Line s at (line_of m n r) → line_figure s x j ≡ filled_in s at m n (r + 1) p
  the_row r j x p a b e =
      let h : r < r + 1 = omega arith in
      ap (λ (y : ℕ). line_figure s y j) e ∙ sym (simp (a, b, lt-ltb _ _ h))

  module _ (w w' : List Float) (r x : ℕ) (f : IsFilled s at m n r w) (fits : row_figures * r + row_figures ≤ length w) (e : x ≡ spot Line s at (line_of m n r))
      (g : w' ≡ put w (row_figures * r) (tab row_figures (line_figure s x))) where
    o : ℕ
    o = row_figures * r

    v : List Float
    v = tab row_figures (line_figure s x)

    lv : length v ≡ row_figures
    unfolding v
    lv = length_tab row_figures _

    room : o + length v ≤ length w
    unfolding o
    room = omega (arith, lv)

    len : length w' ≡ length w
    unfolding o v
    len = ap length g ∙ length_put w o v room

    old : (p : ℕ) → p < length w → get_or w p nought ≡ filled_in s at m n r p
    unfolding IsFilled
    old p h = ap (λ (y : List Float). get_or y p nought) f ∙ get_tab (length w) _ p nought h

    at_place : (p : ℕ) → p < length w → get_or w' p nought ≡ filled_in s at m n (r + 1) p
    unfolding o v
    at_place p h =
        ap (λ (y : List Float). get_or y p nought) g
        ∙ elim (dec_lt p o) [
          | yes b ↦ get_put_low w o v p nought room b ∙ old p h ∙ same_far r p (omega arith)
          | no b ↦
              elim (dec_lt p (o + row_figures)) [
                | yes c ↦
                    let t : o + (p - o) ≡ p = omega arith in
                    ap (λ (i : ℕ). get_or (put w o v) i nought) (sym t)
                    ∙ get_put_in w o v (p - o) nought room (omega (arith, lv))
                    ∙ get_tab row_figures _ (p - o) nought (omega arith)
                    ∙ the_row r (p - o) x p (omega arith) (omega arith) e
                | no c ↦ get_put_high w o v p nought room (omega (arith, lv)) ∙ old p h ∙ same_past r p (omega arith)
              ]
        ]

    row_more : IsFilled s at m n (r + 1) w'
    unfolding IsFilled
    row_more = ext_get_or nought w' (tab (length w') (filled_in s at m n (r + 1))) (sym (length_tab (length w') _))
        (λ p b. at_place p (rw len at b) ∙ sym (get_tab (length w') _ p nought b))

  pub row_turn : (w w' : List Float) (k l x : ℕ) → k < m → row_place m k l + row_figures ≤ length w → x ≡ at + line_index n k l * size_of Line
      → w' ≡ put w (row_place m k l) (tab row_figures (line_figure s x)) → IsFilled s at m n (row_index m k l) w → IsFilled s at m n (row_index m (k + 1) l) w'
  row_turn w w' k l x h fits e g f =
      let q : row_index m k l + 1 ≡ row_index m (k + 1) l = omega arith in
      subst (λ (y : ℕ). IsFilled s at m n y w') q
      (row_more w w' (row_index m k l) x f fits (e ∙ sym (line_spot s at (line_index n k l)) ∙ ap (λ (y : ℕ). spot Line s at y) (sym (line_at_lem m n k l h))) g)

  -- ---- zeros, and the whole sheet
  pub none_filled : (w : List Float) (places : ℕ) → w ≡ replicate places nought → IsFilled s at m n (0 * m) w
  unfolding IsFilled
  none_filled w places e =
      let len : length w ≡ places = ap length e ∙ length-replicate places nought in
      e
      ∙ sym (tab_replicate places nought)
      ∙ ap (λ (k : ℕ). tab k (λ i. nought)) (sym len)
      ∙ tab_same (length w) _ _ (λ p h. let g : 0 * m ≤ p / row_figures = omega (arith, zero-mul m) in sym (simp (le-ltb _ _ g)))

  pub all_filled : (w : List Float) (places l : ℕ) → length w ≡ places → l ≡ n → IsFilled s at m n (l * m) w → w ≡ tab places (sheet_in s at m n)
  unfolding IsFilled sheet_in
  all_filled w places l e q f =
      f
      ∙ ap (λ (k : ℕ). tab k (filled_in s at m n (l * m))) e
      ∙ ap (λ (r : ℕ). tab places (filled_in s at m n r)) (ap (λ (k : ℕ). k * m) q ∙ mul_comm n m)
