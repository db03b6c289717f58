-- The sheet as it is filled: five places to a row, a row to a level, all levels of a corridor before the next. Assumes nothing.
use Rattle.std.proofs.Common.{◌≡◌, ℕ, ◌+◌, ◌*◌, ◌/◌, ◌%◌, ◌<◌, ◌≤◌, List, length, set, sym, refl, ap, ◌∙◌, le_trans, le_of_eq, add-zero, mul-le-mul_right, add-mul, arith}
use lib.Arith.{digits_div, digits_mod}
use lib.Ieee.{Float}
use Rattle.loops.specs.Figures.{at}
use Rattle.loops.specs.Loops.{filled}
use Rattle.loops.proofs.Tab.{fill_start, fill_turn, fill_end}
use Rattle.sheets.specs.Sheet.{row_figures}
use Rattle.line_defs.specs.declared.Row.{Row}
use Rattle.line_defs.specs.Rows.{sheet_figures}
use Rattle.line_defs.specs.Row.{line_row}
use Rattle.line_defs.specs.Spread.{kept_spread}
use Rattle.line_defs.specs.Loadability.{loadability_of}
use Rattle.line_defs.specs.Sheet.{row_at, figures_of, figure_at, sheet_of}
use Rattle.line_sheet.specs.Filled.{Further}

-- ---- five places
five : (w s : List Float) (f : ℕ → Float) (o : ℕ) (a b c d e : Float) → s ≡ filled w f o → o + row_figures ≤ length w → a ≡ f o → b ≡ f (o + 1) → c ≡ f (o + 2) → d ≡ f (o + 3) → e ≡ f (o + 4)
    → set (set (set (set (set s o a) (o + 1) b) (o + 2) c) (o + 3) d) (o + 4) e ≡ filled w f (o + row_figures)
five w s f o a b c d e h r qa qb qc qd qe =
    let s1 = set s o a in
    let s2 = set s1 (o + 1) b in
    let s3 = set s2 (o + 2) c in
    let s4 = set s3 (o + 3) d in
    let h1 : s1 ≡ filled w f (o + 1) = fill_turn w s f o a h (omega arith) qa in
    let h2 : s2 ≡ filled w f (o + 2) = step (o + 1) (o + 2) (omega arith) (fill_turn w s1 f (o + 1) b h1 (omega arith) qb) in
    let h3 : s3 ≡ filled w f (o + 3) = step (o + 2) (o + 3) (omega arith) (fill_turn w s2 f (o + 2) c h2 (omega arith) qc) in
    let h4 : s4 ≡ filled w f (o + 4) = step (o + 3) (o + 4) (omega arith) (fill_turn w s3 f (o + 3) d h3 (omega arith) qd) in
    step (o + 4) (o + row_figures) (omega arith) (fill_turn w s4 f (o + 4) e h4 (omega arith) qe)
  where
    step : {z : List Float} (i j : ℕ) → i + 1 ≡ j → z ≡ filled w f (i + 1) → z ≡ filled w f j
    step i j e q = q ∙ ap (λ (n : ℕ). filled w f n) e

-- ---- the figures of a row
module _ (levels : ℕ) (ladder km spread : List Float) (k l : ℕ) (h : l < levels) where
  figure : (j : ℕ) → j < row_figures → figure_at levels ladder km spread (row_figures * (k * levels + l) + j) ≡ at (figures_of (row_at ladder km spread k l)) j
  unfolding figure_at
  figure j b =
      let t = k * levels + l in
      let a : (row_figures * t + j) / row_figures ≡ t = quotient t j b in
      let c : (row_figures * t + j) % row_figures ≡ j = remainder t j b in
      rw (a, c, digits_div k {m = levels} h, digits_mod k {m = levels} h)
    where
      quotient : (t j : ℕ) → j < row_figures → (row_figures * t + j) / row_figures ≡ t
      quotient t j b = omega arith

      remainder : (t j : ℕ) → j < row_figures → (row_figures * t + j) % row_figures ≡ j
      remainder t j b = omega arith

-- ---- a row, and the rows of a corridor
row_room : (levels corridors k l : ℕ) → k < corridors → l < levels → (k * levels + l < corridors * levels) × (row_figures * (k * levels + l) + row_figures ≤ sheet_figures levels corridors)
row_room levels corridors k l h b =
    let a : (k + 1) * levels ≤ corridors * levels = mul-le-mul_right levels (omega arith) in
    let e : (k + 1) * levels ≡ k * levels + 1 * levels = add-mul k 1 levels in
    (omega arith, omega arith)

row_is : (ladder km spread : List Float) (k l : ℕ) → line_row (at ladder l) (at km k) (at spread k) (kept_spread (at spread k)) (loadability_of (at km k)) ≡ row_at ladder km spread k l
unfolding row_at
row_is ladder km spread k l = refl

module _ (levels corridors : ℕ) (ladder km spread : List Float) where
  abbrev places : ℕ → Float
  places = figure_at levels ladder km spread

  -- the sheet s₀, with l rows more of corridor k
  abbrev pub Rows : ℕ → List Float → List Float → ℕ → Type 0
  Rows k s₀ s l = (l ≤ levels) × (length s ≡ length s₀) × ((w : List Float) → length w ≡ sheet_figures levels corridors → s₀ ≡ filled w places (sheet_figures levels k) → s ≡ filled w places (row_figures * (k * levels + l)))

  pub row_fits_in : (k l n : ℕ) → k < corridors → l < levels → n ≡ sheet_figures levels corridors → row_figures * (k * levels + l) + row_figures ≤ n
  row_fits_in k l n h b e = le_trans (row_room levels corridors k l h b).1 (le_of_eq (sym e))

  pub one_row : (k l : ℕ) (s₀ s t : List Float) (kept load : Float) (r : Row) → k < corridors → l < levels → kept ≡ kept_spread (at spread k) → load ≡ loadability_of (at km k)
      → r ≡ line_row (at ladder l) (at km k) (at spread k) kept load
      → t ≡ set (set (set (set (set s (row_figures * (k * levels + l)) r.r) (row_figures * (k * levels + l) + 1) r.x) (row_figures * (k * levels + l) + 2) r.b) (row_figures * (k * levels + l) + 3) r.rate) (row_figures * (k * levels + l) + 4) r.basis
      → length t ≡ length s → Rows k s₀ s l → Rows k s₀ t (l + 1)
  one_row k l s₀ s t kept load r h b ek el er et en i =
      let R = row_at ladder km spread k l in
      let is : r ≡ R = is_row in (
        omega arith,
        en ∙ i.1,
        λ w n e.
            et
            ∙ five w s places (row_figures * (k * levels + l)) r.r r.x r.b r.rate r.basis (i.2 w n e) (row_fits_in k l (length w) h b n)
            (ap (λ (z : Row). z.r) is ∙ sym (ap places (sym (add-zero (row_figures * (k * levels + l)))) ∙ figure levels ladder km spread k l b 0 (omega arith)))
            (ap (λ (z : Row). z.x) is ∙ sym (figure levels ladder km spread k l b 1 (omega arith)))
            (ap (λ (z : Row). z.b) is ∙ sym (figure levels ladder km spread k l b 2 (omega arith)))
            (ap (λ (z : Row). z.rate) is ∙ sym (figure levels ladder km spread k l b 3 (omega arith)))
            (ap (λ (z : Row). z.basis) is ∙ sym (figure levels ladder km spread k l b 4 (omega arith)))
            ∙ ap (λ (n : ℕ). filled w places n) (let z : row_figures * (k * levels + l) + row_figures ≡ row_figures * (k * levels + (l + 1)) = omega arith in z),
      )
    where
      is_row : r ≡ row_at ladder km spread k l
      is_row = er ∙ rw (ek, el) (row_is ladder km spread k l)

  -- ---- the corridors from a on, up to i
  abbrev pub Filled : ℕ → ℕ → List Float → List Float → Type 0
  Filled a i s₀ s = (i ≤ corridors) × (length s ≡ sheet_figures levels corridors) × Further levels corridors ladder km spread a i s₀ s

  pub none_filled : (a i : ℕ) (s₀ : List Float) → a ≤ corridors → length s₀ ≡ sheet_figures levels corridors → i ≡ a → Filled a i s₀ s₀
  none_filled a i s₀ h n e = rw e (h, n, λ w m f. f)

  pub more_filled : (a i j m : ℕ) (s₀ s t : List Float) → m ≤ corridors → length t ≡ length s → Further levels corridors ladder km spread i j s t → j ≡ m → Filled a i s₀ s → Filled a m s₀ t
  more_filled a i j m s₀ s t h n f e o = (h, n ∙ o.1, λ w k g. f w k (o.2 w k g) ∙ ap (λ (z : ℕ). filled w places (sheet_figures levels z)) e)

  pub all_filled : (s₀ s : List Float) → length s₀ ≡ sheet_figures levels corridors → Further levels corridors ladder km spread 0 corridors s₀ s → s ≡ sheet_of levels corridors ladder km spread
  all_filled s₀ s n f =
      fill_end s₀ s places (sheet_figures levels corridors) (sheet_figures levels corridors) n refl
      (f s₀ n (fill_start s₀ places ∙ ap (λ (n : ℕ). filled s₀ places n) (let z : 0 ≡ row_figures * (0 * levels) = omega arith in z)))
