-- A circuit drawn from its columns is the definition's: the bank's impedance is never refused, the columns are long enough, and the pieces make the whole.
-- The definitions read only fields of the case, so each law is by computing, with the equations of the pieces put in.
use Rattle.std.proofs.Common.{◌≡◌, ℕ, ◌+◌, ◌<◌, ◌≤◌, Bool, true, cond, List, length, get_or, sym, ap, ◌∙◌, subst, arith}
use lib.Ieee.{Float, le}
use Rattle.loops.proofs.Bools.{unequal}
use Rattle.loops.specs.Figures.{at}
use Rattle.refusal.specs.declared.Refusal.{Refusal}
use Rattle.refusal.specs.Reply.{reply_of}
use Rattle.impedance.specs.Impedance.{impedance_of, rating_ok, defined}
use Rattle.impedance.specs.declared.SeriesImpedance.{SeriesImpedance}
use Rattle.impedance.proofs.Operation.{answers}
use Rattle.sheets.specs.Sheet.{row_figures, row_place}
use Rattle.sheets.proofs.Layouts.{row_inside}
use Rattle.plan_defs.specs.Case.{Case, Row, levels, level_of, from_of, to_of, kv_high, row_at, row_from, rows_of}
use Rattle.plan_defs.specs.Design.{line_of, line_at, banked_by, differ, steps_down, drawn}
use Rattle.plan_defs.specs.declared.CircuitDesign.{CircuitDesign}
use Rattle.plan_defs.proofs.Rows.{row_from_lem}
use Rattle.plan_defs.proofs.Accepted.{from_within, to_within}
use Rattle.planning.specs.Design.{lines_for, ends_for, Lines, EndsFit, LineFits, ends_of, line_between}
use Rattle.planning.specs.declared.design.Ends.{Ends}
use Rattle.std.specs.Prelude.{Err, Ok, Result}
use Rattle.planning.specs.Tables.{GridColumns, grid_of}

-- ---- the impedance of a sound rating
module _ (mva : Float) (r : Result SeriesImpedance Refusal) (ok : rating_ok mva ≡ true) (is : reply_of r ≡ defined mva) where
  pub never_refused : (f : Refusal) → r ≡ Err f → ⊥
  never_refused f e =
      let p : reply_of (Err f) ≡ reply_of (Ok (impedance_of mva)) = ap reply_of (sym e) ∙ answers mva r ok is in
      unequal cc

  pub answered_by : (z : SeriesImpedance) → r ≡ Ok z → z ≡ impedance_of mva
  answered_by z e =
      let p : reply_of (Ok z) ≡ reply_of (Ok (impedance_of mva)) = ap reply_of (sym e) ∙ answers mva r ok is in
      cc

-- ---- the ends
pub ends_are : (grid : GridColumns) (level : List ℕ) (k i j from to : ℕ) (x y : Float) (down : Bool)
    → i ≡ get_or grid.a k 0 → j ≡ get_or grid.b k 0 → x ≡ at grid.ladder (get_or level i 0) → y ≡ at grid.ladder (get_or level j 0)
    → from ≡ cond (le y x) i j → to ≡ cond (le y x) j i → down ≡ differ x y
    → record { from = from; to = to; steps_down = down } ≡ ends_of (ends_for grid) level k
unfolding ends_of from_of to_of
ends_are grid level k i j from to x y down pi pj px py pf pt pd = cc

module _ (grid : GridColumns) (level : List ℕ) (k : ℕ) (f : EndsFit grid level k) where
  pub from_below : from_of (ends_for grid) level k < length level
  from_below = from_within (ends_for grid) level k (length level) f.a_below f.b_below

  pub to_below : to_of (ends_for grid) level k < length level
  to_below = to_within (ends_for grid) level k (length level) f.a_below f.b_below

  pub end_below : (e : Ends) → e ≡ ends_of (ends_for grid) level k → e.to < length level
  unfolding ends_of
  end_below e p = subst (λ (z : Ends). z.to < length level) (sym p) to_below

-- ---- what the columns must be
module _ (grid : GridColumns) (level : List ℕ) (k : ℕ) (lines : Lines grid level) (h : k < length grid.a) where
  pub ends_fit : EndsFit grid level k
  ends_fit =
      record {
        a_size = h;
        b_size = omega (arith, h, lines.b_size);
        a_below = lines.a_below k h;
        b_below = lines.b_below k h;
        level_below = lines.level_below;
      }

  fits_at : (from : ℕ) → from < length level → LineFits grid level k from
  fits_at from u =
      record {
        bus = u;
        step = lines.level_below from u;
        km_size = omega (arith, h, lines.km_size);
        share_size = omega (arith, h, lines.share_size);
        row_size =
            subst (λ (m : ℕ). row_place m k (get_or level from 0) + row_figures ≤ length grid.sheet) (sym lines.km_size)
            (omega (arith, row_inside (length grid.a) (length grid.ladder) k (get_or level from 0) h (lines.level_below from u), lines.sheet_size));
      }

  pub line_fits : (e : Ends) → e ≡ ends_of (ends_for grid) level k → LineFits grid level k e.from
  unfolding ends_of
  line_fits e p = subst (λ (z : Ends). LineFits grid level k z.from) (sym p) (fits_at (from_of (ends_for grid) level k) (from_below grid level k ends_fit))

-- ---- the whole
pub line_is : (grid : GridColumns) (level : List ℕ) (k from to top row : ℕ) → top ≡ get_or level from 0 → row ≡ row_place (length grid.km) k top
    → line_of from to (at grid.ladder top) (row_from grid.sheet row) (at grid.km k) (at grid.share k) ≡ line_between grid level k from to
unfolding line_between
line_is grid level k from to top row e f = rw (f, e)

-- what a design reads of a case: these columns, with the rows of their sheet
abbrev pub Laid : Case → List Float → Type 0
Laid c sheet = rows_of c.corridors (levels c) sheet ≡ c.row

module _ (c : Case) (sheet : List Float) (laid : Laid c sheet) (m : length c.a ≡ c.corridors) (l : length c.ladder ≡ levels c) (level : List ℕ) (k : ℕ) where
  abbrev lines : Case
  lines = lines_for (grid_of c.ladder c.a c.b c.km c.share c.cap sheet)

  rows_lift : rows_of (length c.a) (0 + length c.ladder) sheet ≡ c.row
  rows_lift =
      ap (λ (n : ℕ). rows_of n (0 + length c.ladder) sheet) m
      ∙ ap (λ (n : ℕ). rows_of c.corridors n sheet) (let z : 0 + length c.ladder ≡ levels c = omega (arith, l) in z)
      ∙ laid

  line_lifts : line_at lines level k ≡ line_at c level k
  unfolding line_at kv_high row_at from_of to_of
  line_lifts =
      ap (λ (row : ℕ → ℕ → Row). line_of (from_of c level k) (to_of c level k) (kv_high c level k) (row k (level_of c level k)) (at c.km k) (at c.share k)) rows_lift

  pub drawn_lifts : (mva : Float) → drawn lines level k mva ≡ drawn c level k mva
  unfolding drawn
  drawn_lifts mva = ap (λ (d : CircuitDesign). banked_by (steps_down c level k) d mva) line_lifts

module _ (grid : GridColumns) (level : List ℕ) (k : ℕ) (fits : Lines grid level) (h : k < length grid.a) where
  abbrev between : Ends → CircuitDesign
  between e = line_between grid level k e.from e.to

  abbrev small : Case
  small = lines_for grid

  row_is : row_from grid.sheet (row_place (length grid.km) k (level_of small level k)) ≡ row_at small k (level_of small level k)
  unfolding row_at from_of
  row_is =
      let L = level_of small level k in
      let q : L < length grid.ladder = fits.level_below _ (from_below grid level k (ends_fit grid level k fits h)) in
      ap (λ (m : ℕ). row_from grid.sheet (row_place m k L)) fits.km_size
      ∙ sym (row_from_lem (length grid.a) (0 + length grid.ladder) grid.sheet k L h (let z : L < 0 + length grid.ladder = omega (arith, q) in z))

  line_at_is : (e : Ends) (d : CircuitDesign) → e ≡ ends_of (ends_for grid) level k → d ≡ between e → d ≡ line_at small level k
  unfolding line_at line_between ends_of kv_high from_of to_of
  line_at_is e d p q =
      q ∙ ap (λ (z : Ends). between z) p
      ∙ ap (λ (w : Row). line_of (from_of small level k) (to_of small level k) (kv_high small level k) w (at grid.km k) (at grid.share k)) row_is

  pub circuit_is : (mva : Float) (e : Ends) (d r : CircuitDesign)
      → e ≡ ends_of (ends_for grid) level k → d ≡ between e → r ≡ banked_by e.steps_down d mva
      → r ≡ drawn small level k mva
  unfolding drawn ends_of
  circuit_is mva e d r p q s =
      s
      ∙ ap (λ (z : CircuitDesign). banked_by e.steps_down z mva) (line_at_is e d p q)
      ∙ ap (λ (z : Ends). banked_by z.steps_down (line_at small level k) mva) p
