use Rattle.std.proofs.Common.{sym, ◌∙◌, arith}
use Rattle.line_sheet.proofs.Sheets.{sheets_of, figures_most, rows_end, no_sheets, no_corridor, of_surveyed, of_worked}
use Rattle.line_sheet.proofs.corridor_rows.Goals as goal

pub returns-then-not-sheets_ok : goal.returns-then-not-sheets_ok
returns-then-not-sheets_ok c = let s = c.args in no_sheets s.levels s.corridors s.count s.k s.surveyed.now s.worked.now (sym c.sheets_ok.ensures ∙ c.if-not-sheets_ok.true)

pub returns-then-k-corridors : goal.returns-then-k-corridors
returns-then-k-corridors c = let s = c.args in no_corridor s.levels s.corridors s.count s.k s.surveyed.now s.worked.now (sym c.sheets_ok.ensures ∙ c.if-not-sheets_ok.false) c.if-k-corridors.true

pub returns-then-k-count : goal.returns-then-k-count
returns-then-k-count c = let s = c.args in of_surveyed s.levels s.corridors s.count s.k s.surveyed.now s.worked.now (sym c.sheets_ok.ensures ∙ c.if-not-sheets_ok.false) c.if-k-corridors.false c.if-k-count.true

pub returns : goal.returns
returns c = let s = c.args in of_worked s.levels s.corridors s.count s.k s.surveyed.now s.worked.now (sym c.sheets_ok.ensures ∙ c.if-not-sheets_ok.false) c.if-k-corridors.false c.if-k-count.false

pub overflow_mul-from : goal.overflow_mul-from
overflow_mul-from c =
    let s = c.args in
    let k = (sheets_of s.levels s.corridors s.count _ _ (sym c.sheets_ok.ensures ∙ c.if-not-sheets_ok.false)).counts in
    omega (arith, k.levels_most, figures_most s.levels s.corridors s.k k (omega arith))

pub overflow_add-to : goal.overflow_add-to
overflow_add-to c =
    let s = c.args in
    let k = (sheets_of s.levels s.corridors s.count _ _ (sym c.sheets_ok.ensures ∙ c.if-not-sheets_ok.false)).counts in
    omega (arith, k.levels_most, figures_most s.levels s.corridors s.k k (omega arith))

pub offset_bounds-surveyed-from : goal.offset_bounds-surveyed-from
offset_bounds-surveyed-from c =
    let s = c.args in
    let k = (sheets_of s.levels s.corridors s.count _ _ (sym c.sheets_ok.ensures ∙ c.if-not-sheets_ok.false)).counts in
    omega (arith, k.levels_most, figures_most s.levels s.corridors s.k k (omega arith))

pub offset_bounds-worked-from : goal.offset_bounds-worked-from
offset_bounds-worked-from c =
    let s = c.args in
    let k = (sheets_of s.levels s.corridors s.count _ _ (sym c.sheets_ok.ensures ∙ c.if-not-sheets_ok.false)).counts in
    omega (arith, k.levels_most, figures_most s.levels s.corridors s.k k (omega arith))

pub overflow_mul-n : goal.overflow_mul-n
overflow_mul-n c = let s = c.args in omega (arith, (sheets_of s.levels s.corridors s.count _ _ (sym c.sheets_ok.ensures ∙ c.if-not-sheets_ok.false)).counts.levels_most)

pub slice_bounds-result-end-then-k-count : goal.slice_bounds-result-end-then-k-count
slice_bounds-result-end-then-k-count c = let s = c.args in rows_end s.levels s.count s.k _ (sheets_of s.levels s.corridors s.count _ _ (sym c.sheets_ok.ensures ∙ c.if-not-sheets_ok.false)).first c.if-k-count.true

pub slice_bounds-result-end-2 : goal.slice_bounds-result-end-2
slice_bounds-result-end-2 c = let s = c.args in rows_end s.levels s.corridors s.k _ (sheets_of s.levels s.corridors s.count _ _ (sym c.sheets_ok.ensures ∙ c.if-not-sheets_ok.false)).second (omega arith)
