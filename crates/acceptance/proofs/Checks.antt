-- Two tests of equality agree where each equation follows from the other; what the rows of the tables have; and the lengths, tested table by table.
use Prim.Native.Nat.{ℕ, ◌+◌, ◌*◌, ◌<◌}
use mathlib.Core.Bool.{Bool, true, false, ◌&&◌, and_assoc, and-true}
use mathlib.Core.List.{List, [], ◌∷◌}
use mathlib.Core.Path.{◌≡◌, refl, sym, ◌∙◌}
use borrow.Author.Tests.{eqb-true, eq-eqb}
use lib.Dec.{eqb}
use lib.ListN.{length}
use lib.Ieee.{Float, nan}
use Rattle.loops.specs.Figures.{at}
use Rattle.loops.specs.Verdict.{fact, verdict}
use Rattle.loops.proofs.Bools.{both, unequal}
use Rattle.loops.proofs.Tab.{length_tab, get_tab}
use Rattle.loops.proofs.Verdicts.{first_that_fails}
use Rattle.loads.specs.Load.{load_by, weighed, loads_of}
use Rattle.sheets.proofs.Layouts.{some_row, line_corridor_lem, line_level_lem}
use Rattle.refusal.specs.declared.Refusal.{Refusal}
use Rattle.refusal.specs.declared.Refusal.TheVariants.{Length}
use Rattle.sheets.specs.Sheet.{row_figures, line_place, line_corridor, line_level}
use Rattle.plan_defs.specs.Case.{Case, row_from, rows_of}
use Rattle.plan_defs.specs.Accept.{lengths_ok, tables_tests, case_tests, call_tests}
use Rattle.plan_defs.proofs.Rows.{row_from_lem}
use Rattle.plan_defs.proofs.Accepted.{columns_of_lem}
use Rattle.acceptance.specs.Check.{Tables, tabled, Columns, sized, check_of}
use Rattle.std.specs.Prelude.{Err, Result}

-- ---- a bus's load is the product of its own figures
pub load_is : (n : ℕ) (reading weight : List Float) (i : ℕ) → i < n → at (loads_of n reading weight) i ≡ load_by (at reading i) (at weight i)
load_is n reading weight i h = get_tab n (weighed reading weight) i nan h

-- ---- the sheet's rows
module _ (m levels i : ℕ) (h : i < m * levels) where
  -- there is a level
  pub some_level : 0 < levels
  some_level = (some_row m levels i h).1

  -- the row that lies there is the case's
  pub row_is : (sheet : List Float) → rows_of m levels sheet (line_corridor levels i) (line_level levels i) ≡ row_from sheet (line_place m levels i)
  row_is sheet = row_from_lem m levels sheet (line_corridor levels i) (line_level levels i) (line_corridor_lem m levels i h) (line_level_lem m levels i h)

-- ---- all lengths, and the first refusal
module _ (t : Tables) where
  abbrev given : Case
  given = tabled t

  loads_sized : eqb (length (loads_of t.buses t.reading t.weight)) t.buses ≡ true
  loads_sized = eq-eqb _ _ (length_tab t.buses (weighed t.reading t.weight))

  pub lengths_are : (l b u k s : Bool) → l ≡ eqb (length t.ladder) (t.above + t.requested) → b ≡ sized t.buses (length t.tier ∷ length t.reading ∷ length t.weight ∷ [])
      → u ≡ sized t.generators (length t.bus ∷ length t.slack ∷ length t.pmin ∷ length t.pmax ∷ length t.c1 ∷ length t.c2 ∷ [])
      → k ≡ sized t.corridors (length t.a ∷ length t.b ∷ length t.initial ∷ length t.km ∷ length t.share ∷ length t.cap ∷ [])
      → s ≡ eqb (length t.sheet) (row_figures * (t.corridors * length t.ladder)) → (l && b && u && k && s) ≡ lengths_ok given
  unfolding lengths_ok
  lengths_are false b u k s el eb eu ek es = rw (← el)
  lengths_are true b u k s el eb eu ek es =
      let e : length t.ladder ≡ t.above + t.requested = eqb-true _ _ (sym el) in
      rw (eb, eu, ek, es, loads_sized, ← el, ← e) (simp (and_assoc, and-true))

  -- ---- the whole check
  module _ (target : ℕ) (x fits : Bool) (ex : x ≡ lengths_ok given) where
    pub length_refused : (x && fits) ≡ false → Err Length ≡ check_of fits given target
    unfolding call_tests case_tests
    length_refused e = go x fits e ex refl
      where
        go : (u v : Bool) → (u && v) ≡ false → u ≡ lengths_ok given → v ≡ fits → Err Length ≡ check_of fits given target
        go u false q f g = first_that_fails [] (fact fits Length) (case_tests given target) Length tt (sym g, refl)
        go false true q f g = first_that_fails (fact fits Length ∷ []) (fact (lengths_ok given) Length) (tables_tests given target) Length (sym g, tt) (sym f, refl)
        go true true q f g = absurd (unequal cc)

    module _ (passed : (x && fits) ≡ true) where
      lengths : lengths_ok given ≡ true
      lengths = sym ex ∙ (both x fits passed).0

      pub columns : Columns t
      columns =
          let k = columns_of_lem given lengths in
          record { ladder = k.ladder; tier = k.tier; reading = k.reading; weight = k.weight; bus = k.bus; slack = k.slack; pmin = k.pmin; pmax = k.pmax; c1 = k.c1; c2 = k.c2; a = k.a; b = k.b; km = k.km; share = k.share; cap = k.cap; sheet = k.sheet; initial = k.circuits }

      pub answered : (r : Result (Unit {0}) Refusal) → r ≡ verdict (tables_tests given target) → r ≡ check_of fits given target
      unfolding call_tests case_tests
      answered r e = rw (e, (both x fits passed).1, lengths)
