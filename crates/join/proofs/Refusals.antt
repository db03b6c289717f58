-- The refusals in order: 1 for the joined tables and 1 to 7 of the first case, 1 to 7 of the second, 2, 24; and what passes them all.
use Prim.Native.Nat.{ℕ, ◌*◌}
use mathlib.Core.Bool.{Bool, true, ◌&&◌, and_assoc}
use mathlib.Core.List.{List, [], ◌∷◌, ◌++◌}
use mathlib.Core.Path.{◌≡◌, sym, ap, ◌∙◌}
use native.Mathlib.Omega.{arith}
use borrow.Author.Tests.{leb-true}
use lib.ListN.{length}
use Rattle.loops.specs.Verdict.{fact, verdict}
use Rattle.loops.proofs.Bools.{both}
use Rattle.loops.proofs.Chains.{only, err_not_ok}
use Rattle.loops.proofs.Verdicts.{or_else, joined}
use Rattle.refusal.specs.declared.Refusal.{Refusal}
use Rattle.refusal.specs.declared.Refusal.TheVariants.{Count, Districts}
use Rattle.sheets.specs.Sheet.{row_figures}
use Rattle.casefile_defs.specs.Tables.{Places}
use Rattle.casefile_defs.specs.declared.Header.{Header}
use Rattle.plan_defs.specs.Case.{Case, levels}
use Rattle.plan_defs.specs.Accept.{case_tests, call_tests}
use Rattle.plan_defs.proofs.Accepted.{Accepted, accepted, bus_below, end_a_lem, end_b_lem}
use Rattle.acceptance.specs.Check as one_case
use Rattle.join_defs.specs.Districts.{same_ladder, sums_ok, alike, join_tests, tests_of, check_of}
use Rattle.case_defs.specs.Cases.{case_as}
use Rattle.join_defs.proofs.Faults.{Joinable, joinable as parted}
use Rattle.join_defs.proofs.Levels.{levels_same}
use Rattle.join.specs.Joins.{Raises, Rowed, Summed, heads_alike}
use Rattle.std.specs.Prelude.{Result}
use Rattle.refusal.specs.Reply.{no_refusal}

module _ (fits : Bool) (c : Case) (t : ℕ) (d : Case) (u : ℕ) where
  -- by what is said of each case, and the two last tests
  pub answered : (x y : Result (Unit {0}) Refusal) (s l : Bool) → x ≡ one_case.check_of fits c t → y ≡ one_case.check_of true d u → s ≡ sums_ok c t d u → l ≡ alike c d
      → or_else x (or_else y (verdict (fact s Count ∷ fact l Districts ∷ []))) ≡ check_of fits c t d u
  unfolding tests_of call_tests join_tests
  answered x y s l e f g h =
      let last = fact (sums_ok c t d u) Count ∷ fact (alike c d) Districts ∷ [] in
      rw (e, f, g, h, joined (call_tests fits c t) (case_tests d u ++ last), joined (case_tests d u) last)

  -- ---- what is known by the answer
  pub record CallJoinable : Type 0 where
    pub free : no_refusal ≡ check_of fits c t d u
    pub sized : fits ≡ true
    pub joins : Joinable c d t u

  pub joinable : no_refusal ≡ check_of fits c t d u → CallJoinable
  unfolding tests_of
  joinable e = let p = only fits (sym e) err_not_ok in record { free = e; sized = p.0; joins = parted c d t u p.1 }

-- ---- of two headers and their tables
pub record Raised (by : ℕ) (x y z : List ℕ) : Type 0 where
  pub bus : Raises by x
  pub a : Raises by y
  pub b : Raises by z

module _ (fits : Bool) (h : Header) (p : Places) (k : Header) (q : Places)
    (j : CallJoinable fits (case_as h p) h.target (case_as k q) k.target) where
  pub summed : Summed h k
  unfolding sums_ok
  summed =
      let s₁ = both _ _ j.joins.sums in
      let s₂ = both _ _ s₁.1 in
      let s₃ = both _ _ s₂.1 in
      record { buses = leb-true _ _ s₁.0; corridors = leb-true _ _ s₂.0; generators = leb-true _ _ s₃.0; target = leb-true _ _ s₃.1 }

  first_ok : Accepted (case_as h p) h.target
  first_ok = accepted (case_as h p) h.target j.joins.first

  second_ok : Accepted (case_as k q) k.target
  second_ok = accepted (case_as k q) k.target j.joins.second

  -- the second's buses, raised by the first's, fit
  pub raised : (n : ℕ) → n ≡ h.buses → Raised n q.bus q.a q.b
  raised n e =
      record {
        bus = λ i l. omega (arith, summed.buses, bus_below (case_as k q) k.target second_ok i (omega (arith, second_ok.columns.bus)));
        a = λ i l. omega (arith, summed.buses, end_a_lem (case_as k q) k.target second_ok i (omega (arith, second_ok.columns.a)));
        b = λ i l. omega (arith, summed.buses, end_b_lem (case_as k q) k.target second_ok i (omega (arith, second_ok.columns.b)));
      }

  pub same_levels : levels (case_as h p) ≡ levels (case_as k q)
  same_levels = levels_same (case_as h p) (case_as k q) j.joins.same h.target k.target first_ok second_ok

  -- the two sheets have the rows of one count of levels
  pub rowed : Rowed h.corridors k.corridors (levels (case_as h p)) (length p.sheet) (length q.sheet)
  rowed =
      record {
        first_size = first_ok.columns.sheet;
        second_size = second_ok.columns.sheet ∙ ap (λ (n : ℕ). row_figures * (k.corridors * n)) (sym same_levels);
        few_corridors = summed.corridors;
        few_levels = first_ok.counts.few_levels;
      }

-- what passed the check
pub passed : (fits b : Bool) (h : Header) (p : Places) (k : Header) (q : Places) (a : Result (Unit {0}) Refusal) → a ≡ no_refusal
    → a ≡ check_of b (case_as h p) h.target (case_as k q) k.target → b ≡ fits → CallJoinable fits (case_as h p) h.target (case_as k q) k.target
passed fits b h p k q a e g z = joinable _ _ _ _ _ (sym e ∙ g ∙ ap (λ (x : Bool). check_of x (case_as h p) h.target (case_as k q) k.target) z)

-- 24, the headers and the ladders each tested for themselves
pub alike_is : (h : Header) (p : Places) (k : Header) (q : Places) (x y : Bool) → x ≡ heads_alike h k → y ≡ same_ladder p.ladder q.ladder
    → (x && y) ≡ alike (case_as h p) (case_as k q)
unfolding alike
alike_is h p k q x y ex ey = rw (ex, ey) (simp and_assoc)
