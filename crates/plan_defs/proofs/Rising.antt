-- Raises only raise: every bus's level is at most the one it began at, and each move is counted against what the levels lose.
-- A bus that moves loses a level or more; so promoted and the levels' sum together are at most what the levels began with.
use Prim.Native.Nat.{ℕ, zero, suc, ◌+◌, ◌-◌, ◌≤◌, ◌<◌}
use mathlib.Core.Bool.{Bool, true, false, cond}
use mathlib.Core.List.{List}
use mathlib.Core.Path.{◌≡◌, refl, sym, ap, ◌∙◌}
use native.Mathlib.Nat.{le_refl}
use native.Mathlib.Omega.{arith}
use Rattle.std.proofs.Common.{add-one}
use borrow.Author.Tests.{ltb-true}
use lib.Dec.{ltb}
use lib.ListN.{length, get_or, length-set}
use Rattle.loops.proofs.Bools.{no}
use Rattle.loops.specs.Loops.{tab}
use Rattle.loops.proofs.Tab.{length_tab, get_tab, tab_of}
use Rattle.angles_defs.specs.Network.{zeros}
use Rattle.plan_defs.specs.Lists.{counting, count_from, sum}
use Rattle.plan_defs.specs.Case.{Case, promote, levels, first_levels}
use Rattle.plan_defs.specs.Solve.{Peak, planning_state}
use Rattle.plan_defs.specs.Raise.{no_marks, raise_of, mark_bus, mark_both, raised_to, moves, raised_levels, moved_buses, Raised, heavy_marks, passed_to, passed_by, passes, pass_count, raises}
use Rattle.plan_defs.specs.Plan.{first_raised}
use Rattle.std.specs.Prelude.{Option, Some, None}
use Rattle.plan_defs.proofs.Lists.{count_more, count_none, sum_tab}
use Rattle.plan_defs.proofs.Stages.{On, on_onward}
use Rattle.plan_defs.proofs.Accepted.{Accepted, first_below}
use Rattle.plan_defs.proofs.Drawn.{Drawn, drawn_first, drawn_again}
use Rattle.plan_defs.proofs.Solved.{StateSolved, solved}

-- ---- one bus
pub raised_le : (l : ℕ) (r : Option ℕ) → raised_to l r ≤ l
raised_le l None = le_refl l
raised_le l (Some t) = go (ltb t l) refl
  where
    go : (b : Bool) → ltb t l ≡ b → cond b t l ≤ l
    go true e = let z = ltb-true t l e in omega arith
    go false e = le_refl l

-- where it moves it loses a level
moved_less : (l : ℕ) (r : Option ℕ) → cond (moves l r) 1 0 + raised_to l r ≤ l
moved_less l None = omega arith
moved_less l (Some t) = go (ltb t l) refl
  where
    go : (b : Bool) → ltb t l ≡ b → cond b 1 0 + cond b t l ≤ l
    go true e = let z = ltb-true t l e in omega arith
    go false e = omega arith

-- ---- marks
pub length_mark : (t i j : ℕ) (marks : List ℕ) → length (mark_both t i j marks) ≡ length marks
unfolding mark_both
length_mark t i j marks = length-set (mark_bus t i marks) j _ ∙ length-set marks i _

no_mark : (n i : ℕ) → get_or (no_marks n) i 0 ≡ 0
no_mark zero i = refl
no_mark (suc n) zero = refl
no_mark (suc n) (suc i) = no_mark n i

-- no mark moves no bus
pub none_moved : (level : List ℕ) (n : ℕ) → moved_buses level (no_marks n) ≡ 0
unfolding moved_buses
none_moved level n =
    count_none (λ i. moves (get_or level i 0) (raise_of (get_or (no_marks n) i 0))) (length level) (length level) 0 (omega arith)
    (λ j h. ap (λ (m : ℕ). moves (get_or level j 0) (raise_of m)) (no_mark n j))

-- ---- all buses
module _ (level marks : List ℕ) where
  abbrev to : ℕ → ℕ
  to i = raised_to (get_or level i 0) (raise_of (get_or marks i 0))

  abbrev goes : ℕ → Bool
  goes i = moves (get_or level i 0) (raise_of (get_or marks i 0))

  moved_upto : (n : ℕ) → counting goes n + sum (tab n to) ≤ sum (tab n (λ i. get_or level i 0))
  unfolding count_from tab sum
  moved_upto zero = le_refl 0
  moved_upto (suc n) =
      omega (arith, ap (counting goes) (sym (add-one n)) ∙ count_more goes n, sum_tab to n, sum_tab (λ i. get_or level i 0) n, moved_upto n, moved_less (get_or level n 0) (raise_of (get_or marks n 0)))

  pub moved_sum : moved_buses level marks + sum (raised_levels level marks) ≤ sum level
  unfolding moved_buses raised_levels
  moved_sum = omega (arith, moved_upto (length level), ap sum (tab_of (length level) level 0 refl))

  pub length_raised : length (raised_levels level marks) ≡ length level
  unfolding raised_levels
  length_raised = length_tab (length level) _

  pub raised_at : (i : ℕ) → i < length level → get_or (raised_levels level marks) i 0 ≡ to i
  unfolding raised_levels
  raised_at i h = get_tab (length level) to i 0 h

module _ (c : Case) where
  -- ---- levels: a place for each bus, none lower than it began, and none changed where the mode does not promote
  pub record Risen (level : List ℕ) : Type 0 where
    pub size : length level ≡ c.buses
    pub risen : (i : ℕ) → i < c.buses → get_or level i 0 ≤ get_or (first_levels c) i 0
    pub unraised : promote c.mode ≡ false → level ≡ first_levels c

  -- so each is on the ladder
  pub risen_below : (target : ℕ) → Accepted c target → (level : List ℕ) → Risen level → (i : ℕ) → i < c.buses → get_or level i 0 < levels c
  risen_below target ok level r i h = omega (arith, r.risen i h, first_below c target ok i h)

  pub risen_first : Risen (first_levels c)
  unfolding first_levels
  risen_first = record { size = length_tab c.buses _; risen = λ i h. le_refl _; unraised = λ e. refl }

  pub risen_more : (level marks : List ℕ) → promote c.mode ≡ true → Risen level → Risen (raised_levels level marks)
  risen_more level marks e r =
      record {
        size = length_raised level marks ∙ r.size;
        risen = λ i h.
            let a : i < length level = omega (arith, r.size) in
            omega (arith, raised_at level marks i a, raised_le (get_or level i 0) (raise_of (get_or marks i 0)), r.risen i h);
        unraised = λ f. absurd (no f e);
      }

  -- ---- the raises before the rounds
  pub record Lifted (s : Raised) : Type 0 where
    pub risen : Risen s.level
    pub drawn : Drawn c s.level s.designs
    pub promoted : s.promoted + sum s.level ≤ sum (first_levels c)

  pub lifted_first : Lifted (first_raised c)
  lifted_first = record { risen = risen_first; drawn = drawn_first c (first_levels c); promoted = omega arith }

  module _ (P : Peak) (counts : List ℕ) (expanding : promote c.mode ≡ true) where
    passed_lifted : (d m : ℕ) (s : Raised) (marks : List ℕ) → moved_buses s.level marks ≡ m → Lifted s
        → ((t : Raised) → Lifted t → On Lifted (passes d c P counts t)) → On Lifted (passed_by m c s marks (passes d c P counts))
    passed_lifted d zero s marks e l next = l
    passed_lifted d (suc m) s marks e l next =
        next (passed_to c s (raised_levels s.level marks) (suc m))
        (record {
          risen = risen_more s.level marks expanding l.risen;
          drawn = drawn_again c (raised_levels s.level marks) (zeros c.corridors);
          promoted = omega (arith, l.promoted, moved_sum s.level marks);
        })

    passes_lifted : (d : ℕ) (s : Raised) → Lifted s → On Lifted (passes d c P counts s)
    unfolding passes
    passes_lifted zero s l = l
    passes_lifted (suc d) s l =
        on_onward (StateSolved P.n (length s.designs)) Lifted (planning_state P s.designs counts (zeros c.buses)) _ (solved P s.designs counts (zeros c.buses))
        (λ v h.
        passed_lifted d (moved_buses s.level (heavy_marks c s v.flows)) s (heavy_marks c s v.flows) refl l (passes_lifted d))

  pub raises_lifted : (P : Peak) (counts : List ℕ) → On Lifted (raises c P counts (first_raised c))
  unfolding raises passes
  raises_lifted P counts = go (promote c.mode) refl
    where
      go : (b : Bool) → promote c.mode ≡ b → On Lifted (passes (pass_count b (levels c)) c P counts (first_raised c))
      go true e = passes_lifted P counts e (levels c - 1) (first_raised c) lifted_first
      go false e = lifted_first
