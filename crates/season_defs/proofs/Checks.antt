-- The last two refusals of a plan that is fed, in order. What a plan that passes has, and the season that it leaves.
use Prim.Native.Nat.{ℕ, ◌≤◌, ◌<◌}
use mathlib.Core.Bool.{true, false}
use mathlib.Core.Path.{◌≡◌, sym, ap}
use borrow.Author.Tests.{eqb-true, eq-eqb, leb-true, le-leb, ltb-true, lt-ltb, le-ltb}
use Rattle.loops.proofs.Verdicts.{passes_all, where_all_pass}
use Rattle.refusal.specs.declared.Refusal.{Refusal}
use Rattle.refusal.specs.declared.Refusal.TheVariants.{Uneven, SeasonFull}
use Rattle.season_defs.specs.Plans.{Draft}
use Rattle.season_defs.specs.Feeding.{most_plans, most_corridors, even_with, tests_of, check_of, with_plan, outcome, fed_by, feed, said}
use Rattle.season_defs.specs.declared.Season.{Season}
use Rattle.std.specs.Prelude.{Err}
use Rattle.refusal.specs.Reply.{no_refusal}

module _ (s : Season) (corridors places : ℕ) (size : places ≡ corridors) (few : corridors ≤ most_corridors) where
  pub uneven_refused : even_with s corridors ≡ false → check_of s corridors places ≡ Err Uneven
  unfolding tests_of
  uneven_refused e = rw (eq-eqb places corridors size, le-leb corridors most_corridors few, e)

  pub full_refused : even_with s corridors ≡ true → most_plans ≤ s.taken → check_of s corridors places ≡ Err SeasonFull
  unfolding tests_of
  full_refused e h = rw (eq-eqb places corridors size, le-leb corridors most_corridors few, e, le-ltb s.taken most_plans h)

pub record Passed (s : Season) (corridors places : ℕ) : Type 0 where
  pub size : places ≡ corridors
  pub few : corridors ≤ most_corridors
  pub even : even_with s corridors ≡ true
  pub room : s.taken < most_plans

-- a plan of which no_refusal is said
pub passed : (s : Season) (corridors places : ℕ) → check_of s corridors places ≡ no_refusal → Passed s corridors places
unfolding tests_of
passed s corridors places e =
    let p = passes_all (tests_of s corridors places) e in
    record { size = eqb-true _ _ p.0; few = leb-true _ _ p.1.0; even = p.1.1.0; room = ltb-true _ _ p.1.1.1.0 }

pub accepts : (s : Season) (corridors places : ℕ) → Passed s corridors places → check_of s corridors places ≡ no_refusal
unfolding tests_of
accepts s corridors places p = sym (where_all_pass (tests_of s corridors places) (eq-eqb _ _ p.size, (le-leb _ _ p.few, (p.even, (lt-ltb _ _ p.room, tt)))))

-- ---- the season then
pub fed_taken : (s : Season) (p : Draft) → said s p ≡ no_refusal → feed s p ≡ outcome no_refusal (with_plan s p)
unfolding feed fed_by
fed_taken s p e = ap (fed_by s p) e

pub fed_refused : (s : Season) (p : Draft) (f : Refusal) → said s p ≡ Err f → feed s p ≡ outcome (Err f) s
unfolding feed fed_by
fed_refused s p f e = ap (fed_by s p) e
