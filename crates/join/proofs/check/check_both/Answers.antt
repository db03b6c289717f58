-- Each return is the definition with its tests decided.
use mathlib.Core.Bool.{true, false}
use mathlib.Core.Path.{refl, sym, ◌∙◌}
use borrow.Author.Rules.{rules}
use Rattle.std.specs.Prelude.{Err}
use Rattle.refusal.specs.Reply.{no_refusal}
use Rattle.join_defs.specs.Districts.{sums_ok}
use Rattle.join.specs.Joins.{tables_of}
use Rattle.join.proofs.Refusals.{answered, alike_is}
use Rattle.join.proofs.check.check_both.Goals as goal

pub returns-in_err-check_district : goal.returns-in_err-check_district
returns-in_err-check_district c = search rules ∙ answered _ _ _ _ _ (Err _) _ _ _ (sym c.in_err-check_district.was ∙ c.check_district.ensures) refl refl refl

pub returns-in_err-check_district-2 : goal.returns-in_err-check_district-2
returns-in_err-check_district-2 c =
    search rules
    ∙ answered _ _ _ _ _ no_refusal (Err _) _ _ (sym c.in_ok-check_district.was ∙ c.check_district.ensures) (sym c.in_err-check_district-2.was ∙ c.check_district-2.ensures) refl refl

pub returns-then-not-sums_ok : goal.returns-then-not-sums_ok
unfolding sums_ok
returns-then-not-sums_ok c =
    answered _ _ _ _ _ no_refusal no_refusal false _ (sym c.in_ok-check_district.was ∙ c.check_district.ensures) (sym c.in_ok-check_district-2.was ∙ c.check_district-2.ensures)
    (sym c.if-not-sums_ok.true ∙ c.sums_ok.ensures) refl

pub returns-then-not-alike-same_ladder : goal.returns-then-not-alike-same_ladder
unfolding sums_ok
returns-then-not-alike-same_ladder c =
    let a = c.args in
    answered _ _ _ _ _ no_refusal no_refusal true false (sym c.in_ok-check_district.was ∙ c.check_district.ensures) (sym c.in_ok-check_district-2.was ∙ c.check_district-2.ensures)
    (sym c.if-not-sums_ok.false ∙ c.sums_ok.ensures)
    (sym c.if-not-alike-same_ladder.true ∙ alike_is a.first.now.header (tables_of a.first.now) a.second.now.header (tables_of a.second.now) _ _ c.alike.ensures c.same_ladder.ensures)

pub returns : goal.returns
unfolding sums_ok
returns c =
    let a = c.args in
    answered _ _ _ _ _ no_refusal no_refusal true true (sym c.in_ok-check_district.was ∙ c.check_district.ensures) (sym c.in_ok-check_district-2.was ∙ c.check_district-2.ensures)
    (sym c.if-not-sums_ok.false ∙ c.sums_ok.ensures)
    (sym c.if-not-alike-same_ladder.false ∙ alike_is a.first.now.header (tables_of a.first.now) a.second.now.header (tables_of a.second.now) _ _ c.alike.ensures c.same_ladder.ensures)
