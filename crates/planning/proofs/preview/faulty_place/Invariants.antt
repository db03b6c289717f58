-- The invariant: each place passed is sound, and the places passed are kept.
use Rattle.std.proofs.Common.{◌≡◌, ℕ, ◌<◌, true}
use Rattle.plan_defs.specs.Preview.{place_ok}
use Rattle.planning.specs.Preview.{order_for}
use Rattle.planning.proofs.Places.{Named}
use Rattle.planning.proofs.preview.faulty_place.Given as goal

abbrev pub invariant-loop-j : goal.invariant-loop-j
invariant-loop-j l = record {
  passed : (i : ℕ) → i < l.j → place_ok (order_for l.order) i ≡ true;
  named : Named l.order l.named l.j;
}
