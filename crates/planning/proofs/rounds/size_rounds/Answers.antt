-- A round's last corridor, its last component or a refusal leads out of the round by name.
use Rattle.std.proofs.Common.{◌≡◌, ◌+◌, ◌≤◌, true, false, length, sym, refl, ◌∙◌, arith, rules}
use Rattle.plan_defs.specs.Case.{promote}
use Rattle.plan_defs.specs.Raise.{moved_buses}
use Rattle.planning.proofs.Rounding.{few_sum, few_high, nothing_done}
use Rattle.planning.proofs.Sweeps.{rounds_end, solved_of_round, solve_refused, sizes_start, sizes_turn, sizes_again, sizes_rested, stiffens_start, stiffens_refused, stiffens_turn, stiffens_again, stiffens_rested, run_of}
use Rattle.planning.proofs.rounds.size_rounds.Goals as goal
use Rattle.planning.proofs.rounds.size_rounds.Goals.{then-k-grid+else-moved-t+else-not-promotes, else-k-grid}

pub loop-k-init : goal.loop-k-init
loop-k-init c =
    let d = c.draw_edges-e in (
      search rules,
      search rules,
      refl,
      omega arith,
      sizes_start (solved_of_round d.result c.rounds.invariant.2 c.if-left-eq0.false (search rules) d.ensures.edges (search rules) c.peak_state.ensures) c.in_default.is (c.fill.ensures.after (λ y e. e)) (search rules),
      λ e. absurd (omega (arith, c.requires.some, e)),
    )

pub rounds-preserved-then-moved-t : goal.rounds-preserved-then-moved-t
rounds-preserved-then-moved-t c =
    let sized = sizes_turn c.loop-k.invariant.4 c.loop-k-test.true c.size_corridor-t.ensures.sized in
    (search rules, search rules, sizes_again sized (omega (arith, c.if-k-grid.true)) c.raise_marked-moved.ensures c.if-moved-t.true)

pub loop-k-preserved : goal.loop-k-preserved
loop-k-preserved c =
    let l = c.loop-k in
    let v = c.size_corridor-t in
    let same : (c.if-k-grid.level ≡ l.level) × (c.if-k-grid.banks ≡ v.new.banks) × (length c.args.grid.now.a.now ≤ l.k + 1 → (promote c.args.mode ≡ true) × (moved_buses l.level v.new.marks ≡ 0) × (v.result.added ≡ false)) =
    elim c.if-k-grid.branch [
      | then-k-grid+else-moved-t+else-not-promotes w ↦
          let u = w.raise_marked-moved.ensures in
          let none = nothing_done _ _ w.if-moved-t.false in
          (w.level-is ∙ (u.still none.0).0, w.banks-is ∙ (u.still none.0).1, λ e. (sym w.promotes.ensures ∙ w.if-not-promotes.false, sym u.count ∙ none.0, none.1))
      | else-k-grid w ↦ (w.level-is, w.banks-is, λ e. absurd (w.if-k-grid.false (omega (arith, e, c.loop-k-test.true))))
    ] in
    rw (same.0, same.1) (search rules, search rules, l.invariant.2, search rules, sizes_turn l.invariant.4 c.loop-k-test.true v.ensures.sized, same.2)

pub loop-i-init : goal.loop-i-init
loop-i-init c =
    let l = c.loop-k in
    let s = c.first_tally-s.ensures in
    let all : length c.args.grid.now.a.now ≤ l.k = omega (arith, c.loop-k-test.false) in (
      l.invariant.0,
      omega (arith, c.requires.columns.lines.a_below 0 c.requires.some, c.requires.places.leader_size),
      refl,
      (omega arith, omega arith, omega arith),
      stiffens_start l.invariant.4 all (l.invariant.5 all) c.limits_of-g.ensures s.marks s.start,
    )

pub stiffen_led-requires-clause-i_in_bounds : goal.stiffen_led-requires-clause-i_in_bounds
stiffen_led-requires-clause-i_in_bounds c =
    let sum = few_sum c.loop-k.circuits c.loop-k.invariant.0.few in
    let high = few_high c.loop-k.level c.limits_of-g.result.top in
    search rules

pub rounds-preserved-then-moved-s : goal.rounds-preserved-then-moved-s
rounds-preserved-then-moved-s c =
    let stiffened = stiffens_turn c.loop-i.invariant.4 c.loop-i-test.true c.stiffen_led.ensures c.in-Ok.is in
    (search rules, search rules, stiffens_again stiffened (omega (arith, c.if-i-opened.true)) c.raise_marked-moved-then-i-opened.ensures c.if-moved-s.true)

pub loop-i-preserved : goal.loop-i-preserved
loop-i-preserved c = (search rules, search rules, c.loop-i.invariant.2, search rules, stiffens_turn c.loop-i.invariant.4 c.loop-i-test.true c.stiffen_led.ensures c.in-Ok.is)

pub returns-then-left-eq0 : goal.returns-then-left-eq0
returns-then-left-eq0 c = run_of c.requires.places.leader_size c.rounds.invariant.0 (rounds_end c.rounds.invariant.2 c.if-left-eq0.true)

pub returns-in-Err : goal.returns-in-Err
returns-in-Err c =
    let d = c.draw_edges-e in
    run_of c.requires.places.leader_size c.rounds.invariant.0 (solve_refused (solved_of_round d.result c.rounds.invariant.2 c.if-left-eq0.false (search rules) d.ensures.edges (search rules) c.peak_state.ensures) c.in-Err.is)

pub returns-then-not-promotes : goal.returns-then-not-promotes
returns-then-not-promotes c =
    let sized = sizes_turn c.loop-k.invariant.4 c.loop-k-test.true c.size_corridor-t.ensures.sized in
    run_of c.requires.places.leader_size (search rules) (sizes_rested sized (omega (arith, c.if-k-grid.true)) c.raise_marked-moved.ensures c.if-moved-t.false (sym c.promotes.ensures ∙ c.if-not-promotes.true))

pub returns-in-Err-stiffen_led : goal.returns-in-Err-stiffen_led
returns-in-Err-stiffen_led c = run_of c.requires.places.leader_size (search rules) (stiffens_refused c.loop-i.invariant.4 c.loop-i-test.true c.stiffen_led.ensures c.in-Err-stiffen_led.is)

pub returns-else-moved-s : goal.returns-else-moved-s
returns-else-moved-s c =
    let stiffened = stiffens_turn c.loop-i.invariant.4 c.loop-i-test.true c.stiffen_led.ensures c.in-Ok.is in
    run_of c.requires.places.leader_size (search rules) (stiffens_rested stiffened (omega (arith, c.if-i-opened.true)) c.raise_marked-moved-then-i-opened.ensures c.if-moved-s.false)
