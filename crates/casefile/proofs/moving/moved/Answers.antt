-- Each return is one way through the definition.
use Prim.Native.Nat.{ℕ}
use mathlib.Core.Path.{sym, ap, ◌∙◌, subst}
use borrow.Author.Rules.{rules}
use Rattle.loops.specs.Loops.{fault}
use Rattle.casefile_defs.specs.Moving.{file_as, fitted}
use Rattle.casefile_defs.specs.declared.Kind.TheVariants.{Bus}
use Rattle.casefile.specs.Records.{Room, Records}
use Rattle.casefile.specs.Movable.{AllWeighed, Movable, keeps}
use Rattle.casefile.proofs.Fitted.{zeros}
use Rattle.casefile.proofs.Moves.{small, buses_room, table_at, at_buses, movable, all_weighed, read_is, moved_length, moved_refused, moved_lost, moved_whole}
use Rattle.casefile.proofs.moving.moved.Goals as goal

pub returns-then-out-ne-MOST_BYTES : goal.returns-then-out-ne-MOST_BYTES
returns-then-out-ne-MOST_BYTES c = moved_length c.args.wanted c.args.kind c.args.file.now c.args.out.now c.args.out.now c.if-out-ne-MOST_BYTES.true

pub returns-in_err-h : goal.returns-in_err-h
returns-in_err-h c =
    moved_refused _ _ _ _ _ c.if-out-ne-MOST_BYTES.false _ c.in_err-h.field-0.0 (read_is _ _ c.read_as-said.ensures ∙ c.in_err-h.was) (search rules)
    (c.fill.ensures.after (λ y e. search rules) ∙ ap (λ (n : ℕ). zeros n) c.if-out-ne-MOST_BYTES.false)

pub buses_at-requires : goal.buses_at-requires
buses_at-requires c = small c.args.wanted _ _ (read_is _ _ c.read_as-said.ensures ∙ c.in_ok-h.was)

pub new-buses-requires-clause-room : goal.new-buses-requires-clause-room
new-buses-requires-clause-room c =
    subst (λ (p : ℕ). Room Bus c.args.file.now p c.in_ok-h.h.buses) (sym (at_buses c.args.file.now c.in_ok-h.h c.buses_at.ensures))
    (buses_room c.args.wanted _ _ (read_is _ _ c.read_as-said.ensures ∙ c.in_ok-h.was))

pub new-buses-requires-clause-few : goal.new-buses-requires-clause-few
new-buses-requires-clause-few c = (small c.args.wanted _ _ (read_is _ _ c.read_as-said.ensures ∙ c.in_ok-h.was)).buses

pub first_lost-requires-clause-weighed : goal.first_lost-requires-clause-weighed
first_lost-requires-clause-weighed c = λ w.
    subst (λ (t : Records). AllWeighed t.file t.at t.count) (sym (table_at _ c.in_ok-h.h c.buses_at.ensures c.new-buses.ensures))
    (all_weighed c.args.wanted _ _ (c.requires.weighed w) (read_is _ _ c.read_as-said.ensures ∙ c.in_ok-h.was))

pub returns-in-Some : goal.returns-in-Some
returns-in-Some c =
    moved_lost _ _ _ _ _ c.if-out-ne-MOST_BYTES.false c.in_ok-h.h _ (read_is _ _ c.read_as-said.ensures ∙ c.in_ok-h.was)
    (c.in-Some.ensures ∙ ap (λ (t : Records). fault (keeps c.args.kind t.file t.at) t.count) (table_at _ c.in_ok-h.h c.buses_at.ensures c.new-buses.ensures))
    (c.fill.ensures.after (λ y e. search rules) ∙ ap (λ (n : ℕ). zeros n) c.if-out-ne-MOST_BYTES.false)

pub put_file-requires-clause-movable : goal.put_file-requires-clause-movable
put_file-requires-clause-movable c =
    subst (λ (t : Records). Movable t) (sym (table_at _ c.in_ok-h.h c.buses_at.ensures c.new-buses.ensures)) (movable c.args.wanted _ _ (read_is _ _ c.read_as-said.ensures ∙ c.in_ok-h.was))

pub put_file-requires-clause-clear : goal.put_file-requires-clause-clear
put_file-requires-clause-clear c = c.fill.ensures.after (λ y e. search rules) ∙ ap (λ (n : ℕ). zeros n) c.if-out-ne-MOST_BYTES.false

pub returns : goal.returns
returns c =
    let t = table_at _ c.in_ok-h.h c.buses_at.ensures c.new-buses.ensures in
    moved_whole _ _ _ _ _ c.if-out-ne-MOST_BYTES.false c.in_ok-h.h (read_is _ _ c.read_as-said.ensures ∙ c.in_ok-h.was)
    (sym c.in_default.is ∙ c.first_lost.ensures ∙ ap (λ (t : Records). fault (keeps c.args.kind t.file t.at) t.count) t)
    (c.put_file.ensures ∙ ap (λ (t : Records). fitted (file_as c.args.kind t.file t.at t.count)) t)
