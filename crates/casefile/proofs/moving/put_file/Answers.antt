-- What stands before the buses, the buses, and what follows them are put one behind the other (file_fitted).
use Prim.Native.Nat.{ℕ, ◌+◌, ◌-◌, ◌≤◌, min}
use mathlib.Core.List.{List}
use mathlib.Core.Path.{◌≡◌, ap, ◌∙◌}
use native.Mathlib.Omega.{arith}
use lib.ListN.{length, replicate, take, drop, length-take, length-replicate}
use Rattle.std.proofs.lemmas.List.{take_rest}
use Rattle.loops.specs.Parts.{put}
use Rattle.casefile_defs.specs.Bounds.{most_bytes}
use Rattle.casefile_defs.specs.Layout.{spot}
use Rattle.casefile_defs.specs.Moving.{buses_as}
use Rattle.casefile_defs.specs.declared.Kind.{Kind}
use Rattle.casefile_defs.specs.declared.Kind.TheVariants.{Bus}
use Rattle.casefile.specs.Movable.{Movable}
use Rattle.casefile.specs.Records.{Records, start_of}
use Rattle.casefile.proofs.Fitted.{file_fitted, buses_small}
use Rattle.casefile.proofs.Stored.{bus_start}
use Rattle.casefile.proofs.moving.put_file.Goals as goal

last : (t : Records) (x : ℕ) → Movable t → x ≡ start_of t t.count → x ≡ spot Bus t.file t.at t.count
last t x m e = bus_start t t.count x m.buses e

-- the output has its length, and the buses their room
size : (w : List ℕ) → w ≡ replicate most_bytes 0 → length w ≡ most_bytes
size w e = ap length e ∙ length-replicate {A = ℕ} most_bytes 0

small : (k : Kind) (t : Records) → Movable t → t.at + length (buses_as k t.file t.at t.count) ≤ most_bytes
small k t m = buses_small k t.file t.at t.count m.early m.few m.kept

pub put_buses-there-requires-clause-fits : goal.put_buses-there-requires-clause-fits
put_buses-there-requires-clause-fits c = omega (arith, small c.args.kind _ c.requires.movable, size _ c.requires.clear, c.put_part.auto.out)

pub overflow_sub-room : goal.overflow_sub-room
overflow_sub-room c = omega (arith, small c.args.kind _ c.requires.movable, size _ c.requires.clear, c.put_buses-there.ensures.end, c.put_part.auto.out, c.put_buses-there.auto.out)

pub put_part-requires-2 : goal.put_part-requires-2
put_part-requires-2 c =
    omega (arith, length-take {A = ℕ}, c.min.ensures, small c.args.kind _ c.requires.movable, size _ c.requires.clear, c.put_buses-there.ensures.end, c.put_part.auto.out, c.put_buses-there.auto.out)

pub returns : goal.returns
returns c =
    let t = c.args.buses.now in
    let k = c.args.kind in
    let m = c.requires.movable in
    let b = c.put_buses-there in
    let i = c.buses.inside in
    let e : i.end ≡ spot Bus t.file t.at t.count = last t _ m (c.buses.invariant.end ∙ ap (λ (t : Records). start_of t t.count) c.buses.view_is) in
    let f : List ℕ → List ℕ = λ r. put b.new.out b.result (take (min (length r) (length b.new.out - b.result)) r) in
    let r : List ℕ = take (length i.file.now - i.end) (drop i.end i.file.now) in
    file_fitted k t.file t.at t.count c.args.out.now c.put_part.new.out b.new.out _ i.end _ c.requires.clear e b.ensures.end m.inside (omega (arith, m.within))
    (omega (arith, small k t m, b.ensures.end))
    (c.put_part.ensures ∙ ap (λ (r : Records). put c.args.out.now 0 (take r.at r.file)) c.buses.view_is)
    b.ensures.bytes
    (c.put_part-2.ensures
    ∙ ap (λ (n : ℕ). put b.new.out b.result (take n r)) c.min.ensures
    ∙ ap f (take_rest i.file.now i.end)
    ∙ ap (λ (r : Records). f (drop i.end r.file)) c.buses.view_is)
