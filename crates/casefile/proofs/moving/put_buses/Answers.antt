-- While a bus is left: where it starts, the bytes that are kept of it, and the place that it takes.
use Prim.Native.Nat.{◌+◌, ◌≤◌}
use mathlib.Core.Path.{◌≡◌, ap, ◌∙◌}
use native.Mathlib.Omega.{arith}
use lib.ListN.{length}
use Rattle.loops.specs.Parts.{put}
use Rattle.casefile_defs.specs.Layout.{size_of, spot}
use Rattle.casefile_defs.specs.Moving.{bus_as, buses_as}
use Rattle.casefile_defs.specs.declared.Kind.TheVariants.{Bus}
use Rattle.casefile.specs.Records.{Records}
use Rattle.casefile.proofs.Copies.{buses_start, buses_next, buses_within, buses_turn}
use Rattle.casefile.proofs.Stored.{bus_start}
use Rattle.casefile.proofs.moving.put_buses.Goals as goal

pub loop-i-init : goal.loop-i-init
unfolding buses_as
loop-i-init c = let e : c.buses.inside.at ≡ c.args.buses.now.at = ap (λ (t : Records). t.at) c.buses.view_is in record { there = omega arith; bytes = buses_start c.args.kind c.args.buses.now.file _ _ }

pub put_bus-requires : goal.put_bus-requires
put_bus-requires c =
    let t = c.args.buses.now in
    let i = c.loop-i.i in
    let q = c.requires in
    let m : length c.buses.inside.file.now ≡ length t.file = ap (λ (t : Records). length t.file) c.buses.view_is in
    let n : c.buses.inside.count ≡ t.count = ap (λ (t : Records). t.count) c.buses.view_is in
    let h : i + 1 ≤ t.count = omega (arith, c.loop-i-test.true) in
    let k : spot Bus t.file t.at i + size_of Bus ≤ length t.file = q.kept i (omega arith) in (
      omega (arith, bus_start t i _ q.buses c.start.ensures.place),
      omega (arith, c.loop-i.invariant.there, q.fits, buses_next c.args.kind t.file t.at i k, buses_within c.args.kind t.file t.at t.count (i + 1) h, c.loop-i.auto.out),
    )

pub overflow_add-there : goal.overflow_add-there
overflow_add-there c =
    let t = c.args.buses.now in
    let i = c.loop-i.i in
    let q = c.requires in
    let n : c.buses.inside.count ≡ t.count = ap (λ (t : Records). t.count) c.buses.view_is in
    let h : i + 1 ≤ t.count = omega (arith, c.loop-i-test.true) in
    omega (arith, c.size-there.ensures, q.whole, c.loop-i.invariant.there, q.fits, buses_next c.args.kind t.file t.at i (q.kept i (omega arith)), buses_within c.args.kind t.file t.at t.count (i + 1) h, c.well_formed)

pub loop-i-preserved : goal.loop-i-preserved
loop-i-preserved c =
    let t = c.args.buses.now in
    let i = c.loop-i.i in
    let q = c.requires in
    let n : c.buses.inside.count ≡ t.count = ap (λ (t : Records). t.count) c.buses.view_is in
    let h : i + 1 ≤ t.count = omega (arith, c.loop-i-test.true) in
    let k : spot Bus t.file t.at i + size_of Bus ≤ length t.file = q.kept i (omega arith) in
    let here : c.start.result ≡ spot Bus t.file t.at i = bus_start t i _ q.buses c.start.ensures.place in
    record {
      there = omega (arith, c.size-there.ensures, q.whole, c.loop-i.invariant.there, buses_next c.args.kind t.file t.at i k);
      bytes = buses_turn c.args.kind t.file t.at _ _ _ i _ c.loop-i.there here c.loop-i.invariant.there (omega arith) (omega (arith, q.fits, buses_within c.args.kind t.file t.at t.count (i + 1) h)) c.loop-i.invariant.bytes
          (c.put_bus.ensures ∙ ap (λ (r : Records). put c.loop-i.out c.loop-i.there (bus_as c.args.kind r.file c.start.result)) c.buses.view_is);
    }
