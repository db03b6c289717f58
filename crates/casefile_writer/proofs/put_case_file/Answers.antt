use Rattle.std.proofs.iter.Serving.{serving}
use Rattle.std.proofs.Common.{ℕ, ◌+◌, ◌∙◌, arith, rules}
use Rattle.loops.specs.Figures.{at}
use Rattle.sheets.specs.Sheet.{line_place}
use Rattle.casefile_defs.specs.Tables.{places_of}
use Rattle.casefile_defs.proofs.Whole.{sizes}
use Rattle.casefile_theorems.specs.Writer.{file_with, caps_only}
use Rattle.casefile_writer.specs.Words.{words_in}
use Rattle.casefile_writer.proofs.Lent.{file_lent}
use Rattle.casefile_writer.proofs.Puts.{grows, whole, same_bytes}
use Rattle.casefile_writer.specs.declared.record.Level.{Level}
use Rattle.casefile_writer.specs.declared.record.Line.{Line}
use Rattle.casefile_writer.specs.Rows.{bus_at, generator_at, corridor_at, line_at}
use Rattle.casefile_writer.proofs.put_case_file.Goals as goal

pub some_weight-weighed-requires : goal.some_weight-weighed-requires
some_weight-weighed-requires c = omega (arith, c.requires.small.buses, (sizes _ c.requires.sheet_value).weight)

pub put_table-requires-clause-callable : goal.put_table-requires-clause-callable
put_table-requires-clause-callable c =
    let s = c.requires.small in
    let z = sizes _ c.requires.sheet_value in
    grind (serving, arith, s.levels, z.ladder)

pub put_table-requires-2-clause-callable : goal.put_table-requires-2-clause-callable
put_table-requires-2-clause-callable c =
    let s = c.requires.small in
    let z = sizes _ c.requires.sheet_value in
    grind (serving, arith, s.buses, z.tier, z.reading, z.weight)

pub put_table-requires-3-clause-callable : goal.put_table-requires-3-clause-callable
put_table-requires-3-clause-callable c =
    let s = c.requires.small in
    let z = sizes _ c.requires.sheet_value in
    grind (serving, arith, s.generators, z.bus, z.slack, z.pmin, z.pmax, z.c1, z.c2)

pub put_table-requires-4-clause-callable : goal.put_table-requires-4-clause-callable
put_table-requires-4-clause-callable c =
    let s = c.requires.small in
    let z = sizes _ c.requires.sheet_value in
    grind (serving, arith, s.corridors, z.a, z.b, z.circuits, z.length_km, z.share, z.cap)

pub put_table-requires-5-clause-callable : goal.put_table-requires-5-clause-callable
put_table-requires-5-clause-callable c =
    let s = c.requires.small in
    let z = sizes _ c.requires.sheet_value in
    grind (serving, arith, s.corridors, z.sheet)

pub returns-clause-put : goal.returns-clause-put
unfolding file_with words_in caps_only
returns-clause-put c =
    let h = c.args.h in
    let x = c.args in
    let p = places_of x.ladder.now x.tier.now x.reading.now x.weight.now x.bus.now x.slack.now x.pmin.now x.pmax.now x.c1.now x.c2.now x.a.now x.b.now x.circuits.now x.length_km.now x.share.now x.cap.now x.sheet.now in
    let n = h.above + h.requested in
    let level : ℕ → Level = λ (i : ℕ). record { kv = at p.ladder i } in
    let line : ℕ → Line = λ (i : ℕ). line_at p.sheet (line_place h.corridors n i) in
    let g =
    grows c.put.ensures.grown
    (grows (c.put_table.ensures.grown level (λ i r l h. search rules))
    (grows (c.put_table-2.ensures.grown (bus_at p c.some_weight-weighed.result) (λ i r l h. search rules))
    (grows (c.put_table-3.ensures.grown (generator_at p) (λ i r l h. search rules))
    (grows (c.put_table-4.ensures.grown (corridor_at p) (λ i r l h. search rules)) (c.put_table-5.ensures.grown line (λ i r l h. search rules)))))) in
    let e = g.buffer ∙ c.new-file.ensures.same_reference in
    same_bytes (file_lent h p c.requires.small c.requires.sheet_value c.some_weight-weighed.result c.some_weight-weighed.ensures) (whole g c.new-file.ensures.none c.new-file.ensures.room (search rules) c.len.ensures (search rules))
