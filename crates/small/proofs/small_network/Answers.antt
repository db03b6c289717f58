-- Each column is filled with the network's records (Filled), so the tables are the place's.
use Rattle.std.proofs.Common.{ℕ, ◌*◌, ◌%◌, ◌<◌, ◌∙◌, sym, arith, rules}
use Rattle.loops.specs.Figures.{nought, one, hundred}
use Rattle.casefile_defs.specs.Bounds.{row_figures}
use Rattle.casefile_defs.proofs.Whole.{sizes}
use Rattle.small_defs.specs.Networks.{all_places}
use Rattle.small_defs.specs.Tables.{kv, ten, twenty, quarter, columns_of, laid_out}
use Rattle.small.specs.Columns.{pair_of, lower_end, upper_end, load_at, row_figure}
use Rattle.small.proofs.Filled.{column, cleared, single, each_bus, loads, lower, upper, each, rows}
use Rattle.small.proofs.Whole.{places_same, made_whole, lengths_refused, place_refused}
use Rattle.small.proofs.small_network.Goals as goal

pub returns-then-not-sized : goal.returns-then-not-sized
returns-then-not-sized c = lengths_refused _ _ (sym c.tables_sized-sized.ensures ∙ c.if-not-sized.true)

pub returns-then-place-ge-PLACES : goal.returns-then-place-ge-PLACES
returns-then-place-ge-PLACES c = place_refused _ _ (sym c.tables_sized-sized.ensures ∙ c.if-not-sized.false) (omega (arith, c.if-place-ge-PLACES.true))

pub returns : goal.returns
unfolding laid_out columns_of
returns c =
    let i = c.args.place in
    let s = c.network_at-s.result in
    let e = c.network_at-s.ensures in
    let m = c.corridor_count-m.result in
    let v = c.corridor_count-m.ensures.value in
    let sized = sym c.tables_sized-sized.ensures ∙ c.if-not-sized.false in
    let z = sizes _ sized in
    let few : i < all_places = omega (arith, c.if-place-ge-PLACES.false) in
    made_whole i _ _ few sized e c.header_of.ensures
    (places_same
    (column nought 1 (λ (j : ℕ). kv) z.ladder (single kv) (c.fill_first.ensures (λ (j : ℕ). kv) (λ j r l h. search rules)))
    (cleared 0 s.buses z.tier (each_bus i few e 0) (c.fill.ensures.after (λ y e. e)))
    (column nought s.buses (load_at s.loads) z.reading (loads i few e) (c.fill_first-2.ensures (load_at s.loads) (λ j r l h. search rules)))
    (column nought s.buses (λ (j : ℕ). one) z.weight (each_bus i few e one) (c.fill_first-3.ensures (λ (j : ℕ). one) (λ j r l h. search rules)))
    (cleared 0 1 z.bus (single 0) (c.fill-2.ensures.after (λ y e. e)))
    (column 0 1 (λ (j : ℕ). 1) z.slack (single 1) (c.fill_first-4.ensures (λ (j : ℕ). 1) (λ j r l h. search rules)))
    (cleared nought 1 z.pmin (single nought) (c.fill-3.ensures.after (λ y e. e)))
    (column nought 1 (λ (j : ℕ). hundred) z.pmax (single hundred) (c.fill_first-5.ensures (λ (j : ℕ). hundred) (λ j r l h. search rules)))
    (column nought 1 (λ (j : ℕ). twenty) z.c1 (single twenty) (c.fill_first-6.ensures (λ (j : ℕ). twenty) (λ j r l h. search rules)))
    (column nought 1 (λ (j : ℕ). quarter) z.c2 (single quarter) (c.fill_first-7.ensures (λ (j : ℕ). quarter) (λ j r l h. search rules)))
    (column 0 m (λ (j : ℕ). lower_end (pair_of s.corridors j)) z.a (lower i few e v) (c.fill_first-8.ensures (λ (j : ℕ). lower_end (pair_of s.corridors j)) (λ j r l h. search rules)))
    (column 0 m (λ (j : ℕ). upper_end (pair_of s.corridors j)) z.b (upper i few e v) (c.fill_first-9.ensures (λ (j : ℕ). upper_end (pair_of s.corridors j)) (λ j r l h. search rules)))
    (column 0 m (λ (j : ℕ). 1) z.circuits (each i few e v 1) (c.fill_first-10.ensures (λ (j : ℕ). 1) (λ j r l h. search rules)))
    (column nought m (λ (j : ℕ). ten) z.length_km (each i few e v ten) (c.fill_first-11.ensures (λ (j : ℕ). ten) (λ j r l h. search rules)))
    (column nought m (λ (j : ℕ). one) z.share (each i few e v one) (c.fill_first-12.ensures (λ (j : ℕ). one) (λ j r l h. search rules)))
    (cleared 0 m z.cap (each i few e v 0) (c.fill-4.ensures.after (λ y e. e)))
    (column nought (m * row_figures) (λ (p : ℕ). row_figure (p % row_figures)) z.sheet (rows i few e v) (c.fill_first-13.ensures (λ (p : ℕ). row_figure (p % row_figures)) (λ j r l h. search rules))))
