-- Each table lies where the one before it ends, so each column is its field's; what the parts leave goes to `read_whole`.
use Prim.Native.Nat.{ℕ, ◌+◌}
use mathlib.Core.List.{List}
use mathlib.Core.Path.{◌≡◌, sym, ap, ◌∙◌, subst}
use native.Mathlib.Omega.{arith}
use Rattle.loops.specs.Loops.{tab}
use Rattle.casefile_defs.specs.Layout.{spot}
use Rattle.casefile_defs.specs.Reading.{levels, read_of}
use Rattle.casefile_defs.specs.Tables.{numbers_of, figures, weights, sheet_in, cap_field, held, levels_at}
use Rattle.casefile_defs.specs.declared.CaseRead.{CaseRead}
use Rattle.casefile_defs.specs.declared.Header.{Header}
use Rattle.casefile_defs.specs.declared.Kind.{Kind}
use Rattle.casefile_defs.specs.declared.Kind.TheVariants.{Level, Bus, Generator, Corridor, Line, CappedCorridor}
use Rattle.casefile_defs.proofs.Counts.{lines_small}
use Rattle.casefile_defs.proofs.Whole.{sizes, tables_same, refused_lengths, read_whole}
use Rattle.mode.specs.declared.PlanMode.TheVariants.{Expand}
use Rattle.refusal.specs.declared.Refusal.{Refusal}
use Rattle.std.specs.Prelude.{Result, Ok, Err}
use Rattle.std.specs.Result.{result_unwrap_or}
use Rattle.casefile.specs.Records.{Room}
use Rattle.casefile.proofs.Rooms.{Roomy, roomy}
use Rattle.casefile.proofs.read_case.Goals as goal

-- where a table's records end, by where they start
ends : (k : Kind) (s : List ℕ) (n : ℕ) {p q r : ℕ} → q ≡ spot k s p n → p ≡ r → q ≡ spot k s r n
ends k s n e g = e ∙ ap (λ (p : ℕ). spot k s p n) g

moved : (k : Kind) (s : List ℕ) (count : ℕ) {p q : ℕ} → q ≡ p → Room k s p count → Room k s q count
moved k s count e r = subst (λ (p : ℕ). Room k s p count) (sym e) r

-- the counts that are left, and the room of their records
counts_held : (r : Result Header Refusal) (h : Header) → h ≡ result_unwrap_or r (record { mode = Expand; target = 0; buses = 0; corridors = 0; generators = 0; above = 0; requested = 0 }) → h ≡ held r
unfolding held
counts_held (Ok r) h e = e
counts_held (Err f) h e = e

rooms : (s : List ℕ) (r : CaseRead) (h : Header) → r ≡ read_of s → h ≡ held r.reading → Roomy s h
rooms s r h e g = roomy s r.reading h (ap (λ (x : CaseRead). x.reading) e) g

-- a column of a table whose start and size are known
column : {A : Type 0} (f : ℕ → ℕ → List A) {x : List A} {p q n m : ℕ} → p ≡ q → n ≡ m → x ≡ f p n → x ≡ f q m
column f {x} {p} {q} {n} {m} a b e = e ∙ ap (λ (i : ℕ). f i n) a ∙ ap (λ (i : ℕ). f q i) b

-- ---- the goals: the counts fit the tables, and the tables the file
pub overflow_add-levels : goal.overflow_add-levels
overflow_add-levels c = let r = rooms _ _ _ c.read_as-read.ensures (counts_held _ _ c.unwrap_or-h.ensures) in omega (arith, r.small.levels)

pub read_levels-buses-requires : goal.read_levels-buses-requires
read_levels-buses-requires c =
    let r = rooms _ _ _ c.read_as-read.ensures (counts_held _ _ c.unwrap_or-h.ensures) in
    record { room = r.levels; few = omega (arith, r.small.levels) }

pub read_buses-generators-requires : goal.read_buses-generators-requires
read_buses-generators-requires c =
    let r = rooms _ _ _ c.read_as-read.ensures (counts_held _ _ c.unwrap_or-h.ensures) in
    record { room = moved Bus _ _ c.read_levels-buses.ensures.end r.buses; few = r.small.buses }

pub read_generators-corridors-requires : goal.read_generators-corridors-requires
read_generators-corridors-requires c =
    let r = rooms _ _ _ c.read_as-read.ensures (counts_held _ _ c.unwrap_or-h.ensures) in
    let g = ends Bus c.args.file.now c.unwrap_or-h.result.buses c.read_buses-generators.ensures.end c.read_levels-buses.ensures.end in
    record { room = moved Generator _ _ g r.generators; few = omega (arith, r.small.generators) }

pub read_corridors-lines-requires : goal.read_corridors-lines-requires
read_corridors-lines-requires c =
    let r = rooms _ _ _ c.read_as-read.ensures (counts_held _ _ c.unwrap_or-h.ensures) in
    let g = ends Bus c.args.file.now c.unwrap_or-h.result.buses c.read_buses-generators.ensures.end c.read_levels-buses.ensures.end in
    let e = ends Generator c.args.file.now c.unwrap_or-h.result.generators c.read_generators-corridors.ensures.end g in
    record { room = moved Corridor _ _ e r.corridors; few = r.small.corridors }

pub read_lines-requires : goal.read_lines-requires
read_lines-requires c =
    let r = rooms _ _ _ c.read_as-read.ensures (counts_held _ _ c.unwrap_or-h.ensures) in
    let g = ends Bus c.args.file.now c.unwrap_or-h.result.buses c.read_buses-generators.ensures.end c.read_levels-buses.ensures.end in
    let e = ends Generator c.args.file.now c.unwrap_or-h.result.generators c.read_generators-corridors.ensures.end g in
    let z = sizes _ (sym c.tables_sized-sized.ensures ∙ c.if-not-sized.false) in
    record {
      room = moved Line _ _ (ends Corridor c.args.file.now c.unwrap_or-h.result.corridors c.read_corridors-lines.ensures.end e) r.rows;
      few = lines_small _ r.small;
      fits = omega (arith, lines_small _ r.small, z.sheet);
    }

pub returns-then-not-sized : goal.returns-then-not-sized
returns-then-not-sized c = refused_lengths _ _ (sym c.tables_sized-sized.ensures ∙ c.if-not-sized.true)

pub returns : goal.returns
returns c =
    let s = c.args.file.now in
    let n = c.unwrap_or-h.result in
    let z = sizes _ (sym c.tables_sized-sized.ensures ∙ c.if-not-sized.false) in
    let l = c.read_levels-buses.ensures in
    let b = c.read_buses-generators.ensures in
    let g = c.read_generators-corridors.ensures in
    let e = c.read_corridors-lines.ensures in
    let at-generators = ends Bus s n.buses b.end l.end in
    let at-corridors = ends Generator s n.generators g.end at-generators in
    read_whole _ _ _ _ n (sym c.tables_sized-sized.ensures ∙ c.if-not-sized.false) c.read_as-read.ensures (counts_held _ _ c.unwrap_or-h.ensures)
    (tables_same s n _ _ _ _ _ _ _ _ _ _ _ _ _ _ _ _ _
    (l.ladder ∙ ap (λ (m : ℕ). figures Level 0 s levels_at (n.above + n.requested) m) z.ladder)
    (column (λ p m. numbers_of Bus Bus 0 s p n.buses m) l.end z.tier b.tier)
    (column (λ p m. figures Bus 1 s p n.buses m) l.end z.reading b.reading)
    (column (λ p m. weights s p n.buses m) l.end z.weight b.weight)
    (column (λ p m. numbers_of Generator Generator 0 s p n.generators m) at-generators z.bus g.generator_bus)
    (column (λ p m. numbers_of Generator Generator 1 s p n.generators m) at-generators z.slack g.slack)
    (column (λ p m. figures Generator 2 s p n.generators m) at-generators z.pmin g.pmin)
    (column (λ p m. figures Generator 3 s p n.generators m) at-generators z.pmax g.pmax)
    (column (λ p m. figures Generator 4 s p n.generators m) at-generators z.c1 g.c1)
    (column (λ p m. figures Generator 5 s p n.generators m) at-generators z.c2 g.c2)
    (column (λ p m. numbers_of Corridor Corridor 0 s p n.corridors m) at-corridors z.a e.a)
    (column (λ p m. numbers_of Corridor Corridor 1 s p n.corridors m) at-corridors z.b e.b)
    (column (λ p m. numbers_of Corridor Corridor 2 s p n.corridors m) at-corridors z.circuits e.circuits)
    (column (λ p m. figures Corridor 3 s p n.corridors m) at-corridors z.length_km e.length_km)
    (column (λ p m. figures Corridor 4 s p n.corridors m) at-corridors z.share e.share)
    (column (λ p m. numbers_of Corridor CappedCorridor cap_field s p n.corridors m) at-corridors z.cap e.cap)
    (column (λ p m. tab m (sheet_in s p n.corridors (levels n))) (ends Corridor s n.corridors e.end at-corridors) z.sheet c.read_lines.ensures))
