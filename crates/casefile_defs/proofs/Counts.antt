-- A header: what its bounds say of each count, and when it is the file's.
-- The test is a chain of `and`, taken apart link by link.
use Prim.Native.Nat.{ℕ, ◌*◌, ◌≤◌}
use mathlib.Core.Path.{◌≡◌}
use mathlib.Core.Bool.{true}
use mathlib.Core.List.{List}
use native.Mathlib.Nat.{mul-le-mul}
use borrow.Author.Tests.{leb-true}
use Rattle.loops.proofs.Bools.{both}
use Rattle.mode.specs.declared.PlanMode.{PlanMode}
use Rattle.casefile_defs.specs.Bounds.{most_levels, most_buses, most_generators, most_corridors, most_target}
use Rattle.casefile_defs.specs.Layout.{field}
use Rattle.casefile_defs.specs.Reading.{counts_ok, Small, levels, lines, header_of, mode_of}
use Rattle.casefile_defs.specs.declared.Header.{Header}
use Rattle.casefile_defs.specs.declared.Kind.TheVariants.{Head}

pub small_of : (h : Header) → counts_ok h ≡ true → Small h
small_of h e =
    let t = both _ _ e in
    let l = both _ _ t.0 in
    let r = both _ _ l.0 in
    let g = both _ _ r.0 in
    let c = both _ _ g.0 in
    record {
      buses = leb-true h.buses most_buses c.0;
      corridors = leb-true h.corridors most_corridors c.1;
      generators = leb-true h.generators most_generators g.1;
      levels = leb-true (levels h) most_levels l.1;
      target = leb-true h.target most_target t.1;
    }

pub lines_small : (h : Header) → Small h → lines h ≤ most_corridors * most_levels
lines_small h b = mul-le-mul b.corridors b.levels

-- a header is the file's where each of its fields is
pub header_same : (s : List ℕ) (m : PlanMode) (t n c g a r v : ℕ) → m ≡ mode_of v → v ≡ field Head 0 0 s → t ≡ field Head 1 0 s → n ≡ field Head 2 0 s
    → c ≡ field Head 3 0 s → g ≡ field Head 4 0 s → a ≡ field Head 5 0 s → r ≡ field Head 6 0 s
    → ◌≡◌ {A = Header} (record { mode = m; target = t; buses = n; corridors = c; generators = g; above = a; requested = r }) (header_of s)
unfolding header_of
header_same s m t n c g a r v p q e₁ e₂ e₃ e₄ e₅ e₆ = simp (p, q, e₁, e₂, e₃, e₄, e₅, e₆)
