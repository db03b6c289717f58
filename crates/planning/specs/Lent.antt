-- What the contracts of module lent cite: document 01's refusal 1, of the lent slices.
use Rattle.std.specs.Prelude.{ℕ, ◌+◌, ◌*◌, Bool, ◌&&◌, ◌==◌}
use Rattle.plan_defs.specs.Constants.{work_rows}
use Rattle.planning.specs.declared.lent.LentPlaces.{LentPlaces}

abbrev pub work_in : ℕ → ℕ → ℕ → ℕ → Bool
work_in n m g places = places == work_rows * (n + m + g)

abbrev pub places_ok : ℕ → ℕ → ℕ → ℕ → LentPlaces → Bool
places_ok n m g above p =
    (p.circuits == m)
    && (p.flow == m
    && (p.rate == m
    && (p.before == m
    && (p.order == m
    && (p.cap == m
    && (p.mw == g
    && (p.angle == n
    && (p.tier == n
    && (p.ground == n
    && (p.added == above
    && (work_in n m g p.figures
    && work_in n m g p.counts)))))))))))
