-- The two kV decide which end is the higher one, and whether they differ.
use Rattle.std.proofs.Common.{ℕ, Bool, cond, get_or, refl, sym, ap, ◌∙◌}
use Rattle.planning.proofs.Draws.{ends_are}
use Rattle.planning.proofs.design.ends_of.Goals as goal
use Rattle.planning.proofs.design.ends_of.Goals.{then-kv_b-kv_a, else-kv_b-kv_a}
use Rattle.planning.specs.Tables.{grid_in}

pub returns : goal.returns
returns c =
    let z = c.args in
    let a = get_or z.grid.now.a.now z.k 0 in
    let b = get_or z.grid.now.b.now z.k 0 in
    elim c.if-kv_b-kv_a.branch [
      | then-kv_b-kv_a w ↦ ends_are (grid_in z.grid.now) z.level.now z.k a b _ _ _ _ _ refl refl c.kv_at-kv_a.ensures c.kv_at-kv_b.ensures
          (ap (λ (p : ℕ × ℕ). p.0) w.from-is ∙ sym (ap (λ (t : Bool). cond t a b) w.if-kv_b-kv_a.true))
          (ap (λ (p : ℕ × ℕ). p.1) w.from-is ∙ sym (ap (λ (t : Bool). cond t b a) w.if-kv_b-kv_a.true))
          c.differ-steps_down.ensures
      | else-kv_b-kv_a w ↦ ends_are (grid_in z.grid.now) z.level.now z.k a b _ _ _ _ _ refl refl c.kv_at-kv_a.ensures c.kv_at-kv_b.ensures
          (ap (λ (p : ℕ × ℕ). p.0) w.from-is ∙ sym (ap (λ (t : Bool). cond t a b) w.if-kv_b-kv_a.false))
          (ap (λ (p : ℕ × ℕ). p.1) w.from-is ∙ sym (ap (λ (t : Bool). cond t b a) w.if-kv_b-kv_a.false))
          c.differ-steps_down.ensures
    ]
