-- What a function leaves in the slice, as rows: a part that was put at a row's offset is that row set, and the other rows stay.
-- Each law takes what the loop shows of the slice, and speaks of the eight rows.
use Prim.Native.Nat.{ℕ, ◌*◌, ◌<◌}
use mathlib.Core.Path.{◌≡◌, refl, sym, ap, ◌∙◌}
use mathlib.Core.List.{List, []}
use native.Mathlib.Omega.{arith}
use lib.Dec.{lit<}
use lib.Ieee.{Float, nan}
use lib.ListN.{length, set}
use lib.Seq.{get_or-set_same}
use Rattle.loops.specs.Parts.{part, put, rows}
use Rattle.loops.proofs.Parts.{length_part, length_put}
use Rattle.loops.proofs.Rows.{length_rows, row_of, rows_wrote}
use Rattle.root.specs.Root.{root}
use Rattle.angles_defs.specs.Network.{Edges, scatter, kept, apply, shares, dot, along, back, less, zeros}
use Rattle.angles_defs.proofs.Vectors.{length_zeros, length_kept, length_shares, length_along, length_back, length_less}
use Rattle.angles.specs.Slices.{Wrote}
use Rattle.angles.specs.Rows.{row, network_in, Preconditioned, Residual, next_r, next_z, ResidualStep, AngleStep, DirectionStep}

-- row j set to v
pub record Set (R R' : List (List Float)) (j : ℕ) (v : List Float) (sum answer : Float) : Type 0 where
  pub left : R' ≡ set R j v
  pub answered : answer ≡ sum

module _ (n : ℕ) (w w' : List Float) (len : length w ≡ 8 * n) where
  -- `apply` from row j to row k
  pub apply_rows : (E : Edges) (j k : ℕ) (a : Float) → j < 8 → k < 8
      → Wrote w w' (k * n) (kept n (part (1 * n) n w) (scatter n E (part (j * n) n w))) (dot n (part (j * n) n w) (kept n (part (1 * n) n w) (scatter n E (part (j * n) n w)))) a
      → Set (rows 8 n w) (rows 8 n w') k (apply (network_in n E (rows 8 n w)) (row (rows 8 n w) j)) (dot n (row (rows 8 n w) j) (apply (network_in n E (rows 8 n w)) (row (rows 8 n w) j))) a
  apply_rows E j k a lj lk W =
      let g = row_of 8 n 1 (1 * n) w refl (lit< tt) in
      let x = row_of 8 n j (j * n) w refl lj in
      record {
        left = rows_wrote nan 8 n k (k * n) w w' (apply (network_in n E (rows 8 n w)) (row (rows 8 n w) j)) refl lk len (length_kept n _ _) (rw (g, x) at W.left);
        answered = W.answered ∙ rw (g, x);
      }

  pub precondition_rows : (rz : Float) → w' ≡ put w (5 * n) (shares n (part (1 * n) n w) (part (2 * n) n w) (part (4 * n) n w))
      → rz ≡ dot n (part (4 * n) n w) (shares n (part (1 * n) n w) (part (2 * n) n w) (part (4 * n) n w)) → Preconditioned n (rows 8 n w) (rows 8 n w') rz
  precondition_rows rz e s =
      let g = row_of 8 n 1 (1 * n) w refl (lit< tt) in
      let c = row_of 8 n 2 (2 * n) w refl (lit< tt) in
      let r = row_of 8 n 4 (4 * n) w refl (lit< tt) in
      record {
        left = rows_wrote nan 8 n 5 (5 * n) w w' (shares n (row (rows 8 n w) 1) (row (rows 8 n w) 2) (row (rows 8 n w) 4)) refl (lit< tt) len (length_shares n _ _ _) (rw (g, c, r) at e);
        answered = s ∙ rw (g, c, r);
      }

  pub residual_rows : (rr : Float) → w' ≡ put w (4 * n) (less n (part 0 n w) (part (4 * n) n w))
      → rr ≡ dot n (less n (part 0 n w) (part (4 * n) n w)) (less n (part 0 n w) (part (4 * n) n w)) → Residual n (rows 8 n w) (rows 8 n w') rr
  residual_rows rr e s =
      let b = row_of 8 n 0 0 w (omega arith) (lit< tt) in
      let r = row_of 8 n 4 (4 * n) w refl (lit< tt) in
      record {
        left = rows_wrote nan 8 n 4 (4 * n) w w' (less n (row (rows 8 n w) 0) (row (rows 8 n w) 4)) refl (lit< tt) len (length_less n _ _) (rw (b, r) at e);
        answered = s ∙ rw (b, r);
      }

  abbrev r' : Float → List Float
  r' alpha = next_r n alpha (rows 8 n w)

  abbrev z' : Float → List Float
  z' alpha = next_z n alpha (rows 8 n w)

  pub residual_step_rows : (alpha rz : Float)
      → w' ≡ put (put w (4 * n) (back n (part (4 * n) n w) alpha (part (7 * n) n w))) (5 * n)
      (shares n (part (1 * n) n w) (part (2 * n) n w) (back n (part (4 * n) n w) alpha (part (7 * n) n w)))
      → rz ≡ dot n (back n (part (4 * n) n w) alpha (part (7 * n) n w)) (shares n (part (1 * n) n w) (part (2 * n) n w) (back n (part (4 * n) n w) alpha (part (7 * n) n w)))
      → ResidualStep n alpha (rows 8 n w) (rows 8 n w') rz
  residual_step_rows alpha rz e t =
      let g = row_of 8 n 1 (1 * n) w refl (lit< tt) in
      let c = row_of 8 n 2 (2 * n) w refl (lit< tt) in
      let r = row_of 8 n 4 (4 * n) w refl (lit< tt) in
      let q = row_of 8 n 7 (7 * n) w refl (lit< tt) in
      let lR : length (r' alpha) ≡ n = length_back n _ alpha _ in
      let long : length (put w (4 * n) (r' alpha)) ≡ 8 * n = length_put w (4 * n) (r' alpha) (omega arith) ∙ len in
      record {
        left =
            rows_wrote nan 8 n 5 (5 * n) (put w (4 * n) (r' alpha)) w' (z' alpha) refl (lit< tt) long (length_shares n _ _ _) (rw (g, c, r, q) at e)
            ∙ ap (λ (S : List (List Float)). set S 5 (z' alpha)) (rows_wrote nan 8 n 4 (4 * n) w (put w (4 * n) (r' alpha)) (r' alpha) refl (lit< tt) len lR refl);
        answered = t ∙ rw (g, c, r, q);
      }

  abbrev x' : Float → List Float
  x' alpha = along n (row (rows 8 n w) 3) alpha (row (rows 8 n w) 6)

  pub angle_step_rows : (alpha : Float) → w' ≡ put w (3 * n) (along n (part (3 * n) n w) alpha (part (6 * n) n w)) → AngleStep n alpha (rows 8 n w) (rows 8 n w')
  angle_step_rows alpha e =
      let x = row_of 8 n 3 (3 * n) w refl (lit< tt) in
      let d = row_of 8 n 6 (6 * n) w refl (lit< tt) in
      record { left = rows_wrote nan 8 n 3 (3 * n) w w' (x' alpha) refl (lit< tt) len (length_along n _ alpha _) (rw (x, d) at e) }

  pub direction_step_rows : (alpha beta : Float)
      → w' ≡ put (put w (3 * n) (along n (part (3 * n) n w) alpha (part (6 * n) n w))) (6 * n) (along n (part (5 * n) n w) beta (part (6 * n) n w))
      → DirectionStep n alpha beta (rows 8 n w) (rows 8 n w')
  direction_step_rows alpha beta e =
      let x = row_of 8 n 3 (3 * n) w refl (lit< tt) in
      let z = row_of 8 n 5 (5 * n) w refl (lit< tt) in
      let d = row_of 8 n 6 (6 * n) w refl (lit< tt) in
      let lX : length (x' alpha) ≡ n = length_along n _ alpha _ in
      let long : length (put w (3 * n) (x' alpha)) ≡ 8 * n = length_put w (3 * n) (x' alpha) (omega arith) ∙ len in
      record {
        left =
            rows_wrote nan 8 n 6 (6 * n) (put w (3 * n) (x' alpha)) w' (along n (row (rows 8 n w) 5) beta (row (rows 8 n w) 6)) refl (lit< tt) long (length_along n _ beta _) (rw (x, d, z) at e)
            ∙ ap (λ (S : List (List Float)). set S 6 (along n (row (rows 8 n w) 5) beta (row (rows 8 n w) 6)))
            (rows_wrote nan 8 n 3 (3 * n) w (put w (3 * n) (x' alpha)) (x' alpha) refl (lit< tt) len lX refl);
      }

  -- `copy` from row 5 to row 6
  pub copy_rows : w' ≡ put w (6 * n) (part (5 * n) n w) → rows 8 n w' ≡ set (rows 8 n w) 6 (row (rows 8 n w) 5)
  copy_rows e =
      let z = row_of 8 n 5 (5 * n) w refl (lit< tt) in
      rows_wrote nan 8 n 6 (6 * n) w w' (row (rows 8 n w) 5) refl (lit< tt) len (ap length (sym z) ∙ length_part (5 * n) n w (omega arith)) (rw z at e)

  -- x cleared
  pub clear_x : w' ≡ put w (3 * n) (zeros n) → row (rows 8 n w') 3 ≡ zeros n
  clear_x e =
      ap (λ (S : List (List Float)). row S 3) (rows_wrote nan 8 n 3 (3 * n) w w' (zeros n) refl (lit< tt) len (length_zeros n) e)
      ∙ get_or-set_same (rows 8 n w) 3 (zeros n) [] (rw length_rows (lit< tt))

-- r · r
pub square_row : (n : ℕ) (w : List Float) (s : Float) → s ≡ dot n (part (4 * n) n w) (part (4 * n) n w) → s ≡ dot n (row (rows 8 n w) 4) (row (rows 8 n w) 4)
square_row n w s e = e ∙ rw (row_of 8 n 4 (4 * n) w refl (lit< tt))

-- the norm of the right side
pub norm_row : (n : ℕ) (w : List Float) (s norm0 : Float) → s ≡ dot n (part 0 n w) (part 0 n w) → norm0 ≡ root s → norm0 ≡ root (dot n (row (rows 8 n w) 0) (row (rows 8 n w) 0))
norm_row n w s norm0 es e = e ∙ ap root (es ∙ rw (row_of 8 n 0 0 w (omega arith) (lit< tt)))
