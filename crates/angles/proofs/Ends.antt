-- The operation's beginning and end: the calls that set the rows up, what is handed out, and which requests come to it.
-- Each call sets one row of what the call before it left; the check's verdict is the definition's.
use Prim.Native.Nat.{ℕ, ◌*◌}
use mathlib.Core.Bool.{Bool}
use mathlib.Core.Path.{◌≡◌, refl, sym, ap, ◌∙◌}
use mathlib.Core.List.{List, [], ◌∷◌}
use native.Mathlib.Omega.{arith}
use borrow.Author.Tests.{lt-ltb, le-ltb}
use Rattle.loops.proofs.Scan.{fault_some, fault_passed}
use lib.Dec.{lit<}
use lib.Ieee.{Float, nan}
use lib.ListN.{length, set, replicate}
use Rattle.loops.specs.Figures.{nought}
use Rattle.loops.specs.Loops.{iter, first, fault}
use Rattle.loops.specs.Parts.{part, put, rows}
use Rattle.loops.proofs.Tab.{tab_replicate}
use Rattle.loops.proofs.Rows.{row_of, rows_wrote, rows_same}
use Rattle.refusal.specs.declared.Refusal.{Refusal}
use Rattle.refusal.specs.declared.Refusal.TheVariants.{NotFinite}
use Rattle.angles_defs.specs.Network.{Edges, zeros, ground, grounded_of, weigh, diag_of, kept}
use Rattle.angles_defs.specs.Solve.{Solved, solve_from, solve}
use Rattle.angles_defs.specs.Operation.{Request, Outcome, outcome, check_of, finite_at, finish_if, finish_at, finish, solve_of, dc_angles}
use Rattle.angles_defs.specs.declared.Solution.{Solution}
use Rattle.angles_defs.proofs.Vectors.{length_grounded, length_diag, length_kept}
use Rattle.angles_defs.proofs.Answers.{Sound, sound_of}
use Rattle.angles.specs.Rows.{row, network_in, solved_in, start_rows, given_or_zeros, HandedOut}
use Rattle.angles.specs.Edges.{EdgesBelow, GroundsBelow}
use Rattle.refusal.specs.Reply.{no_refusal}
use Rattle.std.specs.Prelude.{Err, Ok, Result, Option, Some, None}

-- ---- what was filled with zeros
pub zeroed : (w w' : List Float) (k : ℕ) → length w ≡ k → w' ≡ replicate (length w) nought → w' ≡ zeros k
zeroed w w' k l e = e ∙ ap (λ (j : ℕ). replicate j nought) l

-- ---- the rows are set up
zero_rows : (n : ℕ) (w₁ : List Float) → w₁ ≡ zeros (8 * n) → rows 8 n w₁ ≡ replicate 8 (zeros n)
zero_rows n w₁ e =
    rows_same nan 8 n nought w₁ (e ∙ sym (tab_replicate (8 * n) nought))
    ∙ ap (replicate 8) (tab_replicate n nought)

pub set_up_calls : (n : ℕ) (E : Edges) (grounds : List ℕ) (injection guess w₀ w₁ w₂ w₃ w₄ w₅ : List Float)
    → length w₀ ≡ 8 * n → length w₁ ≡ length w₀ → length w₂ ≡ length w₁ → length w₃ ≡ length w₂ → length w₄ ≡ length w₃
    → w₁ ≡ replicate (length w₀) nought
    → w₂ ≡ put w₁ (1 * n) (iter (ground grounds) (length grounds) 0 (part (1 * n) n w₁))
    → w₃ ≡ put w₂ (2 * n) (iter (weigh E) (length E.from) 0 (part (2 * n) n w₂))
    → w₄ ≡ put w₃ 0 (kept n (part (1 * n) n w₃) injection)
    → w₅ ≡ put w₄ (3 * n) (kept n (part (1 * n) n w₄) guess)
    → rows 8 n w₅ ≡ start_rows n E grounds injection guess
unfolding start_rows grounded_of diag_of
set_up_calls n E grounds injection guess w₀ w₁ w₂ w₃ w₄ w₅ len k₁ k₂ k₃ k₄ e₁ e₂ e₃ e₄ e₅ =
    l₅ ∙ ap (λ (S : List (List Float)). set S 3 x) (l₄ ∙ ap (λ (S : List (List Float)). set S 0 b) R₃)
  where
    g : List Float
    g = grounded_of n grounds

    c : List Float
    c = diag_of n E

    b : List Float
    b = kept n g injection

    x : List Float
    x = kept n g guess

    R₁ : rows 8 n w₁ ≡ replicate 8 (zeros n)
    R₁ = zero_rows n w₁ (zeroed w₀ w₁ (8 * n) len e₁)

    R₂ : rows 8 n w₂ ≡ zeros n ∷ g ∷ zeros n ∷ zeros n ∷ zeros n ∷ zeros n ∷ zeros n ∷ zeros n ∷ []
    R₂ =
        rows_wrote nan 8 n 1 (1 * n) w₁ w₂ g refl (lit< tt) (k₁ ∙ len) (length_grounded n grounds) (rw (row_of 8 n 1 (1 * n) w₁ refl (lit< tt), R₁) at e₂)
        ∙ ap (λ (S : List (List Float)). set S 1 g) R₁

    R₃ : rows 8 n w₃ ≡ zeros n ∷ g ∷ c ∷ zeros n ∷ zeros n ∷ zeros n ∷ zeros n ∷ zeros n ∷ []
    R₃ =
        rows_wrote nan 8 n 2 (2 * n) w₂ w₃ c refl (lit< tt) (k₂ ∙ k₁ ∙ len) (length_diag n E) (rw (row_of 8 n 2 (2 * n) w₂ refl (lit< tt), R₂) at e₃)
        ∙ ap (λ (S : List (List Float)). set S 2 c) R₂

    l₄ : rows 8 n w₄ ≡ set (rows 8 n w₃) 0 b
    l₄ = rows_wrote nan 8 n 0 0 w₃ w₄ b (omega arith) (lit< tt) (k₃ ∙ k₂ ∙ k₁ ∙ len) (length_kept n g injection) (rw (row_of 8 n 1 (1 * n) w₃ refl (lit< tt), R₃) at e₄)

    l₅ : rows 8 n w₅ ≡ set (rows 8 n w₄) 3 x
    l₅ =
        rows_wrote nan 8 n 3 (3 * n) w₄ w₅ x refl (lit< tt) (k₄ ∙ k₃ ∙ k₂ ∙ k₁ ∙ len) (length_kept n g guess)
        (rw (row_of 8 n 1 (1 * n) w₄ refl (lit< tt), l₄, R₃) at e₅)

-- ---- the angles are handed out
module _ (n : ℕ) (w w' y y' : List Float) (lw : length w ≡ 8 * n) (ew : w' ≡ replicate (length w) nought) where
  x_row : part (3 * n) n w ≡ row (rows 8 n w) 3
  x_row = row_of 8 n 3 (3 * n) w refl (lit< tt)

  found_in : (bus : Option ℕ) → bus ≡ fault (finite_at (part (3 * n) n w)) n → bus ≡ fault (finite_at (row (rows 8 n w) 3)) n
  found_in bus e = e ∙ ap (λ (v : List Float). fault (finite_at v) n) x_row

  pub hand_zeros : (bus : ℕ) → Some bus ≡ fault (finite_at (part (3 * n) n w)) n → length y ≡ n → y' ≡ replicate (length y) nought → HandedOut n (row (rows 8 n w) 3) (Some bus) y' w'
  hand_zeros bus e ly ey = record { found = found_in (Some bus) e; given = zeroed y y' n ly ey; cleared = zeroed w w' (8 * n) lw ew }

  pub hand_angles : None ≡ fault (finite_at (part (3 * n) n w)) n → y' ≡ part (3 * n) n w → HandedOut n (row (rows 8 n w) 3) None y' w'
  hand_angles e ey = record { found = found_in None e; given = ey ∙ x_row; cleared = zeroed w w' (8 * n) lw ew }

-- ---- the answer
solved_by : (n : ℕ) (E : Edges) (grounds : List ℕ) (injection guess : List Float) (R₁ R₂ : List (List Float)) (s : Solution)
    → R₁ ≡ start_rows n E grounds injection guess → solved_in R₂ s ≡ solve_from (network_in n E R₁) (row R₁ 0) (row R₁ 3)
    → solved_in R₂ s ≡ solve n E grounds injection guess
unfolding start_rows solve
solved_by n E grounds injection guess R₁ R₂ s a b = b ∙ ap (λ (R : List (List Float)). solve_from (network_in n E R) (row R 0) (row R 3)) a

module _ (n : ℕ) (E : Edges) (grounds : List ℕ) (injection guess : List Float) (R₁ R₂ : List (List Float)) (s : Solution) (bus : Option ℕ) (y w : List Float)
    (a : R₁ ≡ start_rows n E grounds injection guess) (b : solved_in R₂ s ≡ solve_from (network_in n E R₁) (row R₁ 0) (row R₁ 3)) (H : HandedOut n (row R₂ 3) bus y w) where
  done : finish n (solved_in R₂ s) ≡ finish n (solve n E grounds injection guess)
  done = ap (λ (o : Solved). finish n o) (solved_by n E grounds injection guess R₁ R₂ s a b)

  pub answer_refused : (k : ℕ) → bus ≡ Some k → outcome (Err (NotFinite k)) y w ≡ finish n (solve n E grounds injection guess)
  unfolding finish_if
  answer_refused k h =
      let f = fault_some (finite_at (row R₂ 3)) n k (sym h ∙ H.found) in
      ap (λ (u : List Float). outcome (Err (NotFinite k)) u w) (H.given ∙ ap (given_or_zeros n (row R₂ 3)) h)
      ∙ ap (λ (u : List Float). outcome (Err (NotFinite k)) (zeros n) u) H.cleared
      ∙ ap (λ (p : Bool). finish_if p n (solved_in R₂ s) k) (sym (lt-ltb k n f.1))
      ∙ ap (λ (i : ℕ). finish_at n (solved_in R₂ s) i) f.0
      ∙ done

  pub answer_given : bus ≡ None → outcome (Ok s) y w ≡ finish n (solve n E grounds injection guess)
  unfolding finish_if
  answer_given h =
      let f = fault_passed (finite_at (row R₂ 3)) n (sym h ∙ H.found) in
      ap (λ (u : List Float). outcome (Ok s) u w) (H.given ∙ ap (given_or_zeros n (row R₂ 3)) h)
      ∙ ap (λ (u : List Float). outcome (Ok s) (row R₂ 3) u) H.cleared
      ∙ ap (λ (p : Bool). finish_if p n (solved_in R₂ s) (first (finite_at (row R₂ 3)) n 0)) (sym (le-ltb (first (finite_at (row R₂ 3)) n 0) n f))
      ∙ done

-- ---- the operation
module _ (q : Request) (result work : List Float) (v : Result (Unit {0}) Refusal) (e : v ≡ check_of q (length result) (length work)) where
  pub angles_refused : (f : Refusal) → v ≡ Err f → outcome (Err f) result work ≡ dc_angles q result work
  unfolding dc_angles
  angles_refused f h = rw (sym e ∙ h)

  pub angles_answered : (o : Outcome) → v ≡ no_refusal → o ≡ finish q.n (solve_of q) → o ≡ dc_angles q result work
  unfolding dc_angles
  angles_answered o h d = rw (sym e ∙ h) d

-- what `answer` asks of a request that is not refused
pub record Passed (q : Request) (result work : ℕ) : Type 0 where
  pub sound : Sound q result work
  pub edges : EdgesBelow q.n q.edges.from q.edges.to q.edges.weight
  pub grounds : GroundsBelow q.n q.grounds

pub passed : (q : Request) (result work : ℕ) → no_refusal ≡ check_of q result work → Passed q result work
passed q result work e =
    let S = sound_of q result work (sym e) in
    let L = S.lengths in
    record {
      sound = S;
      edges =
          record {
            to_count = L.to ∙ sym L.from;
            weight_count = L.weight ∙ sym L.from;
            from_below = λ e l. S.from_below e (rw L.from at l);
            to_below = λ e l. S.to_below e (rw L.from at l);
          };
      grounds = record { below = λ k l. S.ground_below k (rw L.grounds at l) };
    }
