-- A list of tests, each with its refusal: an answer passes all of it, and the first that fails is what is refused.
use Prim.Native.Nat.{ℕ, ◌<◌}
use mathlib.Core.Bool.{Bool, true, false, cond}
use mathlib.Core.List.{List, [], ◌∷◌, ◌++◌}
use mathlib.Core.Path.{◌≡◌, refl}
use native.Mathlib.Omega.{arith}
use borrow.Author.Tests.{ltb-false, lt-ltb, le-ltb}
use lib.Dec.{ltb}
use Rattle.std.specs.Prelude.{Err, Ok, Result, ⊤}
use Rattle.loops.specs.Loops.{first}
use Rattle.loops.specs.Verdict.{Test, fact, each_row, verdict}
use Rattle.loops.proofs.Chains.{only, after, err_not_ok}
use Rattle.loops.proofs.Scan.{all_pass, pass_all}

-- what it is that a test passes, and that all of a list do
abbrev pub Passes : {E : Type 0} → Test E → Type 0
Passes (fact ok f) = ok ≡ true
Passes (each_row ok f n) = (i : ℕ) → i < n → ok i ≡ true

abbrev pub AllPass : {E : Type 0} → List (Test E) → Type 0
AllPass [] = ⊤
AllPass (t ∷ l) = Passes t × AllPass l

-- an answer passes all
pub passes_all : {E : Type 0} (l : List (Test E)) → verdict l ≡ Ok tt → AllPass l
passes_all [] e = tt
passes_all (fact ok f ∷ l) e = let p = only ok e err_not_ok in (p.0, passes_all l p.1)
passes_all (each_row ok f n ∷ l) e = let p = after (ltb (first ok n 0) n) e err_not_ok in (all_pass ok n (ltb-false _ _ p.0), passes_all l p.1)

-- and where all pass, it is an answer
abbrev past : (ok : ℕ → Bool) (n : ℕ) → ((i : ℕ) → i < n → ok i ≡ true) → ltb (first ok n 0) n ≡ false
past ok n h = le-ltb (first ok n 0) n (let e : first ok n 0 ≡ n = pass_all ok n h in omega arith)

pub where_all_pass : {E : Type 0} (l : List (Test E)) → AllPass l → Ok tt ≡ verdict l
where_all_pass [] p = refl
where_all_pass (fact ok f ∷ l) p = rw (p.0, ← where_all_pass l p.1)
where_all_pass (each_row ok f n ∷ l) p = rw (past ok n p.0, ← where_all_pass l p.1)

-- the first that fails is what is refused
abbrev pub Fails : {E : Type 0} → Test E → E → Type 0
Fails (fact ok f) g = (ok ≡ false) × (g ≡ f)
Fails (each_row ok f n) g = (first ok n 0 < n) × (g ≡ f (first ok n 0))

pub first_that_fails : {E : Type 0} (before : List (Test E)) (t : Test E) (rest : List (Test E)) (f : E) → AllPass before → Fails t f
    → Err f ≡ verdict (before ++ (t ∷ rest))
first_that_fails [] (fact ok f) rest g p q = rw (q.0, q.1)
first_that_fails [] (each_row ok f n) rest g p q = rw (lt-ltb (first ok n 0) n q.0, q.1)
first_that_fails (fact ok f ∷ l) t rest g p q = rw (p.0, ← first_that_fails l t rest g p.1 q)
first_that_fails (each_row ok f n ∷ l) t rest g p q = rw (past ok n p.0, ← first_that_fails l t rest g p.1 q)

-- of two lists one after the other, the second is looked at where the first passes
abbrev pub or_else : {E : Type 0} → Result (Unit {0}) E → Result (Unit {0}) E → Result (Unit {0}) E
or_else (Err f) next = Err f
or_else (Ok tt) next = next

pub joined : {E : Type 0} (a b : List (Test E)) → verdict (a ++ b) ≡ or_else (verdict a) (verdict b)
joined [] b = refl
joined (fact true f ∷ l) b = joined l b
joined (fact false f ∷ l) b = refl
joined (each_row ok f n ∷ l) b = go (ltb (first ok n 0) n) (joined l b)
  where
    go : (c : Bool) → verdict (l ++ b) ≡ or_else (verdict l) (verdict b)
        → cond c (Err (f (first ok n 0))) (verdict (l ++ b)) ≡ or_else (cond c (Err (f (first ok n 0))) (verdict l)) (verdict b)
    go true e = refl
    go false e = e
