-- Tests of the code, as what the definitions ask of them, and what a corridor that passes its test has.
-- By the values of the tests.
use mathlib.Core.Path.{◌≡◌, refl, sym, ap, ◌∙◌}
use mathlib.Core.Bool.{Bool, true, false, not, ◌&&◌, ◌||◌}
use mathlib.Core.List.{List}
use Prim.Native.Nat.{ℕ, ◌<◌}
use native.Mathlib.Omega.{arith}
use borrow.Author.Tests.{ne_eqb, eqb-false, ltb-true, not-true}
use lib.Dec.{eqb, ltb}
use lib.ListN.{length, get_or, set, get_or-map}
use lib.Ieee.{Float, lt, le}
use Rattle.loops.specs.Figures.{at, plus, inside, nought, ten_thousand, infinity}
use Rattle.loops.proofs.Bools.{both, unequal}
use Rattle.std.specs.Prelude.{Option, Some, None}
use Rattle.std.specs.Option.{ForSome}
use Rattle.placement_defs.specs.Request.{Net, corridor_ok}
use Rattle.std.proofs.lemmas.List.{map-set, get_or_default, length-map}
use Rattle.placement.specs.declared.labels.Mark.{Mark}
use Rattle.placement.specs.declared.labels.Mark.TheVariants.{Rest, Candidate, Settled}
use Rattle.placement.specs.Marks.{mark_of, marks_in, origin_of, origins_in}
use Rattle.placement_defs.specs.Distance.{Labels, candidate, nobody, shortens, far_end, considered, offered, reached}

-- a choice that is a bus
pub some_chosen : (best n : ℕ) → best < n → eqb best n ≡ false
some_chosen best n h = ne_eqb best n (λ e. omega arith)

pub none_below : (n : ℕ) → ForSome {T = ℕ} None (λ b. b < n)
none_below n b e = absurd (unequal cc)

pub some_below : (n x : ℕ) → x < n → ForSome (Some x) (λ b. b < n)
some_below n x h b e = let z : x ≡ b = cc in omega arith

-- loaded and reached, by a test against a result that is infinity
pub reached_no : (l d r : Float) → r ≡ infinity → (lt nought l && lt d r) ≡ false → (lt nought l && lt d infinity) ≡ false
reached_no l d r e t = ap (λ (x : Float). lt nought l && lt d x) (sym e) ∙ t

pub reached_yes : (l d r : Float) → r ≡ infinity → (lt nought l && lt d r) ≡ true → (lt nought l && lt d infinity) ≡ true
reached_yes l d r e t = ap (λ (x : Float). lt nought l && lt d x) (sym e) ∙ t

-- ---- a mark, as the definition numbers it
pub marked_other : (m : Mark) → (m ≡ Candidate → ⊥) → eqb (mark_of m) candidate ≡ false
marked_other Rest d = refl
marked_other Candidate d = absurd (d refl)
marked_other Settled d = refl

pub mark_at : (l : List Mark) (i : ℕ) → get_or (marks_in l) i 0 ≡ mark_of (get_or l i Rest)
mark_at l i = get_or-map mark_of l i Rest

pub mark_set : (l : List Mark) (i : ℕ) (m : Mark) → marks_in (set l i m) ≡ set (marks_in l) i (mark_of m)
mark_set l i m = map-set mark_of l i m

-- ---- and the source that a bus comes from
pub origin_at : (l : List (Option ℕ)) (i : ℕ) → i < length l → get_or (origins_in l) i 0 ≡ origin_of (get_or l i None)
origin_at l i h = get_or_default (origins_in l) i 0 nobody (let e = length-map l origin_of in omega arith) ∙ get_or-map origin_of l i None

pub origin_set : (l : List (Option ℕ)) (i : ℕ) (o : Option ℕ) → origins_in (set l i o) ≡ set (origins_in l) i (origin_of o)
origin_set l i o = map-set origin_of l i o

-- ---- a corridor considered
module _ (i a b : ℕ) (km : Float) (s : Labels) where
  module _ (j : ℕ) (r : Bool) (t : (eqb a i || eqb b i) ≡ true) (e : j ≡ far_end a b i)
      (q : r ≡ shortens (get_or s.mark j 0) (plus (at s.dist i) km) (at s.dist j)) where
    pub consider_rejected : r ≡ false → s ≡ considered i a b km s
    unfolding considered offered
    consider_rejected u = rw (t, ← e, ← q, u)

    pub consider_taken : r ≡ true → reached j (plus (at s.dist i) km) (get_or s.from i 0) s ≡ considered i a b km s
    unfolding considered offered
    consider_taken u = rw (t, ← e, ← q, u)

-- ---- a corridor that passes
pub record Ends (n a b : ℕ) (km : Float) : Type 0 where
  pub a_below : a < n
  pub b_below : b < n
  pub two : a ≡ b → ⊥
  pub low : le nought km ≡ true
  pub high : le km ten_thousand ≡ true

ends_of_lem : (n a b : ℕ) (km : Float) → corridor_ok n a b km ≡ true → Ends n a b km
ends_of_lem n a b km e =
    let h1 = both (ltb a n && ltb b n && not (eqb a b)) (inside nought ten_thousand km) e in
    let h2 = both (ltb a n && ltb b n) (not (eqb a b)) h1.0 in
    let h3 = both (ltb a n) (ltb b n) h2.0 in
    let l = both (le nought km) (le km ten_thousand) h1.1 in
    record { a_below = ltb-true a n h3.0; b_below = ltb-true b n h3.1; two = eqb-false a b (not-true (eqb a b) h2.1); low = l.0; high = l.1 }

pub net_ends : {n m : ℕ} {a b : List ℕ} {km : List Float} → Net n m a b km → (c : ℕ) → c < m → Ends n (get_or a c 0) (get_or b c 0) (at km c)
net_ends {n} {m} {a} {b} {km} w c h = ends_of_lem n (get_or a c 0) (get_or b c 0) (at km c) (w.ends c h)
