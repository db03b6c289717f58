-- Marks, and the raises of one bus after another: the levels and the count of the definition.
-- A bus that stays is set to its own level, so that every turn writes one more place and counts one more index.
use Rattle.std.proofs.Common.{◌≡◌, ℕ, ◌+◌, ◌<◌, ◌≤◌, min, Bool, true, false, cond, List, length, get_or, set, sym, refl, ap, ◌∙◌, subst, arith, le-ltb, lt-ltb}
use lib.Seq.{set-get_or}
use Rattle.loops.specs.Loops.{filled}
use Rattle.loops.proofs.Tab.{tab_same, tab_of, fill_turn, fill_end, fill_own}
use Rattle.plan_defs.specs.Lists.{counting}
use Rattle.plan_defs.specs.Case.{Case}
use Rattle.plan_defs.specs.Raise.{raise_of, marked, mark_bus, mark_both, top_of, can_raise, mark_if, raised_to, moves, raised_levels, moved_buses}
use Rattle.std.specs.Prelude.{Option, Some, None}
use Rattle.planning.specs.Design.{Lines}
use Rattle.planning.specs.RaiseMarks.{pairs_for}
use Rattle.plan_defs.proofs.Lists.{count_more, count_most}
use Rattle.plan_defs.proofs.Rising.{raised_le, length_raised, raised_at}
use Rattle.planning.proofs.Lists.{count_zero}
use Rattle.planning.specs.Tables.{GridColumns}

-- ---- marks

pub mark_both_is : (t i j : ℕ) (marks : List ℕ) (x y : ℕ) → x ≡ marked (get_or marks i 0) t → y ≡ marked (get_or (set marks i x) j 0) t
    → set (set marks i x) j y ≡ mark_both t i j marks
unfolding mark_both
mark_both_is t i j marks x y p q = ap (set (set marks i x) j) q ∙ ap (λ (z : ℕ). mark_bus t j (set marks i z)) p

-- ---- a corridor's ends
module _ (level a b : List ℕ) (k top i j tier : ℕ) (pi : i ≡ get_or a k 0) (pj : j ≡ get_or b k 0) (pt : tier ≡ min (get_or level i 0) (get_or level j 0)) where
  top_is : tier ≡ top_of (pairs_for a b) level k
  top_is = pt ∙ ap (λ (z : ℕ). min (get_or level z 0) (get_or level j 0)) pi ∙ ap (λ (z : ℕ). min (get_or level (get_or a k 0) 0) (get_or level z 0)) pj

  pub cannot_raise : tier ≤ top → false ≡ can_raise (pairs_for a b) level top k
  cannot_raise h = sym (le-ltb top (top_of (pairs_for a b) level k) (omega (arith, h, top_is)))

  pub unmarked : (marks : List ℕ) → tier ≤ top → marks ≡ mark_if (can_raise (pairs_for a b) level top k) (pairs_for a b) level k marks
  unmarked marks h = ap (λ (t : Bool). mark_if t (pairs_for a b) level k marks) (cannot_raise h)

-- of a whole case
pub mark_lifts : (c : Case) (level : List ℕ) (t : Bool) (k : ℕ) (marks : List ℕ) → mark_if t (pairs_for c.a c.b) level k marks ≡ mark_if t c level k marks
mark_lifts c level true k marks = refl
mark_lifts c level false k marks = refl

-- ---- raises
module _ (marks level₀ : List ℕ) where
  -- where bus i goes, and whether it moves
  abbrev pub goes : ℕ → ℕ
  goes i = raised_to (get_or level₀ i 0) (raise_of (get_or marks i 0))

  abbrev pub moving : ℕ → Bool
  moving i = moves (get_or level₀ i 0) (raise_of (get_or marks i 0))

  module _ (level : List ℕ) (i : ℕ) (r : Option ℕ) (h : i < length level₀) (e : level ≡ filled level₀ goes i) (p : r ≡ raise_of (get_or marks i 0)) where
    own : get_or level i 0 ≡ get_or level₀ i 0
    own = fill_own level₀ level goes i 0 e h

    goes_is : raised_to (get_or level i 0) r ≡ goes i
    goes_is = ap (λ (l : ℕ). raised_to l r) own ∙ ap (raised_to (get_or level₀ i 0)) p

    moving_is : moves (get_or level i 0) r ≡ moving i
    moving_is = ap (λ (l : ℕ). moves l r) own ∙ ap (moves (get_or level₀ i 0)) p

    kept_at : moves (get_or level i 0) r ≡ false → get_or level i 0 ≡ raised_to (get_or level i 0) r
    kept_at = go r
      where
        go : (r : Option ℕ) → moves (get_or level i 0) r ≡ false → get_or level i 0 ≡ raised_to (get_or level i 0) r
        go None f = refl
        go (Some t) f = sym (ap (λ (b : Bool). cond b t (get_or level i 0)) f)

    pub stays_filled : moves (get_or level i 0) r ≡ false → level ≡ filled level₀ goes (i + 1)
    stays_filled f = sym (set-get_or level i 0) ∙ fill_turn level₀ level goes i (get_or level i 0) e h (kept_at f ∙ goes_is)

    pub stays_counted : (n : ℕ) → moves (get_or level i 0) r ≡ false → n ≡ counting moving i → n ≡ counting moving (i + 1)
    stays_counted n f q =
        let x = count_more moving i ∙ ap (λ (b : Bool). counting moving i + cond b 1 0) (sym moving_is ∙ f) in
        omega arith

    module _ (t : ℕ) (w : r ≡ Some t) (l : t < get_or level i 0) where
      moves_on : moves (get_or level i 0) r ≡ true
      moves_on = ap (moves (get_or level i 0)) w ∙ lt-ltb t (get_or level i 0) l

      pub moves_filled : set level i t ≡ filled level₀ goes (i + 1)
      moves_filled =
          fill_turn level₀ level goes i t e h
          (sym (ap (raised_to (get_or level i 0)) w ∙ ap (λ (b : Bool). cond b t (get_or level i 0)) (lt-ltb t (get_or level i 0) l)) ∙ goes_is)

      pub moves_counted : (n : ℕ) → n ≡ counting moving i → n + 1 ≡ counting moving (i + 1)
      moves_counted n q =
          let x = count_more moving i ∙ ap (λ (b : Bool). counting moving i + cond b 1 0) (sym moving_is ∙ moves_on) in
          omega arith

  -- ---- at the end, and the most that can move
  pub raised_levels_lem : (level : List ℕ) (i : ℕ) → i ≡ length level₀ → level ≡ filled level₀ goes i → level ≡ raised_levels level₀ marks
  unfolding raised_levels
  raised_levels_lem level i e p = fill_end level₀ level goes i (length level₀) refl e p

  pub raised_count : (n i : ℕ) → i ≡ length level₀ → n ≡ counting moving i → n ≡ moved_buses level₀ marks
  unfolding moved_buses
  raised_count n i e p = p ∙ ap (counting moving) e

  pub moved_most : moved_buses level₀ marks ≤ length level₀
  unfolding moved_buses
  moved_most = count_most moving (length level₀) 0

pub moved_within : (level marks : List ℕ) (n few : ℕ) → n ≡ moved_buses level marks → length level ≤ few → n ≤ few
moved_within level marks n few e h = omega (arith, e, h, moved_most marks level)

pub stay_moves : (l : ℕ) (r : Option ℕ) → r ≡ None → moves l r ≡ false
stay_moves l r e = ap (moves l) e

pub low_moves : (l t : ℕ) (r : Option ℕ) → r ≡ Some t → l ≤ t → moves l r ≡ false
low_moves l t r e h = ap (moves l) e ∙ le-ltb t l h

-- ---- the levels afterwards: none higher
raised_most : (level marks : List ℕ) (i : ℕ) → i < length level → get_or (raised_levels level marks) i 0 ≤ get_or level i 0
raised_most level marks i h = subst (λ (n : ℕ). n ≤ get_or level i 0) (sym (raised_at level marks i h)) (raised_le (get_or level i 0) (raise_of (get_or marks i 0)))

-- and the same where none moved
stays_to : (l : ℕ) (r : Option ℕ) → moves l r ≡ false → raised_to l r ≡ l
stays_to l None e = refl
stays_to l (Some t) e = ap (λ (b : Bool). cond b t l) e

pub none_raised : (level marks : List ℕ) → moved_buses level marks ≡ 0 → raised_levels level marks ≡ level
unfolding moved_buses raised_levels
none_raised level marks e =
    tab_same (length level) (goes marks level) (λ i. get_or level i 0)
    (λ i h. stays_to (get_or level i 0) (raise_of (get_or marks i 0)) (count_zero (moving marks level) (length level) 0 e i (omega arith) (omega arith)))
    ∙ tab_of (length level) level 0 refl

-- so that the lines stay as they must be
pub lines_raised : (grid : GridColumns) (level : List ℕ) (marks : List ℕ) → Lines grid level
    → Lines grid (raised_levels level marks)
lines_raised grid level marks lines =
    let n = length_raised level marks in
    record {
      b_size = lines.b_size;
      km_size = lines.km_size;
      share_size = lines.share_size;
      sheet_size = lines.sheet_size;
      a_below = λ k h. omega (arith, lines.a_below k h, n);
      b_below = λ k h. omega (arith, lines.b_below k h, n);
      level_below = λ i h. let w : i < length level = omega (arith, h, n) in omega (arith, raised_most level marks i w, lines.level_below i w);
      rates = lines.rates;
    }
