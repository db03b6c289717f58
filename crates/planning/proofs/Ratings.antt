-- Which ratings are above 0 and finite: those of a design, of a larger bank, and of a bank anew.
-- What lies between two such figures is one; and a bank below a line's rate is raised to at most that rate.
use Rattle.std.proofs.Common.{◌≡◌, ℕ, zero, suc, ◌+◌, ◌*◌, ◌^◌, ◌<◌, ◌≤◌, max, Bool, true, false, cond, ◌&&◌, T, ltb, List, length, sym, refl, subst, zero-lt-suc, mul-pos, zero-mul, arith, lit≤, ltb→lt, lt→ltb, ltb-true, lt-ltb}
use lib.Ieee.Fits.{up_pos}
use lib.Ieee.{Float, nan, inf, fin, up, down, lt, le, of_bits}
use lib.Ieee.Positive.{positive, above, above_of_le, between}
use lib.Ieee.Scale.{finite as bounded}
use Rattle.loops.specs.Figures.{nought, thousandth, million, infinity, times, over, float, lesser, greater, inside}
use Rattle.loops.proofs.Bools.{is, no, both, and_of}
use Rattle.loops.proofs.Order.{upper, bounded_real, bounded_down, le_of_lt, le_of_not_lt, right_real}
use Rattle.loops.proofs.Real.{positive_of, positive_bounded}
use Rattle.loops.proofs.Most.{Most, most_bounded, times_most, over_most}
use Rattle.impedance.specs.Impedance.{rating_ok}
use Rattle.plan_defs.specs.Constants.{transformer_headroom, transformer_min_mva}
use Rattle.plan_defs.specs.Case.{Row, from_of, level_of, row_at}
use Rattle.plan_defs.specs.Design.{line_of, line_at, with_bank, set_transformer_mva, banked_by, steps_down, drawn, kept_by, kept_bank, fresh_bank}
use Rattle.plan_defs.specs.Build.{bank_of}
use Rattle.plan_defs.specs.declared.CircuitDesign.{CircuitDesign}
use Rattle.plan_defs.proofs.Rows.{row_from_lem}
use Rattle.planning.specs.Design.{lines_for, Lines, RatedDesign}
use Rattle.planning.proofs.Draws.{ends_fit, from_below}
use Rattle.planning.specs.Tables.{GridColumns}

-- ---- above 0 and finite, by the cases of a figure
some : (m u d : ℕ) → ltb (0 * d) (m * u * 1) ≡ true → 0 < m
some zero u d h = let l = ltb-true (0 * d) (zero * u * 1) h in let e : zero * u ≡ 0 = zero-mul u in absurd (omega arith)
some (suc m) u d h = zero-lt-suc m

pub rating_positive : (x : Float) → rating_ok x ≡ true → T (positive x)
unfolding lt of_bits
rating_positive nan h = absurd (no refl h)
rating_positive (inf true) h = absurd (no refl h)
rating_positive (inf false) h = absurd (no refl h)
rating_positive (fin true m e) h = absurd (no refl (both (lt nought (fin true m e)) (lt (fin true m e) infinity) h).0)
rating_positive (fin false m e) h = lt→ltb 0 m (some m (up e) (down e) (both (lt nought (fin false m e)) (lt (fin false m e) infinity) h).0)

pub positive_rating : (x : Float) → T (positive x) → rating_ok x ≡ true
unfolding lt of_bits
positive_rating nan p = absurd p
positive_rating (inf s) p = absurd p
positive_rating (fin true m e) p = absurd p
positive_rating (fin false m e) p =
    let l : 0 < m * up e * 1 = mul-pos (mul-pos (ltb→lt 0 m p) (up_pos e)) (zero-lt-suc 0) in
    let z : 0 * down e ≡ 0 = zero-mul (down e) in
    and_of (lt-ltb (0 * down e) (m * up e * 1) (omega arith)) refl

above_upper : (x : Float) → T (above x) → T (upper x)
above_upper nan p = p
above_upper (inf s) p = p
above_upper (fin s m e) p = tt

-- ---- a rating that is above one and at most another
pub kept_rating : (low x high : Float) → rating_ok low ≡ true → rating_ok high ≡ true → lt low (lesser x high) ≡ true → rating_ok (lesser x high) ≡ true
kept_rating low x high p q h = go (lt high x) refl h
  where
    b : T (bounded high)
    b = positive_bounded high (rating_positive high q)

    go : (t : Bool) → lt high x ≡ t → lt low (cond t high x) ≡ true → rating_ok (cond t high x) ≡ true
    go true e l = q
    go false e l =
        let a = above_of_le low x (rating_positive low p) (is (le_of_lt low x l)) in
        let m = le_of_not_lt high x (bounded_real high b) (right_real low x (le_of_lt low x l)) e in
        positive_rating x (positive_of x a (bounded_down x high (above_upper x a) m b))

-- ---- what document 01 lets the sheet hold
thousandth_rating : rating_ok thousandth ≡ true
unfolding lt of_bits
thousandth_rating = refl

million_rating : rating_ok million ≡ true
unfolding lt of_bits
million_rating = refl

pub sheet_rating : (x : Float) → inside thousandth million x ≡ true → rating_ok x ≡ true
sheet_rating x h =
    let p = both (le thousandth x) (le x million) h in
    positive_rating x
    (between thousandth x million (rating_positive thousandth thousandth_rating) (rating_positive million million_rating) (is p.0) (is p.1))

-- ---- a fresh bank
headroom_most : Most 2 transformer_headroom
unfolding of_bits
headroom_most = lit≤ tt

least_rating : rating_ok transformer_min_mva ≡ true
unfolding lt of_bits
least_rating = refl

pub fresh_rating : (N : ℕ) (load generation : Float) (shared : ℕ) → Most N load → Most N generation → N * 2 ≤ 2 ^ 53 → shared ≤ 2 ^ 53
    → rating_ok (fresh_bank load generation shared) ≡ true
fresh_rating N load generation shared p q l m = go (lt served transformer_min_mva) refl
  where
    larger : (t : Bool) → Most N (cond t generation load)
    larger true = q
    larger false = p

    served : Float
    served = over (times (greater load generation) transformer_headroom) (float (max shared 1))

    b : T (bounded served)
    b =
        most_bounded (N * 2) served
        (over_most (N * 2) (times (greater load generation) transformer_headroom) (max shared 1)
        (times_most N 2 (greater load generation) transformer_headroom (larger (lt load generation)) headroom_most l) (omega arith) (omega arith) l)

    low : T (bounded transformer_min_mva)
    low = positive_bounded transformer_min_mva (rating_positive transformer_min_mva least_rating)

    go : (t : Bool) → lt served transformer_min_mva ≡ t → rating_ok (cond t transformer_min_mva served) ≡ true
    go true e = least_rating
    go false e =
        let h = le_of_not_lt served transformer_min_mva (bounded_real served b) (bounded_real transformer_min_mva low) e in
        positive_rating served (positive_of served (above_of_le transformer_min_mva served (rating_positive transformer_min_mva least_rating) (is h)) b)

-- ---- a design's bank and its line's rate
module _ (grid : GridColumns) (level : List ℕ) (k : ℕ) (lines : Lines grid level) (h : k < length grid.a) where
  rate_ok : rating_ok (line_at (lines_for grid) level k).line_rate ≡ true
  unfolding line_at line_of row_at from_of
  rate_ok =
      let L = level_of (lines_for grid) level k in
      let q : L < length grid.ladder = lines.level_below _ (from_below grid level k (ends_fit grid level k lines h)) in
      subst (λ (w : Row). rating_ok w.rate ≡ true) (sym (row_from_lem (length grid.a) (0 + length grid.ladder) grid.sheet k L h (let z : L < 0 + length grid.ladder = omega (arith, q) in z)))
      (lines.rates k L h q)

  rated_by : (t : Bool) (mva : Float) → rating_ok mva ≡ true → RatedDesign (banked_by t (line_at (lines_for grid) level k) mva)
  unfolding set_transformer_mva with_bank line_at line_of
  rated_by true mva e = record { bank = λ t. e; line = rate_ok }
  rated_by false mva e = record { bank = λ t. absurd (no refl t); line = rate_ok }

  pub drawn_rated : (mva : Float) → rating_ok mva ≡ true → RatedDesign (drawn (lines_for grid) level k mva)
  unfolding drawn
  drawn_rated mva e = rated_by (steps_down (lines_for grid) level k) mva e

-- ---- a bank kept to its floor
pub kept_sound : (d : CircuitDesign) (floor : Float) → RatedDesign d → (d.is_transformer && lt d.transformer_mva (lesser floor d.line_rate)) ≡ true
    → rating_ok (lesser floor d.line_rate) ≡ true
kept_sound d floor r e =
    let p = both d.is_transformer (lt d.transformer_mva (lesser floor d.line_rate)) e in
    kept_rating d.transformer_mva floor d.line_rate (r.bank p.0) r.line p.1

pub anew_sound : (d : CircuitDesign) (floor : Float) → RatedDesign d → rating_ok (bank_of (kept_bank d floor)) ≡ true
unfolding set_transformer_mva with_bank
anew_sound d floor r = go (d.is_transformer && lt d.transformer_mva (lesser floor d.line_rate)) refl
  where
    own : (t : Bool) → d.is_transformer ≡ t → rating_ok (cond t d.transformer_mva d.line_rate) ≡ true
    own true e = r.bank e
    own false e = r.line

    go : (t : Bool) → (d.is_transformer && lt d.transformer_mva (lesser floor d.line_rate)) ≡ t
        → rating_ok (bank_of (kept_by t d (lesser floor d.line_rate))) ≡ true
    go true e = kept_sound d floor r e
    go false e = own d.is_transformer refl
