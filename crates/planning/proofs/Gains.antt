-- Which corridors are stiffened: the order that code makes of a list of gains is the defined one, and what it takes of it is the defined batch.
-- A gain is made of its corridor, so that a list of gains is a list of corridors with the same insertions; a batch goes by what is left of it.
use Rattle.std.proofs.Common.{◌≡◌, ℕ, zero, suc, ◌+◌, ◌-◌, ◌<◌, ◌≤◌, Bool, true, false, List, [], ◌∷◌, ◌++◌, map, length, get_or, take, drop, sym, refl, ap, ◌∙◌, append-nil, add-one, arith, drop_of_length-le, drop-cons, take-suc, All, insert, not-suc-le-zero}
use lib.Seq.{append_snoc}
use lib.Ieee.{Float, lt}
use Rattle.loops.specs.Figures.{at, plus, nought}
use Rattle.loops.specs.Loops.{iter}
use Rattle.loops.proofs.Inserted.{inserted_all, inserted_more, inserted_map}
use Rattle.loops.proofs.Loops.{gap, none, iter_last, iter_carries}
use Rattle.plan_defs.specs.Lists.{keep, pass_from, passing}
use Rattle.plan_defs.specs.Design.{design}
use Rattle.plan_defs.specs.Stiffen.{Gain, gain_of, larger, insert_if, insert_gain, gains, batch_if, batch}
use Rattle.plan_defs.specs.declared.CircuitDesign.{CircuitDesign}
use Rattle.planning.proofs.Inserting.{place_in, inserted_is}
use Rattle.planning.specs.Stiffen.{gain_if, gains_more, insert_where, gain_next, gain_order, gain_for}
use Rattle.planning.proofs.ToppingUp.{no_less}

module _ (gain : List Float) where
  abbrev gainers : List ℕ → List Gain
  gainers l = map (gain_for gain) l

  -- ---- the order
  next_by_lem : (b : Bool) (k : ℕ) (l : List ℕ) → insert_if b (gain_for gain k) (gainers l) ≡ gainers (insert_where b (gains_more gain) k l)
  next_by_lem true k l = inserted_map (gain_for gain) larger k l
  next_by_lem false k l = refl

  next_is : (k : ℕ) (x : Float) (l : List ℕ) → at gain k ≡ x → insert_gain (record { gain = x; corridor = k }) (gainers l) ≡ gainers (gain_next gain k l)
  next_is k x l e = ap (λ (y : Float). insert_gain (record { gain = y; corridor = k }) (gainers l)) (sym e) ∙ next_by_lem (lt nought (at gain k)) k l

  -- one without a gain is passed over
  idle_is : (k : ℕ) (l : List ℕ) → at gain k ≡ nought → l ≡ gain_next gain k l
  idle_is k l e = ap (λ (b : Bool). insert_where b (gains_more gain) k l) (sym (ap (λ (x : Float). lt nought x) e ∙ no_less))

  module _ (ds : List CircuitDesign) (theta phi : List Float) (p : ℕ → Bool) where
    abbrev Filled : ℕ → Type 0
    Filled k = at gain k ≡ gain_if (p k) (gain_of theta phi (design ds k))

    gains_from : (d i : ℕ) (l : List ℕ) → ((k : ℕ) → i ≤ k → k < i + d → Filled k) → gains ds theta phi (pass_from p d i) (gainers l) ≡ gainers (iter (gain_next gain) d i l)
    unfolding gains pass_from iter
    gains_from zero i l h = refl
    gains_from (suc d) i l h =
        go (p i) (h i (omega arith) (omega arith)) (λ r. gains_from d (suc i) r (λ k v w. h k (omega arith) (omega arith)))
      where
        go : (b : Bool) → at gain i ≡ gain_if b (gain_of theta phi (design ds i)) → ((r : List ℕ) → gains ds theta phi (pass_from p d (suc i)) (gainers r) ≡ gainers (iter (gain_next gain) d (suc i) r))
            → gains ds theta phi (keep b i (pass_from p d (suc i))) (gainers l) ≡ gainers (iter (gain_next gain) d (suc i) (gain_next gain i l))
        go true e rest = ap (gains ds theta phi (pass_from p d (suc i))) (next_is i (gain_of theta phi (design ds i)) l e) ∙ rest (gain_next gain i l)
        go false e rest = rest l ∙ ap (λ (r : List ℕ). gainers (iter (gain_next gain) d (suc i) r)) (idle_is i l e)

    pub gains_are : (m : ℕ) → ((k : ℕ) → k < m → Filled k) → gains ds theta phi (passing p m) [] ≡ gainers (gain_order gain m)
    unfolding gain_order
    gains_are m h = gains_from m 0 [] (λ k v w. h k (omega arith))

  -- ---- what is taken of an order: j so far, and what is left to take
  module _ (order : List ℕ) (most : ℕ) (excess : Float) where
    abbrev rest : ℕ → List Gain
    rest j = gainers (drop j order)

    unfoldable pub taking : ℕ → Float → List ℕ
    taking j covered = take j order ++ batch (most - j) covered excess (rest j)

    pub take_start : taking 0 nought ≡ batch most nought excess (gainers order)
    unfolding taking
    take_start = let z : most - 0 ≡ most = omega arith in ap (λ (n : ℕ). batch n nought excess (gainers order)) z

    rest_cons : (j : ℕ) → j < length order → rest j ≡ gain_for gain (get_or order j 0) ∷ rest (j + 1)
    rest_cons j h =
        ap gainers (drop-cons order j 0 h) ∙ ap (λ (n : ℕ). gain_for gain (get_or order j 0) ∷ rest n) (sym (add-one j))

    step : (j : ℕ) (covered : Float) → j < length order → j < most
        → taking j covered ≡ take j order ++ batch_if (lt covered excess) (get_or order j 0) (batch (most - (j + 1)) (plus covered (at gain (get_or order j 0))) excess (rest (j + 1)))
    unfolding taking batch
    step j covered h v =
        ap (λ (n : ℕ). take j order ++ batch n covered excess (rest j)) (gap most j v)
        ∙ ap (λ (l : List Gain). take j order ++ batch (suc (most - (j + 1))) covered excess l) (rest_cons j h)

    pub take_turn : (j k : ℕ) (covered covered' : Float) → j < length order → j < most → lt covered excess ≡ true → k ≡ get_or order j 0 → covered' ≡ plus covered (at gain k)
        → taking (j + 1) covered' ≡ taking j covered
    unfolding taking
    take_turn j k covered covered' h v e pk pc =
        let n = get_or order j 0 in
        let r : Float → List ℕ = λ x. batch (most - (j + 1)) x excess (rest (j + 1)) in
        let x : covered' ≡ plus covered (at gain n) = pc ∙ ap (λ (i : ℕ). plus covered (at gain i)) pk in
        ap (λ (y : Float). take (j + 1) order ++ r y) x
        ∙ ap (λ (i : ℕ). take i order ++ r (plus covered (at gain n))) (add-one j)
        ∙ ap (λ (l : List ℕ). l ++ r (plus covered (at gain n))) (take-suc order j 0 h)
        ∙ append_snoc (take j order) n (r (plus covered (at gain n)))
        ∙ ap (λ (b : Bool). take j order ++ batch_if b n (r (plus covered (at gain n)))) (sym e)
        ∙ sym (step j covered h v)

    -- it ends at the most, at what is covered, or with the order
    pub take_most : (j : ℕ) (covered : Float) → most ≤ j → taking j covered ≡ take j order
    unfolding taking batch
    take_most j covered h = ap (λ (n : ℕ). take j order ++ batch n covered excess (rest j)) (none most j h) ∙ append-nil (take j order)

    pub take_covered : (j : ℕ) (covered : Float) → j < length order → j < most → lt covered excess ≡ false → taking j covered ≡ take j order
    take_covered j covered h v e =
        step j covered h v
        ∙ ap (λ (b : Bool). take j order ++ batch_if b (get_or order j 0) (batch (most - (j + 1)) (plus covered (at gain (get_or order j 0))) excess (rest (j + 1)))) e
        ∙ append-nil (take j order)

    batch_none : (n : ℕ) (covered : Float) → batch n covered excess [] ≡ []
    unfolding batch
    batch_none zero covered = refl
    batch_none (suc n) covered = refl

    pub take_all_of : (j : ℕ) (covered : Float) → length order ≤ j → taking j covered ≡ take j order
    unfolding taking
    take_all_of j covered h =
        ap (λ (l : List ℕ). take j order ++ batch (most - j) covered excess (gainers l)) (drop_of_length-le order h)
        ∙ ap (λ (l : List ℕ). take j order ++ l) (batch_none (most - j) covered)
        ∙ append-nil (take j order)

  -- ---- code puts k at its place
  pub next_gains : (k : ℕ) (l : List ℕ) → lt nought (at gain k) ≡ true → insert l (place_in (gains_more gain k) l) k ≡ gain_next gain k l
  next_gains k l e = inserted_is (gains_more gain) k l ∙ ap (λ (b : Bool). insert_where b (gains_more gain) k l) (sym e)

  -- ---- an order names corridors below m, each once at most
  abbrev Named : ℕ → List ℕ → Type 0
  Named m l = (length l ≤ m) × All (λ (j : ℕ). j < m) l

  next_named : (k : ℕ) (l : List ℕ) → Named k l → Named (suc k) (gain_next gain k l)
  next_named k l a = go (lt nought (at gain k))
    where
      later : All (λ (j : ℕ). j < suc k) l
      later = λ j d h. let w = a.1 j d h in omega arith

      go : (b : Bool) → Named (suc k) (insert_where b (gains_more gain) k l)
      go true = (omega (arith, a.0, inserted_more (gains_more gain) k l), inserted_all (gains_more gain) (λ (j : ℕ). j < suc k) k l (omega arith) later)
      go false = (omega (arith, a.0), later)

  pub order_named : (m : ℕ) → Named m (gain_order gain m)
  unfolding gain_order
  order_named m = iter_carries (gain_next gain) Named m (λ k l h a. next_named k l a) m 0 [] (omega arith) (omega arith, λ j d h. absurd (not-suc-le-zero h))

  pub order_start : [] ≡ gain_order gain 0
  unfolding gain_order iter
  order_start = refl

  pub order_next : (m : ℕ) → gain_next gain m (gain_order gain m) ≡ gain_order gain (m + 1)
  unfolding gain_order
  order_next m = let e : 0 + m ≡ m = omega arith in ap (λ (k : ℕ). gain_next gain k (iter (gain_next gain) m 0 [])) (sym e) ∙ sym (iter_last (gain_next gain) m 0 []) ∙ ap (λ (n : ℕ). iter (gain_next gain) n 0 []) (sym (add-one m))

-- ---- a candidate
