-- The theorems of document 02's K3: the figures of a season that was fed any plans are those of the list of plans taken, and where none is
-- refused the order of feeding changes no figure.
use Prim.Native.Nat.{ℕ, suc, ◌+◌, ◌≤◌, ◌<◌}
use mathlib.Core.Bool.{Bool, true, false, cond}
use mathlib.Core.List.{List, [], ◌∷◌, ◌++◌, append-nil}
use mathlib.Core.Logic.{◌⊎◌, inl, inr}
use mathlib.Core.Path.{◌≡◌, refl, sym, ap, ◌∙◌, subst}
use native.Mathlib.Omega.{arith}
use borrow.Author.Tests.{eqb-true, eq-eqb, ltb-true, ltb-false, lt-ltb, le-ltb}
use lib.Dec.{eqb, ltb}
use lib.ListN.{length, get_or}
use Rattle.loops.specs.Loops.{tab}
use Rattle.loops.proofs.Bools.{either, or_right}
use Rattle.loops.proofs.Tab.{get_tab}
use Rattle.season_defs.specs.Terms.{lowest}
use Rattle.season_defs.specs.Plans.{Draft, total, greatest, least, least_from, mean, circuits_at, column, figures_at, figures_over, Reordered, none, keep, swap, then}
use Rattle.season_defs.specs.Feeding.{most_plans, most_corridors, largest, begun, even_with, with_plan, Outcome, no_figures, corridor_figures, season_figures, said, after, fed_all, taken_if, taken, AllTaken, Held, AllHeld, Alike}
use Rattle.season_defs.specs.declared.Season.{Season}
use Rattle.season_defs.proofs.Checks.{Passed, passed, accepts, fed_taken, fed_refused}
use Rattle.season_defs.proofs.Order.{same, back, to_front, same_length, first_anywhere, same_at, same_over}
use Rattle.season_defs.proofs.Taking.{corridors_of_lem, season_of, none_taken, column_more, column_past, mapped_length, one_more_lem}
use Rattle.std.specs.Prelude.{Err, Ok, Result}
use Rattle.refusal.specs.declared.Refusal.{Refusal}
use Rattle.refusal.specs.Reply.{no_refusal}

-- ---- plans of n corridors each
pub record Sound (n : ℕ) (p : Draft) : Type 0 where
  pub count : p.corridors ≡ n
  pub size : length p.circuits ≡ p.corridors
  pub few : p.corridors ≤ most_corridors
  pub held : Held p

abbrev AllSound : ℕ → List Draft → Type 0
AllSound n [] = Unit
AllSound n (p ∷ ps) = Sound n p × AllSound n ps

all_held : (n : ℕ) (ps : List Draft) → AllSound n ps → AllHeld ps
all_held n [] h = tt
all_held n (p ∷ ps) h = (h.0.held, all_held n ps h.1)

-- what is true of the plans taken
record Good (ps : List Draft) : Type 0 where
  sound : AllSound (corridors_of_lem ps) ps
  few : length ps ≤ most_plans

-- ---- their figures
column_whole : (n k : ℕ) (ps : List Draft) → AllSound n ps → k < n → length (column k ps) ≡ length ps
unfolding column
column_whole n k [] h b = refl
column_whole n k (p ∷ ps) h b =
    ap (λ (t : Bool). length (cond t (circuits_at k p ∷ column k ps) (column k ps))) (lt-ltb k p.corridors (omega (arith, h.0.count)))
    ∙ ap suc (column_whole n k ps h.1 b)

column_none : (n k : ℕ) (ps : List Draft) → AllSound n ps → n ≤ k → column k ps ≡ []
column_none n k [] h b = unfold column in refl
column_none n k (p ∷ ps) h b = sym (column_past k p ps (omega (arith, h.0.count))) ∙ column_none n k ps h.1 b

bounded : (x : ℕ) (xs : List ℕ) → x ≤ largest → least_from x xs ≤ largest
unfolding least_from
bounded x [] h = h
bounded x (y ∷ xs) h = let b = bounded x xs h in omega arith

least_is : (x : ℕ) (xs : List ℕ) → x ≤ largest → least_from largest (x ∷ xs) ≡ least (x ∷ xs)
unfolding least
least_is x xs h = first_anywhere largest x xs ∙ kept
  where
    kept : least_from x (largest ∷ xs) ≡ least_from x xs
    kept = unfold least_from in let b = bounded x xs h in omega arith

at_none : (k : ℕ) → no_figures ≡ figures_at [] k
unfolding figures_at column least greatest mean lowest total
at_none k = refl

-- at an index past the corridors there is no column
at_past : (p : Draft) (ps : List Draft) (k : ℕ) → Good (p ∷ ps) → p.corridors ≤ k → corridor_figures (season_of (p ∷ ps)) k ≡ figures_at (p ∷ ps) k
unfolding corridor_figures season_of
at_past p ps k g b = rw (lt-ltb 0 (suc (length ps)) (omega arith), le-ltb k p.corridors b) (at_none k) ∙ empty
  where
    empty : figures_at [] k ≡ figures_at (p ∷ ps) k
    empty = unfold figures_at column in rw (column_none p.corridors k (p ∷ ps) g.sound b)

at_within : (p : Draft) (ps : List Draft) (k : ℕ) → Good (p ∷ ps) → k < p.corridors → corridor_figures (season_of (p ∷ ps)) k ≡ figures_at (p ∷ ps) k
unfolding corridor_figures season_of figures_at mean
at_within p ps k g b =
    let few = g.sound.0.few in
    let w : k < most_corridors = omega arith in
    rw (lt-ltb 0 (suc (length ps)) (omega arith), lt-ltb k p.corridors b, lt-ltb k most_corridors w, the_least w, get_tab most_corridors (λ j. greatest (column j (p ∷ ps))) k 0 w, get_tab most_corridors (λ j. total (column j (p ∷ ps))) k 0 w, column_whole p.corridors k (p ∷ ps) g.sound b)
  where
    the_column : circuits_at k p ∷ column k ps ≡ column k (p ∷ ps)
    the_column = column_more k p ps b

    the_least : k < most_corridors → get_or (tab most_corridors (λ j. least_from largest (column j (p ∷ ps)))) k 0 ≡ least (column k (p ∷ ps))
    the_least w =
        get_tab most_corridors (λ j. least_from largest (column j (p ∷ ps))) k 0 w
        ∙ ap (least_from largest) (sym the_column)
        ∙ least_is (circuits_at k p) (column k ps) (g.sound.0.held.circuits k)
        ∙ ap least the_column

figures_at_lem : (ps : List Draft) (k : ℕ) → Good ps → corridor_figures (season_of ps) k ≡ figures_at ps k
figures_at_lem [] k g = unfold corridor_figures season_of in at_none k
figures_at_lem (p ∷ ps) k g = go (ltb k p.corridors) refl
  where
    go : (t : Bool) → ltb k p.corridors ≡ t → corridor_figures (season_of (p ∷ ps)) k ≡ figures_at (p ∷ ps) k
    go true e = at_within p ps k g (ltb-true _ _ e)
    go false e = at_past p ps k g (ltb-false _ _ e)

figures_over_lem : (ps : List Draft) → season_figures (season_of ps) ≡ figures_over ps
unfolding season_figures season_of figures_over mean
figures_over_lem ps = sym (rw (mapped_length (λ (p : Draft). p.rounds) ps, mapped_length (λ (p : Draft). cond p.converged 1 0) ps))

-- ---- one plan fed
more_good : (p : Draft) (qs : List Draft) → Good qs → Held p → Passed (season_of qs) p.corridors (length p.circuits) → Good (p ∷ qs)
unfolding season_of
more_good p [] g h e = record { sound = (record { count = refl; size = e.size; few = e.few; held = h }, tt); few = omega arith }
more_good p (q ∷ qs) g h e = go (either _ _ e.even)
  where
    go : (eqb (suc (length qs)) 0 ≡ true) ⊎ (eqb p.corridors q.corridors ≡ true) → Good (p ∷ q ∷ qs)
    go (inl z) = absurd (let y : suc (length qs) ≡ 0 = eqb-true _ _ z in omega arith)
    go (inr z) =
        let m = eqb-true _ _ z in
        record {
          sound = (record { count = refl; size = e.size; few = e.few; held = h }, subst (λ (n : ℕ). AllSound n (q ∷ qs)) (sym m) g.sound);
          few = let r = e.room in omega arith;
        }

go_on : (s : Season) (p : Draft) (qs : List Draft) → s ≡ season_of qs → Good qs → Held p → said s p ≡ no_refusal → (after s p ≡ season_of (p ∷ qs)) × Good (p ∷ qs)
go_on s p qs e g h a =
    let c = passed (season_of qs) p.corridors (length p.circuits) (ap (λ (z : Season). said z p) (sym e) ∙ a) in (
      ap (λ (o : Outcome). o.season) (fed_taken s p a) ∙ ap (λ (z : Season). with_plan z p) e ∙ one_more_lem p qs c.size c.few (h, all_held _ qs g.sound) (room_of c),
      more_good p qs g h c,
    )
  where
    room_of : Passed (season_of qs) p.corridors (length p.circuits) → length qs < most_plans
    room_of c = unfold season_of in c.room

-- ---- all of a list
abbrev Follows : List Draft → Season → List Draft → Type 0
Follows ps s qs = (fed_all s ps ≡ season_of (taken s qs ps)) × Good (taken s qs ps)

follow : (p : Draft) (ps : List Draft) (s : Season) (qs : List Draft) → s ≡ season_of qs → Good qs → Held p
    → ((t : Season) (rs : List Draft) → t ≡ season_of rs → Good rs → Follows ps t rs) → (a : Result (Unit {0}) Refusal) → said s p ≡ a → Follows ps (after s p) (taken_if a p qs)
follow p ps s qs e g h next (Ok tt) a = let n = go_on s p qs e g h a in next (after s p) (p ∷ qs) n.0 n.1
follow p ps s qs e g h next (Err f) a = next (after s p) qs (ap (λ (o : Outcome). o.season) (fed_refused s p f a) ∙ e) g

follows : (ps : List Draft) (s : Season) (qs : List Draft) → s ≡ season_of qs → Good qs → AllHeld ps → Follows ps s qs
unfolding fed_all taken
follows [] s qs e g h = (e, g)
follows (p ∷ ps) s qs e g h = follow p ps s qs e g h.0 (λ t rs d k. follows ps t rs d k h.1) (said s p) refl

begin_good : Good []
begin_good = record { sound = tt; few = omega arith }

module _ (ps : List Draft) (h : AllHeld ps) where
  fed : Follows ps begun []
  fed = follows ps begun [] none_taken begin_good h

  -- each figure is that of the list of plans taken
  pub at_each : (k : ℕ) → corridor_figures (fed_all begun ps) k ≡ figures_at (taken begun [] ps) k
  at_each k = ap (λ (s : Season). corridor_figures s k) fed.0 ∙ figures_at_lem (taken begun [] ps) k fed.1

  pub over_all : season_figures (fed_all begun ps) ≡ figures_over (taken begun [] ps)
  over_all = ap season_figures fed.0 ∙ figures_over_lem (taken begun [] ps)

-- ---- another order
reordered : (ps : List Draft) (s : Season) (qs : List Draft) → AllTaken s ps → Reordered (taken s qs ps) (ps ++ qs)
unfolding taken
reordered [] s qs h = same qs
reordered (p ∷ ps) s qs h =
    subst (λ (a : Result (Unit {0}) Refusal). Reordered (taken (after s p) (taken_if a p qs) ps) (p ∷ (ps ++ qs))) (sym h.0)
    (then (reordered ps (after s p) (p ∷ qs) h.1) (to_front p ps qs))

sound_too : (n : ℕ) {ps qs : List Draft} → Reordered ps qs → AllSound n ps → AllSound n qs
sound_too n none h = tt
sound_too n (keep r) h = (h.0, sound_too n r h.1)
sound_too n swap h = (h.1.0, (h.0, h.1.1))
sound_too n (then r s) h = sound_too n s (sound_too n r h)

even_with_lem : (n : ℕ) (p : Draft) (qs : List Draft) → Sound n p → AllSound n qs → even_with (season_of qs) p.corridors ≡ true
unfolding season_of
even_with_lem n p [] h g = refl
even_with_lem n p (q ∷ qs) h g = or_right (eqb (suc (length qs)) 0) _ (eq-eqb _ _ (h.count ∙ sym g.0.count))

all_taken : (n : ℕ) (ps qs : List Draft) (s : Season) → s ≡ season_of qs → AllSound n ps → AllSound n qs → Good qs → length ps + length qs ≤ most_plans → AllTaken s ps
all_taken n [] qs s e h g k l = tt
all_taken n (p ∷ ps) qs s e h g k l =
    let a : said s p ≡ no_refusal = ap (λ (z : Season). said z p) e ∙ accepts (season_of qs) p.corridors (length p.circuits) (record { size = h.0.size; few = h.0.few; even = even_with_lem n p qs h.0 g; room = room_left }) in
    let t = go_on s p qs e k h.0.held a in
    (a, all_taken n ps (p ∷ qs) (after s p) t.0 h.1 (h.0, g) t.1 (omega arith))
  where
    room_left : (season_of qs).taken < most_plans
    room_left = unfold season_of in omega arith

-- where none is refused, none is in any other order, and every figure is the same
pub any_order : {ps qs : List Draft} → Reordered ps qs → AllHeld ps → AllTaken begun ps → AllTaken begun qs × Alike (fed_all begun ps) (fed_all begun qs)
any_order {ps} {qs} r h t =
    let P : Reordered (taken begun [] ps) ps = subst (Reordered (taken begun [] ps)) (append-nil ps) (reordered ps begun [] t) in
    let n = corridors_of_lem (taken begun [] ps) in
    let g = (fed ps h).1 in
    let S : AllSound n qs = sound_too n (then P r) g.sound in
    let u : AllTaken begun qs = all_taken n qs [] begun none_taken S tt begin_good (omega (arith, same_length (then P r), g.few)) in
    let Q : Reordered (taken begun [] qs) qs = subst (Reordered (taken begun [] qs)) (append-nil qs) (reordered qs begun [] u) in
    let R = then P (then r (back Q)) in
    let k = all_held n qs S in (
      u,
      record {
        at_each = λ i. at_each ps h i ∙ same_at R i ∙ sym (at_each qs k i);
        over_all = over_all ps h ∙ same_over R ∙ sym (over_all qs k);
      },
    )
