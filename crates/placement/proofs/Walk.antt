-- The list of corridors at each bus: those that it passes over end elsewhere, so that to walk it is to look at every corridor; and how a
-- corridor is put before those listed.
-- By the search for the next corridor, a turn at a time.
use mathlib.Core.Path.{◌≡◌, refl, sym, ap, ◌∙◌, subst}
use mathlib.Core.Bool.{Bool, true, false, not, cond, ◌||◌}
use mathlib.Core.List.{List}
use Prim.Native.Nat.{ℕ, zero, suc, ◌+◌, ◌-◌, ◌<◌, ◌≤◌}
use native.Mathlib.Decide.{ℕ_discrete}
use native.Mathlib.Omega.{arith}
use native.Mathlib.Numerals.{add-one}
use borrow.Author.Tests.{eq-eqb, ne_eqb, eqb-true, lt-ltb, le-ltb}
use lib.Dec.{eqb, ltb}
use lib.ListN.{length, get_or, set, length-set, length-replicate, get_or-replicate}
use lib.Seq.{get_or-set_same, get_or-set_other}
use Rattle.loops.specs.Bounds.{most_buses, most_corridors}
use Rattle.loops.specs.Loops.{iter}
use Rattle.loops.proofs.Bools.{or_left, or_right}
use Rattle.loops.proofs.Loops.{iter_all, iter_more, iter_end}
use Rattle.loops.proofs.Scan.{first_pass, first_stop, first_end}
use Rattle.placement_defs.specs.Request.{Net}
use Rattle.placement_defs.specs.Distance.{Network, Labels, considered, corridor, settle, spread}
use Rattle.placement.specs.Corridors.{ends_at, next_at, kept_at, no_corridor, blank_lists, Listed}
use Rattle.placement.specs.declared.lists.Lists.{Lists}
use Rattle.std.specs.Prelude.{Option, Some, None}
use Rattle.std.specs.Option.{ForSome}
use Rattle.placement.specs.Choices.{number}
use Rattle.placement.proofs.Tests.{net_ends}

-- ---- the next corridor at a bus
module _ (w : Network) (i : ℕ) where
  pub next_here : (c : ℕ) → c < w.m → ends_at w i c ≡ true → next_at w i c ≡ c
  unfolding next_at
  next_here c h e = first_stop (λ t. not (ends_at w i t)) w.m c h (ap not e)

  pub next_later : (c : ℕ) → c < w.m → ends_at w i c ≡ false → next_at w i c ≡ next_at w i (c + 1)
  unfolding next_at
  next_later c h e = first_pass (λ t. not (ends_at w i t)) w.m c h (ap not e)

  pub next_none : (c : ℕ) → w.m ≤ c → next_at w i c ≡ c
  unfolding next_at
  next_none c h = first_end (λ t. not (ends_at w i t)) w.m c h

  -- what lies between two corridors of the list is passed over
  pub record Next (c : ℕ) : Type 0 where
    pub after : c ≤ next_at w i c
    pub within : next_at w i c ≤ w.m
    pub ends : next_at w i c < w.m → ends_at w i (next_at w i c) ≡ true
    pub skips : (s : Labels) → iter (corridor w i) (w.m - c) c s ≡ iter (corridor w i) (w.m - next_at w i c) (next_at w i c) s

  idle : (c : ℕ) (s : Labels) → ends_at w i c ≡ false → corridor w i c s ≡ s
  unfolding considered
  idle c s e = rw e

  go : (d c : ℕ) → c + d ≡ w.m → Next c
  unfolding iter
  go zero c e =
      let h : w.m ≤ c = omega arith in
      let q = next_none c h in
      record { after = omega arith; within = omega arith; ends = λ l. absurd (omega arith); skips = λ s. ap (λ (t : ℕ). iter (corridor w i) (w.m - t) t s) (sym q) }
  go (suc d) c e = step (λ l. go d (c + 1) l) (ends_at w i c) refl
    where
      h : c < w.m
      h = omega arith

      one : (s : Labels) → ends_at w i c ≡ false → iter (corridor w i) (w.m - c) c s ≡ iter (corridor w i) (w.m - (c + 1)) (c + 1) s
      one s f =
          let z : w.m - c ≡ suc (w.m - (c + 1)) = omega arith in
          ap (λ (t : ℕ). iter (corridor w i) t c s) z ∙ ap (λ (t : Labels). iter (corridor w i) (w.m - (c + 1)) (suc c) t) (idle c s f) ∙ ap (λ (t : ℕ). iter (corridor w i) (w.m - (c + 1)) t s) (sym (add-one c))

      step : (c + 1 + d ≡ w.m → Next (c + 1)) → (b : Bool) → ends_at w i c ≡ b → Next c
      step ih true f =
          let q = next_here c h f in
          record {
            after = omega arith;
            within = omega arith;
            ends = λ l. subst (λ (t : ℕ). ends_at w i t ≡ true) (sym q) f;
            skips = λ s. ap (λ (t : ℕ). iter (corridor w i) (w.m - t) t s) (sym q);
          }
      step ih false f =
          let q = next_later c h f in
          let n = ih (omega arith) in
          let l = n.after in
          let u = n.within in
          record {
            after = omega arith;
            within = omega arith;
            ends = λ l. subst (λ (t : ℕ). ends_at w i t ≡ true) (sym q) (n.ends (omega arith));
            skips = λ s. one s f ∙ n.skips s ∙ ap (λ (t : ℕ). iter (corridor w i) (w.m - t) t s) (sym q);
          }

  pub next_is : (c : ℕ) → c ≤ w.m → Next c
  next_is c h = go (w.m - c) c (omega arith)

-- ---- the list is walked: after corridor c comes the next at bus i
module _ (w : Network) (head afterA afterB : List ℕ) (r : Listed w 0 head afterA afterB) (i c : ℕ) (h : c < w.m) where
  pub next_by_a : get_or w.a c 0 ≡ i → kept_at w (get_or afterA c 0) ≡ next_at w i (c + 1)
  next_by_a e = r.next_a c (omega arith) h ∙ ap (λ (v : ℕ). next_at w v (c + 1)) e

  pub next_by_b : ends_at w i c ≡ true → (get_or w.a c 0 ≡ i → ⊥) → kept_at w (get_or afterB c 0) ≡ next_at w i (c + 1)
  next_by_b at_i d =
      let e = ap (λ (x : Bool). x || eqb (get_or w.b c 0) i) (sym (ne_eqb (get_or w.a c 0) i d)) ∙ at_i in
      r.next_b c (omega arith) h ∙ ap (λ (v : ℕ). next_at w v (c + 1)) (eqb-true (get_or w.b c 0) i e)

-- as an answer
pub next_kept : (w : Network) (i c x : ℕ) (next : Option ℕ) → next ≡ cond (ltb x w.m) (Some x) None → kept_at w x ≡ next_at w i c → number w.m next ≡ next_at w i c
next_kept w i c x next e q = ap (number w.m) e ∙ go (ltb x w.m) ∙ q
  where
    go : (b : Bool) → number w.m (cond b (Some x) None) ≡ cond b x w.m
    go true = refl
    go false = refl

-- ---- the list is made, from the last corridor to the first
listed_none : (w : Network) (head afterA afterB : List ℕ) → length head ≡ most_buses → length afterA ≡ most_corridors → length afterB ≡ most_corridors
    → ((i : ℕ) → i < w.n → kept_at w (get_or head i 0) ≡ w.m) → Listed w w.m head afterA afterB
listed_none w head afterA afterB p q r none =
    record {
      heads = p;
      next_as = q;
      next_bs = r;
      first = λ i h. none i h ∙ sym (next_none w i w.m (omega arith));
      next_a = λ e l h. absurd (omega arith);
      next_b = λ e l h. absurd (omega arith);
    }

pub listed_blank : (w : Network) → Net w.n w.m w.a w.b w.km → (l : Lists) → l ≡ blank_lists → Listed w w.m l.head l.after_a l.after_b
listed_blank w net l e =
    rw e
    (listed_none w blank_lists.head blank_lists.after_a blank_lists.after_b (length-replicate {A = ℕ} most_buses no_corridor) (length-replicate {A = ℕ} most_corridors no_corridor)
    (length-replicate {A = ℕ} most_corridors no_corridor)
    (λ i h. ap (kept_at w) (get_or-replicate {A = ℕ} most_buses i no_corridor 0 (omega (arith, net.few))) ∙ beyond))
  where
    beyond : kept_at w no_corridor ≡ w.m
    beyond = rw (le-ltb no_corridor w.m (omega (arith, net.short)))

module _ (w : Network) (net : Net w.n w.m w.a w.b w.km) (c : ℕ) (hc : c < w.m) (head afterA afterB : List ℕ) (r : Listed w (c + 1) head afterA afterB) where
  abbrev a : ℕ
  a = get_or w.a c 0

  abbrev b : ℕ
  b = get_or w.b c 0

  off : (i : ℕ) → (i ≡ a → ⊥) → (i ≡ b → ⊥) → ends_at w i c ≡ false
  off i p q = ap (λ (x : Bool). x || eqb b i) (ne_eqb a i (λ e. p (sym e))) ∙ ne_eqb b i (λ e. q (sym e))

  own : kept_at w c ≡ c
  own = rw (lt-ltb c w.m hc)

  pub listed_next : Listed w c (set (set head a c) b c) (set afterA c (get_or head a 0)) (set afterB c (get_or (set head a c) b 0))
  listed_next =
      let e = net_ends net c hc in
      let ha = e.a_below in
      let hb = e.b_below in
      let few = net.few in
      let short = net.short in
      let l1 = r.heads in
      let l2 = r.next_as in
      let l3 = r.next_bs in
      let l4 : length (set head a c) ≡ most_buses = length-set head a c ∙ l1 in
      record {
        heads = length-set (set head a c) b c ∙ l4;
        next_as = length-set afterA c (get_or head a 0) ∙ l2;
        next_bs = length-set afterB c (get_or (set head a c) b 0) ∙ l3;
        first = λ i h.
            elim (ℕ_discrete i b) [
              | yes p ↦ ap (kept_at w) (ap (λ (t : ℕ). get_or (set (set head a c) b c) t 0) p ∙ get_or-set_same (set head a c) b c 0 (omega arith))
                  ∙ own
                  ∙ sym (next_here w i c hc (or_right (eqb a i) (eqb b i) (eq-eqb b i (sym p))))
              | no p ↦ ap (kept_at w) (get_or-set_other (set head a c) b i c 0 p)
                  ∙ elim (ℕ_discrete i a) [
                    | yes q ↦ ap (kept_at w) (ap (λ (t : ℕ). get_or (set head a c) t 0) q ∙ get_or-set_same head a c 0 (omega arith))
                        ∙ own
                        ∙ sym (next_here w i c hc (or_left (eqb a i) (eqb b i) (eq-eqb a i (sym q))))
                    | no q ↦ ap (kept_at w) (get_or-set_other head a i c 0 q) ∙ r.first i h ∙ sym (next_later w i c hc (off i q p))
                  ]
            ];
        next_a = λ t l h.
            elim (ℕ_discrete t c) [
              | yes p ↦ subst (λ (u : ℕ). kept_at w (get_or (set afterA c (get_or head a 0)) u 0) ≡ next_at w (get_or w.a u 0) (u + 1)) (sym p)
                  (ap (kept_at w) (get_or-set_same afterA c (get_or head a 0) 0 (omega arith)) ∙ r.first a ha)
              | no p ↦ ap (kept_at w) (get_or-set_other afterA c t (get_or head a 0) 0 p) ∙ r.next_a t (omega arith) h
            ];
        next_b = λ t l h.
            elim (ℕ_discrete t c) [
              | yes p ↦ subst (λ (u : ℕ). kept_at w (get_or (set afterB c (get_or (set head a c) b 0)) u 0) ≡ next_at w (get_or w.b u 0) (u + 1)) (sym p)
                  (ap (kept_at w) (get_or-set_same afterB c (get_or (set head a c) b 0) 0 (omega arith) ∙ get_or-set_other head a b c 0 (λ z. e.two (sym z))) ∙ r.first b hb)
              | no p ↦ ap (kept_at w) (get_or-set_other afterB c t (get_or (set head a c) b 0) 0 p) ∙ r.next_b t (omega arith) h
            ];
      }

-- as the code's turn says it
pub listed_turn : (w : Network) → Net w.n w.m w.a w.b w.km → (left x y : ℕ) (head afterA afterB head' afterA' afterB' : List ℕ) → 0 < left → left ≤ w.m
    → Listed w left head afterA afterB → x ≡ get_or w.a (left - 1) 0 → y ≡ get_or w.b (left - 1) 0
    → head' ≡ set (set head x (left - 1)) y (left - 1) → afterA' ≡ set afterA (left - 1) (get_or head x 0) → afterB' ≡ set afterB (left - 1) (get_or (set head x (left - 1)) y 0)
    → Listed w (left - 1) head' afterA' afterB'
listed_turn w net left x y head afterA afterB head' afterA' afterB' low high r ex ey eh ea eb =
    let z : left ≡ left - 1 + 1 = omega arith in
    rw (eh, ea, eb, ex, ey) (listed_next w net (left - 1) (omega arith) head afterA afterB (subst (λ (t : ℕ). Listed w t head afterA afterB) z r))

-- ---- the walk: what is left of it gives what is left of the table
pub record Walked (w : Network) (i : ℕ) (next : Option ℕ) (s t : Labels) : Type 0 where
  pub within : ForSome next (λ c. c < w.m)
  pub ends : ForSome next (λ c. ends_at w i c ≡ true)
  pub rest : iter (corridor w i) (w.m - number w.m next) (number w.m next) s ≡ t

-- from corridor c on
walked : (w : Network) (i c : ℕ) (next : Option ℕ) (s t : Labels) → c ≤ w.m → ForSome next (λ e. e < w.m) → number w.m next ≡ next_at w i c → iter (corridor w i) (w.m - c) c s ≡ t
    → Walked w i next s t
walked w i c next s t h b e q =
    let k = next_is w i c h in
    record {
      within = b;
      ends = λ x z. let l = b x z in let u : x ≡ next_at w i c = ap (number w.m) (sym z) ∙ e in subst (λ (v : ℕ). ends_at w i v ≡ true) (sym u) (k.ends (omega arith));
      rest = ap (λ (v : ℕ). iter (corridor w i) (w.m - v) v s) e ∙ sym (k.skips s) ∙ q;
    }

module _ (w : Network) (i : ℕ) (next : Option ℕ) where
  pub walk_start : (s : Labels) → ForSome next (λ c. c < w.m) → number w.m next ≡ next_at w i 0 → Walked w i next s (iter (corridor w i) w.m 0 s)
  walk_start s b e = walked w i 0 next s (iter (corridor w i) w.m 0 s) (omega arith) b e (iter_all (corridor w i) w.m s)

  module _ (s₀ s t : Labels) (r : Walked w i next s t) where
    module _ (c : ℕ) (is : next ≡ Some c) (later : Option ℕ) (e : number w.m later ≡ next_at w i (c + 1)) where
      here : number w.m next ≡ c
      here = ap (number w.m) is

      pub walk_farther : w.m - number w.m later < w.m - number w.m next
      walk_farther = let h = r.within c is in let k = (next_is w i (c + 1) (omega arith)).after in let z = here in omega arith

      pub walk_next : (s' : Labels) → ForSome later (λ e. e < w.m) → s' ≡ corridor w i c s → Walked w i later s' t
      walk_next s' b q =
          let h = r.within c is in
          walked w i (c + 1) later s' t (omega arith) b e (sym (iter_more (corridor w i) h q) ∙ ap (λ (v : ℕ). iter (corridor w i) (w.m - v) v s) (sym here) ∙ r.rest)

    pub spread_is : next ≡ None → t ≡ iter (corridor w i) w.m 0 (settle i s₀) → s ≡ spread w i s₀
    unfolding spread
    spread_is is q = let z : number w.m next ≡ w.m = ap (number w.m) is in sym (iter_end (corridor w i) (omega arith)) ∙ r.rest ∙ q
