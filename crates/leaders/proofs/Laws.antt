-- What is true of the leaders of sound corridors: each leads itself, and two buses have one leader exactly where a chain of corridors joins them.
-- The invariant over the corridors, `JoinedSoFar`, is all of it for the corridors joined so far; a turn renames one leader to another.
use Prim.Native.Nat.{ℕ, suc, ◌<◌}
use mathlib.Core.List.{List}
use mathlib.Core.Path.{◌≡◌, refl, sym, ap, ◌∙◌, subst}
use mathlib.Core.Logic.{⊎_elim}
use native.Mathlib.Decide.{ℕ_discrete}
use native.Mathlib.Nat.{eq-or-lt_of_le, le_of_suc-le-suc, zero-add}
use native.Mathlib.Omega.{arith}
use borrow.Author.Tests.{eq-eqb, ne_eqb}
use lib.ListN.{length, get_or}
use Rattle.loops.specs.Loops.{iter, tab}
use Rattle.loops.proofs.Loops.{iter_carries}
use Rattle.loops.proofs.Tab.{length_tab, get_tab}
use Rattle.leaders.specs.Leaders.{follow, rename, join, join_at, join_all, themselves, leaders_of}
use Rattle.leaders.specs.Operation.{Ends}
use Rattle.leaders.specs.Chain.{Chain, here, forth, back, Led}

-- ---- at first each bus leads itself
pub themselves_at : (n i : ℕ) → i < n → get_or (tab n (λ (j : ℕ). j)) i 0 ≡ i
themselves_at n i h = get_tab n (λ (j : ℕ). j) i 0 h

-- ---- following
pub follow_yes : (old new x : ℕ) → x ≡ old → follow old new x ≡ new
follow_yes old new x e = rw (eq-eqb x old e)

pub follow_no : (old new x : ℕ) → (x ≡ old → ⊥) → follow old new x ≡ x
follow_no old new x n = rw (ne_eqb x old n)

-- the new leader follows itself
pub follow_new : (old new : ℕ) → follow old new new ≡ new
follow_new old new = elim (ℕ_discrete new old) [ yes e ↦ follow_yes old new new e | no n ↦ follow_no old new new n ]

-- ---- joining
pub rename_size : (old new : ℕ) (l : List ℕ) → length (rename old new l) ≡ length l
unfolding rename
rename_size old new l = length_tab (length l) _

pub rename_at : (old new : ℕ) (l : List ℕ) (i : ℕ) → i < length l → get_or (rename old new l) i 0 ≡ follow old new (get_or l i 0)
unfolding rename
rename_at old new l i h = get_tab (length l) (λ (j : ℕ). follow old new (get_or l j 0)) i 0 h

pub join_size : (a b : ℕ) (l : List ℕ) → length (join a b l) ≡ length l
unfolding join
join_size a b l = rename_size (get_or l a 0) (get_or l b 0) l

pub join_at_lem : (a b : ℕ) (l : List ℕ) (i : ℕ) → i < length l → get_or (join a b l) i 0 ≡ follow (get_or l a 0) (get_or l b 0) (get_or l i 0)
unfolding join
join_at_lem a b l i h = rename_at (get_or l a 0) (get_or l b 0) l i h

-- the two ends then have b's leader
pub join_first : (a b : ℕ) (l : List ℕ) → a < length l → get_or (join a b l) a 0 ≡ get_or l b 0
join_first a b l h = join_at_lem a b l a h ∙ follow_yes (get_or l a 0) (get_or l b 0) (get_or l a 0) refl

pub join_second_lem : (a b : ℕ) (l : List ℕ) → b < length l → get_or (join a b l) b 0 ≡ get_or l b 0
join_second_lem a b l h = join_at_lem a b l b h ∙ follow_new (get_or l a 0) (get_or l b 0)

-- ---- chains, one after another
chain_then : {a b : List ℕ} {i j k : ℕ} → Chain a b i j → Chain a b j k → Chain a b i k
chain_then p here = p
chain_then p (forth c h q) = forth c h (chain_then p q)
chain_then p (back c h q) = back c h (chain_then p q)

record JoinedSoFar (n : ℕ) (a b : List ℕ) (k : ℕ) (l : List ℕ) : Type 0 where
  size : length l ≡ n
  below : (i : ℕ) → i < n → get_or l i 0 < n
  leads : (i : ℕ) → i < n → get_or l (get_or l i 0) 0 ≡ get_or l i 0
  ends : (c : ℕ) → c < k → get_or l (get_or a c 0) 0 ≡ get_or l (get_or b c 0) 0
  joined : (i j : ℕ) → i < n → j < n → get_or l i 0 ≡ get_or l j 0 → Chain a b i j

-- ---- at first each bus leads itself
held_first : (n : ℕ) (a b : List ℕ) → JoinedSoFar n a b 0 (themselves n)
unfolding themselves
held_first n a b =
    record {
      size = length_tab n _;
      below = λ i h. subst (λ (x : ℕ). x < n) (sym (themselves_at n i h)) h;
      leads = λ i h. ap (λ (x : ℕ). get_or (tab n (λ (j : ℕ). j)) x 0) (themselves_at n i h);
      ends = λ c h. absurd (omega arith);
      joined = λ i j p q e. subst (λ (x : ℕ). Chain a b i x) (sym (themselves_at n i p) ∙ e ∙ themselves_at n j q) here;
    }

-- ---- a turn: the set of corridor k's a takes the leader of its b
module _ (n : ℕ) (a b : List ℕ) (sound : Ends n a b) (k : ℕ) (l : List ℕ) (K : k < length a) (h : JoinedSoFar n a b k l) where
  abbrev old : ℕ
  old = get_or l (get_or a k 0) 0

  abbrev new : ℕ
  new = get_or l (get_or b k 0) 0

  abbrev l' : List ℕ
  l' = join_at a b k l

  at : (i : ℕ) → i < n → get_or l' i 0 ≡ follow old new (get_or l i 0)
  at i p = join_at_lem (get_or a k 0) (get_or b k 0) l i (omega (arith, h.size))

  at_a : get_or l' (get_or a k 0) 0 ≡ new
  at_a = join_first (get_or a k 0) (get_or b k 0) l (omega (arith, h.size, sound.from k K))

  at_b : get_or l' (get_or b k 0) 0 ≡ new
  at_b = join_second_lem (get_or a k 0) (get_or b k 0) l (omega (arith, h.size, sound.to k K))

  turn_size : length l' ≡ n
  turn_size = join_size (get_or a k 0) (get_or b k 0) l ∙ h.size

  turn_below : (i : ℕ) → i < n → get_or l' i 0 < n
  turn_below i p =
      elim (ℕ_discrete (get_or l i 0) old) [
        | yes e ↦ omega (arith, at i p, follow_yes old new (get_or l i 0) e, h.below (get_or b k 0) (sound.to k K))
        | no m ↦ omega (arith, at i p, follow_no old new (get_or l i 0) m, h.below i p)
      ]

  turn_leads : (i : ℕ) → i < n → get_or l' (get_or l' i 0) 0 ≡ get_or l' i 0
  turn_leads i p =
      elim (ℕ_discrete (get_or l i 0) old) [
        | yes e ↦
            let s : get_or l' i 0 ≡ new = at i p ∙ follow_yes old new (get_or l i 0) e in
            ap (λ (x : ℕ). get_or l' x 0) s
            ∙ at new (h.below (get_or b k 0) (sound.to k K))
            ∙ ap (follow old new) (h.leads (get_or b k 0) (sound.to k K))
            ∙ follow_new old new
            ∙ sym s
        | no m ↦
            let s : get_or l' i 0 ≡ get_or l i 0 = at i p ∙ follow_no old new (get_or l i 0) m in
            ap (λ (x : ℕ). get_or l' x 0) s
            ∙ at (get_or l i 0) (h.below i p)
            ∙ ap (follow old new) (h.leads i p)
            ∙ follow_no old new (get_or l i 0) m
            ∙ sym s
      ]

  turn_ends : (c : ℕ) → c < suc k → get_or l' (get_or a c 0) 0 ≡ get_or l' (get_or b c 0) 0
  turn_ends c p =
      ⊎_elim
      (λ e. ap (λ (x : ℕ). get_or l' (get_or a x 0) 0) e ∙ at_a ∙ sym at_b ∙ ap (λ (x : ℕ). get_or l' (get_or b x 0) 0) (sym e))
      (λ q.
      at (get_or a c 0) (sound.from c (omega arith))
      ∙ ap (follow old new) (h.ends c q)
      ∙ sym (at (get_or b c 0) (sound.to c (omega arith))))
      (eq-or-lt_of_le (le_of_suc-le-suc p))

  to_a : (i : ℕ) → i < n → get_or l i 0 ≡ old → Chain a b i (get_or a k 0)
  to_a i p e = h.joined i (get_or a k 0) p (sound.from k K) e

  from_a : (i : ℕ) → i < n → get_or l i 0 ≡ old → Chain a b (get_or a k 0) i
  from_a i p e = h.joined (get_or a k 0) i (sound.from k K) p (sym e)

  turn_joined : (i j : ℕ) → i < n → j < n → get_or l' i 0 ≡ get_or l' j 0 → Chain a b i j
  turn_joined i j p q e = go (ℕ_discrete (get_or l i 0) old) (ℕ_discrete (get_or l j 0) old)
    where
      same : follow old new (get_or l i 0) ≡ follow old new (get_or l j 0)
      same = sym (at i p) ∙ e ∙ at j q

      go : Dec (get_or l i 0 ≡ old) → Dec (get_or l j 0 ≡ old) → Chain a b i j
      go (yes u) (yes v) = h.joined i j p q (u ∙ sym v)
      go (no u) (no v) = h.joined i j p q (sym (follow_no old new _ u) ∙ same ∙ follow_no old new _ v)
      go (yes u) (no v) =
          chain_then (forth k K (to_a i p u))
          (h.joined (get_or b k 0) j (sound.to k K) q (sym (follow_yes old new _ u) ∙ same ∙ follow_no old new _ v))
      go (no u) (yes v) =
          chain_then (back k K (h.joined i (get_or b k 0) p (sound.to k K) (sym (follow_no old new _ u) ∙ same ∙ follow_yes old new _ v)))
          (from_a j q v)

  held_next : JoinedSoFar n a b (suc k) l'
  held_next = record { size = turn_size; below = turn_below; leads = turn_leads; ends = turn_ends; joined = turn_joined }

-- ---- all corridors
alike : (a b l : List ℕ) → ((c : ℕ) → c < length a → get_or l (get_or a c 0) 0 ≡ get_or l (get_or b c 0) 0) → (i j : ℕ) → Chain a b i j → get_or l i 0 ≡ get_or l j 0
alike a b l e i j here = refl
alike a b l e i j (forth c h p) = alike a b l e i (get_or a c 0) p ∙ e c h
alike a b l e i j (back c h p) = alike a b l e i (get_or b c 0) p ∙ sym (e c h)

pub led : (n : ℕ) (a b : List ℕ) → Ends n a b → Led n a b (leaders_of n a b)
unfolding leaders_of join_all
led n a b sound = record { size = h.size; below = h.below; leads = h.leads; ends = h.ends; joined = h.joined; alike = alike a b (leaders_of n a b) h.ends }
  where
    h : JoinedSoFar n a b (length a) (iter (join_at a b) (length a) 0 (themselves n))
    h =
        iter_carries (join_at a b) (JoinedSoFar n a b) (length a) (λ k l K p. held_next n a b sound k l K p) (length a) 0 (themselves n) (zero-add (length a)) (held_first n a b)
