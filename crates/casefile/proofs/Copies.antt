-- Bytes put one part behind the other, and the buses put one by one.
-- A part put right behind another makes one part (put_more); so each record is three parts, and the table one part more in each turn.
use Prim.Native.Nat.{ℕ, zero, suc, ◌+◌, ◌-◌, ◌*◌, ◌≤◌}
use mathlib.Core.Bool.{Bool, true, false, cond}
use mathlib.Core.List.{List, [], ◌++◌, append_assoc}
use mathlib.Core.Logic.{⊎_elim}
use mathlib.Core.Path.{◌≡◌, refl, sym, ap, ◌∙◌}
use native.Mathlib.Nat.{eq-or-lt_of_le}
use native.Mathlib.Numerals.{add-one}
use native.Mathlib.Omega.{arith}
use borrow.Rule.Slice.PartMut.{put_mid}
use lib.ListN.{length, take, drop, length-append, length-take}
use lib.Seq.{take_at, drop-drop, drop_at}
use Rattle.loops.specs.Parts.{part, put}
use Rattle.loops.proofs.Parts.{length_part, put_none}
use Rattle.casefile_defs.specs.Layout.{size_of, weighs, spot}
use Rattle.casefile_defs.specs.Moving.{called_bytes, called, mark_of, one_bytes, weight_of, bus_as, buses_as}
use Rattle.casefile_defs.specs.declared.Kind.{Kind}
use Rattle.casefile_defs.specs.declared.Kind.TheVariants.{Bus}
use Rattle.casefile.specs.Movable.{Kept}

-- what a copy between two parts makes
pub put_copied : {A : Type 0} (w v : List A) (i k : ℕ) → length v ≡ k → put_mid i (i + k - i) w v ≡ put w i v
unfolding put
put_copied {A} w v i k e =
    let z : i + k - i ≡ length v = omega arith in
    ap (λ (n : ℕ). put_mid i n w v) z ∙ sym (append_assoc (take i w) v (drop (length v) (drop i w))) ∙ ap (λ (x : List A). take i w ++ v ++ x) (drop-drop (length v) i w)

head_length : (w : List ℕ) (o : ℕ) (u : List ℕ) → o ≤ length w → length (take o w ++ u) ≡ o + length u
head_length w o u h = simp (length-append, length-take) (omega arith)

-- a part right behind another
pub put_more : (w : List ℕ) (o p : ℕ) (u v : List ℕ) → p ≡ o + length u → p + length v ≤ length w → put (put w o u) p v ≡ put w o (u ++ v)
unfolding put
put_more w o p u v e h =
    let l : length (take o w ++ u) ≡ p = head_length w o u (omega arith) ∙ sym e in
    let a : take p (take o w ++ u ++ drop (o + length u) w) ≡ take o w ++ u = take_at (take o w ++ u) (drop (o + length u) w) p l in
    let b : drop (p + length v) (take o w ++ u ++ drop (o + length u) w) ≡ drop (o + length (u ++ v)) w =
    sym (drop-drop (length v) p (take o w ++ u ++ drop (o + length u) w))
    ∙ ap (λ (x : List ℕ). drop (length v) x) (drop_at (take o w ++ u) (drop (o + length u) w) p l)
    ∙ drop-drop (length v) (o + length u) w
    ∙ ap (λ (x : ℕ). drop x w) (let z : o + length u + length v ≡ o + length (u ++ v) = simp length-append (omega arith) in z) in
    ap (λ (x : List ℕ). x ++ v ++ drop (p + length v) (take o w ++ u ++ drop (o + length u) w)) a
    ∙ ap (λ (x : List ℕ). take o w ++ u ++ v ++ x) b
    ∙ ap (λ (x : List ℕ). x ++ drop (o + length (u ++ v)) w) (append_assoc (take o w) u v)

-- ---- a bus as a record of a kind
pub length_called : (s : List ℕ) (at : ℕ) → at + size_of Bus ≤ length s → length (called s at) ≡ called_bytes
length_called s at h = length_part (at + 2) called_bytes s (omega arith)

pub length_bus : (l : Kind) (s : List ℕ) (at : ℕ) → at + size_of Bus ≤ length s → length (bus_as l s at) ≡ size_of Bus + length (weight_of l)
unfolding bus_as
length_bus l s at h = let e = length_called s at h in simp length-append (omega arith)

pub weight_length : (l : Kind) → length (weight_of l) ≤ 8
weight_length l = go (weighs l)
  where
    go : (b : Bool) → length (cond b one_bytes []) ≤ 8
    go true = omega arith
    go false = omega arith

pub bus_put : (l : Kind) (s m w w₁ w₂ w₃ : List ℕ) (at to : ℕ) → at + size_of Bus ≤ length s → to + (size_of Bus + length (weight_of l)) ≤ length w → m ≡ mark_of l → w₁ ≡ put w to m
    → w₂ ≡ put w₁ (to + 2) (take (at + 2 + called_bytes - (at + 2)) (drop (at + 2) s)) → w₃ ≡ put w₂ (to + size_of Bus) (weight_of l) → w₃ ≡ put w to (bus_as l s at)
unfolding bus_as part
bus_put l s m w w₁ w₂ w₃ at to h k q e₁ e₂ e₃ =
    let c : length (called s at) ≡ called_bytes = length_called s at h in
    let e : w₁ ≡ put w to (mark_of l) = e₁ ∙ ap (λ (x : List ℕ). put w to x) q in
    let z : at + 2 + called_bytes - (at + 2) ≡ called_bytes = omega arith in
    let a : w₂ ≡ put w to (mark_of l ++ called s at) =
    e₂ ∙ ap (λ (x : ℕ). put w₁ (to + 2) (take x (drop (at + 2) s))) z ∙ ap (λ (x : List ℕ). put x (to + 2) (called s at)) e ∙ put_more w to (to + 2) (mark_of l) (called s at) refl (omega arith) in
    let n : to + size_of Bus ≡ to + length (mark_of l ++ called s at) = simp length-append (omega arith) in
    e₃
    ∙ ap (λ (x : List ℕ). put x (to + size_of Bus) (weight_of l)) a
    ∙ put_more w to (to + size_of Bus) (mark_of l ++ called s at) (weight_of l) n (omega arith)
    ∙ ap (λ (x : List ℕ). put w to x) (append_assoc (mark_of l) (called s at) (weight_of l))

-- ---- the table, record by record
module _ (l : Kind) (s : List ℕ) (at : ℕ) where
  pub length_buses : (n : ℕ) → Kept s at n → length (buses_as l s at n) ≡ n * (size_of Bus + length (weight_of l))
  unfolding buses_as
  length_buses zero r = omega arith
  length_buses (suc n) r =
      let e = length_buses n (λ i h. r i (omega arith)) in
      let m = length_bus l s (spot Bus s at n) (r n (omega arith)) in
      let z : suc n * (size_of Bus + length (weight_of l)) ≡ n * (size_of Bus + length (weight_of l)) + (size_of Bus + length (weight_of l)) = omega arith in
      simp length-append (omega arith)

  pub buses_start : (w : List ℕ) → w ≡ put w at (buses_as l s at 0)
  unfolding buses_as
  buses_start w = sym (put_none w at)

  -- one record more
  pub buses_next : (i : ℕ) → spot Bus s at i + size_of Bus ≤ length s → length (buses_as l s at (i + 1)) ≡ length (buses_as l s at i) + (size_of Bus + length (weight_of l))
  unfolding buses_as
  buses_next i r =
      ap (λ (x : ℕ). length (buses_as l s at x)) (add-one i)
      ∙ length-append (buses_as l s at i) (bus_as l s (spot Bus s at i))
      ∙ ap (λ (x : ℕ). length (buses_as l s at i) + x) (length_bus l s (spot Bus s at i) r)

  -- no longer than the whole
  pub buses_within : (n i : ℕ) → i ≤ n → length (buses_as l s at i) ≤ length (buses_as l s at n)
  unfolding buses_as
  buses_within zero i h = let e : i ≡ 0 = omega arith in rw e (omega arith)
  buses_within (suc n) i h =
      ⊎_elim
      (λ e. rw e (omega arith))
      (λ b. let r = buses_within n i (omega arith) in omega (arith, length-append (buses_as l s at n) (bus_as l s (spot Bus s at n))))
      (eq-or-lt_of_le h)

  pub buses_turn : (w₀ w w' : List ℕ) (i here there : ℕ) → here ≡ spot Bus s at i → there ≡ at + length (buses_as l s at i) → here + size_of Bus ≤ length s
      → at + length (buses_as l s at (i + 1)) ≤ length w₀ → w ≡ put w₀ at (buses_as l s at i) → w' ≡ put w there (bus_as l s here) → w' ≡ put w₀ at (buses_as l s at (i + 1))
  unfolding buses_as
  buses_turn w₀ w w' i here there p q r b e g =
      let m = length_bus l s here r in
      let n = buses_next i (rw p at r) in
      g
      ∙ ap (λ (x : List ℕ). put x there (bus_as l s here)) e
      ∙ put_more w₀ at there (buses_as l s at i) (bus_as l s here) q (omega arith)
      ∙ ap (λ (x : ℕ). put w₀ at (buses_as l s at i ++ bus_as l s x)) p
      ∙ ap (λ (x : ℕ). put w₀ at (buses_as l s at x)) (sym (add-one i))
