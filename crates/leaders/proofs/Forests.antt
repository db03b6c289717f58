-- Laws of forests: at first, after a way is shortened, and after two sets are joined.
-- A bus that is a root afterwards was one before; so what is said of roots is carried over.
use Prim.Native.Nat.{ℕ, ◌+◌, ◌<◌, ◌≤◌}
use mathlib.Core.List.{List}
use mathlib.Core.Path.{◌≡◌, refl, sym, ap, ◌∙◌}
use native.Mathlib.Decide.{ℕ_discrete, dec_lt}
use native.Mathlib.Nat.{zero-add}
use native.Mathlib.Numerals.{add-one}
use native.Mathlib.Omega.{arith}
use lib.ListN.{length, get_or, set, length-set, get_or-eq_default}
use lib.Seq.{get_or-set_same, get_or-set_other, set_out, ext_get_or}
use Rattle.loops.specs.Loops.{iter, tab}
use Rattle.loops.proofs.Loops.{iter_last}
use Rattle.loops.proofs.Tab.{length_tab, get_tab}
use Rattle.leaders.specs.Leaders.{follow, join, join_at, join_all, themselves, leaders_of}
use Rattle.leaders.specs.Operation.{Ends}
use Rattle.leaders.specs.Forest.{Down, Root, Forest, Kept, Roots, Found, Joined, AllJoined, HandedOut}
use Rattle.leaders.proofs.Laws.{themselves_at, follow_no, join_size, join_at_lem, join_first, join_second_lem}

-- ---- at first each bus leads itself
pub down_first : (N : ℕ) → Down (themselves N)
unfolding themselves
down_first N x =
    elim (dec_lt x N) [
      | yes h ↦ omega (arith, get_tab N (λ (i : ℕ). i) x 0 h)
      | no h ↦ omega (arith, get_or-eq_default (tab N (λ (i : ℕ). i)) 0 {n = x} (omega (arith, length_tab N (λ (i : ℕ). i))))
    ]

pub forest_first : (N n : ℕ) → n ≤ N → Forest n (themselves N) (themselves N) (themselves n)
unfolding themselves
forest_first N n h =
    record {
      size = length_tab n _;
      parents = omega (arith, length_tab N (λ (i : ℕ). i));
      names = omega (arith, length_tab N (λ (i : ℕ). i));
      down = down_first N;
      same = λ x l. ap (λ (y : ℕ). get_or (tab n (λ (i : ℕ). i)) y 0) (themselves_at N x (omega arith));
      named = λ x l r. themselves_at N x (omega arith) ∙ sym (themselves_at n x l);
      one = λ x y l m r s e. sym (themselves_at n x l) ∙ e ∙ themselves_at n y m;
    }

-- ---- a bus takes a lower parent
pub down_set : (p : List ℕ) (i v : ℕ) → Down p → v ≤ i → Down (set p i v)
down_set p i v d e x =
    elim (ℕ_discrete x i) [
      | no q ↦ omega (arith, get_or-set_other p i x v 0 q, d x)
      | yes q ↦
          elim (dec_lt i (length p)) [
            | yes h ↦ omega (arith, ap (λ (k : ℕ). get_or (set p i v) k 0) q ∙ get_or-set_same p i v 0 h)
            | no h ↦ omega (arith, ap (λ (r : List ℕ). get_or r x 0) (set_out p i v (omega arith)), d x)
          ]
    ]

-- ---- a bus takes its parent's parent
module _ (n : ℕ) (p name l : List ℕ) (f : Forest n p name l) (i v : ℕ) (I : i < n) (e : v ≡ get_or p (get_or p i 0) 0) where
  there : get_or (set p i v) i 0 ≡ v
  there = get_or-set_same p i v 0 (omega (arith, f.parents))

  -- v is of i's set
  pub above_same : get_or l v 0 ≡ get_or l i 0
  above_same = ap (λ (k : ℕ). get_or l k 0) e ∙ f.same (get_or p i 0) (omega (arith, f.down i)) ∙ f.same i I

  root_before : (x : ℕ) → Root (set p i v) x → Root p x
  root_before x r =
      elim (ℕ_discrete x i) [
        | no q ↦ sym (get_or-set_other p i x v 0 q) ∙ r
        | yes q ↦
            omega (
              arith,
              ap (λ (k : ℕ). get_or p k 0) q,
              ap (λ (k : ℕ). get_or (set p i v) k 0) q ∙ there,
              f.down i,
              f.down (get_or p i 0),
            )
      ]

  same_shortened : (x : ℕ) → x < n → get_or l (get_or (set p i v) x 0) 0 ≡ get_or l x 0
  same_shortened x h =
      elim (ℕ_discrete x i) [
        | no q ↦ ap (λ (k : ℕ). get_or l k 0) (get_or-set_other p i x v 0 q) ∙ f.same x h
        | yes q ↦
            ap (λ (k : ℕ). get_or l k 0) (ap (λ (k : ℕ). get_or (set p i v) k 0) q ∙ there)
            ∙ above_same
            ∙ ap (λ (k : ℕ). get_or l k 0) (sym q)
      ]

  pub forest_shortened : Forest n (set p i v) name l
  forest_shortened =
      record {
        size = f.size;
        parents = omega (arith, length-set p i v, f.parents);
        names = f.names;
        down = down_set p i v f.down (omega (arith, f.down i, f.down (get_or p i 0)));
        same = same_shortened;
        named = λ x h r. f.named x h (root_before x r);
        one = λ x y h k r s. f.one x y h k (root_before x r) (root_before y s);
      }

-- ---- the search for a root: a turn keeps what the search keeps
pub roots_turn : (p₀ p : List ℕ) (at up above : ℕ) → (up ≡ at → ⊥) → up ≡ get_or p at 0 → Roots p₀ p → Roots p₀ (set p at above)
roots_turn p₀ p at up above m u k y r =
    get_or-set_other p at y above 0 (λ q. m (u ∙ ap (λ (i : ℕ). get_or p i 0) (sym q) ∙ k y r ∙ q)) ∙ k y r

pub kept_turn : (x : ℕ) (p₀ p : List ℕ) (at up to : ℕ) → at ≤ x → up ≡ get_or p at 0 → to ≡ get_or p up 0 → Kept x p₀ p at → Kept x p₀ (set p at (get_or p up 0)) to
kept_turn x p₀ p at up to h u t k n name l X f =
    let g = k n name l X f in
    let e : get_or p up 0 ≡ get_or p (get_or p at 0) 0 = ap (λ (i : ℕ). get_or p i 0) u in (
      forest_shortened n p name l g.0 at (get_or p up 0) (omega arith) e,
      ap (λ (i : ℕ). get_or l i 0) t ∙ above_same n p name l g.0 at (get_or p up 0) (omega arith) e ∙ g.1,
    )

-- ---- two roots are joined: of the two, `high` takes the parent `low`, which is named after b
module _ (n : ℕ) (p name l : List ℕ) (f : Forest n p name l) (a b : ℕ) (A : a < n) (B : b < n) (root-a : Root p a) (root-b : Root p b) where
  abbrev l' : List ℕ
  l' = join a b l

  at : (i : ℕ) → i < n → get_or l' i 0 ≡ follow (get_or l a 0) (get_or l b 0) (get_or l i 0)
  at i h = join_at_lem a b l i (omega (arith, f.size))

  pub first_named_lem : get_or l' a 0 ≡ get_or l b 0
  first_named_lem = join_first a b l (omega (arith, f.size))

  pub second_named : get_or l' b 0 ≡ get_or l b 0
  second_named = join_second_lem a b l (omega (arith, f.size))

  module _ (low high : ℕ) (name' : List ℕ) (L : low < n) (H : high < n) (below : low ≤ high)
      (low-led : get_or l' low 0 ≡ get_or l b 0) (high-led : get_or l' high 0 ≡ get_or l b 0)
      (others : (y : ℕ) → (y ≡ low → ⊥) → (y ≡ high → ⊥) → (y ≡ a → ⊥) × (y ≡ b → ⊥))
      (names' : n ≤ length name') (low-named : get_or name' low 0 ≡ get_or name b 0)
      (others-named : (y : ℕ) → (y ≡ low → ⊥) → get_or name' y 0 ≡ get_or name y 0) where
    abbrev p' : List ℕ
    p' = set p high low

    there' : get_or p' high 0 ≡ low
    there' = get_or-set_same p high low 0 (omega (arith, f.parents))

    -- a root besides `low` is not `high`, and was a root
    not_high : (y : ℕ) → Root p' y → (y ≡ low → ⊥) → y ≡ high → ⊥
    not_high y r q e = q (sym r ∙ ap (λ (k : ℕ). get_or p' k 0) e ∙ there')

    was_root : (y : ℕ) → Root p' y → (y ≡ low → ⊥) → Root p y
    was_root y r q = sym (get_or-set_other p high y low 0 (not_high y r q)) ∙ r

    -- it keeps its leader, which is not b's
    still : (y : ℕ) → y < n → Root p' y → (y ≡ low → ⊥) → get_or l' y 0 ≡ get_or l y 0
    still y Y r q = at y Y ∙ follow_no _ _ _ (λ e. (others y q (not_high y r q)).0 (f.one y a Y A (was_root y r q) root-a e))

    not_second : (y : ℕ) → y < n → Root p' y → (y ≡ low → ⊥) → get_or l y 0 ≡ get_or l b 0 → ⊥
    not_second y Y r q e = (others y q (not_high y r q)).1 (f.one y b Y B (was_root y r q) root-b e)

    same_linked : (x : ℕ) → x < n → get_or l' (get_or p' x 0) 0 ≡ get_or l' x 0
    same_linked x X =
        elim (ℕ_discrete x high) [
          | yes q ↦
              ap (λ (k : ℕ). get_or l' k 0) (ap (λ (k : ℕ). get_or p' k 0) q ∙ there')
              ∙ low-led
              ∙ sym high-led
              ∙ ap (λ (k : ℕ). get_or l' k 0) (sym q)
          | no q ↦
              ap (λ (k : ℕ). get_or l' k 0) (get_or-set_other p high x low 0 q)
              ∙ at (get_or p x 0) (omega (arith, f.down x))
              ∙ ap (follow (get_or l a 0) (get_or l b 0)) (f.same x X)
              ∙ sym (at x X)
        ]

    named_linked : (x : ℕ) → x < n → Root p' x → get_or name' x 0 ≡ get_or l' x 0
    named_linked x X r =
        elim (ℕ_discrete x low) [
          | yes q ↦
              ap (λ (k : ℕ). get_or name' k 0) q
              ∙ low-named
              ∙ f.named b B root-b
              ∙ sym low-led
              ∙ ap (λ (k : ℕ). get_or l' k 0) (sym q)
          | no q ↦ others-named x q ∙ f.named x X (was_root x r q) ∙ sym (still x X r q)
        ]

    one_linked : (x y : ℕ) → x < n → y < n → Root p' x → Root p' y → get_or l' x 0 ≡ get_or l' y 0 → x ≡ y
    one_linked x y X Y r s e = go (ℕ_discrete x low) (ℕ_discrete y low)
      where
        led : (z : ℕ) → z ≡ low → get_or l' z 0 ≡ get_or l b 0
        led z q = ap (λ (k : ℕ). get_or l' k 0) q ∙ low-led

        go : Dec (x ≡ low) → Dec (y ≡ low) → x ≡ y
        go (yes u) (yes v) = u ∙ sym v
        go (yes u) (no v) = absurd (not_second y Y s v (sym (still y Y s v) ∙ sym e ∙ led x u))
        go (no u) (yes v) = absurd (not_second x X r u (sym (still x X r u) ∙ e ∙ led y v))
        go (no u) (no v) = f.one x y X Y (was_root x r u) (was_root y s v) (sym (still x X r u) ∙ e ∙ still y Y s v)

    pub forest_linked : Forest n p' name' l'
    forest_linked =
        record {
          size = join_size a b l ∙ f.size;
          parents = omega (arith, length-set p high low, f.parents);
          names = names';
          down = down_set p high low f.down below;
          same = same_linked;
          named = named_linked;
          one = one_linked;
        }

-- the two ways to link: a below b, and b not above a
module _ (p name : List ℕ) (down : Down p) (a b : ℕ) (root-a : Root p a) (root-b : Root p b) where
  pub linked_below : a < b → Joined a b p name (set p b a) (set name a (get_or name b 0))
  linked_below h =
      record {
        down = down_set p b a down (omega arith);
        joins =
            λ n l A B f. forest_linked n p name l f a b A B root-a root-b a b (set name a (get_or name b 0)) A B (omega arith)
            (first_named_lem n p name l f a b A B root-a root-b) (second_named n p name l f a b A B root-a root-b)
            (λ y q r. (q, r))
            (omega (arith, length-set name a (get_or name b 0), f.names))
            (get_or-set_same name a _ 0 (omega (arith, f.names)))
            (λ y q. get_or-set_other name a y _ 0 q);
      }

  pub linked_above : b ≤ a → Joined a b p name (set p a b) name
  linked_above h =
      record {
        down = down_set p a b down h;
        joins =
            λ n l A B f. forest_linked n p name l f a b A B root-a root-b b a name B A h
            (second_named n p name l f a b A B root-a root-b) (first_named_lem n p name l f a b A B root-a root-b)
            (λ y q r. (r, q))
            f.names
            refl
            (λ y q. refl);
      }

-- ---- a's set is joined to b's by their roots
join_roots : (a b r s : ℕ) (l : List ℕ) → get_or l r 0 ≡ get_or l a 0 → get_or l s 0 ≡ get_or l b 0 → join r s l ≡ join a b l
unfolding join
join_roots a b r s l e f = rw (e, f)

pub joined_by_lem : (a b r s : ℕ) (p q t name u name' : List ℕ) → Found a p q r → Found b q t s → Joined r s t name u name' → Joined a b p name u name'
joined_by_lem a b r s p q t name u name' F G J =
    record {
      down = J.down;
      joins =
          λ n l A B f. let g = F.kept n name l A f in
          let h = G.kept n name l B g.0 in
          rw (← join_roots a b r s l g.1 h.1) (J.joins n l (omega (arith, F.lower)) (omega (arith, G.lower)) h.0);
    }

-- ---- all corridors
module _ (a b : List ℕ) (p name : List ℕ) where
  pub none_joined : Down p → AllJoined a b 0 p name p name
  unfolding iter
  none_joined d = record { down = d; joins = λ n l e f. f }

  pub next_joined : (k : ℕ) (q name' u name'' : List ℕ) → k < length a → AllJoined a b k p name q name' → Joined (get_or a k 0) (get_or b k 0) q name' u name'' → AllJoined a b (k + 1) p name u name''
  next_joined k q name' u name'' K g J =
      record {
        down = J.down;
        joins =
            λ n l e f. rw (add-one, iter_last (join_at a b) k 0 l, zero-add)
            (J.joins n (iter (join_at a b) k 0 l) (e.from k K) (e.to k K) (g.joins n l e f));
      }

-- ---- the stages of leading
pub led_by_lem : (N n : ℕ) (a b p name w : List ℕ) → n ≤ N → Ends n a b → AllJoined a b (length a) (themselves N) (themselves N) p name → HandedOut n p name n w → length w ≡ n
    → w ≡ leaders_of n a b
unfolding leaders_of join_all
led_by_lem N n a b p name w h e j o s =
    let f = j.joins n (themselves n) e (forest_first N n h) in
    ext_get_or 0 w _ (s ∙ sym f.size) (λ x X. o _ f x (omega arith))
