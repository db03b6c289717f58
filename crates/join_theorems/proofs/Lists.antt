-- A list that stands within a longer one, some way in: the indices that pass a test there, loops over them, and outputs put to their places.
-- Each is by induction on the indices; the rest of the longer list is left as it was.
use Prim.Native.Nat.{ℕ, zero, suc, ◌+◌, ◌≤◌, ◌<◌}
use mathlib.Core.Bool.{Bool, true, false}
use mathlib.Core.List.{List, [], ◌∷◌, ◌++◌, map, append-nil}
use mathlib.Core.Path.{◌≡◌, refl, sym, ap, ◌∙◌, subst}
use native.Mathlib.Decide.{ℕ_discrete}
use native.Mathlib.Omega.{arith}
use borrow.Author.Tests.{eq-eqb, ne_eqb}
use lib.Dec.{eqb}
use lib.Ieee.{Float}
use lib.ListN.{length, get_or, set, length-set, length-map}
use lib.Seq.{set-append_left}
use Rattle.loops.specs.Figures.{at}
use Rattle.loops.specs.Loops.{iter}
use Rattle.loops.proofs.Bools.{unequal}
use Rattle.loops.proofs.Fronts.{get_map}
use Rattle.plan_defs.specs.Lists.{keep, pass_from, passing, each}
use Rattle.plan_defs.specs.Stage.{Stage, stopped, going, onward, each_stage}
use Rattle.plan_defs.specs.Dispatch.{scatter_at, scatter}
use Rattle.plan_defs.proofs.Lists.{All, pass_split}
use Rattle.join_defs.specs.Districts.{moved}

-- ---- two indices, moved alike
pub eqb_moved : (n x y : ℕ) → eqb (n + x) (n + y) ≡ eqb x y
eqb_moved n x y = go (ℕ_discrete x y)
  where
    go : Dec (x ≡ y) → eqb (n + x) (n + y) ≡ eqb x y
    go (yes e) = eq-eqb _ _ (ap (λ (k : ℕ). n + k) e) ∙ sym (eq-eqb _ _ e)
    go (no d) = ne_eqb (n + x) (n + y) (λ e. d (omega arith)) ∙ sym (ne_eqb x y d)

-- ---- the indices that pass
none_from : (p : ℕ → Bool) (d i : ℕ) → ((j : ℕ) → i ≤ j → j < i + d → p j ≡ false) → pass_from p d i ≡ []
unfolding pass_from
none_from p zero i h = refl
none_from p (suc d) i h =
    ap (λ (b : Bool). keep b i (pass_from p d (suc i))) (h i (omega arith) (omega arith)) ∙ none_from p d (suc i) (λ j l u. h j (omega arith) (omega arith))

keep_moved : (b : Bool) (n i : ℕ) (l : List ℕ) → keep b (n + i) (moved n l) ≡ moved n (keep b i l)
keep_moved true n i l = refl
keep_moved false n i l = refl

-- those from n on, by a test of how far past n they are
shift_from : (p q : ℕ → Bool) (n d i : ℕ) → ((j : ℕ) → i ≤ j → j < i + d → p (n + j) ≡ q j) → pass_from p d (n + i) ≡ moved n (pass_from q d i)
unfolding pass_from
shift_from p q n zero i h = refl
shift_from p q n (suc d) i h =
    ap (λ (b : Bool). keep b (n + i) (pass_from p d (suc (n + i)))) (h i (omega arith) (omega arith))
    ∙ ap (keep (q i) (n + i)) (ap (pass_from p d) (let z : suc (n + i) ≡ n + suc i = omega arith in z) ∙ shift_from p q n d (suc i) (λ j l u. h j (omega arith) (omega arith)))
    ∙ keep_moved (q i) n i (pass_from q d (suc i))

at_place : (p q : ℕ → Bool) (b n : ℕ) → ((i : ℕ) → i < n → p (b + i) ≡ q i) → pass_from p n (0 + b) ≡ moved b (passing q n)
at_place p q b n h = ap (pass_from p n) (let z : 0 + b ≡ b + 0 = omega arith in z) ∙ shift_from p q b n 0 (λ j l u. h j (omega arith))

-- where none passes before b and none past b + n
pub passing_within : (p q : ℕ → Bool) (b n e : ℕ) → ((i : ℕ) → i < b → p i ≡ false) → ((i : ℕ) → i < n → p (b + i) ≡ q i)
    → ((i : ℕ) → b + n ≤ i → i < b + n + e → p i ≡ false) → passing p (b + n + e) ≡ moved b (passing q n)
passing_within p q b n e low here high =
    pass_split p (b + n) e 0
    ∙ ap (λ (l : List ℕ). pass_from p (b + n) 0 ++ l) (none_from p e (0 + (b + n)) (λ j l u. high j (omega arith) (omega arith)))
    ∙ append-nil (pass_from p (b + n) 0)
    ∙ pass_split p b n 0
    ∙ ap (λ (l : List ℕ). l ++ pass_from p n (0 + b)) (none_from p b 0 (λ j l u. low j (omega arith)))
    ∙ at_place p q b n here

-- the first n, and those past n
pub passing_split : (p q r : ℕ → Bool) (n m : ℕ) → ((i : ℕ) → i < n → p (0 + i) ≡ q i) → ((i : ℕ) → i < m → p (n + i) ≡ r i)
    → passing p (n + m) ≡ moved 0 (passing q n) ++ moved n (passing r m)
passing_split p q r n m low high =
    pass_split p n m 0
    ∙ ap (λ (l : List ℕ). l ++ pass_from p m (0 + n)) (at_place p q 0 n low)
    ∙ ap (λ (l : List ℕ). moved 0 (passing q n) ++ l) (at_place p r n m high)

-- ---- loops over moved indices, all below n
module _ (b n : ℕ) where
  rest_below : (k : ℕ) (ks : List ℕ) → All (λ j. j < n) (k ∷ ks) → All (λ j. j < n) ks
  rest_below k ks h j l = h (suc j) (omega arith)

  pub each_moved : {S : Type 0} (f g : ℕ → S → S) → ((k : ℕ) (s : S) → k < n → f (b + k) s ≡ g k s) → (ks : List ℕ) → All (λ k. k < n) ks → (s : S)
      → each f (moved b ks) s ≡ each g ks s
  unfolding each
  each_moved f g h [] u s = refl
  each_moved f g h (k ∷ ks) u s = ap (each f (moved b ks)) (h k s (u 0 (omega arith))) ∙ each_moved f g h ks (rest_below k ks u) (g k s)

  pub map_moved : {B : Type 0} (f g : ℕ → B) → ((k : ℕ) → k < n → f (b + k) ≡ g k) → (ks : List ℕ) → All (λ k. k < n) ks → map f (moved b ks) ≡ map g ks
  map_moved f g h [] u = refl
  map_moved {B} f g h (k ∷ ks) u =
      ap (λ (x : B). x ∷ map f (moved b ks)) (h k (u 0 (omega arith))) ∙ ap (λ (l : List B). g k ∷ l) (map_moved f g h ks (rest_below k ks u))

pub map_raised : (b : ℕ) (g : ℕ → ℕ) (ks : List ℕ) → map (λ k. b + g k) ks ≡ moved b (map g ks)
map_raised b g [] = refl
map_raised b g (k ∷ ks) = ap (λ (l : List ℕ). (b + g k) ∷ l) (map_raised b g ks)

-- ---- stores in the middle of three lists
set_high : {A : Type 0} (x y : List A) (i : ℕ) (v : A) → set (x ++ y) (length x + i) v ≡ x ++ set y i v
set_high [] y i v = ap (λ (k : ℕ). set y k v) (let z : 0 + i ≡ i = omega arith in z)
set_high (a ∷ x) y i v =
    ap (λ (k : ℕ). set (a ∷ (x ++ y)) k v) (let z : suc (length x) + i ≡ suc (length x + i) = omega arith in z) ∙ ap (λ l. a ∷ l) (set_high x y i v)

set_middle : {A : Type 0} (before x after : List A) (o i : ℕ) (v : A) → length before ≡ o → i < length x
    → set (before ++ (x ++ after)) (o + i) v ≡ before ++ (set x i v ++ after)
set_middle {A} before x after o i v e h =
    ap (λ (k : ℕ). set (before ++ (x ++ after)) (k + i) v) (sym e)
    ∙ set_high before (x ++ after) i v
    ∙ ap (λ (l : List A). before ++ l) (set-append_left x after i v h)

module _ (ks : List ℕ) (out before after : List Float) (o n : ℕ) (e : length before ≡ o) (below : All (λ k. k < n) ks) where
  middle_from : (d i : ℕ) → i + d ≤ length ks → (x : List Float) → length x ≡ n
      → iter (scatter_at (moved o ks) out) d i (before ++ (x ++ after)) ≡ before ++ (iter (scatter_at ks out) d i x ++ after)
  unfolding iter
  middle_from zero i l x s = refl
  middle_from (suc d) i l x s =
      ap (λ (k : ℕ). iter (scatter_at (moved o ks) out) d (suc i) (set (before ++ (x ++ after)) k (at out i))) (get_map (λ j. o + j) ks i 0 0 (omega arith))
      ∙ ap (iter (scatter_at (moved o ks) out) d (suc i)) (set_middle before x after o (get_or ks i 0) (at out i) e (omega (arith, below i (omega arith))))
      ∙ middle_from d (suc i) (omega arith) (scatter_at ks out i x) (length-set x (get_or ks i 0) (at out i) ∙ s)

  pub scatter_middle : (x : List Float) → length x ≡ n → scatter (moved o ks) out (before ++ (x ++ after)) ≡ before ++ (scatter ks out x ++ after)
  unfolding scatter
  scatter_middle x s =
      ap (λ (k : ℕ). iter (scatter_at (moved o ks) out) k 0 (before ++ (x ++ after))) (length-map ks (λ i. o + i)) ∙ middle_from (length ks) 0 (omega arith) x s

length_from : (ks : List ℕ) (out : List Float) (d i : ℕ) (x : List Float) → length (iter (scatter_at ks out) d i x) ≡ length x
unfolding iter
length_from ks out zero i x = refl
length_from ks out (suc d) i x = length_from ks out d (suc i) (scatter_at ks out i x) ∙ length-set x (get_or ks i 0) (at out i)

pub length_scatter : (ks : List ℕ) (out x : List Float) → length (scatter ks out x) ≡ length x
unfolding scatter
length_scatter ks out x = length_from ks out (length ks) 0 x

-- ---- stage by stage
pub stages_append : {S : Type 0} (f : ℕ → S → Stage S) (ks js : List ℕ) (s : S) → each_stage f (ks ++ js) s ≡ onward (each_stage f ks s) (each_stage f js)
unfolding each_stage
stages_append f [] js s = refl
stages_append {S} f (k ∷ ks) js s = go (f k s) (λ t. stages_append f ks js t)
  where
    go : (o : Stage S) → ((t : S) → each_stage f (ks ++ js) t ≡ onward (each_stage f ks t) (each_stage f js))
        → onward o (each_stage f (ks ++ js)) ≡ onward (onward o (each_stage f ks)) (each_stage f js)
    go (stopped e) h = refl
    go (going t) h = h t

-- where each stage that goes on does to t what f does to w t, so do all together
module _ {S T : Type 0} (w : T → S) (b n : ℕ) (Q : T → Type 0) (f : ℕ → S → Stage S) (g : ℕ → T → Stage T)
    (one : (k : ℕ) (t u : T) → k < n → Q t → g k t ≡ going u → (f (b + k) (w t) ≡ going (w u)) × Q u) where
  pub stages_within : (ks : List ℕ) → All (λ k. k < n) ks → (t u : T) → Q t → each_stage g ks t ≡ going u → (each_stage f (moved b ks) (w t) ≡ going (w u)) × Q u
  unfolding each_stage
  stages_within [] below t u q e = let z : t ≡ u = cc in (ap (λ (v : T). going (w v)) z, subst Q z q)
  stages_within (k ∷ ks) below t u q e = go (g k t) refl e (λ v. stages_within ks (λ j l. below (suc j) (omega arith)) v u)
    where
      go : (o : Stage T) → g k t ≡ o → onward o (each_stage g ks) ≡ going u → ((v : T) → Q v → each_stage g ks v ≡ going u → (each_stage f (moved b ks) (w v) ≡ going (w u)) × Q u)
          → (onward (f (b + k) (w t)) (each_stage f (moved b ks)) ≡ going (w u)) × Q u
      go (stopped r) x y rest = absurd (unequal (cc))
      go (going v) x y rest =
          let a = one k t v (below 0 (omega arith)) q x in
          let r = rest v a.1 y in
          (ap (λ (o : Stage S). onward o (each_stage f (moved b ks))) a.0 ∙ r.0, r.1)
