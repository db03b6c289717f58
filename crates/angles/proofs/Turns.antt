-- A turn over an edge or a ground, on the whole slice, is its turn on the row that it writes; and the three calls of `apply` make the map.
-- A store inside a row is a store to the row; the row that `apply` writes stands behind those that it reads, so that they are parts of what is before it.
use Prim.Native.Nat.{ℕ, ◌+◌, ◌-◌, ◌<◌, ◌≤◌}
use mathlib.Core.Path.{◌≡◌, sym, ap, ◌∙◌}
use mathlib.Core.List.{List, ◌++◌, append_assoc}
use native.Mathlib.Omega.{arith}
use lib.Ieee.{Float, nan}
use lib.ListN.{length, get_or, set, take, drop}
use Rattle.std.proofs.lemmas.List.{drop-take, take-take, drop-drop}
use Rattle.std.specs.Iterator.Adapters.{zip_first, zip_second}
use Rattle.std.specs.List.{zip}
use Rattle.std.specs.Slice.Iter.{iter_rest}
use Rattle.std.specs.declared.iter.Zip.{Zip}
use Rattle.std.proofs.iter.Yields.{fronts}
use Rattle.std.proofs.Common.{Iter}
use Rattle.std.proofs.lemmas.Iterator.{YieldsList, zips, YieldsList-from_slice, YieldsList-from_zip}
use Rattle.std.proofs.lemmas.List.{get_or_default}
use Rattle.std.proofs.lemmas.Slice.Zip.{length-zip, get_or-zip}
use Rattle.loops.specs.Figures.{at, plus, times}
use Rattle.loops.specs.Loops.{iter}
use Rattle.loops.specs.Parts.{part, put}
use Rattle.loops.proofs.Parts.{get_part}
use Rattle.loops.proofs.Puts.{set_in_twice}
use Rattle.angles_defs.specs.Network.{edges_of, Edges, raise, weighed, weigh, carry, scatter, kept, dot, product, zeros}
use Rattle.angles_defs.proofs.Vectors.{length_scatter, length_kept}
use Rattle.angles.specs.Edges.{EdgesBelow}
use Rattle.angles.specs.Slices.{weighed_in, Wrote}

-- a product of two figures that stand in two vectors
pub product_of : (u v : List Float) (i : ℕ) (a b : Float) → a ≡ at u i → b ≡ at v i → times a b ≡ product u v i
product_of u v i a b p q = rw (p, q)

-- ---- an edge between a and b, of which both are below n
module _ (w : List Float) (a b n y : ℕ) (h : y + n ≤ length w) (la : a < n) (lb : b < n) where
  weighed_row : (d : Float) → weighed_in w a b d y ≡ put w y (weighed (part y n w) a b d)
  weighed_row d =
      set_in_twice nan w y n a b (plus (at w (y + a)) d) (λ v. plus v d) h la lb
      ∙ ap (λ (v : Float). put w y (raise (set (part y n w) a (plus v d)) b d)) (sym (get_part y n w a nan la))

module _ (n : ℕ) (from to : List ℕ) (weight : List Float) (B : EdgesBelow n from to weight) (e : ℕ) (l : e < length from) where
  pub weigh_turn : (w w' : List Float) (y : ℕ) → y + n ≤ length w → w' ≡ weighed_in w (get_or from e 0) (get_or to e 0) (at weight e) y
      → w' ≡ put w y (weigh (edges_of from to weight) e (part y n w))
  weigh_turn w w' y h q = q ∙ weighed_row w (get_or from e 0) (get_or to e 0) n y h (B.from_below e l) (B.to_below e l) (at weight e)

-- ---- a loop over the ends and the weights at once: what it goes over, the edge of a turn, and how many turns there are
pub edges_yielded : (from to : List ℕ) (weight : List Float) (s : Zip (Zip (Iter ℕ) (Iter ℕ)) (Iter Float))
    → iter_rest (zip_first (zip_first s)) ≡ from → iter_rest (zip_second (zip_first s)) ≡ to → iter_rest (zip_second s) ≡ weight
    → YieldsList (zips (zips fronts fronts) fronts) (λ p. ((p.0.0.now, p.0.1.now), p.1.now)) s (zip (zip from to) weight)
edges_yielded from to weight s f t w = YieldsList-from_zip (YieldsList-from_zip (YieldsList-from_slice from f) (YieldsList-from_slice to t)) (YieldsList-from_slice weight w)

pub edge_turn : (from to : List ℕ) (weight : List Float) (e a b : ℕ) (v : Float) → e < length (zip (zip from to) weight) → ((a, b), v) ≡ get_or (zip (zip from to) weight) e ((a, b), v)
    → (e < length from) × (a ≡ get_or from e 0) × (b ≡ get_or to e 0) × (v ≡ at weight e)
edge_turn from to weight e a b v h q =
    let l : e < length (zip from to) = omega (arith, length-zip (zip from to) weight) in
    let i : e < length weight = omega (arith, length-zip (zip from to) weight) in
    let j : e < length from = omega (arith, length-zip from to) in
    let k : e < length to = omega (arith, length-zip from to) in
    let p = q ∙ get_or-zip (zip from to) weight e ((a, b), v) l i in
    let r = ap (λ (x : (ℕ × ℕ) × Float). x.0) p ∙ get_or-zip from to e (a, b) j k in (
      j,
      ap (λ (x : ℕ × ℕ). x.0) r ∙ get_or_default from e a 0 j,
      ap (λ (x : ℕ × ℕ). x.1) r ∙ get_or_default to e b 0 k,
      ap (λ (x : (ℕ × ℕ) × Float). x.1) p ∙ get_or_default weight e v nan i,
    )

pub edge_count : (n : ℕ) (from to : List ℕ) (weight : List Float) → EdgesBelow n from to weight → length (zip (zip from to) weight) ≡ length from
edge_count n from to weight B = let t = B.to_count in let w = B.weight_count in omega (arith, length-zip (zip from to) weight, length-zip from to)

-- ---- the calls of `apply`, on the slice before the row that is written and on that row
part_before : (o n y : ℕ) (w : List Float) → o + n ≤ y → take (o + n - o) (drop o (take y w)) ≡ part o n w
unfolding part
part_before o n y w h =
    let z : o + n - o ≡ n = omega arith in
    let e : y ≡ o + (y - o) = omega arith in
    ap (λ (k : ℕ). take k (drop o (take y w))) z
    ∙ ap (λ (k : ℕ). take n (drop o (take k w))) e
    ∙ ap (λ (r : List Float). take n r) (drop-take o (y - o) w)
    ∙ take-take n (y - o) (drop o w) (omega arith)

joined : (n y : ℕ) (w v before rest : List Float) → before ≡ take y w → rest ≡ drop y w → length v ≡ n → before ++ (v ++ drop n rest) ≡ put w y v
unfolding put
joined n y w v before rest eb er l =
    rw (eb, er) (
    ap (λ (r : List Float). take y w ++ (v ++ r)) (drop-drop n y w ∙ ap (λ (k : ℕ). drop (y + k) w) (sym l))
    ∙ sym (append_assoc (take y w) v (drop (y + length v) w))
    )

pub apply_calls : (n : ℕ) (E : Edges) (w before rest y₁ y₂ y₃ : List Float) (g x y : ℕ) (r : Float)
    → g + n ≤ y → x + n ≤ y → before ≡ take y w → rest ≡ drop y w → y₁ ≡ zeros n
    → y₂ ≡ iter (carry E (take (x + n - x) (drop x before))) (length E.from) 0 y₁
    → y₃ ≡ kept (length y₂) (take (g + n - g) (drop g before)) y₂
    → r ≡ dot (length y₂) (take (x + n - x) (drop x before)) (kept (length y₂) (take (g + n - g) (drop g before)) y₂)
    → Wrote w (before ++ (y₃ ++ drop n rest)) y (kept n (part g n w) (scatter n E (part x n w))) (dot n (part x n w) (kept n (part g n w) (scatter n E (part x n w)))) r
unfolding scatter
apply_calls n E w before rest y₁ y₂ y₃ g x y r hg hx eb er e₁ e₂ e₃ er' =
    let px : take (x + n - x) (drop x before) ≡ part x n w = ap (λ (l : List Float). take (x + n - x) (drop x l)) eb ∙ part_before x n y w hx in
    let pg : take (g + n - g) (drop g before) ≡ part g n w = ap (λ (l : List Float). take (g + n - g) (drop g l)) eb ∙ part_before g n y w hg in
    let s : y₂ ≡ scatter n E (part x n w) = rw (px, e₁) at e₂ in
    let l : length y₂ ≡ n = ap length s ∙ length_scatter n E (part x n w) in
    let k : y₃ ≡ kept n (part g n w) (scatter n E (part x n w)) = rw (pg, l, s) at e₃ in
    record {
      left = joined n y w y₃ before rest eb er (ap length k ∙ length_kept n _ _) ∙ ap (λ (v : List Float). put w y v) k;
      answered = rw (px, pg, l, s) at er';
    }
