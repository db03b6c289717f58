-- A turn of a loop that goes along the tables of the buses or the corridors at once, with its index: the line that it puts is that of its place.
use Prim.Native.Nat.{ℕ, ◌<◌}
use mathlib.Core.List.{List}
use mathlib.Core.Path.{◌≡◌, ap, ◌∙◌}
use native.Mathlib.Nat.{zero-add}
use native.Mathlib.Omega.{arith}
use lib.Ieee.{Float, nan}
use lib.ListN.{length, get_or}
use Rattle.std.specs.List.{zip, enumerate_from}
use Rattle.std.proofs.lemmas.List.{get_or_default}
use Rattle.std.proofs.lemmas.List.FromFn.{length-enumerate_from, get_or-enumerate_from}
use Rattle.std.proofs.lemmas.Slice.Zip.{length-zip, get_or-zip}
use Rattle.loops.specs.Figures.{at}
use Rattle.listing_defs.specs.Lines.{bus_line, corridor_line}

enumerated : {Z : Type 0} (zs : List Z) (n i : ℕ) (z : Z) → n < length (enumerate_from 0 zs) → (i, z) ≡ get_or (enumerate_from 0 zs) n (i, z)
    → (n < length zs) × (i ≡ n) × (z ≡ get_or zs n z)
enumerated zs n i z h e =
    let b : n < length zs = omega (arith, length-enumerate_from 0 zs) in
    let p = e ∙ get_or-enumerate_from 0 zs n (i, z) b in
    (b, ap (λ (q : _). q.0) p ∙ zero-add n, ap (λ (q : _). q.1) p)

zipped : {A B : Type 0} (ks : List A) (vs : List B) (n : ℕ) (k : A) (v : B) → n < length (zip ks vs) → (k, v) ≡ get_or (zip ks vs) n (k, v)
    → (n < length ks) × (n < length vs) × (k ≡ get_or ks n k) × (v ≡ get_or vs n v)
zipped ks vs n k v h e =
    let a : n < length ks = omega (arith, length-zip ks vs) in
    let b : n < length vs = omega (arith, length-zip ks vs) in
    let p = e ∙ get_or-zip ks vs n (k, v) a b in
    (a, b, ap (λ (q : _). q.0) p, ap (λ (q : _). q.1) p)

pub bus_turn : (tier : List ℕ) (angle : List Float) (n i t : ℕ) (a : Float) → n < length (enumerate_from 0 (zip tier angle)) → (i, (t, a)) ≡ get_or (enumerate_from 0 (zip tier angle)) n (i, (t, a))
    → (n < length angle) × (bus_line i t a ≡ bus_line n (get_or tier n 0) (at angle n))
bus_turn tier angle n i t a h e =
    let p = enumerated (zip tier angle) n i (t, a) h e in
    let q = zipped tier angle n t a p.0 p.2 in
    (q.1, rw (p.1, q.2 ∙ get_or_default tier n t 0 q.0, q.3 ∙ get_or_default angle n a nan q.1))

pub corridor_turn : (circuits : List ℕ) (flow rate : List Float) (n i c : ℕ) (f r : Float) → n < length (enumerate_from 0 (zip (zip circuits flow) rate))
    → (i, ((c, f), r)) ≡ get_or (enumerate_from 0 (zip (zip circuits flow) rate)) n (i, ((c, f), r))
    → (n < length circuits) × (corridor_line i c f r ≡ corridor_line n (get_or circuits n 0) (at flow n) (at rate n))
corridor_turn circuits flow rate n i c f r h e =
    let p = enumerated (zip (zip circuits flow) rate) n i ((c, f), r) h e in
    let q = zipped (zip circuits flow) rate n (c, f) r p.0 p.2 in
    let s = zipped circuits flow n c f q.0 q.2 in
    (s.0, rw (p.1, s.2 ∙ get_or_default circuits n c 0 s.0, s.3 ∙ get_or_default flow n f nan s.1, q.3 ∙ get_or_default rate n r nan q.1))
