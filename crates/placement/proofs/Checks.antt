-- What a request that passes the checks has.
use mathlib.Core.Path.{◌≡◌, sym}
use mathlib.Core.Bool.{true, ◌&&◌}
use Prim.Native.Nat.{ℕ}
use borrow.Author.Tests.{eqb-true, leb-true, ltb-true, lt-ltb, le-ltb}
use native.Mathlib.Omega.{arith}
use lib.Dec.{eqb, leb}
use lib.ListN.{length, get_or}
use Rattle.loops.specs.Bounds.{most_buses, most_corridors, most_generators}
use Rattle.loops.proofs.Bools.{both}
use Rattle.loops.proofs.Scan.{fault_some, fault_passed}
use Rattle.loops.proofs.Verdicts.{passes_all}
use Rattle.loops.specs.Loops.{fault}
use Rattle.refusal.specs.declared.Refusal.TheVariants.{Corridor}
use Rattle.placement_defs.specs.Request.{Request, Net, Units, lengths_ok, counts_ok, load_at, bus_ok, corridor_at, tests_of, check_of}
use Rattle.std.specs.Prelude.{Err, Some, None}
use Rattle.refusal.specs.Reply.{no_refusal}

-- ---- every slice has its length
pub record Lengths (k : Request) (b₁ b₂ : ℕ) : Type 0 where
  pub reading : length k.reading ≡ k.n
  pub weight : length k.weight ≡ k.n
  pub a : length k.a ≡ k.m
  pub b : length k.b ≡ k.m
  pub km : length k.km ≡ k.m
  pub generators : length k.generators ≡ k.g
  pub buses : b₁ ≡ k.n
  pub mvars : b₂ ≡ k.n

pub lengths_of : (k : Request) (buses mvars : ℕ) → lengths_ok k buses mvars ≡ true → Lengths k buses mvars
lengths_of k buses mvars e =
    let l0 = eqb (length k.reading) k.n in
    let l1 = l0 && eqb (length k.weight) k.n in
    let l2 = l1 && eqb (length k.a) k.m in
    let l3 = l2 && eqb (length k.b) k.m in
    let l4 = l3 && eqb (length k.km) k.m in
    let l5 = l4 && eqb (length k.generators) k.g in
    let l6 = l5 && eqb buses k.n in
    let h6 = both l6 (eqb mvars k.n) e in
    let h5 = both l5 (eqb buses k.n) h6.0 in
    let h4 = both l4 (eqb (length k.generators) k.g) h5.0 in
    let h3 = both l3 (eqb (length k.km) k.m) h4.0 in
    let h2 = both l2 (eqb (length k.b) k.m) h3.0 in
    let h1 = both l1 (eqb (length k.a) k.m) h2.0 in
    let h0 = both l0 (eqb (length k.weight) k.n) h1.0 in
    record {
      reading = eqb-true (length k.reading) k.n h0.0;
      weight = eqb-true (length k.weight) k.n h0.1;
      a = eqb-true (length k.a) k.m h1.1;
      b = eqb-true (length k.b) k.m h2.1;
      km = eqb-true (length k.km) k.m h3.1;
      generators = eqb-true (length k.generators) k.g h4.1;
      buses = eqb-true buses k.n h5.1;
      mvars = eqb-true mvars k.n h6.1;
    }

-- ---- a request that is sound
pub record Passed (k : Request) (buses mvars : ℕ) : Type 0 where
  pub lengths : Lengths k buses mvars
  pub net : Net k.n k.m k.a k.b k.km
  pub units : Units k.n k.generators

-- the verdict on tables of the right lengths and counts where a corridor is the first that is faulty
module _ (k : Request) (buses mvars : ℕ) (l : lengths_ok k buses mvars ≡ true) (c : counts_ok k.n k.m k.g ≡ true) (sound : None ≡ fault (load_at k.reading k.weight) k.n)
    (stand : None ≡ fault (λ i. bus_ok k.n (get_or k.generators i 0)) k.g) where
  pub corridor_refused : (i : ℕ) → Some i ≡ fault (corridor_at k.n k.a k.b k.km) k.m → Err (Corridor i) ≡ check_of k buses mvars
  unfolding tests_of
  corridor_refused i e =
      let f = fault_some _ _ i e in
      rw (l, c, le-ltb _ _ (fault_passed _ _ sound), le-ltb _ _ (fault_passed _ _ stand), ← f.0, lt-ltb _ _ f.1)

pub passed : (k : Request) (buses mvars : ℕ) → no_refusal ≡ check_of k buses mvars → Passed k buses mvars
unfolding tests_of
passed k buses mvars e =
    let n = k.n in
    let m = k.m in
    let g = k.g in
    let h = passes_all (tests_of k buses mvars) (sym e) in
    let l = lengths_of k buses mvars h.0 in
    let counts = both (leb n most_buses) (leb m most_corridors) (both (leb n most_buses && leb m most_corridors) (leb g most_generators) h.1.0).0 in
    record {
      lengths = l;
      net = record { few = leb-true n most_buses counts.0; short = leb-true m most_corridors counts.1; a_length = l.a; b_length = l.b; km_length = l.km; ends = h.1.1.1.1.0 };
      units = record { stand = λ c b. ltb-true _ n (h.1.1.1.0 c (omega (arith, l.generators))) };
    }
