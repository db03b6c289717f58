-- What a request that passes all tests has, and 1, which the code says before it has the tables.
use Prim.Native.Nat.{ℕ}
use mathlib.Core.Bool.{Bool, true, false, ◌&&◌}
use mathlib.Core.Path.{◌≡◌, sym, ◌∙◌}
use borrow.Author.Tests.{eqb-true, eq-eqb, leb-true, le-leb}
use lib.Dec.{eqb}
use lib.ListN.{length}
use lib.Ieee.{Float}
use Rattle.loops.specs.Bounds.{most_generators}
use Rattle.loops.proofs.Bools.{both, and_of}
use Rattle.loops.proofs.Verdicts.{passes_all, where_all_pass}
use Rattle.refusal.specs.declared.Refusal.TheVariants.{Length}
use Rattle.dispatch_defs.specs.Units.{Units, Even}
use Rattle.dispatch_defs.specs.Operation.{lengths_ok, tests_of, check_of}
use Rattle.dispatch_defs.specs.Limits.{Accepted}
use Rattle.std.specs.Prelude.{Err}
use Rattle.refusal.specs.Reply.{no_refusal}

-- ---- the lengths
pub record Lengths (n a b c d e : ℕ) : Type 0 where
  pub pmin : a ≡ n
  pub pmax : b ≡ n
  pub c1 : c ≡ n
  pub c2 : d ≡ n
  pub mw : e ≡ n

lengths_are : (n a b c d e : ℕ) → lengths_ok n a b c d e ≡ true → Lengths n a b c d e
lengths_are n a b c d e h =
    let h₄ = both (((eqb a n && eqb b n) && eqb c n) && eqb d n) (eqb e n) h in
    let h₃ = both ((eqb a n && eqb b n) && eqb c n) (eqb d n) h₄.0 in
    let h₂ = both (eqb a n && eqb b n) (eqb c n) h₃.0 in
    let h₁ = both (eqb a n) (eqb b n) h₂.0 in
    record {
      pmin = eqb-true a n h₁.0;
      pmax = eqb-true b n h₁.1;
      c1 = eqb-true c n h₂.1;
      c2 = eqb-true d n h₃.1;
      mw = eqb-true e n h₄.1;
    }

lengths_ok_lem : (n a b c d e : ℕ) → Lengths n a b c d e → lengths_ok n a b c d e ≡ true
lengths_ok_lem n a b c d e l =
    and_of (and_of (and_of (and_of (eq-eqb a n l.pmin) (eq-eqb b n l.pmax)) (eq-eqb c n l.c1)) (eq-eqb d n l.c2)) (eq-eqb e n l.mw)

module _ (n : ℕ) (u : Units) (m : ℕ) where
  abbrev fits : Bool
  fits = lengths_ok n (length u.pmin) (length u.pmax) (length u.c1) (length u.c2) m

  lengths : fits ≡ true → Lengths n (length u.pmin) (length u.pmax) (length u.c1) (length u.c2) m
  lengths h = lengths_are n (length u.pmin) (length u.pmax) (length u.c1) (length u.c2) m h

  pub even : fits ≡ true → Even u
  even h =
      let l = lengths h in
      record { pmax = l.pmax ∙ sym l.pmin; c1 = l.c1 ∙ sym l.pmin; c2 = l.c2 ∙ sym l.pmin }

module _ (n : ℕ) (u : Units) (d : Float) (m : ℕ) where
  pub check_length : fits n u m ≡ false → Err Length ≡ check_of n u d m
  unfolding tests_of
  check_length a = rw a

  -- ---- a request that passes, and one that is to pass
  pub passes : check_of n u d m ≡ no_refusal → Accepted n u d m
  unfolding tests_of
  passes h =
      let p = passes_all (tests_of n u d m) h in
      record {
        size = (lengths n u m p.0).pmin;
        room = (lengths n u m p.0).mw;
        few = leb-true n most_generators p.1.0;
        units = record { even = even n u m p.0; each = p.1.1.0 };
        demand = p.1.1.1.0;
      }

  pub accepts : Accepted n u d m → check_of n u d m ≡ no_refusal
  unfolding tests_of
  accepts p =
      let e = p.units.even in
      let l =
      lengths_ok_lem n (length u.pmin) (length u.pmax) (length u.c1) (length u.c2) m
      (record { pmin = p.size; pmax = e.pmax ∙ p.size; c1 = e.c1 ∙ p.size; c2 = e.c2 ∙ p.size; mw = p.room }) in
      sym (where_all_pass (tests_of n u d m) (l, (le-leb n most_generators p.few, (p.units.each, (p.demand, tt)))))
