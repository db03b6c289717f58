-- Records and tables as they are written: each record is read back in its place, and a walk over them passes.
-- A table is the records before one, that one, and the rest (split).
use Prim.Native.Nat.{ℕ, zero, suc, ◌+◌, ◌-◌, ◌<◌, ◌≤◌}
use mathlib.Core.Bool.{Bool, true, false, ◌&&◌, cond, and-false}
use mathlib.Core.Path.{◌≡◌, refl, sym, ap, ◌∙◌, subst}
use mathlib.Core.List.{List, [], ◌++◌, append_assoc, append-nil}
use mathlib.Core.Logic.{⊎_elim}
use native.Mathlib.Nat.{not-suc-le-zero, le_of_suc-le-suc, eq-or-lt_of_le, add-zero}
use native.Mathlib.Omega.{arith}
use borrow.Author.Tests.{eq-eqb, eqb-true}
use lib.Dec.{eqb}
use lib.ListN.{length, get_or, drop, length-append}
use lib.Seq.{drop_at, drop-drop, get_or-drop}
use Rattle.loops.specs.Loops.{iter}
use Rattle.loops.proofs.Bools.{and_of, both}
use Rattle.refusal.specs.declared.Refusal.TheVariants.{Mark}
use Rattle.casefile_defs.specs.Layout.{layout_of, size_of, offset_of, field, span_of, place_of, word, marked, standing, suits, spot}
use Rattle.casefile_defs.specs.Reading.{record_at, admitted, stepped, walked}
use Rattle.casefile_defs.specs.declared.Kind.{Kind}
use Rattle.casefile_defs.specs.declared.Kind.TheVariants.{Level, Bus, Generator, Corridor, Line, CappedCorridor, WeighedBus}
use Rattle.casefile_defs.proofs.Records.{good_at}
use Rattle.casefile_theorems.specs.Writer.{field_bytes, record_bytes, table_bytes}
use Rattle.casefile_theorems.proofs.Bytes.{Fine, field_in, allowed_in, word_in, allowed_in_lem, length_fields, fields_read, allowed_read}
use Rattle.std.specs.Prelude.{Err, Ok, Result}
use Rattle.refusal.specs.declared.Refusal.{Refusal}

-- a record's fields at a place are those of what follows its mark
pub field_in_lem : (k : Kind) (j at : ℕ) (s : List ℕ) → field k j at s ≡ field_in (layout_of k).fields (drop (at + 2) s) j
unfolding field_in
field_in_lem k j at s =
    let e : at + place_of k j ≡ at + 2 + offset_of (layout_of k).fields j = omega arith in
    ap (λ (n : ℕ). word (span_of k j) n s) e ∙ word_in (span_of k j) (at + 2) (offset_of (layout_of k).fields j) s

pub length_record : (k : Kind) (v : ℕ → ℕ) → length (record_bytes k v) ≡ size_of k
unfolding record_bytes
length_record k v = let e = length_fields (layout_of k).fields v in omega arith

-- the record at a place is passed, and its fields are v
pub record Stands (k : Kind) (s : List ℕ) (at : ℕ) (v : ℕ → ℕ) : Type 0 where
  pub room : at + size_of k ≤ length s
  pub mark : marked k s at ≡ true
  pub goes : (r : ℕ) → record_at k s r at ≡ Ok (at + size_of k)
  pub holds : (j : ℕ) → j < length (layout_of k).fields → field k j at s ≡ v j

module _ (k : Kind) (s p rest : List ℕ) (v : ℕ → ℕ) (at : ℕ) (e : s ≡ p ++ (record_bytes k v ++ rest)) (l : length p ≡ at) where
  from_here : drop at s ≡ record_bytes k v ++ rest
  from_here = ap (λ (x : List ℕ). drop at x) e ∙ drop_at p (record_bytes k v ++ rest) at l

  past_mark : drop (at + 2) s ≡ field_bytes (layout_of k).fields v ++ rest
  unfolding record_bytes
  past_mark = sym (drop-drop 2 at s) ∙ ap (λ (x : List ℕ). drop 2 x) from_here

  fits_here : at + size_of k ≤ length s
  fits_here =
      let a : length s ≡ length (p ++ (record_bytes k v ++ rest)) = ap length e in
      let b : length (p ++ (record_bytes k v ++ rest)) ≡ length p + length (record_bytes k v ++ rest) = length-append p (record_bytes k v ++ rest) in
      let c : length (record_bytes k v ++ rest) ≡ length (record_bytes k v) + length rest = length-append (record_bytes k v) rest in
      let d : length (record_bytes k v) ≡ size_of k = length_record k v in
      omega arith

  mark_first : get_or s at 0 ≡ (layout_of k).first
  unfolding record_bytes
  mark_first = ap (λ (n : ℕ). get_or s n 0) (sym (add-zero at)) ∙ sym (get_or-drop at s 0 0) ∙ ap (λ (x : List ℕ). get_or x 0 0) from_here

  mark_second : get_or s (at + 1) 0 ≡ (layout_of k).second
  unfolding record_bytes
  mark_second = sym (get_or-drop at s 1 0) ∙ ap (λ (x : List ℕ). get_or x 1 0) from_here

  marked_here : marked k s at ≡ true
  marked_here = and_of (eq-eqb _ _ mark_first) (eq-eqb _ _ mark_second)

  pub stands : Fine (layout_of k).fields v → Stands k s at v
  stands g = record {
    room = fits_here;
    mark = marked_here;
    goes = λ r. sym (good_at k s r at fits_here marked_here
        (allowed_in_lem (layout_of k).fields 2 at s ∙ ap (λ (x : List ℕ). allowed_in (layout_of k).fields x) past_mark ∙ allowed_read (layout_of k).fields v rest g));
    holds = λ j h. field_in_lem k j at s ∙ ap (λ (x : List ℕ). field_in (layout_of k).fields x j) past_mark ∙ fields_read (layout_of k).fields v rest g j h;
  }

-- ---- which record may stand where one of kind k is due: its mark tells that it does
abbrev pub Suits : Kind → Kind → Type 0
Suits k l = (s : List ℕ) (at : ℕ) → marked l s at ≡ true → standing k s at ≡ l

pub suits_level : Suits Level Level
suits_level s at e = refl

pub suits_generator : Suits Generator Generator
suits_generator s at e = refl

pub suits_line : Suits Line Line
suits_line s at e = refl

-- a mark has one second letter
other_mark : (a x y : ℕ) (p q : Bool) → (p && eqb a x) ≡ true → eqb x y ≡ false → (q && eqb a y) ≡ false
other_mark a x y p q e n =
    let g : a ≡ x = eqb-true a x (both p (eqb a x) e).1 in
    ap (λ (z : ℕ). q && eqb z y) g ∙ ap (λ (z : Bool). q && z) n ∙ and-false q

pub suits_bus : (b : Bool) → Suits Bus (cond b WeighedBus Bus)
suits_bus true s at e = ap (λ (x : Bool). cond x WeighedBus Bus) e
suits_bus false s at e =
    ap (λ (x : Bool). cond x WeighedBus Bus) (other_mark (get_or s (at + 1) 0) 0x55 0x56 (eqb (get_or s at 0) 0x42) (eqb (get_or s at 0) 0x42) e refl)

pub suits_corridor : (b : Bool) → Suits Corridor (cond b CappedCorridor Corridor)
suits_corridor true s at e = ap (λ (x : Bool). cond x CappedCorridor Corridor) e
suits_corridor false s at e =
    ap (λ (x : Bool). cond x CappedCorridor Corridor) (other_mark (get_or s (at + 1) 0) 0x4f 0x50 (eqb (get_or s at 0) 0x43) (eqb (get_or s at 0) 0x43) e refl)

-- record i of a table, with what stands before and after it
pub record Split (ks : ℕ → Kind) (n : ℕ) (v : ℕ → ℕ → ℕ) (i : ℕ) : Type 0 where
  pub after : List ℕ
  pub parts : table_bytes ks n v ≡ table_bytes ks i v ++ (record_bytes (ks i) (v i) ++ after)

pub split : (ks : ℕ → Kind) (v : ℕ → ℕ → ℕ) (n i : ℕ) → i < n → Split ks n v i
unfolding table_bytes
split ks v zero i h = absurd (not-suc-le-zero h)
split ks v (suc n) i h =
    ⊎_elim
    (λ e. subst (λ (m : ℕ). Split ks (suc n) v m) (sym e)
    (record { after = []; parts = ap (λ (x : List ℕ). table_bytes ks n v ++ x) (sym (append-nil (record_bytes (ks n) (v n)))) }))
    (λ l.
    let g = split ks v n i l in
    record {
      after = g.after ++ record_bytes (ks n) (v n);
      parts = ap (λ (x : List ℕ). x ++ record_bytes (ks n) (v n)) g.parts ∙ simp append_assoc;
    })
    (eq-or-lt_of_le (le_of_suc-le-suc h))

-- a record of kind l that stands where one of kind k is due, with its fields
pub record Found (k l : Kind) (s : List ℕ) (at : ℕ) (v : ℕ → ℕ) : Type 0 where
  pub kind : standing k s at ≡ l
  pub stands : Stands l s at v

-- ---- a table in a file: each record is found where it was written
module _ (k : Kind) (ks : ℕ → Kind) (v : ℕ → ℕ → ℕ) (s p rest : List ℕ) (at n : ℕ) (f : (i : ℕ) → i < n → Suits k (ks i)) (e : s ≡ p ++ (table_bytes ks n v ++ rest)) (l : length p ≡ at)
    (g : (i : ℕ) → i < n → Fine (layout_of (ks i)).fields (v i)) where
  here : (i : ℕ) → i < n → length (p ++ table_bytes ks i v) ≡ spot k s at i → Stands (ks i) s (spot k s at i) (v i)
  here i h q =
      let x = split ks v n i h in
      stands (ks i) s (p ++ table_bytes ks i v) (x.after ++ rest) (v i) (spot k s at i)
      (e ∙ ap (λ (y : List ℕ). p ++ (y ++ rest)) x.parts ∙ simp append_assoc)
      q
      (g i h)

  -- the records before record i end where it starts
  pub table_spot : (i : ℕ) → i ≤ n → length (p ++ table_bytes ks i v) ≡ spot k s at i
  unfolding table_bytes spot
  table_spot zero h = ap length (append-nil p) ∙ l
  table_spot (suc i) h =
      let q = table_spot i (omega arith) in
      let t : standing k s (spot k s at i) ≡ ks i = f i (omega arith) s (spot k s at i) (here i (omega arith) q).mark in
      ap length (sym (append_assoc p (table_bytes ks i v) (record_bytes (ks i) (v i))))
      ∙ length-append (p ++ table_bytes ks i v) (record_bytes (ks i) (v i))
      ∙ ap (λ (m : ℕ). m + length (record_bytes (ks i) (v i))) q
      ∙ ap (λ (m : ℕ). spot k s at i + m) (length_record (ks i) (v i))
      ∙ ap (λ (x : Kind). spot k s at i + size_of x) (sym t)

  pub table_stands : (i : ℕ) → i < n → Stands (ks i) s (spot k s at i) (v i)
  table_stands i h = here i h (table_spot i (omega arith))

  pub table_kind : (i : ℕ) → i < n → standing k s (spot k s at i) ≡ ks i
  table_kind i h = f i h s (spot k s at i) (table_stands i h).mark

  pub table_found : (i : ℕ) → i < n → Found k (ks i) s (spot k s at i) (v i)
  table_found i h = record { kind = table_kind i h; stands = table_stands i h }

  -- a walk passes them, where they suit the file's form
  module _ (weighed : Bool) (u : (i : ℕ) → i < n → suits weighed (ks i) ≡ true) where
    step_on : (i r : ℕ) → i < n → stepped k weighed s r (Ok (spot k s at i)) ≡ Ok (spot k s at (suc i))
    unfolding stepped admitted spot
    step_on i r h =
        let t = table_kind i h in
        ap (λ (x : Kind). admitted weighed x r (record_at x s r (spot k s at i))) t
        ∙ ap (λ (w : Result ℕ Refusal). admitted weighed (ks i) r w) ((table_stands i h).goes r)
        ∙ ap (λ (b : Bool). cond b (Ok (spot k s at i + size_of (ks i))) (Err (Mark r))) (u i h)
        ∙ ap (λ (x : Kind). Ok (spot k s at i + size_of x)) (sym t)

    walk_on : (d i r : ℕ) → i + d ≤ n → iter (stepped k weighed s) d r (Ok (spot k s at i)) ≡ Ok (spot k s at (i + d))
    unfolding iter
    walk_on zero i r h = ap (λ (m : ℕ). Ok (spot k s at m)) (sym (add-zero i))
    walk_on (suc d) i r h =
        ap (λ (w : Result ℕ Refusal). iter (stepped k weighed s) d (suc r) w) (step_on i r (omega arith))
        ∙ walk_on d (suc i) (suc r) (omega arith)
        ∙ ap (λ (m : ℕ). Ok (spot k s at m)) (let z : suc i + d ≡ i + suc d = omega arith in z)

    pub walk_stands : (start end : ℕ) → end - start ≡ n → walked k weighed start end s (Ok at) ≡ Ok (spot k s at n)
    unfolding walked spot
    walk_stands start end q =
        ap (λ (d : ℕ). iter (stepped k weighed s) d start (Ok at)) q
        ∙ walk_on n 0 start (omega arith)
        ∙ ap (λ (m : ℕ). Ok (spot k s at m)) (let z : 0 + n ≡ n = omega arith in z)
