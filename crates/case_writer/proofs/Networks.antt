-- What small_network says and leaves, for its caller: of the definition's three ways only one gives an answer, and one refuses a place.
use Prim.Native.Nat.{ℕ, ◌≤◌, ◌<◌}
use mathlib.Core.Bool.{Bool, true, false}
use mathlib.Core.List.{List}
use mathlib.Core.Path.{◌≡◌, sym, ap, ◌∙◌, subst}
use native.Mathlib.Decide.{dec_lt}
use native.Mathlib.Omega.{arith}
use borrow.Author.Tests.{lt-ltb, le-ltb}
use lib.Dec.{ltb}
use lib.Ieee.{Float, eq, of_bits}
use lib.ListN.{length}
use Rattle.loops.specs.Figures.{at, one}
use Rattle.loops.proofs.Scan.{pass_all}
use Rattle.loops.proofs.Tab.{length_tab}
use Rattle.refusal.specs.Number.{number_of, index_of}
use Rattle.refusal.specs.Reply.{Reply, answered, refused}
use Rattle.refusal.specs.declared.Refusal.{Refusal}
use Rattle.refusal.specs.declared.Refusal.TheVariants.{Place}
use Rattle.casefile_defs.specs.Reading.{Small}
use Rattle.casefile_defs.specs.Tables.{Places, sizes_ok}
use Rattle.std.specs.Prelude.{Ok, Err}
use Rattle.casefile_defs.specs.declared.Header.{Header}
use Rattle.casefile_defs.proofs.Counts.{small_of}
use Rattle.casefile_defs.proofs.Whole.{sizes}
use Rattle.casefile_theorems.specs.Cases.{longest}
use Rattle.casefile_theorems.specs.Writer.{file_of, caps_only}
use Rattle.casefile_writer.specs.Files.{file_in}
use Rattle.casefile_writer.specs.Put.{Put}
use Rattle.casefile_writer.specs.Words.{weighs}
use Rattle.casefile_writer.proofs.Lent.{within}
use Rattle.casefile_writer.proofs.Puts.{same_bytes}
use Rattle.small_defs.specs.Networks.{all_places}
use Rattle.small_defs.specs.Tables.{padded, laid_out, header_at, tables_at, Made, made, tests_of, small_network}
use Rattle.small_theorems.specs.Held.{file_at}
use Rattle.small_theorems.proofs.Accepted.{sound_at}
use Rattle.small_theorems.proofs.Theorems.{weights_one}
use Rattle.case_writer.specs.Files.{Wrote}

-- the two ways of tables that are sized
there : (i : ℕ) (q : Places) → sizes_ok q ≡ true → i < all_places → small_network i q ≡ made (Ok (header_at i)) (tables_at i)
unfolding small_network tests_of
there i q z h = simp (z, lt-ltb i all_places h)

past : (i : ℕ) (q : Places) → sizes_ok q ≡ true → all_places ≤ i → small_network i q ≡ made (Err Place) q
unfolding small_network tests_of
past i q z h = simp (z, le-ltb i all_places h)

-- what a reply says
abbrev header_of_lem : Header → Reply Header → Header
header_of_lem d (answered h) = h
header_of_lem d (refused n k) = d

abbrev number_of_lem : Reply Header → ℕ
number_of_lem (answered h) = 0
number_of_lem (refused n k) = n

abbrev index_of_lem : Reply Header → ℕ
index_of_lem (answered h) = 0
index_of_lem (refused n k) = k

pub record Answer (i : ℕ) (h : Header) (p : Places) : Type 0 where
  pub below : i < all_places
  pub header : h ≡ header_at i
  pub tables : p ≡ tables_at i

pub network_read : (i : ℕ) (q p : Places) {h : Header} → sizes_ok q ≡ true → made (Ok h) p ≡ small_network i q → Answer i h p
unfolding number_of
network_read i q p {h} z f =
    elim (dec_lt i all_places) [
      | yes b ↦
          let t = f ∙ there i q z b in
          record { below = b; header = ap (λ (m : Made). header_of_lem h m.reply) t; tables = ap (λ (m : Made). m.places) t }
      | no b ↦ absurd (let v : ◌≡◌ {A = ℕ} 0 23 = ap (λ (m : Made). number_of_lem m.reply) (f ∙ past i q z (omega arith)) in omega arith)
    ]

pub network_refused : (i : ℕ) (q p : Places) (f : Refusal) (before : List ℕ) → sizes_ok q ≡ true → made (Err f) p ≡ small_network i q → Wrote i before before (Err f)
unfolding number_of index_of Wrote
network_refused i q p f before z t =
    elim (dec_lt i all_places) [
      | yes b ↦
          let u = t ∙ there i q z b in
          absurd (let v : ◌≡◌ {A = ℕ} 1 0 = ap (λ (m : Made). answers m.reply) u in omega arith)
      | no b ↦
          let u = t ∙ past i q z (omega arith) in
          (omega arith, ap (λ (m : Made). number_of_lem m.reply) u, ap (λ (m : Made). index_of_lem m.reply) u)
    ]
  where
    answers : Reply Header → ℕ
    answers (answered h) = 0
    answers (refused n k) = 1

-- ---- what writing the file asks for
tables_sized : (i : ℕ) → sizes_ok (tables_at i) ≡ true
unfolding sizes_ok laid_out padded
tables_sized i = simp length_tab

pub small : (i : ℕ) {h : Header} {p : Places} → Answer i h p → Small h
small i a = subst Small (sym a.header) (small_of (header_at i) (sound_at i a.below).counts)

-- ---- and what it says
-- every weight of a small network is 1, so its buses are written as BU
unweighed : (i : ℕ) → i < all_places → weighs (tables_at i).weight (header_at i).buses ≡ false
unfolding weighs eq of_bits
unweighed i b =
    let w = (tables_at i).weight in
    let n = (header_at i).buses in
    let room : n ≤ length w = omega (arith, (small_of (header_at i) (sound_at i b).counts).buses, (sizes (tables_at i) (tables_sized i)).weight) in
    ap (λ (k : ℕ). ltb k n) (pass_all (λ j. eq (at w j) one) n (λ j h. ap (λ (x : Float). eq x one) (within w j (omega arith) ∙ weights_one i b j h)))
    ∙ le-ltb n n (omega arith)

unweighed_file : (i : ℕ) → i < all_places → file_in (header_at i) (tables_at i) ≡ file_at i
unweighed_file i b = ap (λ (t : Bool). file_of (caps_only t (tables_at i)) (header_at i) (tables_at i)) (unweighed i b)

pub wrote_file : (i : ℕ) {h : Header} {p : Places} {before after : List ℕ} {n : ℕ} → Answer i h p → n ≤ longest → Put before 0 (file_in h p) after n → Wrote i before after (Ok n)
unfolding Wrote
wrote_file i {h} {p} a l q =
    (a.below, l, same_bytes (ap (λ (g : Header). file_in g p) a.header ∙ ap (λ (t : Places). file_in (header_at i) t) a.tables ∙ unweighed_file i a.below) q)
