-- The whole operation: what it says, and the tables.
use Prim.Native.Nat.{ℕ, ◌≤◌, ◌<◌}
use mathlib.Core.Bool.{true, false}
use mathlib.Core.List.{List}
use mathlib.Core.Path.{◌≡◌, ap, ◌∙◌}
use borrow.Author.Tests.{lt-ltb, le-ltb}
use lib.Ieee.{Float}
use Rattle.refusal.specs.declared.Refusal.TheVariants.{Length, Place}
use Rattle.casefile_defs.specs.Tables.{Places, places_of, sizes_ok}
use Rattle.casefile_defs.specs.declared.Header.{Header}
use Rattle.small.specs.declared.order.Shape.{Shape}
use Rattle.small_defs.specs.Networks.{all_places, network_at}
use Rattle.small_defs.specs.Tables.{header_of, header_at, tables_at, made, tests_of, small_network}
use Rattle.small.specs.Columns.{shape_at, corridor_count, counted, header_for}
use Rattle.small.proofs.Filled.{buses, corridors_counted}
use Rattle.std.specs.Prelude.{Err, Ok}

pub places_same : {ladder ladder' : List Float} {tier tier' : List ℕ} {reading reading' weight weight' : List Float} {bus bus' slack slack' : List ℕ} {pmin pmin' pmax pmax' c1 c1' c2 c2' : List Float}
    {a a' b b' circuits circuits' : List ℕ} {km km' share share' : List Float} {cap cap' : List ℕ} {sheet sheet' : List Float}
    → ladder ≡ ladder' → tier ≡ tier' → reading ≡ reading' → weight ≡ weight' → bus ≡ bus' → slack ≡ slack' → pmin ≡ pmin' → pmax ≡ pmax' → c1 ≡ c1' → c2 ≡ c2'
    → a ≡ a' → b ≡ b' → circuits ≡ circuits' → km ≡ km' → share ≡ share' → cap ≡ cap' → sheet ≡ sheet'
    → places_of ladder tier reading weight bus slack pmin pmax c1 c2 a b circuits km share cap sheet ≡ places_of ladder' tier' reading' weight' bus' slack' pmin' pmax' c1' c2' a' b' circuits' km' share' cap' sheet'
places_same e0 e1 e2 e3 e4 e5 e6 e7 e8 e9 e10 e11 e12 e13 e14 e15 e16 = cc

pub made_whole : (i : ℕ) (p q : Places) {s : Shape} {g : Header} → i < all_places → sizes_ok p ≡ true → s ≡ shape_at i → g ≡ header_for s → q ≡ tables_at i → made (Ok g) q ≡ small_network i p
unfolding small_network tests_of header_of
made_whole i p q {s} {g} h z e f t =
    let v : g ≡ header_at i = f ∙ ap (λ (n : ℕ). counted n (corridor_count s.corridors)) (buses i h e) ∙ ap (λ (n : ℕ). counted (network_at i).buses n) (corridors_counted i h e) in
    simp (z, lt-ltb i all_places h, v, t)

pub lengths_refused : (i : ℕ) (p : Places) → sizes_ok p ≡ false → made (Err Length) p ≡ small_network i p
unfolding small_network tests_of
lengths_refused i p e = simp e

pub place_refused : (i : ℕ) (p : Places) → sizes_ok p ≡ true → all_places ≤ i → made (Err Place) p ≡ small_network i p
unfolding small_network tests_of
place_refused i p e h = simp (e, le-ltb i all_places h)
