-- The whole operation, from what its parts leave.
use Prim.Native.Nat.{ℕ, ◌+◌}
use mathlib.Core.Bool.{Bool, true}
use mathlib.Core.List.{List, []}
use mathlib.Core.Path.{◌≡◌, refl, sym, ap, ◌∙◌}
use lib.Ieee.{Float}
use lib.ListN.{length}
use Rattle.refusal.specs.declared.Refusal.{Refusal}
use Rattle.casefile_defs.specs.Bounds.{most_sheet}
use Rattle.casefile_defs.specs.Tables.{Places, places_of, sizes_ok}
use Rattle.casefile_defs.specs.declared.Header.{Header}
use Rattle.casefile_defs.proofs.Whole.{Sizes, sizes}
use Rattle.plan_defs.specs.Case.{Case, levels}
use Rattle.join_defs.specs.Columns.{figures, counts, joined_sheet}
use Rattle.join_defs.specs.Districts.{joined_case, check_of}
use Rattle.case_defs.specs.Cases.{case_as}
use Rattle.join_defs.specs.Joining.{header_of, laid_out, Outcome, outcome, joined_by, join_cases}
use Rattle.join_defs.proofs.Tables.{sheet_are, filled_tables}
use Rattle.join.specs.Joins.{headers_of}
use Rattle.join.proofs.Refusals.{CallJoinable}
use Rattle.std.specs.Prelude.{Err, Ok, Result}

pub places_same : {ladder ladder' : List Float} {tier tier' : List ℕ} {reading reading' : List Float} {weight weight' : List Float} {bus bus' : List ℕ}
    {slack slack' : List ℕ} {pmin pmin' : List Float} {pmax pmax' : List Float} {c1 c1' : List Float} {c2 c2' : List Float} {a a' : List ℕ} {b b' : List ℕ}
    {circuits circuits' : List ℕ} {length_km lengthKm' : List Float} {share share' : List Float} {cap cap' : List ℕ} {sheet sheet' : List Float}
    → ladder ≡ ladder' → tier ≡ tier' → reading ≡ reading' → weight ≡ weight' → bus ≡ bus' → slack ≡ slack' → pmin ≡ pmin' → pmax ≡ pmax' → c1 ≡ c1' → c2 ≡ c2' → a ≡ a' → b ≡ b' → circuits ≡ circuits' → length_km ≡ lengthKm' → share ≡ share' → cap ≡ cap' → sheet ≡ sheet'
    → places_of ladder tier reading weight bus slack pmin pmax c1 c2 a b circuits length_km share cap sheet ≡ places_of ladder' tier' reading' weight' bus' slack' pmin' pmax' c1' c2' a' b' circuits' lengthKm' share' cap' sheet'
places_same e0 e1 e2 e3 e4 e5 e6 e7 e8 e9 e10 e11 e12 e13 e14 e15 e16 = cc

-- the tables that two cases leave in those that are lent: the second's buses stand after n of the first's, its o corridors after m, at so many levels
unfoldable pub tables_by : ℕ → ℕ → ℕ → ℕ → Places → Places → Places → Places
tables_by n m o levels p q out =
    places_of (figures (length out.ladder) p.ladder []) (counts (length out.tier) 0 p.tier q.tier) (figures (length out.reading) p.reading q.reading)
    (figures (length out.weight) p.weight q.weight) (counts (length out.bus) n p.bus q.bus) (counts (length out.slack) 0 p.slack q.slack)
    (figures (length out.pmin) p.pmin q.pmin) (figures (length out.pmax) p.pmax q.pmax) (figures (length out.c1) p.c1 q.c1)
    (figures (length out.c2) p.c2 q.c2) (counts (length out.a) n p.a q.a) (counts (length out.b) n p.b q.b)
    (counts (length out.circuits) 0 p.circuits q.circuits) (figures (length out.length_km) p.length_km q.length_km) (figures (length out.share) p.share q.share)
    (counts (length out.cap) 0 p.cap q.cap) (joined_sheet (length out.sheet) m o levels p.sheet q.sheet)

module _ (h : Header) (p : Places) (k : Header) (q : Places) (out : Places) where
  abbrev first : Case
  first = case_as h p

  abbrev second : Case
  second = case_as k q

  abbrev joined : Result (Unit {0}) Refusal → Outcome
  joined r = joined_by r (joined_case first second) (h.target + k.target) out

  -- ---- a refusal
  pub refused_as : (b : Bool) (f : Refusal) (a : Result Header Refusal) (r : Result (Unit {0}) Refusal) → a ≡ Err f → r ≡ Err f → r ≡ check_of b first h.target second k.target
      → b ≡ sizes_ok out → outcome a out ≡ join_cases h p k q out
  unfolding join_cases joined_by
  refused_as b f a r e g c z =
      ap (λ (x : Result Header Refusal). outcome x out) e ∙ ap joined (sym g ∙ c ∙ ap (λ (x : Bool). check_of x first h.target second k.target) z)

  -- ---- an answer: the tables, column by column, and the header
  tables_by_lem : levels first ≡ levels second → Sizes out → tables_by h.buses h.corridors k.corridors (levels first) p q out ≡ laid_out (joined_case first second)
  unfolding tables_by
  tables_by_lem e z =
      places_same
      (ap (λ (m : ℕ). figures m p.ladder []) z.ladder)
      (ap (λ (m : ℕ). counts m 0 p.tier q.tier) z.tier)
      (ap (λ (m : ℕ). figures m p.reading q.reading) z.reading)
      (ap (λ (m : ℕ). figures m p.weight q.weight) z.weight)
      (ap (λ (m : ℕ). counts m h.buses p.bus q.bus) z.bus)
      (ap (λ (m : ℕ). counts m 0 p.slack q.slack) z.slack)
      (ap (λ (m : ℕ). figures m p.pmin q.pmin) z.pmin)
      (ap (λ (m : ℕ). figures m p.pmax q.pmax) z.pmax)
      (ap (λ (m : ℕ). figures m p.c1 q.c1) z.c1)
      (ap (λ (m : ℕ). figures m p.c2 q.c2) z.c2)
      (ap (λ (m : ℕ). counts m h.buses p.a q.a) z.a)
      (ap (λ (m : ℕ). counts m h.buses p.b q.b) z.b)
      (ap (λ (m : ℕ). counts m 0 p.circuits q.circuits) z.circuits)
      (ap (λ (m : ℕ). figures m p.length_km q.length_km) z.length_km)
      (ap (λ (m : ℕ). figures m p.share q.share) z.share)
      (ap (λ (m : ℕ). counts m 0 p.cap q.cap) z.cap)
      (ap (λ (m : ℕ). joined_sheet m h.corridors k.corridors (levels first) p.sheet q.sheet) z.sheet ∙ sym (sheet_are h.corridors k.corridors (levels first) p.sheet q.sheet most_sheet (levels second) e))
      ∙ sym (filled_tables first second)

  pub tables_joined : (n : ℕ) (r : Places) → n ≡ h.buses → levels first ≡ levels second → sizes_ok out ≡ true
      → r ≡ tables_by n h.corridors k.corridors (levels first) p q out → r ≡ laid_out (joined_case first second)
  tables_joined n r e l z f = f ∙ ap (λ (i : ℕ). tables_by i h.corridors k.corridors (levels first) p q out) e ∙ tables_by_lem l (sizes out z)

  header_is : headers_of h k ≡ header_of (joined_case first second) (h.target + k.target)
  unfolding joined_case
  header_is = refl

  pub joined_whole : (g : Header) (r : Places) → CallJoinable (sizes_ok out) first h.target second k.target → g ≡ headers_of h k → r ≡ laid_out (joined_case first second)
      → outcome (Ok g) r ≡ join_cases h p k q out
  unfolding join_cases joined_by
  joined_whole g r j e f =
      ap (λ (x : Header). outcome (Ok x) r) (e ∙ header_is)
      ∙ ap (λ (y : Places). outcome (Ok (header_of (joined_case first second) (h.target + k.target))) y) f
      ∙ ap joined j.free
