-- A design is its corridor's line and the rating of its bank: so code keeps a bank for each corridor and builds the struct anew.
-- A new bank forgets the old one (`bank-twice`); the rest goes by whether the corridor steps down.
use Prim.Native.Nat.{ℕ, ◌<◌, max}
use mathlib.Core.Bool.{Bool, true, false, cond}
use mathlib.Core.List.{List}
use mathlib.Core.Path.{◌≡◌, refl, sym, ap, ◌∙◌}
use native.Mathlib.Decide.{ℕ_discrete}
use native.Mathlib.Omega.{arith}
use lib.Ieee.{Float, nan, lt, of_bits}
use lib.ListN.{length, get_or, set, length-set}
use lib.Seq.{ext_get_or, get_or-set_same, get_or-set_other}
use Rattle.loops.specs.Figures.{at, float, times, over, lesser, greater}
use Rattle.loops.specs.Loops.{tab}
use Rattle.loops.proofs.Order.{le_of_not_lt, le_of_lt, left_real, le_through, lt_not_le}
use Rattle.loops.proofs.Tab.{length_tab, get_tab, tab_same}
use Rattle.plan_defs.specs.Constants.{transformer_headroom, transformer_min_mva}
use Rattle.plan_defs.specs.Case.{Case, load_of, from_of, to_of, kv_high}
use Rattle.plan_defs.specs.Design.{with_bank, set_transformer_mva, banked_by, line_at, line_of, drawn, design_at, design_circuits, steps_down, gen_at_bus, transformer_corridors, bank_for, kept_by, kept_bank, redesign, design, no_design}
use Rattle.plan_defs.specs.Build.{built, bank_below, set_bank, rebuilt, drawn_all, bank_of, bank_anew, banks_anew, build_of}
use Rattle.plan_defs.specs.declared.CircuitDesign.{CircuitDesign}

module _ (c : Case) (level : List ℕ) (k : ℕ) where
  -- ---- a larger bank, where there is one below its line
  bank_by : (b : Bool) (a mva : Float) → bank_below (banked_by b (line_at c level k) a) ≡ true
      → set_transformer_mva (banked_by b (line_at c level k) a) mva ≡ banked_by b (line_at c level k) mva
  unfolding set_transformer_mva with_bank line_at line_of
  bank_by true a mva e = refl
  bank_by false a mva e = cc

  pub bank_drawn : (a mva : Float) → bank_below (drawn c level k a) ≡ true → set_transformer_mva (drawn c level k a) mva ≡ drawn c level k mva
  unfolding drawn
  bank_drawn a mva e = bank_by (steps_down c level k) a mva e

  -- ---- a redesign keeps it so: the bank that is kept of it gives it again
  again_by : (b : Bool) (a floor : Float)
      → banked_by b (line_at c level k) (bank_of (kept_bank (banked_by b (line_at c level k) a) floor)) ≡ kept_bank (banked_by b (line_at c level k) a) floor
  unfolding set_transformer_mva with_bank line_at line_of
  again_by false a floor = refl
  again_by true a floor = go (lt a (lesser floor (line_at c level k).line_rate))
    where
      keep : Float
      keep = lesser floor (line_at c level k).line_rate

      go : (t : Bool)
          → set_transformer_mva (line_at c level k) (bank_of (kept_by t (set_transformer_mva (line_at c level k) a) keep)) ≡ kept_by t (set_transformer_mva (line_at c level k) a) keep
      go true = refl
      go false = refl

  anew_at : (floors : List Float) → kept_bank (design_at c level k) (at floors k) ≡ drawn c level k (bank_anew c level floors k)
  unfolding design_at drawn bank_anew
  anew_at floors = sym (again_by (steps_down c level k) (bank_for c level (to_of c level k)) (at floors k))

  -- ---- what every bank leaves: kV, ends, length, the line's rating and the spread
  kv_by : (b : Bool) (a : Float) → (banked_by b (line_at c level k) a).kv ≡ kv_high c level k
  unfolding set_transformer_mva with_bank line_at line_of
  kv_by true a = refl
  kv_by false a = refl

  from_by : (b : Bool) (a : Float) → (banked_by b (line_at c level k) a).from ≡ from_of c level k
  unfolding set_transformer_mva with_bank line_at line_of
  from_by true a = refl
  from_by false a = refl

  to_by : (b : Bool) (a : Float) → (banked_by b (line_at c level k) a).to ≡ to_of c level k
  unfolding set_transformer_mva with_bank line_at line_of
  to_by true a = refl
  to_by false a = refl

  km_by : (b : Bool) (a : Float) → (banked_by b (line_at c level k) a).length_km ≡ at c.km k
  unfolding set_transformer_mva with_bank line_at line_of
  km_by true a = refl
  km_by false a = refl

  rate_by : (b : Bool) (a : Float) → (banked_by b (line_at c level k) a).line_rate ≡ (line_at c level k).line_rate
  unfolding set_transformer_mva with_bank
  rate_by true a = refl
  rate_by false a = refl

  pub drawn_kv : (a : Float) → (drawn c level k a).kv ≡ kv_high c level k
  unfolding drawn
  drawn_kv a = kv_by (steps_down c level k) a

  pub drawn_from : (a : Float) → (drawn c level k a).from ≡ from_of c level k
  unfolding drawn
  drawn_from a = from_by (steps_down c level k) a

  pub drawn_to : (a : Float) → (drawn c level k a).to ≡ to_of c level k
  unfolding drawn
  drawn_to a = to_by (steps_down c level k) a

  pub drawn_km : (a : Float) → (drawn c level k a).length_km ≡ at c.km k
  unfolding drawn
  drawn_km a = km_by (steps_down c level k) a

  pub drawn_rate : (a : Float) → (drawn c level k a).line_rate ≡ (line_at c level k).line_rate
  unfolding drawn
  drawn_rate a = rate_by (steps_down c level k) a

  -- a bank that is there is the one drawn
  mva_by : (b : Bool) (a : Float) → bank_below (banked_by b (line_at c level k) a) ≡ true → (banked_by b (line_at c level k) a).transformer_mva ≡ a
  unfolding set_transformer_mva with_bank line_at line_of
  mva_by true a e = refl
  mva_by false a e = cc

  drawn_mva : (a : Float) → bank_below (drawn c level k a) ≡ true → (drawn c level k a).transformer_mva ≡ a
  unfolding drawn
  drawn_mva a e = mva_by (steps_down c level k) a e

  -- and its corridor steps down
  steps_by : (b : Bool) (a : Float) → bank_below (banked_by b (line_at c level k) a) ≡ true → b ≡ true
  unfolding line_at line_of
  steps_by true a e = refl
  steps_by false a e = e

  drawn_steps : (a : Float) → bank_below (drawn c level k a) ≡ true → steps_down c level k ≡ true
  unfolding drawn
  drawn_steps a e = steps_by (steps_down c level k) a e

-- ---- all corridors
module _ (c : Case) (level : List ℕ) where
  pub length_drawn : (banks : List Float) → length (drawn_all c level banks) ≡ c.corridors
  unfolding drawn_all
  length_drawn banks = length_tab c.corridors _

  pub drawn_at : (banks : List Float) (k : ℕ) → k < c.corridors → design (drawn_all c level banks) k ≡ drawn c level k (at banks k)
  unfolding drawn_all
  drawn_at banks k h = get_tab c.corridors (λ (j : ℕ). drawn c level j (at banks j)) k no_design h

  pub drawn_set : (banks : List Float) (k : ℕ) (mva : Float) → k < c.corridors → length banks ≡ c.corridors
      → set (drawn_all c level banks) k (drawn c level k mva) ≡ drawn_all c level (set banks k mva)
  drawn_set banks k mva h n =
      ext_get_or no_design (set (drawn_all c level banks) k (drawn c level k mva)) (drawn_all c level (set banks k mva))
      (length-set (drawn_all c level banks) k _ ∙ length_drawn banks ∙ sym (length_drawn (set banks k mva)))
      (λ j q. at_place j (omega (arith, length-set (drawn_all c level banks) k (drawn c level k mva), length_drawn banks)) (ℕ_discrete j k))
    where
      at_place : (j : ℕ) → j < c.corridors → Dec (j ≡ k)
          → get_or (set (drawn_all c level banks) k (drawn c level k mva)) j no_design ≡ get_or (drawn_all c level (set banks k mva)) j no_design
      at_place j q (yes e) =
          let b : k < length banks = omega arith in
          let l : k < length (drawn_all c level banks) = omega (arith, length_drawn banks) in
          ap (λ (i : ℕ). get_or (set (drawn_all c level banks) k (drawn c level k mva)) i no_design) e
          ∙ get_or-set_same (drawn_all c level banks) k (drawn c level k mva) no_design l
          ∙ ap (drawn c level k) (sym (get_or-set_same banks k mva nan b))
          ∙ sym (drawn_at (set banks k mva) k h)
          ∙ ap (λ (i : ℕ). get_or (drawn_all c level (set banks k mva)) i no_design) (sym e)
      at_place j q (no m) =
          get_or-set_other (drawn_all c level banks) k j (drawn c level k mva) no_design m
          ∙ drawn_at banks j q
          ∙ ap (drawn c level j) (sym (get_or-set_other banks k j mva nan m))
          ∙ sym (drawn_at (set banks k mva) j q)

  unfoldable fresh_banks : List Float
  fresh_banks = tab c.corridors (λ k. bank_for c level (to_of c level k))

  design_is : design_circuits c level ≡ drawn_all c level fresh_banks
  unfolding design_circuits drawn_all design_at fresh_banks
  design_is =
      tab_same c.corridors (design_at c level) (λ k. drawn c level k (at fresh_banks k))
      (λ k h. ap (drawn c level k) (sym (get_tab c.corridors (λ (j : ℕ). bank_for c level (to_of c level j)) k nan h)))

  pub redesign_is : (floors : List Float) → redesign c level floors ≡ drawn_all c level (banks_anew c level floors)
  unfolding redesign drawn_all banks_anew
  redesign_is floors =
      tab_same c.corridors _ _
      (λ k h. anew_at c level k floors ∙ ap (drawn c level k) (sym (get_tab c.corridors (bank_anew c level floors) k nan h)))

  -- after a raise, from any designs
  pub rebuilt_is : (circuits : List ℕ) (ds : List CircuitDesign) (floors : List Float) (upsized : List ℕ)
      → rebuilt c level (built circuits ds floors upsized) ≡ build_of c level circuits (banks_anew c level floors) floors upsized
  unfolding rebuilt
  rebuilt_is circuits ds floors upsized = ap (λ (x : List CircuitDesign). built circuits x floors upsized) (redesign_is floors)

  -- a bank set in the state that the slices stand for
  pub set_bank_lem : (circuits : List ℕ) (banks floors : List Float) (upsized : List ℕ) (k : ℕ) (mva : Float) → k < c.corridors → length banks ≡ c.corridors
      → bank_below (drawn c level k (at banks k)) ≡ true
      → set_bank k mva (build_of c level circuits banks floors upsized) ≡ build_of c level circuits (set banks k mva) (set floors k mva) (set upsized k 1)
  unfolding set_bank
  set_bank_lem circuits banks floors upsized k mva h n e =
      ap (λ (ds : List CircuitDesign). built circuits ds (set floors k mva) (set upsized k 1))
      (ap (λ (d : CircuitDesign). set (drawn_all c level banks) k (set_transformer_mva d mva)) (drawn_at banks k h)
      ∙ ap (set (drawn_all c level banks) k) (bank_drawn c level k (at banks k) mva e)
      ∙ drawn_set banks k mva h n)

-- ---- no bank is below the least one: a fresh bank is not, and only a larger one takes its place
pub larger_bank : (a b : Float) → lt a transformer_min_mva ≡ false → lt a b ≡ true → lt b transformer_min_mva ≡ false
unfolding of_bits
larger_bank a b e l = go (lt b transformer_min_mva) refl
  where
    go : (t : Bool) → lt b transformer_min_mva ≡ t → t ≡ false
    go false q = refl
    go true q =
        let m = le_of_lt a b l in
        absurd (lt_not_le b transformer_min_mva q (le_through transformer_min_mva a b (le_of_not_lt a transformer_min_mva (left_real a b m) tt e) m))

fresh_large : (c : Case) (level : List ℕ) (lo : ℕ) → lt (bank_for c level lo) transformer_min_mva ≡ false
unfolding bank_for lt of_bits
fresh_large c level lo = go (over (times (greater (load_of c lo) (gen_at_bus c lo)) transformer_headroom) (float (max (transformer_corridors c level lo) 1)))
  where
    by : (t : Bool) (x : Float) → lt x transformer_min_mva ≡ t → lt (cond t transformer_min_mva x) transformer_min_mva ≡ false
    by true x e = refl
    by false x e = e

    go : (x : Float) → lt (greater x transformer_min_mva) transformer_min_mva ≡ false
    go x = by (lt x transformer_min_mva) x refl

anew_large : (c : Case) (level : List ℕ) (floors : List Float) (k : ℕ) → steps_down c level k ≡ true → lt (bank_anew c level floors k) transformer_min_mva ≡ false
unfolding bank_anew design_at drawn set_transformer_mva with_bank
anew_large c level floors k e = by (steps_down c level k) e
  where
    fresh : Float
    fresh = bank_for c level (to_of c level k)

    keep : Float
    keep = lesser (at floors k) (line_at c level k).line_rate

    go : (t : Bool) → lt fresh keep ≡ t → lt (bank_of (kept_by t (set_transformer_mva (line_at c level k) fresh) keep)) transformer_min_mva ≡ false
    go true l = larger_bank fresh keep (fresh_large c level (to_of c level k)) l
    go false l = fresh_large c level (to_of c level k)

    by : (b : Bool) → b ≡ true → lt (bank_of (kept_bank (banked_by b (line_at c level k) fresh) (at floors k))) transformer_min_mva ≡ false
    by true p = go (lt fresh keep) refl
    by false p = cc

-- ---- what a list of designs is, where the banks are not named
pub record Drawn (c : Case) (level : List ℕ) (ds : List CircuitDesign) : Type 0 where
  pub banks : List Float
  pub size : length banks ≡ c.corridors
  pub are : ds ≡ drawn_all c level banks
  -- where a corridor does not step down it has no bank
  pub large : (k : ℕ) → k < c.corridors → steps_down c level k ≡ true → lt (at banks k) transformer_min_mva ≡ false

module _ (c : Case) (level : List ℕ) where
  pub drawn_first : Drawn c level (design_circuits c level)
  unfolding fresh_banks
  drawn_first =
      record {
        banks = fresh_banks c level;
        size = length_tab c.corridors _;
        are = design_is c level;
        large = λ k h e. rw (get_tab c.corridors (λ (j : ℕ). bank_for c level (to_of c level j)) k nan h) (fresh_large c level (to_of c level k));
      }

  pub drawn_again : (floors : List Float) → Drawn c level (redesign c level floors)
  unfolding banks_anew
  drawn_again floors =
      record {
        banks = banks_anew c level floors;
        size = length_tab c.corridors _;
        are = redesign_is c level floors;
        large = λ k h e. rw (get_tab c.corridors (bank_anew c level floors) k nan h) (anew_large c level floors k e);
      }

  module _ (ds : List CircuitDesign) (D : Drawn c level ds) where
    pub drawn_size : length ds ≡ c.corridors
    drawn_size = ap length D.are ∙ length_drawn c level D.banks

    pub drawn_here : (k : ℕ) → k < c.corridors → design ds k ≡ drawn c level k (at D.banks k)
    drawn_here k h = ap (λ (l : List CircuitDesign). design l k) D.are ∙ drawn_at c level D.banks k h

    pub design_kv : (k : ℕ) → k < c.corridors → (design ds k).kv ≡ kv_high c level k
    design_kv k h = ap (λ (d : CircuitDesign). d.kv) (drawn_here k h) ∙ drawn_kv c level k (at D.banks k)

    -- with a larger bank
    larger_here : (k : ℕ) (mva : Float) → k < c.corridors → bank_below (design ds k) ≡ true → lt (design ds k).transformer_mva mva ≡ true
        → lt mva transformer_min_mva ≡ false
    larger_here k mva h e l =
        let q = drawn_here k h in
        let b = sym (ap (λ (d : CircuitDesign). bank_below d) q) ∙ e in
        let a : (design ds k).transformer_mva ≡ at D.banks k =
        ap (λ (d : CircuitDesign). d.transformer_mva) q ∙ drawn_mva c level k (at D.banks k) b in
        larger_bank (at D.banks k) mva (D.large k h (drawn_steps c level k (at D.banks k) b)) (sym (ap (λ (x : Float). lt x mva) a) ∙ l)

    pub drawn_bank : (k : ℕ) (mva : Float) → k < c.corridors → bank_below (design ds k) ≡ true → lt (design ds k).transformer_mva mva ≡ true
        → Drawn c level (set ds k (set_transformer_mva (design ds k) mva))
    drawn_bank k mva h e larger =
        record {
          banks = set D.banks k mva;
          size = length-set D.banks k mva ∙ D.size;
          large = λ j q steps. large_at j q steps (ℕ_discrete j k);
          are =
              ap (λ (d : CircuitDesign). set ds k (set_transformer_mva d mva)) (drawn_here k h)
              ∙ ap (set ds k) (bank_drawn c level k (at D.banks k) mva (sym (ap (λ (d : CircuitDesign). bank_below d) (drawn_here k h)) ∙ e))
              ∙ ap (λ (l : List CircuitDesign). set l k (drawn c level k mva)) D.are
              ∙ drawn_set c level D.banks k mva h D.size;
        }
      where
        large_at : (j : ℕ) → j < c.corridors → steps_down c level j ≡ true → Dec (j ≡ k) → lt (at (set D.banks k mva) j) transformer_min_mva ≡ false
        large_at j q steps (yes i) =
            let w : k < length D.banks = omega (arith, D.size) in
            rw (i, get_or-set_same D.banks k mva nan w) (larger_here k mva h e larger)
        large_at j q steps (no n) = rw (get_or-set_other D.banks k j mva nan n) (D.large j q steps)
