-- The corridors at each bus, in the order of the table: the first one of each bus, and after each corridor the next at either of its ends.
use Rattle.std.specs.Prelude.{◌≡◌, List, Bool, cond, not, ◌||◌, ℕ, ◌+◌, ◌-◌, ◌≤◌, ◌<◌, eqb, ltb, length, get_or, replicate}
use Rattle.loops.specs.Loops.{first}
use Rattle.placement_defs.specs.Request.{most_buses, most_corridors}
use Rattle.placement_defs.specs.Distance.{Network}
use Rattle.placement.specs.declared.lists.Lists.{Lists}

abbrev pub ends_at : Network → ℕ → ℕ → Bool
ends_at w i c = eqb (get_or w.a c 0) i || eqb (get_or w.b c 0) i

-- the first corridor from c on that ends at bus i; m where there is none
unfoldable pub next_at : Network → ℕ → ℕ → ℕ
next_at w i c = first (λ e. not (ends_at w i e)) (w.m - c) c

-- a corridor as the lists keep it: m for any number that is none
abbrev pub kept_at : Network → ℕ → ℕ
kept_at w x = cond (ltb x w.m) x w.m

-- the lists as they begin
abbrev pub no_corridor : ℕ
no_corridor = 0xffff

abbrev pub blank_lists : Lists
blank_lists = record { head = replicate most_buses no_corridor; after_a = replicate most_corridors no_corridor; after_b = replicate most_corridors no_corridor }

-- the corridors from c on are listed
pub record Listed (w : Network) (c : ℕ) (head afterA afterB : List ℕ) : Type 0 where
  pub heads : length head ≡ most_buses
  pub next_as : length afterA ≡ most_corridors
  pub next_bs : length afterB ≡ most_corridors
  pub first : (i : ℕ) → i < w.n → kept_at w (get_or head i 0) ≡ next_at w i c
  pub next_a : (e : ℕ) → c ≤ e → e < w.m → kept_at w (get_or afterA e 0) ≡ next_at w (get_or w.a e 0) (e + 1)
  pub next_b : (e : ℕ) → c ≤ e → e < w.m → kept_at w (get_or afterB e 0) ≡ next_at w (get_or w.b e 0) (e + 1)
