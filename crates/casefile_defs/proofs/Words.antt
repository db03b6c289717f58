-- A number of several bytes: a byte more in front adds it to 256 times the rest.
use Prim.Native.Nat.{ℕ, suc, ◌+◌, ◌*◌, ◌<◌}
use mathlib.Core.Path.{◌≡◌, refl, ap}
use mathlib.Core.List.{List}
use lib.ListN.{length, get_or, take}
use lib.Seq.{drop-cons}
use Rattle.casefile_defs.specs.Layout.{little, word}

pub word_none : (p : ℕ) (s : List ℕ) → word 0 p s ≡ 0
unfolding word little
word_none p s = refl

-- one byte more in front
pub word_more : (k p : ℕ) (s : List ℕ) → p < length s → word (suc k) p s ≡ get_or s p 0 + 256 * word k (suc p) s
unfolding word little
word_more k p s h = ap (λ (l : List ℕ). little (take (suc k) l)) (drop-cons s p 0 h)
