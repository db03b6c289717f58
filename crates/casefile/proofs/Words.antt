-- A number of several bytes, with zeros behind them that make them eight, and how large it can be; eight bytes at once.
use Prim.Native.Nat.{ℕ, zero, suc, ◌+◌, ◌-◌, ◌*◌, ◌^◌, ◌<◌, ◌≤◌}
use mathlib.Core.Path.{◌≡◌, refl, ap, ◌∙◌, subst}
use mathlib.Core.List.{List, [], ◌∷◌, ◌++◌}
use native.Mathlib.Omega.{arith}
use native.Mathlib.Nat.{pow-suc, pow-le-pow_right}
use lib.Dec.{lit<}
use lib.ListN.{length, get_or, take, drop, length-take, length-drop, length-append}
use Rattle.std.specs.Int.{w64, from_le_bytes}
use Rattle.loops.specs.Loops.{tab}
use Rattle.loops.proofs.Tab.{tab_of}
use Rattle.casefile_defs.specs.Layout.{little, word}
use Rattle.casefile_defs.proofs.Words.{word_none, word_more}

-- ---- eight bytes at once
little_bytes : (bs : List ℕ) → length bs ≡ 8 → from_le_bytes w64 bs ≡ little bs
unfolding little tab
little_bytes bs e = let q : tab 8 (λ i. get_or bs i 0) ≡ bs = tab_of 8 bs 0 e in subst (λ (l : List ℕ). from_le_bytes w64 bs ≡ little l) q (omega arith)

pub eight_bytes : (p : ℕ) (s bs : List ℕ) (n : ℕ) → p + 8 ≤ length s → bs ≡ take (p + 8 - p) (drop p s) → n ≡ from_le_bytes w64 bs → n ≡ word 8 p s
unfolding word
eight_bytes p s bs n h e q =
    let z : p + 8 - p ≡ 8 = omega arith in
    let b : bs ≡ take 8 (drop p s) = e ∙ ap (λ (k : ℕ). take k (drop p s)) z in
    q ∙ little_bytes bs (ap length b ∙ simp (length-take, length-drop) (omega arith)) ∙ ap little b

-- ---- fewer bytes, with zeros behind them
little_drop : (w : ℕ) (l : List ℕ) → little l ≡ 0 → little (drop w l) ≡ 0
unfolding little
little_drop zero l e = e
little_drop (suc w) [] e = e
little_drop (suc w) (b ∷ l) e = little_drop w l (omega arith)

little_before : (a z : List ℕ) → little z ≡ 0 → little (a ++ z) ≡ little a
unfolding little
little_before [] z e = e
little_before (b ∷ a) z e = ap (λ (x : ℕ). b + 256 * x) (little_before a z e)

pub few_bytes : (w p : ℕ) (s bs part : List ℕ) (n : ℕ) → w ≤ 8 → p + w ≤ length s → part ≡ take (p + w - p) (drop p s)
    → bs ≡ part ++ drop w (0 ∷ 0 ∷ 0 ∷ 0 ∷ 0 ∷ 0 ∷ 0 ∷ 0 ∷ []) → n ≡ from_le_bytes w64 bs → n ≡ word w p s
unfolding word little
few_bytes w p s bs part n h k e b q =
    let z : p + w - p ≡ w = omega arith in
    let f : part ≡ take w (drop p s) = e ∙ ap (λ (i : ℕ). take i (drop p s)) z in
    let l : length part ≡ w = ap length f ∙ simp (length-take, length-drop) (omega arith) in
    let m : length bs ≡ 8 = ap length b ∙ simp (length-append, length-drop) (omega arith) in
    q ∙ little_bytes bs m ∙ ap little b ∙ little_before part _ (little_drop w (0 ∷ 0 ∷ 0 ∷ 0 ∷ 0 ∷ 0 ∷ 0 ∷ 0 ∷ []) refl) ∙ ap little f

pub few_small : (w p : ℕ) (s : List ℕ) → ((i : ℕ) → get_or s i 0 < 256) → p + w ≤ length s → word w p s < 256 ^ w
few_small zero p s b h = rw (word_none p s) (lit< tt)
few_small (suc w) p s b h =
    let m : word w (suc p) s < 256 ^ w = few_small w (suc p) s b (omega arith) in
    let g : get_or s p 0 < 256 = b p in
    rw (word_more w p s (omega arith), pow-suc 256 w) (omega arith)

-- a number of k bytes is below that of any width of at least as many
pub within : (w k : ℕ) {x : ℕ} → k ≤ w → x < 256 ^ k → x < 256 ^ w
within w k h l = let m : 256 ^ k ≤ 256 ^ w = pow-le-pow_right (lit< tt) h in omega arith
