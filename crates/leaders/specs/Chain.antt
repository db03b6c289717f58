-- A chain of corridors between two buses, and what is true of the leaders.
use Rattle.std.specs.Prelude.{ℕ, ◌<◌, List, ◌≡◌, length, get_or}

-- from i to j over corridors, each taken either way
pub data Chain (a b : List ℕ) (i : ℕ) : ℕ → Type 0 where
  here : Chain a b i i
  forth : (k : ℕ) → k < length a → Chain a b i (get_or a k 0) → Chain a b i (get_or b k 0)
  back : (k : ℕ) → k < length a → Chain a b i (get_or b k 0) → Chain a b i (get_or a k 0)

pub record Led (n : ℕ) (a b l : List ℕ) : Type 0 where
  pub size : length l ≡ n
  -- a leader is a bus, and leads itself
  pub below : (i : ℕ) → i < n → get_or l i 0 < n
  pub leads : (i : ℕ) → i < n → get_or l (get_or l i 0) 0 ≡ get_or l i 0
  -- the two ends of a corridor have one leader
  pub ends : (k : ℕ) → k < length a → get_or l (get_or a k 0) 0 ≡ get_or l (get_or b k 0) 0
  -- two buses have one leader exactly where a chain joins them
  pub joined : (i j : ℕ) → i < n → j < n → get_or l i 0 ≡ get_or l j 0 → Chain a b i j
  pub alike : (i j : ℕ) → Chain a b i j → get_or l i 0 ≡ get_or l j 0
