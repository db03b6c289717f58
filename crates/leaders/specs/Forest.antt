-- How the code keeps the leaders, after `UnionFind` of geom/delaunay.rs: each bus has a parent, and the one bus of a set that is its own parent, the root, has the set's leader for its name.
-- Unlike the Rust's, a parent is never a higher bus; so the leader is a name apart.
use Rattle.std.specs.Prelude.{ℕ, ◌<◌, ◌≤◌, List, ◌≡◌, length, get_or}
use Rattle.loops.specs.Loops.{iter}
use Rattle.leaders.specs.Leaders.{join, join_at}
use Rattle.leaders.specs.Operation.{Ends}

abbrev pub Down : List ℕ → Type 0
Down parent = (x : ℕ) → get_or parent x 0 ≤ x

abbrev pub Root : List ℕ → ℕ → Type 0
Root parent x = get_or parent x 0 ≡ x

-- parents and names that give the n buses the leaders l
pub record Forest (n : ℕ) (parent name l : List ℕ) : Type 0 where
  pub size : length l ≡ n
  pub parents : n ≤ length parent
  pub names : n ≤ length name
  pub down : Down parent
  -- a parent is of the same set
  pub same : (x : ℕ) → x < n → get_or l (get_or parent x 0) 0 ≡ get_or l x 0
  pub named : (x : ℕ) → x < n → Root parent x → get_or name x 0 ≡ get_or l x 0
  -- a set has one root
  pub one : (x y : ℕ) → x < n → y < n → Root parent x → Root parent y → get_or l x 0 ≡ get_or l y 0 → x ≡ y

-- from a forest with x among its buses the parents are changed, and its leaders are not; and r is of x's set
abbrev pub Kept : ℕ → List ℕ → List ℕ → ℕ → Type 0
Kept x parent parent' r = (n : ℕ) (name l : List ℕ) → x < n → Forest n parent name l → Forest n parent' name l × (get_or l r 0 ≡ get_or l x 0)

-- the roots are still roots
abbrev pub Roots : List ℕ → List ℕ → Type 0
Roots parent parent' = (y : ℕ) → Root parent y → Root parent' y

-- what the search for the root of x leaves: r is that root
pub record Found (x : ℕ) (parent parent' : List ℕ) (r : ℕ) : Type 0 where
  pub lower : r ≤ x
  pub root : Root parent' r
  pub down : Down parent'
  pub roots : Roots parent parent'
  pub kept : Kept x parent parent' r

-- what joining a's set to b's leaves
pub record Joined (a b : ℕ) (parent name parent' name' : List ℕ) : Type 0 where
  pub down : Down parent'
  pub joins : (n : ℕ) (l : List ℕ) → a < n → b < n → Forest n parent name l → Forest n parent' name' (join a b l)

-- what joining the ends of k corridors leaves
pub record AllJoined (a b : List ℕ) (k : ℕ) (parent name parent' name' : List ℕ) : Type 0 where
  pub down : Down parent'
  pub joins : (n : ℕ) (l : List ℕ) → Ends n a b → Forest n parent name l → Forest n parent' name' (iter (join_at a b) k 0 l)

-- what handing the leaders out leaves in the first i places
abbrev pub HandedOut : ℕ → List ℕ → List ℕ → ℕ → List ℕ → Type 0
HandedOut n parent name i leader = (l : List ℕ) → Forest n parent name l → (x : ℕ) → x < i → get_or leader x 0 ≡ get_or l x 0
