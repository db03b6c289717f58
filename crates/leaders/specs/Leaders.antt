-- Document 01, module 2: "Joining a's set to b's gives all of them b's leader." After `UnionFind` of geom/delaunay.rs.
use Rattle.std.specs.Prelude.{ℕ, cond, List, eqb, length, get_or}
use Rattle.loops.specs.Loops.{iter, tab}

-- what a bus that follows `leader` follows once all that followed `old` follow `new`
abbrev pub follow : ℕ → ℕ → ℕ → ℕ
follow old new leader = cond (eqb leader old) new leader

unfoldable pub rename : ℕ → ℕ → List ℕ → List ℕ
rename old new l = tab (length l) (λ i. follow old new (get_or l i 0))

-- a's set, joined to b's
unfoldable pub join : ℕ → ℕ → List ℕ → List ℕ
join a b l = rename (get_or l a 0) (get_or l b 0) l

-- the ends of corridor k, joined
abbrev pub join_at : List ℕ → List ℕ → ℕ → List ℕ → List ℕ
join_at a b k l = join (get_or a k 0) (get_or b k 0) l

-- the corridors one after another
unfoldable pub join_all : List ℕ → List ℕ → List ℕ → List ℕ
join_all a b l = iter (join_at a b) (length a) 0 l

-- at first each bus leads itself
unfoldable pub themselves : ℕ → List ℕ
themselves n = tab n (λ i. i)

-- the leader of each of n buses
unfoldable pub leaders_of : ℕ → List ℕ → List ℕ → List ℕ
leaders_of n a b = join_all a b (themselves n)
