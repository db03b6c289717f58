-- Voltage support (reactive.rs, `place_voltage_support`): while a loaded bus lies more than 100 km from the nearest source, the farthest
-- joins the sources with a condenser; then each condenser is sized by the loads that lie nearest to it.
use Rattle.std.specs.Prelude.{List, cond, ◌&&◌, ◌||◌, ℕ, zero, suc, ◌+◌, eqb, ltb, length, get_or, set, replicate, Float, Err, Ok, Result}
use Rattle.std.specs.Float.Ieee.{lt}
use Rattle.loops.specs.Figures.{at, plus, times, greater, nought, half, five, hundred, infinity}
use Rattle.loops.specs.Loops.{iter}
use Rattle.refusal.specs.Reply.{Reply, reply_of}
use Rattle.placement_defs.specs.Request.{most_buses, Request, check_of}
use Rattle.placement_defs.specs.Distance.{Network, network, distances}
use Rattle.refusal.specs.declared.Refusal.{Refusal}

-- a load farther than this from every source gets a condenser
abbrev pub support_km : Float
support_km = hundred

-- Mvar of a condenser for each MW that lies nearest to it, and its least size
abbrev pub support_share : Float
support_share = half

abbrev pub least_mvar : Float
least_mvar = five

-- the farthest loaded bus that some source reaches, the lowest on a tie; n where there is none
unfoldable pub farther : ℕ → List Float → List Float → ℕ → ℕ → ℕ
farther n loads dist best i =
    cond (lt nought (at loads i) && lt (at dist i) infinity && (eqb best n || lt (at dist best) (at dist i))) i best

unfoldable pub farthest_to : ℕ → List Float → List Float → ℕ → ℕ
farthest_to n loads dist zero = n
farthest_to n loads dist (suc i) = let best = farthest_to n loads dist i in farther n loads dist best i

-- the bus that is to have a condenser next: the farthest, if it lies more than 100 km away; else n
unfoldable pub if_far : ℕ → List Float → ℕ → ℕ
if_far n dist i = cond (ltb i n && lt support_km (at dist i)) i n

unfoldable pub next_by : ℕ → List Float → List Float → ℕ
next_by n loads dist = if_far n dist (farthest_to n loads dist n)

unfoldable pub next_of : Network → List Float → List ℕ → ℕ
next_of w loads sources = next_by w.n loads (distances w sources).dist

-- the sources, as a flag of each bus, and the condensers placed, in the order in which they join
pub record Sites : Type 0 where
  pub sources : List ℕ
  pub buses : List ℕ
  pub count : ℕ

abbrev pub sites : List ℕ → List ℕ → ℕ → Sites
sites sources buses count = record { sources = sources; buses = buses; count = count }

unfoldable pub join : ℕ → ℕ → Sites → Sites
join n i s = cond (ltb i n) (sites (set s.sources i 1) (set s.buses s.count i) (s.count + 1)) s

unfoldable pub join_next : Network → List Float → ℕ → Sites → Sites
join_next w loads k s = join w.n (next_of w loads s.sources) s

-- no bus joins twice, so n turns do
unfoldable pub joined : Network → List Float → Sites → Sites
joined w loads s = iter (join_next w loads) w.n 0 s

-- the loads that lie nearest to a bus, added by bus index
abbrev pub added : Float → Float → ℕ → ℕ → Float
added sum load from bus = cond (eqb from bus) (plus sum load) sum

unfoldable pub served_to : List Float → List ℕ → ℕ → ℕ → Float
served_to loads from bus zero = nought
served_to loads from bus (suc i) = let sum = served_to loads from bus i in added sum (at loads i) (get_or from i 0) bus

-- half of them, and at least 5 Mvar
unfoldable pub mvar_of : List Float → List ℕ → ℕ → ℕ → Float
mvar_of loads from n bus = greater (times support_share (served_to loads from bus n)) least_mvar

abbrev pub size_at : List Float → List ℕ → ℕ → List ℕ → ℕ → List Float → List Float
size_at loads from n buses k mvars = set mvars k (mvar_of loads from n (get_or buses k 0))

-- the condensers' sizes, by the distances once all are placed
unfoldable pub sized : Network → List Float → List ℕ → List ℕ → ℕ → List Float → List Float
sized w loads sources buses count mvars = let s = distances w sources in iter (size_at loads s.from w.n buses) count 0 mvars

-- the generators' buses, flagged
abbrev pub flag : List ℕ → ℕ → List ℕ → List ℕ
flag generators k l = set l (get_or generators k 0) 1

unfoldable pub flagged : List ℕ → List ℕ → List ℕ
flagged generators l = iter (flag generators) (length generators) 0 l

-- the reply, which says how many condensers, and what the result slices hold then
pub record Outcome : Type 0 where
  pub reply : Reply ℕ
  pub buses : List ℕ
  pub mvars : List Float

abbrev pub outcome : Result ℕ Refusal → List ℕ → List Float → Outcome
outcome r buses mvars = record { reply = reply_of r; buses = buses; mvars = mvars }

abbrev pub network_of : Request → Network
network_of k = network k.n k.m k.a k.b k.km

-- the sites after all have joined: results are zero past the count
unfoldable pub sites_by : Network → List Float → List ℕ → Sites
sites_by w loads generators = joined w loads (sites (flagged generators (replicate most_buses 0)) (replicate w.n 0) 0)

unfoldable pub placed : Network → List Float → List ℕ → Outcome
placed w loads generators =
    let s = sites_by w loads generators in
    outcome (Ok s.count) s.buses (sized w loads s.sources s.buses s.count (replicate w.n nought))

abbrev pub sites_of : Request → Sites
sites_of k = sites_by (network_of k) k.loads k.generators

-- a refusal touches nothing
unfoldable pub answer_to : Result (Unit {0}) Refusal → Request → List ℕ → List Float → Outcome
answer_to (Ok tt) k buses mvars = placed (network_of k) k.loads k.generators
answer_to (Err f) k buses mvars = outcome (Err f) buses mvars

-- the operation, from the result slices that it is lent
unfoldable pub placement : Request → List ℕ → List Float → Outcome
placement k buses mvars = answer_to (check_of k (length buses) (length mvars)) k buses mvars
