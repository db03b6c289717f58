-- The columns that planning's structs of slices hold, as lists: what contracts and laws speak of.
use Rattle.std.specs.Prelude.{ℕ, List, Float}
use Rattle.angles_defs.specs.Network.{Edges as Defined, edges_of}
pub use Rattle.planning.specs.Supplied.{SupplyColumns, supply_of}
use Rattle.planning.specs.declared.tables.Grid.{Grid}
use Rattle.planning.specs.declared.tables.Supply.{Supply}
use Rattle.planning.specs.declared.tables.Opened.{Opened}
use Rattle.planning.specs.declared.edges.Edges.{Edges}
use Rattle.planning.specs.declared.budgets.Limits.{Limits}

pub record GridColumns : Type 0 where
  pub ladder : List Float
  pub a : List ℕ
  pub b : List ℕ
  pub km : List Float
  pub share : List Float
  pub cap : List ℕ
  pub sheet : List Float

pub record OpenedColumns : Type 0 where
  pub leader : List ℕ
  pub grounds : List ℕ
  pub injection : List Float

pub record SolvedColumns : Type 0 where
  pub g : Limits
  pub grid : GridColumns
  pub level : List ℕ
  pub opened : OpenedColumns
  pub e : Edges
  pub angle : List Float

-- ---- of these lists
abbrev pub grid_of : List Float → List ℕ → List ℕ → List Float → List Float → List ℕ → List Float → GridColumns
grid_of ladder a b km share cap sheet = record { ladder = ladder; a = a; b = b; km = km; share = share; cap = cap; sheet = sheet }

abbrev pub opened_of : List ℕ → List ℕ → List Float → OpenedColumns
opened_of leader grounds injection = record { leader = leader; grounds = grounds; injection = injection }

abbrev pub solved_by : Limits → GridColumns → List ℕ → OpenedColumns → Edges → List Float → SolvedColumns
solved_by g grid level opened e angle = record { g = g; grid = grid; level = level; opened = opened; e = e; angle = angle }

-- ---- of what a struct holds
abbrev pub grid_in : Grid → GridColumns
grid_in g = grid_of g.ladder.now g.a.now g.b.now g.km.now g.share.now g.cap.now g.sheet.now

abbrev pub supply_in : Supply → SupplyColumns
supply_in s = supply_of s.load.now s.bus.now s.slack.now s.pmin.now s.pmax.now s.c1.now s.c2.now

abbrev pub opened_in : Opened → OpenedColumns
opened_in o = opened_of o.leader.now o.grounds.now o.injection.now

-- the definition's edges
abbrev pub edges_in : Edges → Defined
edges_in e = edges_of e.from.items e.to.items e.weight.items
