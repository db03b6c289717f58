-- What placing is for: in the end every loaded bus that a source reaches has a source within 100 km of corridor.
use Rattle.std.specs.Prelude.{◌≡◌, true, List, ℕ, ◌<◌, Float}
use Rattle.std.specs.Float.Ieee.{lt, le}
use Rattle.loops.specs.Figures.{at, nought, infinity}
use Rattle.placement_defs.specs.Request.{Request}
use Rattle.placement_defs.specs.Distance.{Network, distances}
use Rattle.placement_defs.specs.Chain.{Chain, Nearest}
use Rattle.placement_defs.specs.Support.{support_km, network_of, sites_of}

-- a chain of at most 100 km from a source to bus j
pub record Near (w : Network) (sources : List ℕ) (j : ℕ) : Type 0 where
  pub source : ℕ
  pub km : Float
  pub chain : Chain w sources source j km
  pub short : le km support_km ≡ true

-- every loaded bus to which some chain of finite length leads has a short one
abbrev pub Supported : Network → List Float → List ℕ → Type 0
Supported w loads sources =
    (j : ℕ) → j < w.n → lt nought (at loads j) ≡ true → (source : ℕ) (km : Float) → Chain w sources source j km → lt km infinity ≡ true → Near w sources j

-- of a request: with the generators and the condensers that are placed
pub record Achieved (k : Request) : Type 0 where
  pub distances_nearest : Nearest (network_of k) (sites_of k).sources (distances (network_of k) (sites_of k).sources)
  pub loads_supported : Supported (network_of k) k.loads (sites_of k).sources
