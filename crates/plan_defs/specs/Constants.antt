-- Planning's constants, named as in electrical/params.rs, planning.rs and hierarchy.rs. `constants`, below, ties the bits of each figure to its decimal.
use Rattle.std.specs.Prelude.{ℕ, [], ◌∷◌, ◌≡◌, refl, Float}
use Rattle.std.specs.Float.{binary64}
use Rattle.std.specs.Float.Ieee.{of_bits, round}
pub use Rattle.loops.specs.Bounds.{most_buses, most_corridors, most_generators, most_levels, most_target, most_initial, most_cap}
use Rattle.loops.specs.Figures.{fifty, hundred, millionth, billionth, decimal}

-- ---- figures
-- the system base, MVA
abbrev pub base_mva : Float
base_mva = hundred

-- the share of a rating that the planning flow may take
abbrev pub planning_utilisation : Float
planning_utilisation = of_bits binary64 0x3fec_cccc_cccc_cccd

-- the least bank, the step of a larger one, MVA, and the room that a bank is given
abbrev pub transformer_min_mva : Float
transformer_min_mva = hundred

abbrev pub transformer_size_step_mva : Float
transformer_size_step_mva = fifty

abbrev pub transformer_headroom : Float
transformer_headroom = of_bits binary64 0x3ff3_3333_3333_3333

-- the widest spread of a component's angles, radians
abbrev pub max_angle_spread_rad : Float
max_angle_spread_rad = of_bits binary64 0x3fe8_d00e_692a_fd95

-- stiffening: the share of a component's corridors in one batch, circuits for each bus, and the share of buses at the highest level
abbrev pub stiffening_batch_share : Float
stiffening_batch_share = of_bits binary64 0x3fa9_9999_9999_999a

abbrev pub stiffening_branch_budget : Float
stiffening_branch_budget = of_bits binary64 0x3ff9_9999_9999_999a

abbrev pub stiffening_hv_share : Float
stiffening_hv_share = of_bits binary64 0x3fd6_6666_6666_6666

-- below this kV a corridor that cannot be raised may have more circuits
abbrev pub subtransmission_kv : Float
subtransmission_kv = hundred

-- two kV that differ by no more are one level
abbrev pub kv_tolerance : Float
kv_tolerance = millionth

-- a loading above 1, or a need above the circuits there are, counts where it is above by more than this
abbrev pub loading_tolerance : Float
loading_tolerance = billionth

-- each bit pattern that is not yet tied to its decimal in Figures
pub constants :
    planning_utilisation ∷ transformer_headroom ∷ max_angle_spread_rad ∷ stiffening_batch_share ∷ stiffening_branch_budget ∷ stiffening_hv_share ∷ []
    ≡ decimal 9 10 ∷ decimal 12 10 ∷ decimal 775_397_496_610_753 1_000_000_000_000_000 ∷ decimal 5 100 ∷ decimal 16 10 ∷ decimal 35 100 ∷ []
unfolding of_bits round
constants = refl

-- ---- counts
-- a corridor that needs more circuits is raised where it can be
abbrev pub upgrade_circuits : ℕ
upgrade_circuits = 2

abbrev pub max_circuits_per_corridor : ℕ
max_circuits_per_corridor = 4

abbrev pub subtransmission_max_circuits : ℕ
subtransmission_max_circuits = 6

abbrev pub planning_max_rounds : ℕ
planning_max_rounds = 64

-- three quarters of them
abbrev pub stiffening_rounds : ℕ
stiffening_rounds = 48

-- places of each work slice for each bus, corridor and generator
abbrev pub work_rows : ℕ
work_rows = 12
