-- Worked examples of the two results that the rules do not fix, of the class and of whole rows, each evaluated.
use Prim.Native.Nat.{ℕ}
use mathlib.Core.Path.{◌≡◌, refl}
use mathlib.Core.List.{List, [], ◌∷◌, map}
use lib.Ieee.{Float, binary64, of_bits, to_bits, of_int, round, mul, div, lt, le, add, neg}
use Rattle.loops.specs.Figures.{decimal}
use Rattle.loops.specs.Loops.{first}
use Rattle.loops.specs.Parts.{part}
use Rattle.refusal.specs.declared.Refusal.TheVariants.{Length, Level, Corridor, Spread}
use Rattle.root.specs.Root.{root}
use Rattle.line_defs.specs.Grid.{on_grid}
use Rattle.line_defs.specs.Spread.{fifth_root, kept_spread}
use Rattle.line_defs.specs.Loadability.{by_segment, segment_of, digits, middle, between, loadability_of}
use Rattle.line_defs.specs.Class.{class_of, class_of_square}
use Rattle.line_defs.specs.Row.{class_row, line_row}
use Rattle.line_defs.specs.Request.{tests_of, check_of}
use Rattle.line_defs.specs.Sheet.{figures_of, row_at, figure_at}
use Rattle.line_defs.specs.Rows.{sheets_ok, corridor_rows}
use Rattle.std.specs.Prelude.{Err, Result}
use Rattle.refusal.specs.declared.Refusal.{Refusal}
use Rattle.refusal.specs.Reply.{no_refusal}

abbrev figure : ℕ → Float
figure b = of_bits binary64 b

-- the spreads 0.25, 0.5, 1, 1.5 and 4 to the power 0.6
pub powers :
    map (λ b. to_bits binary64 (kept_spread (figure b))) (0x3fd0_0000_0000_0000 ∷ 0x3fe0_0000_0000_0000 ∷ 0x3ff0_0000_0000_0000 ∷ 0x3ff8_0000_0000_0000 ∷ 0x4010_0000_0000_0000 ∷ [])
    ≡ 0x3fdb_db8c_dac0_0000 ∷ 0x3fe5_1cb4_53a0_0000 ∷ 0x3ff0_0000_0000_0000 ∷ 0x3ff4_6823_8560_0000 ∷ 0x4002_6111_86b8_0000 ∷ []
unfolding kept_spread fifth_root on_grid mul of_int of_bits to_bits
powers = refl

-- 0, 80 and the next length; 100, 160, 200, 320, 480, 640, 965 km; past it, to the floor and beyond
pub loads :
    map (λ b. to_bits binary64 (loadability_of (figure b))) (0x0000_0000_0000_0000 ∷ 0x4054_0000_0000_0000 ∷ 0x4054_0000_0000_0001 ∷ 0x4059_0000_0000_0000
    ∷ 0x4064_0000_0000_0000 ∷ 0x4069_0000_0000_0000 ∷ 0x4074_0000_0000_0000 ∷ 0x407e_0000_0000_0000 ∷ 0x4084_0000_0000_0000 ∷ 0x408e_2800_0000_0000
    ∷ 0x408f_4000_0000_0000 ∷ 0x40a0_f680_0000_0000 ∷ 0x40a0_f800_0000_0000 ∷ 0x40c3_8800_0000_0000 ∷ [])
    ≡ 0x410d_4c00_0000_0000 ∷ 0x4008_0000_0000_0000 ∷ 0x4007_ffff_f800_0000 ∷ 0x4005_6cb0_f000_0000 ∷ 0x4000_0000_0000_0000 ∷ 0x3ffc_a6e6_04c0_0000 ∷ 0x3ff5_9999_9990_0000 ∷ 0x3ff0_0000_0000_0000 ∷ 0x3feb_3333_3320_0000 ∷ 0x3fe3_3333_3320_0000 ∷ 0x3fe2_dc6a_fb10_5949 ∷ 0x3fd9_9999_9999_999a ∷ 0x3fd9_9999_9999_999a ∷ 0x3fd9_9999_9999_999a ∷ []
unfolding loadability_of between segment_of by_segment digits middle on_grid root mul div lt le of_int of_bits to_bits
loads = refl

-- round each bound the last kV of the lower class and the first of the higher; then 2 ^ -1074, 0.5, 1, 69, 161, 220, 345 and 10,000 kV
pub classes :
    map (λ b. class_of (figure b)) (0x4056_4508_0f71_00ac ∷ 0x4056_4508_0f71_00ad ∷ 0x405f_7e79_de2e_8dfd ∷ 0x405f_7e79_de2e_8dfe ∷ 0x4066_4508_0f71_00ac
    ∷ 0x4066_4508_0f71_00ad ∷ 0x4071_9b0f_a600_33cf ∷ 0x4071_9b0f_a600_33d0 ∷ 0x4079_f54c_912f_250e ∷ 0x4079_f54c_912f_250f ∷ 0x4083_53ba_0c56_29c4
    ∷ 0x4083_53ba_0c56_29c5 ∷ 0x0000_0000_0000_0001 ∷ 0x3fe0_0000_0000_0000 ∷ 0x3ff0_0000_0000_0000 ∷ 0x4051_4000_0000_0000 ∷ 0x4064_2000_0000_0000
    ∷ 0x406b_8000_0000_0000 ∷ 0x4075_9000_0000_0000 ∷ 0x40c3_8800_0000_0000 ∷ [])
    ≡ 0 ∷ 1 ∷ 1 ∷ 2 ∷ 2 ∷ 3 ∷ 3 ∷ 4 ∷ 4 ∷ 5 ∷ 5 ∷ 6 ∷ 0 ∷ 0 ∷ 0 ∷ 0 ∷ 2 ∷ 3 ∷ 4 ∷ 6 ∷ []
unfolding class_of_square mul le of_bits
classes = refl

-- 138 kV, 10 km, spread 1.5; 230 kV, 100 km, 1.5; 345 kV, 100 km, 1.5; 765 kV, 1,000 km, 0.25; 34.5 kV, 200 km, 4
unfoldable pub row_bits : ℕ → ℕ → ℕ → List ℕ
unfolding kept_spread fifth_root loadability_of between segment_of by_segment digits middle on_grid root line_row class_row class_of_square mul div lt le of_int of_bits to_bits
row_bits kv km s = map (to_bits binary64) (figures_of (line_row (figure kv) (figure km) (figure s) (kept_spread (figure s)) (loadability_of (figure km))))

pub rows :
    row_bits 0x4061_4000_0000_0000 0x4024_0000_0000_0000 0x3ff8_0000_0000_0000 ∷ row_bits 0x406c_c000_0000_0000 0x4059_0000_0000_0000 0x3ff8_0000_0000_0000
    ∷ row_bits 0x4075_9000_0000_0000 0x4059_0000_0000_0000 0x3ff8_0000_0000_0000 ∷ row_bits 0x4087_e800_0000_0000 0x408f_4000_0000_0000 0x3fd0_0000_0000_0000
    ∷ row_bits 0x4041_4000_0000_0000 0x4069_0000_0000_0000 0x4010_0000_0000_0000 ∷ []
    ≡ (0x3f81_be82_0431_af06 ∷ 0x3fa3_5b76_9036_334c ∷ 0x3f7a_857c_d716_26de ∷ 0x4066_8000_0000_0000 ∷ 0x0000_0000_0000_0000 ∷ []) ∷ (0x3f91_6bea_b4fd_9491
    ∷ 0x3fc0_552c_09ad_bb48 ∷ 0x3fc9_bb05_faeb_c408 ∷ 0x4077_6ee1_8680_0000 ∷ 0x3ff0_0000_0000_0000 ∷ []) ∷ (0x3f6a_55ac_77da_9370 ∷ 0x3fa3_33cd_c20f_60d7
    ∷ 0x3fe2_4840_e171_9f7f ∷ 0x4090_bcea_3b80_0000 ∷ 0x3ff0_0000_0000_0000 ∷ []) ∷ (0x3f4d_3f13_a161_cce3 ∷ 0x3f93_cd5f_f544_e2b9 ∷ 0x4043_0512_6e97_8d50
    ∷ 0x4094_42c6_ebb2_8fe9 ∷ 0x3ff0_0000_0000_0000 ∷ []) ∷ (0x4029_8a75_539c_d904 ∷ 0x4040_218d_782d_2abf ∷ 0x3f80_169f_7eb5_e885 ∷ 0x4016_6263_b3b6_0000
    ∷ 0x3ff0_0000_0000_0000 ∷ []) ∷ []
unfolding row_bits
rows = refl

-- the first refusal in order: one level of 0 kV, a length of -1 km and a spread of 5 in one request, mended one after the other
abbrev asked : ℕ → Float → Float → Float → Result (Unit {0}) Refusal
asked places kv km s = check_of 1 1 (kv ∷ []) (km ∷ []) (s ∷ []) places

pub refusals :
    asked 4 (decimal 0 1) (neg (decimal 1 1)) (decimal 5 1)
    ∷ asked 5 (decimal 0 1) (neg (decimal 1 1)) (decimal 5 1)
    ∷ asked 5 (decimal 69 1) (neg (decimal 1 1)) (decimal 5 1)
    ∷ asked 5 (decimal 69 1) (decimal 0 1) (decimal 5 1)
    ∷ asked 5 (decimal 69 1) (decimal 0 1) (decimal 4 1)
    ∷ []
    ≡ Err Length ∷ Err (Level 0) ∷ Err (Corridor 0) ∷ Err (Spread 0) ∷ no_refusal ∷ []
unfolding tests_of first lt le add neg of_bits round
refusals = refl

-- levels of 230 and 69 kV, corridors of 10 and 20 km: the charging of each row, all levels of the first corridor first
unfoldable pub charging : List ℕ
unfolding figure_at row_at kept_spread fifth_root loadability_of between segment_of by_segment digits middle on_grid root line_row class_row class_of_square mul div lt le of_int of_bits to_bits
charging =
    map (λ i. to_bits binary64 (figure_at 2 (figure 0x406c_c000_0000_0000 ∷ figure 0x4051_4000_0000_0000 ∷ []) (figure 0x4024_0000_0000_0000 ∷ figure 0x4034_0000_0000_0000 ∷ []) (figure 0x3ff0_0000_0000_0000 ∷ figure 0x3ff0_0000_0000_0000 ∷ []) i)) (2 ∷ 7 ∷ 12 ∷ 17 ∷ [])

pub layout : charging ≡ 0x3f94_959e_6256_366d ∷ 0x3f59_bdcb_fdef_da6d ∷ 0x3fa4_959e_6256_366d ∷ 0x3f69_bdcb_fdef_da6d ∷ []
unfolding charging
layout = refl

-- one level, two corridors, one of them surveyed: corridor 0 is the surveyed sheet, corridor 1 the second row of the worked-out one, and there is no corridor 2; nothing of a sheet that is too short. Figures by their bits
unfoldable pub handed_bits : ℕ → ℕ → List ℕ
unfolding corridor_rows sheets_ok part of_bits to_bits
handed_bits surveyed k =
    map (to_bits binary64)
    (corridor_rows 1 2 surveyed k (map figure (1 ∷ 2 ∷ 3 ∷ 4 ∷ 5 ∷ [])) (map figure (11 ∷ 12 ∷ 13 ∷ 14 ∷ 15 ∷ 21 ∷ 22 ∷ 23 ∷ 24 ∷ 25 ∷ [])))

pub handed :
    handed_bits 1 0 ∷ handed_bits 1 1 ∷ handed_bits 1 2 ∷ handed_bits 0 0 ∷ []
    ≡ (1 ∷ 2 ∷ 3 ∷ 4 ∷ 5 ∷ []) ∷ (21 ∷ 22 ∷ 23 ∷ 24 ∷ 25 ∷ []) ∷ [] ∷ [] ∷ []
unfolding handed_bits
handed = refl
