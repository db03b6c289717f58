-- Worked examples of the corners that document 01 names ("Ports that come out wrong"), of the order in which stiffening takes corridors, of whole cases, of
-- the listing's places, of what a plan keeps of filling, with its preview, and of the pass after a component's dispatch.
-- By evaluation.
use Prim.Native.Nat.{ℕ}
use mathlib.Core.Bool.{true}
use mathlib.Core.List.{List, [], ◌∷◌, ◌++◌, map}
use mathlib.Core.Path.{◌≡◌, refl}
use lib.ListN.{length, replicate}
use lib.Ieee.{Float, binary64, of_bits}
use Rattle.loops.specs.Figures.{nought, half, one, hundred, decimal}
use Rattle.loops.specs.Sorting.{insert_by}
use Rattle.mode.specs.declared.PlanMode.{PlanMode}
use Rattle.mode.specs.declared.PlanMode.TheVariants.{Expand, Reinforce, Observe, ExpandServing, ReinforceServing, ObserveServing}
use Rattle.refusal.specs.Reply.{Reply, answered, refused}
use Rattle.dispatch_defs.specs.Units.{Units, units_of}
use Rattle.plan_defs.specs.Lists.{each}
use Rattle.plan_defs.specs.TopUp.{given_by}
use Rattle.plan_defs.specs.Case.{Case, surveyed, row_of, tops_up}
use Rattle.plan_defs.specs.Design.{line_of, set_transformer_mva, kept_bank}
use Rattle.plan_defs.specs.Raise.{no_marks, mark_ends, raised_levels, moved_buses}
use Rattle.plan_defs.specs.Build.{built}
use Rattle.plan_defs.specs.Fill.{fill}
use Rattle.plan_defs.specs.Stiffen.{Budget, hv_budget, stiffen_one, stiffen_from, Gain, larger, batch}
use Rattle.plan_defs.specs.Plan.{Plan, planned}
use Rattle.plan_defs.specs.Outcome.{Slices, Outcome, slices, plan_corridors}
use Rattle.plan_defs.specs.Preview.{kept_as, lengths_ok, preview_tests, refilled, preview, Outcome as Previewed}
use Rattle.plan_defs.specs.Listing.{bits_of, lines, listing_of}
use Rattle.plan_defs.specs.declared.CircuitDesign.{CircuitDesign}
use Rattle.plan_defs.proofs.Unfolded.{whole_plan}

abbrev pub whole : ℕ → Float
whole n = decimal n 1

abbrev pub ones : ℕ → List Float
ones n = replicate n one

-- three buses in a row, at these tiers of four
abbrev row : List ℕ → Case
row tiers = surveyed Expand 3 2 0 0 4 [] tiers [] [] [] [] [] [] [] [] (0 ∷ 1 ∷ []) (1 ∷ 2 ∷ []) (1 ∷ 1 ∷ []) [] [] [] []

-- Both ends go to the level above the higher one, not each up by one; of two marks the higher level wins.
abbrev both_marked : List ℕ → List ℕ
both_marked tiers = mark_ends (row tiers) tiers 1 (mark_ends (row tiers) tiers 0 (no_marks 3))

pub raised_together : raised_levels (1 ∷ 3 ∷ 3 ∷ []) (both_marked (1 ∷ 3 ∷ 3 ∷ [])) ∷ (moved_buses (1 ∷ 3 ∷ 3 ∷ []) (both_marked (1 ∷ 3 ∷ 3 ∷ [])) ∷ []) ∷ []
    ≡ (0 ∷ 0 ∷ 2 ∷ []) ∷ (3 ∷ []) ∷ []
unfolding whole_plan
raised_together = refl

-- Stiffening counts an end again for each corridor that marks it: the bus in the middle twice.
-- With a voltage budget of 2 the second corridor takes a circuit, where the branch budget allows it.
abbrev after : ℕ → ℕ → List ℕ
after hv branches =
    let G : Budget = record { hv = hv; branches = branches; top = 0 } in
    let level : List ℕ = 1 ∷ 1 ∷ 1 ∷ [] in
    let s = each (stiffen_one (row level) level G) (0 ∷ 1 ∷ []) (stiffen_from level G (built (1 ∷ 1 ∷ []) [] [] []) 0) in
    s.hv ∷ s.stiffening ∷ s.total ∷ s.marks

pub counted_again : after 9 9 ∷ after 2 9 ∷ after 2 2 ∷ [] ≡ (4 ∷ 0 ∷ 2 ∷ 1 ∷ 1 ∷ 1 ∷ []) ∷ (2 ∷ 1 ∷ 3 ∷ 1 ∷ 1 ∷ 0 ∷ []) ∷ (2 ∷ 0 ∷ 2 ∷ 1 ∷ 1 ∷ 0 ∷ []) ∷ []
unfolding whole_plan
counted_again = refl

-- 0.35 · n, rounded, then floored: 62 at 180 buses, where 35 · n / 100 is 63.
pub shares : map hv_budget (2 ∷ 3 ∷ 20 ∷ 179 ∷ 180 ∷ 181 ∷ 256 ∷ []) ≡ 0 ∷ 1 ∷ 7 ∷ 62 ∷ 62 ∷ 63 ∷ 89 ∷ []
unfolding whole_plan
shares = refl

-- A redesign keeps a bank at its floor, up to the line's rating; a floor below the new bank, and a corridor with no bank, are left.
abbrev line : CircuitDesign
line = line_of 0 1 (whole 138) (row_of nought one nought (whole 300) nought) (whole 10) one

abbrev pub bank_of : CircuitDesign → ℕ
bank_of d = bits_of d.transformer_mva

pub floors_kept :
    bank_of (kept_bank (set_transformer_mva line hundred) (whole 250)) ∷ bank_of (kept_bank (set_transformer_mva line hundred) (whole 400))
    ∷ bank_of (kept_bank (set_transformer_mva line hundred) (whole 50)) ∷ bank_of (kept_bank line (whole 250)) ∷ []
    ≡ bits_of (whole 250) ∷ bits_of (whole 300) ∷ bits_of hundred ∷ 0 ∷ []
unfolding whole_plan
floors_kept = refl

-- Gains fall, equal ones by index; a batch is the first so many while the sum before is below the excess.
abbrev gain : ℕ → ℕ → Gain
gain tenths k = record { gain = decimal tenths 10; corridor = k }

abbrev picked : ℕ → ℕ → List ℕ
picked most tenths = batch most nought (decimal tenths 10) (insert_by larger (gain 1 3) (insert_by larger (gain 5 2) (insert_by larger (gain 5 1) (insert_by larger (gain 3 0) []))))

pub batches : picked 4 9 ∷ picked 4 11 ∷ picked 2 99 ∷ picked 4 99 ∷ [] ≡ (1 ∷ 2 ∷ []) ∷ (1 ∷ 2 ∷ 0 ∷ []) ∷ (1 ∷ 2 ∷ []) ∷ (1 ∷ 2 ∷ 0 ∷ 3 ∷ []) ∷ []
unfolding whole_plan
batches = refl

-- Filling up to one target after another, each corridor before filling at 3 and 1, in the order 1, 0: what a smaller target gave stays, and with both
-- corridors full a larger target gives no more.
abbrev filled_to : ℕ → List ℕ
filled_to target = (fill (row (0 ∷ 0 ∷ 0 ∷ [])) target (1 ∷ 0 ∷ []) (3 ∷ 1 ∷ [])).counts

pub nothing_taken : map filled_to (0 ∷ 4 ∷ 5 ∷ 6 ∷ 7 ∷ 8 ∷ 20 ∷ []) ≡ (3 ∷ 1 ∷ []) ∷ (3 ∷ 1 ∷ []) ∷ (3 ∷ 2 ∷ []) ∷ (4 ∷ 2 ∷ []) ∷ (4 ∷ 3 ∷ []) ∷ (4 ∷ 4 ∷ []) ∷ (4 ∷ 4 ∷ []) ∷ []
unfolding whole_plan
nothing_taken = refl

-- ---- whole cases
abbrev figures : List ℕ → List Float
figures bits = map (of_bits binary64) bits

-- Expand: a round adds two circuits, the next finds them enough, and filling adds one to the target. So a plan that copies the circuits with which the case
-- began lists something else.
-- HD mode 4 2 1 1 0 1; LV 138; BU 0 0, 0 200; GE 0 1 0 200 20 0.25; CO 0 1 1 10 1; LN 0 0.0625 0 100 0
abbrev short : PlanMode → Case
short mode =
    surveyed mode 2 1 1 0 1 (whole 138 ∷ []) (0 ∷ 0 ∷ []) (nought ∷ whole 200 ∷ []) (ones 2) (0 ∷ []) (1 ∷ []) (nought ∷ []) (whole 200 ∷ []) (whole 20 ∷ []) (decimal 1 4 ∷ [])
    (0 ∷ []) (1 ∷ []) (1 ∷ []) (whole 10 ∷ []) (one ∷ []) (0 ∷ []) (nought ∷ decimal 1 16 ∷ nought ∷ hundred ∷ nought ∷ [])

pub circuits_added :
    listing_of (short Expand) 4
    ≡ (0 ∷ 2 ∷ 1 ∷ 2 ∷ 0 ∷ 1 ∷ 0 ∷ 0 ∷ 0 ∷ 0 ∷ []) ∷ [] ∷ (0 ∷ []) ∷ (0 ∷ 0 ∷ []) ∷ (0 ∷ 0xBFA0_0000_0000_0000 ∷ []) ∷ (0x4069_0000_0000_0000 ∷ []) ∷ (4 ∷ [])
    ∷ (0x4069_0000_0000_0000 ∷ []) ∷ (0x4059_0000_0000_0000 ∷ []) ∷ (0x3FE0_0000_0000_0000 ∷ 0x3FA0_0000_0000_0000 ∷ []) ∷ []
unfolding whole_plan
circuits_added = refl

-- Reinforce: the first round makes a bank larger, the second makes it larger once more, the third finds it enough. So a plan that only counts after the first
-- round, and one that counts a round too many, each list something else.
-- HD 1 0 3 2 1 0 2; LV 345, 138; BU 0 0, 1 0, 1 4212.304191654775; GE 0 0 0 4212.304191654775 20 0.01; CO 0 1 7 10 0.5814084460531092, 1 2 1 10 1; LN 0 0.0004378194579937841 0 20000 0, four times
abbrev reinforced : Case
reinforced =
    surveyed Reinforce 3 2 1 0 2 (figures (0x4075_9000_0000_0000 ∷ 0x4061_4000_0000_0000 ∷ [])) (0 ∷ 1 ∷ 1 ∷ []) (figures (0 ∷ 0 ∷ 0x40B0_744D_DF81_18FA ∷ [])) (ones 3)
    (0 ∷ []) (0 ∷ []) (nought ∷ []) (figures (0x40B0_744D_DF81_18FA ∷ [])) (figures (0x4034_0000_0000_0000 ∷ [])) (figures (0x3F84_7AE1_47AE_147B ∷ []))
    (0 ∷ 1 ∷ []) (1 ∷ 2 ∷ []) (7 ∷ 1 ∷ []) (whole 10 ∷ whole 10 ∷ []) (figures (0x3FE2_9AE5_E2AD_5233 ∷ 0x3FF0_0000_0000_0000 ∷ []))
    (0 ∷ 0 ∷ [])
    (figures
    (0 ∷ 0x3F3C_B164_40EE_45BD ∷ 0 ∷ 0x40D3_8800_0000_0000 ∷ 0 ∷ 0 ∷ 0x3F3C_B164_40EE_45BD ∷ 0 ∷ 0x40D3_8800_0000_0000 ∷ 0 ∷ 0 ∷ 0x3F3C_B164_40EE_45BD ∷ 0
    ∷ 0x40D3_8800_0000_0000 ∷ 0 ∷ 0 ∷ 0x3F3C_B164_40EE_45BD ∷ 0 ∷ 0x40D3_8800_0000_0000 ∷ 0 ∷ []))

pub sized_again :
    listing_of reinforced 0
    ≡ (1 ∷ 3 ∷ 1 ∷ 0 ∷ 0 ∷ 0 ∷ 0 ∷ 1 ∷ 0 ∷ 0 ∷ []) ∷ [] ∷ (2 ∷ []) ∷ (0 ∷ 1 ∷ 1 ∷ []) ∷ (0x3FB6_1696_8854_E35F ∷ 0x3F92_E288_F4A8_9333 ∷ 0 ∷ [])
    ∷ (0x40B0_744D_DF81_18FA ∷ []) ∷ (7 ∷ 1 ∷ []) ∷ (0x40B0_744D_DF81_18FA ∷ 0x40B0_744D_DF81_18FC ∷ []) ∷ (0x4085_CD85_65A3_1C54 ∷ 0x40D3_8800_0000_0000 ∷ [])
    ∷ (0x3FEB_9999_9999_9998 ∷ 0x3FB6_1696_8854_E35F ∷ []) ∷ []
unfolding whole_plan
sized_again = refl

-- What stood in the lent slices does not matter, work is zero after the answer, and so is what is kept of filling, since the mode does not fill: here every
-- place is lent with a one.
abbrev lent_with_ones : Slices
lent_with_ones =
    slices (1 ∷ []) (ones 1) (ones 1) (1 ∷ []) (1 ∷ []) (1 ∷ []) (ones 1) (ones 2) (1 ∷ 1 ∷ []) (1 ∷ 1 ∷ []) [] (ones 48) (replicate 48 1)

abbrev left_by : Outcome → List (List ℕ)
left_by o = map bits_of o.lent.figures ∷ o.lent.counts ∷ o.lent.before ∷ o.lent.order ∷ o.lent.circuits ∷ o.lent.tier ∷ o.lent.ground ∷ []

pub work_zeroed : left_by (plan_corridors (short Observe) 0 lent_with_ones) ≡ replicate 48 0 ∷ replicate 48 0 ∷ (0 ∷ []) ∷ (0 ∷ []) ∷ (1 ∷ []) ∷ (0 ∷ 0 ∷ []) ∷ (0 ∷ 0 ∷ []) ∷ []
unfolding whole_plan
work_zeroed = refl

-- ---- what is listed of a plan whose tallies all differ, with a level added: each stands in its own place
abbrev pub sample : Plan
sample =
    record {
      rounds = 2;
      converged = true;
      capacity = 3;
      stiffening = 4;
      filler = 5;
      promoted = 6;
      upsized = 7;
      overloaded = 8;
      capped = 9;
      loading = half;
      spread = decimal 1 4;
      added = whole 345 ∷ [];
      grounds = 1 ∷ [];
      tier = 0 ∷ 1 ∷ [];
      angle = decimal 1 4 ∷ nought ∷ [];
      mw = whole 300 ∷ [];
      before = 2 ∷ [];
      circuits = 4 ∷ [];
      flow = whole 200 ∷ [];
      designs = line ∷ [];
      order = 0 ∷ [];
    }

pub sample_listed :
    lines Expand (planned sample)
    ≡ (0 ∷ 2 ∷ 1 ∷ 3 ∷ 4 ∷ 5 ∷ 6 ∷ 7 ∷ 8 ∷ 9 ∷ []) ∷ (0x4075_9000_0000_0000 ∷ []) ∷ (1 ∷ []) ∷ (0 ∷ 1 ∷ []) ∷ (0x3FD0_0000_0000_0000 ∷ 0 ∷ [])
    ∷ (0x4072_C000_0000_0000 ∷ []) ∷ (4 ∷ []) ∷ (0x4069_0000_0000_0000 ∷ []) ∷ (0x4072_C000_0000_0000 ∷ []) ∷ (0x3FE0_0000_0000_0000 ∷ 0x3FD0_0000_0000_0000 ∷ [])
    ∷ []
unfolding whole_plan
sample_listed = refl

-- ---- what a plan keeps of filling, and its preview
-- Two corridors beside each other, the second with half the reactance: a round gives it a second circuit, and it is still the more loaded, so it stands first
-- in the order. Target 0 fills nothing, target 5 gives each a circuit, and what is kept is the same.
-- HD 0 5 2 2 1 0 1; LV 138; BU 0 0, 0 200; GE 0 1 0 200 20 0.25; CO 0 1 1 10 1, twice; LN 0 0.125 0 100 0, 0 0.0625 0 100 0
abbrev beside : Case
beside =
    surveyed Expand 2 2 1 0 1 (whole 138 ∷ []) (0 ∷ 0 ∷ []) (nought ∷ whole 200 ∷ []) (ones 2) (0 ∷ []) (1 ∷ []) (nought ∷ []) (whole 200 ∷ []) (whole 20 ∷ []) (decimal 1 4 ∷ [])
    (0 ∷ 0 ∷ []) (1 ∷ 1 ∷ []) (1 ∷ 1 ∷ []) (whole 10 ∷ whole 10 ∷ []) (one ∷ one ∷ []) (0 ∷ 0 ∷ [])
    (nought ∷ decimal 1 8 ∷ nought ∷ hundred ∷ nought ∷ nought ∷ decimal 1 16 ∷ nought ∷ hundred ∷ nought ∷ [])

abbrev lent_beside : Slices
lent_beside = slices (replicate 2 7) (ones 2) (ones 2) (replicate 2 7) (replicate 2 7) (replicate 2 7) (ones 1) (ones 2) (replicate 2 7) (replicate 2 7) [] (ones 60) (replicate 60 7)

abbrev kept_beside : ℕ → List (List ℕ)
kept_beside target = let s : Slices = (plan_corridors beside target lent_beside).lent in s.before ∷ s.order ∷ s.circuits ∷ []

pub filling_kept :
    kept_beside 0 ∷ kept_beside 5 ∷ []
    ≡ ((1 ∷ 2 ∷ []) ∷ (1 ∷ 0 ∷ []) ∷ (1 ∷ 2 ∷ []) ∷ []) ∷ ((1 ∷ 2 ∷ []) ∷ (1 ∷ 0 ∷ []) ∷ (2 ∷ 3 ∷ []) ∷ []) ∷ []
unfolding whole_plan
filling_kept = refl

-- A reply in numbers, then the slice. Each place is lent with a 7.
abbrev sayings : Reply (Unit {0}) → List ℕ
sayings (answered u) = []
sayings (refused number index) = number ∷ index ∷ []

abbrev previewed_with : PlanMode → List ℕ → List ℕ → List ℕ → ℕ → ℕ → List ℕ
previewed_with mode before order cap places target =
    let o : Previewed = preview (kept_as mode 3 before order cap) target (replicate places 7) in
    sayings o.reply ++ o.circuits

abbrev previewed : PlanMode → List ℕ → List ℕ → ℕ → ℕ → List ℕ
previewed mode before order places target = previewed_with mode before order (0 ∷ 0 ∷ 0 ∷ []) places target

-- The counts before filling of document 01's eighth example, with its target and others, and in two orders; a count at its bound stays as it is.
pub previews :
    previewed Expand (1 ∷ 4 ∷ 2 ∷ []) (0 ∷ 1 ∷ 2 ∷ []) 3 0 ∷ previewed Expand (1 ∷ 4 ∷ 2 ∷ []) (0 ∷ 1 ∷ 2 ∷ []) 3 10
    ∷ previewed Expand (1 ∷ 4 ∷ 2 ∷ []) (0 ∷ 1 ∷ 2 ∷ []) 3 8 ∷ previewed Expand (1 ∷ 4 ∷ 2 ∷ []) (2 ∷ 0 ∷ 1 ∷ []) 3 8
    ∷ previewed Expand (1 ∷ 64 ∷ 2 ∷ []) (0 ∷ 1 ∷ 2 ∷ []) 3 65536 ∷ []
    ≡ (1 ∷ 4 ∷ 2 ∷ []) ∷ (3 ∷ 4 ∷ 3 ∷ [])
    ∷ (2 ∷ 4 ∷ 2 ∷ []) ∷ (1 ∷ 4 ∷ 3 ∷ [])
    ∷ (4 ∷ 64 ∷ 4 ∷ []) ∷ []
unfolding whole_plan preview preview_tests lengths_ok refilled
previews = refl

-- The refusals, each where the next would be due too: a slice of two places; a target past 65,536; two modes that do not fill; the lower of two corridors
-- whose counts are wrong, and a count of zero, which a refused plan leaves; a place that names no corridor; one that names one again, by its own place.
pub preview_refusals :
    previewed Reinforce (1 ∷ 4 ∷ 0 ∷ []) (0 ∷ 3 ∷ 0 ∷ []) 2 65537 ∷ previewed Reinforce (1 ∷ 4 ∷ 0 ∷ []) (0 ∷ 3 ∷ 0 ∷ []) 3 65537
    ∷ previewed Reinforce (1 ∷ 4 ∷ 0 ∷ []) (0 ∷ 3 ∷ 0 ∷ []) 3 10 ∷ previewed Observe (1 ∷ 4 ∷ 0 ∷ []) (0 ∷ 3 ∷ 0 ∷ []) 3 10
    ∷ previewed Expand (1 ∷ 65 ∷ 0 ∷ []) (0 ∷ 3 ∷ 0 ∷ []) 3 10 ∷ previewed Expand (1 ∷ 4 ∷ 0 ∷ []) (0 ∷ 3 ∷ 0 ∷ []) 3 10
    ∷ previewed Expand (1 ∷ 4 ∷ 2 ∷ []) (0 ∷ 3 ∷ 0 ∷ []) 3 10 ∷ previewed Expand (1 ∷ 4 ∷ 2 ∷ []) (0 ∷ 1 ∷ 0 ∷ []) 3 10 ∷ []
    ≡ (1 ∷ 0 ∷ 7 ∷ 7 ∷ []) ∷ (2 ∷ 0 ∷ 7 ∷ 7 ∷ 7 ∷ [])
    ∷ (18 ∷ 0 ∷ 7 ∷ 7 ∷ 7 ∷ []) ∷ (18 ∷ 0 ∷ 7 ∷ 7 ∷ 7 ∷ [])
    ∷ (6 ∷ 1 ∷ 7 ∷ 7 ∷ 7 ∷ []) ∷ (6 ∷ 2 ∷ 7 ∷ 7 ∷ 7 ∷ [])
    ∷ (30 ∷ 1 ∷ 7 ∷ 7 ∷ 7 ∷ []) ∷ (30 ∷ 2 ∷ 7 ∷ 7 ∷ 7 ∷ []) ∷ []
unfolding whole_plan preview preview_tests lengths_ok refilled
preview_refusals = refl

-- With own caps of 2 and 6 the first stops at 2 and the last goes to 6; a cap above 6 is a fault of its corridor, beside the count's.
pub previews_capped :
    previewed_with Expand (1 ∷ 4 ∷ 1 ∷ []) (0 ∷ 1 ∷ 2 ∷ []) (2 ∷ 0 ∷ 6 ∷ []) 3 20 ∷ previewed_with Expand (1 ∷ 4 ∷ 0 ∷ []) (0 ∷ 1 ∷ 2 ∷ []) (0 ∷ 7 ∷ 0 ∷ []) 3 20 ∷ []
    ≡ (2 ∷ 4 ∷ 6 ∷ []) ∷ (6 ∷ 1 ∷ 7 ∷ 7 ∷ 7 ∷ []) ∷ []
unfolding whole_plan preview preview_tests lengths_ok refilled
previews_capped = refl

-- ---- K4: the pass after a component's dispatch, MW by their bits; every unit from 0, at a cost of c1
abbrev units : List Float → List Float → Units
units pmax c1 = units_of (replicate (length pmax) nought) pmax c1 (replicate (length pmax) nought)

abbrev given : PlanMode → Units → ℕ → List ℕ
given mode u demand = map bits_of (given_by (tops_up mode) u (whole demand))

abbrev in_mode3 : List ℕ → List ℕ → ℕ → List ℕ
in_mode3 pmax c1 demand = given ExpandServing (units (map whole pmax) (map whole c1)) demand

-- Document 01's second example in modes 0 to 2, then in 3 to 5.
pub second_served :
    map (λ mode. given mode (units (hundred ∷ []) (whole 10 ∷ [])) 50) (Expand ∷ Reinforce ∷ Observe ∷ ExpandServing ∷ ReinforceServing ∷ ObserveServing ∷ [])
    ≡ (0 ∷ []) ∷ (0 ∷ []) ∷ (0 ∷ []) ∷ map bits_of (whole 50 ∷ []) ∷ map bits_of (whole 50 ∷ []) ∷ map bits_of (whole 50 ∷ []) ∷ []
unfolding whole_plan
second_served = refl

-- Two units of equal c1: the lower index first, and then the other, with the difference that is left. A unit at pmax between them in price is passed over.
-- A demand above all of them leaves each at pmax. None above zero: a demand of 0, and one that the dispatch meets.
pub topped :
    in_mode3 (50 ∷ 100 ∷ []) (20 ∷ 20 ∷ []) 30 ∷ in_mode3 (50 ∷ 100 ∷ []) (20 ∷ 20 ∷ []) 90
    ∷ in_mode3 (50 ∷ 60 ∷ 100 ∷ []) (20 ∷ 10 ∷ 20 ∷ []) 100 ∷ in_mode3 (50 ∷ 60 ∷ 100 ∷ []) (20 ∷ 10 ∷ 20 ∷ []) 150
    ∷ in_mode3 (30 ∷ 100 ∷ []) (20 ∷ 10 ∷ []) 200 ∷ in_mode3 (30 ∷ 100 ∷ []) (20 ∷ 10 ∷ []) 0 ∷ in_mode3 (30 ∷ 100 ∷ []) (20 ∷ 10 ∷ []) 100 ∷ []
    ≡ map bits_of (whole 30 ∷ nought ∷ []) ∷ map bits_of (whole 50 ∷ whole 40 ∷ [])
    ∷ map bits_of (whole 40 ∷ whole 60 ∷ nought ∷ []) ∷ map bits_of (whole 50 ∷ whole 60 ∷ whole 40 ∷ [])
    ∷ map bits_of (whole 30 ∷ hundred ∷ []) ∷ (0 ∷ 0 ∷ []) ∷ map bits_of (nought ∷ hundred ∷ []) ∷ []
unfolding whole_plan
topped = refl

-- By c1 before index: at the highest price the first unit, the dearest, gives nothing, and the other two stand between their limits. The second takes the gap
-- up to pmax; the pass then fills the third, which is cheaper than the first, and the first takes the rest.
abbrev near : Units
near = units (replicate 3 hundred) (whole 20 ∷ decimal 199_999_999_999 10_000_000_000 ∷ decimal 1_999_999_999_995 100_000_000_000 ∷ [])

pub cheapest_first : given ExpandServing near 210 ≡ map bits_of (whole 10 ∷ hundred ∷ hundred ∷ [])
unfolding whole_plan
cheapest_first = refl

-- The first unit left below pmax ends the pass, also where rounding leaves a difference above zero: two units of three eighths of the last place of 50 are at
-- pmax, the first gets what they leave of 50, rounded, and the sum by index loses them. The last unit, as cheap as the first, stays at nought.
abbrev pub lost : Float
lost = of_bits binary64 0x3CE8_0000_0000_0000

pub ends_below : given ExpandServing (units (hundred ∷ lost ∷ lost ∷ hundred ∷ []) (whole 20 ∷ whole 10 ∷ whole 10 ∷ whole 20 ∷ [])) 50
    ≡ 0x4048_FFFF_FFFF_FFFF ∷ 0x3CE8_0000_0000_0000 ∷ 0x3CE8_0000_0000_0000 ∷ 0 ∷ []
unfolding whole_plan
ends_below = refl

-- Case L with c2 = 0, a target of 4 and another mode: mode 3 serves the load, fills as Expand and is listed as 3; mode 0 leaves the unit idle, and the ground
-- feeds the load; modes 4 and 5 serve it and fill nothing.
-- HD mode 4 2 1 1 0 1; LV 138; BU 0 0, 0 50; GE 0 1 0 100 20 0; CO 0 1 1 10 1; LN 0 0.5 0 100 0
abbrev flat_cost : PlanMode → Case
flat_cost mode =
    surveyed mode 2 1 1 0 1 (whole 138 ∷ []) (0 ∷ 0 ∷ []) (nought ∷ whole 50 ∷ []) (ones 2) (0 ∷ []) (1 ∷ []) (nought ∷ []) (hundred ∷ []) (whole 20 ∷ []) (nought ∷ [])
    (0 ∷ []) (1 ∷ []) (1 ∷ []) (whole 10 ∷ []) (one ∷ []) (0 ∷ []) (nought ∷ half ∷ nought ∷ hundred ∷ nought ∷ [])

-- what is listed of its plan, the MW of the unit and the circuits among it
abbrev flat_listed : ℕ → ℕ → ℕ → Float → ℕ → ℕ → ℕ → ℕ → List (List ℕ)
flat_listed mode rounds filler mw circuits angle loading spread =
    (mode ∷ rounds ∷ 1 ∷ 0 ∷ 0 ∷ filler ∷ 0 ∷ 0 ∷ 0 ∷ 0 ∷ []) ∷ [] ∷ (0 ∷ []) ∷ (0 ∷ 0 ∷ []) ∷ (0 ∷ angle ∷ []) ∷ (bits_of mw ∷ []) ∷ (circuits ∷ [])
    ∷ (bits_of (whole 50) ∷ []) ∷ (bits_of hundred ∷ []) ∷ (loading ∷ spread ∷ []) ∷ []

pub modes_listed :
    map (λ mode. listing_of (flat_cost mode) 4) (Expand ∷ ExpandServing ∷ ReinforceServing ∷ ObserveServing ∷ [])
    ≡ flat_listed 0 1 3 nought 4 0xBFB0_0000_0000_0000 0x3FC0_0000_0000_0000 0x3FB0_0000_0000_0000
    ∷ flat_listed 3 1 3 (whole 50) 4 0xBFB0_0000_0000_0000 0x3FC0_0000_0000_0000 0x3FB0_0000_0000_0000
    ∷ flat_listed 4 1 0 (whole 50) 1 0xBFD0_0000_0000_0000 0x3FE0_0000_0000_0000 0x3FD0_0000_0000_0000
    ∷ flat_listed 5 0 0 (whole 50) 1 0xBFD0_0000_0000_0000 0x3FE0_0000_0000_0000 0x3FD0_0000_0000_0000
    ∷ []
unfolding whole_plan
modes_listed = refl
