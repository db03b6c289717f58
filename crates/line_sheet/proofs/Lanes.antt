-- A lane from its start to its last digit: the two numbers of each segment fit it, a turn of the code is one of the definition, and the count is that of the digits. Assumes nothing.
use Rattle.std.proofs.Common.{◌≡◌, ℕ, zero, suc, ◌+◌, ◌-◌, ◌*◌, ◌/◌, ◌^◌, ◌<◌, ◌≤◌, Bool, true, false, cond, not, leb, List, length, get_or, sym, refl, ap, ◌∙◌, subst, add-one, arith, lit<, lit≤, le-leb, leb-false, leb-true}
use native.Mathlib.Decide.{dec_le}
use lib.Ieee.{Float, le}
use lib.Ieee.Positive.{num, den}
use borrow.Author.Tests.{lt-leb, not-true}
use Rattle.loops.specs.Figures.{at}
use Rattle.loops.specs.Loops.{tab, filled}
use Rattle.loops.proofs.Bools.{both}
use Rattle.loops.proofs.Tab.{get_tab, length_tab, tab_of, fill_own}
use Rattle.line_defs.specs.Bounds.{Start}
use Rattle.line_defs.specs.Grid.{on_grid}
use Rattle.line_defs.specs.declared.Segment.{Segment}
use Rattle.line_defs.specs.Loadability.{km80, km160, km320, km480, km640, km965, unit, by_segment, segment_of, digits, middle, between}
use Rattle.line_defs.proofs.Between.{started}
use Rattle.line_defs.proofs.Curve.{on_segment, chosen}
use Rattle.line_sheet.specs.declared.loadability.Lane.{Lane}
use Rattle.line_sheet.specs.Lanes.{in_knots, start_of, lane_of, Fit, Turning, turned, count_of}
use Rattle.line_sheet.proofs.Quotients.{over_by}
use Rattle.line_sheet.proofs.Turns.{Left, square_most, few_digits, one_turn, zero_turn, last_digit}

-- ---- the tests of a length
pub in_knots_lem : (km : Float) → in_knots km ≡ true → (le km km80 ≡ false) × (le km km965 ≡ true)
in_knots_lem km e = let b = both (not (le km km80)) (le km km965) e in (not-true (le km km80) b.0, b.1)

-- ---- what each of the five segments has
five : (P : ℕ → ℕ → ℕ → ℕ → Type 0)
    → P 80 160 0x8000_0000 0x8000_0000_0000_0000 → P 160 320 0x8000_0000 0x8000_0000_0000_0000 → P 320 480 0x6000_0000 0xaaaa_aaaa_aaaa_aaab → P 480 640 0x5555_5556 0xc000_0000_0000_0000 → P 640 965 0x6080_0000 0xa9c8_4a47_a07f_5638
    → (p q r s : Bool) → P (chosen p q r s 80 160 320 480 640) (chosen p q r s 160 320 480 640 965) (chosen p q r s 0x8000_0000 0x8000_0000 0x6000_0000 0x5555_5556 0x6080_0000)
    (chosen p q r s 0x8000_0000_0000_0000 0x8000_0000_0000_0000 0xaaaa_aaaa_aaaa_aaab 0xc000_0000_0000_0000 0xa9c8_4a47_a07f_5638)
five P a b c d e true q r s = a
five P a b c d e false true r s = b
five P a b c d e false false true s = c
five P a b c d e false false false true = d
five P a b c d e false false false false = e

same_test : (a b c d : ℕ) → (a ≤ b → c ≤ d) → (b < a → d < c) → leb a b ≡ leb c d
same_test a b c d f g = elim (dec_le a b) [
  | yes h ↦ le-leb a b h ∙ sym (le-leb c d (f h))
  | no n ↦ let h : b < a = omega arith in lt-leb a b h ∙ sym (lt-leb c d (g h))
]

-- the two numbers fit
abbrev Fits : ℕ → ℕ → ℕ → ℕ → Type 0
Fits near far reach part = ((w : ℕ) → leb reach w ≡ leb (far * unit) (w * near)) × ((w : ℕ) → w ≤ 2 ^ 32 → w * part / 2 ^ 64 ≡ w * near / far)

fits : (p q r s : Bool) → Fits (chosen p q r s 80 160 320 480 640) (chosen p q r s 160 320 480 640 965) (chosen p q r s 0x8000_0000 0x8000_0000 0x6000_0000 0x5555_5556 0x6080_0000)
    (chosen p q r s 0x8000_0000_0000_0000 0x8000_0000_0000_0000 0xaaaa_aaaa_aaaa_aaab 0xc000_0000_0000_0000 0xa9c8_4a47_a07f_5638)
fits =
    five Fits
    (λ w. same_test 0x8000_0000 w (160 * unit) (w * 80) (λ h. omega arith) (λ h. omega arith), λ w h. over_by w 80 160 0x8000_0000_0000_0000 0 (2 ^ 64) (lit< tt) refl (omega arith))
    (λ w. same_test 0x8000_0000 w (320 * unit) (w * 160) (λ h. omega arith) (λ h. omega arith), λ w h. over_by w 160 320 0x8000_0000_0000_0000 0 (2 ^ 64) (lit< tt) refl (omega arith))
    (λ w. same_test 0x6000_0000 w (480 * unit) (w * 320) (λ h. omega arith) (λ h. omega arith), λ w h. over_by w 320 480 0xaaaa_aaaa_aaaa_aaab 160 (2 ^ 64) (lit< tt) refl (omega arith))
    (λ w. same_test 0x5555_5556 w (640 * unit) (w * 480) (λ h. omega arith) (λ h. omega arith), λ w h. over_by w 480 640 0xc000_0000_0000_0000 0 (2 ^ 64) (lit< tt) refl (omega arith))
    (λ w. same_test 0x6080_0000 w (965 * unit) (w * 640) (λ h. omega arith) (λ h. omega arith), λ w h. over_by w 640 965 0xa9c8_4a47_a07f_5638 280 (2 ^ 64) (lit< tt) refl (omega arith))

-- 1 is a place of every segment
abbrev AtOne : ℕ → ℕ → ℕ → ℕ → Type 0
AtOne near far reach part = Start near far unit

at_one : (p q r s : Bool) → Start (chosen p q r s 80 160 320 480 640) (chosen p q r s 160 320 480 640 965) unit
at_one =
    five AtOne
    (record { near_least = lit≤ tt; far_most = lit≤ tt; apart = lit< tt; close = lit≤ tt; least = lit≤ tt; most = lit≤ tt })
    (record { near_least = lit≤ tt; far_most = lit≤ tt; apart = lit< tt; close = lit≤ tt; least = lit≤ tt; most = lit≤ tt })
    (record { near_least = lit≤ tt; far_most = lit≤ tt; apart = lit< tt; close = lit≤ tt; least = lit≤ tt; most = lit≤ tt })
    (record { near_least = lit≤ tt; far_most = lit≤ tt; apart = lit< tt; close = lit≤ tt; least = lit≤ tt; most = lit≤ tt })
    (record { near_least = lit≤ tt; far_most = lit≤ tt; apart = lit< tt; close = lit≤ tt; least = lit≤ tt; most = lit≤ tt })

-- ---- the start
pub start_in : (km : Float) → in_knots km ≡ true → num km * unit / (den km * (segment_of km).near) ≡ start_of km
unfolding start_of
start_in km e = rw e

pub start_out : (km : Float) → in_knots km ≡ false → unit ≡ start_of km
unfolding start_of
start_out km e = rw e

one_in : (km : Float) → Start (segment_of km).near (segment_of km).far unit
unfolding segment_of by_segment
one_in km = at_one (le km km160) (le km km320) (le km km480) (le km km640)

start_of_lem : (km : Float) → Start (segment_of km).near (segment_of km).far (start_of km)
start_of_lem km = go (in_knots km) refl
  where
    go : (b : Bool) → in_knots km ≡ b → Start (segment_of km).near (segment_of km).far (start_of km)
    go true e =
        let k = in_knots_lem km e in
        let l = on_segment km k.0 k.1 in
        subst (λ (z : ℕ). Start (segment_of km).near (segment_of km).far z) (start_in km e) (started (segment_of km) l.knots km l.on)
    go false e = subst (λ (z : ℕ). Start (segment_of km).near (segment_of km).far z) (start_out km e) (one_in km)

-- ---- a lane on the way: i digits are done
pub record On (km : Float) (l : Lane) (i : ℕ) : Type 0 where
  pub fit : Fit l
  pub counted : 0 < l.count
  pub near_is : l.near ≡ (segment_of km).near
  pub far_is : l.far ≡ (segment_of km).far
  pub left : Left l.near l.far (start_of km) (l.count - 1) l.left i

fitted : (km : Float) → Fits (segment_of km).near (segment_of km).far (by_segment km 0x8000_0000 0x8000_0000 0x6000_0000 0x5555_5556 0x6080_0000)
    (by_segment km 0x8000_0000_0000_0000 0x8000_0000_0000_0000 0xaaaa_aaaa_aaaa_aaab 0xc000_0000_0000_0000 0xa9c8_4a47_a07f_5638)
unfolding segment_of by_segment
fitted km = fits (le km km160) (le km km320) (le km km480) (le km km640)

lane_on : (km : Float) → On km (lane_of km) 0
unfolding lane_of
lane_on km =
    let f = fitted km in
    record { fit = record { tested = f.0; divided = f.1 }; counted = lit< tt; near_is = refl; far_is = refl; left = (omega arith, lit< tt, start_of_lem km, refl) }

pub on_start : (km : Float) (l : Lane) → l ≡ lane_of km → On km l 0
on_start km l e = rw e (lane_on km)

count_most : (km : Float) (l : Lane) (i : ℕ) → On km l i → l.count ≤ 2 ^ 24
count_most km l i o = omega (arith, few_digits i (l.count - 1) o.left.0 o.left.1)

pub on_turning : (km : Float) (l : Lane) (i : ℕ) → On km l i → Turning l
on_turning km l i o = (o.fit, o.left.2, o.counted, count_most km l i o)

turned_on : (km : Float) (l : Lane) (i : ℕ) → i < 24 → On km l i → On km (turned l) (i + 1)
unfolding turned
turned_on km l i h o = go (leb (l.far * unit) (l.left * l.left / unit * l.near)) refl
  where
    go : (b : Bool) → leb (l.far * unit) (l.left * l.left / unit * l.near) ≡ b
        → On km (record { near = l.near; far = l.far; reach = l.reach; part = l.part; left = cond b (l.left * l.left / unit * l.near / l.far) (l.left * l.left / unit); count = cond b (2 * l.count) (2 * l.count - 1) }) (i + 1)
    go true b = record {
      fit = record { tested = o.fit.tested; divided = o.fit.divided };
      counted = omega (arith, o.counted);
      near_is = o.near_is;
      far_is = o.far_is;
      left = one_turn l.near l.far (start_of km) (l.count - 1) l.left i h o.left (leb-true _ _ b) (omega (arith, o.counted)) refl;
    }
    go false b = record {
      fit = record { tested = o.fit.tested; divided = o.fit.divided };
      counted = omega (arith, o.counted);
      near_is = o.near_is;
      far_is = o.far_is;
      left = zero_turn l.near l.far (start_of km) (l.count - 1) l.left i h o.left (leb-false _ _ b) (omega (arith, o.counted)) refl;
    }

pub on_turn : (km : Float) (l r : Lane) (i : ℕ) → i < 24 → On km l i → r ≡ turned l → On km r (i + 1)
on_turn km l r i h o e = rw e (turned_on km l i h o)

pub on_last : (km : Float) (l : Lane) (i : ℕ) → 24 ≤ i → On km l i → l.count ≡ count_of km
on_last km l i h o =
    let e : l.count - 1 ≡ digits l.near l.far 24 0 (start_of km) = (last_digit l.near l.far (start_of km) (l.count - 1) l.left i h o.left).0 in
    let f : l.count ≡ digits l.near l.far 24 0 (start_of km) + 1 = omega (arith, o.counted) in
    f ∙ ap (λ (z : ℕ). digits z l.far 24 0 (start_of km) + 1) o.near_is ∙ ap (λ (z : ℕ). digits (segment_of km).near z 24 0 (start_of km) + 1) o.far_is

-- ---- a lane after i turns, and the lanes of lengths
unfoldable pub turns : ℕ → Lane → Lane
turns zero l = l
turns (suc i) l = turned (turns i l)

turns_on : (km : Float) (i : ℕ) → i ≤ 24 → On km (turns i (lane_of km)) i
unfolding turns
turns_on km zero h = lane_on km
turns_on km (suc i) h = rw (sym (add-one i)) (turned_on km (turns i (lane_of km)) i (omega arith) (turns_on km i (omega arith)))

pub count_few : (km : Float) → count_of km ≤ 2 ^ 24
count_few km =
    let o = turns_on km 24 (lit≤ tt) in
    omega (arith, on_last km (turns 24 (lane_of km)) 24 (lit≤ tt) o, count_most km (turns 24 (lane_of km)) 24 o)

abbrev pub lane_after : List Float → ℕ → ℕ → Lane
lane_after km i j = turns i (lane_of (at km j))

module _ (km : List Float) where
  pub lanes_start : tab 8 (λ (j : ℕ). lane_of (at km j)) ≡ tab 8 (lane_after km 0)
  unfolding turns
  lanes_start = refl

  pub lanes_turn : (i : ℕ) → tab 8 (λ (j : ℕ). turned (lane_after km i j)) ≡ tab 8 (lane_after km (i + 1))
  unfolding turns
  lanes_turn i = rw (add-one i) refl

  pub lane_turning : (i : ℕ) (lanes : List Lane) → i < 24 → lanes ≡ tab 8 (lane_after km i) → (f : ℕ → Lane) → lanes ≡ tab 8 f → (j : ℕ) → j < 8 → Turning (f j)
  lane_turning i lanes h e f g j b =
      let d : Lane = lane_after km i j in
      let same : lane_after km i j ≡ f j = sym (get_tab 8 (lane_after km i) j d b) ∙ ap (λ (z : List Lane). get_or z j d) (sym e ∙ g) ∙ get_tab 8 f j d b in
      subst (λ (z : Lane). Turning z) same (on_turning (at km j) d i (turns_on (at km j) i (omega arith)))

  pub lane_counted : (i j : ℕ) (lanes : List Lane) (d : Lane) → i ≡ 24 → lanes ≡ tab 8 (lane_after km i) → j < 8 → (get_or lanes j d).count ≡ count_of (at km j)
  lane_counted i j lanes d h e b =
      ap (λ (z : List Lane). (get_or z j d).count) e
      ∙ ap (λ (z : Lane). z.count) (get_tab 8 (lane_after km i) j d b)
      ∙ on_last (at km j) (lane_after km i j) i (omega arith) (turns_on (at km j) i (omega arith))

-- ---- eight lanes, of which i have turned: the next is still as it was
pub next_lane : (w₀ w : List Lane) (f g : ℕ → Lane) (i : ℕ) (d : Lane) → w₀ ≡ tab 8 f → w ≡ filled w₀ g i → i < 8 → get_or w i d ≡ f i
next_lane w₀ w f g i d e v h =
    let n : length w₀ ≡ 8 = ap length e ∙ length_tab 8 f in
    fill_own w₀ w g i d v (omega arith) ∙ ap (λ (z : List Lane). get_or z i d) e ∙ get_tab 8 f i d h

pub next_turning : (w₀ w : List Lane) (i : ℕ) (d : Lane) → length w₀ ≡ 8 → ((f : ℕ → Lane) → w₀ ≡ tab 8 f → (j : ℕ) → j < 8 → Turning (f j))
    → ((f : ℕ → Lane) → w₀ ≡ tab 8 f → w ≡ filled w₀ (λ (j : ℕ). turned (f j)) i) → i < 8 → Turning (get_or w i d)
next_turning w₀ w i d n r v h =
    let f : ℕ → Lane = λ (j : ℕ). get_or w₀ j d in
    let e : w₀ ≡ tab 8 f = sym (tab_of 8 w₀ d n) in
    subst (λ (z : Lane). Turning z) (sym (next_lane w₀ w f (λ (j : ℕ). turned (f j)) i d e (v f e) h)) (r f e i h)

-- ---- the code's turn
pub squared_most : (l : Lane) → Start l.near l.far l.left → l.left * l.left / unit ≤ 2 ^ 32
squared_most l s = omega (arith, square_most l.near l.far l.left s)

pub turned_is : (l : Lane) (d left r : ℕ) → Fit l → l.left * l.left / unit ≤ 2 ^ 32 → d ≡ l.left * l.left / unit * l.part / 2 ^ 64
    → left ≡ cond (leb l.reach (l.left * l.left / unit)) d (l.left * l.left / unit) → r ≡ cond (leb l.reach (l.left * l.left / unit)) 0 1
    → ◌≡◌ {A = Lane} (record { near = l.near; far = l.far; reach = l.reach; part = l.part; left = left; count = 2 * l.count - r }) (turned l)
unfolding turned
turned_is l d left r f h e el er =
    let t = f.tested (l.left * l.left / unit) in
    let v = e ∙ f.divided (l.left * l.left / unit) h in
    rw (el, er, t, v, less (leb (l.far * unit) (l.left * l.left / unit * l.near)) (2 * l.count))
  where
    less : (b : Bool) (c : ℕ) → c - cond b 0 1 ≡ cond b c (c - 1)
    less true c = omega arith
    less false c = refl

-- ---- the curve, by the count
pub knots_in : (km : Float) → le km km80 ≡ false → le km km965 ≡ true → in_knots km ≡ true
knots_in km f e = rw (f, e)

pub between_is : (km : Float) (g : Segment) (count m : ℕ) → in_knots km ≡ true → count ≡ count_of km → g ≡ segment_of km → m ≡ middle g (count - 1) → on_grid m ≡ between (segment_of km) km
unfolding between
between_is km g count m e f is h =
    let n : count - 1 ≡ digits (segment_of km).near (segment_of km).far 24 0 (start_of km) = omega arith in
    ap on_grid (h ∙ ap (λ (z : Segment). middle z (count - 1)) is ∙ ap (λ (z : ℕ). middle (segment_of km) z) (n ∙ ap (λ (z : ℕ). digits (segment_of km).near (segment_of km).far 24 0 z) (sym (start_in km e))))
