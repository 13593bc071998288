-- The laws of codes and places, and what other crates need of a range.
use Rattle.std.proofs.Common.{◌≡◌, ℕ, zero, suc, ◌+◌, ◌*◌, ◌/◌, ◌^◌, ◌<◌, ◌≤◌, true, ◌&&◌, T, leb, Bool, false, cond, Ok, Some, None, IfOk, ap₂, le→leb, leb→le, ℤ, pos, negsuc, neg_ℤ, ◌+ℤ◌, ◌-ℤ◌, ◌*ℤ◌, nat_abs, ◌≤ℤ◌, ◌<ℤ◌, refl, sym, subst, ap, ◌∙◌, mul-le-mul_right, mul-le-mul, lt_of_mul-lt-mul_right, arith, pow_mono}
use lib.IntN.{+ℤ_one, suc_ℤ-*ℤ}
use lib.Signed.{le_z, lt_z}
use lib.Ieee.{Float, nan, inf, fin, binary32, of_bits, fits}
use lib.Ieee.Bits.{is_true as holds, of_bits-fits}
use lib.Ieee.Fits.{and_l, and_r, and_i}
use Rattle.std.proofs.lemmas.Float.{T_from_true as passes}
use Rattle.std.proofs.lemmas.Int.{unsigned_abs-mul}
use Rattle.std.specs.Int.{int_div_euclid}
use borrow.Author.Differences.{ints, up, down}
use Rattle.range.proofs.Units.{units_small, plain_good, plain_units, plain_plain}
use Rattle.refusal.specs.declared.Why.{Why}
use Rattle.refusal.specs.declared.Why.TheVariants.{Bits, End as BadEnd, Order}
use Rattle.range.specs.declared.words.Words.{Words}
use Rattle.range.specs.Scale.{good_end, units_of, plain, Scale, IsCode, IsRange, range_of, range_in, refusal, scale_from, scale_of, range_unless, is_code, code_in, highest, in_quanta, inside, lowest, nearest_whole, numerator, place_in, quanta, width}
use Rattle.range.specs.Laws.{FloorMeans, NearestMeans, Between, OnTable, CodeInRange, HalfAQuantum, HalfAStep, PlaceNear, PlacesBounded, CodesRise, PlacesRise, SumsSmall}
use Rattle.range.specs.declared.ends.TheConstants.{MOST_BITS, FARTHEST_UNITS}

-- ---- the whole number nearest to n / (2 h)

floor : (a : ℤ) (d : ℕ) → 0 < d → let q = int_div_euclid a (pos d) in (up q * d + down a ≤ down q * d + up a) × (down q * d + up a < up q * d + down a + d)
floor (pos a) d p = omega arith
floor (negsuc a) d p = omega arith

pub floor_means : FloorMeans
floor_means z d p =
    let q : ℤ = int_div_euclid z (pos d) in
    let f = floor z d p in
    let below : z <ℤ ((q *ℤ pos d) +ℤ pos d) = omega (arith, ints) in
    let next : (q +ℤ pos 1) *ℤ pos d ≡ (q *ℤ pos d) +ℤ pos d = ap (λ (x : ℤ). x *ℤ pos d) (+ℤ_one q) ∙ suc_ℤ-*ℤ q (pos d) in
    (omega (arith, ints), subst (λ (x : ℤ). z <ℤ x) (sym next) below)

pub nearest_means : NearestMeans
nearest_means n h p = let f = floor (n +ℤ pos h) (2 * h) (omega arith) in (omega (arith, ints), omega (arith, ints))

near : (n : ℤ) (h : ℕ) → 0 < h → nat_abs (pos (2 * h) *ℤ nearest_whole n h -ℤ n) ≤ h
near n h p = let f = floor (n +ℤ pos h) (2 * h) (omega arith) in omega (arith, ints)

-- it rises with n, also where h is 0
floor_rises : (a b : ℤ) (d : ℕ) → a ≤ℤ b → int_div_euclid a (pos d) ≤ℤ int_div_euclid b (pos d)
floor_rises (pos a) (pos b) zero h = omega (arith, ints)
floor_rises (pos a) (negsuc b) zero h = absurd (omega (arith, ints))
floor_rises (negsuc a) (pos b) zero h = omega (arith, ints)
floor_rises (negsuc a) (negsuc b) zero h = omega (arith, ints)
floor_rises a b (suc d) h =
    let f = floor a (suc d) (omega arith) in
    let g = floor b (suc d) (omega arith) in
    let x = int_div_euclid a (pos (suc d)) in
    let y = int_div_euclid b (pos (suc d)) in
    let k : up x + down y < up y + down x + 1 = lt_of_mul-lt-mul_right (suc d) (omega (arith, ints)) in
    omega (arith, ints)

rises : (n m : ℤ) (h : ℕ) → n ≤ℤ m → nearest_whole n h ≤ℤ nearest_whole m h
rises n m h e = floor_rises (n +ℤ pos h) (m +ℤ pos h) (2 * h) (omega (arith, ints))

-- it lies from a to b where n / (2 h) does
between : (a b n : ℤ) (h : ℕ) → 0 < h → (a *ℤ pos (2 * h)) ≤ℤ n → n ≤ℤ (b *ℤ pos (2 * h)) → (a ≤ℤ nearest_whole n h) × (nearest_whole n h ≤ℤ b)
between a b n h p l u =
    let f = floor (n +ℤ pos h) (2 * h) (omega arith) in
    let x = nearest_whole n h in
    let j : up a + down x < up x + down a + 1 = lt_of_mul-lt-mul_right (2 * h) (omega (arith, ints)) in
    let k : up x + down b < up b + down x + 1 = lt_of_mul-lt-mul_right (2 * h) (omega (arith, ints)) in
    (omega (arith, ints), omega (arith, ints))

-- ---- tests of an order

-- a test of two orders, passed
pub in_order : (a b c : ℤ) → (le_z a b && le_z b c) ≡ true → (a ≤ℤ b) × (b ≤ℤ c)
in_order a b c h =
    let t : T (le_z a b && le_z b c) = passes (le_z a b && le_z b c) h in
    (record { le = and_l (le_z a b) (le_z b c) t }, record { le = and_r (le_z a b) (le_z b c) t })

pub tested : (a b c : ℤ) → a ≤ℤ b → b ≤ℤ c → (le_z a b && le_z b c) ≡ true
tested a b c h k = holds (le_z a b && le_z b c) (and_i (le_z a b) (le_z b c) h.le k.le)

-- ---- codes

-- so many values have the bits of a range
pub values_few : (bits : ℕ) → 1 ≤ bits → bits ≤ MOST_BITS → (2 ≤ 2 ^ bits) × (2 ^ bits ≤ 2 ^ MOST_BITS)
values_few bits h l = let a = pow_mono h in let b = pow_mono l in (omega (arith, a), omega (arith, b))

-- the greatest code is above 0, and below 2 ^ MOST_BITS
pub quanta_pos : (s : Scale) → 1 ≤ s.bits → 0 < quanta s
quanta_pos s h = omega (arith, pow_mono h)

pub quanta_small : (s : Scale) → s.bits ≤ MOST_BITS → quanta s < 2 ^ MOST_BITS
quanta_small s h = omega (arith, pow_mono h)

-- a coordinate between the ends, from the lower one on
from : (s : Scale) (v : ℤ) → Between s v → (v -ℤ lowest s ≡ pos (nat_abs (v -ℤ lowest s))) × (nat_abs (v -ℤ lowest s) ≤ width s) × (0 < width s)
from s v b =
    let k = in_order (lowest s) v (highest s) b.1 in
    (omega (arith, ints, k.0), omega (arith, ints, k.0, k.1), omega (arith, ints, b.0))

-- n = 2 (v - lo) M lies from 0 to 2 D M
in_width : (z : ℤ) (f m d : ℕ) → z ≡ pos f → f ≤ d → ((pos 0 *ℤ pos (2 * d)) ≤ℤ (pos 2 *ℤ (z *ℤ pos m))) × ((pos 2 *ℤ (z *ℤ pos m)) ≤ℤ (pos m *ℤ pos (2 * d)))
in_width z f m d e l = let k : f * m ≤ d * m = mul-le-mul_right m l in rw e (omega (arith, ints), omega (arith, ints))

pub code_in_range : CodeInRange
unfolding code_in
code_in_range s v b =
    let f = from s v b in
    let k = in_width (v -ℤ lowest s) (nat_abs (v -ℤ lowest s)) (quanta s) (width s) f.0 f.1 in
    let r = between (pos 0) (pos (quanta s)) (in_quanta s v) (width s) f.2 k.0 k.1 in
    tested (pos 0) (code_in s v) (pos (quanta s)) r.0 r.1

-- 2 (M v - N) is n - 2 D c
half : (v lo c : ℤ) (m d : ℕ) → nat_abs (pos (2 * d) *ℤ c -ℤ pos 2 *ℤ ((v -ℤ lo) *ℤ pos m)) ≤ d → 2 * nat_abs (pos m *ℤ v -ℤ (pos m *ℤ lo +ℤ c *ℤ pos d)) ≤ d
half v lo c m d h =
    let z = v -ℤ lo in
    let a : up z + down v + up lo ≡ down z + up v + down lo = omega (arith, ints) in
    let b : m * (up z + down v + up lo) ≡ m * (down z + up v + down lo) = ap (λ (x : ℕ). m * x) a in
    omega (arith, ints)

pub half_a_quantum : HalfAQuantum
unfolding code_in
half_a_quantum s v b = half v (lowest s) (code_in s v) (quanta s) (width s) (near (in_quanta s v) (width s) (from s v b).2)

pub half_a_step : HalfAStep
unfolding place_in
half_a_step s c b = let n = near (numerator s c) (8 * quanta s) (omega (arith, quanta_pos s b)) in omega (arith, ints, n)

-- M (v - 16 p) is M v - N less 16 M p - N
both : (v p n : ℤ) (m d : ℕ) → 2 * nat_abs (pos m *ℤ v -ℤ n) ≤ d → nat_abs (pos (16 * m) *ℤ p -ℤ n) ≤ 8 * m → 2 * m * nat_abs (v -ℤ pos 16 *ℤ p) ≤ d + 16 * m
both v p n m d h k =
    let x = v -ℤ pos 16 *ℤ p in
    let a : up x + down v + 16 * up p ≡ down x + up v + 16 * down p = omega (arith, ints) in
    let b : m * (up x + down v + 16 * up p) ≡ m * (down x + up v + 16 * down p) = ap (λ (y : ℕ). m * y) a in
    let c : 2 * nat_abs (pos m *ℤ x) ≤ d + 16 * m = omega (arith, ints) in
    omega (arith, c, unsigned_abs-mul (pos m) x)

pub places_near : PlaceNear
places_near s v k b =
    let c = code_in s v in
    both v (place_in s c) (numerator s c) (quanta s) (width s) (half_a_quantum s v b) (half_a_step s c k)

-- ---- places

-- -u M ≤ N ≤ u M, for ends within u of zero
within : (lo c : ℤ) (m d u k : ℕ) → nat_abs lo ≤ u → nat_abs (lo +ℤ pos d) ≤ u → c ≡ pos k → k ≤ m
    → (neg_ℤ (pos (u * m)) ≤ℤ (pos m *ℤ lo +ℤ c *ℤ pos d)) × ((pos m *ℤ lo +ℤ c *ℤ pos d) ≤ℤ pos (u * m))
within lo c m d u k a b e l =
    let x : k * d ≤ m * d = mul-le-mul_right d l in
    let y : (down lo) * m ≤ (u + up lo) * m = mul-le-mul_right m (omega (arith, ints)) in
    let z : (up lo + d) * m ≤ (u + down lo) * m = mul-le-mul_right m (omega (arith, ints)) in
    rw e (omega (arith, ints), omega (arith, ints))

on_table : (s : Scale) (c : ℤ) → OnTable s → IsCode s c
    → (neg_ℤ (pos (FARTHEST_UNITS * quanta s)) ≤ℤ numerator s c) × (numerator s c ≤ℤ pos (FARTHEST_UNITS * quanta s))
on_table s c t is =
    let k = in_order (pos 0) c (pos (quanta s)) is in
    let u : nat_abs (lowest s +ℤ pos (width s)) ≤ FARTHEST_UNITS = omega (arith, ints, t.0, t.2) in
    within (lowest s) c (quanta s) (width s) FARTHEST_UNITS (nat_abs c) t.1 u (omega (arith, ints, k.0)) (omega (arith, ints, k.0, k.1))

pub places_bounded : PlacesBounded
unfolding place_in
places_bounded s c b t is =
    let x = on_table s c t is in
    let p : 0 < 8 * quanta s = omega (arith, quanta_pos s b) in
    let y = between (neg_ℤ (pos (FARTHEST_UNITS / 16))) (pos (FARTHEST_UNITS / 16)) (numerator s c) (8 * quanta s) p (omega (arith, ints, x.0)) (omega (arith, ints, x.1)) in
    omega (arith, ints, y)

-- ---- codes and places rise

times-rises : (x y : ℤ) (m : ℕ) → x ≤ℤ y → (x *ℤ pos m) ≤ℤ (y *ℤ pos m)
times-rises x y m h =
    let a : (up x + down y) * m ≤ (up y + down x) * m = mul-le-mul_right m (omega (arith, ints)) in
    omega (arith, ints)

pub codes_rise : CodesRise
unfolding code_in
codes_rise s v w h =
    let k = times-rises (v -ℤ lowest s) (w -ℤ lowest s) (quanta s) (omega (arith, ints)) in
    rises (in_quanta s v) (in_quanta s w) (width s) (omega (arith, ints))

pub places_rise : PlacesRise
unfolding place_in
places_rise s c k h = let r = times-rises c k (width s) h in rises (numerator s c) (numerator s k) (8 * quanta s) (omega (arith, ints))

-- ---- the sums are small

pub sums_small : SumsSmall
sums_small s b t =
    let m : quanta s < 2 ^ MOST_BITS = quanta_small s b in
    let d : width s ≤ 2 * FARTHEST_UNITS = omega (arith, ints, t.1, t.2) in (
      λ v h.
          let f = from s v (t.0, h) in
          let l : nat_abs (v -ℤ lowest s) ≤ 2 * FARTHEST_UNITS = omega (arith, f.1) in
          let n : quanta s ≤ 2 ^ MOST_BITS = omega arith in
          let g : nat_abs (v -ℤ lowest s) * quanta s ≤ 2 * FARTHEST_UNITS * 2 ^ MOST_BITS = mul-le-mul l n in
          rw f.0 (omega (arith, ints, g)),
      λ c h. let x = on_table s c t h in omega (arith, ints, x.0, x.1),
    )

pub ruleset laws = (nearest_means, code_in_range, half_a_quantum, half_a_step, places_near, places_bounded, codes_rise, places_rise, sums_small)

-- ---- what the machine works out

pub code_as : (s : Scale) (v : ℤ) (f m d r : ℕ) → inside s v ≡ true → 0 < d → v -ℤ lowest s ≡ pos f → d ≡ width s → m ≡ quanta s
    → pos r ≡ nearest_whole (pos (2 * (f * m))) d → (pos r ≡ code_in s v) × (r ≤ m)
unfolding code_in
code_as s v f m d r i p e is_width is_quanta near =
    let k = in_order (lowest s) v (highest s) i in
    let same : pos r ≡ code_in s v = rw (e, ← is_width, ← is_quanta) near in
    let code = code_in_range s v (omega (arith, ints), i) in
    let l = in_order (pos 0) (code_in s v) (pos (quanta s)) code in
    (same, omega (arith, ints, l.1))

pub place_as : (s : Scale) (is : IsRange s) (c : ℕ) (a b d e p r n h q : ℤ) → c ≤ quanta s → p ≡ a *ℤ b → r ≡ d *ℤ e
    → a ≡ pos (quanta s) → b ≡ lowest s → d ≡ pos c → e ≡ pos (width s) → n ≡ p +ℤ r → h ≡ pos (8 * quanta s)
    → q ≡ nearest_whole n (nat_abs h) → (q ≡ place_in s (pos c)) × (16 * nat_abs q ≤ FARTHEST_UNITS)
unfolding place_in
place_as s is c a b d e p r n h q l ep er ea eb ed ee en eh eq =
    let same : q ≡ place_in s (pos c) = eq ∙ rw (en, ep, er, ea, eb, ed, ee, eh) refl in
    let t : OnTable s = (is.ordered, units_small s.lower is.low.0, units_small s.upper is.high.0) in
    let code = tested (pos 0) (pos c) (pos (quanta s)) (omega (arith, ints)) (omega (arith, ints)) in
    let b = places_bounded s (pos c) is.wide.0 t code in
    (same, rw same b)

pub product_small : (a b : ℤ) (m n : ℕ) → nat_abs a ≤ m → nat_abs b ≤ n → nat_abs (a *ℤ b) ≤ m * n
product_small a b m n h k = omega (arith, unsigned_abs-mul a b, mul-le-mul h k)

-- ---- a range record, by its scale

-- a code is a natural number of at most M
pub code-nat : (s : Scale) (c : ℤ) → is_code s c ≡ true → (c ≡ pos (nat_abs c)) × (nat_abs c ≤ quanta s)
code-nat s c h = let k = in_order (pos 0) c (pos (quanta s)) h in (omega (arith, ints, k.0), omega (arith, ints, k.0, k.1))

-- the greatest code is 1 to 2 ^ MOST_BITS - 1
pub quanta-small : (g : Scale) (is : IsRange g) → (0 < quanta g) × (quanta g < 2 ^ MOST_BITS)
quanta-small g is = (quanta_pos g is.wide.0, quanta_small g is.wide.1)

-- a range is not refused by its own bits and ends, and made from them says the same
pub stays : (g : Scale) (is : IsRange g) → (refusal g.bits g.lower g.upper ≡ None) × (scale_from g.bits g.lower g.upper ≡ g)
stays g is =
    let few : leb 1 g.bits ≡ true = holds (leb 1 g.bits) (le→leb 1 g.bits is.wide.0) in
    let most : leb g.bits MOST_BITS ≡ true = holds (leb g.bits MOST_BITS) (le→leb g.bits MOST_BITS is.wide.1) in
    let low : good_end g.lower ≡ true = is.low.0 in
    let high : good_end g.upper ≡ true = is.high.0 in
    let ordered : lt_z (units_of g.lower) (units_of g.upper) ≡ true = holds _ is.ordered.lt in
    (rw (few, most, low, high, ordered) refl, ap₂ (λ a b. record { bits = g.bits; lower = a; upper = b }) is.low.1 is.high.1)

-- so it is what they make
pub made : (g : Scale) (is : IsRange g) → range_of g.bits g.lower g.upper ≡ Ok g
made g is = let k = stays g is in ap₂ range_unless k.0 k.1

-- coordinates inside a range
module _ (g : Scale) (is : IsRange g) (v : ℤ) (h : inside g v ≡ true) where
  -- the code of a coordinate is a code
  pub code-within : is_code g (code_in g v) ≡ true
  code-within = code_in_range g v (is.ordered, h)

  -- 2 M |v - 16 p| ≤ D + 16 M, for the place p of its code
  pub place-near : 2 * quanta g * nat_abs (v -ℤ pos 16 *ℤ place_in g (code_in g v)) ≤ width g + 16 * quanta g
  place-near = places_near g v is.wide.0 (is.ordered, h)

-- ---- what words say is a range where there is one

plain_fits : (x : Float) → fits binary32 x ≡ true → fits binary32 (plain x) ≡ true
unfolding plain fits
plain_fits nan f = f
plain_fits (inf s) f = f
plain_fits (fin s zero e) f = refl
plain_fits (fin s (suc m) e) f = f

by_tests : (a b c : Bool) (x y z : Why) (s : Scale) (P : Scale → Type 0) → (a ≡ true → b ≡ true → c ≡ true → P s)
    → IfOk (range_unless (cond a (cond b (cond c None (Some x)) (Some y)) (Some z)) s) P
by_tests true true true x y z s P f = f refl refl refl
by_tests true true false x y z s P f = tt
by_tests true false c x y z s P f = tt
by_tests false b c x y z s P f = tt

pub words_sound : (w : Words) → IfOk (range_in w) IsRange
words_sound w =
    let x = of_bits binary32 w.lower in
    let y = of_bits binary32 w.upper in
    by_tests (leb 1 w.bits && leb w.bits MOST_BITS) (good_end x && good_end y) (lt_z (units_of x) (units_of y)) Order BadEnd Bits (scale_of w) IsRange
    (λ b g o. record {
      wide = (leb→le 1 w.bits (and_l (leb 1 w.bits) (leb w.bits MOST_BITS) (passes _ b)), leb→le w.bits MOST_BITS (and_r (leb 1 w.bits) (leb w.bits MOST_BITS) (passes _ b)));
      low = (plain_good x ∙ holds (good_end x) (and_l (good_end x) (good_end y) (passes _ g)), plain_plain x);
      high = (plain_good y ∙ holds (good_end y) (and_r (good_end x) (good_end y) (passes _ g)), plain_plain y);
      ordered = rw (plain_units x, plain_units y) (record { lt = passes _ o });
      held = (plain_fits x (holds _ (of_bits-fits binary32 w.lower)), plain_fits y (holds _ (of_bits-fits binary32 w.upper)));
    })
