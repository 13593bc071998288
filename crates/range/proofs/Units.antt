-- An end of a range: its units, the end without the sign of a zero, its place beside another, and its word.
use Rattle.std.proofs.Common.{◌≡◌, ◌≢◌, ℕ, zero, suc, ◌+◌, ◌*◌, ◌/◌, ◌%◌, ◌^◌, ◌<◌, ◌≤◌, Bool, true, false, cond, ◌&&◌, T, eqb, leb, ltb, ℤ, pos, negsuc, neg_ℤ, nat_abs, sym, refl, ap, ◌∙◌, ⊎_elim, true≢false, zero-lt-suc, mul-pos, div-add-mod', zero-mul, mul-one, one-mul, mul-div_cancel, mul-le-mul_right, lt_of_mul-lt-mul_right, mul-lt-mul_of_pos_right, arith, lit<, le→leb, lt→ltb, eqb→eq, pow_pos}
use native.Mathlib.Nat.{div-le_of_le-mul, zero-div, zero-mod, mul-mod_left, pow-succ'}
use lib.Signed.{lt_z}
use lib.Ieee.{Float, nan, inf, fin, binary32, prec, up, down, mul, round, of_int, of_bits, to_bits, to_signed, in_signed, in_float, fits, is_nan, eq, lt, below}
use lib.Ieee.Fits.{down_pos, up_pos}
use lib.Ieee.Bits.{to_bits-of_bits, of_bits-fits}
use lib.Ieee.Scale.{round_same}
use lib.Ieee.Back.{positive_back, negative_back}
use borrow.Author.Differences.{ints}
use Rattle.std.proofs.lemmas.Bool.{cases_eq}
use Rattle.std.proofs.lemmas.Bool.Decides.{nat_tests}
use Rattle.std.specs.Float.{float_is_finite}
use Rattle.range.specs.Scale.{InUnits, good_end, signed, units_of, plain}
use Rattle.range.specs.Laws.{EndsMean, PlainUnits, WordsStay}
use Rattle.range.specs.declared.ends.TheConstants.{FARTHEST_UNITS}

-- ---- the units of a good end

-- a good end is a finite number
by-good : (P : Float → Type 0) → ((s : Bool) (m : ℕ) (e : ℤ) → good_end (fin s m e) ≡ true → P (fin s m e)) → (x : Float) → good_end x ≡ true → P x
unfolding good_end
by-good P f nan h = absurd (true≢false (sym h))
by-good P f (inf s) h = absurd (true≢false (sym h))
by-good P f (fin s m e) h = f s m e h

pub is_number : (x : Float) → good_end x ≡ true → (is_nan x ≡ false) × (float_is_finite x ≡ true)
unfolding is_nan float_is_finite
is_number = by-good (λ x. (is_nan x ≡ false) × (float_is_finite x ≡ true)) (λ s m e h. (refl, refl))

-- the magnitude in units
abbrev pub size : ℕ → ℤ → ℕ
size m e = m * up e * 256 / down e

-- the test of a good end, passed by x / d units
passed : (x d : ℕ) → 0 < d → (leb x (FARTHEST_UNITS * d) && eqb (x % d) 0) ≡ true → (x ≡ x / d * d) × (x ≤ FARTHEST_UNITS * d)
passed x d p h = grind (arith, nat_tests, div-add-mod' x d)

passing : (x d : ℕ) → x ≤ FARTHEST_UNITS * d → x % d ≡ 0 → (leb x (FARTHEST_UNITS * d) && eqb (x % d) 0) ≡ true
passing x d p q = grind (arith, nat_tests)

-- of a good end: the magnitude in units is exact, and not too great
good-is : (s : Bool) (m : ℕ) (e : ℤ) → good_end (fin s m e) ≡ true → (m * up e * 256 ≡ size m e * down e) × (size m e ≤ FARTHEST_UNITS)
unfolding good_end
good-is s m e h = let k = passed (m * up e * 256) (down e) (down_pos e) h in (k.0, div-le_of_le-mul (down e) (omega (arith, k.1)))

abs-signed : (s : Bool) (n : ℕ) → nat_abs (signed s n) ≡ n
abs-signed false n = refl
abs-signed true zero = refl
abs-signed true (suc n) = refl

-- the units of a good end are few either way
pub units_small : (x : Float) → good_end x ≡ true → nat_abs (units_of x) ≤ FARTHEST_UNITS
unfolding units_of
units_small = by-good (λ x. nat_abs (units_of x) ≤ FARTHEST_UNITS) (λ s m e h. rw (abs-signed s (size m e)) (good-is s m e h).1)

there : (x : Float) → good_end x ≡ true → InUnits x (units_of x)
unfolding units_of
there = by-good (λ x. InUnits x (units_of x)) (λ s m e h. (size m e, (good-is s m e h).0, refl))

back : (x : Float) (u : ℤ) → InUnits x u → nat_abs u ≤ FARTHEST_UNITS → (good_end x ≡ true) × (units_of x ≡ u)
unfolding good_end units_of
back nan u i h = absurd i
back (inf s) u i h = absurd i
back (fin s m e) u i h =
    let n = i.0 in
    let l : n ≤ FARTHEST_UNITS = omega (arith, ap nat_abs i.2 ∙ abs-signed s n) in
    let b : m * up e * 256 % down e ≡ 0 = ap (λ (k : ℕ). k % down e) i.1 ∙ mul-mod_left n (down e) in
    let q : size m e ≡ n = ap (λ (k : ℕ). k / down e) i.1 ∙ mul-div_cancel n (down_pos e) in
    (passing (m * up e * 256) (down e) (omega (arith, i.1, mul-le-mul_right (down e) l)) b, ap (signed s) q ∙ sym i.2)

pub ends_mean : EndsMean
ends_mean = ((λ x h. (there x h, units_small x h)), back)

-- ---- without the sign of a zero

-- a zero is a good end, and worth nothing
zero_end : (s : Bool) (e : ℤ) → (good_end (fin s 0 e) ≡ true) × (units_of (fin s 0 e) ≡ pos 0)
unfolding good_end units_of
zero_end s e =
    let near : leb 0 (FARTHEST_UNITS * down e) ≡ true = grind (arith, nat_tests) in
    (rw (zero-mul (up e), zero-mod (down e), near) refl, rw (zero-mul (up e), zero-div (down e)) (no_sign s))
  where
    no_sign : (s : Bool) → signed s 0 ≡ pos 0
    no_sign true = refl
    no_sign false = refl

-- an end as a range stores it is as good, and worth the same
plain_same : (x : Float) → (good_end (plain x) ≡ good_end x) × (units_of (plain x) ≡ units_of x) × (plain (plain x) ≡ plain x)
unfolding good_end units_of plain
plain_same nan = (refl, refl, refl)
plain_same (inf s) = (refl, refl, refl)
plain_same (fin s zero e) = let z = zero_end s e in (sym z.0, sym z.1, refl)
plain_same (fin s (suc m) e) = (refl, refl, refl)

pub plain_good : (x : Float) → good_end (plain x) ≡ good_end x
plain_good x = (plain_same x).0

pub plain_units : PlainUnits
plain_units x = (plain_same x).1

pub plain_plain : (x : Float) → plain (plain x) ≡ plain x
plain_plain x = (plain_same x).2

zeroes : (s : Bool) (e : ℤ) → eq (fin s 0 e) (fin false 0 (pos 0)) ≡ true
unfolding eq
zeroes true e = rw (zero-mul (up e), zero-mul (down e)) refl
zeroes false e = rw (zero-mul (up e), zero-mul (down e)) refl

some : (s : Bool) (m : ℕ) (e : ℤ) → eq (fin s (suc m) e) (fin false 0 (pos 0)) ≡ false
unfolding eq
some s m e = grind (arith, nat_tests, mul-pos (zero-lt-suc m) (up_pos e))

-- as the code finds it: 0.0 for what equals it
pub plain_is : (x : Float) → plain x ≡ cond (eq x (of_bits binary32 0)) (of_bits binary32 0) x
unfolding eq plain of_bits
plain_is nan = refl
plain_is (inf s) = refl
plain_is (fin s zero e) = rw (zeroes s e) refl
plain_is (fin s (suc m) e) = rw (some s m e) refl

-- ---- 256 times an end, as an `f32` works it out, is the float of its units: nothing is rounded

abbrev pub c256 : Float
c256 = fin false 1 (pos 8)

pub c256-is : of_bits binary32 0x4380_0000 ≡ c256
unfolding of_bits
c256-is = refl

pub times : (s : Bool) (m : ℕ) (e : ℤ) → mul binary32 (fin s m e) c256 ≡ round binary32 s (m * up e * 256) (down e)
unfolding mul
times true m e = ap (round binary32 true (m * up e * 256)) (mul-one (down e))
times false m e = ap (round binary32 false (m * up e * 256)) (mul-one (down e))

whole-round : (s : Bool) (m : ℕ) (e : ℤ) → good_end (fin s m e) ≡ true → mul binary32 (fin s m e) c256 ≡ round binary32 s (size m e) 1
whole-round s m e h = times s m e ∙ round_same binary32 s (m * up e * 256) (down e) (size m e) 1 (down_pos e) (lit< tt) (mul-one (m * up e * 256) ∙ (good-is s m e h).0)

of_int-neg : (n : ℕ) → 0 < n → round binary32 true n 1 ≡ of_int binary32 (neg_ℤ (pos n))
unfolding of_int
of_int-neg zero h = absurd (omega arith)
of_int-neg (suc n) h = refl

as_int : (x : Float) → good_end x ≡ true → plain x ≡ x → mul binary32 x c256 ≡ of_int binary32 (units_of x)
unfolding units_of plain good_end of_int
as_int nan h z = absurd (true≢false (sym h))
as_int (inf s) h z = absurd (true≢false (sym h))
as_int (fin false m e) h z = whole-round false m e h
as_int (fin true zero e) h z = absurd (true≢false (cc))
as_int (fin true (suc m) e) h z =
    let p = (good-is true (suc m) e h).0 in
    whole-round true (suc m) e h ∙ of_int-neg (size (suc m) e) (lt_of_mul-lt-mul_right (down e) (omega (arith, p, mul-pos (zero-lt-suc m) (up_pos e))))

-- a whole number up to 2 ^ 24 either way, which an `f32` has without a gap, as a float and back
int-back : (z : ℤ) → nat_abs z ≤ 2 ^ prec binary32 → T (in_signed binary32 31 (of_int binary32 z)) × (to_signed 31 (of_int binary32 z) ≡ z)
unfolding in_float
int-back (pos n) h = positive_back binary32 31 n (le→leb n (2 ^ prec binary32) h) (omega arith)
int-back (negsuc n) h = negative_back binary32 31 n (lt→ltb n (2 ^ prec binary32) h) (omega arith)

-- 256 times the end casts to an `i32`, and to its units
pub cast : (x : Float) → good_end x ≡ true → plain x ≡ x → let y = mul binary32 x (of_bits binary32 0x4380_0000) in T (in_signed binary32 31 y) × (to_signed 31 y ≡ units_of x)
cast x h z = rw (c256-is, as_int x h z) (int-back (units_of x) (units_small x h))

-- ---- two ends are in the order of their units

-- P and Q are p and q on one scale
scaled : (p q P Q k : ℕ) → 0 < k → P * 256 ≡ p * k → Q * 256 ≡ q * k → ltb P Q ≡ ltb p q
scaled p q P Q k K e f =
    let there : P < Q → p < q = λ h. lt_of_mul-lt-mul_right k (omega arith) in
    let back : p < q → P < Q = λ h. let g : p * k < q * k = mul-lt-mul_of_pos_right h K in omega arith in
    grind (arith, nat_tests)

-- a and b with the signs s and t
both : (s t : Bool) (a b X Y k : ℕ) → 0 < k → X * 256 ≡ a * k → Y * 256 ≡ b * k → below s X t Y ≡ lt_z (signed s a) (signed t b)
both false false a b X Y k K e f = scaled a b X Y k K e f
both false true a b X Y k K e f = grind (arith, ints)
both true false a b X Y k K e f = scaled 0 (a + b) 0 (X + Y) k K (sym (zero-mul k)) (omega arith) ∙ grind (arith, ints)
both true true a b X Y k K e f = scaled b a Y X k K f e ∙ grind (arith, ints)

pub order : (x y : Float) → good_end x ≡ true → good_end y ≡ true → lt x y ≡ lt_z (units_of x) (units_of y)
unfolding units_of lt
order x y g h =
    by-good (λ x. lt x y ≡ lt_z (units_of x) (units_of y)) (λ s m e g.
    by-good (λ y. lt (fin s m e) y ≡ lt_z (signed s (size m e)) (units_of y)) (λ t n d h.
    both s t (size m e) (size n d) (m * up e * down d) (n * up d * down e) (down e * down d) (mul-pos (down_pos e) (down_pos d))
    (omega (arith, ap (λ (k : ℕ). k * down d) (good-is s m e g).0))
    (omega (arith, ap (λ (k : ℕ). k * down e) (good-is t n d h).0))) y h) x g

-- ---- words

-- a zero that fits has the exponent 0
pub zero_exponent : (e : ℤ) → up e * down e ≡ 1 → e ≡ pos 0
zero_exponent (pos zero) h = refl
zero_exponent (pos (suc a)) h = absurd (omega (arith, h, mul-one (2 ^ suc a), pow-succ' 2 a, pow_pos a))
zero_exponent (negsuc a) h = absurd (omega (arith, h, one-mul (2 ^ suc a), pow-succ' 2 a, pow_pos a))

-- a word that is not that of minus zero
other : (w : ℕ) → w ≢ 2 ^ 31 → w ≡ cond (eqb w (2 ^ 31)) 0 w
other w h = grind (arith, nat_tests)

-- all but minus zero is stored as it is
plain_other : (x : Float) → T (fits binary32 x) → x ≢ fin true 0 (pos 0) → plain x ≡ x
unfolding plain fits
plain_other nan f n = refl
plain_other (inf s) f n = refl
plain_other (fin false zero e) f n = ap (fin false 0) (sym (zero_exponent e (eqb→eq (up e * down e) 1 f)))
plain_other (fin true zero e) f n = absurd (n (ap (fin true 0) (zero_exponent e (eqb→eq (up e * down e) 1 f))))
plain_other (fin s (suc m) e) f n = refl

pub words_stay : WordsStay
unfolding plain of_bits to_bits
words_stay w h g =
    let stays = to_bits-of_bits binary32 w h (rw (is_number (of_bits binary32 w) g).0 tt) in ⊎_elim
    (λ (e : w ≡ 2 ^ 31). rw e refl)
    (λ (n : w ≡ 2 ^ 31 → ⊥). rw (plain_other (of_bits binary32 w) (of_bits-fits binary32 w) (λ e. n (sym stays ∙ ap (to_bits binary32) e)), stays) (other w n))
    (cases_eq w (2 ^ 31))

pub ruleset laws = (ends_mean, plain_units, words_stay)

pub ruleset plains = (plain_good, plain_units, plain_plain)
