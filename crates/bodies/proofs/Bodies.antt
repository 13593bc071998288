-- Both are packings: what is read are as many numbers of 32 bits as are due, and what is written is read back.
use Rattle.std.specs.Prelude.{◌≡◌, ℕ, ◌+◌, ◌*◌, ◌/◌, ◌%◌, ◌^◌, ◌<◌, ◌≤◌, ◌⊎◌, true, ◌&&◌, List, [], ◌∷◌, ◌++◌, map, length, take, drop, ℤ, pos, ◌+ℤ◌, ◌-ℤ◌, ◌≤ℤ◌, fold, ◌==◌, nat_le, slice_index, refl, Ok, Err, Result, IfOk, IfErr}
use Rattle.std.proofs.Common.{suc, sym, ap, ap₂, subst, ◌∙◌, inl, inr, arith, mul-le-mul_left, mod-eq_of_lt, eqb-true, leb-true, lit<, lit≤, of_z, length-append}
use Rattle.std.proofs.Math.Nat.{mul-mod_left}
use borrow.Author.Differences.{abs_is}
use Rattle.std.specs.Int.{int_min, int_wrap, w32}
use Rattle.std.specs.List.{All, AllByRecursion, Contains}
use Rattle.std.specs.Int.Digits.{digits_of, number_from_digits, AllBelowBase}
use Rattle.std.proofs.ByRecursion.{folded_min_z_bounds}
use Rattle.std.proofs.lemmas.List.Elements.{All-contains, All-from_recursion, recursion_from_All}
use Rattle.std.proofs.lemmas.List.{length-map}
use Rattle.std.proofs.lemmas.Bool.{le-leb, eq-eqb, and_from, and_parts, cond-true, cond_both}
use Rattle.std.proofs.lemmas.Nat.{pow_pos, shl-shr, shl_below}
use Rattle.std.proofs.lemmas.Int.{ints, fold-int_min_reached, int_wrap_fits, SFits-int_wrap}
use Rattle.std.proofs.lemmas.Int.Digits.{number_digits_of, number_lt, all_below_base_digits_of, length-digits_of-le}
use Rattle.refusal.specs.declared.Why.{Why}
use Rattle.refusal.specs.declared.Why.TheVariants.{BodyLength, SpareBits}
use Rattle.words.specs.Numbers.{Word}
use Rattle.words.specs.Order.{Order, bytes_of, number_of, spelled}
use Rattle.words.proofs.Spelling.{number_back, length_numbers, all_numbers, length_spelled, numbers_back}
use Rattle.bodies.proofs.Digits.{pow_pow, length_digits, digits_number, number_digits}
use Rattle.bodies.specs.Bodies.{plain_reads, digits, fields_size, spare, fields, entries, fielded_reads, least, gap, greatest, width_of, laid, fielded_writes, fielded_size}

-- ---- packing 0

pub plain_short : (xs : List ℤ) → AllByRecursion Word xs → 4 * length xs ≤ 8 + 4 * length xs
plain_short xs words = omega arith

module _ (o : Order) where
  pub plain_counts : (n : ℕ) (body : List ℕ) → IfOk (plain_reads o n body) (λ xs. length xs ≡ n)
  plain_counts n body =
      cond_both (length body == 4 * n) _ _ (λ r. IfOk r (λ xs. length xs ≡ n)) (λ _. length_numbers o n body) (λ _. tt)

  pub plain_words : (n : ℕ) (body : List ℕ) → IfOk (plain_reads o n body) (AllByRecursion Word)
  plain_words n body = cond_both (length body == 4 * n) _ _ (λ r. IfOk r (AllByRecursion Word)) (λ _. all_numbers o n body) (λ _. tt)

  pub plain_refusals : (n : ℕ) (body : List ℕ) → IfErr (plain_reads o n body) (λ why. (why ≡ BodyLength) ⊎ (why ≡ SpareBits))
  plain_refusals n body =
      cond_both (length body == 4 * n) _ _ (λ r. IfErr r (λ why. (why ≡ BodyLength) ⊎ (why ≡ SpareBits))) (λ _. tt) (λ _. inl refl)

  pub plain_back : (xs : List ℤ) → AllByRecursion Word xs → plain_reads o (length xs) (spelled o xs) ≡ Ok xs
  plain_back xs words = cond-true _ _ _ (eq-eqb _ _ (length_spelled o xs)) ∙ ap Ok (numbers_back o xs words)

-- ---- the fields in their bytes

pub length_laid : (w : ℕ) (fs : List ℕ) → length (laid w fs) ≡ fields_size (length fs) w
length_laid w fs = length_digits 256 (fields_size (length fs) w) (number_from_digits (2 ^ w) fs * 2 ^ spare (length fs) w)

module _ (w : ℕ) (fs : List ℕ) (small : AllBelowBase (2 ^ w) fs) where
  abbrev n : ℕ
  n = length fs

  number-laid : number_from_digits 256 (laid w fs) ≡ number_from_digits (2 ^ w) fs * 2 ^ spare n w
  number-laid =
      let under : number_from_digits (2 ^ w) fs < 2 ^ (n * w) = subst (λ (m : ℕ). number_from_digits (2 ^ w) fs < m) (pow_pow w n) (number_lt (2 ^ w) fs small) in
      let whole : n * w + spare n w ≡ fields_size n w * 8 = omega arith in
      let all : 2 ^ (n * w + spare n w) ≡ 256 ^ fields_size n w = ap (λ (j : ℕ). 2 ^ j) whole ∙ sym (pow_pow 8 (fields_size n w)) in
      let fits : number_from_digits (2 ^ w) fs * 2 ^ spare n w < 256 ^ fields_size n w = omega (arith, shl_below (number_from_digits (2 ^ w) fs) (n * w) (spare n w) under) in
      number_digits 256 (fields_size n w) (number_from_digits (2 ^ w) fs * 2 ^ spare n w) (lit< tt) ∙ mod-eq_of_lt fits

  none-spare : number_from_digits 256 (laid w fs) % 2 ^ spare n w ≡ 0
  none-spare = ap (λ (m : ℕ). m % 2 ^ spare n w) number-laid ∙ mul-mod_left (number_from_digits (2 ^ w) fs) (2 ^ spare n w)

  fields_laid : fields n w (laid w fs) ≡ fs
  fields_laid = ap (λ (m : ℕ). digits (2 ^ w) n (m / 2 ^ spare n w)) number-laid ∙ ap (digits (2 ^ w) n) (shl-shr (number_from_digits (2 ^ w) fs) (spare n w)) ∙ digits_number (2 ^ w) fs small

-- ---- a body read

-- every way that a body is read, by what holds of a list and of a refusal
pub by_read : (o : Order) (n : ℕ) (body : List ℕ) (Q : Result (List ℤ) Why → Type 0) → Q (Err BodyLength) → Q (Err SpareBits) →
    (let w = slice_index body 4 in
    let bytes = drop 5 body in
    5 ≤ length body → w ≤ 32 → length body ≡ 5 + fields_size n w → number_from_digits 256 bytes % 2 ^ spare n w ≡ 0 →
    Q (Ok (entries (number_of o (take 4 body)) (fields n w bytes)))) →
    Q (fielded_reads o n body)
by_read o n body Q length-no spare-no list =
    let w = slice_index body 4 in
    cond_both _ _ _ Q
    (λ fits. let rest = and_parts (nat_le 5 (length body)) _ fits in
    let last = and_parts (nat_le w 32) _ rest.1 in
    cond_both _ _ _ Q (λ none. list (leb-true 5 (length body) rest.0) (leb-true w 32 last.0) (eqb-true (length body) (5 + fields_size n w) last.1) (eqb-true _ 0 none)) (λ _. spare-no))
    (λ _. length-no)

all-wrapped : (b : ℤ) (fs : List ℕ) → AllByRecursion Word (entries b fs)
all-wrapped b [] = tt
all-wrapped b (f ∷ fs) = (SFits-int_wrap w32 (b +ℤ pos f), all-wrapped b fs)

module _ (o : Order) (n : ℕ) (body : List ℕ) where
  pub fielded_counts : IfOk (fielded_reads o n body) (λ xs. length xs ≡ n)
  fielded_counts = by_read o n body (λ r. IfOk r (λ xs. length xs ≡ n)) tt tt (λ _ _ _ _. length-map _ _ ∙ length_digits _ n _)

  pub fielded_words : IfOk (fielded_reads o n body) (AllByRecursion Word)
  fielded_words = by_read o n body (λ r. IfOk r (AllByRecursion Word)) tt tt (λ _ _ _ _. all-wrapped _ _)

  pub fielded_refusals : IfErr (fielded_reads o n body) (λ why. (why ≡ BodyLength) ⊎ (why ≡ SpareBits))
  fielded_refusals =
      by_read o n body (λ r. IfErr r (λ why. (why ≡ BodyLength) ⊎ (why ≡ SpareBits))) (inl refl) (inr refl) (λ _ _ _ _. tt)

-- what four bytes, a width and fields are read as
read-packed : (o : Order) (front : List ℕ) (w : ℕ) (fs : List ℕ) → length front ≡ 4 → w ≤ 32 → AllBelowBase (2 ^ w) fs →
    fielded_reads o (length fs) (front ++ (w ∷ laid w fs)) ≡ Ok (entries (number_of o front) fs)
read-packed o [] w fs four narrow small = absurd (omega arith)
read-packed o (a ∷ []) w fs four narrow small = absurd (omega arith)
read-packed o (a ∷ b ∷ []) w fs four narrow small = absurd (omega arith)
read-packed o (a ∷ b ∷ c ∷ []) w fs four narrow small = absurd (omega arith)
read-packed o (a ∷ b ∷ c ∷ d ∷ e ∷ front) w fs four narrow small = absurd (omega arith)
read-packed o (a ∷ b ∷ c ∷ d ∷ []) w fs four narrow small =
    let body = a ∷ b ∷ c ∷ d ∷ w ∷ laid w fs in
    let fits : (nat_le 5 (length body) && (nat_le w 32 && length body == 5 + fields_size (length fs) w)) ≡ true =
    and_from _ _ (le-leb 5 (length body) (omega arith)) (and_from _ _ (le-leb w 32 narrow) (eq-eqb (length body) (5 + fields_size (length fs) w) (omega (arith, length_laid w fs)))) in
    cond-true _ _ _ fits ∙ cond-true _ _ _ (eq-eqb _ 0 (none-spare w fs small)) ∙ ap Ok (ap (entries (number_of o (a ∷ b ∷ c ∷ d ∷ []))) (fields_laid w fs small))

-- ---- the base and the width

-- from a base that none is below, the fields give the entries again, and have 32 bits
gaps : (b : ℤ) (xs : List ℤ) → Word b → AllByRecursion Word xs → AllByRecursion (λ x. b ≤ℤ x) xs →
    (entries b (map (gap b) xs) ≡ xs) × (greatest (map (gap b) xs) < 2 ^ 32)
gaps b [] v words low = (refl, lit< tt)
gaps b (x ∷ xs) v words low =
    let whole : b +ℤ pos (gap b x) ≡ x = omega (arith, ints, abs_is (x -ℤ b), low.0) in
    let rest = gaps b xs v words.1 low.1 in (
      ap₂ (λ (y : ℤ) (ys : List ℤ). y ∷ ys) (ap (int_wrap w32) whole ∙ int_wrap_fits w32 x words.0) rest.0,
      omega (arith, ints, abs_is (x -ℤ b), low.0, words.0, rest.1),
    )

under-greatest : (fs : List ℕ) (m : ℕ) → greatest fs < m → AllBelowBase m fs
under-greatest [] m h = tt
under-greatest (f ∷ fs) m h = (omega arith, under-greatest fs m (omega arith))

-- the width of some fields holds each of them
pub holds : (fs : List ℕ) → AllBelowBase (2 ^ width_of fs) fs
holds fs =
    let n = greatest fs in
    let ds = digits_of 2 n in
    under-greatest fs _ (subst (λ (k : ℕ). k < 2 ^ length ds) (number_digits_of 2 n (lit≤ tt)) (number_lt 2 ds (all_below_base_digits_of 2 n (lit≤ tt))))

pub least_low : (xs : List ℤ) → AllByRecursion (λ x. least xs ≤ℤ x) xs
least_low [] = tt
least_low (x ∷ xs) = folded_min_z_bounds x xs (fold int_min x xs) refl

least-in : (xs : List ℤ) → 0 < length xs → Contains xs (least xs)
least-in [] h = absurd (omega arith)
least-in (x ∷ xs) h = elim (fold-int_min_reached x xs (fold int_min x xs) refl) [
  | inl e ↦ (0, omega arith, sym e)
  | inr k ↦ (suc k.0, omega (arith, k.1), k.2)
]

least-word : (xs : List ℤ) → AllByRecursion Word xs → Word (least xs)
least-word [] words = record { sfits = lit< tt }
least-word (x ∷ xs) words = All-contains Word (x ∷ xs) _ (All-from_recursion Word (x ∷ xs) words) (least-in (x ∷ xs) (omega arith))

narrow : (xs : List ℤ) → AllByRecursion Word xs → width_of (map (gap (least xs)) xs) ≤ 32
narrow xs words = length-digits_of-le 2 32 _ (lit≤ tt) (gaps (least xs) xs (least-word xs words) words (least_low xs)).1

-- ---- a body written

pub fielded_sized : (o : Order) (xs : List ℤ) → length (fielded_writes o xs) ≡ fielded_size xs
fielded_sized o xs =
    let b = least xs in
    let fs = map (gap b) xs in
    let w = width_of fs in
    let long : length (laid w fs) ≡ fields_size (length xs) w = length_laid w fs ∙ ap (λ (k : ℕ). fields_size k w) (length-map xs (gap b)) in
    omega (arith, length-append (bytes_of o b) (w ∷ laid w fs), o.four (of_z w32 b))

pub fielded_short : (xs : List ℤ) → AllByRecursion Word xs → fielded_size xs ≤ 8 + 4 * length xs
fielded_short xs words = omega (arith, mul-le-mul_left (length xs) (narrow xs words))

pub fielded_back : (o : Order) (xs : List ℤ) → AllByRecursion Word xs → fielded_reads o (length xs) (fielded_writes o xs) ≡ Ok xs
fielded_back o xs words =
    let b = least xs in
    let fs = map (gap b) xs in
    ap (λ (n : ℕ). fielded_reads o n (fielded_writes o xs)) (sym (length-map xs (gap b)))
    ∙ read-packed o (bytes_of o b) (width_of fs) fs (o.four (of_z w32 b)) (narrow xs words) (holds fs)
    ∙ ap Ok (ap (λ (z : ℤ). entries z fs) (number_back o b (least-word xs words)) ∙ (gaps b xs (least-word xs words) words (least_low xs)).0)

-- ---- the least and the greatest, as the code finds them

greatest-under : (fs : List ℕ) (m : ℕ) → 0 < m → AllBelowBase m fs → greatest fs < m
greatest-under [] m h all = h
greatest-under (f ∷ fs) m h all = let rest = greatest-under fs m h all.1 in let here = all.0 in omega arith

pub width-least : (fs : List ℕ) (v : ℕ) → AllBelowBase (2 ^ v) fs → width_of fs ≤ v
width-least fs v all = length-digits_of-le 2 v (greatest fs) (lit≤ tt) (greatest-under fs (2 ^ v) (pow_pos v) all)

-- the least is the one entry that none is below
pub least_is : (xs : List ℤ) (m : ℤ) → All (λ x. m ≤ℤ x) xs → Contains xs m → m ≡ least xs
least_is xs m low has =
    let under = All-contains (λ x. m ≤ℤ x) xs (least xs) low (least-in xs (omega (arith, has.1))) in
    let over = All-contains (λ x. least xs ≤ℤ x) xs m (All-from_recursion _ xs (least_low xs)) has in
    omega (arith, ints)

-- the width of the greatest of some fields
pub width_by : (fs : List ℕ) (most w : ℕ) → All (λ f. f ≤ most) fs → Contains fs most → most < 2 ^ w → ((v : ℕ) → most < 2 ^ v → w ≤ v) → w ≡ width_of fs
width_by fs most w bound has under smallest =
    let up : w ≤ width_of fs = smallest (width_of fs) (All-contains (λ f. f < 2 ^ width_of fs) fs most (All-from_recursion _ fs (holds fs)) has) in
    let down : width_of fs ≤ w = width-least fs w (recursion_from_All (λ f. f < 2 ^ w) fs (λ i d l. let b = bound i d l in omega arith)) in
    omega arith
