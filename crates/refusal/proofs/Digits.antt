-- Numbers behind zeros: what a format's width writes, and the last digits of a number that has no more.
use Rattle.std.proofs.Common.{◌≡◌, ℕ, zero, suc, ◌+◌, ◌-◌, ◌/◌, ◌%◌, ◌^◌, ◌<◌, ◌≤◌, List, [], ◌∷◌, ◌++◌, length, replicate, refl, ap, ap₂, ◌∙◌, ⊎_elim, arith, false, codes, append-nil, append_assoc, length-append}
use Rattle.std.proofs.Math.Nat.{pow-succ'}
use Rattle.std.proofs.lemmas.Bool.Decides.{leb_tells}
use Rattle.std.proofs.lemmas.Fmt.{decimal_digit, decimal_step}
use Rattle.std.proofs.lemmas.List.{replicate_more}
use Rattle.std.specs.Fmt.{decimal, padded_integral, char_count, format_spec}
use Rattle.refusal.specs.declared.Refusal.{Refusal}
use Rattle.refusal.specs.Refusals.{number_of}
use Rattle.refusal.specs.Refusals.{refusal_at, padded_decimal, line_of, text_of}

-- the last k decimal digits of n, in ASCII
abbrev digits : ℕ → ℕ → List ℕ
digits zero n = []
digits (suc k) n = digits k (n / 10) ++ (48 + n % 10) ∷ []

-- what `{:0k}` writes
pub width_written : (k n : ℕ) → padded_integral (format_spec 32 0 4 k (2 ^ 64 - 1)) false [] (decimal n) ≡ padded_decimal k n
unfolding padded_integral char_count
width_written k n =
    let bare : k - length (decimal n) - 0 - 0 ≡ k - length (decimal n) = omega arith in
    rw bare (simp append-nil)

-- a digit behind the others, and one behind zeros alone
one_more : (k n : ℕ) → 10 ≤ n → n < 2 ^ 64 → padded_decimal (suc k) (n / 10) ++ (48 + n % 10) ∷ [] ≡ padded_decimal (suc (suc k)) n
one_more k n long fits =
    let step = decimal_step n long fits in
    let size : length (decimal n) ≡ length (decimal (n / 10)) + 1 = ap length step ∙ length-append (decimal (n / 10)) ((48 + n % 10) ∷ []) in
    let gap : suc (suc k) - length (decimal n) ≡ suc k - length (decimal (n / 10)) = omega (arith, size) in
    rw gap (rw step (append_assoc (replicate (suc k - length (decimal (n / 10))) 48) (decimal (n / 10)) ((48 + n % 10) ∷ [])))

only_one : (k n : ℕ) → n < 10 → padded_decimal (suc k) (n / 10) ++ (48 + n % 10) ∷ [] ≡ padded_decimal (suc (suc k)) n
only_one k n short =
    let none : n / 10 ≡ 0 = omega arith in
    let whole : n % 10 ≡ n = omega arith in
    let fewer : suc k - 1 ≡ k = omega arith in
    let more : suc (suc k) - 1 ≡ k + 1 = omega arith in
    rw (none, whole, decimal_digit 0 (omega arith), decimal_digit n short, fewer, more) (ap (λ xs. xs ++ (48 + n) ∷ []) (replicate_more k 48))

-- a number of at most k digits
few_digits : (k n : ℕ) → n < 10 ^ suc k → n < 2 ^ 64 → digits (suc k) n ≡ padded_decimal (suc k) n
few_digits zero n below fits = let low : n % 10 ≡ n = omega arith in rw (decimal_digit n (omega arith), low) refl
few_digits (suc k) n below fits =
    ap (λ xs. xs ++ (48 + n % 10) ∷ []) (few_digits k (n / 10) (omega (arith, below, pow-succ' 10 (suc k))) (omega arith))
    ∙ ⊎_elim (λ long. one_more k n long.1 fits) (λ short. only_one k n short.1) (leb_tells 10 n)

-- the last five digits are those of what is left of a number
abbrev five : ℕ → List ℕ
five n = (48 + n / 10000 % 10) ∷ (48 + n / 1000 % 10) ∷ (48 + n / 100 % 10) ∷ (48 + n / 10 % 10) ∷ (48 + n % 10) ∷ []

last_five : (n : ℕ) → five n ≡ padded_decimal 5 (n % 10 ^ 5)
last_five n =
    let a : n / 10000 % 10 ≡ n % 10 ^ 5 / 10 / 10 / 10 / 10 % 10 = omega arith in
    let b : n / 1000 % 10 ≡ n % 10 ^ 5 / 10 / 10 / 10 % 10 = omega arith in
    let c : n / 100 % 10 ≡ n % 10 ^ 5 / 10 / 10 % 10 = omega arith in
    let d : n / 10 % 10 ≡ n % 10 ^ 5 / 10 % 10 = omega arith in
    let e : n % 10 ≡ n % 10 ^ 5 % 10 = omega arith in
    rw (a, b, c, d, e) refl ∙ few_digits 4 (n % 10 ^ 5) (omega arith) (omega arith)

-- the line, digit by digit
pub by_digits : (e : Refusal) (bs : List ℕ) → number_of e.why < 100
    → bs ≡ codes "refused " ++ (digits 2 (number_of e.why) ++ (codes " at " ++ (five e.place ++ codes "\n"))) → bs ≡ line_of e
by_digits e bs few is =
    let line : List ℕ → List ℕ → List ℕ = λ number place. codes "refused " ++ (number ++ (codes " at " ++ (place ++ codes "\n"))) in
    is ∙ ap₂ line (few_digits 1 (number_of e.why) few (omega (arith, few))) (last_five e.place) ∙ simp append_assoc

-- five digits hold a place below 100,000
pub whole_place : (e : Refusal) → e.place < 100000 → line_of e ≡ text_of e ++ codes "\n"
whole_place e below = ap (λ place. text_of (refusal_at e.why place) ++ codes "\n") (omega (arith, below))
