-- Numbers spelled as bytes: how many there are, and that they are read back.
use Rattle.std.specs.Prelude.{◌≡◌, refl, ℕ, zero, suc, ◌*◌, List, [], ◌∷◌, length, drop, ℤ}
use Rattle.std.proofs.Common.{ap, ap₂, ◌∙◌, arith, to_z, of_z, length-append}
use Rattle.std.specs.Int.{w32}
use Rattle.std.specs.List.{AllByRecursion}
use Rattle.std.proofs.Math.Facts.{Fits-of_z}
use borrow.Author.Gap.{read_sfits}
use Rattle.std.proofs.lemmas.Int.{to_z-of_z}
use Rattle.std.proofs.lemmas.List.{take_at, drop_at}
use Rattle.words.specs.Numbers.{Word}
use Rattle.words.specs.Order.{Order, number_of, bytes_of, numbers_of, spelled}

module _ (o : Order) where
  -- a number is read back
  pub number_back : (z : ℤ) → Word z → number_of o (bytes_of o z) ≡ z
  number_back z w = ap (to_z w32) (o.back (of_z w32 z) (Fits-of_z w).fits) ∙ to_z-of_z w32 z w

  -- so are all of a list
  pub numbers_back : (zs : List ℤ) → AllByRecursion Word zs → numbers_of o (length zs) (spelled o zs) ≡ zs
  numbers_back [] all = refl
  numbers_back (z ∷ zs) all =
      let four = o.four (of_z w32 z) in
      ap₂ (λ (xs ys : List ℕ). number_of o xs ∷ numbers_of o (length zs) ys) (take_at (bytes_of o z) (spelled o zs) 4 four) (drop_at (bytes_of o z) (spelled o zs) 4 four)
      ∙ ap₂ (λ (y : ℤ) (ys : List ℤ). y ∷ ys) (number_back z all.0) (numbers_back zs all.1)

  pub length_spelled : (zs : List ℤ) → length (spelled o zs) ≡ 4 * length zs
  length_spelled [] = refl
  length_spelled (z ∷ zs) =
      omega (arith, length-append (bytes_of o z) (spelled o zs), o.four (of_z w32 z), length_spelled zs)

  pub length_numbers : (n : ℕ) (bytes : List ℕ) → length (numbers_of o n bytes) ≡ n
  length_numbers zero bytes = refl
  length_numbers (suc n) bytes = ap suc (length_numbers n (drop 4 bytes))

  pub all_numbers : (n : ℕ) (bytes : List ℕ) → AllByRecursion Word (numbers_of o n bytes)
  all_numbers zero bytes = tt
  all_numbers (suc n) bytes = (read_sfits w32 _, all_numbers n (drop 4 bytes))
