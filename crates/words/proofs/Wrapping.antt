-- Sums, differences and the exclusive or of signed 32-bit numbers undo one another.
use Rattle.std.specs.Prelude.{◌≡◌, ℕ, ◌^◌, ◌<◌, ℤ, ◌+ℤ◌, ◌-ℤ◌, bit_xor}
use Rattle.std.proofs.Common.{ap, ◌∙◌, arith, to_z, of_z}
use Rattle.std.specs.Int.Bits.{xor_assoc, xor_self, xor_zero_r}
use Rattle.std.proofs.lemmas.Nat.{xor_lt}
use Rattle.std.proofs.Math.Facts.{Fits-of_z}
use Rattle.std.specs.Int.{int_wrap, w32}
use Rattle.std.proofs.lemmas.Int.{ints, to_z-of_z, of_z-to_z, int_wrap_fits, int_wrap-add_left}
use Rattle.words.specs.Numbers.{◌⊞◌, ◌⊟◌, ◌⊻◌, Word}

there : (x p : ℤ) → (x -ℤ p) +ℤ p ≡ x
there x p = omega (arith, ints)

and_back : (x p : ℤ) → (x +ℤ p) -ℤ p ≡ x
and_back x p = omega (arith, ints)

pub sub_add : (x p : ℤ) → Word x → (x ⊟ p) ⊞ p ≡ x
sub_add x p w = int_wrap-add_left w32 (x -ℤ p) p ∙ ap (int_wrap w32) (there x p) ∙ int_wrap_fits w32 x w

pub add_sub : (x p : ℤ) → Word x → (x ⊞ p) ⊟ p ≡ x
add_sub x p w = int_wrap-add_left w32 (x +ℤ p) _ ∙ ap (int_wrap w32) (and_back x p) ∙ int_wrap_fits w32 x w

pub xor_xor : (x p : ℤ) → Word x → Word p → (x ⊻ p) ⊻ p ≡ x
xor_xor x p w v =
    let a : ℕ = of_z w32 x in
    let b : ℕ = of_z w32 p in
    let small : bit_xor a b < 2 ^ 32 = xor_lt 32 a b (Fits-of_z w).fits (Fits-of_z v).fits in
    ap (λ (n : ℕ). to_z w32 (bit_xor n b)) (of_z-to_z w32 (bit_xor a b) small)
    ∙ ap (to_z w32) (xor_assoc a b b ∙ ap (bit_xor a) (xor_self b) ∙ xor_zero_r a)
    ∙ to_z-of_z w32 x w
