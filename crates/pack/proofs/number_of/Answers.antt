use Rattle.std.proofs.Common.{◌≡◌, ℕ, ◌+◌, ◌*◌, ◌^◌, ◌≤◌, refl, ap, ◌∙◌, arith, pow_mono}
use Rattle.std.specs.Int.Digits.{number_from_digits}
use Rattle.std.proofs.lemmas.Int.Digits.{number_more}
use Rattle.std.proofs.lemmas.List.{take_all}
use Rattle.std.proofs.lemmas.Nat.{pow-add}
use Rattle.pack.proofs.number_of.Goals as goal

pub loop-byte-init : goal.loop-byte-init
loop-byte-init c = (refl, omega arith)

pub overflow_mul-number : goal.overflow_mul-number
overflow_mul-number c =
    let most : 2 ^ (8 * c.loop-byte.byte-index) ≤ 2 ^ 56 = pow_mono {j = 56} (omega arith) in
    let below = c.loop-byte.invariant.1 in
    record { fits = omega arith }

pub overflow_add-number : goal.overflow_add-number
overflow_add-number c =
    let most : 2 ^ (8 * c.loop-byte.byte-index) ≤ 2 ^ 56 = pow_mono {j = 56} (omega arith) in
    let below = c.loop-byte.invariant.1 in
    let byte = (c.type_inv.bytes c.loop-byte.byte-index).fits in
    record { fits = omega (arith, c.from.ensures) }

pub loop-byte-preserved : goal.loop-byte-preserved
loop-byte-preserved c =
    let byte = (c.type_inv.bytes c.loop-byte.byte-index).fits in
    let more = number_more 256 c.args.bytes.now c.loop-byte.byte-index c.loop-byte-test.true in
    let is = c.loop-byte.invariant.0 in
    let below = c.loop-byte.invariant.1 in
    let i = c.loop-byte.byte-index in
    let next : 8 * (i + 1) ≡ 8 * i + 8 = omega arith in
    let up : 2 ^ (8 * (i + 1)) ≡ 2 ^ (8 * i) * 2 ^ 8 = ap (λ (k : ℕ). 2 ^ k) next ∙ pow-add 2 (8 * i) 8 in
    (omega (arith, more, c.from.ensures), omega (arith, c.from.ensures))

pub returns : goal.returns
returns c = c.loop-byte.invariant.0 ∙ ap (number_from_digits 256) (take_all c.loop-byte.byte-index c.args.bytes.now (omega arith))
