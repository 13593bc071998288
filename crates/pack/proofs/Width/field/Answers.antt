use Rattle.std.proofs.Common.{◌≡◌, ℕ, ◌+◌, ◌-◌, ◌*◌, ◌/◌, ◌%◌, ◌^◌, length, refl, ap, ◌∙◌, arith}
use Rattle.pack.proofs.Reading.{field-read, eight-from}
use Rattle.pack.proofs.Width.field.Goals as goal

pub returns-in-Some : goal.returns-in-Some
returns-in-Some c =
    let bytes = c.args.bytes.now in
    let w : ℕ = c.args.self.bits in
    let at : ℕ = c.args.i * w in
    let start : ℕ = at / 8 in
    let eight = eight-from bytes start c.from_be_bytes.result c.in-Some.eight.now (omega arith) c.in-Some.ensures.cases c.from_be_bytes.ensures in
    let below : 64 - (at % 8 + w) ≡ 8 * (start + 8) - (at + w) = omega arith in
    c.bits_over.ensures
    ∙ ap (λ (k : ℕ). c.from_be_bytes.result / 2 ^ k % 2 ^ w) below
    ∙ field-read bytes at w 8 (start + 8) c.from_be_bytes.result c.type_inv.bytes refl (omega arith) eight.0 c.args.self.narrow eight.1

pub returns : goal.returns
returns c =
    let bytes = c.args.bytes.now in
    let w : ℕ = c.args.self.bits in
    let at : ℕ = c.args.i * w in
    c.bits_over-2.ensures
    ∙ field-read bytes at w (length bytes - at / 8) (length bytes) c.number_of.result c.type_inv.bytes (omega arith) (omega arith) (omega arith) c.args.self.narrow c.number_of.ensures
