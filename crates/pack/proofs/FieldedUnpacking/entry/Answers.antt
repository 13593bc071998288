use Rattle.std.proofs.Common.{◌≡◌, ℕ, ◌+◌, ◌-◌, ◌*◌, ◌/◌, ◌%◌, ◌^◌, List, length, get_or, take, drop, ℤ, pos, ap, ap₂, ◌∙◌, w32, SFits, to_z, of_z, rules}
use Rattle.std.specs.Int.Digits.{number_from_digits}
use Rattle.std.proofs.lemmas.Int.{to_z-of_z}
use Rattle.words.specs.Numbers.{◌⊞◌}
use Rattle.pack.proofs.Reading.{entry-is, add-field}
use Rattle.pack.proofs.FieldedUnpacking.entry.Goals as goal

pub returns : goal.returns
returns g c =
    let body : List ℕ = c.args.body.now in
    let w : ℕ = get_or body 4 0 in
    let head : c.unwrap.result.0.now ≡ take 4 body = search rules in
    let rest : c.unwrap-2.result.1.now ≡ drop 5 body = search rules in
    let width : c.from.result ≡ w = search rules in
    let base : SFits w32 c.read_signed-base.result = record { sfits = c.read_signed-base.type_inv } in
    let f : c.field.result ≡ number_from_digits 256 (drop 5 body) / 2 ^ (8 * length (drop 5 body) - (c.args.i * w + w)) % 2 ^ w =
    c.field.ensures
    ∙ ap₂ (λ (v : ℕ) (bs : List ℕ). number_from_digits 256 bs / 2 ^ (8 * length bs - (c.args.i * v + v)) % 2 ^ v) width rest in
    to_z-of_z w32 c.wrapping_add_unsigned.result (record { sfits = c.wrapping_add_unsigned.type_inv })
    ∙ c.wrapping_add_unsigned.ensures
    ∙ ap (λ (z : ℤ). to_z w32 ((of_z w32 z + c.field.result) % 2 ^ 32)) (to_z-of_z w32 c.read_signed-base.result base)
    ∙ add-field c.read_signed-base.result c.field.result base c.field.type_inv
    ∙ ap (λ (z : ℤ). z ⊞ pos c.field.result) (search rules)
    ∙ entry-is g.O.ByteOrder.order c.args._n body c.args.i c.field.result c.requires.due c.requires.accepted f
