use Rattle.std.proofs.Common.{◌≡◌, ◌*◌, ◌≤◌, ℤ, pos, ◌+ℤ◌, ◌*ℤ◌, nat_abs, ap, ◌∙◌, subst, arith, to_z, of_z, w64}
use borrow.Author.Differences.{ints}
use Rattle.range.specs.declared.ends.TheConstants.{FARTHEST_UNITS}
use Rattle.range.specs.Scale.{IsRange, place_in, lowest, units_of}
use Rattle.range.proofs.Ranges.{place_as}
use Rattle.range.proofs.range.Range.nearest_step.Goals as goal

abbrev W : ℤ → ℤ
W z = to_z w64 (of_z w64 z)

place : (c : goal.After-nearest_signed) → (c.nearest_signed.result ≡ place_in c.args.self.now (pos c.args.code)) × (16 * nat_abs c.nearest_signed.result ≤ FARTHEST_UNITS)
place c =
    let lo : c.end_units.result ≡ lowest c.args.self.now = c.end_units.ensures.value ∙ ap (λ s. units_of s.lower) c.self.view_is in
    place_as c.args.self.now (subst IsRange c.self.view_is c.self.invariant) c.args.code
    (W c.from-quanta.result) (W c.from-lo.result) (W c.from.result) (to_z w64 c.width-width.result) c.product.result c.product-2.result (W (W c.product.result +ℤ W c.product-2.result)) (W (pos 8 *ℤ W c.from-quanta.result)) c.nearest_signed.result
    c.requires c.product.ensures.value c.product-2.ensures.value (omega (arith, ints)) (omega (arith, ints, lo)) (omega (arith, ints)) (omega (arith, ints)) (omega (arith, ints)) (omega (arith, ints)) c.nearest_signed.ensures

pub overflow_cast-result : goal.overflow_cast-result
overflow_cast-result c = omega (arith, ints, (place c).1)

pub returns : goal.returns
returns c = let k = place c in omega (arith, ints, k.0, k.1)
