use Rattle.std.proofs.Common.{◌≡◌, ◌*◌, ◌^◌, ◌*ℤ◌, arith, to_z, of_z, w64}
use borrow.Author.Differences.{ints}
use Rattle.range.specs.declared.ends.TheConstants.{MOST_BITS, FARTHEST_UNITS}
use Rattle.range.proofs.Ranges.{product_small}
use Rattle.range.proofs.range.product.Goals as goal

pub returns : goal.returns
returns c =
    let q : to_z w64 (of_z w64 c.args.quanta) ≡ c.args.quanta = omega (arith, ints) in
    let u : to_z w64 (of_z w64 c.args.units) ≡ c.args.units = omega (arith, ints) in
    let p = product_small c.args.quanta c.args.units (2 ^ MOST_BITS) (2 * FARTHEST_UNITS) (omega arith) c.requires.units in
    let v : to_z w64 (of_z w64 (c.args.quanta *ℤ c.args.units)) ≡ c.args.quanta *ℤ c.args.units = omega (arith, ints, p) in
    record { value = rw (q, u) v; bound = rw (q, u, v) p }
