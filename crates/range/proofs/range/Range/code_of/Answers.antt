use Rattle.std.proofs.Common.{◌≡◌, ◌≤◌, pos, ◌∙◌, arith}
use borrow.Author.Differences.{ints}
use Rattle.range.specs.Scale.{code_in}
use Rattle.range.proofs.Ranges.{code_as}
use Rattle.range.proofs.range.Range.code_of.Goals as goal

code : (c : goal.After-nearest) → (pos c.nearest.result ≡ code_in c.args.self.now c.args.v) × (c.nearest.result ≤ c.from-quanta.result)
code c =
    code_as c.args.self.now c.args.v c.from_lower-from.result c.from-quanta.result c.width-width.result c.nearest.result
    c.requires c.width-width.ensures.bound.0 (omega (arith, ints, c.from_lower-from.ensures.value)) c.width-width.ensures.value (c.from-quanta.ensures ∙ c.top.ensures.value) c.nearest.ensures

pub overflow_cast-result : goal.overflow_cast-result
overflow_cast-result c = omega (arith, ints, (code c).1)

pub returns : goal.returns
returns c = let k = code c in record { value = omega (arith, ints, k.0, k.1); bound = omega (arith, ints, k.1) }
