use Rattle.std.proofs.Common.{◌≡◌, ◌+◌, ◌≤◌, length, ap, ◌∙◌, arith, to_z-of_z, w32, SFits, rules}
use Rattle.std.proofs.lemmas.Bool.Decides.{nat_tests}
use Rattle.words.specs.Order.{low_first, bytes_of}
use Rattle.bench.proofs.Chains.{steps-more}
use Rattle.bench.proofs.bench.knife.Knife.write_move.Goals as goal

pub loop-axis-preserved : goal.loop-axis-preserved
loop-axis-preserved g c =
    let told = g.K.PointKind.kind.coordinate c.args.to.now in
    let view = c.self.view_is in
    let room : c.args.self + c.move_size.result ≤ length c.args.program.now = grind (arith, nat_tests, c.in_ok-knife.ensures.answer) in
    let fits : SFits w32 c.coordinate.result = search rules in
    let is : c.copy_from_slice.new.self ≡ bytes_of low_first (told c.loop-axis.axis) =
    c.copy_from_slice.ensures.after ∙ c.write_signed-word.ensures ∙ ap (bytes_of low_first) (to_z-of_z fits ∙ c.coordinate.ensures) in
    steps-more c.args.program.now c.loop-axis.program c.copy_from_slice.new.self c.args.self c.args.letter c.loop-axis.axis _ _ told c.loop-axis.invariant is (omega (arith, g.met.K.PointKind.counted)) (omega (arith, g.met.K.PointKind.counted)) (omega (arith, c.move_size.ensures.value, g.met.K.PointKind.counted))
