use Rattle.law.specs.Calls.{drawn}
use Rattle.law.proofs.Drawing.{fit_of}
use Rattle.bench.proofs.bench.drawing.draw_panel.Goals as goal

pub draw-requires-clause-space : goal.draw-requires-clause-space
unfolding drawn
draw-requires-clause-space g c =
    (fit_of g.K.PointKind.kind c.args.count c.args.at c.args.points.now c.args.marks.now c.args.program.now c.requires.some c.requires.fit).space
