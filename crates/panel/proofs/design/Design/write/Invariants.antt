use Rattle.panel.proofs.Names.{◌≡◌, ◌+◌, length, overwritten}
use Rattle.panel.proofs.Axes.{left}
use Rattle.panel.proofs.design.Design.write.Given as goal

-- what is left, written here, gives the same list
abbrev pub invariant-loop-axis : goal.invariant-loop-axis
invariant-loop-axis g l =
    let rest = left g.O.ByteOrder.order g.P.Predictor.means g.Q.Packing.means g.K.PointKind.kind l.self.points.now l.range-items in
    record {
      bytes : overwritten l.file l.at (rest l.axis) ≡ overwritten l.initial.file 8 (rest 0);
      room : l.at + length (rest l.axis) ≡ 8 + length (rest 0);
    }
