use Rattle.panel.proofs.Names.{◌≡◌, ◌+◌, ◌*◌, ◌≤◌, length}
use Rattle.panel.proofs.Axes.{left}
use Rattle.panel.proofs.design.Design.file_length.Given as goal

-- what is counted, and what is left, is the file (its end is counted first)
abbrev pub invariant-loop-axis : goal.invariant-loop-axis
invariant-loop-axis g l =
    let rest = left g.O.ByteOrder.order g.P.Predictor.means g.Q.Packing.means g.K.PointKind.kind l.self.points.now l.range-items in
    record { counted : l.size + length (rest l.axis) ≡ 9 + length (rest 0); short : l.size ≤ 9 + 16407 * l.axis }
