use Rattle.std.proofs.Common.{◌≡◌, ◌+◌, ◌-◌}
use Rattle.kinds.specs.Vertex.{told}
use Rattle.seam.specs.Seam.{heaviest}
use Rattle.seam.specs.Weight.{vertex_at, run_of, weights_from}
use Rattle.seam.proofs.line.Line.heaviest.Given as goal

-- the heaviest of the vertices that were passed
abbrev pub invariant-loop-i : goal.invariant-loop-i
invariant-loop-i g l = l.best ≡ (heaviest (weights_from (vertex_at l.gauge.from) (run_of l.gauge.run) (told g.K.PointKind.kind l.self.points.now)) l.fn.chord.from (l.i - (l.fn.chord.from + 1)))
