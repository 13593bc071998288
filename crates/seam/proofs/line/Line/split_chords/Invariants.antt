use Rattle.std.proofs.Common.{◌-◌, length}
use Rattle.kinds.specs.Vertex.{told}
use Rattle.seam.specs.Seam.{pick}
use Rattle.seam.proofs.Grow.{Going, turns}
use Rattle.seam.proofs.line.Line.split_chords.Given as goal

-- what is done, and what the chord in hand and those that wait still owe
abbrev pub invariant-chords : goal.invariant-chords
invariant-chords g l = Going (pick (told g.K.PointKind.kind l.self.points.now) l.tolerance.steps) (length l.self.points.now - 1) l.initial.marks l.waiting.items l.most l.count l.chord l.marks

abbrev pub decreases-chords : goal.decreases-chords
decreases-chords g l =
    turns l.count l.waiting.items
