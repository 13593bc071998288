use Rattle.std.proofs.Common.{◌≡◌, ◌-◌}
use Rattle.std.specs.Result.{IsOk}
use Rattle.panel.specs.Judging.{axes_at}
use Rattle.load.specs.Filling.{fill_by}
use Rattle.load.proofs.place.place_axes.Given as goal

-- the points, once filled by the axes that are left, are the same
abbrev pub invariant-loop-number : goal.invariant-loop-number
invariant-loop-number g l =
    let k = g.K.PointKind.kind in
    let left = axes_at g.O.ByteOrder.order g.P.Predictor.means g.Q.Unpacking.reading l.n (k.axes - l.number) l.left in
    let all = axes_at g.O.ByteOrder.order g.P.Predictor.means g.Q.Unpacking.reading l.n k.axes l.fn.rest in
    record { filled : fill_by k l.number left l.points ≡ fill_by k 0 all l.initial.points; accepted : IsOk left }
