use Rattle.std.proofs.Common.{◌≡◌, ◌+◌, ◌-◌, suc, refl, sym, ap, ◌∙◌, arith}
use Rattle.load.specs.Pieces.{told_by, says_axis}
use Rattle.load.specs.Filling.{fill_by}
use Rattle.load.proofs.Axes.{filling}
use Rattle.load.proofs.place.place_axes.Goals as goal

pub place_axis-requires-clause-coded : goal.place_axis-requires-clause-coded
place_axis-requires-clause-coded g c =
    let k = g.K.PointKind.kind in
    let one : k.axes - c.loop-number.number ≡ suc (k.axes - (c.loop-number.number + 1)) = omega (arith, g.met.K.PointKind.counted) in
    let f = filling g.O.ByteOrder.order g.P.Predictor.means g.Q.Unpacking.reading c.args.n _ _ c.loop-number.left (says_axis c.unwrap-axis.result.0) c.unwrap-axis.result.1 one (ap (told_by says_axis) (sym c.unwrap-axis.ensures) ∙ c.take.ensures.value) k c.loop-number.number c.loop-number.points _ _ refl refl c.loop-number.invariant.accepted in
    f.sound

pub loop-number-preserved : goal.loop-number-preserved
loop-number-preserved g c =
    let k = g.K.PointKind.kind in
    let one : k.axes - c.loop-number.number ≡ suc (k.axes - (c.loop-number.number + 1)) = omega (arith, g.met.K.PointKind.counted) in
    let f = filling g.O.ByteOrder.order g.P.Predictor.means g.Q.Unpacking.reading c.args.n _ _ c.loop-number.left (says_axis c.unwrap-axis.result.0) c.unwrap-axis.result.1 one (ap (told_by says_axis) (sym c.unwrap-axis.ensures) ∙ c.take.ensures.value) k c.loop-number.number c.loop-number.points _ _ refl refl c.loop-number.invariant.accepted in
    record { filled = ap (fill_by k (c.loop-number.number + 1) _) c.place_axis.ensures ∙ f.filled ∙ c.loop-number.invariant.filled; accepted = f.accepted }
