use Rattle.std.proofs.Common.{length}
use Rattle.std.proofs.lemmas.Result.{err_from_is_err_and}
use Rattle.words.specs.Order.{low_first}
use Rattle.load.proofs.Reader.{first_told}
use Rattle.load.proofs.load.Goals as goal

pub returns-in_err-n-clause-first : goal.returns-in_err-n-clause-first
returns-in_err-n-clause-first g c =
    let p = err_from_is_err_and c.from_residual.result c.from_residual.ensures.1 in
    first_told low_first g.P.Predictor.means g.Q.Unpacking.reading g.K.PointKind.kind.axes (length c.args.points.now) c.args.file.now c.from_residual.result
    (rw (p.1, p.2) c.in_err-n.ensures.value)

pub returns-clause-first : goal.returns-clause-first
returns-clause-first g c =
    first_told low_first g.P.Predictor.means g.Q.Unpacking.reading g.K.PointKind.kind.axes (length c.args.points.now) c.args.file.now _ c.in_ok-n.ensures.value
