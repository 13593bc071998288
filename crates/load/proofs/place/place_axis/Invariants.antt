use Rattle.std.proofs.Common.{◌≡◌, ◌+◌, ◌≤◌, true, ◌++◌, length, take, drop}
use Rattle.std.specs.Iterator.Adapters.{enumerate_source, enumerate_count}
use Rattle.predict.specs.Residues.{values}
use Rattle.panel.specs.Judging.{all_codes}
use Rattle.load.specs.Filling.{fill_on}
use Rattle.load.proofs.place.place_axis.Given as goal

-- the points that are placed, and the others once they are, are all
abbrev pub invariant-loop-i : goal.invariant-loop-i
invariant-loop-i g l =
    let i = enumerate_count l.i-iterator in
    let left = enumerate_source l.i-iterator in
    let k = g.K.PointKind.kind in
    record {
      placed : take i l.points ++ fill_on k l.number l.range left (drop i l.points) ≡ fill_on k l.number l.range (values g.P.Predictor.means l.fn.axis.body) l.initial.points;
      coded : all_codes l.range left ≡ true;
      room : i + length left ≤ length l.points;
    }
