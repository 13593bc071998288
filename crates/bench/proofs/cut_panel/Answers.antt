use Rattle.law.specs.Calls.{splitting, load_of, load_on, split_on, cut_on, close_on}
use Rattle.bench.proofs.Onward.{joined, placed}
use Rattle.bench.proofs.cut_panel.Goals as goal

pub returns-clause-placed : goal.returns-clause-placed
returns-clause-placed g c =
    let k = g.K.PointKind.kind in
    let l = load_of g.P.Predictor.means g.Q.Unpacking.reading c.args.file.now in
    let loads = c.in_ok-load.ensures in
    let splits = c.in_ok-split.ensures in
    let cuts = c.in_ok-cut.ensures in
    let closes = c.close.ensures in
    placed k l (splitting c.args.tolerance) c.args.points.now c.args.marks.now c.args.program.now
    (rw c.new-bench.ensures at (joined (load_on k l c.new-bench.result c.args.points.now) _ _ _ loads.answer loads.bench loads.points))
    (joined (split_on k (splitting c.args.tolerance) c.load.new.self c.load.new.points c.args.marks.now) _ _ _ splits.answer splits.bench splits.marks)
    (joined (cut_on k c.split.new.self c.load.new.points c.split.new.marks c.args.program.now) _ _ _ cuts.answer cuts.bench cuts.program)
    _ (joined (close_on c.cut.new.self c.cut.new.program) _ _ _ closes.answer closes.bench closes.program)
    closes.length c.no_run_misplaces.ensures.never
