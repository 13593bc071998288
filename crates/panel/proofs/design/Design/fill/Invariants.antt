use Rattle.panel.proofs.Names.{◌≡◌, ◌++◌, take, drop, residues, residues_from, codes_on}
use Rattle.panel.proofs.design.Design.fill.Given as goal

-- what is filled, and what is stored of the rest, is what is stored of all
abbrev pub invariant-loop-i : goal.invariant-loop-i
invariant-loop-i g l =
    let m = g.P.Predictor.means in
    let codes = codes_on g.K.PointKind.kind l.axis l.range in
    take l.i l.work ++ residues_from m l.i l.before (codes (drop l.i l.point-items)) ≡ residues m (codes l.point-items)
