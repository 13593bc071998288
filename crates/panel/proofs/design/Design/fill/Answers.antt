use Rattle.panel.proofs.Names.{ap, ◌∙◌, arith, w32, inside, code_in}
use Rattle.std.proofs.lemmas.Int.{to_z-of_z}
use borrow.Author.Differences.{ints}
use Rattle.panel.proofs.Axes.{inside_at, fill_step, fill_end}
use Rattle.panel.proofs.design.Design.fill.Goals as goal

pub code_of-code-requires : goal.code_of-code-requires
code_of-code-requires g c =
    let k = g.K.PointKind.kind in let s = c.args.range.now in
    let v = to_z-of_z w32 c.coordinate.result (record { sfits = c.coordinate.type_inv }) ∙ c.coordinate.ensures in
    ap (inside s) (v ∙ ap (λ p. k.coordinate p c.args.axis) c.point-item.is)
    ∙ inside_at k c.args.axis s c.args.self.now.points.now c.loop-i.i c.point-item.result c.loop-i-test.true c.requires.inside

pub loop-i-preserved : goal.loop-i-preserved
loop-i-preserved g c =
    let k = g.K.PointKind.kind in let s = c.args.range.now in
    let l = c.loop-i in
    let v = to_z-of_z w32 c.coordinate.result (record { sfits = c.coordinate.type_inv }) ∙ c.coordinate.ensures in
    let code = to_z-of_z w32 c.code_of-code.result (record { sfits = omega (arith, ints, c.code_of-code.ensures.bound) }) ∙ c.code_of-code.ensures.value in
    let out = to_z-of_z w32 c.stored.result (record { sfits = c.stored.type_inv }) ∙ c.stored.ensures in
    fill_step k c.args.axis s g.P.Predictor.means c.args.self.now.points.now l.i l.before l.work _ l.invariant c.point-item.result _ _ _
    c.loop-i-test.true c.point-item.is (omega arith) (code ∙ ap (code_in s) v) out c.then-before.ensures

pub returns : goal.returns
returns g c =
    let l = c.loop-i in
    fill_end g.K.PointKind.kind c.args.axis c.args.range.now g.P.Predictor.means c.args.self.now.points.now l.i l.before l.work _ l.invariant c.loop-i-test.false (omega arith)
