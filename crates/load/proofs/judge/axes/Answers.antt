use Rattle.std.proofs.Common.{◌+◌, ◌-◌, Err, sym, ap, ◌∙◌, arith, rules}
use Rattle.panel.specs.Judging.{all_codes}
use Rattle.load.specs.Pieces.{says_axis}
use Rattle.load.proofs.Codes.{codes_next}
use Rattle.load.proofs.Axes.{walks}
use Rattle.load.proofs.judge.axes.Goals as goal

pub loop-code-preserved : goal.loop-code-preserved
loop-code-preserved g c = sym (codes_next c.in_ok-axis.axis.range c.in-Some.code _ _ c.in-Some.ensures.steps (search rules) _ c.if-not-is_code.ensures) ∙ c.loop-code.invariant

pub loop-preserved : goal.loop-preserved
unfolding all_codes
loop-preserved g c =
    let x = c.in_ok-axis.axis in
    let sound = sym c.loop-code.invariant ∙ ap (all_codes x.range) c.in-None.ensures.steps.0 in
    walks g.O.ByteOrder.order g.P.Predictor.means g.Q.Unpacking.reading c.args.n _ _ c.loop.left (says_axis x) c.in_ok-axis.after (omega arith) c.in_ok-axis.ensures.value _ sound ∙ c.loop.invariant

pub returns-then-not-is_code : goal.returns-then-not-is_code
returns-then-not-is_code g c =
    let x = c.in_ok-axis.axis in
    let stray = sym c.loop-code.invariant ∙ codes_next x.range c.in-Some.code _ _ c.in-Some.ensures.steps (search rules) _ c.if-not-is_code.ensures in
    ap Err c.at.ensures
    ∙ walks g.O.ByteOrder.order g.P.Predictor.means g.Q.Unpacking.reading c.args.n _ (c.args.count - (c.loop.counter + 1)) c.loop.left (says_axis x) c.in_ok-axis.after (omega arith) c.in_ok-axis.ensures.value _ stray
    ∙ c.loop.invariant
