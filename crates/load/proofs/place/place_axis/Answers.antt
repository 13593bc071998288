use Rattle.std.proofs.Common.{◌<◌, length, refl, sym, ap, ◌∙◌, arith, rules, w32, SFits, length-set}
use Rattle.std.specs.Iterator.Adapters.{enumerate_source, enumerate_count}
use Rattle.std.proofs.lemmas.Bool.{and_parts}
use Rattle.std.proofs.lemmas.Int.{to_z-of_z}
use Rattle.predict.specs.Residues.{start}
use Rattle.predict.proofs.Undone.{length-values}
use Rattle.range.specs.Scale.{place_in}
use Rattle.load.proofs.Codes.{codes_next, place_next, place_past}
use Rattle.load.proofs.place.place_axis.Goals as goal

pub loop-i-init : goal.loop-i-init
loop-i-init g c =
    let from = c.into_iter-i-iterator.ensures.into_iter_gives in
    let count = ap enumerate_count from ∙ c.enumerate-i-items.ensures.count in
    let source = ap enumerate_source from ∙ c.enumerate-i-items.ensures.source ∙ c.codes.ensures in
    let long = length-values g.P.Predictor.means 0 start c.args.axis.body in
    rw (count, source) (record { placed = search rules; coded = c.requires.coded; room = omega (arith, long, c.requires.room) })

pub step_of-requires : goal.step_of-requires
step_of-requires g c = (and_parts _ _ (sym (codes_next c.args.axis.range c.in-Some.code _ _ c.in-Some.ensures.steps.0 (search rules) _ refl) ∙ c.loop-i.invariant.coded)).0

pub loop-i-preserved : goal.loop-i-preserved
loop-i-preserved g c =
    let s = c.args.axis.range in
    let steps = c.in-Some.ensures.steps in
    let one = ap length steps.0 in
    let fits : SFits w32 c.in-Some.code = search rules in
    let step = to_z-of_z w32 c.step_of.result (record { sfits = c.step_of.type_inv }) ∙ c.step_of.ensures ∙ ap (place_in s) (to_z-of_z w32 c.in-Some.code fits) in
    let due : c.in-Some.i < length c.loop-i.points = omega (arith, one, steps.1, c.loop-i.invariant.room) in
    rw (steps.2, ← steps.1)
    (record {
      placed = place_next g.K.PointKind.kind c.args.number s c.in-Some.i c.loop-i.points _ _ _ _ c.index-points-i.result c.at_place.result _ steps.0 due step c.at_place.ensures (rw steps.1 c.loop-i.invariant.placed);
      coded = (and_parts _ _ (sym (codes_next s c.in-Some.code _ _ steps.0 fits _ refl) ∙ c.loop-i.invariant.coded)).1;
      room = rw (length-set c.loop-i.points c.in-Some.i c.at_place.result) (omega (arith, one, steps.1, c.loop-i.invariant.room));
    })

pub returns : goal.returns
returns g c = place_past g.K.PointKind.kind c.args.number c.args.axis.range (enumerate_count c.loop-i.i-iterator) c.loop-i.points _ _ c.in-None.ensures.steps.0.0 c.loop-i.invariant.placed
