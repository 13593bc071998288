use Rattle.std.proofs.Common.{length, sym, ap, ◌∙◌, arith, rules, w32}
use Rattle.std.proofs.lemmas.Int.{to_z-of_z}
use Rattle.predict.specs.Residues.{restored}
use Rattle.load.proofs.Codes.{values_past, values_next}
use Rattle.load.proofs.body.CodesIterator.next.Goals as goal

pub returns-then-i-len-clause-steps : goal.returns-then-i-len-clause-steps
returns-then-i-len-clause-steps g c =
    let x = c.self.inside in
    let none = sym c.self.view_is ∙ values_past g.P.Predictor.means x.before x.body x.index (omega (arith, c.if-i-len.true, c.len.ensures.value)) in
    (none, none)

pub returns : goal.returns
returns g c =
    let m = g.P.Predictor.means in
    let x = c.self.inside in
    let residue = to_z-of_z w32 c.entry.result (record { sfits = c.entry.type_inv }) ∙ c.entry.ensures in
    let code = to_z-of_z w32 c.restored-code.result (record { sfits = c.restored-code.type_inv }) ∙ c.restored-code.ensures ∙ ap (restored m x.index x.before) residue in
    let step = sym c.self.view_is ∙ values_next m x.before x.body x.index _ _ (omega (arith, c.self.invariant, c.if-i-len.false, c.len.ensures.value)) code c.then-self-inside.ensures in
    let shorter = ap length step in
    record { steps = step; goes = search rules }
