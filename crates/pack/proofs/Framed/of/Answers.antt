use Rattle.std.proofs.Common.{◌∙◌, w32}
use Rattle.std.proofs.lemmas.Int.{to_z-of_z}
use Rattle.bodies.proofs.Bodies.{least_is}
use Rattle.pack.proofs.Framed.of.Goals as goal

pub invariant_of-result-clause-lowest : goal.invariant_of-result-clause-lowest
invariant_of-result-clause-lowest c =
    to_z-of_z w32 c.smallest-base.result (record { sfits = c.smallest-base.type_inv }) ∙ least_is _ _ c.smallest-base.ensures.bound c.smallest-base.ensures.among
