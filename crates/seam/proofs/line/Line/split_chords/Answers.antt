use Rattle.std.proofs.Common.{◌≡◌, length, refl, arith}
use Rattle.std.proofs.lemmas.List.{nil_from_length}
use Rattle.seam.specs.Seam.{tree_of, parts_of}
use Rattle.seam.proofs.Grow.{inner, room, counted, pushed, pushed-less, popped, ended}
use Rattle.seam.proofs.Weights.{pick-inner}
use Rattle.seam.proofs.line.Line.split_chords.Goals as goal

pub keep-requires : goal.keep-requires
keep-requires g c = omega (arith, c.chords.invariant.proper, inner (pick-inner _ _) c.chords.invariant (omega arith) c.in-Some.ensures)

pub parts-requires : goal.parts-requires
parts-requires g c =
    let i = inner (pick-inner _ _) c.chords.invariant (omega arith) c.in-Some.ensures in
    record { from = omega (arith, i); to = omega (arith, i) }

pub overflow_add-count : goal.overflow_add-count
overflow_add-count g c = omega (arith, counted (pick-inner _ _) c.chords.invariant (omega arith) c.in-Some.ensures (parts_of c.chords.chord c.in-Some.c) refl)

pub push-requires : goal.push-requires
push-requires g c = (omega arith, room (pick-inner _ _) c.chords.invariant (omega arith) c.in-Some.ensures c.parts.result c.parts.ensures)

pub chords-preserved-in-Some : goal.chords-preserved-in-Some
chords-preserved-in-Some g c =
    rw c.keep.ensures (pushed (pick-inner _ _) c.chords.invariant (omega arith) c.in-Some.ensures c.parts.result c.parts.ensures c.push.new.self.items c.push.ensures.items c.max-most.result (rw c.len.ensures.value at c.max-most.ensures))

pub chords-smaller-in-Some : goal.chords-smaller-in-Some
chords-smaller-in-Some g c =
    pushed-less (pick-inner _ _) c.chords.invariant (omega arith) c.in-Some.ensures c.parts.result c.parts.ensures c.push.new.self.items c.push.ensures.items

pub chords-preserved : goal.chords-preserved
chords-preserved g c =
    popped (pick-inner _ _) c.chords.invariant (omega arith) c.in-None.ensures c.in-Some-pop.next c.pop.new.self.items c.in-Some-pop.ensures.items

pub returns : goal.returns
unfolding tree_of
returns g c =
    let none : length c.chords.waiting.items ≡ 0 = grind (arith, c.in-None-pop.ensures.variant) in
    let e = ended (pick-inner _ _) c.chords.invariant (omega arith) c.in-None.ensures (nil_from_length c.chords.waiting.items none) in
    record { marks = e.0; count = e.1; waits = e.2; few = e.3 }
