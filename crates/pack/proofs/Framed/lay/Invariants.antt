use Rattle.std.proofs.Common.{ℕ, ◌-◌, ◌≤◌, ◌≡◌, ◌++◌, map, length, take}
use Rattle.bodies.specs.Bodies.{gap, laid}
use Rattle.pack.proofs.Laying.{left, Small}
use Rattle.pack.proofs.Framed.lay.Given as goal

abbrev pub invariant-loop-have : goal.invariant-loop-have
invariant-loop-have l =
    let w = l.self.width.bits in
    let b = l.self.base in
    record {
      small : Small w b l.entries.rest.now;
      same : (k : ℕ) → left w (map (gap b) l.entries.rest.now) l.have l.acc k ≡ left w (map (gap b) l.initial.entries.rest.now) l.initial.have l.initial.acc k;
      few : l.have ≤ 39;
    }

abbrev pub decreases-loop-have : goal.decreases-loop-have
decreases-loop-have l = 8 - l.have

abbrev pub invariant-loop-byte : goal.invariant-loop-byte
invariant-loop-byte l =
    let w = l.self.width.bits in
    let b = l.self.base in
    let at = l.byte-index in
    record {
      bytes : take at l.byte-items ++ left w (map (gap b) l.entries.rest.now) l.have l.acc (length l.byte-items - at) ≡ laid w (map (gap b) l.self.list.now);
      small : Small w b l.entries.rest.now;
      few : l.have ≤ 31;
    }
