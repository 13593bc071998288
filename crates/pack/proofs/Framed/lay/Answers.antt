use Rattle.std.proofs.Common.{◌≡◌, ℕ, suc, ◌+◌, ◌-◌, ◌*◌, ◌^◌, ◌<◌, ◌≤◌, List, [], ◌∷◌, ◌++◌, map, length, take, drop, ℤ, refl, sym, ap, ◌∙◌, subst, ap₂, append_assoc, arith, rules}
use Rattle.std.specs.Option.{MatchOption}
use Rattle.std.proofs.lemmas.List.{append-nil, length-map, length-set, length-take-le, take_all, take_more_set}
use Rattle.bodies.specs.Bodies.{gap, fields_size}
use Rattle.bodies.proofs.Bodies.{holds}
use Rattle.pack.proofs.Laying.{left, left_all, left_byte, left-held, Small, taken, shifted-fits}
use Rattle.pack.proofs.Framed.lay.Goals as goal

-- the field that comes next, a zero where none is left
next-field : (c : goal.After-from) → let s = c.args.self.now in
    (c.from.result < 2 ^ s.width.bits) × Small s.width.bits s.base c.next.new.self.rest.now
    × ((have acc k : ℕ) → left s.width.bits (map (gap s.base) c.loop-have.entries.rest.now) have acc k ≡ left s.width.bits (map (gap s.base) c.next.new.self.rest.now) (have + s.width.bits) (acc * 2 ^ s.width.bits + c.from.result) k)
next-field c =
    let s = c.args.self.now in
    let value : MatchOption c.next.result (c.map_or-field.result ≡ 0) (λ x. c.map_or-field.result ≡ gap s.base x.now) = search rules in
    taken s.width.bits s.base c.next.result c.from.result c.loop-have.entries c.next.new.self c.next.ensures.steps
    (subst (λ (f : ℕ). MatchOption c.next.result (f ≡ 0) (λ x. f ≡ gap s.base x.now)) (sym c.from.ensures) value)
    c.loop-have.invariant.small

pub overflow_add-acc : goal.overflow_add-acc
overflow_add-acc c =
    record { fits = shifted-fits c.loop-have.acc c.args.self.now.width.bits c.from.result (omega (arith, c.args.self.now.width.narrow)) (next-field c).0 }

pub loop-have-preserved : goal.loop-have-preserved
loop-have-preserved c =
    let w : ℕ = c.args.self.now.width.bits in
    let few : c.loop-have.have + w ≤ 64 = omega (arith, c.loop-have-test.true, c.args.self.now.width.narrow) in
    let next = next-field c in record {
      small = next.1;
      same = λ k. left-held w (map (gap c.args.self.now.base) c.next.new.self.rest.now) (c.loop-have.have + w) (c.loop-have.acc * 2 ^ w) c.from.result k few
          ∙ sym (next.2 c.loop-have.have c.loop-have.acc k) ∙ c.loop-have.invariant.same k;
      few = omega (arith, c.loop-have-test.true, c.args.self.now.width.narrow);
    }

pub loop-byte-init : goal.loop-byte-init
loop-byte-init c =
    let w : ℕ = c.args.self.now.width.bits in
    let b : ℤ = c.args.self.now.base in
    let xs : List ℤ = c.args.self.now.list.now in
    let rest : c.iter-entries.result.rest.now ≡ xs = search rules in
    let room : length (take c.fields_size.result c.args.out.now) ≡ c.fields_size.result = length-take-le c.fields_size.result c.args.out.now (omega (arith, c.requires, c.fields_size.ensures)) in
    let long : fields_size (length (map (gap b) xs)) w ≡ fields_size (length xs) w = ap (λ n. fields_size n w) (length-map xs (gap b)) in
    let size : length (take c.fields_size.result c.args.out.now) - 0 ≡ fields_size (length (map (gap b) xs)) w = omega (arith, c.fields_size.ensures) in record {
      bytes = ap₂ (λ (ys : List ℤ) (k : ℕ). left w (map (gap b) ys) 0 0 k) rest size ∙ left_all w (map (gap b) xs);
      small = subst (Small w b) (sym rest) (subst (λ (v : ℕ). Small v b xs) (sym c.args.self.now.narrowest) (holds (map (gap b) xs)));
      few = omega arith;
    }

pub loop-byte-preserved : goal.loop-byte-preserved
loop-byte-preserved c =
    let w : ℕ = c.args.self.now.width.bits in
    let bytes : List ℕ = c.loop-byte.byte-items in
    let i : ℕ = c.loop-byte.byte-index in
    let acc : ℕ = c.loop-have.acc in
    let less : ℕ = c.loop-have.have - 8 in
    let k : ℕ = length bytes - (i + 1) in
    let fs = map (gap c.args.self.now.base) c.loop-have.entries.rest.now in
    let inside : i < length bytes = omega (arith, c.loop-byte-test.true, c.loop-byte.auto.byte-items) in
    let more : length bytes - i ≡ suc k = omega arith in
    let held : c.loop-have.have ≡ 8 + less = omega (arith, c.loop-have-test.false) in
    let next : c.bits_above.result ∷ left w fs less acc k ≡ left w (map (gap c.args.self.now.base) c.loop-byte.entries.rest.now) c.loop-byte.have c.loop-byte.acc (length bytes - i) =
    ap (λ (v : ℕ). v ∷ left w fs less acc k) c.bits_above.ensures ∙ sym (left_byte w fs less acc k c.loop-have.invariant.small) ∙ sym (ap (λ (h : ℕ). left w fs h acc (suc k)) held)
    ∙ c.loop-have.invariant.same (suc k) ∙ rw more refl in record {
      bytes = ap₂ (λ (ys : List ℕ) (n : ℕ). ys ++ left w fs less acc (n - (i + 1))) (take_more_set bytes i c.bits_above.result inside) (length-set bytes i c.bits_above.result)
          ∙ append_assoc (take i bytes) (c.bits_above.result ∷ []) (left w fs less acc k) ∙ ap (λ (ys : List ℕ). take i bytes ++ ys) next ∙ c.loop-byte.invariant.bytes;
      small = c.loop-have.invariant.small;
      few = omega (arith, c.loop-have.invariant.few);
    }

pub returns : goal.returns
returns c =
    let w : ℕ = c.args.self.now.width.bits in
    let bytes : List ℕ = c.loop-byte.byte-items in
    let i : ℕ = c.loop-byte.byte-index in
    let none : 0 ≡ length bytes - i = omega (arith, c.loop-byte-test.false, c.loop-byte.auto.byte-items) in
    let whole = sym (take_all i bytes (omega arith)) ∙ sym (append-nil (take i bytes))
    ∙ ap (λ (n : ℕ). take i bytes ++ left w (map (gap c.args.self.now.base) c.loop-byte.entries.rest.now) c.loop-byte.have c.loop-byte.acc n) none
    ∙ c.loop-byte.invariant.bytes in
    ap₂ (λ (ys : List ℕ) (n : ℕ). ys ++ drop n c.args.out.now) whole c.fields_size.ensures
