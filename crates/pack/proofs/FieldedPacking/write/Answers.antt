use Rattle.std.proofs.Common.{◌≡◌, ℕ, ◌+◌, ◌-◌, List, [], ◌∷◌, ◌++◌, map, length, take, drop, ℤ, refl, sym, ap, ap₂, ◌∙◌, arith, append_assoc, length-append, length-drop, of_z, w32}
use Rattle.std.proofs.lemmas.List.{append-nil, take_rest, take_at, drop_at, drop_all, drop-drop}
use borrow.Rule.Slice.PartMut.{put_mid}
use Rattle.words.specs.Order.{Order, bytes_of}
use Rattle.bodies.specs.Bodies.{fields_size, least, gap, width_of, laid, packed, fielded_writes, fielded_size}
use Rattle.pack.proofs.FieldedPacking.write.Goals as goal

-- bytes laid behind a head of five bytes
behind-head : (five old head bytes out : List ℕ) (size : ℕ) → length five ≡ 5 → head ≡ five ++ drop 5 old →
    out ≡ bytes ++ drop size (take (length head - 5) (drop 5 head)) →
    put_mid 5 (length head - 5) head out ≡ (five ++ bytes) ++ drop (5 + size) old
behind-head five old head bytes out size long e f =
    let rest = drop 5 old in
    let front : take 5 head ≡ five = ap (take 5) e ∙ take_at five rest 5 long in
    let back : take (length head - 5) (drop 5 head) ≡ rest = take_rest head 5 ∙ ap (drop 5) e ∙ drop_at five rest 5 long in
    let none : drop (length head - 5) (drop 5 head) ≡ [] = drop_all (length head - 5) (drop 5 head) (omega (arith, length-drop 5 head)) in
    let behind : out ++ drop (length head - 5) (drop 5 head) ≡ bytes ++ drop (5 + size) old =
    ap (λ (xs : List ℕ). out ++ xs) none ∙ append-nil out ∙ f ∙ ap (λ (xs : List ℕ). bytes ++ drop size xs) back ∙ ap (λ (xs : List ℕ). bytes ++ xs) (drop-drop size 5 old) in
    ap₂ (λ (xs ys : List ℕ). xs ++ ys) front behind ∙ sym (append_assoc five bytes (drop (5 + size) old))

-- the body of a list, by its base and width
framed-is : (o : Order) (xs ys : List ℤ) (b : ℤ) (w : ℕ) → b ≡ least xs → w ≡ width_of (map (gap b) xs) → xs ≡ ys →
    (packed o b w (map (gap b) xs) ≡ fielded_writes o ys) × (5 + fields_size (length xs) w ≡ fielded_size ys)
framed-is o xs ys b w low narrow same = rw narrow (rw low (rw same (refl, refl)))

pub lay-requires : goal.lay-requires
lay-requires g c =
    let f = c.of-framed.result in
    let framed = framed-is g.O.ByteOrder.order f.list.now c.args.list.now f.base f.width.bits f.lowest f.narrowest c.of-framed.ensures in
    let size = ap length (take_rest c.write_head.new.body 5) ∙ length-drop 5 c.write_head.new.body in
    omega (arith, c.requires.room, c.write_head.auto.body)

pub returns : goal.returns
returns g c =
    let f = c.of-framed.result in
    let fs = map (gap f.base) f.list.now in
    let base = bytes_of g.O.ByteOrder.order f.base in
    let five = base ++ (f.width.bits ∷ []) in
    let framed = framed-is g.O.ByteOrder.order f.list.now c.args.list.now f.base f.width.bits f.lowest f.narrowest c.of-framed.ensures in
    behind-head five c.args.body.now c.write_head.new.body (laid f.width.bits fs) c.lay.new.out (fields_size (length f.list.now) f.width.bits)
    (omega (arith, length-append base (f.width.bits ∷ []), g.O.ByteOrder.order.four (of_z w32 f.base)))
    (c.write_head.ensures ∙ sym (append_assoc base (f.width.bits ∷ []) _)) c.lay.ensures
    ∙ ap₂ (λ (xs : List ℕ) (n : ℕ). xs ++ drop n c.args.body.now) (append_assoc base (f.width.bits ∷ []) (laid f.width.bits fs) ∙ framed.0) framed.1
