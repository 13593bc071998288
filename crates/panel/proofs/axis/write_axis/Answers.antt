use Rattle.panel.proofs.Names.{ℕ, ◌+◌, List, ◌++◌, length, drop, sym, ap, ap₂, ◌∙◌, append_assoc, arith, length-append, overwritten, in_words, piece_bytes, range_piece, length_piece}
use Rattle.panel.proofs.Overwriting.{over-part, over-whole, over-more}
use Rattle.panel.proofs.Sound.{range_sized, length_sized}
use Rattle.panel.proofs.axis.write_axis.Goals as goal

pub returns-clause-bytes : goal.returns-clause-bytes
returns-clause-bytes g c =
    let o = g.O.ByteOrder.order in let q = g.Q.Packing.means in
    let list = c.args.entries.now in let file = c.args.file.now in let at = c.args.at in
    let body : ℕ = at + 10 + 5 in
    let R : List ℕ = piece_bytes (range_piece o) (in_words c.args.range.now) in
    let V : List ℕ = piece_bytes (length_piece o) (length (q.writes o list)) in
    let B : List ℕ = q.writes o list in
    let size = c.body_length-size.ensures.size ∙ sym (q.sized o list) in
    let r = range_sized o (in_words c.args.range.now) in
    let v = length_sized o (length B) in
    let first = c.put.ensures ∙ ap (overwritten file at) c.range_piece.ensures in
    let second = c.put-2.ensures ∙ ap₂ (λ f y. overwritten f (at + 10) y) first (c.length_piece.ensures ∙ ap (piece_bytes (length_piece o)) size) in
    over-part body _ c.put-2.new.file c.write.new.body B
    (over-whole c.write.new.body B (drop body c.put-2.new.file) _ _ c.write.ensures (omega (arith, c.body_length-size.ensures.size))) (omega (arith, size))
    ∙ ap (λ f. overwritten f body B) (second ∙ over-more file at R (omega (arith, r)) (at + 10) V (omega (arith, r)))
    ∙ over-more file at (R ++ V) (omega (arith, r, v, length-append R V)) body B (omega (arith, r, v, length-append R V))
    ∙ ap (overwritten file at) (append_assoc R V B)
