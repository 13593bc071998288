use Rattle.panel.proofs.Names.{◌≡◌, ℕ, List, length, sym, ap, ◌∙◌, arith, overwritten, piece_bytes, header_piece, rest_bytes, file_of, axes_from, panel_on}
use Rattle.panel.proofs.Axes.{length_file, length_next, write_next, rest_end}
use Rattle.panel.proofs.Overwriting.{over-more}
use Rattle.panel.proofs.Sound.{length-axes}
use Rattle.panel.proofs.design.Design.write.Goals as goal

pub write_axis-at-requires-clause-space : goal.write_axis-at-requires-clause-space
write_axis-at-requires-clause-space g c =
    let o = g.O.ByteOrder.order in let m = g.P.Predictor.means in let q = g.Q.Packing.means in let k = g.K.PointKind.kind in
    let s = c.args.self.now in
    let long = length_next o m q k s.points.now s.ranges.now c.loop-axis.axis c.range-item.result c.fill.new.work c.loop-axis-test.true c.range-item.is c.fill.ensures in
    omega (arith, long, length_file o m q (panel_on k s.ranges.now s.points.now))

pub loop-axis-preserved : goal.loop-axis-preserved
loop-axis-preserved g c =
    let o = g.O.ByteOrder.order in let m = g.P.Predictor.means in let q = g.Q.Packing.means in let k = g.K.PointKind.kind in
    let s = c.args.self.now in
    let l = c.loop-axis in
    let whole = length_file o m q (panel_on k s.ranges.now s.points.now) in
    let next = write_next o m q k s.points.now s.ranges.now l.axis c.range-item.result c.fill.new.work c.loop-axis-test.true c.range-item.is c.fill.ensures in
    let long = length_next o m q k s.points.now s.ranges.now l.axis c.range-item.result c.fill.new.work c.loop-axis-test.true c.range-item.is c.fill.ensures in
    record {
      bytes = next l.file _ l.at _ (omega (arith, whole)) c.write_axis-at.ensures.bytes c.write_axis-at.ensures.next ∙ l.invariant.bytes;
      room = omega (arith, long, c.write_axis-at.ensures.next);
    }

pub returns : goal.returns
unfolding file_of
returns g c =
    let o = g.O.ByteOrder.order in let m = g.P.Predictor.means in let q = g.Q.Packing.means in let k = g.K.PointKind.kind in
    let ps = c.args.self.now.points.now in
    let gs = c.args.self.now.ranges.now in
    let file : List ℕ = c.args.file.now in
    let l = c.loop-axis in
    let all : List ℕ = rest_bytes o m q (axes_from k ps 0 gs) in
    let H : List ℕ = piece_bytes (header_piece o) (record { axes = length (axes_from k ps 0 gs); predictor = m.number; packing = q.reading.number; count = length ps }) in
    let head : c.head_piece-head.result ≡ H =
    c.head_piece-head.ensures
    ∙ simp (length-axes k ps 0 gs, c.NUMBER.ensures, g.met.P.Predictor.numbered, c.NUMBER-2.ensures, g.met.Q.Unpacking.numbered, ap (λ r. r.number) g.met.Q.Packing.read_back) in
    let four = o.four (length ps) in
    let whole = length_file o m q (panel_on k gs ps) in
    c.put-2.ensures ∙ sym (ap (overwritten l.file l.at) (rest_end o m q k ps gs l.axis c.loop-axis-test.false)) ∙ l.invariant.bytes
    ∙ ap (λ (f : List ℕ). overwritten f 8 all) (c.put.ensures ∙ ap (overwritten file 0) head) ∙ over-more file 0 H (omega (arith, four, whole)) 8 all (omega (arith, four))
