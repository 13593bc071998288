-- The panel that a file means, or why it is refused and where: pieces in the order of the file, and within a piece the
-- smaller number first. A panel is judged from any place on, and what follows it is answered.
use Rattle.std.specs.Prelude.{ℕ, Bool, false, not, ◌&&◌, cond, List, [], ◌∷◌, length, ℤ, Ok, Err, Result, ◌==◌, from_bits, int_lt, nat_le, nat_lt, slice_index, Float, zero, suc, take}
use Rattle.std.specs.Float.{binary32}
use Rattle.std.specs.List.{list_all}
use Rattle.refusal.specs.declared.Why.{Why}
use Rattle.refusal.specs.declared.Why.TheVariants.{Truncated, Letter, AxisCount, PredictorByte, PackingByte, VertexCount, ShortList, Bits, End, Order as Reversed, BodyLength, SpareBits, Code, Trailing}
use Rattle.refusal.specs.declared.Refusal.{Refusal}
use Rattle.refusal.specs.Refusals.{number_of, refuse, and_then, refusal_at}
use Rattle.kinds.specs.Vertex.{is_vertex_count}
use Rattle.predict.specs.Predictor.{PredictorMeaning}
use Rattle.predict.specs.Residues.{values}
use Rattle.pack.specs.Packing.{ReadingMeaning}
use Rattle.range.specs.declared.ends.TheConstants.{MOST_BITS}
use Rattle.range.specs.declared.words.Words.{Words}
use Rattle.range.specs.Scale.{Scale, good_end, units_of, is_code, scale_of}
use Rattle.panel.specs.Layout.{Rest, Layout, Header, rest_at, past, header_piece, range_piece, length_piece, end_piece}
use Rattle.std.specs.Result.{result_map_both}
use Rattle.words.specs.Order.{Order}
use Rattle.panel.specs.Panel.{Axis, Panel}

-- a fault that a piece can have: why, where it is told, and whether this piece has it
pub record Fault : Type 0 where
  pub why : Why
  pub place : ℕ
  pub found : Bool

-- such a fault
abbrev pub fault : Why → ℕ → Bool → Fault
fault why place found = record { why = why; place = place; found = found }

-- refused for the first of these faults that is found, and else as given
abbrev pub unless : {X : Type 0} → List Fault → Result X Refusal → Result X Refusal
unless [] good = good
unless (f ∷ fs) good = cond f.found (refuse f.why f.place) (unless fs good)

-- fewer bytes are left than the piece takes, or its letter is not the one due
abbrev pub piece_faults : {X : Type 0} → Layout X → Rest → List Fault
piece_faults l r =
    fault Truncated r.at (nat_lt (length r.bytes) l.size)
    ∷ fault Letter r.at (not (slice_index r.bytes 0 == l.letter)) ∷ []

-- what N says, of a file for so many axes, this predictor, this packing, and a point list of so much room
abbrev pub header_faults : PredictorMeaning → ReadingMeaning → ℕ → ℕ → Header → ℕ → List Fault
header_faults m q axes room h at =
    fault AxisCount at (not (h.axes == axes))
    ∷ fault PredictorByte at (not (h.predictor == m.number))
    ∷ fault PackingByte at (not (h.packing == q.number))
    ∷ fault VertexCount at (not (is_vertex_count h.count))
    ∷ fault ShortList at (nat_lt room h.count) ∷ []

-- what Q says
abbrev pub range_faults : Words → ℕ → List Fault
range_faults w at =
    let lower : Float = from_bits binary32 w.lower in
    let upper : Float = from_bits binary32 w.upper in
    fault Bits at (not (nat_le 1 w.bits && nat_le w.bits MOST_BITS))
    ∷ fault End at (not (good_end lower && good_end upper))
    ∷ fault Reversed at (not (int_lt (units_of lower) (units_of upper))) ∷ []

-- fewer bytes are left than a body of so many
abbrev pub cut_short : ℕ → Rest → List Fault
cut_short n r = fault Truncated r.at (nat_lt (length r.bytes) n) ∷ []

-- the packing refuses a body for this reason
abbrev pub refused_for : Why → Result (List ℤ) Why → Bool
refused_for why (Ok list) = false
refused_for why (Err e) = number_of e == number_of why

-- a body, by what the packing reads in it
abbrev pub body_faults : Result (List ℤ) Why → ℕ → List Fault
body_faults r at =
    fault BodyLength at (refused_for BodyLength r) ∷ fault SpareBits at (refused_for SpareBits r) ∷ []

-- every code is one of the scale's
unfoldable pub all_codes : Scale → List ℤ → Bool
all_codes s cs = list_all (is_code s) cs

-- the codes of an axis, told where its body begins
abbrev pub code_faults : Scale → List ℤ → ℕ → List Fault
code_faults s codes at = fault Code at (not (all_codes s codes)) ∷ []

-- the codes of a body that the packing accepts
abbrev pub stray_codes : PredictorMeaning → Scale → Result (List ℤ) Why → ℕ → List Fault
stray_codes m s (Ok list) at = code_faults s (values m list) at
stray_codes m s (Err why) at = []

-- something follows where nothing may
abbrev pub trailing_faults : Rest → List Fault
trailing_faults r = fault Trailing r.at (nat_lt 0 (length r.bytes)) ∷ []

-- an axis as it stands in a file: its scale, what is stored of its codes, and where its body begins
pub record Opened : Type 0 where
  pub scale : Scale
  pub stored : List ℤ
  pub place : ℕ

-- a piece at the front of what is left: what it says, and what follows it
abbrev pub taken : {X : Type 0} → Layout X → Rest → Result (X × Rest) Refusal
taken l r = unless (piece_faults l r) (Ok (l.says r.bytes, past l.size r))

-- so many bytes, and what follows them
abbrev pub bytes_taken : ℕ → Rest → Result (List ℕ × Rest) Refusal
bytes_taken n r = unless (cut_short n r) (Ok (take n r.bytes, past n r))

-- E, and what follows it
abbrev pub end_at : Rest → Result Rest Refusal
end_at r = and_then (taken end_piece r) (λ e. Ok e.1)

-- nothing follows
abbrev pub nothing_follows : Rest → Result (Unit {0}) Refusal
nothing_follows r = unless (trailing_faults r) (Ok tt)

-- Q: the scale
abbrev pub scale_at : Order → Rest → Result (Scale × Rest) Refusal
scale_at o r =
    and_then (taken (range_piece o) r) (λ w.
    unless (range_faults w.0 r.at) (Ok (scale_of w.0, w.1)))

-- a body of so many bytes, in which n entries are due: what the packing reads in it
abbrev pub body_at : Order → ReadingMeaning → ℕ → ℕ → Rest → Result (List ℤ × Rest) Refusal
body_at o q n len r =
    and_then (bytes_taken len r) (λ b.
    result_map_both (λ list. (list, b.1)) (λ why. refusal_at why r.at) (q.reads o n b.0))

-- Q, V and the body of an axis
unfoldable pub opened : Order → ReadingMeaning → ℕ → Rest → Result (Opened × Rest) Refusal
opened o q n r =
    and_then (scale_at o r) (λ s.
    and_then (taken (length_piece o) s.1) (λ v.
    and_then (body_at o q n v.0 v.1) (λ b.
    Ok (record { scale = s.0; stored = b.0; place = v.1.at }, b.1))))

-- with its codes, once the predictor is undone, if each is one of the scale
abbrev pub coded : PredictorMeaning → Opened × Rest → Result (Axis × Rest) Refusal
coded m x =
    let codes : List ℤ = values m x.0.stored in
    unless (code_faults x.0.scale codes x.0.place)
    (Ok (record { scale = x.0.scale; codes = codes }, x.1))

-- one axis before the others
abbrev pub with_axis : Axis → List Axis × Rest → Result (List Axis × Rest) Refusal
with_axis x xs = Ok (x ∷ xs.0, xs.1)

module _ (o : Order) (m : PredictorMeaning) (q : ReadingMeaning) where
  -- N: the vertex count, of a file for so many axes and a point list of so much room
  abbrev pub head_at : ℕ → ℕ → Rest → Result (ℕ × Rest) Refusal
  head_at axes room r =
      and_then (taken (header_piece o) r) (λ h.
      unless (header_faults m q axes room h.0 r.at) (Ok (h.0.count, h.1)))

  -- an axis
  abbrev pub axis_at : ℕ → Rest → Result (Axis × Rest) Refusal
  axis_at n r = and_then (opened o q n r) (coded m)

  -- so many axes
  unfoldable pub axes_at : ℕ → ℕ → Rest → Result (List Axis × Rest) Refusal
  axes_at n zero r = Ok ([], r)
  axes_at n (suc a) r = and_then (axis_at n r) (λ x. and_then (axes_at n a x.1) (with_axis x.0))

  -- a panel, for a kind of so many axes and a point list of so much room, and what follows it
  unfoldable pub panel_at : ℕ → ℕ → Rest → Result (Panel × Rest) Refusal
  panel_at axes room r =
      and_then (head_at axes room r) (λ h.
      and_then (axes_at h.0 axes h.1) (λ x.
      and_then (end_at x.1) (λ e.
      Ok (record { count = h.0; axes = x.0 }, e))))

  -- the panel of a whole file
  unfoldable pub judged : ℕ → ℕ → List ℕ → Result Panel Refusal
  judged axes room file =
      and_then (panel_at axes room (rest_at file 0)) (λ p.
      and_then (nothing_follows p.1) (λ _.
      Ok p.0))
