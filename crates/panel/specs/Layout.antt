-- How the pieces of a panel file lie in its bytes, one layout to read and to write each of them, and the file of a panel.
use Rattle.std.specs.Prelude.{ℕ, ◌+◌, List, [], ◌∷◌, ◌++◌, length, drop, ℤ, slice_index}
use Rattle.std.specs.List.{flat_map}
use Rattle.words.specs.Order.{Order, word_at}
use Rattle.predict.specs.Predictor.{PredictorMeaning}
use Rattle.predict.specs.Residues.{residues}
use Rattle.pack.specs.Packing.{PackingMeaning}
use Rattle.range.specs.declared.words.Words.{Words}
use Rattle.range.specs.Scale.{Scale, in_words}
use Rattle.panel.specs.Panel.{Axis, Panel}

-- what is left of a file, and the place of its first byte
pub record Rest : Type 0 where
  pub bytes : List ℕ
  pub at : ℕ

-- what is left of a file from a place on
abbrev pub rest_at : List ℕ → ℕ → Rest
rest_at file at = record { bytes = drop at file; at = at }

-- what is left beyond n bytes
abbrev pub past : ℕ → Rest → Rest
past n r = record { bytes = drop n r.bytes; at = r.at + n }

-- A piece that begins with a letter: how many bytes it takes, what they say, and the bytes behind the letter that say it.
pub record Layout (X : Type 0) : Type 0 where
  pub letter : ℕ
  pub size : ℕ
  pub says : List ℕ → X
  pub operands : X → List ℕ

-- the bytes of a piece that says x
abbrev pub piece_bytes : {X : Type 0} → Layout X → X → List ℕ
piece_bytes l x = l.letter ∷ l.operands x

-- what N says: how many axes, which predictor and packing, how many vertices
pub record Header : Type 0 where
  pub axes : ℕ
  pub predictor : ℕ
  pub packing : ℕ
  pub count : ℕ

module _ (o : Order) where
  -- N
  abbrev pub header_piece : Layout Header
  header_piece = record {
    letter = 0x4E;
    size = 8;
    says = λ bs. record {
      axes = slice_index bs 1;
      predictor = slice_index bs 2;
      packing = slice_index bs 3;
      count = word_at o bs 4;
    };
    operands = λ h. h.axes ∷ h.predictor ∷ h.packing ∷ o.writes h.count;
  }

  -- Q: the bits and the two ends of an axis
  abbrev pub range_piece : Layout Words
  range_piece = record {
    letter = 0x51;
    size = 10;
    says = λ bs. record { bits = slice_index bs 1; lower = word_at o bs 2; upper = word_at o bs 6 };
    operands = λ w. w.bits ∷ (o.writes w.lower ++ o.writes w.upper);
  }

  -- V: how many bytes the body has that follows
  abbrev pub length_piece : Layout ℕ
  length_piece = record { letter = 0x56; size = 5; says = λ bs. word_at o bs 1; operands = o.writes }

-- E: the end
abbrev pub end_piece : Layout (Unit {0})
end_piece = record { letter = 0x45; size = 1; says = λ bs. tt; operands = λ e. [] }

-- Q, V and the body of what is stored of an axis
abbrev pub stored_axis : Order → PackingMeaning → Scale → List ℤ → List ℕ
stored_axis o q s list =
    let body : List ℕ = q.writes o list in
    piece_bytes (range_piece o) (in_words s) ++ (piece_bytes (length_piece o) (length body) ++ body)

module _ (o : Order) (m : PredictorMeaning) (q : PackingMeaning) where
  -- of an axis is stored what the predictor leaves of its codes
  unfoldable pub axis_bytes : Axis → List ℕ
  axis_bytes x = stored_axis o q x.scale (residues m x.codes)

  -- the pieces after N
  abbrev pub rest_bytes : List Axis → List ℕ
  rest_bytes xs = flat_map axis_bytes xs ++ piece_bytes end_piece tt

  -- the whole file
  unfoldable pub file_of : Panel → List ℕ
  file_of x =
      piece_bytes (header_piece o)
      (record { axes = length x.axes; predictor = m.number; packing = q.reading.number; count = x.count })
      ++ rest_bytes x.axes
