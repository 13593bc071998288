-- How far the reader of a file comes, what faults a piece can have, and that the first is told.
use Rattle.std.specs.Prelude.{◌≡◌, ◌↔◌, ℕ, zero, suc, ◌+◌, ◌≤◌, true, false, ◌⊎◌, List, [], ◌∷◌, ◌++◌, take, drop, ℤ, Ok, Err, Result}
use Rattle.std.specs.List.{AllByRecursion}
use Rattle.words.specs.Order.{Order}
use Rattle.refusal.specs.Refusals.{number_of}
use Rattle.refusal.specs.declared.Why.{Why}
use Rattle.refusal.specs.declared.Refusal.{Refusal}
use Rattle.predict.specs.Predictor.{PredictorMeaning}
use Rattle.pack.specs.Packing.{ReadingMeaning}
use Rattle.range.specs.Scale.{Scale, scale_of}
use Rattle.panel.specs.Layout.{Rest, rest_at, header_piece, range_piece, length_piece, end_piece}
use Rattle.panel.specs.Judging.{Fault, piece_faults, header_faults, range_faults, cut_short, body_faults, stray_codes, trailing_faults}

-- the piece that is due: N; Q, V or a body with so many axes after it, in a panel of n vertices; E;
-- nothing more; or the whole file is read
pub data Due : Type 0 where
  header : Due
  range : (n more : ℕ) → Due
  length : (n more : ℕ) → Scale → Due
  body : (n more : ℕ) → Scale → (bytes : ℕ) → Due
  end : Due
  nothing : Due
  read : Due

-- what is due where so many axes are left
abbrev pub axes_due : ℕ → ℕ → Due
axes_due n zero = end
axes_due n (suc more) = range n more

-- some fault of these is found, for this reason and told at this place
abbrev pub Has : List Fault → Why → ℕ → Type 0
Has [] w at = ⊥
Has (f ∷ fs) w at = ((f.found ≡ true) × (f.why ≡ w) × (f.place ≡ at)) ⊎ Has fs w at

-- none of these faults is found
abbrev pub Sound : List Fault → Type 0
Sound fs = AllByRecursion (λ f. f.found ≡ false) fs

-- for a byte order, a predictor, a packing, a kind of so many axes and a point list of so much room
module _ (o : Order) (m : PredictorMeaning) (q : ReadingMeaning) (axes room : ℕ) where
  -- the faults of the piece that is due, by what is left of the file from it on
  abbrev pub faults : Due → Rest → List Fault
  faults header r =
      let says = (header_piece o).says r.bytes in
      piece_faults (header_piece o) r ++ header_faults m q axes room says r.at
  faults (range n more) r =
      piece_faults (range_piece o) r ++ range_faults ((range_piece o).says r.bytes) r.at
  faults (length n more s) r = piece_faults (length_piece o) r
  faults (body n more s bytes) r =
      let list : Result (List ℤ) Why = q.reads o n (take bytes r.bytes) in
      cut_short bytes r ++ (body_faults list r.at ++ stray_codes m s list r.at)
  faults end r = piece_faults end_piece r
  faults nothing r = trailing_faults r
  faults read r = []

  -- how many bytes it takes
  abbrev pub size_of : Due → ℕ
  size_of header = (header_piece o).size
  size_of (range n more) = (range_piece o).size
  size_of (length n more s) = (length_piece o).size
  size_of (body n more s bytes) = bytes
  size_of end = end_piece.size
  size_of nothing = 0
  size_of read = 0

  -- what is due after a sound piece
  abbrev pub after : Due → List ℕ → Due
  after header bs = axes_due ((header_piece o).says bs).count axes
  after (range n more) bs = length n more (scale_of ((range_piece o).says bs))
  after (length n more s) bs = body n more s ((length_piece o).says bs)
  after (body n more s bytes) bs = axes_due n more
  after end bs = nothing
  after nothing bs = read
  after read bs = read

  -- The reader of a file stands before a piece at a place: it begins before N at 0, and goes on
  -- past each sound piece.
  pub data Stands (file : List ℕ) : Due → ℕ → Type 0 where
    begins : Stands file header 0
    passes : {d : Due} {at : ℕ} → Stands file d at → Sound (faults d (rest_at file at))
        → Stands file (after d (drop at file)) (at + size_of d)

  -- The reader comes to a piece that has the fault told, and none of a smaller number.
  pub record FirstFault (file : List ℕ) (e : Refusal) : Type 0 where
    pub due : Due
    pub at : ℕ
    pub stands : Stands file due at
    pub has : Has (faults due (rest_at file at)) e.why e.place
    pub least : (w : Why) (p : ℕ)
        → Has (faults due (rest_at file at)) w p → number_of e.why ≤ number_of w

  -- The reader comes to the end of the file, with nothing left.
  abbrev pub ReadThrough : List ℕ → Type 0
  ReadThrough file = (at : ℕ) × Stands file read at

  -- What judging answers: a file is refused exactly with its first fault, and accepted exactly
  -- where it is read through.
  abbrev pub JudgedByTheFirstFault : {X : Type 0} → List ℕ → Result X Refusal → Type 0
  JudgedByTheFirstFault {X} file r =
      ((e : Refusal) → ((r ≡ Err e) ↔ FirstFault file e))
      × (((x : X) × (r ≡ Ok x)) ↔ ReadThrough file)
