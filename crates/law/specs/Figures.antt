-- Figures reckoned by hand: a whole run on one bench, and those of the other crates.
use Rattle.std.specs.Prelude.{◌≡◌, ℕ, ◌/◌, ◌%◌, List, [], ◌∷◌, ◌++◌, length, take, replicate, pos, Some, None}
use Rattle.kinds.specs.Kind.{flat}
use Rattle.kinds.specs.declared.Flat.{Flat}
use Rattle.range.specs.Scale.{Scale}
use Rattle.range.specs.Laws as range
use Rattle.predict.specs.Predictor.{lag1}
use Rattle.predict.specs.Laws as predict
use Rattle.pack.specs.Packing.{plain, fielded}
use Rattle.pack.specs.Laws as pack
use Rattle.seam.specs.Laws as seam
use Rattle.law.specs.Calls.{Load, load_of, splitting, Call, load, split, cut, close, State, lists_of, new, run, accepted}
use Rattle.law.specs.Law.{Stored}

-- a number below 65,536 in four bytes, the lowest first
abbrev word : ℕ → List ℕ
word n = n % 256 ∷ n / 256 ∷ 0 ∷ 0 ∷ []

-- an axis in a file: Q with 4 bits, from 0 to 16 mm; V and the body
abbrev axis : List ℕ → List ℕ
axis body = 0x51 ∷ 4 ∷ word 0 ++ (0 ∷ 0 ∷ 0x80 ∷ 0x41 ∷ 0x56 ∷ word (length body) ++ body)

-- two vertices, with the codes 0, 15 and 0, 7; four bytes an entry
abbrev straight : Load
straight = load_of lag1 plain.reading
    (0x4E ∷ 2 ∷ 0 ∷ 0 ∷ word 2
    ++ (axis (word 0 ++ word 15) ++ (axis (word 0 ++ word 7) ++ 0x45 ∷ [])))

-- five vertices, with the codes 0, 7, 15, 15, 0 and 0, 0, 0, 15, 15; in fields of 5 and 4 bits
abbrev hook : Load
hook = load_of lag1 fielded.reading
    (0x4E ∷ 2 ∷ 0 ∷ 1 ∷ word 5
    ++ (axis (0xF1 ∷ 0xFF ∷ 0xFF ∷ 0xFF ∷ 5 ∷ 0x7D ∷ 0xBD ∷ 0xE0 ∷ 0 ∷ [])
    ++ (axis (word 0 ++ 4 ∷ 0 ∷ 0x0F ∷ 0 ∷ []) ++ 0x45 ∷ [])))

-- a cut with no panel, a tolerance of 257 and a cut after the close are refused
abbrev calls : List Call
calls =
    cut ∷ load straight ∷ split (splitting None) ∷ cut
    ∷ split (splitting (Some 257)) ∷ load hook ∷ split (splitting None) ∷ cut ∷ close
    ∷ cut ∷ []

-- a flat point
abbrev point : ℕ → ℕ → Flat
point x y = record { x = pos x; y = pos y }

-- lists with a little more room than is needed
abbrev bench : State Flat
bench = new (lists_of (replicate 6 (point 0 0)) (replicate 6 9) (replicate 60 7))

-- the letter T or K, and the steps of a point
abbrev move : ℕ → ℕ → ℕ → List ℕ
move letter x y = letter ∷ word x ++ word y

-- T, D, one K, U; then T, D, three K, U, since (119, 0) lies on its chord; and E
abbrev program : List ℕ
program =
    move 0x54 0 0 ++ (0x44 ∷ move 0x4B 256 119 ++ (0x55
    ∷ move 0x54 0 0 ++ (0x44 ∷ move 0x4B 256 0 ++ (move 0x4B 256 256 ++ (move 0x4B 0 256 ++ (0x55
    ∷ 0x45 ∷ []))))))

-- what the calls lead to, and that store writes two files as they were loaded
pub record Run : Type 0 where
  pub written : let s = run flat bench calls in take s.desk.length s.lists.program ≡ program
  pub marks : (run flat bench calls).lists.marks ≡ 1 ∷ 0 ∷ 1 ∷ 1 ∷ 1 ∷ 9 ∷ []
  pub went : accepted flat bench calls ≡
      load straight ∷ split (splitting None) ∷ cut ∷ load hook ∷ split (splitting None) ∷ cut ∷ close ∷ []
  pub ranges : List Scale
  pub first : Stored flat straight ranges (point 0 0 ∷ point 4096 2000 ∷ [])
  pub second : Stored flat hook ranges
      (point 0 0 ∷ point 2000 0 ∷ point 4096 0 ∷ point 4096 4096 ∷ point 0 4096 ∷ [])

-- all figures together
abbrev pub WorkedFigures : Type 0
WorkedFigures = range.Figures × predict.Figures × pack.Figures × seam.Figures × Run
