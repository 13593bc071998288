-- No list of calls takes a new bench to a program that misplaces a panel.
use Rattle.std.specs.Prelude.{◌≡◌, ℕ, ◌+◌, ◌-◌, ◌*◌, ◌<◌, ◌≤◌, Bool, List, [], ◌∷◌, map, length, take, replicate, ℤ, pos, ◌-ℤ◌, ◌*ℤ◌, Some, None, Ok, Option, slice_index_or, unsigned_abs}
use Rattle.std.specs.Float.{nan}
use Rattle.std.specs.List.{AllByRecursion}
use Rattle.kinds.specs.Kind.{KindMeaning}
use Rattle.kinds.specs.Vertex.{Vertex, at, told}
use Rattle.kinds.specs.declared.count.TheConstants.{MOST_VERTICES}
use Rattle.words.specs.Numbers.{Word}
use Rattle.pack.specs.Packing.{PackingMeaning}
use Rattle.range.specs.Scale.{Scale, IsRange, quanta, width}
use Rattle.panel.specs.Panel.{Panel, vertex, placed}
use Rattle.panel.specs.Stored.{Outcome as StoreOutcome, store_of}
use Rattle.seam.specs.Weight.{from_to, m_of}
use Rattle.seam.specs.Seam.{ends, tree_of, marked}
use Rattle.law.specs.Program.{Chain, steps, program_bytes}
use Rattle.law.specs.Calls.{meaning_of, Load, Call, Lists, new, kept_of, run, accepted, Cut, cuts, closes}

-- ---- what a program is read as

-- the steps of a T or a K: a signed 32-bit number for each axis
abbrev pub Steps : ℕ → List ℤ → Type 0
Steps axes zs = (length zs ≡ axes) × AllByRecursion Word zs

-- a chain is T, D, one or more K, U
pub record IsChain (axes : ℕ) (c : Chain) : Type 0 where
  pub travel : Steps axes c.from
  pub some : 1 ≤ length c.strokes
  pub each : AllByRecursion (Steps axes) c.strokes

-- chains, then the finish or not, and nothing else
pub record Reads (axes : ℕ) (program : List ℕ) (chains : List Chain) (finished : Bool) : Type 0 where
  pub each : AllByRecursion (IsChain axes) chains
  pub bytes : program ≡ program_bytes chains finished

-- a program is read in one way at most
abbrev pub ReadsOnce : Type 0
ReadsOnce =
    (axes : ℕ) (program : List ℕ) (cs ds : List Chain) (e f : Bool) →
    Reads axes program cs e → Reads axes program ds f → (cs ≡ ds) × (e ≡ f)

-- ---- strokes and design vertices

-- where stroke number n of a chain begins, and where it ends
abbrev pub stroke_from : Chain → ℕ → List ℤ
stroke_from c n = slice_index_or (c.from ∷ c.strokes) n []

abbrev pub stroke_to : Chain → ℕ → List ℤ
stroke_to c n = slice_index_or c.strokes n []

-- the step on axis j
abbrev pub step_on : List ℤ → ℕ → ℤ
step_on zs j = slice_index_or zs j (pos 0)

-- m of a stroke
abbrev pub m_of_stroke : List ℤ → List ℤ → ℕ
m_of_stroke A B = m_of (from_to (step_on A) (step_on B))

-- the scale of axis j; past the last, one that is never asked for
abbrev pub scale_on : List Scale → ℕ → Scale
scale_on gs j = slice_index_or gs j (record { bits = 0; lower = nan; upper = nan })

-- v is off the stroke from A to B, on each axis, by at most half a quantum, half a step and the tolerance
-- together (a step is 16 units, D the width of the axis in units, M its quanta): with one k in 0..m,
-- 2 M |m (v - 16 A) - 16 k d| ≤ m (D + 16 M + 32 M t)
pub record Beside (axes t : ℕ) (gs : List Scale) (v : Vertex) (A B : List ℤ) : Type 0 where
  pub along : ℕ
  pub short : along ≤ m_of_stroke A B
  pub off : (j : ℕ) → j < axes →
      let M : ℕ = quanta (scale_on gs j) in
      let D : ℕ = width (scale_on gs j) in
      let m : ℕ = m_of_stroke A B in
      let d : ℤ = step_on B j -ℤ step_on A j in
      2 * M * unsigned_abs (pos m *ℤ (v j -ℤ pos 16 *ℤ step_on A j) -ℤ pos (16 * along) *ℤ d)
      ≤ m * (D + 16 * M + 32 * M * t)

-- one chain for each cut, in the order of the cuts
abbrev pub Each : (Cut → Chain → Type 0) → List (Option Cut) → List Chain → Type 0
Each R [] [] = Unit {0}
Each R [] (c ∷ cs) = ⊥
Each R (w ∷ ws) [] = ⊥
Each R (None ∷ ws) (c ∷ cs) = ⊥
Each R (Some w ∷ ws) (c ∷ cs) = R w c × Each R ws cs

module _ {P : Type 0} (k : KindMeaning P) where
  -- the marks that a split with tolerance t gives a panel's vertices as placed
  unfoldable pub marks_of : ℕ → Panel → List ℕ
  marks_of t x = marked (tree_of k t x.count (placed k x)) (ends x.count (replicate x.count 0))

  -- the vertices that a split must keep, as placed and in their order
  unfoldable pub must_keep : ℕ → Panel → List P
  must_keep t x = kept_of (marks_of t x) (placed k x)

  -- store, with that load's predictor and packing, writes these design points by these ranges as just that load's file
  pub record Stored (l : Load) (gs : List Scale) (design : List P) : Type 0 where
    pub three : length gs ≡ 3
    pub ranges : AllByRecursion IsRange gs
    pub packing : PackingMeaning
    pub same : packing.reading ≡ l.packing
    pub room : ℕ
    pub before : List ℕ
    pub size : ℕ
    pub after : List ℕ
    pub stores :
        ◌≡◌ {A = StoreOutcome} (store_of k l.predictor packing design gs room before) (Ok size, after)
    pub file : take size after ≡ l.file

  -- each vertex of a design is off a stroke of the chain by little, and these strokes never go back
  pub record Follows (t : ℕ) (gs : List Scale) (design : List P) (c : Chain) : Type 0 where
    -- the number of each vertex's stroke
    pub stroke : ℕ → ℕ
    pub real : (i : ℕ) → i < length design → stroke i < length c.strokes
    -- nothing is farther off than the errors add up to
    pub near : (i : ℕ) → i < length design →
        Beside k.axes t gs (at (told k design) i) (stroke_from c (stroke i)) (stroke_to c (stroke i))
    -- along the vertices the numbers never fall
    pub onward : (i j : ℕ) → i ≤ j → j < length design → stroke i ≤ stroke j

  -- the panel of a cut's load, where the point list has room for any panel
  abbrev pub Meant : Cut → Panel → Type 0
  Meant w x = meaning_of w.panel k.axes MOST_VERTICES ≡ Ok x

  -- the chain of an accepted cut
  pub record WellDrawn (w : Cut) (c : Chain) : Type 0 where
    pub panel : Panel
    pub meant : Meant w panel
    -- it goes through just the vertices that the split must keep, as placed and in their order
    pub through : c.from ∷ c.strokes ≡ map (steps k) (must_keep w.tolerance panel)
    -- from the first vertex as placed to the last
    pub begins : c.from ≡ steps k (vertex k panel 0)
    pub ends : stroke_to c (length c.strokes - 1) ≡ steps k (vertex k panel (panel.count - 1))
    -- it follows any design that store wrote as the panel's file
    pub follows : (gs : List Scale) (design : List P) → Stored w.panel gs design →
        Follows w.tolerance gs design c

  -- A program, after these accepted calls, misplaces no panel: it is one chain for each accepted cut, well
  -- drawn, then the finish if a close was accepted, and nothing else.
  pub record MisplacesNone (calls : List Call) (program : List ℕ) : Type 0 where
    pub chains : List Chain
    pub alone : Reads k.axes program chains (closes calls)
    pub drawn : Each WellDrawn (cuts calls) chains

  -- Whatever the calls are given, refused ones among them, and whatever the lists hold at first. All calls work
  -- on the same lists, and nothing else writes to them.
  abbrev pub NoRunMisplacesAPanel : Type 0
  NoRunMisplacesAPanel =
      (lists : Lists P) (calls : List Call) →
      let s = run k (new lists) calls in
      MisplacesNone (accepted k (new lists) calls) (take s.desk.length s.lists.program)
