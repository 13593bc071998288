-- The bench with its lists, and what each call does to them; and lists of calls: what they lead to,
-- which are accepted, and what each cut draws.
use Rattle.std.specs.Prelude.{ℕ, ◌+◌, ◌-◌, Bool, true, false, cond, if◌then◌else◌, ◌&&◌, List, [], ◌∷◌, ◌++◌, length, take, drop, Some, None, Ok, Err, Option, Result, unwrap_or, is_ok, ◌==◌, nat_lt, nat_le, slice_index}
use Rattle.refusal.specs.declared.Why.{Why}
use Rattle.refusal.specs.declared.Why.TheVariants.{AlreadyClosed, TooEarly, ShortList, Unfit, NoSpace}
use Rattle.refusal.specs.declared.Refusal.{Refusal}
use Rattle.refusal.specs.Refusals.{refuse, and_then}
use Rattle.kinds.specs.Kind.{KindMeaning}
use Rattle.predict.specs.Predictor.{PredictorMeaning}
use Rattle.pack.specs.Packing.{ReadingMeaning}
use Rattle.words.specs.Order.{low_first}
use Rattle.words.specs.Bytes.{overwritten}
use Rattle.panel.specs.Panel.{Panel, placed}
use Rattle.panel.specs.Judging.{judged}
use Rattle.seam.specs.Seam.{ones, marked, waits, kept, ends, tree_of, why_not, short_list}
use Rattle.law.specs.declared.Stage.{Stage}
use Rattle.law.specs.declared.Stage.TheVariants.{Empty, Loaded, Split, Closed}
use Rattle.law.specs.declared.Event.{Event}
use Rattle.law.specs.declared.Event.TheVariants as event
use Rattle.law.specs.Program.{chain_bytes, chain_size, through, finish}

-- what a load is given: a predictor, a packing and a file
pub record Load : Type 0 where
  pub predictor : PredictorMeaning
  pub packing : ReadingMeaning
  pub file : List ℕ

abbrev pub load_of : PredictorMeaning → ReadingMeaning → List ℕ → Load
load_of m q file = record { predictor = m; packing = q; file = file }

-- what its file means, for a kind of so many axes and a point list of so much room
abbrev pub meaning_of : Load → ℕ → ℕ → Result Panel Refusal
meaning_of l axes room = judged low_first l.predictor l.packing axes room l.file

-- what a split is given: a tolerance in steps, or none
pub record Splitting : Type 0 where
  pub tolerance : Option ℕ

abbrev pub splitting : Option ℕ → Splitting
splitting t = record { tolerance = t }

-- a call with its own arguments
pub data Call : Type 0 where
  load : Load → Call
  split : Splitting → Call
  cut : Call
  close : Call

-- a bench by itself: its stage, and its program's length
pub record Desk : Type 0 where
  pub stage : Stage
  pub length : ℕ

-- the three lists that a bench works on
pub record Lists (P : Type 0) : Type 0 where
  pub points : List P
  pub marks : List ℕ
  pub program : List ℕ

abbrev pub lists_of : {P : Type 0} → List P → List ℕ → List ℕ → Lists P
lists_of points marks program = record { points = points; marks = marks; program = program }

-- a bench and its lists
pub record State (P : Type 0) : Type 0 where
  pub desk : Desk
  pub lists : Lists P

-- a new bench
abbrev pub fresh : Desk
fresh = record { stage = Empty; length = 0 }

-- with any lists
abbrev pub new : {P : Type 0} → Lists P → State P
new lists = record { desk = fresh; lists = lists }

-- the vertex count of the panel at a stage, if there is one
abbrev pub panel_count : Stage → Option ℕ
panel_count Empty = None
panel_count (Loaded n) = Some n
panel_count (Split n) = Some n
panel_count Closed = None

-- what a stage gives a call of this name: the vertex count of its panel, if there is one (for a split or a cut
-- there is); or why it refuses
abbrev pub admitted : Stage → Event → Result (Option ℕ) Refusal
admitted Closed e = refuse AlreadyClosed 0
admitted Empty event.Split = refuse TooEarly 0
admitted Empty event.Cut = refuse TooEarly 0
admitted (Loaded n) event.Cut = refuse TooEarly 0
admitted stage e = Ok (panel_count stage)

-- ---- each call, on the one list that it writes

-- what such a call leads to: its answer, and the bench and the list after it
pub record Done (X L : Type 0) : Type 0 where
  pub answer : Result X Refusal
  pub bench : Desk
  pub list : L

-- accepted, the call leaves this answer, bench and list; refused, it leaves bench and list as they were
abbrev pub settled : {X L : Type 0} → Desk → L → Result (X × Desk × L) Refusal → Done X L
settled d list (Ok done) = record { answer = Ok done.0; bench = done.1; list = done.2 }
settled d list (Err e) = record { answer = Err e; bench = d; list = list }

-- accepted with x, barring a reason against it: then refused for that
abbrev pub barring : {X : Type 0} → Option Why → X → Result X Refusal
barring None x = Ok x
barring (Some why) x = refuse why 0

-- these bytes behind the program: its new length is answered, and the bench has it, at this stage
abbrev pub longer : Stage → Desk → List ℕ → List ℕ → ℕ × Desk × List ℕ
longer stage d program bytes =
    let end : ℕ = d.length + length bytes in
    (end, record { stage = stage; length = end }, overwritten program d.length bytes)

-- close: the finish, if there is a byte for it
abbrev pub close_on : Desk → List ℕ → Done ℕ (List ℕ)
close_on d program = settled d program (
    and_then (admitted d.stage event.Close) (λ _.
    if nat_lt d.length (length program) then Ok (longer Closed d program finish)
    else refuse NoSpace 0))

-- a split's tolerance: 8 steps if none is given
abbrev pub tolerance : Splitting → ℕ
tolerance x = unwrap_or x.tolerance 8

-- the points whose mark is 1
abbrev pub kept_of : {X : Type 0} → List ℕ → List X → List X
kept_of [] ps = []
kept_of (m ∷ ms) [] = []
kept_of (m ∷ ms) (p ∷ ps) = cond (m == 1) (p ∷ kept_of ms ps) (kept_of ms ps)

module _ {P : Type 0} (k : KindMeaning P) where
  -- load: the panel's vertices as placed, at the front of the point list; and how many
  abbrev pub load_on : Load → Desk → List P → Done ℕ (List P)
  load_on l d points = settled d points (
      and_then (admitted d.stage event.Load) (λ _.
      and_then (meaning_of l k.axes (length points)) (λ x.
      Ok (x.count, record d { stage = Loaded x.count }, placed k x ++ drop x.count points))))

  -- split: the marks that the rule gives; how many vertices are kept, and how many chords waited at most
  abbrev pub split_on : Splitting → Desk → List P → List ℕ → Done (ℕ × ℕ) (List ℕ)
  split_on t d points marks = settled d marks (
      and_then (admitted d.stage event.Split) (λ count.
      let n : ℕ = unwrap_or count 0 in
      let tree = tree_of k (tolerance t) n (take n points) in
      barring (why_not k (tolerance t) n points marks)
      ((2 + kept tree, waits tree), record d { stage = Split n }, marked tree (ends n marks))))

  -- what a cut of n vertices appends: the chain through the points marked 1
  unfoldable pub drawn : ℕ → List P → List ℕ → List ℕ
  drawn n points marks = chain_bytes (through k (kept_of (take n marks) (take n points)))

  -- why n vertices are not cut from a program length on: there must be space for the chain, and for the finish
  abbrev pub why_cut : ℕ → ℕ → List P → List ℕ → List ℕ → Option Why
  why_cut n at points marks program =
      if short_list n points marks then Some ShortList
      else (if slice_index marks 0 == 1 && slice_index marks (n - 1) == 1 then
      (if nat_le (at + (chain_size (ones n marks) k.axes + 1)) (length program) then None
      else Some NoSpace)
      else Some Unfit)

  -- cut: the chain
  abbrev pub cut_on : Desk → List P → List ℕ → List ℕ → Done ℕ (List ℕ)
  cut_on d points marks program = settled d program (
      and_then (admitted d.stage event.Cut) (λ count.
      let n : ℕ = unwrap_or count 0 in
      barring (why_cut n d.length points marks program)
      (longer d.stage d program (drawn n points marks))))

-- ---- a call on the bench and all three lists

-- what an accepted call reports: the vertices loaded; those kept, and the chords that waited at most; or the
-- program's length
pub data Report : Type 0 where
  Vertices : ℕ → Report
  Counts : ℕ × ℕ → Report
  Length : ℕ → Report

-- what any call answers
abbrev pub Answer : Type 0
Answer = Result Report Refusal

-- an answer, reported in this way
abbrev pub report_as : {X : Type 0} → (X → Report) → Result X Refusal → Answer
report_as report (Ok x) = Ok (report x)
report_as report (Err e) = Err e

-- what any call leads to: its answer, and the bench and lists after it
pub record Effect (P : Type 0) : Type 0 where
  pub answer : Answer
  pub after : State P

-- the same from what is done to one list, which then stands among the three
abbrev pub effect : {X L P : Type 0} → (X → Report) → (L → Lists P) → Done X L → Effect P
effect report among done = record {
  answer = report_as report done.answer;
  after = record { desk = done.bench; lists = among done.list };
}

module _ {P : Type 0} (k : KindMeaning P) where
  -- one call
  abbrev pub step : State P → Call → Effect P
  step s (load l) =
      effect Vertices (λ ps. record s.lists { points = ps }) (load_on k l s.desk s.lists.points)
  step s (split t) =
      effect Counts (λ ms. record s.lists { marks = ms })
      (split_on k t s.desk s.lists.points s.lists.marks)
  step s cut =
      effect Length (λ bs. record s.lists { program = bs })
      (cut_on k s.desk s.lists.points s.lists.marks s.lists.program)
  step s close =
      effect Length (λ bs. record s.lists { program = bs }) (close_on s.desk s.lists.program)

  -- ---- lists of calls on one bench

  -- each call starts from what those before it left
  abbrev pub run : State P → List Call → State P
  run s [] = s
  run s (c ∷ cs) = run (step s c).after cs

  -- the calls that were accepted, in their order
  abbrev pub accepted : State P → List Call → List Call
  accepted s [] = []
  accepted s (c ∷ cs) =
      let later : List Call = accepted (step s c).after cs in
      if is_ok (step s c).answer then c ∷ later else later

-- a cut, with the latest load and the tolerance of the latest split before it
pub record Cut : Type 0 where
  pub panel : Load
  pub tolerance : ℕ

-- a cut after such a latest load and split
abbrev pub cut_of : Option Load → Option ℕ → Option Cut
cut_of (Some l) (Some t) = Some (record { panel = l; tolerance = t })
cut_of l t = None

-- the cuts of a list of accepted calls, after such a latest load and split
abbrev pub cuts_after : Option Load → Option ℕ → List Call → List (Option Cut)
cuts_after l t [] = []
cuts_after l t (load new ∷ cs) = cuts_after (Some new) t cs
cuts_after l t (split new ∷ cs) = cuts_after l (Some (tolerance new)) cs
cuts_after l t (cut ∷ cs) = cut_of l t ∷ cuts_after l t cs
cuts_after l t (close ∷ cs) = cuts_after l t cs

-- the cuts of a list of accepted calls on a new bench
abbrev pub cuts : List Call → List (Option Cut)
cuts cs = cuts_after None None cs

-- whether a close is among them
abbrev pub closes : List Call → Bool
closes [] = false
closes (close ∷ cs) = true
closes (c ∷ cs) = closes cs
