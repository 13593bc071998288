-- The split of a line of points: which vertices it keeps, and when it is refused.
use Rattle.std.specs.Prelude.{ℕ, zero, suc, ◌+◌, ◌-◌, max, Bool, cond, if◌then◌else◌, ◌||◌, ◌==◌, List, ◌++◌, length, take, drop, replicate, Some, None, Ok, Err, Option, Result, nat_le, nat_lt, slice_index, slice_set}
use Rattle.kinds.specs.Kind.{KindMeaning}
use Rattle.kinds.specs.Vertex.{Vertex, told, all_close_by, is_vertex_count}
use Rattle.refusal.specs.declared.Why.{Why}
use Rattle.refusal.specs.declared.Why.TheVariants.{Tolerance, VertexCount, ShortList, Unfit}
use Rattle.seam.specs.declared.chord.Chord.{Chord}
use Rattle.seam.specs.declared.line.Weighed.{Weighed}
use Rattle.seam.specs.Weight.{weight, limit}

-- the chord from vertex a to vertex b
abbrev pub chord : ℕ → ℕ → Chord
chord a b = record { from = a; to = b }

-- how many vertices lie inside a chord
abbrev pub inner : Chord → ℕ
inner x = x.to - x.from - 1

-- only a greater weight takes the place of the heaviest so far, so the first of equals stays
abbrev pub heavier : Option Weighed → Weighed → Weighed
heavier None next = next
heavier (Some best) next = if nat_lt best.weight next.weight then next else best

-- the heaviest of the n vertices after a; none where n is 0
abbrev pub heaviest : (ℕ → ℕ) → ℕ → ℕ → Option Weighed
heaviest weight a zero = None
heaviest weight a (suc n) =
    let i = a + suc n in
    Some (heavier (heaviest weight a n) (record { vertex = i; weight = weight i }))

-- the vertex, if it weighs more than the limit
abbrev pub over_limit : ℕ → Option Weighed → Option ℕ
over_limit limit None = None
over_limit limit (Some best) = if nat_lt limit best.weight then Some best.vertex else None

-- where a chord is split, at the tolerance t: at its heaviest inner vertex, if that is not near
unfoldable pub pick : List Vertex → ℕ → Chord → Option ℕ
pick vs t x =
    over_limit (limit vs t x.from x.to) (heaviest (weight vs x.from x.to) x.from (inner x))

-- the two parts of a chord that is split at c: the one with fewer inner vertices goes first, the
-- earlier of equals; the other waits
abbrev pub parts_of : Chord → ℕ → Chord × Chord
parts_of x c =
    if nat_le (c - x.from) (x.to - c) then (chord x.from c, chord c x.to)
    else (chord c x.to, chord x.from c)

-- how a chord is split: not at all, or at a vertex, into the part that goes first and the other
pub data Tree : Type 0 where
  whole : Chord → Tree
  parted : Chord → ℕ → Tree → Tree → Tree

-- the split of a chord at c, or not at all
abbrev pub part : (Chord → Tree) → Chord → Option ℕ → Tree
part split x None = whole x
part split x (Some c) = parted x c (split (parts_of x c).0) (split (parts_of x c).1)

-- the same, for each part likewise; `pick` tells where a chord is split, and n bounds the depth
unfoldable pub grow : (Chord → Option ℕ) → ℕ → Chord → Tree
grow pick zero x = whole x
grow pick (suc n) x = part (grow pick n) x (pick x)

-- each part has at least one vertex less, so as many as the chord has are deep enough
unfoldable pub tree : (Chord → Option ℕ) → Chord → Tree
tree pick x = grow pick (x.to - x.from) x

-- the marks after the split
abbrev pub marked : Tree → List ℕ → List ℕ
marked (whole x) ms = ms
marked (parted x c first waiting) ms = marked waiting (marked first (slice_set ms c 1))

-- how many inner vertices are kept
abbrev pub kept : Tree → ℕ
kept (whole x) = 0
kept (parted x c first waiting) = 1 + kept first + kept waiting

-- the waiting count
abbrev pub waits : Tree → ℕ
waits (whole x) = 0
waits (parted x c first waiting) = max (1 + waits first) (waits waiting)

-- how many of the first n marks are 1
abbrev pub ones : ℕ → List ℕ → ℕ
ones zero ms = 0
ones (suc n) ms = cond (slice_index ms n == 1) 1 0 + ones n ms

-- n zeros, and what stood past them
abbrev pub cleared : ℕ → List ℕ → List ℕ
cleared n ms = replicate n 0 ++ drop n ms

-- the marks before the first chord: of the n vertices, first and last are kept
abbrev pub ends : ℕ → List ℕ → List ℕ
ends n ms = slice_set (slice_set (cleared n ms) 0 1) (n - 1) 1

-- the points or the marks are fewer than the n vertices
abbrev pub short_list : {P : Type 0} → ℕ → List P → List ℕ → Bool
short_list n points marks = nat_lt (length points) n || nat_lt (length marks) n

module _ {P : Type 0} (k : KindMeaning P) where
  -- how the line of n points is split
  unfoldable pub tree_of : ℕ → ℕ → List P → Tree
  tree_of t n ps = tree (pick (told k ps) t) (chord 0 (n - 1))

  -- why the first n points cannot be split, the smaller number first
  abbrev pub why_not : ℕ → ℕ → List P → List ℕ → Option Why
  why_not t n points marks =
      if nat_lt 256 t then Some Tolerance
      else (if short_list n points marks then Some ShortList
      else (if all_close_by (told k (take n points)) then None else Some Unfit))

  -- refused, the marks stay; else how many vertices are kept, how many chords waited, and the marks
  abbrev pub split_unless : Option Why → ℕ → ℕ → List P → List ℕ → Result (ℕ × ℕ) Why × List ℕ
  split_unless (Some why) t n points marks = (Err why, marks)
  split_unless None t n points marks =
      let tree : Tree = tree_of t n (take n points) in
      (Ok (2 + kept tree, waits tree), marked tree (ends n marks))

  -- the answer of a split of the first n points, where n may be wrong, and the marks after it
  abbrev pub split_of : ℕ → ℕ → List P → List ℕ → Result (ℕ × ℕ) Why × List ℕ
  split_of t n points marks =
      let wrong = if nat_lt 256 t then Some Tolerance else Some VertexCount in
      let why = if is_vertex_count n then why_not t n points marks else wrong in
      split_unless why t n points marks
