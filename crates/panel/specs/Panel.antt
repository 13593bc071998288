-- A panel: for each axis a scale and the code of each vertex; that of design points, and its vertices as placed.
use Rattle.std.specs.Prelude.{ℕ, zero, suc, Bool, List, [], ◌∷◌, length, map, take, ℤ, pos, slice_index_or}
use Rattle.std.specs.List.{enumerate_from, list_all, range_with_len}
use Rattle.kinds.specs.Kind.{KindMeaning}
use Rattle.range.specs.Scale.{Scale, inside, code_in, place_in}

-- an axis of a panel: its scale, and the code of each vertex
pub record Axis : Type 0 where
  pub scale : Scale
  pub codes : List ℤ

-- a panel: how many vertices, and its axes
pub record Panel : Type 0 where
  pub count : ℕ
  pub axes : List Axis

-- the place of vertex i on axis j, 0 beyond the axes
unfoldable pub place_at : List Axis → ℕ → ℕ → ℤ
place_at [] j i = pos 0
place_at (x ∷ xs) zero i = place_in x.scale (slice_index_or x.codes i (pos 0))
place_at (x ∷ xs) (suc j) i = place_at xs j i

module _ {P : Type 0} (k : KindMeaning P) where
  -- every design point lies in the range of axis a
  unfoldable pub inside_on : ℕ → Scale → List P → Bool
  inside_on a s ps = list_all (λ p. inside s (k.coordinate p a)) ps

  -- the codes of the design points on axis a
  unfoldable pub codes_on : ℕ → Scale → List P → List ℤ
  codes_on a s ps = map (λ p. code_in s (k.coordinate p a)) ps

  -- the axes of the design points from a on, a range for each
  unfoldable pub axes_from : List P → ℕ → List Scale → List Axis
  axes_from ps a gs =
      map (λ g. record { scale = g.1; codes = codes_on g.0 g.1 ps }) (enumerate_from a gs)

  -- every design point lies in the ranges of the axes from a on
  unfoldable pub inside_from : List P → ℕ → List Scale → Bool
  inside_from ps a gs = list_all (λ g. inside_on g.0 g.1 ps) (enumerate_from a gs)

  -- the panel of design points, with a range for each axis
  abbrev pub panel_on : List Scale → List P → Panel
  panel_on gs ps = record { count = length ps; axes = axes_from ps 0 gs }

  -- by the first of the ranges
  abbrev pub panel_of : List Scale → List P → Panel
  panel_of gs ps = panel_on (take k.axes gs) ps

  -- every design coordinate lies in its axis's range
  abbrev pub all_inside : List Scale → List P → Bool
  all_inside gs ps = inside_from ps 0 (take k.axes gs)

  -- vertex i as placed: the place of its code on each axis
  abbrev pub vertex : Panel → ℕ → P
  vertex x i = k.make (place_at x.axes 0 i) (place_at x.axes 1 i) (place_at x.axes 2 i)

  -- all vertices as placed
  unfoldable pub placed : Panel → List P
  placed x = map (vertex x) (range_with_len 0 x.count)
