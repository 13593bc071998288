use Rattle.std.proofs.Common.{◌≡◌, ◌∷◌, map}
use Rattle.std.specs.List.{range_with_len}
use Rattle.words.specs.Bytes.{overwritten}
use Rattle.words.specs.Order.{low_first, spelled}
use Rattle.bench.proofs.bench.knife.Knife.write_move.Given as goal

-- the steps of the axes so far stand behind the letter
abbrev pub invariant-loop-axis : goal.invariant-loop-axis
invariant-loop-axis g l =
    l.program ≡ overwritten l.fn.program l.fn.self (l.letter ∷ spelled low_first (map (g.K.PointKind.kind.coordinate l.to) (range_with_len 0 l.axis)))
