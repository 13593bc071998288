-- What words say are ranges, where there are ranges.
use Rattle.std.proofs.Common.{List, [], ◌∷◌, Result, Ok, Err, IfOk}
use Rattle.std.specs.List.{AllByRecursion}
use Rattle.refusal.specs.declared.Why.{Why}
use Rattle.range.specs.declared.words.Words.{Words}
use Rattle.range.specs.Scale.{Scale, IsRange, range_in}
use Rattle.range.proofs.Ranges.{words_sound}
use Rattle.pairing.specs.Pairings.{both}
use Rattle.controller.specs.Calls.{ranges_in}

joined : (r : Result Scale Why) (rs : Result (List Scale) Why) → IfOk r IsRange → IfOk rs (AllByRecursion IsRange)
    → IfOk (both (λ g gs. g ∷ gs) r rs) (AllByRecursion IsRange)
joined (Ok g) (Ok gs) first rest = (first, rest)
joined (Ok g) (Err why) first rest = tt
joined (Err why) rs first rest = tt

pub ranges_sound : (ws : List Words) → IfOk (ranges_in ws) (AllByRecursion IsRange)
ranges_sound [] = tt
ranges_sound (w ∷ ws) = joined (range_in w) (ranges_in ws) (words_sound w) (ranges_sound ws)
