-- What a cut and a store for C answer, and leave in the lists that they are lent.
use Rattle.std.specs.Prelude.{ℕ, ◌-◌, ◌^◌, List, [], ◌∷◌, Some, None, Option, Ok, Err, Result, ◌==◌, if◌then◌else◌}
use Rattle.refusal.specs.declared.Why.{Why}
use Rattle.refusal.specs.Refusals.{refuse}
use Rattle.kinds.specs.Kind.{KindMeaning}
use Rattle.range.specs.Scale.{Scale, range_in}
use Rattle.range.specs.declared.words.Words.{Words}
use Rattle.pairing.specs.declared.Pairing.{Pairing}
use Rattle.pairing.specs.Pairings.{predictor_of, packing_of, pairing_named, both}
use Rattle.panel.specs.Stored.{store_of, Outcome}
use Rattle.law.specs.Calls.{splitting, Answer, Lists, load_of}
use Rattle.bench.specs.Panels.{Seen, seen, one_panel}

-- the tolerance that a number stands for: 2^32 - 1 stands for none
abbrev pub tolerance_given : ℕ → Option ℕ
tolerance_given t = if t == 2 ^ 32 - 1 then None else Some t

-- the ranges of the axes, or the first refusal along them
abbrev pub ranges_in : List Words → Result (List Scale) Why
ranges_in [] = Ok []
ranges_in (w ∷ ws) = both (λ g gs. g ∷ gs) (range_in w) (ranges_in ws)

module _ {P : Type 0} (k : KindMeaning P) where
  -- a panel file cut under a pairing; where there is none, the lists stay
  abbrev pub cut_under : Result Pairing Why → ℕ → List ℕ → Lists P → Seen Answer P
  cut_under (Ok pairing) t file lists =
      let load = load_of (predictor_of pairing.predictor) (packing_of pairing.packing).reading file in
      one_panel k load (splitting (tolerance_given t)) lists
  cut_under (Err why) t file lists = seen (refuse why 0) lists

  -- under the pairing that two numbers name
  abbrev pub cut_by_numbers : ℕ → ℕ → ℕ → List ℕ → Lists P → Seen Answer P
  cut_by_numbers predictor packing = cut_under (pairing_named predictor packing)

  -- design points stored under a pairing, with ranges; where there are none, the file list stays
  abbrev pub store_under : Result (Pairing × List Scale) Why → List P → ℕ → List ℕ → Outcome
  store_under (Ok at) design room file =
      store_of k (predictor_of at.0.predictor) (packing_of at.0.packing) design at.1 room file
  store_under (Err why) design room file = (refuse why 0, file)

  -- under the pairing that two numbers name, and with the ranges of words; a number is refused before a range
  abbrev pub store_by_numbers : ℕ → ℕ → List Words → List P → ℕ → List ℕ → Outcome
  store_by_numbers predictor packing ws =
      store_under (both (λ pairing gs. (pairing, gs)) (pairing_named predictor packing) (ranges_in ws))
