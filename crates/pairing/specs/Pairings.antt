-- Predictors and packings by their names and numbers.
use Rattle.std.specs.Prelude.{ℕ, [], ◌∷◌, Ok, Err, Result, ok_or, find, ◌==◌}
use Rattle.refusal.specs.declared.Why.{Why}
use Rattle.refusal.specs.declared.Why.TheVariants.{PredictorByte, PackingByte}
use Rattle.predict.specs.Predictor.{PredictorMeaning, lag1, lag2, stride1, stride2, strip, ramp, xor1, xor2, null}
use Rattle.pack.specs.Packing.{PackingMeaning, plain, fielded}
use Rattle.pairing.specs.declared.names.PredictorName.{PredictorName}
use Rattle.pairing.specs.declared.names.PredictorName.TheVariants.{Lag1, Lag2, Stride1, Stride2, StripIndex, Ramp, Xor1, Xor2, Null}
use Rattle.pairing.specs.declared.names.PackingName.{PackingName}
use Rattle.pairing.specs.declared.names.PackingName.TheVariants.{Plain, Fielded}
use Rattle.pairing.specs.declared.Pairing.{Pairing}

-- the predictor of a name
abbrev pub predictor_of : PredictorName → PredictorMeaning
predictor_of Lag1 = lag1
predictor_of Lag2 = lag2
predictor_of Stride1 = stride1
predictor_of Stride2 = stride2
predictor_of StripIndex = strip
predictor_of Ramp = ramp
predictor_of Xor1 = xor1
predictor_of Xor2 = xor2
predictor_of Null = null

-- the packing of a name
abbrev pub packing_of : PackingName → PackingMeaning
packing_of Plain = plain
packing_of Fielded = fielded

-- the name of the predictor that has a number; where none has it, the number is refused
abbrev pub predictor_named : ℕ → Result PredictorName Why
predictor_named n =
    let names = Lag1 ∷ Lag2 ∷ Stride1 ∷ Stride2 ∷ StripIndex ∷ Ramp ∷ Xor1 ∷ Xor2 ∷ Null ∷ [] in
    ok_or (find (λ name. (predictor_of name).number == n) names) PredictorByte

-- the same of a packing
abbrev pub packing_named : ℕ → Result PackingName Why
packing_named n = ok_or (find (λ name. (packing_of name).reading.number == n) (Plain ∷ Fielded ∷ [])) PackingByte

-- what two results make together; the first refusal is told
abbrev pub both : {A B C : Type 0} → (A → B → C) → Result A Why → Result B Why → Result C Why
both f (Ok a) (Ok b) = Ok (f a b)
both f (Ok a) (Err why) = Err why
both f (Err why) b = Err why

-- the pairing that two numbers name
abbrev pub pairing_named : ℕ → ℕ → Result Pairing Why
pairing_named predictor packing =
    both (λ p q. record { predictor = p; packing = q }) (predictor_named predictor) (packing_named packing)
