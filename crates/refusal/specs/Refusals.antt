-- A refusal and its number, answers that may be one, and what a program writes for it.
use Rattle.std.specs.Prelude.{List, Ok, Err, Result, ◌++◌, ℕ, ◌-◌, ◌%◌, ◌^◌, length, replicate, codes}
use Rattle.std.specs.Fmt.{decimal}
use Rattle.refusal.specs.declared.Why.{Why}
use Rattle.refusal.specs.declared.Why.TheVariants.{AlreadyClosed, TooEarly, Tolerance, Truncated, Letter, AxisCount, PredictorByte, PackingByte, VertexCount, ShortList, Unfit, Bits, End, Order, BodyLength, SpareBits, Code, Trailing, OutOfRange, NoSpace}
use Rattle.refusal.specs.declared.Refusal.{Refusal}

-- the number of each reason, as operators and other programs know it
abbrev pub number_of : Why → ℕ
number_of AlreadyClosed = 1
number_of TooEarly = 2
number_of Tolerance = 3
number_of Truncated = 4
number_of Letter = 5
number_of AxisCount = 6
number_of PredictorByte = 7
number_of PackingByte = 8
number_of VertexCount = 9
number_of ShortList = 10
number_of Unfit = 11
number_of Bits = 12
number_of End = 13
number_of Order = 14
number_of BodyLength = 15
number_of SpareBits = 16
number_of Code = 17
number_of Trailing = 18
number_of OutOfRange = 19
number_of NoSpace = 20

-- a refusal for a reason, at a place
abbrev pub refusal_at : Why → ℕ → Refusal
refusal_at why place = record { why = why; place = place }

-- refused for a reason, at a place
abbrev pub refuse : {X : Type 0} → Why → ℕ → Result X Refusal
refuse why place = Err (refusal_at why place)

-- one step after another: the first refusal ends them
abbrev pub and_then : {X Y E : Type 0} → Result X E → (X → Result Y E) → Result Y E
and_then (Ok x) f = f x
and_then (Err e) f = Err e

-- n in decimal, behind as many zeros as make k digits of it
abbrev pub padded_decimal : ℕ → ℕ → List ℕ
padded_decimal k n = replicate (k - length (decimal n)) 48 ++ decimal n

-- the text of a refusal: at least two digits of its number, and five of its place
abbrev pub text_of : Refusal → List ℕ
text_of e = codes "refused "
    ++ (padded_decimal 2 (number_of e.why) ++ (codes " at " ++ padded_decimal 5 e.place))

-- the line of a refusal: the text and a newline, with only the last five digits of the place
abbrev pub line_of : Refusal → List ℕ
line_of e = text_of (refusal_at e.why (e.place % 10 ^ 5)) ++ codes "\n"
