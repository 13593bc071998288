-- What a packing is: a way to write a list of 32-bit numbers as bytes, and to read it again. There are two.
use Rattle.std.specs.Prelude.{◌≡◌, ℕ, ◌+◌, ◌*◌, ◌<◌, ◌≤◌, ◌⊎◌, List, length, ℤ, Ok, Result, IfOk, IfErr}
use Rattle.std.specs.List.{AllByRecursion}
use Rattle.std.proofs.Common.{lit<}
use Rattle.kinds.specs.Vertex.{IsVertexCount}
use Rattle.refusal.specs.declared.Why.{Why}
use Rattle.refusal.specs.declared.Why.TheVariants.{BodyLength, SpareBits}
use Rattle.words.specs.Numbers.{Word}
use Rattle.words.specs.Order.{Order, spelled}
use Rattle.words.proofs.Spelling.{length_spelled}
use Rattle.bodies.specs.Bodies.{plain_reads, fielded_reads, fielded_writes, fielded_size}
use Rattle.bodies.proofs.Bodies.{plain_counts, plain_words, plain_refusals, plain_short, plain_back, fielded_counts, fielded_words, fielded_refusals, fielded_sized, fielded_short, fielded_back}

-- A packing as a reader knows it: its number, and what a body means under a byte order where n entries are
-- due. A body that is accepted means n 32-bit numbers, and one that is refused is so for its length or for
-- its spare bits.
pub record ReadingMeaning : Type 0 where
  pub number : ℕ
  pub reads : Order → ℕ → List ℕ → Result (List ℤ) Why
  pub byte : number < 256
  pub counts : (o : Order) (n : ℕ) (body : List ℕ) → IfOk (reads o n body) (λ xs. length xs ≡ n)
  pub words : (o : Order) (n : ℕ) (body : List ℕ) → IfOk (reads o n body) (AllByRecursion Word)
  pub refusals : (o : Order) (n : ℕ) (body : List ℕ) →
      IfErr (reads o n body) (λ why. (why ≡ BodyLength) ⊎ (why ≡ SpareBits))

-- And as a writer knows it: the body of a list, and how many bytes it takes, which is at most 8 and 4 for
-- each entry. A list of as many entries as a panel has vertices is accepted and means that list.
pub record PackingMeaning : Type 0 where
  pub reading : ReadingMeaning
  pub writes : Order → List ℤ → List ℕ
  pub size : List ℤ → ℕ
  pub sized : (o : Order) (xs : List ℤ) → length (writes o xs) ≡ size xs
  pub short : (xs : List ℤ) → AllByRecursion Word xs → size xs ≤ 8 + 4 * length xs
  pub back : (o : Order) (xs : List ℤ) → IsVertexCount (length xs) → AllByRecursion Word xs →
      reading.reads o (length xs) (writes o xs) ≡ Ok xs

-- packing 0
abbrev pub plain : PackingMeaning
plain = record {
  reading = record {
    number = 0;
    reads = plain_reads;
    byte = lit< tt;
    counts = plain_counts;
    words = plain_words;
    refusals = plain_refusals;
  };
  writes = spelled;
  size = λ xs. 4 * length xs;
  sized = length_spelled;
  short = plain_short;
  back = λ o xs _ words. plain_back o xs words;
}

-- packing 1
abbrev pub fielded : PackingMeaning
fielded = record {
  reading = record {
    number = 1;
    reads = fielded_reads;
    byte = lit< tt;
    counts = fielded_counts;
    words = fielded_words;
    refusals = fielded_refusals;
  };
  writes = fielded_writes;
  size = fielded_size;
  sized = fielded_sized;
  short = fielded_short;
  back = λ o xs _ words. fielded_back o xs words;
}
