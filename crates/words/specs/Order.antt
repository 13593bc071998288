-- The order in which the four bytes of a number stand.
use Rattle.std.specs.Prelude.{◌≡◌, refl, ℕ, ◌^◌, ◌<◌, List, length, map, take, drop, slice_index, ℤ}
use Rattle.std.specs.Int.{w32, to_le_bytes, from_le_bytes}
use Rattle.std.specs.List.{flat_map}
use Rattle.std.specs.Simd.{first_chunks}
use Rattle.std.proofs.Common.{to_z, of_z, arith}
use Rattle.std.proofs.lemmas.Nat.{from_le_bytes-to_le_bytes_4, le_bytes_4}

-- A byte order writes a number below 2 ^ 32 as four bytes, and reads it again. Any four bytes are read
-- as such a number, and it is written as these.
pub record Order : Type 0 where
  pub writes : ℕ → List ℕ
  pub reads : List ℕ → ℕ
  pub four : (n : ℕ) → length (writes n) ≡ 4
  pub back : (n : ℕ) → n < 2 ^ 32 → reads (writes n) ≡ n
  pub only : (bytes : List ℕ) → length bytes ≡ 4 → ((i : ℕ) → slice_index bytes i < 256) →
      (reads bytes < 2 ^ 32) × (writes (reads bytes) ≡ bytes)

-- the low byte first
abbrev pub low_first : Order
low_first = record {
  writes = to_le_bytes w32;
  reads = from_le_bytes w32;
  four = λ n. refl;
  back = from_le_bytes-to_le_bytes_4;
  only = λ bytes long fits. (omega (arith, fits 0, fits 1, fits 2, fits 3), le_bytes_4 bytes _ long fits refl);
}

-- the number that the four bytes from a place on write
abbrev pub word_at : Order → List ℕ → ℕ → ℕ
word_at o bytes i = o.reads (take 4 (drop i bytes))

-- the signed number that four bytes write
abbrev pub number_of : Order → List ℕ → ℤ
number_of o bytes = to_z w32 (o.reads bytes)

-- the four bytes of a signed number
abbrev pub bytes_of : Order → ℤ → List ℕ
bytes_of o z = o.writes (of_z w32 z)

-- n signed numbers, four bytes each
abbrev pub numbers_of : Order → ℕ → List ℕ → List ℤ
numbers_of o n bytes = map (number_of o) (first_chunks 4 n bytes)

-- the bytes of signed numbers, four each
abbrev pub spelled : Order → List ℤ → List ℕ
spelled o zs = flat_map (bytes_of o) zs
