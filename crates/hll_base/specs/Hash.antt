-- SPDX-License-Identifier: Apache-2.0
-- The hash of a whole list of bytes: MurmurHash3 x64 128 (docs/FORMAT.md, "The hash").
use Rattle.std.specs.Prelude.{◌≡◌, ℕ, ◌+◌, ◌*◌, ◌/◌, ◌%◌, ◌^◌, List, [], ◌++◌, length, take, drop, fold, bit_xor, nat_lt, if◌then◌else◌}
use Rattle.std.specs.Simd.{first_chunks}
use Rattle.std.specs.Int.{w64, rotate_left, from_le_bytes}

-- the two 64-bit halves of the hash state, and of the hash
pub record Halves : Type 0 where
  pub first : ℕ
  pub second : ℕ

-- a sum modulo 2^64
abbrev pub plus : ℕ → ℕ → ℕ
plus x y = (x + y) % 2 ^ 64

-- a product modulo 2^64
abbrev pub times : ℕ → ℕ → ℕ
times x y = x * y % 2 ^ 64

-- a 64-bit number rotated left
abbrev pub rotation : ℕ → ℕ → ℕ
rotation x count = rotate_left w64 x count

-- ---- blocks

-- the reference's c1
abbrev pub first_factor : ℕ
first_factor = 0x87c37b91114253d5

-- the reference's c2
abbrev pub second_factor : ℕ
second_factor = 0x4cf5ad432745937f

-- the first half of a block, scrambled for the first half of the state
abbrev pub first_scramble : ℕ → ℕ
first_scramble word = times (rotation (times word first_factor) 31) second_factor

-- the second half of a block, scrambled for the second half of the state
abbrev pub second_scramble : ℕ → ℕ
second_scramble word = times (rotation (times word second_factor) 33) first_factor

-- the first half of a block, little-endian; a missing byte counts as 0
abbrev pub first_word : List ℕ → ℕ
first_word block = from_le_bytes w64 (take 8 block)

-- the second half of a block
abbrev pub second_word : List ℕ → ℕ
second_word block = from_le_bytes w64 (take 8 (drop 8 block))

-- the first half of the state after the first half of a block, with the old second half of the state
abbrev pub first_after : ℕ → ℕ → ℕ → ℕ
first_after first second word = plus (times (plus (rotation (bit_xor first (first_scramble word)) 27) second) 5) 0x52dce729

-- the second half of the state after the second half of a block, with the new first half of the state
abbrev pub second_after : ℕ → ℕ → ℕ → ℕ
second_after first second word = plus (times (plus (rotation (bit_xor second (second_scramble word)) 31) first) 5) 0x38495ab5

-- both halves after a block, given the new first half
abbrev pub with_second : ℕ → ℕ → List ℕ → Halves
with_second first second block = record { first = first; second = second_after first second (second_word block) }

-- both halves after a block of sixteen bytes
abbrev pub after_block : Halves → List ℕ → Halves
after_block halves block = with_second (first_after halves.first halves.second (first_word block)) halves.second block

-- the first n blocks of sixteen bytes
abbrev pub blocks : ℕ → List ℕ → List (List ℕ)
blocks n bytes = first_chunks 16 n bytes

-- ---- the tail and the final mix

-- both halves after a tail of 0 to 15 bytes
abbrev pub after_rest : Halves → List ℕ → Halves
after_rest halves rest = record {
  first = if nat_lt 0 (length rest) then bit_xor halves.first (first_scramble (first_word rest)) else halves.first;
  second = if nat_lt 8 (length rest) then bit_xor halves.second (second_scramble (second_word rest)) else halves.second;
}

-- the exclusive or of a number and the number shifted right by 33 bits
abbrev pub shifted_xor : ℕ → ℕ
shifted_xor x = bit_xor x (x / 2 ^ 33)

-- the final mix of a half
abbrev pub mix_of : ℕ → ℕ
mix_of x = shifted_xor (times (shifted_xor (times (shifted_xor x) 0xff51afd7ed558ccd)) 0xc4ceb9fe1a85ec53)

-- the second half is added to the first, and then the new first half to the second
abbrev pub cross_sum : ℕ → ℕ → Halves
cross_sum first second = record { first = plus first second; second = plus second (plus first second) }

-- both halves mixed, and summed again
abbrev pub mix_of_halves : Halves → Halves
mix_of_halves halves = cross_sum (mix_of halves.first) (mix_of halves.second)

-- the hash, given the number of bytes modulo 2^64
abbrev pub final_halves : ℕ → Halves → Halves
final_halves count halves = mix_of_halves (cross_sum (bit_xor halves.first count) (bit_xor halves.second count))

-- the hash of bytes with a seed: the full blocks, the tail, the final mix
abbrev pub hash : ℕ → List ℕ → Halves
hash seed bytes =
    let full = length bytes / 16 in
    let halves = fold after_block (record { first = seed; second = seed }) (blocks full bytes) in
    final_halves (length bytes % 2 ^ 64) (after_rest halves (drop (full * 16) bytes))

-- the default seed
abbrev pub default_seed : ℕ
default_seed = 9001

-- ---- streaming

-- the state between writes: both halves after the full blocks, the bytes of the partial block, and the number of bytes
-- modulo 2^64
pub record HashState : Type 0 where
  pub halves : Halves
  pub partial : List ℕ
  pub count : ℕ

-- the state before any byte, with a seed
abbrev pub initial_state : ℕ → HashState
initial_state seed = record { halves = record { first = seed; second = seed }; partial = []; count = 0 }

-- the state after bytes that follow full blocks
abbrev pub after_bytes : Halves → List ℕ → ℕ → HashState
after_bytes halves bytes count = let full = length bytes / 16 in
    record { halves = fold after_block halves (blocks full bytes); partial = drop (full * 16) bytes; count = count }

-- the state after a write
abbrev pub after_piece : HashState → List ℕ → HashState
after_piece s piece = after_bytes s.halves (s.partial ++ piece) ((s.count + length piece) % 2 ^ 64)

-- the hash of the bytes written
abbrev pub hash_of : HashState → Halves
hash_of s = final_halves s.count (after_rest s.halves s.partial)

-- ---- laws

-- two writes are the same as one write of both pieces, concatenated
abbrev pub PiecesAreOne : Type 0
PiecesAreOne = (s : HashState) (a b : List ℕ) → after_piece (after_piece s a) b ≡ after_piece s (a ++ b)

-- one write of all bytes gives their hash
abbrev pub HashOfPiece : Type 0
HashOfPiece = (seed : ℕ) (bytes : List ℕ) → hash_of (after_piece (initial_state seed) bytes) ≡ hash seed bytes
