-- SPDX-License-Identifier: Apache-2.0
-- Lemmas on the registers of groups in blocks of 48 bytes, and of the rest.
use Rattle.std.proofs.Common.{◌≡◌, ◌≤◌, ◌<◌, ◌==◌, ◌+◌, ◌*◌, ◌/◌, ◌^◌, ◌++◌, ℕ, List, [], All, cond, length, get_or, take, drop, sym, ap, ◌∙◌, arith}
use Rattle.std.proofs.lemmas.List.{length-take, length-take-le, take-append-drop}
use Rattle.std.proofs.lemmas.List.Sums.{sum_by-append, count_by-le-length}
use Rattle.std.specs.Simd.{first_chunks}
use Rattle.hll_kernels.specs.Packed.{fields, zeros}
use Rattle.hll_kernels.proofs.Blocks.{take_block, length-block, All-block}
use Rattle.hll_kernels.proofs.SixBitLanes.{length-fields-le, length-fields, fields-append, small-fields}

-- i blocks of n bytes, which are g groups
module _ (n i g : ℕ) (whole : i * n ≡ 3 * g) (B : List ℕ) (room : i * n ≤ length B) where
  taken : length (take (i * n) B) ≡ 3 * g
  taken = length-take-le (i * n) B room ∙ whole

  -- their registers, and those of one more block
  fields_more : (F : List (List ℕ)) → F ≡ first_chunks n (length B / n) B → i < length B / n → fields (take ((i + 1) * n) B) ≡ fields (take (i * n) B) ++ fields (get_or F i [])
  fields_more F front inside = ap fields (take_block n (length B / n) B F i [] front inside) ∙ fields-append g (take (i * n) B) (get_or F i []) taken

  -- their registers, and those of the rest
  fields_all : (rest : List ℕ) → rest ≡ drop (i * n) B → fields B ≡ fields (take (i * n) B) ++ fields rest
  fields_all rest is = sym (sym (fields-append g (take (i * n) B) rest taken) ∙ ap fields (ap (λ Q. take (i * n) B ++ Q) is ∙ take-append-drop (i * n) B))

-- the registers of some blocks and of one more block
pub one_more : (i : ℕ) (B : List ℕ) (F : List (List ℕ)) → F ≡ first_chunks 48 (length B / 48) B → i < length B / 48 →
    fields (take ((i + 1) * 48) B) ≡ fields (take (i * 48) B) ++ fields (get_or F i [])
one_more i B F front inside = fields_more 48 i (16 * i) (omega arith) B (omega arith) F front inside

-- the registers of all blocks and of the rest
pub all : (i : ℕ) (B rest : List ℕ) → i ≡ length B / 48 → rest ≡ drop (length B / 48 * 48) B → fields B ≡ fields (take (i * 48) B) ++ fields rest
all i B rest e is = fields_all 48 i (16 * i) (omega arith) B (omega (arith, e)) rest (is ∙ ap (λ n. drop (n * 48) B) (sym e))

-- the same for parts of 128 blocks
pub one_part_more : (i : ℕ) (B : List ℕ) (F : List (List ℕ)) → F ≡ first_chunks 6144 (length B / 6144) B → i < length B / 6144 →
    fields (take ((i + 1) * 6144) B) ≡ fields (take (i * 6144) B) ++ fields (get_or F i [])
one_part_more i B F front inside = fields_more 6144 i (2048 * i) (omega arith) B (omega arith) F front inside

pub all_parts : (i : ℕ) (B rest : List ℕ) → i ≡ length B / 6144 → rest ≡ drop (length B / 6144 * 6144) B → fields B ≡ fields (take (i * 6144) B) ++ fields rest
all_parts i B rest e is = fields_all 6144 i (2048 * i) (omega arith) B (omega (arith, e)) rest (is ∙ ap (λ n. drop (n * 6144) B) (sym e))

-- their number
pub size : (i : ℕ) (B : List ℕ) → i * 48 ≤ length B → length (fields (take (i * 48) B)) ≡ 64 * i
size i B h = omega (arith, length-fields (16 * i) (take (i * 48) B) (omega (arith, length-take-le (i * 48) B h)))

-- the zeros of a prefix and of the rest
pub zeros-append : (P Q : List ℕ) → zeros (P ++ Q) ≡ zeros P + zeros Q
zeros-append P Q = sum_by-append (λ v. cond (v == 0) 1 0) P Q

-- the zeros of a part are few
pub few_zeros : (n : ℕ) (B : List ℕ) → length B ≤ 3 * 2 ^ 19 → zeros (fields (take n B)) ≤ 3 * 2 ^ 20
few_zeros n B h = omega (arith, count_by-le-length (λ v. v == 0) (fields (take n B)), length-fields-le (take n B), length-take n B)

-- the zeros of both parts
pub zeros_joined : (P Q R : List ℕ) (a b : ℕ) → R ≡ P ++ Q → a ≡ zeros P → b ≡ zeros Q → a + b ≡ zeros R
zeros_joined P Q R a b whole first second = (λ i. first i + second i) ∙ sym (zeros-append P Q) ∙ ap zeros (sym whole)

-- the registers of some blocks are no more than those of all
pub size_within : (i : ℕ) (B : List ℕ) → i ≤ length B / 48 → 3 * length (fields (take (i * 48) B)) ≤ 4 * length B
size_within i B h = omega (arith, size i B (omega (arith, h)), h)

-- and there are 64 more before the last block
pub size_before : (i : ℕ) (B : List ℕ) → i < length B / 48 → 3 * (length (fields (take (i * 48) B)) + 64) ≤ 4 * length B
size_before i B h = omega (arith, size i B (omega (arith, h)), h)

-- the registers of a block are small
pub small_block : (i : ℕ) (B : List ℕ) (F : List (List ℕ)) → F ≡ first_chunks 48 (length B / 48) B → i < length B / 48 → All (λ b. b < 256) B → All (λ v. v ≤ 63) (fields (get_or F i []))
small_block i B F front inside all =
    small-fields 16 (get_or F i []) (length-block 48 (length B / 48) B F i [] front inside (omega arith)) (All-block 48 (length B / 48) B F i [] front inside (λ b. b < 256) all)
