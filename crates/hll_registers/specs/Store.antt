-- SPDX-License-Identifier: Apache-2.0
-- What a representation of registers has to satisfy (docs/MODEL.md, "Laws of a store").
use Rattle.std.specs.Prelude.{◌≡◌, ℕ, ◌+◌, ◌-◌, ◌*◌, ◌/◌, ◌^◌, ◌≤◌, List, [], ◌∷◌, ◌++◌, length, replicate}
use Rattle.hll_coupons.specs.AuxMap.{table_bytes}
use Rattle.std.specs.FinSet.{empty}
use Rattle.hll_coupons.specs.Pair.{Pairs, set_of}
use Rattle.hll_coupons.specs.Coupons.{coupon_bytes, IsAscending}
use Rattle.hll_coupons.specs.Fold.{fold_to, pairs}
use Rattle.hll_base.specs.Join.{join}
use Rattle.hll_base.specs.declared.hll_type.HllType.{HllType}
use Rattle.hll_base.specs.declared.hll_type.HllType.TheVariants.{Hll4, Hll6, Hll8}
use Rattle.hll_registers.specs.declared.estimate_state.EstimateState.{EstimateState}
use Rattle.hll_registers.specs.State.{IsState, cleared_state, state_after}
use Rattle.hll_kernels.specs.Packed.{nibble_bytes, field_bytes, AreRegisters}
use Rattle.hll_registers.specs.Exceptions.{exceptions}
use Rattle.hll_registers.specs.Payload.{WritesRegisters}

-- registers with their estimate state
pub record Stored : Type 0 where
  pub lg_k : ℕ
  pub registers : List ℕ
  pub state : EstimateState

-- lg_k is 4 to 21, and registers and state are legal
pub record IsStored (x : Stored) : Type 0 where
  pub low : 4 ≤ x.lg_k
  pub high : x.lg_k ≤ 21
  pub registers : AreRegisters x.lg_k x.registers
  pub state : IsState x.state

-- registers that are all 0
abbrev pub zero_registers : ℕ → Stored
zero_registers k = record { lg_k = k; registers = replicate (2 ^ k) 0; state = cleared_state }

-- an update by a set of pairs: at each slot the maximum of the register and the fold
abbrev pub update_with_pairs : Stored → Pairs → Stored
update_with_pairs x T =
    let R = join x.registers (fold_to T x.lg_k) in
    record { lg_k = x.lg_k; registers = R; state = state_after x.registers R x.state }

-- an update by one coupon; a coupon of value 0 changes nothing
abbrev pub update_with_coupon : Stored → ℕ → Stored
update_with_coupon x c = update_with_pairs x (set_of (c ∷ []))

-- a merge with other registers: at each slot the maximum of the register and their fold, with the cleared state
abbrev pub merge_with : Stored → List ℕ → Stored
merge_with x R = record { lg_k = x.lg_k; registers = join x.registers (fold_to (pairs R) x.lg_k); state = cleared_state }

-- the bytes of the registers, without state and exceptions
abbrev pub packed_bytes : HllType → List ℕ → List ℕ
packed_bytes Hll4 R = nibble_bytes R
packed_bytes Hll6 R = field_bytes R
packed_bytes Hll8 R = R

-- the exceptions that are written after them, only for 4-bit registers
abbrev pub written_exceptions : HllType → List ℕ → Pairs
written_exceptions Hll4 R = set_of (exceptions R)
written_exceptions Hll6 R = empty
written_exceptions Hll8 R = empty

-- the number of bytes that registers need at each width
abbrev pub size_in_registers : ℕ → HllType → List ℕ → ℕ
size_in_registers k Hll4 R = 2 ^ (k - 1) + table_bytes k (length (exceptions R))
size_in_registers k Hll6 R = 3 * 2 ^ k / 4 + 1
size_in_registers k Hll8 R = 2 ^ k

-- ---- laws

-- what is written ends in the packed bytes and the exceptions in ascending order, which are functions of width and
-- registers alone
abbrev pub PackedIsWritten : Type 0
PackedIsWritten = (bytes : List ℕ) (k : ℕ) (w : HllType) (R : List ℕ) (state : EstimateState) → WritesRegisters bytes k w R state →
    (front order : List ℕ) × IsAscending order (written_exceptions w R) × (bytes ≡ front ++ (packed_bytes w R ++ coupon_bytes order))
