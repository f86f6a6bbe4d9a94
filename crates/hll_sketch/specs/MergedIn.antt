-- SPDX-License-Identifier: Apache-2.0
-- Images that are merged into a union (docs/MODEL.md, "Merging").
use Rattle.std.specs.Prelude.{◌≡◌, ℕ, ◌^◌, ◌<◌, ◌≤◌, ◌==◌, if◌then◌else◌, true, List, drop, length, All, Some, None}
use Rattle.hll_base.specs.declared.error.Reason.TheVariants.{Register}
use Rattle.hll_arrays.specs.FewExceptions.{registers_with, HasExceptions}
use Rattle.hll_coupons.specs.Coupons.{raw_coupons}
use Rattle.hll_coupons.specs.Pair.{set_of}
use Rattle.hll_coupons.specs.Payload.{set_count}
use Rattle.hll_registers.specs.Payload.{exception_count}
use Rattle.hll_registers.specs.Store.{Stored}
use Rattle.hll_registers.specs.declared.estimate_state.EstimateState.{EstimateState}
use Rattle.hll_sketch.specs.Borrowed.{AreEvidentlyCoupons}
use Rattle.hll_sketch.specs.Checks.{first_fault, size_fault}
use Rattle.hll_sketch.specs.Image.{IsReadAs, stage_bits, width_bits, width_of_bits, state_byte, is_flagged}
use Rattle.hll_sketch.specs.Value.{Sketch, IsLgK, coupons, registers}

-- the bytes are read as a sketch of these coupons in a list or a set
pub record IsOfCoupons (bytes order : List ℕ) : Type 0 where
  pub sketch : Sketch
  pub read : IsReadAs bytes sketch
  pub size : ℕ
  pub content : sketch.content ≡ coupons (set_of order) size

-- the bytes are read as a sketch of these registers with their estimate state
pub record IsOfRegisters (bytes : List ℕ) (x : Stored) : Type 0 where
  pub stage : stage_bits bytes ≡ 2
  pub sketch : Sketch
  pub read : IsReadAs bytes sketch
  pub lg_k : sketch.lg_k ≡ x.lg_k
  pub width_is : sketch.width ≡ width_of_bits (width_bits bytes)
  pub content : sketch.content ≡ registers x.registers x.state

-- the bytes are an image of these 8-bit registers, unless a register is above 63: then that is the first check that they fail
pub record HasRegisterBytes (bytes : List ℕ) (k : ℕ) (R : List ℕ) : Type 0 where
  pub lg_k : IsLgK k
  pub size : length R ≡ 2 ^ k
  pub state : EstimateState
  pub read : All (λ v. v ≤ 63) R → IsOfRegisters bytes (record { lg_k = k; registers = R; state = state })
  pub rejected : (All (λ v. v ≤ 63) R → ⊥) → first_fault bytes ≡ Some Register

-- the bytes are an image of 4-bit registers with exceptions: nibbles above a minimum, and raw coupons
pub record IsOfNibbles (bytes : List ℕ) (k m : ℕ) (nibbles entries : List ℕ) : Type 0 where
  pub lg_k : IsLgK k
  pub parts : HasExceptions k m nibbles entries
  pub state : EstimateState
  pub read : IsOfRegisters bytes (record { lg_k = k; registers = registers_with k m nibbles entries; state = state })

-- ---- what may need an allocation

-- the raw coupons of a compact image: after the header of a list, and after the count of a set
abbrev pub raw_coupons_in : List ℕ → List ℕ
raw_coupons_in b = if stage_bits b == 0 then raw_coupons (state_byte b) (drop 8 b) else raw_coupons (set_count (drop 8 b)) (drop 4 (drop 8 b))

-- the bytes have the header, the counts and the length of a compact list or set, and one pass shows that its raw coupons, if
-- there are any, are coupons
pub record HasCompactCoupons (b : List ℕ) : Type 0 where
  pub stage : stage_bits b < 2
  pub sized : size_fault b ≡ None
  pub compact : is_flagged 8 b ≡ true
  pub evident : AreEvidentlyCoupons (raw_coupons_in b)

-- the header is that of registers, and if they are 4-bit registers, the count of their exceptions is 0
abbrev pub HasPlainRegisters : List ℕ → Type 0
HasPlainRegisters b = (stage_bits b ≡ 2) × (width_bits b ≡ 0 → exception_count (drop 8 b) ≡ 0)
