-- SPDX-License-Identifier: Apache-2.0
-- 4-bit registers as an image has them: nibbles above a minimum, and raw coupons for the exceptions (docs/MODEL.md, "4-bit registers").
use Rattle.std.specs.Prelude.{◌≡◌, ℕ, ◌*◌, ◌^◌, ◌<◌, ◌≤◌, List, All, length, map}
use Rattle.std.specs.List.{range_with_len}
use Rattle.hll_coupons.specs.AuxMap.{entry_at}
use Rattle.hll_kernels.specs.Packed.{nibble_at}
use Rattle.hll_registers.specs.Payload.{register_of, Agrees, AreEntries}

-- the registers
abbrev pub registers_with : ℕ → ℕ → List ℕ → List ℕ → List ℕ
registers_with k m nibbles entries = map (λ s. register_of m (nibble_at nibbles s) (entry_at k entries s)) (range_with_len 0 (2 ^ k))

-- there is an exception, and nibbles and exceptions agree at each slot
pub record HasExceptions (k m : ℕ) (nibbles entries : List ℕ) : Type 0 where
  pub size : 2 * length nibbles ≡ 2 ^ k
  pub fits : All (λ b. b < 256) nibbles
  pub low : m ≤ 63
  pub some : 1 ≤ length entries
  pub are_entries : AreEntries k entries
  pub agree : (s : ℕ) → s < 2 ^ k → Agrees m (nibble_at nibbles s) (entry_at k entries s)
