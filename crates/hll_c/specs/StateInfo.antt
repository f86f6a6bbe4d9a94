-- SPDX-License-Identifier: Apache-2.0
-- What a call reports of a state (docs/MODEL.md, "States of a counter").
use Rattle.std.specs.Prelude.{◌≡◌, ℕ, ◌+◌, ◌*◌, ◌==◌, if◌then◌else◌, List, drop}
use Rattle.hll_base.specs.declared.error.Reason.{Reason}
use Rattle.hll_base.specs.declared.error.Reason.TheVariants.{Argument}
use Rattle.hll_sketch.specs.Value.{is_empty}
use Rattle.hll_state.specs.Counter.{sketch_in}
use Rattle.hll_state.specs.Header.{has_registers}
use Rattle.hll_state.specs.Memory.{HasHeader, IsState, is_open}
use Rattle.hll_state.specs.Merged.{HasSomeRegister, is_unused}
use Rattle.hll_state.specs.Prefixes.{needed}
use Rattle.hll_state.specs.declared.header.Header.{Header}
use Rattle.hll_c.specs.Calls.{bit}
use Rattle.hll_c.specs.declared.state_info.HllStateInfo.{HllStateInfo}

-- the number of bytes that a state takes
abbrev pub bytes_of : Header → ℕ
bytes_of h = 4 * (10 + needed h.lg_k h.held)

-- the width that stands for the widths of merged images: 4, 6 or 8 bits if they all have it; 8 if they differ or there are none
abbrev pub width_of_widths : ℕ → ℕ
width_of_widths widths = if widths == 1 then 4 else (if widths == 2 then 6 else 8)

-- what is reported of a header and the elements after it: an empty sketch by its coupons in use, or registers that are not all 0
pub record IsInfoOfState (h : Header) (body : List (List ℕ)) (i : HllStateInfo) : Type 0 where
  pub size : i.size ≡ bytes_of h
  pub lg_k : i.lg_k ≡ h.lg_k
  pub width : i.width ≡ width_of_widths h.widths
  pub stage : i.stage ≡ (if has_registers h.held then 2 else 1)
  pub unused : i.is_empty ≡ bit (is_unused h.held)
  pub empty : HasSomeRegister (sketch_in h body) → i.is_empty ≡ bit (is_empty (sketch_in h body))

-- what is reported of a state
pub record SaysStateInfo (elements : List (List ℕ)) (i : HllStateInfo) : Type 0 where
  pub header : Header
  pub has : HasHeader elements header
  pub lg_k_open : i.is_open ≡ bit (is_open elements)
  pub says : IsInfoOfState header (drop 10 elements) i

-- an argument is out of range, or the elements are not a state
pub record RefusesStateInfo (InRange : Type 0) (elements : List (List ℕ)) (r : Reason) : Type 0 where
  pub reason : r ≡ Argument
  pub refused : InRange × IsState elements → ⊥
