-- SPDX-License-Identifier: Apache-2.0
-- What a reader promises of the reason that it fails with (docs/FORMAT.md, "Order of checks").
use Rattle.std.specs.Prelude.{◌≡◌, ℕ, ◌⊎◌, List, Some, None}
use Rattle.hll_base.specs.declared.error.Reason.{Reason}
use Rattle.hll_base.specs.declared.error.Reason.TheVariants.{Memory}
use Rattle.hll_sketch.specs.Checks.{first_fault, size_fault}

-- it is the reason of the first check that the bytes fail; or an allocation failed, and then all bytes that the image needs are
-- there
pub record IsRefusal (b : List ℕ) (r : Reason) : Type 0 where
  pub first : (r ≡ Memory) ⊎ (first_fault b ≡ Some r)
  pub asked : r ≡ Memory → size_fault b ≡ None
