-- SPDX-License-Identifier: Apache-2.0
-- The sizes of tables of coupons.
use Rattle.std.proofs.Common.{◌≡◌, ◌≢◌, ℕ, ◌+◌, ◌^◌, ◌<◌, ◌≤◌, inl, inr, arith}
use Rattle.hll_sketch.specs.Value.{IsTableFor}

pub list_of_table : (k n p : ℕ) → IsTableFor k n p → p ≡ 3 → n ≤ 8
list_of_table k n p (inl few) three = few.1
list_of_table k n p (inr large) three = absurd (omega (arith, large.0, three))

pub set_of_table : (k n p : ℕ) → IsTableFor k n p → p ≢ 3 → (5 ≤ p) × (p + 3 ≤ k) × (n < 2 ^ p)
set_of_table k n p (inl few) other = absurd (other few.0)
set_of_table k n p (inr large) other = large
