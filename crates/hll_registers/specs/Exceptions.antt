-- SPDX-License-Identifier: Apache-2.0
-- The exceptions of 4-bit registers (docs/MODEL.md, "Packed forms").
use Rattle.std.specs.Prelude.{ℕ, ◌+◌, nat_le, List, filter}
use Rattle.hll_coupons.specs.Pair.{value_of}
use Rattle.hll_coupons.specs.Fold.{raw_coupons_from}
use Rattle.hll_kernels.specs.Packed.{minimum}

-- all pairs of a slot and its register, if that is at least 15 above m, by ascending slots
abbrev pub exceptions_above : ℕ → List ℕ → List ℕ
exceptions_above m R = filter (λ c. nat_le (m + 15) (value_of c)) (raw_coupons_from 0 R)

-- the exceptions of registers
abbrev pub exceptions : List ℕ → List ℕ
exceptions R = exceptions_above (minimum R) R
