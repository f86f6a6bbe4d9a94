-- SPDX-License-Identifier: Apache-2.0
-- Examples of stages at lg_k 8, 10 and 4, as in docs/MODEL.md.
use Rattle.std.proofs.Common.{◌≡◌, Some, None, refl}
use Rattle.hll_sketch.specs.Stage.{stage}

row_list : stage 8 3 7 ≡ Some 3
row_list = refl

row_set : stage 8 3 8 ≡ Some 5
row_set = refl

row_full_set : stage 8 3 24 ≡ Some 5
row_full_set = refl

row_registers : stage 8 3 25 ≡ None
row_registers = refl

row_larger : stage 10 5 25 ≡ Some 6
row_larger = refl

row_no_set : stage 4 3 8 ≡ None
row_no_set = refl
