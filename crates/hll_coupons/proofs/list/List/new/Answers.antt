-- SPDX-License-Identifier: Apache-2.0
use Rattle.std.proofs.Common.{subst, sym}
use Rattle.hll_coupons.specs.Table.{IsFilledFromFront}
use Rattle.hll_coupons.proofs.TableLemmas.{IsFilledFromFront-empty}
use Rattle.hll_coupons.proofs.list.List.new.Goals as goal

pub invariant_of-result : goal.invariant_of-result
invariant_of-result g c = subst IsFilledFromFront (sym c.in_ok-new.ensures.ok) (IsFilledFromFront-empty c.args.lg_size)
