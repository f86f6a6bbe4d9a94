-- SPDX-License-Identifier: Apache-2.0
use Rattle.hll_c.proofs.GrowingUnions.{MergesRest}
use Rattle.hll_c.proofs.union.merge_in_all.Given as goal

-- the images so far were merged
abbrev pub invariant-loop-number : goal.invariant-loop-number
invariant-loop-number g l = MergesRest l.fn.union l.union (g.S.Strings.strings l.images) l.fn.failed l.failed l.number
