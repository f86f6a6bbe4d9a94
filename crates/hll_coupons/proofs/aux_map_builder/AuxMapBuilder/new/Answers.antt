-- SPDX-License-Identifier: Apache-2.0
use Rattle.hll_coupons.proofs.aux_map_builder.AuxMapBuilder.new.Goals as goal

pub invariant_of-result : goal.invariant_of-result
invariant_of-result g c = (c.new-2.ensures c.in_ok-map.map.table.lg_size c.in_ok-map.map.table.buckets, tt)
