-- SPDX-License-Identifier: Apache-2.0
use Rattle.std.proofs.Common.{◌≡◌, ◌+◌, ◌*◌, ◌%◌, ◌^◌}
use Rattle.hll_coupons.specs.Probe.{stride_of, Passes}
use Rattle.hll_coupons.specs.Keys.{key_of}
use Rattle.hll_coupons.proofs.search.search_on.Given as goal

-- this is the next bucket of the path, and those before it are filled with other keys
abbrev pub invariant-loop-index : goal.invariant-loop-index
invariant-loop-index l = record {
  bucket : l.bucket ≡ (l.fn.key + l.index * stride_of l.fn.lg_size l.fn.key) % 2 ^ l.fn.lg_size;
  passes : Passes (key_of l.fn.by) l.fn.lg_size l.fn.buckets l.fn.key l.index;
}
