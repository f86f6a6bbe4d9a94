-- SPDX-License-Identifier: Apache-2.0
use Rattle.std.proofs.Common.{◌≤◌, ◌^◌, ℕ, length, ap, arith}
use Rattle.std.proofs.Math.Pow.{pow_mono}
use Rattle.hll_coupons.specs.Coupons.{raw_coupons}
use Rattle.hll_coupons.proofs.Maps.{few_entries}
use Rattle.hll_coupons.proofs.Merging.{length-raw_coupons}
use Rattle.hll_coupons.proofs.Payloads.{length-coupon_bytes}
use Rattle.hll_registers.proofs.exception_map.entries_in_order.Goals as goal

pub returns-then-equals_ascending-clause-few : goal.returns-then-equals_ascending-clause-few
returns-then-equals_ascending-clause-few g c =
    let n : ℕ = c.len-count.result in
    let few : 2 ^ c.args.map.now.lg_k ≤ 2 ^ 21 = pow_mono c.len-count.ensures.map.high in
    omega (arith, ap length c.bytes_of_raw_coupons.ensures, length-coupon_bytes (raw_coupons n c.args.bytes.now), length-raw_coupons n c.args.bytes.now, c.len-count.ensures.count, few_entries c.args.map.now c.len-count.ensures.map, few)
