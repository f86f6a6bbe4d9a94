-- SPDX-License-Identifier: Apache-2.0
use Rattle.std.proofs.Common.{◌≡◌, ◌^◌, ◌≤◌, ℕ, ap, arith}
use Rattle.std.proofs.Math.Pow.{pow_mono}
use Rattle.hll_sketch.specs.Image.{lg_k_byte}
use Rattle.hll_sketch.specs.declared.header.Header.{Header}
use Rattle.hll_sketch.proofs.image_head.read_counts.Goals as goal

most : (k n : ℕ) → n ≤ 21 → k ≡ n → 2 ^ k ≤ 2 ^ 21
most k n small is = pow_mono {i = k} {j = 21} (omega (arith, small, is))

pub counts_of_plain-requires-clause-small : goal.counts_of_plain-requires-clause-small
counts_of_plain-requires-clause-small c =
    omega (arith, c.two_to.ensures, most c.args.header.lg_k (lg_k_byte c.args.bytes.now) c.requires.has.lg_k.high (ap (λ (h : Header). h.lg_k) c.requires.header))

pub counts_of_plain-requires-in-Hll-Hll8-clause-small : goal.counts_of_plain-requires-in-Hll-Hll8-clause-small
counts_of_plain-requires-in-Hll-Hll8-clause-small c =
    omega (arith, c.two_to-in-Hll-Hll8.ensures, most c.args.header.lg_k (lg_k_byte c.args.bytes.now) c.requires.has.lg_k.high (ap (λ (h : Header). h.lg_k) c.requires.header))
