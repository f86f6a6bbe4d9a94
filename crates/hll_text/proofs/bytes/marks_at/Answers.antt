-- SPDX-License-Identifier: Apache-2.0
use Rattle.std.proofs.Common.{◌==◌, arith, w8}
use Rattle.std.specs.Simd.Lanes.{chunk}
use Rattle.std.proofs.lemmas.Simd.{bitmask_splat, length-chunk}
use Rattle.hll_text.proofs.bytes.marks_at.Goals as goal

pub returns : goal.returns
returns c = bitmask_splat w8 (λ a b. a == b) (chunk c.args.at 64 c.args.text.now) 64 c.args.byte (length-chunk c.args.at 64 c.args.text.now c.requires) (omega arith)
