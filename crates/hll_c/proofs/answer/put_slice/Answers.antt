-- SPDX-License-Identifier: Apache-2.0
use Rattle.std.proofs.Common.{◌++◌, length, drop, refl, ap, arith}
use Rattle.hll_c.specs.Answers.{wrote, too_small}
use Rattle.hll_c.proofs.answer.put_slice.Goals as goal

pub returns-then-bytes-out : goal.returns-then-bytes-out
returns-then-bytes-out c = too_small c.args.bytes.now refl (omega (arith, c.if-bytes-out.true)) refl refl

pub returns : goal.returns
returns c = wrote c.args.bytes.now refl (omega (arith, c.if-bytes-out.false)) (ap (λ b. b ++ drop (length c.args.bytes.now) c.args.out.now) c.copy_from_slice.ensures.after) refl
