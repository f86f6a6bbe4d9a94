-- SPDX-License-Identifier: Apache-2.0
use Rattle.std.proofs.Common.{refl, arith}
use Rattle.hll_c.specs.Answers.{wrote, too_small}
use Rattle.hll_c.proofs.answer.put_parts.Goals as goal

pub returns-then-size-out : goal.returns-then-size-out
returns-then-size-out c = too_small c.args.parts.now refl (omega (arith, c.len.ensures, c.if-size-out.true)) refl c.len.ensures

pub returns : goal.returns
returns c = wrote c.args.parts.now refl (omega (arith, c.len.ensures, c.if-size-out.false)) c.put.ensures c.len.ensures
