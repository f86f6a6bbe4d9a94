-- SPDX-License-Identifier: Apache-2.0
use Rattle.std.proofs.Common.{sym, ap, ◌∙◌}
use Rattle.hll_base.specs.Reason.{number_of}
use Rattle.hll_c.specs.BytesOrParts.{bytes_of}
use Rattle.hll_c.proofs.Answers.{puts_of, puts_nothing}
use Rattle.hll_c.proofs.answer.put_bytes_or_parts.Goals as goal

pub returns-in-Ok-Bytes : goal.returns-in-Ok-Bytes
returns-in-Ok-Bytes c =
    puts_of bytes_of c.args.image c.in-Ok-Bytes.field-0 _ c.args.out.now _ c.args.size.now _ _ c.in-Ok-Bytes.is (c.deref.ensures.value ∙ sym (ap bytes_of c.in-Ok-Bytes.field-0-is)) c.put_slice.ensures

pub returns-in-Ok-Parts : goal.returns-in-Ok-Parts
returns-in-Ok-Parts c =
    puts_of bytes_of c.args.image c.in-Ok-Parts.field-0 _ c.args.out.now _ c.args.size.now _ _ c.in-Ok-Parts.is (sym (ap bytes_of c.in-Ok-Parts.field-0-is)) c.put_parts.ensures

pub returns-in-Err : goal.returns-in-Err
returns-in-Err c = puts_nothing bytes_of c.args.image c.in-Err.e c.args.out.now c.args.size.now c.number.result c.in-Err.is (c.number.ensures ∙ ap number_of c.reason.ensures)
