-- SPDX-License-Identifier: Apache-2.0
use Rattle.std.proofs.Common.{◌*◌, sym, ◌∙◌, arith}
use Rattle.std.proofs.lemmas.List.{take_all}
use Rattle.hll_coupons.proofs.Merging.{raw_coupons_written_back}
use Rattle.hll_state.proofs.run.bytes_are_written.Goals as goal

pub returns : goal.returns
returns c = λ count size. sym (take_all (4 * count) c.args.bytes.now (omega (arith, size))) ∙ raw_coupons_written_back count c.args.bytes.now (omega (arith, size)) (λ i. omega (arith, c.type_inv.bytes i))
