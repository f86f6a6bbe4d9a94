-- SPDX-License-Identifier: Apache-2.0
use Rattle.std.proofs.Common.{◌<◌, arith}
use Rattle.std.proofs.lemmas.List.Elements.{All-from_get_or}
use Rattle.hll_sketch.proofs.MergedImages.{read_is_legal}
use Rattle.hll_c.proofs.Unions.{extends_by_image}
use Rattle.hll_c.proofs.Whole.{leaves_image}
use Rattle.hll_c.proofs.hll_state_join.Goals as goal

pub returns-clause-left : goal.returns-clause-left
returns-clause-left c =
    leaves_image c.args.lg_max_k c.args.image.now c.args.state.now c.join_image.new.state c.args.size.now c.join_image.new.size c.join_image.result
    (λ y. read_is_legal c.args.image.now y (All-from_get_or (λ n. n < 256) c.args.image.now 0 (λ i within. omega (arith, c.type_inv.image i)))) c.join_image.ensures

pub returns-clause-union : goal.returns-clause-union
returns-clause-union c = λ done closed.
    extends_by_image c.args.lg_max_k c.args.image.now c.args.state.now c.join_image.new.state c.args.size.now c.join_image.new.size c.join_image.result
    (λ y. read_is_legal c.args.image.now y (All-from_get_or (λ n. n < 256) c.args.image.now 0 (λ i within. omega (arith, c.type_inv.image i)))) c.join_image.ensures done closed
