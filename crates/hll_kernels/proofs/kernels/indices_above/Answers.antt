-- SPDX-License-Identifier: Apache-2.0
use Rattle.std.proofs.Common.{◌≡◌, ◌<◌, ◌+◌, ◌-◌, ◌%◌, All, length, sym, subst, ap, ◌∙◌}
use Rattle.std.proofs.lemmas.List.{length-map}
use Rattle.hll_kernels.specs.Lanes.{window_units, IsIndex}
use Rattle.hll_kernels.proofs.Weights.{index_lanes, window_units-index, All-index_of, All-bytes}
use Rattle.hll_kernels.proofs.kernels.indices_above.Goals as goal

pub returns-clause-units : goal.returns-clause-units
returns-clause-units c =
    let R = c.differences-values.result in
    let long : length R ≡ 64 = ap length c.differences-values.ensures ∙ length-map c.args.block.now (λ v. (v + (256 - c.args.from)) % 256) ∙ c.told-block in
    ap window_units (index_lanes 64 R long) ∙ window_units-index R (subst (All (λ v. v < 256)) (sym c.differences-values.ensures) (All-bytes (λ v. v + (256 - c.args.from)) c.args.block.now)) ∙ ap window_units c.differences-values.ensures

pub returns-clause-indices : goal.returns-clause-indices
returns-clause-indices c =
    let R = c.differences-values.result in
    let long : length R ≡ 64 = ap length c.differences-values.ensures ∙ length-map c.args.block.now (λ v. (v + (256 - c.args.from)) % 256) ∙ c.told-block in
    subst (All IsIndex) (sym (index_lanes 64 R long)) (All-index_of R (subst (All (λ v. v < 256)) (sym c.differences-values.ensures) (All-bytes (λ v. v + (256 - c.args.from)) c.args.block.now)))
