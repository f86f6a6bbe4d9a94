-- SPDX-License-Identifier: Apache-2.0
use Rattle.std.proofs.Common.{◌∙◌, sym, ap, subst}
use Rattle.hll_coupons.specs.AuxMap.{IsMap}
use Rattle.hll_coupons.specs.Table.{empty_table}
use Rattle.hll_coupons.proofs.Maps.{IsMap-empty}
use Rattle.hll_coupons.proofs.aux_map.AuxMap.new.Goals as goal

pub invariant_of-result : goal.invariant_of-result
invariant_of-result g c =
    subst (λ t. IsMap (record { lg_k = c.args.lg_config_k; table = t })) (sym (c.in_ok-new.ensures.ok ∙ ap (λ n. empty_table n) c.start_size.ensures.size))
    (IsMap-empty c.args.lg_config_k c.requires.least c.requires.most)

pub returns-clause-map : goal.returns-clause-map
returns-clause-map g c =
    subst (λ t. IsMap (record { lg_k = c.args.lg_config_k; table = t })) (sym (c.in_ok-new.ensures.ok ∙ ap (λ n. empty_table n) c.start_size.ensures.size))
    (IsMap-empty c.args.lg_config_k c.requires.least c.requires.most)
