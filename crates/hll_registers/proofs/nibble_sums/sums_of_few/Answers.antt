-- SPDX-License-Identifier: Apache-2.0
use Rattle.std.proofs.Common.{◌<◌, All, refl, subst}
use Rattle.std.proofs.lemmas.List.Elements.{All-from_get_or}
use Rattle.hll_kernels.specs.WeightSums.{AreSumsOf}
use Rattle.hll_registers.specs.FourBits.{unboxed, unpacked}
use Rattle.hll_registers.proofs.FourBitReading.{AgreeAbove, legal}
use Rattle.hll_registers.proofs.FourBitStores.{values-unmarked}
use Rattle.hll_registers.proofs.Reading.{take-raised_zeros, small-raised_zeros}
use Rattle.hll_registers.proofs.nibble_sums.sums_of_few.Goals as goal

pub returns-in-Some : goal.returns-in-Some
returns-in-Some g c =
    let fits : All (λ b. b < 256) c.args.nibbles.now = All-from_get_or (λ b. b < 256) c.args.nibbles.now 0 (λ i l. (c.type_inv.nibbles i).fits) in
    let parts : AgreeAbove c.args.lg_k c.args.minimum c.args.nibbles.now (unboxed c.args.map.now) = record { size = c.requires.size; fits = fits; map_for = c.requires.map; agree = c.requires.agree } in
    subst (AreSumsOf _) (values-unmarked parts c.args.first c.args.size _ c.requires.within c.requires.aligned c.requires.groups refl (c.in-Some.ensures.unmarked refl)) c.in-Some.ensures.sums

pub weight_sums-requires-clause-small : goal.weight_sums-requires-clause-small
weight_sums-requires-clause-small g c =
    let fits : All (λ b. b < 256) c.args.nibbles.now = All-from_get_or (λ b. b < 256) c.args.nibbles.now 0 (λ i l. (c.type_inv.nibbles i).fits) in
    let parts : AgreeAbove c.args.lg_k c.args.minimum c.args.nibbles.now (unboxed c.args.map.now) = record { size = c.requires.size; fits = fits; map_for = c.requires.map; agree = c.requires.agree } in
    small-raised_zeros c.args.lg_k 128 c.args.first c.args.size (unpacked c.args.lg_k c.args.minimum c.args.nibbles.now (unboxed c.args.map.now)) _ _ (legal parts) c.requires.within c.requires.few c.max_with_registers.ensures

pub returns : goal.returns
returns g c =
    let fits : All (λ b. b < 256) c.args.nibbles.now = All-from_get_or (λ b. b < 256) c.args.nibbles.now 0 (λ i l. (c.type_inv.nibbles i).fits) in
    let parts : AgreeAbove c.args.lg_k c.args.minimum c.args.nibbles.now (unboxed c.args.map.now) = record { size = c.requires.size; fits = fits; map_for = c.requires.map; agree = c.requires.agree } in
    subst (AreSumsOf c.weight_sums.result) (take-raised_zeros c.args.lg_k 128 c.args.first c.args.size (unpacked c.args.lg_k c.args.minimum c.args.nibbles.now (unboxed c.args.map.now)) _ _ (legal parts) c.requires.within c.requires.few c.max_with_registers.ensures)
    c.weight_sums.ensures
