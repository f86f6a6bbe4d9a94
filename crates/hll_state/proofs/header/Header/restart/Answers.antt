-- SPDX-License-Identifier: Apache-2.0
use Rattle.std.proofs.Common.{length, subst, sym}
use Rattle.hll_state.specs.Header.{IsWithin}
use Rattle.hll_state.specs.declared.header.Header.{Header}
use Rattle.hll_state.proofs.Emptiness.{new_within}
use Rattle.hll_state.proofs.header.Header.restart.Goals as goal

pub len_to_merge-len-requires : goal.len_to_merge-len-requires
len_to_merge-len-requires g c =
    let room = length c.args.body.now in
    (room, subst (λ (n : Header). IsWithin (record { lg_k = n.lg_k; widths = c.args.widths; held = n.held }) room) (sym c.new.ensures) (new_within c.lg_k.result c.args.widths room c.lg_k.ensures.legal c.requires.widths))

pub merge_image-requires-clause-within : goal.merge_image-requires-clause-within
merge_image-requires-clause-within g c =
    let room = length c.args.body.now in
    subst (λ (n : Header). IsWithin (record { lg_k = n.lg_k; widths = c.args.widths; held = n.held }) room) (sym c.new.ensures) (new_within c.lg_k.result c.args.widths room c.lg_k.ensures.legal c.requires.widths)
