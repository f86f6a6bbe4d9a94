-- SPDX-License-Identifier: Apache-2.0
use Rattle.hll_state.proofs.header.Header.merge_with_room.Goals as goal

pub returns-clause-within : goal.returns-clause-within
returns-clause-within g c =
    let within = c.merge_image.ensures.within in
    record { lg_k = within.lg_k; widths = c.requires.widths; held = within.held }
