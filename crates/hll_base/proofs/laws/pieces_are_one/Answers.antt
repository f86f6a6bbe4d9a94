-- SPDX-License-Identifier: Apache-2.0
use Rattle.hll_base.proofs.Hashing.{pieces_are_one}
use Rattle.hll_base.proofs.laws.pieces_are_one.Goals as goal

pub returns : goal.returns
returns c = pieces_are_one
