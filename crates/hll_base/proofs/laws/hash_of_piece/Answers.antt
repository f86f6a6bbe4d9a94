-- SPDX-License-Identifier: Apache-2.0
use Rattle.hll_base.proofs.Hashing.{hash_of_piece}
use Rattle.hll_base.proofs.laws.hash_of_piece.Goals as goal

pub returns : goal.returns
returns c = hash_of_piece
