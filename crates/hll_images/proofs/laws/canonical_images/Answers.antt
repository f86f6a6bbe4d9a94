-- SPDX-License-Identifier: Apache-2.0
use Rattle.hll_images.proofs.Canonical.{calls_keep_canonical}
use Rattle.hll_images.proofs.laws.canonical_images.Goals as goal

pub returns : goal.returns
returns c = record { calls_keep_canonical = calls_keep_canonical }
