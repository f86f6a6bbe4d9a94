-- SPDX-License-Identifier: Apache-2.0
use Rattle.hll_text.proofs.refusal.+write_number.Given as goal

abbrev pub decreases-write_number : goal.decreases-write_number
decreases-write_number g l = l.number
