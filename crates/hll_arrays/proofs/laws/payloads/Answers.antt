-- SPDX-License-Identifier: Apache-2.0
use Rattle.hll_arrays.proofs.ReadBackLemmas.{hll8_read_back, hll6_read_back, hll4_read_back}
use Rattle.hll_arrays.proofs.Tail.{packed_is_written}
use Rattle.hll_arrays.proofs.laws.payloads.Goals as goal

pub returns-clause-hll8_read_back : goal.returns-clause-hll8_read_back
returns-clause-hll8_read_back c = hll8_read_back

pub returns-clause-hll6_read_back : goal.returns-clause-hll6_read_back
returns-clause-hll6_read_back c = hll6_read_back

pub returns-clause-hll4_read_back : goal.returns-clause-hll4_read_back
returns-clause-hll4_read_back c = hll4_read_back

pub returns-clause-packed_is_written : goal.returns-clause-packed_is_written
returns-clause-packed_is_written c = packed_is_written
