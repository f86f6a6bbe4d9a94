-- SPDX-License-Identifier: Apache-2.0
use Rattle.hll_registers.proofs.Packing.{nibbles_read_back, fields_read_back, exceptions_read_back}
use Rattle.hll_registers.proofs.FourBits.{packed_is_of_registers}
use Rattle.hll_arrays.proofs.Minimum.{minimum_rises}
use Rattle.hll_arrays.proofs.laws.packed_forms.Goals as goal

pub returns-clause-nibbles_read_back : goal.returns-clause-nibbles_read_back
returns-clause-nibbles_read_back c = nibbles_read_back

pub returns-clause-fields_read_back : goal.returns-clause-fields_read_back
returns-clause-fields_read_back c = fields_read_back

pub returns-clause-exceptions_read_back : goal.returns-clause-exceptions_read_back
returns-clause-exceptions_read_back c = exceptions_read_back

pub returns-clause-packed_is_of_registers : goal.returns-clause-packed_is_of_registers
returns-clause-packed_is_of_registers c = packed_is_of_registers

pub returns-clause-minimum_never_falls : goal.returns-clause-minimum_never_falls
returns-clause-minimum_never_falls c = minimum_rises
