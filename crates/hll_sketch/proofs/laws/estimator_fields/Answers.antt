-- SPDX-License-Identifier: Apache-2.0
use Rattle.hll_sketch.proofs.SetFields.{fields_keep, fields_twice, same_registers_same_bytes}
use Rattle.hll_sketch.proofs.PlainUnions.{union_of_plain, filled_is_plain}
use Rattle.hll_sketch.proofs.laws.estimator_fields.Goals as goal

pub returns-clause-fields_keep : goal.returns-clause-fields_keep
returns-clause-fields_keep c = fields_keep

pub returns-clause-fields_twice : goal.returns-clause-fields_twice
returns-clause-fields_twice c = fields_twice

pub returns-clause-same_registers_same_bytes : goal.returns-clause-same_registers_same_bytes
returns-clause-same_registers_same_bytes c = same_registers_same_bytes

pub returns-clause-union_of_plain : goal.returns-clause-union_of_plain
returns-clause-union_of_plain c = union_of_plain

pub returns-clause-filled_is_plain : goal.returns-clause-filled_is_plain
returns-clause-filled_is_plain c = filled_is_plain
