-- SPDX-License-Identifier: Apache-2.0
use Rattle.hll_sketch.proofs.ReadBack.{written_is_read_back}
use Rattle.hll_sketch.proofs.Written.{written_is_image, same_bytes, list_is_read_back}
use Rattle.hll_sketch.proofs.laws.writing.Goals as goal

pub returns-clause-written_is_read_back : goal.returns-clause-written_is_read_back
returns-clause-written_is_read_back c = written_is_read_back

pub returns-clause-written_is_image : goal.returns-clause-written_is_image
returns-clause-written_is_image c = written_is_image

pub returns-clause-same_bytes : goal.returns-clause-same_bytes
returns-clause-same_bytes c = same_bytes

pub returns-clause-list_is_read_back : goal.returns-clause-list_is_read_back
returns-clause-list_is_read_back c = list_is_read_back
