-- SPDX-License-Identifier: Apache-2.0
-- The bytes that a call writes, in one piece or in parts.
use Rattle.std.specs.Prelude.{ℕ, List}
use Rattle.hll_c.specs.declared.answer.BytesOrParts.{BytesOrParts}
use Rattle.hll_c.specs.declared.answer.BytesOrParts.TheVariants.{Bytes, Parts}

abbrev pub bytes_of : BytesOrParts → List ℕ
bytes_of (Bytes v) = v.items
bytes_of (Parts p) = p
