-- SPDX-License-Identifier: Apache-2.0
-- The hash of two known texts at seed 0.
use Rattle.std.specs.Prelude.{◌≡◌, [], refl, codes}
use Rattle.hll_base.specs.Hash.{hash}

-- no bytes
pub hash-empty : hash 0 [] ≡ record { first = 0; second = 0 }
hash-empty = refl

-- a text of two full blocks and a rest of eleven bytes
pub hash-text : hash 0 (codes "The quick brown fox jumps over the lazy dog") ≡ record { first = 0xe34bbc7bbc071b6c; second = 0x7a433ca9c49a9347 }
hash-text = refl
