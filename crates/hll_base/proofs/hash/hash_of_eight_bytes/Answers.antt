-- SPDX-License-Identifier: Apache-2.0
use Rattle.std.proofs.Common.{◌≡◌, ap, ◌∙◌}
use Rattle.hll_base.specs.Hash.{Halves, hash, final_halves, after_rest}
use Rattle.hll_base.proofs.Hashing.{hash-eight}
use Rattle.hll_base.proofs.hash.hash_of_eight_bytes.Goals as goal

-- the halves after the tail are the hash of all bytes
all : (c : goal.After-end) → final_halves 8 c.absorb_eight.new.self ≡ hash c.args.seed c.args.bytes.now
all c =
    (λ i. final_halves 8 (c.absorb_eight.ensures i))
    ∙ (λ i. final_halves 8 (after_rest (c.at_seed-halves.ensures i) c.args.bytes.now))
    ∙ hash-eight c.args.seed c.args.bytes.now c.told-bytes

pub returns-clause-first : goal.returns-clause-first
returns-clause-first c = c.end.ensures.first ∙ ap (λ (h : Halves). h.first) (all c)

pub returns-clause-second : goal.returns-clause-second
returns-clause-second c = c.end.ensures.second ∙ ap (λ (h : Halves). h.second) (all c)
