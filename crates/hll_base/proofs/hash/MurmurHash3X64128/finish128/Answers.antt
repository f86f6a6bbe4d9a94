-- SPDX-License-Identifier: Apache-2.0
use Rattle.std.proofs.Common.{◌≡◌, List, ℕ, ◌++◌, ◌-◌, length, take, replicate, ap, sym, ◌∙◌, arith}
use Rattle.std.proofs.lemmas.List.{length-take, length-drop, length-replicate, take-append-drop}
use Rattle.hll_base.specs.Hash.{Halves, hash_of, final_halves}
use Rattle.hll_base.proofs.hash.MurmurHash3X64128.finish128.Goals as goal

-- the halves after the partial block are the hash of all pieces
all : (c : goal.After-end) → final_halves c.self.inside.count c.absorb_rest.new.self ≡ hash_of c.args.self.now
all c =
    let n : ℕ = c.self.inside.partial in
    let block : List ℕ = c.self.inside.block in
    let rest : List ℕ = take n block in
    let filled : block ≡ rest ++ replicate (16 - n) 0 = sym (take-append-drop n block) ∙ ap (λ xs. rest ++ xs) c.self.invariant.1 in
    let size : length rest ≡ n = omega (arith, length-take n block, length-drop n block, ap length c.self.invariant.1, length-replicate {A = ℕ} (16 - n) 0, c.self.invariant.0) in
    ap (final_halves c.self.inside.count) (c.absorb_rest.ensures rest size filled) ∙ ap hash_of c.self.view_is

pub returns-clause-first : goal.returns-clause-first
returns-clause-first c = c.end.ensures.first ∙ ap (λ (h : Halves). h.first) (all c)

pub returns-clause-second : goal.returns-clause-second
returns-clause-second c = c.end.ensures.second ∙ ap (λ (h : Halves). h.second) (all c)
