-- SPDX-License-Identifier: Apache-2.0
use Rattle.std.proofs.Common.{◌≡◌, ◌+◌, ℕ, List, ap, ◌∙◌, sym, arith, refl, get_or, ◌∷◌, []}
use Rattle.hll_kernels.specs.Groups.{group_fields}
use Rattle.hll_kernels.specs.Lanes.{max_at}
use Rattle.hll_kernels.proofs.SixBitLanes.{max_four, fields-group}
use Rattle.hll_kernels.proofs.groups.max_with_group.Goals as goal

pub returns : goal.returns
returns c =
    let V : List ℕ = c.args.values.now in
    let at : ℕ = c.args.at in
    let G : List ℕ = group_fields c.args.group in
    let u : (k : ℕ) → get_or c.unpack_group.result k 0 ≡ get_or G k 0 = λ k. ap (λ S. get_or S k 0) c.unpack_group.ensures.fields in
    let s1 : c.max_one.new.dst ≡ max_at at V (get_or G 0 0 ∷ []) = c.max_one.ensures ∙ ap (λ v. max_at at V (v ∷ [])) (u 0) in
    let s2 : c.max_one-2.new.dst ≡ max_at (at + 1) c.max_one.new.dst (get_or G 1 0 ∷ []) = c.max_one-2.ensures ∙ ap (λ v. max_at (at + 1) c.max_one.new.dst (v ∷ [])) (u 1) in
    let s3 : c.max_one-3.new.dst ≡ max_at (at + 2) c.max_one-2.new.dst (get_or G 2 0 ∷ []) = c.max_one-3.ensures ∙ ap (λ v. max_at (at + 2) c.max_one-2.new.dst (v ∷ [])) (u 2) in
    let s4 : c.max_one-4.new.dst ≡ max_at (at + 3) c.max_one-3.new.dst (get_or G 3 0 ∷ []) = c.max_one-4.ensures ∙ ap (λ v. max_at (at + 3) c.max_one-3.new.dst (v ∷ [])) (u 3) in
    s4 ∙ ap (λ S. max_at (at + 3) S (get_or G 3 0 ∷ [])) (s3 ∙ ap (λ S. max_at (at + 2) S (get_or G 2 0 ∷ [])) (s2 ∙ ap (λ S. max_at (at + 1) S (get_or G 1 0 ∷ [])) s1))
    ∙ max_four at (at + 1) (at + 2) (at + 3) 1 V (get_or G 0 0 ∷ []) (get_or G 1 0 ∷ []) (get_or G 2 0 ∷ []) (get_or G 3 0 ∷ []) refl refl refl refl refl refl (omega (arith, c.requires))
    ∙ ap (max_at at V) (sym (fields-group c.args.group (omega arith)))
