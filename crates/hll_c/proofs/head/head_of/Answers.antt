-- SPDX-License-Identifier: Apache-2.0
use Rattle.std.proofs.Common.{◌≡◌, List, ℕ, None, sym, ap, subst, ◌∙◌}
use Rattle.hll_sketch.specs.Checks.{first_failing, header_checks, count_fault}
use Rattle.hll_sketch.specs.Image.{IsReadAs, IsSizeOfImage, asked_size}
use Rattle.hll_sketch.specs.Value.{Sketch}
use Rattle.hll_sketch.proofs.CountChecks.{header_if_read, counted_if_read}
use Rattle.hll_sketch.proofs.ImageSizes.{size_is_asked}
use Rattle.hll_c.specs.Head.{head_of, head_by}
use Rattle.hll_c.specs.declared.head.HllHead.{HllHead}
use Rattle.hll_c.proofs.head.head_of.Goals as goal

-- the size in the head of an image
size_of_head : (b : List ℕ) (x : Sketch) → IsReadAs b x → (head_of b).size ≡ asked_size b
size_of_head b x read =
    let header : first_failing (header_checks b) ≡ None = header_if_read b x read in
    let counts : count_fault b ≡ None = counted_if_read b x read in
    λ i. (head_by b (header i) (counts i)).size

pub returns-clause-ok : goal.returns-clause-ok
returns-clause-ok c =
    let b : List ℕ = c.args.image.now in
    record {
      is = c.found_in.ensures;
      exact = λ x read. subst (IsSizeOfImage b) (sym (ap (λ (h : HllHead). h.size) c.found_in.ensures ∙ size_of_head b x read)) (size_is_asked b x read);
    }
