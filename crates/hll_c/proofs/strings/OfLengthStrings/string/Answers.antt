-- SPDX-License-Identifier: Apache-2.0
use Rattle.std.proofs.Common.{ℕ, ◌*◌, ◌/◌, ◌+◌, ◌<◌, ◌≤◌, List, length, take, drop, refl, sym, ap, ◌∙◌, arith}
use Rattle.hll_c.specs.Batches.{strings_of_length}
use Rattle.hll_c.proofs.StringsByNumber.{string_of_length, length-strings_by, string_at, of_length_within, one_length}
use Rattle.hll_c.proofs.strings.OfLengthStrings.string.Goals as goal

-- it is within the bytes
within : (bytes : List ℕ) (len number : ℕ) → number < length (strings_of_length len bytes) → number * len + len ≤ length bytes
within bytes len number inside =
    let n : ℕ = length bytes / len in
    of_length_within (length bytes) len n number refl (omega (arith, inside, length-strings_by (string_of_length len bytes) n))

pub overflow_mul-start : goal.overflow_mul-start
overflow_mul-start c = let inside = within c.args.self.now.bytes.now c.args.self.now.len c.args.number c.requires.within in grind (arith, inside)

pub overflow_add-result : goal.overflow_add-result
overflow_add-result c = let inside = within c.args.self.now.bytes.now c.args.self.now.len c.args.number c.requires.within in grind (arith, inside)

pub slice_bounds-result-end : goal.slice_bounds-result-end
slice_bounds-result-end c = within c.args.self.now.bytes.now c.args.self.now.len c.args.number c.requires.within

pub returns : goal.returns
returns c =
    let len : ℕ = c.args.self.now.len in
    let bytes : List ℕ = c.args.self.now.bytes.now in
    ap (λ m. take m (drop (c.args.number * len) bytes)) (one_length c.args.number len) ∙ sym (string_at (string_of_length len bytes) (length bytes / len) c.args.number c.requires.within)
