-- SPDX-License-Identifier: Apache-2.0
use Rattle.std.proofs.Common.{◌≡◌, length, drop, ◌++◌, sym, ap, ◌∙◌}
use Rattle.std.proofs.Math.Seq.{drop-append_seam}
use Rattle.std.proofs.lemmas.List.{length-take-le}
use Rattle.hll_state.proofs.header.Header.write.Goals as goal

pub returns-clause-rest : goal.returns-clause-rest
returns-clause-rest c =
    let front = c.copy_from_slice.new.self in
    let rest = drop 10 c.args.elements.now in
    let ten : 10 ≡ length front = sym (c.copy_from_slice.ensures.len ∙ length-take-le 10 c.args.elements.now c.requires.there) in
    ap (λ n. drop n (front ++ rest)) ten ∙ drop-append_seam front rest
