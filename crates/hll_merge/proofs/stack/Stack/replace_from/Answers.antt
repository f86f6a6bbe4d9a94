-- SPDX-License-Identifier: Apache-2.0
use Rattle.std.proofs.Common.{◌≡◌, ◌+◌, ◌∷◌, [], ◌++◌, List, take, length, ap, ◌∙◌, arith}
use Rattle.std.specs.List.{swap}
use Rattle.hll_sketch.specs.Layout.{SketchLayout}
use Rattle.hll_merge.proofs.StackLemmas.{replaced_from}
use Rattle.hll_merge.proofs.stack.Stack.replace_from.Goals as goal

pub returns-clause-ok : goal.returns-clause-ok
returns-clause-ok g c =
    let xs : List SketchLayout = c.args.self.now in
    let last : c.len-last.result ≡ length xs = omega (arith, c.len-last.ensures, ap length c.self.view_is) in
    c.truncate.ensures.items
    ∙ ap (take (c.args.at + 1)) (c.swap.ensures.items ∙ (λ i. swap ((c.in_ok-push.ensures.items ∙ ap (λ zs. zs ++ c.args.sketch ∷ []) c.self.view_is) i) c.args.at (last i)))
    ∙ replaced_from xs c.args.at c.args.sketch c.requires
