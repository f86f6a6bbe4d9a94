-- SPDX-License-Identifier: Apache-2.0
use Rattle.std.proofs.Common.{ℕ, List, ◌∙◌}
use Rattle.std.proofs.lemmas.List.{take_rest}
use Rattle.std.proofs.lemmas.Result.{IfOk-weaker, IfErr-weaker}
use Rattle.hll_sketch.specs.Layout.{sketch_of}
use Rattle.hll_sketch.proofs.Turns.{in_two_parts, some_after}
use Rattle.hll_sketch.proofs.sketch.HllSketch.update_with_raw_coupons.Goals as goal

pub returns-clause-ok : goal.returns-clause-ok
returns-clause-ok g c =
    let n : ℕ = c.in_ok-count.count in
    let cs : List ℕ = c.args.raw_coupons.now in
    IfOk-weaker c.update_registers.result _ _
    (λ _ added. added ∙ in_two_parts (sketch_of c.args.self.now) (sketch_of c.update_while_table.new.self) cs _ n c.in_ok-count.ensures.ok (take_rest cs n)) c.update_registers.ensures.ok

pub returns-clause-stopped : goal.returns-clause-stopped
returns-clause-stopped g c =
    let n : ℕ = c.in_ok-count.count in
    let cs : List ℕ = c.args.raw_coupons.now in
    IfErr-weaker c.update_registers.result _ _
    (λ _ some. some_after (sketch_of c.args.self.now) (sketch_of c.update_while_table.new.self) _ cs _ n c.in_ok-count.ensures.ok (take_rest cs n) some) c.update_registers.ensures.stopped
