-- SPDX-License-Identifier: Apache-2.0
use Rattle.std.proofs.Common.{◌≡◌, ℕ, ◌-◌, ◌*◌, ◌^◌, ◌≤◌, List, length, take, false, nat_eq, sym, ap, ◌∙◌, arith}
use Rattle.std.specs.FinSet.{len}
use Rattle.std.proofs.lemmas.List.{length-take-le}
use Rattle.hll_arrays.specs.FewExceptions.{registers_with}
use Rattle.hll_sketch.proofs.Emptiness.{zeros-empty}
use Rattle.hll_sketch.specs.Value.{is_empty, pairs_in, in_registers}
use Rattle.hll_state.specs.Counter.{content_of}
use Rattle.hll_state.specs.CouponRun.{raws}
use Rattle.hll_state.specs.Registers.{values}
use Rattle.hll_state.proofs.FewExceptions.{length-registers_with, not_all_zero}
use Rattle.hll_state.proofs.MergedBytes.{many, some_merged, there}
use Rattle.hll_state.proofs.Parts.{length-values-take}
use Rattle.hll_state.proofs.Values.{four_each}
use Rattle.hll_state.proofs.header.Header.max_with_few_exceptions.Goals as goal

pub max_with_few_exceptions-requires-clause-most : goal.max_with_few_exceptions-requires-clause-most
max_with_few_exceptions-requires-clause-most c =
    let found = c.has_registers_at.ensures.has c.if-not-has_registers_at.false in
    omega (arith, found.0, c.requires.within.lg_k.high)

pub max_with_few_exceptions-requires-clause-size : goal.max_with_few_exceptions-requires-clause-size
max_with_few_exceptions-requires-clause-size c =
    let k : ℕ = c.args.few.now.lg_k in
    let found = c.has_registers_at.ensures.has c.if-not-has_registers_at.false in
    let here : 2 ^ (k - 2) ≤ length c.args.body.now = there c.args.self.now k (length c.args.body.now) found.2.0 found.0 found.2.1 c.requires.within.held in
    length-take-le c.two_to.result c.args.body.now (omega (arith, here, c.two_to.ensures)) ∙ c.two_to.ensures

pub max_with_few_exceptions-requires-clause-many : goal.max_with_few_exceptions-requires-clause-many
max_with_few_exceptions-requires-clause-many c =
    let k : ℕ = c.args.few.now.lg_k in
    let found = c.has_registers_at.ensures.has c.if-not-has_registers_at.false in
    let here : 2 ^ (k - 2) ≤ length c.args.body.now = there c.args.self.now k (length c.args.body.now) found.2.0 found.0 found.2.1 c.requires.within.held in
    omega (arith, length-take-le c.two_to.result c.args.body.now (omega (arith, here, c.two_to.ensures)), c.two_to.ensures, many k found.1)

pub returns-clause-merged : goal.returns-clause-merged
returns-clause-merged c _ y t k is some =
    let h = c.args.self.now in
    let body = c.args.body.now in
    let e : ℕ = c.args.few.now.lg_k in
    let Q : List ℕ = registers_with e c.args.few.now.minimum c.args.few.now.nibbles.now (raws c.args.few.now.entries.now) in
    let n : ℕ = c.two_to.result in
    let found = c.has_registers_at.ensures.has c.if-not-has_registers_at.false in
    let here : 2 ^ (e - 2) ≤ length body = there h e (length body) found.2.0 found.0 found.2.1 c.requires.within.held in
    let at : n ≡ 2 ^ (h.lg_k - 2) = c.two_to.ensures ∙ ap (λ m. 2 ^ (m - 2)) (sym found.0) in
    let size : length Q ≡ 2 ^ h.lg_k = length-registers_with e c.args.few.now.minimum c.args.few.now.nibbles.now (raws c.args.few.now.entries.now) c.requires.parts ∙ ap (λ m. 2 ^ m) (sym found.0) in
    let own : length (values (take n body)) ≡ 2 ^ h.lg_k = length-values-take n body c.told-body (omega (arith, here, c.two_to.ensures)) ∙ ap (λ m. 4 * m) at ∙ four_each h.lg_k (omega (arith, c.requires.within.lg_k.low)) in
    let long : length c.max_with_few_exceptions.new.elements ≡ n = c.max_with_few_exceptions.auto.elements ∙ length-take-le n body (omega (arith, here, c.two_to.ensures)) in
    let not_empty : is_empty y ≡ false =
    ap (λ x. nat_eq (len (pairs_in x)) 0) is ∙ sym (zeros-empty Q) ∙ not_all_zero e c.args.few.now.minimum c.args.few.now.nibbles.now (raws c.args.few.now.entries.now) c.requires.parts in
    some_merged h found.2.0 Q body c.max_with_few_exceptions.new.elements n found.2.1 size (omega (arith, c.requires.within.lg_k.high)) at own long c.max_with_few_exceptions.ensures y t (k ∙ sym found.0) is not_empty
    (some (ap (λ x. in_registers (content_of h.lg_k x body)) found.2.1))

pub returns-clause-registers : goal.returns-clause-registers
returns-clause-registers c _ =
    let found = c.has_registers_at.ensures.has c.if-not-has_registers_at.false in
    ap (λ x. in_registers (content_of c.args.self.now.lg_k x c.args.body.now)) found.2.1
