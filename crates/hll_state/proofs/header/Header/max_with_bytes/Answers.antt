-- SPDX-License-Identifier: Apache-2.0
use Rattle.std.proofs.Common.{◌≡◌, ℕ, ◌-◌, ◌*◌, ◌^◌, ◌≤◌, List, length, take, true, false, nat_eq, sym, ap, ◌∙◌, arith}
use Rattle.std.specs.FinSet.{len}
use Rattle.std.specs.List.{list_all}
use Rattle.std.proofs.lemmas.Bool.{eqb-true}
use Rattle.std.proofs.lemmas.List.{length-take-le}
use Rattle.hll_base.specs.Join.{join}
use Rattle.hll_coupons.specs.Fold.{pairs}
use Rattle.hll_coupons.proofs.Registers.{fold_to-pairs}
use Rattle.hll_sketch.proofs.Emptiness.{zeros-empty}
use Rattle.hll_sketch.proofs.MaxBytes.{joined-none}
use Rattle.hll_sketch.specs.Value.{is_empty, pairs_in, in_registers}
use Rattle.hll_state.specs.Counter.{content_of}
use Rattle.hll_state.specs.Registers.{values}
use Rattle.hll_state.proofs.NibbleParts.{whole_blocks}
use Rattle.hll_state.proofs.MergedBytes.{many, none_above, some_above, some_merged, none_merged, there}
use Rattle.hll_state.proofs.Parts.{length-values-take}
use Rattle.hll_state.proofs.Values.{four_each}
use Rattle.hll_state.proofs.header.Header.max_with_bytes.Goals as goal

pub max_with_bytes-greatest-requires-clause-size : goal.max_with_bytes-greatest-requires-clause-size
max_with_bytes-greatest-requires-clause-size c =
    let found = c.has_registers_at.ensures.has c.if-not-has_registers_at.false in
    let here : 2 ^ (c.args.lg_k - 2) ≤ length c.args.body.now = there c.args.self.now c.args.lg_k (length c.args.body.now) found.2.0 found.0 found.2.1 c.requires.within.held in
    omega (arith, c.requires.size, length-take-le c.two_to.result c.args.body.now (omega (arith, here, c.two_to.ensures)), c.two_to.ensures, four_each c.args.lg_k (omega (arith, found.1)))

pub max_with_bytes-greatest-requires-clause-sixteens : goal.max_with_bytes-greatest-requires-clause-sixteens
max_with_bytes-greatest-requires-clause-sixteens c =
    let found = c.has_registers_at.ensures.has c.if-not-has_registers_at.false in
    let here : 2 ^ (c.args.lg_k - 2) ≤ length c.args.body.now = there c.args.self.now c.args.lg_k (length c.args.body.now) found.2.0 found.0 found.2.1 c.requires.within.held in
    let long : length (take c.two_to.result c.args.body.now) ≡ 2 ^ (c.args.lg_k - 2) = length-take-le c.two_to.result c.args.body.now (omega (arith, here, c.two_to.ensures)) ∙ c.two_to.ensures in
    whole_blocks (length (take c.two_to.result c.args.body.now)) c.args.lg_k long (omega (arith, long, many c.args.lg_k found.1))

pub returns-then-greatest-gt0-clause-merged : goal.returns-then-greatest-gt0-clause-merged
returns-then-greatest-gt0-clause-merged c y t k is some =
    let h = c.args.self.now in
    let body = c.args.body.now in
    let Q : List ℕ = c.args.bytes.now in
    let n : ℕ = c.two_to.result in
    let found = c.has_registers_at.ensures.has c.if-not-has_registers_at.false in
    let here : 2 ^ (c.args.lg_k - 2) ≤ length body = there h c.args.lg_k (length body) found.2.0 found.0 found.2.1 c.requires.within.held in
    let at : n ≡ 2 ^ (h.lg_k - 2) = c.two_to.ensures ∙ ap (λ m. 2 ^ (m - 2)) (sym found.0) in
    let size : length Q ≡ 2 ^ h.lg_k = c.requires.size ∙ ap (λ m. 2 ^ m) (sym found.0) in
    let own : length (values (take n body)) ≡ 2 ^ h.lg_k = length-values-take n body c.told-body (omega (arith, here, c.two_to.ensures)) ∙ ap (λ m. 4 * m) at ∙ four_each h.lg_k (omega (arith, c.requires.within.lg_k.low)) in
    let long : length c.max_with_bytes-greatest.new.elements ≡ n = c.max_with_bytes-greatest.auto.elements ∙ length-take-le n body (omega (arith, here, c.two_to.ensures)) in
    let not_empty : is_empty y ≡ false =
    ap (λ x. nat_eq (len (pairs_in x)) 0) is ∙ sym (zeros-empty Q) ∙ some_above Q c.max_with_bytes-greatest.result (c.max_with_bytes-greatest.ensures.greatest 0) c.if-greatest-gt0.true in
    some_merged h found.2.0 Q body c.max_with_bytes-greatest.new.elements n found.2.1 size (omega (arith, c.requires.within.lg_k.high)) at own long c.max_with_bytes-greatest.ensures.joined y t (k ∙ sym found.0) is not_empty
    (some (ap (λ x. in_registers (content_of h.lg_k x body)) found.2.1))

pub returns-else-greatest-gt0-clause-merged : goal.returns-else-greatest-gt0-clause-merged
returns-else-greatest-gt0-clause-merged c y t k is some =
    let h = c.args.self.now in
    let body = c.args.body.now in
    let Q : List ℕ = c.args.bytes.now in
    let n : ℕ = c.two_to.result in
    let found = c.has_registers_at.ensures.has c.if-not-has_registers_at.false in
    let here : 2 ^ (c.args.lg_k - 2) ≤ length body = there h c.args.lg_k (length body) found.2.0 found.0 found.2.1 c.requires.within.held in
    let at : n ≡ 2 ^ (h.lg_k - 2) = c.two_to.ensures ∙ ap (λ m. 2 ^ (m - 2)) (sym found.0) in
    let size : length Q ≡ 2 ^ h.lg_k = c.requires.size ∙ ap (λ m. 2 ^ m) (sym found.0) in
    let own : length (values (take n body)) ≡ 2 ^ h.lg_k = length-values-take n body c.told-body (omega (arith, here, c.two_to.ensures)) ∙ ap (λ m. 4 * m) at ∙ four_each h.lg_k (omega (arith, c.requires.within.lg_k.low)) in
    let long : length c.max_with_bytes-greatest.new.elements ≡ n = c.max_with_bytes-greatest.auto.elements ∙ length-take-le n body (omega (arith, here, c.two_to.ensures)) in
    let zeros : list_all (λ b. nat_eq b 0) Q ≡ true = none_above Q c.max_with_bytes-greatest.result (c.max_with_bytes-greatest.ensures.greatest 0) (omega (arith, c.if-greatest-gt0.false)) in
    let none : nat_eq (len (pairs Q)) 0 ≡ true = sym (zeros-empty Q) ∙ zeros in
    let same : values c.max_with_bytes-greatest.new.elements ≡ values (take n body) =
    c.max_with_bytes-greatest.ensures.joined
    ∙ ap (join (values (take n body))) (sym (fold_to-pairs Q h.lg_k (omega (arith, c.requires.within.lg_k.high)) size))
    ∙ sym (joined-none (values (take n body)) (pairs Q) h.lg_k own (eqb-true _ 0 none)) in
    none_merged h found.2.0 Q body c.max_with_bytes-greatest.new.elements n found.2.1 size (omega (arith, c.requires.within.lg_k.high)) at own long c.max_with_bytes-greatest.ensures.joined y
    (ap (λ x. nat_eq (len (pairs_in x)) 0) is ∙ none) same

pub returns-then-greatest-gt0-clause-registers : goal.returns-then-greatest-gt0-clause-registers
returns-then-greatest-gt0-clause-registers c =
    let found = c.has_registers_at.ensures.has c.if-not-has_registers_at.false in
    ap (λ x. in_registers (content_of c.args.self.now.lg_k x c.args.body.now)) found.2.1

pub returns-else-greatest-gt0-clause-registers : goal.returns-else-greatest-gt0-clause-registers
returns-else-greatest-gt0-clause-registers c =
    let found = c.has_registers_at.ensures.has c.if-not-has_registers_at.false in
    ap (λ x. in_registers (content_of c.args.self.now.lg_k x c.args.body.now)) found.2.1
