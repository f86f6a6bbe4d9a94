-- SPDX-License-Identifier: Apache-2.0
use Rattle.std.proofs.Common.{◌≡◌, ◌-◌, inl, inr, length, ap, subst, ◌∙◌, refl, arith}
use Rattle.std.proofs.lemmas.Result.{IfErr-weaker, on_ok_weaker}
use Rattle.hll_merge.specs.Stack.{MergesTail}
use Rattle.hll_merge.proofs.StackLemmas.{carries-union, length-AllRepresent}
use Rattle.hll_merge.proofs.stack.Stack.push_union.Goals as goal

pub returns-in_default-clause-err : goal.returns-in_default-clause-err
returns-in_default-clause-err g c = λ ts h. inr (omega (arith, c.in_default.ensures, c.len.ensures, ap length c.self.view_is, length-AllRepresent c.args.self.now ts h), refl)

pub returns-then-merge_in_place-clause-ok : goal.returns-then-merge_in_place-clause-ok
returns-then-merge_in_place-clause-ok g c =
    let count : c.len.result ≡ length c.args.self.now = omega (arith, c.len.ensures, ap length c.self.view_is) in
    carries-union c.args.self.now c.merge_in_place.new.self c.args.count c.in-Some.at c.args.lg_max_k c.args.hll_type (omega (arith, c.in-Some.ensures.0, count)) (c.in-Some.ensures.1 ∙ ap (λ n. n - c.args.count) count)
    (c.merge_in_place.ensures.union_of_batch c.if-merge_in_place.true)

pub returns-clause-ok : goal.returns-clause-ok
returns-clause-ok g c =
    let count : c.len.result ≡ length c.args.self.now = omega (arith, c.len.ensures, ap length c.self.view_is) in
    let same = c.merge_in_place.ensures.unchanged c.if-merge_in_place.false in
    on_ok_weaker c.merge_aside.result (λ made. carries-union c.args.self.now c.merge_aside.new.self c.args.count c.in-Some.at c.args.lg_max_k c.args.hll_type (omega (arith, c.in-Some.ensures.0, count)) (c.in-Some.ensures.1 ∙ ap (λ n. n - c.args.count) count)
    (subst (λ xs. MergesTail c.in-Some.at c.args.lg_max_k c.args.hll_type xs c.merge_aside.new.self) same made)) c.merge_aside.ensures.ok

pub returns-clause-err : goal.returns-clause-err
returns-clause-err g c = IfErr-weaker c.merge_aside.result _ _ (λ e m ts h. inl m) c.merge_aside.ensures.err
