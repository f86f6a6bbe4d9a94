-- SPDX-License-Identifier: Apache-2.0
use Rattle.std.proofs.Common.{◌≡◌, ◌≢◌, ◌*◌, ◌^◌, ◌<◌, ◌≤◌, inr, length, ap, sym, subst, ◌∙◌, arith, IfErr, Result, Ok, Err}
use Rattle.hll_base.specs.declared.error.Reason.{Reason}
use Rattle.std.proofs.lemmas.Bool.{true≢false}
use Rattle.std.proofs.Math.Pow.{pow_mono}
use Rattle.hll_coupons.specs.Table.{Table, coupons_in, filled_from_front}
use Rattle.hll_coupons.specs.Coupons.{coupons_at, AreCoupons}
use Rattle.hll_coupons.specs.Payload.{ListShape, shape_of_list, HasListCount, list_buckets, list_coupons, list_table, IsListPayload, ListFault}
use Rattle.hll_coupons.specs.Payload as payload
use Rattle.hll_coupons.proofs.Reading.{list_buckets-le, is_list_payload, coupons_in-list_table}
use Rattle.hll_coupons.proofs.list.List.deserialize.Goals as goal

-- what holds without an assumption holds whatever the error is
whatever : {T : Type 0} (r : Result T Reason) (P : Type 0) (Q : Reason → Type 0) → P → IfErr r (λ e. Q e → P)
whatever (Ok x) P Q p = tt
whatever (Err e) P Q p = λ _. p

pub returns-then-not-is_list_count-clause-err : goal.returns-then-not-is_list_count-clause-err
returns-then-not-is_list_count-clause-err g c =
    let h : ListShape = shape_of_list c.args.lg_arr c.args.coupon_count c.args.empty c.args.compact in
    inr (subst (ListFault h c.args.cursor) (sym c.new.ensures) (payload.ListFault.count (λ n. true≢false (sym ((c.is_list_count.ensures c.args.compact).1 n) ∙ c.if-not-is_list_count.true))))

pub overflow_mul-buckets : goal.overflow_mul-buckets
overflow_mul-buckets g c =
    let h : ListShape = shape_of_list c.args.lg_arr c.args.coupon_count c.args.empty c.args.compact in
    let few : HasListCount h = (c.is_list_count.ensures c.args.compact).0 c.if-not-is_list_count.false in
    let most : 2 ^ c.args.lg_arr ≤ 2 ^ 26 = pow_mono c.requires in
    omega (arith, list_buckets-le h few, c.buckets_to_read-buckets.ensures, most)

pub returns-then-remaining-buckets-clause-err : goal.returns-then-remaining-buckets-clause-err
returns-then-remaining-buckets-clause-err g c =
    let h : ListShape = shape_of_list c.args.lg_arr c.args.coupon_count c.args.empty c.args.compact in
    let few : HasListCount h = (c.is_list_count.ensures c.args.compact).0 c.if-not-is_list_count.false in
    let fewer : length c.args.cursor < 4 * list_buckets h = omega (arith, c.if-remaining-buckets.true, c.buckets_to_read-buckets.ensures, ap length c.remaining.ensures) in
    inr (subst (ListFault h c.args.cursor) (sym c.new-then-remaining-buckets.ensures) (payload.ListFault.short few fewer))

pub read_buckets-requires-clause-room : goal.read_buckets-requires-clause-room
read_buckets-requires-clause-room g c =
    let h : ListShape = shape_of_list c.args.lg_arr c.args.coupon_count c.args.empty c.args.compact in
    let few : HasListCount h = (c.is_list_count.ensures c.args.compact).0 c.if-not-is_list_count.false in
    let size : c.in_ok-list.list.lg_size ≡ c.args.lg_arr = ap (λ (t : Table). t.lg_size) c.in_ok-list.ensures.ok in
    omega (arith, list_buckets-le h few, c.buckets_to_read-buckets.ensures, ap (λ n. 2 ^ n) size)

pub returns-in-Ok-clause-ok : goal.returns-in-Ok-clause-ok
returns-in-Ok-clause-ok g c =
    let h : ListShape = shape_of_list c.args.lg_arr c.args.coupon_count c.args.empty c.args.compact in
    let few : HasListCount h = (c.is_list_count.ensures c.args.compact).0 c.if-not-is_list_count.false in
    let n : c.buckets_to_read-buckets.result ≡ list_buckets h = c.buckets_to_read-buckets.ensures in
    let there : 4 * list_buckets h ≤ length c.args.cursor = omega (arith, c.if-remaining-buckets.false, n, ap length c.remaining.ensures) in
    let size : c.in_ok-list.list.lg_size ≡ c.args.lg_arr = ap (λ (t : Table). t.lg_size) c.in_ok-list.ensures.ok in
    let read = subst (λ k. (c.read_buckets.new.list ≡ filled_from_front c.in_ok-list.list.lg_size (coupons_at c.args.compact k c.args.cursor)) × AreCoupons (coupons_at c.args.compact k c.args.cursor)) n c.in-Ok.ensures.ok in
    let table : c.read_buckets.new.list ≡ list_table h c.args.cursor = read.0 ∙ ap (λ k. filled_from_front k (list_coupons h c.args.cursor)) size in
    let number : length (list_coupons h c.args.cursor) ≡ c.args.coupon_count =
    sym (ap length (coupons_in-list_table h c.args.cursor read.1)) ∙ sym (ap (λ (t : Table). length (coupons_in t.buckets)) table) ∙ ap (λ (t : Table). length (coupons_in t.buckets)) (sym c.list.view_is) ∙ sym c.len.ensures.count ∙ c.if-len-coupon_count.true in
    (is_list_payload h c.args.cursor few there read.1 number, table)

pub returns-in-Ok-2-clause-err : goal.returns-in-Ok-2-clause-err
returns-in-Ok-2-clause-err g c =
    let h : ListShape = shape_of_list c.args.lg_arr c.args.coupon_count c.args.empty c.args.compact in
    let few : HasListCount h = (c.is_list_count.ensures c.args.compact).0 c.if-not-is_list_count.false in
    let n : c.buckets_to_read-buckets.result ≡ list_buckets h = c.buckets_to_read-buckets.ensures in
    let there : 4 * list_buckets h ≤ length c.args.cursor = omega (arith, c.if-remaining-buckets.false, n, ap length c.remaining.ensures) in
    let size : c.in_ok-list.list.lg_size ≡ c.args.lg_arr = ap (λ (t : Table). t.lg_size) c.in_ok-list.ensures.ok in
    let read = subst (λ k. (c.read_buckets.new.list ≡ filled_from_front c.in_ok-list.list.lg_size (coupons_at c.args.compact k c.args.cursor)) × AreCoupons (coupons_at c.args.compact k c.args.cursor)) n c.in-Ok-2.ensures.ok in
    let table : c.read_buckets.new.list ≡ list_table h c.args.cursor = read.0 ∙ ap (λ k. filled_from_front k (list_coupons h c.args.cursor)) size in
    let other : length (list_coupons h c.args.cursor) ≢ c.args.coupon_count = λ same. c.if-len-coupon_count.false (
    c.len.ensures.count ∙ ap (λ (t : Table). length (coupons_in t.buckets)) (c.list.view_is ∙ table) ∙ ap length (coupons_in-list_table h c.args.cursor read.1) ∙ same) in
    inr (subst (ListFault h c.args.cursor) (sym c.new-in-Ok-2.ensures) (payload.ListFault.number few there other))

pub returns-in-Err-clause-err : goal.returns-in-Err-clause-err
returns-in-Err-clause-err g c =
    let h : ListShape = shape_of_list c.args.lg_arr c.args.coupon_count c.args.empty c.args.compact in
    let few : HasListCount h = (c.is_list_count.ensures c.args.compact).0 c.if-not-is_list_count.false in
    let n : c.buckets_to_read-buckets.result ≡ list_buckets h = c.buckets_to_read-buckets.ensures in
    let there : 4 * list_buckets h ≤ length c.args.cursor = omega (arith, c.if-remaining-buckets.false, n, ap length c.remaining.ensures) in
    let fault = c.in-Err.ensures.err in
    let none : AreCoupons (list_coupons h c.args.cursor) → ⊥ = λ are. fault.1 (subst (λ k. AreCoupons (coupons_at c.args.compact k c.args.cursor)) (sym n) are) in
    inr (subst (ListFault h c.args.cursor) (sym fault.0) (payload.ListFault.coupon few there none))

pub returns-then-not-is_list_count-clause-order : goal.returns-then-not-is_list_count-clause-order
returns-then-not-is_list_count-clause-order g c = λ _ n. absurd (true≢false (sym ((c.is_list_count.ensures c.args.compact).1 n) ∙ c.if-not-is_list_count.true))

pub returns-in_err-list-clause-asked : goal.returns-in_err-list-clause-asked
returns-in_err-list-clause-asked g c =
    let h : ListShape = shape_of_list c.args.lg_arr c.args.coupon_count c.args.empty c.args.compact in
    let few : HasListCount h = (c.is_list_count.ensures c.args.compact).0 c.if-not-is_list_count.false in
    let there : 4 * list_buckets h ≤ length c.args.cursor = omega (arith, c.if-remaining-buckets.false, c.buckets_to_read-buckets.ensures, ap length c.remaining.ensures) in
    whatever c.from_residual.result _ _ (few, there)
