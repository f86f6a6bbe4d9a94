-- SPDX-License-Identifier: Apache-2.0
use Rattle.std.proofs.Common.{arith, ◌≡◌, ◌≢◌, ◌+◌, ◌*◌, ◌^◌, ◌<◌, ◌≤◌, ◌∙◌, ◌⊎◌, inl, inr, cond, length, sym, ap, subst}
use Rattle.std.specs.FinSet.{len}
use Rattle.std.proofs.lemmas.List.{length-drop}
use Rattle.std.proofs.Math.Pow.{pow_mono}
use Rattle.hll_base.proofs.Errors.{IfErr-passed}
use Rattle.hll_base.specs.declared.error.Reason.TheVariants.{Memory}
use Rattle.hll_coupons.specs.Coupons.{coupons_at, AreCoupons}
use Rattle.hll_coupons.specs.Payload.{SetShape, shape_of_set, HasSetCount, set_coupons, set_count, set_buckets, SetFault}
use Rattle.hll_coupons.specs.Payload as payload
use Rattle.hll_coupons.specs.Table.{Table, coupons_in, coupons_of}
use Rattle.hll_coupons.proofs.SetReading.{is_read, is_set_payload, set_buckets-le}
use Rattle.hll_coupons.proofs.hash_set.HashSet.deserialize.Goals as goal

pub returns-in_err-count-clause-err : goal.returns-in_err-count-clause-err
returns-in_err-count-clause-err g c =
    let h : SetShape = shape_of_set c.args.lg_arr c.args.compact in
    let e = c.in_err-count.ensures.err in
    IfErr-passed (λ r. (r ≡ Memory) ⊎ SetFault h c.args.cursor r) c.from_residual.result c.in_err-count.field-0.0 c.from_residual.ensures.1
    (inr (subst (SetFault h c.args.cursor) (sym e.0) (payload.SetFault.no_count e.1)))

pub returns-then-count-buckets_of-clause-err : goal.returns-then-count-buckets_of-clause-err
returns-then-count-buckets_of-clause-err g c =
    let h : SetShape = shape_of_set c.args.lg_arr c.args.compact in
    let whole = c.in_ok-count.ensures.ok in
    inr (subst (SetFault h c.args.cursor) (sym c.new.ensures) (payload.SetFault.count whole.0 (omega (arith, c.if-count-buckets_of.true, c.buckets_of.ensures, whole.1))))

pub overflow_mul-buckets : goal.overflow_mul-buckets
overflow_mul-buckets g c =
    let h : SetShape = shape_of_set c.args.lg_arr c.args.compact in
    let whole = c.in_ok-count.ensures.ok in
    let few : HasSetCount h c.args.cursor = record { whole = whole.0; low = omega (arith, c.if-count-buckets_of.false, c.buckets_of.ensures, whole.1) } in
    let n : c.buckets_to_read-buckets.result ≡ set_buckets h c.args.cursor = c.buckets_to_read-buckets.ensures ∙ ap (λ m. cond c.args.compact m (2 ^ c.args.lg_arr)) whole.1 in
    let most : 2 ^ c.args.lg_arr ≤ 2 ^ 26 = pow_mono c.requires in
    omega (arith, set_buckets-le h c.args.cursor few, n, most)

pub returns-then-remaining-buckets-clause-err : goal.returns-then-remaining-buckets-clause-err
returns-then-remaining-buckets-clause-err g c =
    let h : SetShape = shape_of_set c.args.lg_arr c.args.compact in
    let whole = c.in_ok-count.ensures.ok in
    let few : HasSetCount h c.args.cursor = record { whole = whole.0; low = omega (arith, c.if-count-buckets_of.false, c.buckets_of.ensures, whole.1) } in
    let n : c.buckets_to_read-buckets.result ≡ set_buckets h c.args.cursor = c.buckets_to_read-buckets.ensures ∙ ap (λ m. cond c.args.compact m (2 ^ c.args.lg_arr)) whole.1 in
    let fewer : length c.args.cursor < 4 + 4 * set_buckets h c.args.cursor = omega (arith, c.if-remaining-buckets.true, n, whole.0, ap length c.remaining.ensures, ap length whole.2, length-drop 4 c.args.cursor) in
    inr (subst (SetFault h c.args.cursor) (sym c.new-then-remaining-buckets.ensures) (payload.SetFault.short few fewer))

pub returns-in-Ok-clause-ok : goal.returns-in-Ok-clause-ok
returns-in-Ok-clause-ok g c =
    let h : SetShape = shape_of_set c.args.lg_arr c.args.compact in
    let whole = c.in_ok-count.ensures.ok in
    let few : HasSetCount h c.args.cursor = record { whole = whole.0; low = omega (arith, c.if-count-buckets_of.false, c.buckets_of.ensures, whole.1) } in
    let n : c.buckets_to_read-buckets.result ≡ set_buckets h c.args.cursor = c.buckets_to_read-buckets.ensures ∙ ap (λ m. cond c.args.compact m (2 ^ c.args.lg_arr)) whole.1 in
    let there : 4 + 4 * set_buckets h c.args.cursor ≤ length c.args.cursor = omega (arith, c.if-remaining-buckets.false, n, whole.0, ap length c.remaining.ensures, ap length whole.2, length-drop 4 c.args.cursor) in
    let read = is_read h c.args.cursor c.in_ok-set.set c.read_buckets.new.set c.buckets_to_read-buckets.result c.read_u32_le.new.self c.in_ok-set.ensures.ok c.in-Ok.ensures.size n whole.2 c.in-Ok.ensures.ok.0 c.in-Ok.ensures.ok.1 c.in-Ok.ensures.members
    (subst (λ (u : Table). len (coupons_of u) ≡ length (coupons_in u.buckets)) c.set.view_is c.set.invariant.table.distinct) in
    let counted : length (set_coupons h c.args.cursor) ≡ set_count c.args.cursor =
    sym read.number ∙ ap (λ (u : Table). length (coupons_in u.buckets)) (sym c.set.view_is) ∙ sym c.len.ensures.count ∙ c.if-len-count.true ∙ whole.1 in
    (is_set_payload h c.args.cursor few there read.are counted, read.table)

pub returns-in-Ok-2-clause-err : goal.returns-in-Ok-2-clause-err
returns-in-Ok-2-clause-err g c =
    let h : SetShape = shape_of_set c.args.lg_arr c.args.compact in
    let whole = c.in_ok-count.ensures.ok in
    let few : HasSetCount h c.args.cursor = record { whole = whole.0; low = omega (arith, c.if-count-buckets_of.false, c.buckets_of.ensures, whole.1) } in
    let n : c.buckets_to_read-buckets.result ≡ set_buckets h c.args.cursor = c.buckets_to_read-buckets.ensures ∙ ap (λ m. cond c.args.compact m (2 ^ c.args.lg_arr)) whole.1 in
    let there : 4 + 4 * set_buckets h c.args.cursor ≤ length c.args.cursor = omega (arith, c.if-remaining-buckets.false, n, whole.0, ap length c.remaining.ensures, ap length whole.2, length-drop 4 c.args.cursor) in
    let read = is_read h c.args.cursor c.in_ok-set.set c.read_buckets.new.set c.buckets_to_read-buckets.result c.read_u32_le.new.self c.in_ok-set.ensures.ok c.in-Ok-2.ensures.size n whole.2 c.in-Ok-2.ensures.ok.0 c.in-Ok-2.ensures.ok.1 c.in-Ok-2.ensures.members
    (subst (λ (u : Table). len (coupons_of u) ≡ length (coupons_in u.buckets)) c.set.view_is c.set.invariant.table.distinct) in
    let other : length (set_coupons h c.args.cursor) ≢ set_count c.args.cursor = λ same. c.if-len-count.false (
    c.len.ensures.count ∙ ap (λ (u : Table). length (coupons_in u.buckets)) c.set.view_is ∙ read.number ∙ same ∙ sym whole.1) in
    inr (subst (SetFault h c.args.cursor) (sym c.new-in-Ok-2.ensures) (payload.SetFault.number few there other))

pub returns-in-Err-clause-err : goal.returns-in-Err-clause-err
returns-in-Err-clause-err g c =
    let h : SetShape = shape_of_set c.args.lg_arr c.args.compact in
    let whole = c.in_ok-count.ensures.ok in
    let few : HasSetCount h c.args.cursor = record { whole = whole.0; low = omega (arith, c.if-count-buckets_of.false, c.buckets_of.ensures, whole.1) } in
    let n : c.buckets_to_read-buckets.result ≡ set_buckets h c.args.cursor = c.buckets_to_read-buckets.ensures ∙ ap (λ m. cond c.args.compact m (2 ^ c.args.lg_arr)) whole.1 in
    let there : 4 + 4 * set_buckets h c.args.cursor ≤ length c.args.cursor = omega (arith, c.if-remaining-buckets.false, n, whole.0, ap length c.remaining.ensures, ap length whole.2, length-drop 4 c.args.cursor) in
    elim c.in-Err.ensures.err [
      | inl memory ↦ inl memory
      | inr fault ↦
          let none : AreCoupons (set_coupons h c.args.cursor) → ⊥ = λ are. fault.1 (subst (λ cs. AreCoupons cs) (λ i. coupons_at c.args.compact (sym n i) (sym whole.2 i)) are) in
          inr (subst (SetFault h c.args.cursor) (sym fault.0) (payload.SetFault.coupon few there none))
    ]
