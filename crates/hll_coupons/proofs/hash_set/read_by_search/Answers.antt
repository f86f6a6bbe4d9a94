-- SPDX-License-Identifier: Apache-2.0
use Rattle.std.proofs.Common.{arith, ℕ, ◌≡◌, ◌≤◌, ◌∙◌, true, sym, ap, subst}
use Rattle.std.specs.FinSet.{contains, insert}
use Rattle.std.proofs.lemmas.Bool.{true≢false}
use Rattle.hll_coupons.specs.Coupons.{AreCoupons}
use Rattle.hll_coupons.specs.Pair.{value_of}
use Rattle.hll_coupons.specs.Probe.{Puts}
use Rattle.hll_coupons.specs.Table.{coupons_of}
use Rattle.hll_coupons.proofs.Members.{member_unless_lacking}
use Rattle.hll_coupons.proofs.Reading.{no_value, twice}
use Rattle.hll_coupons.proofs.SetReading.{read_none, read_over, read_raw_coupon, read_more}
use Rattle.hll_coupons.proofs.hash_set.read_by_search.Goals as goal
use Rattle.hll_coupons.proofs.hash_set.read_by_search.Goals.{else-is_empty-via-then-is_empty+else-not-compact, else-is_empty-via-else-is_empty}

pub loop-init : goal.loop-init
loop-init g c = read_none c.args.compact c.args.buckets c.args.set.now c.args.cursor c.requires.small c.requires.none c.requires.there

pub loop-preserved-then-not-compact : goal.loop-preserved-then-not-compact
loop-preserved-then-not-compact g c =
    let raw_coupon = c.in_ok-read_u32_le.ensures.ok in
    read_over c.args.compact c.args.buckets c.loop.counter _ _ _ c.loop.set c.loop.cursor c.loop.invariant c.loop-test.true c.in_ok-read_u32_le.field-0 c.read_u32_le.new.self raw_coupon.1 raw_coupon.2
    (sym c.from_raw-coupon.ensures ∙ c.is_empty.ensures.0 c.if-is_empty.true) c.if-not-compact.true

pub returns-then-value-eq0-clause-err : goal.returns-then-value-eq0-clause-err
returns-then-value-eq0-clause-err g c =
    let so = c.loop.invariant in
    let raw_coupon = c.in_ok-read_u32_le.ensures.ok in
    let w : ℕ = c.in_ok-read_u32_le.field-0 in
    let filled : w ≡ 0 → c.args.compact ≡ true = λ z. elim c.else-is_empty.branch [
      | else-is_empty-via-then-is_empty+else-not-compact v ↦ v.if-not-compact.false
      | else-is_empty-via-else-is_empty v ↦ absurd (true≢false (sym (c.is_empty.ensures.1 (c.from_raw-coupon.ensures ∙ z)) ∙ v.if-is_empty.false))
    ] in
    let all = read_raw_coupon c.args.compact c.args.buckets c.loop.counter _ _ _ c.loop.set c.loop.cursor so c.loop-test.true w c.read_u32_le.new.self raw_coupon.1 raw_coupon.2 filled in
    (c.new.ensures, λ are. no_value so.order _ w (ap value_of (sym c.from_raw-coupon.ensures) ∙ sym c.value.ensures.value ∙ c.if-value-eq0.true) (subst AreCoupons all are))

pub returns-in-Some-false-clause-err : goal.returns-in-Some-false-clause-err
returns-in-Some-false-clause-err g c =
    let so = c.loop.invariant in
    let raw_coupon = c.in_ok-read_u32_le.ensures.ok in
    let w : ℕ = c.in_ok-read_u32_le.field-0 in
    let filled : w ≡ 0 → c.args.compact ≡ true = λ z. elim c.else-is_empty.branch [
      | else-is_empty-via-then-is_empty+else-not-compact v ↦ v.if-not-compact.false
      | else-is_empty-via-else-is_empty v ↦ absurd (true≢false (sym (c.is_empty.ensures.1 (c.from_raw-coupon.ensures ∙ z)) ∙ v.if-is_empty.false))
    ] in
    let all = read_raw_coupon c.args.compact c.args.buckets c.loop.counter _ _ _ c.loop.set c.loop.cursor so c.loop-test.true w c.read_u32_le.new.self raw_coupon.1 raw_coupon.2 filled in
    let same : c.from_raw-coupon.result ≡ w = c.from_raw-coupon.ensures in
    let there : contains (coupons_of c.loop.set) c.from_raw-coupon.result ≡ true =
    member_unless_lacking (coupons_of c.loop.set) c.from_raw-coupon.result (λ none. true≢false (sym (c.in-Some-false.ensures.new.1 none) ∙ c.in-Some-false.field-0-test)) in
    (c.new-in-Some-false.ensures, λ are. twice so.order _ w ((λ i. contains (sym so.members i) (sym same i)) ∙ there) (subst AreCoupons all are))

pub loop-preserved : goal.loop-preserved
loop-preserved g c =
    let raw_coupon = c.in_ok-read_u32_le.ensures.ok in
    let w : ℕ = c.in_ok-read_u32_le.field-0 in
    let filled : w ≡ 0 → c.args.compact ≡ true = λ z. elim c.else-is_empty.branch [
      | else-is_empty-via-then-is_empty+else-not-compact v ↦ v.if-not-compact.false
      | else-is_empty-via-else-is_empty v ↦ absurd (true≢false (sym (c.is_empty.ensures.1 (c.from_raw-coupon.ensures ∙ z)) ∙ v.if-is_empty.false))
    ] in
    let same : c.from_raw-coupon.result ≡ w = c.from_raw-coupon.ensures in
    let new = c.in-Some-true.ensures in
    read_more c.args.compact c.args.buckets c.loop.counter _ _ _ c.loop.set c.loop.cursor c.loop.invariant c.loop-test.true w c.read_u32_le.new.self raw_coupon.1 raw_coupon.2 c.insert_bounded.new.self filled
    (let v : 1 ≤ value_of w = omega (arith, c.if-value-eq0.false, c.value.ensures.value, ap value_of same) in v)
    (ap (contains (coupons_of c.loop.set)) (sym same) ∙ new.new.0 c.in-Some-true.field-0-test) new.size
    (subst (λ w. Puts (λ c. c) c.loop.set.lg_size c.loop.set.buckets w c.insert_bounded.new.self.buckets) same new.buckets) (new.members ∙ ap (insert (coupons_of c.loop.set)) same) new.set
