-- SPDX-License-Identifier: Apache-2.0
use Rattle.std.proofs.Common.{◌≡◌, ℕ, length, sym, subst, ◌∙◌}
use Rattle.std.proofs.lemmas.Result.{IfOk-weaker}
use Rattle.hll_coupons.specs.Pair.{Pairs}
use Rattle.hll_coupons.proofs.Ascending.{len-ascending}
use Rattle.hll_sketch.specs.EstimatorFields.{FillsFields}
use Rattle.hll_sketch.specs.Value.{IsTableFor}
use Rattle.hll_state.specs.Counter.{content_of_coupons}
use Rattle.hll_state.specs.CouponRun.{members}
use Rattle.hll_state.proofs.Rooms.{used_within}
use Rattle.hll_state.proofs.Settled.{resolved_count}
use Rattle.hll_c.specs.Answers.{IsImageOf}
use Rattle.hll_c.proofs.States.{HasTable, table_for, content_in_table, coupons_written}
use Rattle.hll_c.proofs.state.image_of_coupons.Goals as goal

pub coupon_image-requires-clause-table : goal.coupon_image-requires-clause-table
coupon_image-requires-clause-table c =
    let k : ℕ = c.args.lg_k in
    let t = c.args.coupons in
    let S : Pairs = members t.run c.args.body.now in
    let w = c.as_bytes.ensures.written in
    let count : t.run.used ≡ length w.order = resolved_count t.run c.args.body.now (used_within k t.run.used (length c.args.body.now) c.requires.within.used c.requires.within.there) c.requires.resolved.ascends ∙ sym (len-ascending w.order S w.ascending) in
    let table : HasTable k t t.run.used c.resolved_size.result = record { taken = c.resolved_size.ensures.kept; added = λ more. c.resolved_size.ensures.staged more (c.requires.resolved.stays more) } in
    (w.order, w.is, subst (λ n. IsTableFor k n c.resolved_size.result) count (table_for k t t.run.used c.resolved_size.result table c.requires.within.taken))

pub returns-clause-ok : goal.returns-clause-ok
returns-clause-ok c =
    let k : ℕ = c.args.lg_k in
    let t = c.args.coupons in
    let S : Pairs = members t.run c.args.body.now in
    let w = c.as_bytes.ensures.written in
    let count = resolved_count t.run c.args.body.now (used_within k t.run.used (length c.args.body.now) c.requires.within.used c.requires.within.there) c.requires.resolved.ascends in
    let table : HasTable k t t.run.used c.resolved_size.result = record { taken = c.resolved_size.ensures.kept; added = λ more. c.resolved_size.ensures.staged more (c.requires.resolved.stays more) } in
    IfOk-weaker c.coupon_image.result _ (λ image. IsImageOf (FillsFields (record { lg_k = k; width = c.args.hll_type; content = content_of_coupons k t S })) image.items)
    (λ image wrote. coupons_written k c.args.hll_type (content_of_coupons k t S) S c.resolved_size.result c.as_bytes.result.now w.order image.items
    (content_in_table k t S t.run.used c.resolved_size.result table count) w.ascending w.is wrote)
    c.coupon_image.ensures.ok
