-- SPDX-License-Identifier: Apache-2.0
use Rattle.std.proofs.Common.{◌≡◌, ℕ, ◌/◌, List, length, sym, ap, subst, ◌∙◌}
use Rattle.std.specs.FinSet.{union}
use Rattle.hll_coupons.specs.Coupons.{coupon_bytes, raw_coupons, WritesAscending}
use Rattle.hll_coupons.specs.Pair.{set_of}
use Rattle.hll_sketch.specs.declared.raw_coupons.RawCoupons.{RawCoupons}
use Rattle.hll_images.proofs.CouponImages as images
use Rattle.hll_images.proofs.coupon_images.image_of_both.Goals as goal

-- the list of raw coupons
abbrev listed : RawCoupons → List ℕ
listed w = raw_coupons w.count w.bytes.now

-- what is written for lists of raw coupons is written for the lists that they equal
written_for : (xs ys all others bytes : List ℕ) → all ≡ xs → others ≡ ys → WritesAscending coupon_bytes (union (set_of all) (set_of others)) bytes → WritesAscending coupon_bytes (union (set_of xs) (set_of ys)) bytes
written_for xs ys all others bytes first second up = subst (λ S. WritesAscending coupon_bytes S bytes) (λ i. union (set_of (first i)) (set_of (second i))) up

pub coupon_image-requires-clause-table : goal.coupon_image-requires-clause-table
coupon_image-requires-clause-table g c =
    let bytes : List ℕ = c.in_ok-coupons.coupons.items in
    let count : c.len.result / 4 ≡ length bytes / 4 = ap (λ n. n / 4) (c.len.ensures ∙ c.in_ok-coupons.coupons.ok.0) in
    let up = written_for (listed c.args.left) (listed c.args.right) c.all.result c.all-2.result bytes c.all.ensures c.all-2.ensures c.in_ok-coupons.ensures.ok in
    let held = images.table_of_union c.args.lg_k c.args.lg_size (listed c.args.left) (listed c.args.right) bytes up (c.len.result / 4) count c.in-Some.lg_size (sym c.in-Some.ensures) in
    (held.0, c.deref.ensures.value ∙ held.1, held.2)

pub returns-in_ok-coupon_image-in-Some-clause-some : goal.returns-in_ok-coupon_image-in-Some-clause-some
returns-in_ok-coupon_image-in-Some-clause-some g c =
    let bytes : List ℕ = c.in_ok-coupons.coupons.items in
    let count : c.len.result / 4 ≡ length bytes / 4 = ap (λ n. n / 4) (c.len.ensures ∙ c.in_ok-coupons.coupons.ok.0) in
    let up = written_for (listed c.args.left) (listed c.args.right) c.all.result c.all-2.result bytes c.all.ensures c.all-2.ensures c.in_ok-coupons.ensures.ok in
    images.image_of_both c.args.lg_k c.args.lg_size (listed c.args.left) (listed c.args.right) bytes up (c.len.result / 4) count c.in-Some.lg_size
    c.args.hll_type c.in_ok-coupon_image-in-Some.field-0.items (sym c.in-Some.ensures) (λ order same. c.in_ok-coupon_image-in-Some.ensures.ok order (c.deref.ensures.value ∙ same))

pub returns-in-None-clause-none : goal.returns-in-None-clause-none
returns-in-None-clause-none g c =
    let bytes : List ℕ = c.in_ok-coupons.coupons.items in
    let count : c.len.result / 4 ≡ length bytes / 4 = ap (λ n. n / 4) (c.len.ensures ∙ c.in_ok-coupons.coupons.ok.0) in
    let up = written_for (listed c.args.left) (listed c.args.right) c.all.result c.all-2.result bytes c.all.ensures c.all-2.ensures c.in_ok-coupons.ensures.ok in
    images.none_of_both c.args.lg_k c.args.lg_size (listed c.args.left) (listed c.args.right) bytes up (c.len.result / 4) count (sym c.in-None.ensures)
