-- SPDX-License-Identifier: Apache-2.0
use Rattle.std.proofs.Common.{arith, ℕ, ◌≡◌, ◌≢◌, ◌≤◌, ◌<◌, ◌+◌, ◌^◌, ◌∙◌, true, false, not, sym, ap, subst}
use Rattle.std.specs.FinSet.{contains, insert, len}
use Rattle.std.proofs.lemmas.Bool.{true≢false}
use Rattle.hll_coupons.specs.Probe.{IsProbed, Puts}
use Rattle.hll_coupons.specs.Table.{Table, coupons_of}
use Rattle.hll_coupons.proofs.Insertions.{counted, past_full}
use Rattle.hll_coupons.proofs.Sets.{IsEnd, end_of, full_end, found_end, new_end, puts_found, insert_found, lacking_end, puts_end, probed_end, members_end}
use Rattle.hll_coupons.proofs.TableLemmas.{full_of_valued}
use Rattle.hll_coupons.proofs.hash_set.HashSet.update_within.Goals as goal

pub returns-in_default-clause-insertion : goal.returns-in_default-clause-insertion
returns-in_default-clause-insertion g c =
    let t : Table = c.self.inside.container in
    let w : ℕ = c.args.coupon in
    let all = full_end t w _ _ _ c.self.invariant.probed c.lg_size.ensures.size c.buckets-buckets.ensures.buckets c.raw.ensures c.in_default.ensures.full in
    let within : c.args.most ≤ 2 ^ t.lg_size = subst (λ (u : Table). c.args.most ≤ 2 ^ u.lg_size) (sym c.self.view_is) c.requires.within in
    subst (λ (u : Table). c.args.most < len (insert (coupons_of u) w)) c.self.view_is (past_full t w c.args.most c.self.invariant.table all.0 all.1 within)

pub returns-then-count-from-clause-insertion : goal.returns-then-count-from-clause-insertion
returns-then-count-from-clause-insertion g c =
    let t : Table = c.self.inside.container in
    let w : ℕ = c.args.coupon in
    let is : IsEnd t w c.in-Some.bucket c.index-buckets-bucket.result = end_of t w c.in-Some.bucket c.index-buckets-bucket.result _ _ _ c.self.invariant.probed.size c.lg_size.ensures.size c.buckets-buckets.ensures.buckets c.raw.ensures c.in-Some.ensures.found c.index-buckets-bucket.is in
    let new : c.is_empty-is_new.result ≡ not (contains (coupons_of t) w) = new_end t w c.self.invariant.probed c.in-Some.bucket c.index-buckets-bucket.result is c.is_empty-is_new.result c.is_empty-is_new.ensures in
    let all : c.len-count.result + c.from.result ≡ len (insert (coupons_of t) w) = counted t w c.len-count.result c.from.result c.is_empty-is_new.result c.self.invariant.table c.len-count.ensures.count c.from.ensures new in
    let more : c.args.most < len (insert (coupons_of t) w) = omega (arith, all, c.if-count-from.true) in
    subst (λ (u : Table). c.args.most < len (insert (coupons_of u) w)) c.self.view_is more

pub returns-then-not-is_new-clause-insertion : goal.returns-then-not-is_new-clause-insertion
returns-then-not-is_new-clause-insertion g c =
    let t : Table = c.self.inside.container in
    let w : ℕ = c.args.coupon in
    let is : IsEnd t w c.in-Some.bucket c.index-buckets-bucket.result = end_of t w c.in-Some.bucket c.index-buckets-bucket.result _ _ _ c.self.invariant.probed.size c.lg_size.ensures.size c.buckets-buckets.ensures.buckets c.raw.ensures c.in-Some.ensures.found c.index-buckets-bucket.is in
    let new : c.is_empty-is_new.result ≡ not (contains (coupons_of t) w) = new_end t w c.self.invariant.probed c.in-Some.bucket c.index-buckets-bucket.result is c.is_empty-is_new.result c.is_empty-is_new.ensures in
    let all : c.len-count.result + c.from.result ≡ len (insert (coupons_of t) w) = counted t w c.len-count.result c.from.result c.is_empty-is_new.result c.self.invariant.table c.len-count.ensures.count c.from.ensures new in
    let full : c.index-buckets-bucket.result ≢ 0 = λ z. true≢false (sym (c.is_empty-is_new.ensures.1 z) ∙ c.if-not-is_new.true) in
    let few : len (insert (coupons_of t) w) ≤ c.args.most = omega (arith, all, c.if-count-from.false) in
    subst (λ (u : Table). (contains (coupons_of u) w ≡ true) × (len (insert (coupons_of u) w) ≤ c.args.most)) c.self.view_is
    (found_end t w c.self.invariant.probed c.in-Some.bucket c.index-buckets-bucket.result is full, few)

pub returns-then-not-is_new-clause-buckets : goal.returns-then-not-is_new-clause-buckets
returns-then-not-is_new-clause-buckets g c =
    let t : Table = c.self.inside.container in
    let w : ℕ = c.args.coupon in
    let is : IsEnd t w c.in-Some.bucket c.index-buckets-bucket.result = end_of t w c.in-Some.bucket c.index-buckets-bucket.result _ _ _ c.self.invariant.probed.size c.lg_size.ensures.size c.buckets-buckets.ensures.buckets c.raw.ensures c.in-Some.ensures.found c.index-buckets-bucket.is in
    let full : c.index-buckets-bucket.result ≢ 0 = λ z. true≢false (sym (c.is_empty-is_new.ensures.1 z) ∙ c.if-not-is_new.true) in
    subst (λ (u : Table). Puts (λ c. c) u.lg_size u.buckets w u.buckets) c.self.view_is (puts_found t w c.self.invariant.probed c.in-Some.bucket c.index-buckets-bucket.result is full)

pub returns-then-not-is_new-clause-members : goal.returns-then-not-is_new-clause-members
returns-then-not-is_new-clause-members g c =
    let t : Table = c.self.inside.container in
    let w : ℕ = c.args.coupon in
    let is : IsEnd t w c.in-Some.bucket c.index-buckets-bucket.result = end_of t w c.in-Some.bucket c.index-buckets-bucket.result _ _ _ c.self.invariant.probed.size c.lg_size.ensures.size c.buckets-buckets.ensures.buckets c.raw.ensures c.in-Some.ensures.found c.index-buckets-bucket.is in
    let full : c.index-buckets-bucket.result ≢ 0 = λ z. true≢false (sym (c.is_empty-is_new.ensures.1 z) ∙ c.if-not-is_new.true) in
    subst (λ (u : Table). coupons_of u ≡ insert (coupons_of u) w) c.self.view_is (insert_found t w c.self.invariant.probed c.in-Some.bucket c.index-buckets-bucket.result is full)

pub put-requires-clause-fresh : goal.put-requires-clause-fresh
put-requires-clause-fresh g c =
    let t : Table = c.self.inside.container in
    let w : ℕ = c.args.coupon in
    let is : IsEnd t w c.in-Some.bucket c.index-buckets-bucket.result = end_of t w c.in-Some.bucket c.index-buckets-bucket.result _ _ _ c.self.invariant.probed.size c.lg_size.ensures.size c.buckets-buckets.ensures.buckets c.raw.ensures c.in-Some.ensures.found c.index-buckets-bucket.is in
    let empty : c.index-buckets-bucket.result ≡ 0 = c.is_empty-is_new.ensures.0 c.if-not-is_new.false in
    lacking_end t w c.self.invariant.probed c.in-Some.bucket c.index-buckets-bucket.result is empty

pub invariant_of-self : goal.invariant_of-self
invariant_of-self g c =
    let t : Table = c.self.inside.container in
    let w : ℕ = c.args.coupon in
    let is : IsEnd t w c.in-Some.bucket c.index-buckets-bucket.result = end_of t w c.in-Some.bucket c.index-buckets-bucket.result _ _ _ c.self.invariant.probed.size c.lg_size.ensures.size c.buckets-buckets.ensures.buckets c.raw.ensures c.in-Some.ensures.found c.index-buckets-bucket.is in
    let empty : c.index-buckets-bucket.result ≡ 0 = c.is_empty-is_new.ensures.0 c.if-not-is_new.false in
    record {
      table = c.put.ensures.table;
      probed = subst (λ (u : Table). IsProbed (λ c. c) u.lg_size u.buckets) (sym c.put.ensures.buckets)
          (probed_end t w c.self.invariant.probed c.in-Some.bucket c.index-buckets-bucket.result is empty (λ z. omega (arith, z, full_of_valued w c.requires.valued)));
    }

pub returns-clause-set : goal.returns-clause-set
returns-clause-set g c =
    let t : Table = c.self.inside.container in
    let w : ℕ = c.args.coupon in
    let is : IsEnd t w c.in-Some.bucket c.index-buckets-bucket.result = end_of t w c.in-Some.bucket c.index-buckets-bucket.result _ _ _ c.self.invariant.probed.size c.lg_size.ensures.size c.buckets-buckets.ensures.buckets c.raw.ensures c.in-Some.ensures.found c.index-buckets-bucket.is in
    let empty : c.index-buckets-bucket.result ≡ 0 = c.is_empty-is_new.ensures.0 c.if-not-is_new.false in
    record {
      table = c.put.ensures.table;
      probed = subst (λ (u : Table). IsProbed (λ c. c) u.lg_size u.buckets) (sym c.put.ensures.buckets)
          (probed_end t w c.self.invariant.probed c.in-Some.bucket c.index-buckets-bucket.result is empty (λ z. omega (arith, z, full_of_valued w c.requires.valued)));
    }

pub returns-clause-insertion : goal.returns-clause-insertion
returns-clause-insertion g c =
    let t : Table = c.self.inside.container in
    let w : ℕ = c.args.coupon in
    let is : IsEnd t w c.in-Some.bucket c.index-buckets-bucket.result = end_of t w c.in-Some.bucket c.index-buckets-bucket.result _ _ _ c.self.invariant.probed.size c.lg_size.ensures.size c.buckets-buckets.ensures.buckets c.raw.ensures c.in-Some.ensures.found c.index-buckets-bucket.is in
    let new : c.is_empty-is_new.result ≡ not (contains (coupons_of t) w) = new_end t w c.self.invariant.probed c.in-Some.bucket c.index-buckets-bucket.result is c.is_empty-is_new.result c.is_empty-is_new.ensures in
    let all : c.len-count.result + c.from.result ≡ len (insert (coupons_of t) w) = counted t w c.len-count.result c.from.result c.is_empty-is_new.result c.self.invariant.table c.len-count.ensures.count c.from.ensures new in
    let empty : c.index-buckets-bucket.result ≡ 0 = c.is_empty-is_new.ensures.0 c.if-not-is_new.false in
    let few : len (insert (coupons_of t) w) ≤ c.args.most = omega (arith, all, c.if-count-from.false) in
    subst (λ (u : Table). (contains (coupons_of u) w ≡ false) × (len (insert (coupons_of u) w) ≤ c.args.most)) c.self.view_is
    (lacking_end t w c.self.invariant.probed c.in-Some.bucket c.index-buckets-bucket.result is empty, few)

pub returns-clause-buckets : goal.returns-clause-buckets
returns-clause-buckets g c =
    let t : Table = c.self.inside.container in
    let w : ℕ = c.args.coupon in
    let is : IsEnd t w c.in-Some.bucket c.index-buckets-bucket.result = end_of t w c.in-Some.bucket c.index-buckets-bucket.result _ _ _ c.self.invariant.probed.size c.lg_size.ensures.size c.buckets-buckets.ensures.buckets c.raw.ensures c.in-Some.ensures.found c.index-buckets-bucket.is in
    let empty : c.index-buckets-bucket.result ≡ 0 = c.is_empty-is_new.ensures.0 c.if-not-is_new.false in
    subst (λ (u : Table). Puts (λ c. c) u.lg_size u.buckets w c.put.new.self.buckets) c.self.view_is
    (subst (λ (u : Table). Puts (λ c. c) t.lg_size t.buckets w u.buckets) (sym c.put.ensures.buckets)
    (puts_end t w c.self.invariant.probed c.in-Some.bucket c.index-buckets-bucket.result is empty))

pub returns-clause-members : goal.returns-clause-members
returns-clause-members g c =
    let t : Table = c.self.inside.container in
    let w : ℕ = c.args.coupon in
    let is : IsEnd t w c.in-Some.bucket c.index-buckets-bucket.result = end_of t w c.in-Some.bucket c.index-buckets-bucket.result _ _ _ c.self.invariant.probed.size c.lg_size.ensures.size c.buckets-buckets.ensures.buckets c.raw.ensures c.in-Some.ensures.found c.index-buckets-bucket.is in
    let empty : c.index-buckets-bucket.result ≡ 0 = c.is_empty-is_new.ensures.0 c.if-not-is_new.false in
    ap coupons_of c.put.ensures.buckets
    ∙ members_end t w c.self.invariant.probed c.in-Some.bucket c.index-buckets-bucket.result is empty (full_of_valued w c.requires.valued)
    ∙ ap (λ (u : Table). insert (coupons_of u) w) c.self.view_is
