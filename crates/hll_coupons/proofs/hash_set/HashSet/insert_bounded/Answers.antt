-- SPDX-License-Identifier: Apache-2.0
use Rattle.std.proofs.Common.{arith, ℕ, ◌≡◌, ◌≢◌, ◌∙◌, true, false, refl, sym, ap, subst}
use Rattle.std.specs.FinSet.{contains, insert}
use Rattle.std.proofs.lemmas.Bool.{true≢false}
use Rattle.hll_coupons.specs.Probe.{IsProbed, Puts}
use Rattle.hll_coupons.specs.Table.{Table, coupons_of}
use Rattle.hll_coupons.proofs.Sets.{IsEnd, end_of, found_end, puts_found, insert_found, lacking_end, puts_end, probed_end, members_end}
use Rattle.hll_coupons.proofs.TableLemmas.{full_of_valued}
use Rattle.hll_coupons.proofs.hash_set.HashSet.insert_bounded.Goals as goal

pub returns-then-not-is_empty-clause-new : goal.returns-then-not-is_empty-clause-new
returns-then-not-is_empty-clause-new g c =
    let t : Table = c.self.inside.container in
    let w : ℕ = c.args.coupon in
    let is : IsEnd t w c.in_ok-bucket.bucket c.index-buckets-bucket.result = end_of t w c.in_ok-bucket.bucket c.index-buckets-bucket.result _ _ _ c.self.invariant.probed.size c.lg_size-lg_size.ensures.size c.buckets-buckets.ensures.buckets c.raw.ensures c.in_ok-bucket.ensures.found c.index-buckets-bucket.is in
    let full : c.index-buckets-bucket.result ≢ 0 = λ z. true≢false (sym (c.is_empty.ensures.1 z) ∙ c.if-not-is_empty.true) in
    let there : contains (coupons_of c.args.self.now) w ≡ true = subst (λ (u : Table). contains (coupons_of u) w ≡ true) c.self.view_is (found_end t w c.self.invariant.probed c.in_ok-bucket.bucket c.index-buckets-bucket.result is full) in
    (λ f. absurd (true≢false (sym f)), λ none. absurd (true≢false (sym there ∙ none)))

pub returns-then-not-is_empty-clause-buckets : goal.returns-then-not-is_empty-clause-buckets
returns-then-not-is_empty-clause-buckets g c =
    let t : Table = c.self.inside.container in
    let w : ℕ = c.args.coupon in
    let is : IsEnd t w c.in_ok-bucket.bucket c.index-buckets-bucket.result = end_of t w c.in_ok-bucket.bucket c.index-buckets-bucket.result _ _ _ c.self.invariant.probed.size c.lg_size-lg_size.ensures.size c.buckets-buckets.ensures.buckets c.raw.ensures c.in_ok-bucket.ensures.found c.index-buckets-bucket.is in
    let full : c.index-buckets-bucket.result ≢ 0 = λ z. true≢false (sym (c.is_empty.ensures.1 z) ∙ c.if-not-is_empty.true) in
    subst (λ (u : Table). Puts (λ c. c) u.lg_size u.buckets w u.buckets) c.self.view_is (puts_found t w c.self.invariant.probed c.in_ok-bucket.bucket c.index-buckets-bucket.result is full)

pub returns-then-not-is_empty-clause-members : goal.returns-then-not-is_empty-clause-members
returns-then-not-is_empty-clause-members g c =
    let t : Table = c.self.inside.container in
    let w : ℕ = c.args.coupon in
    let is : IsEnd t w c.in_ok-bucket.bucket c.index-buckets-bucket.result = end_of t w c.in_ok-bucket.bucket c.index-buckets-bucket.result _ _ _ c.self.invariant.probed.size c.lg_size-lg_size.ensures.size c.buckets-buckets.ensures.buckets c.raw.ensures c.in_ok-bucket.ensures.found c.index-buckets-bucket.is in
    let full : c.index-buckets-bucket.result ≢ 0 = λ z. true≢false (sym (c.is_empty.ensures.1 z) ∙ c.if-not-is_empty.true) in
    subst (λ (u : Table). coupons_of u ≡ insert (coupons_of u) w) c.self.view_is (insert_found t w c.self.invariant.probed c.in_ok-bucket.bucket c.index-buckets-bucket.result is full)

pub put-requires-clause-fresh : goal.put-requires-clause-fresh
put-requires-clause-fresh g c =
    let t : Table = c.self.inside.container in
    let w : ℕ = c.args.coupon in
    let is : IsEnd t w c.in_ok-bucket.bucket c.index-buckets-bucket.result = end_of t w c.in_ok-bucket.bucket c.index-buckets-bucket.result _ _ _ c.self.invariant.probed.size c.lg_size-lg_size.ensures.size c.buckets-buckets.ensures.buckets c.raw.ensures c.in_ok-bucket.ensures.found c.index-buckets-bucket.is in
    let empty : c.index-buckets-bucket.result ≡ 0 = c.is_empty.ensures.0 c.if-not-is_empty.false in
    lacking_end t w c.self.invariant.probed c.in_ok-bucket.bucket c.index-buckets-bucket.result is empty

pub invariant_of-self : goal.invariant_of-self
invariant_of-self g c =
    let t : Table = c.self.inside.container in
    let w : ℕ = c.args.coupon in
    let is : IsEnd t w c.in_ok-bucket.bucket c.index-buckets-bucket.result = end_of t w c.in_ok-bucket.bucket c.index-buckets-bucket.result _ _ _ c.self.invariant.probed.size c.lg_size-lg_size.ensures.size c.buckets-buckets.ensures.buckets c.raw.ensures c.in_ok-bucket.ensures.found c.index-buckets-bucket.is in
    let empty : c.index-buckets-bucket.result ≡ 0 = c.is_empty.ensures.0 c.if-not-is_empty.false in
    record {
      table = c.put.ensures.table;
      probed = subst (λ (u : Table). IsProbed (λ c. c) u.lg_size u.buckets) (sym c.put.ensures.buckets) (probed_end t w c.self.invariant.probed c.in_ok-bucket.bucket c.index-buckets-bucket.result is empty (λ z. omega (arith, z, full_of_valued w c.requires.valued)));
    }

pub returns-clause-set : goal.returns-clause-set
returns-clause-set g c =
    let t : Table = c.self.inside.container in
    let w : ℕ = c.args.coupon in
    let is : IsEnd t w c.in_ok-bucket.bucket c.index-buckets-bucket.result = end_of t w c.in_ok-bucket.bucket c.index-buckets-bucket.result _ _ _ c.self.invariant.probed.size c.lg_size-lg_size.ensures.size c.buckets-buckets.ensures.buckets c.raw.ensures c.in_ok-bucket.ensures.found c.index-buckets-bucket.is in
    let empty : c.index-buckets-bucket.result ≡ 0 = c.is_empty.ensures.0 c.if-not-is_empty.false in
    record {
      table = c.put.ensures.table;
      probed = subst (λ (u : Table). IsProbed (λ c. c) u.lg_size u.buckets) (sym c.put.ensures.buckets) (probed_end t w c.self.invariant.probed c.in_ok-bucket.bucket c.index-buckets-bucket.result is empty (λ z. omega (arith, z, full_of_valued w c.requires.valued)));
    }

pub returns-clause-new : goal.returns-clause-new
returns-clause-new g c =
    let t : Table = c.self.inside.container in
    let w : ℕ = c.args.coupon in
    let is : IsEnd t w c.in_ok-bucket.bucket c.index-buckets-bucket.result = end_of t w c.in_ok-bucket.bucket c.index-buckets-bucket.result _ _ _ c.self.invariant.probed.size c.lg_size-lg_size.ensures.size c.buckets-buckets.ensures.buckets c.raw.ensures c.in_ok-bucket.ensures.found c.index-buckets-bucket.is in
    let empty : c.index-buckets-bucket.result ≡ 0 = c.is_empty.ensures.0 c.if-not-is_empty.false in
    let none : contains (coupons_of c.args.self.now) w ≡ false = subst (λ (u : Table). contains (coupons_of u) w ≡ false) c.self.view_is (lacking_end t w c.self.invariant.probed c.in_ok-bucket.bucket c.index-buckets-bucket.result is empty) in
    (λ t. none, λ f. refl)

pub returns-clause-buckets : goal.returns-clause-buckets
returns-clause-buckets g c =
    let t : Table = c.self.inside.container in
    let w : ℕ = c.args.coupon in
    let is : IsEnd t w c.in_ok-bucket.bucket c.index-buckets-bucket.result = end_of t w c.in_ok-bucket.bucket c.index-buckets-bucket.result _ _ _ c.self.invariant.probed.size c.lg_size-lg_size.ensures.size c.buckets-buckets.ensures.buckets c.raw.ensures c.in_ok-bucket.ensures.found c.index-buckets-bucket.is in
    let empty : c.index-buckets-bucket.result ≡ 0 = c.is_empty.ensures.0 c.if-not-is_empty.false in
    subst (λ (u : Table). Puts (λ c. c) u.lg_size u.buckets w c.put.new.self.buckets) c.self.view_is
    (subst (λ (u : Table). Puts (λ c. c) t.lg_size t.buckets w u.buckets) (sym c.put.ensures.buckets) (puts_end t w c.self.invariant.probed c.in_ok-bucket.bucket c.index-buckets-bucket.result is empty))

pub returns-clause-members : goal.returns-clause-members
returns-clause-members g c =
    let t : Table = c.self.inside.container in
    let w : ℕ = c.args.coupon in
    let is : IsEnd t w c.in_ok-bucket.bucket c.index-buckets-bucket.result = end_of t w c.in_ok-bucket.bucket c.index-buckets-bucket.result _ _ _ c.self.invariant.probed.size c.lg_size-lg_size.ensures.size c.buckets-buckets.ensures.buckets c.raw.ensures c.in_ok-bucket.ensures.found c.index-buckets-bucket.is in
    let empty : c.index-buckets-bucket.result ≡ 0 = c.is_empty.ensures.0 c.if-not-is_empty.false in
    ap coupons_of c.put.ensures.buckets
    ∙ members_end t w c.self.invariant.probed c.in_ok-bucket.bucket c.index-buckets-bucket.result is empty (full_of_valued w c.requires.valued)
    ∙ ap (λ (u : Table). insert (coupons_of u) w) c.self.view_is
