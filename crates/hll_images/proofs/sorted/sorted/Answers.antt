-- SPDX-License-Identifier: Apache-2.0
use Rattle.std.proofs.Common.{subst}
use Rattle.std.specs.Option.{IfSome, IfNone, OnSome}
use Rattle.hll_coupons.specs.Coupons.{raw_coupons, AreCoupons, IsAscending}
use Rattle.hll_coupons.specs.Pair.{set_of}
use Rattle.hll_images.proofs.sorted.sorted.Goals as goal

pub returns-clause-some : goal.returns-clause-some
returns-clause-some c = subst (λ all. IfSome c.sorted_numbers.result (λ w. IsAscending (raw_coupons w.count w.bytes.now) (set_of all))) c.read_raw_coupons.ensures c.sorted_numbers.ensures.some

pub returns-clause-are : goal.returns-clause-are
returns-clause-are c = subst (λ all. OnSome c.sorted_numbers.result (AreCoupons all)) c.read_raw_coupons.ensures c.sorted_numbers.ensures.are

pub returns-clause-none : goal.returns-clause-none
returns-clause-none c = subst (λ all. IfNone c.sorted_numbers.result (AreCoupons all → ⊥)) c.read_raw_coupons.ensures c.sorted_numbers.ensures.none
