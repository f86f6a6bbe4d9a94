-- SPDX-License-Identifier: Apache-2.0
use Rattle.std.proofs.Common.{arith, ℕ, List, All, ◌≡◌, ◌≤◌, ◌^◌, ◌∙◌, ap, length, subst, sym}
use Rattle.std.specs.FinSet.{len}
use Rattle.std.proofs.lemmas.List.{map-id}
use Rattle.hll_coupons.specs.Coupons.{coupons_at}
use Rattle.hll_coupons.specs.Pair.{IsPair, set_of}
use Rattle.hll_coupons.specs.Probe.{PutsEach}
use Rattle.hll_coupons.specs.Table.{Table, coupons_in, empty_table}
use Rattle.hll_coupons.proofs.SetReading.{are_coupons, is_copy}
use Rattle.hll_coupons.proofs.hash_set.read_by_order.Goals as goal

pub put_by_cycles-requires-clause-valued : goal.put_by_cycles-requires-clause-valued
put_by_cycles-requires-clause-valued g c =
    (is_copy c.args.compact c.args.buckets c.args.cursor c.in_ok-coupons.coupons.items c.deref-2.result.now c.in_ok-coupons.ensures.ok c.in_ok-coupons.ensures.pairs c.deref-2.ensures.value).pairs

pub put_by_cycles-requires-clause-room : goal.put_by_cycles-requires-clause-room
put_by_cycles-requires-clause-room g c =
    let is = is_copy c.args.compact c.args.buckets c.args.cursor c.in_ok-coupons.coupons.items c.deref-2.result.now c.in_ok-coupons.ensures.ok c.in_ok-coupons.ensures.pairs c.deref-2.ensures.value in
    let size = ap (λ (t : Table). t.lg_size) c.in_ok-filled.ensures.ok ∙ c.lg_size-lg_size.ensures.size ∙ ap (λ (t : Table). t.lg_size) c.set.view_is in
    let few : length (coupons_in c.deref-2.result.now) ≤ 2 ^ c.args.set.now.lg_size = omega (arith, ap length is.all, ap length c.in_ok-coupons.ensures.ok, c.in_ok-coupons.ensures.few, c.requires.room) in
    subst (λ n. length (coupons_in c.deref-2.result.now) ≤ 2 ^ n) (sym size) few

-- a list as it was read is distinct if its copy is
once_of : (copy all : List ℕ) → copy ≡ all → len (set_of copy) ≡ length copy → len (set_of all) ≡ length all
once_of copy all is once = subst (λ xs. len (set_of xs) ≡ length xs) is once

pub put_by_cycles-requires-clause-distinct : goal.put_by_cycles-requires-clause-distinct
put_by_cycles-requires-clause-distinct g c =
    let is = is_copy c.args.compact c.args.buckets c.args.cursor c.in_ok-coupons.coupons.items c.deref-2.result.now c.in_ok-coupons.ensures.ok c.in_ok-coupons.ensures.pairs c.deref-2.ensures.value in
    let once = once_of _ _ (c.deref.ensures.value ∙ c.in_ok-coupons.ensures.ok) (c.in_ok-are_distinct.ensures.ok.0 c.if-not-branch.false) in
    ap (λ cs. len (set_of cs)) (map-id (coupons_in c.deref-2.result.now)) ∙ once_of _ _ (sym is.all) once

pub returns-clause-ok : goal.returns-clause-ok
returns-clause-ok g c =
    let is = is_copy c.args.compact c.args.buckets c.args.cursor c.in_ok-coupons.coupons.items c.deref-2.result.now c.in_ok-coupons.ensures.ok c.in_ok-coupons.ensures.pairs c.deref-2.ensures.value in
    let once = once_of _ _ (c.deref.ensures.value ∙ c.in_ok-coupons.ensures.ok) (c.in_ok-are_distinct.ensures.ok.0 c.if-not-branch.false) in
    let new : Table = c.put_by_cycles.new.into in
    let size = c.lg_size-lg_size.ensures.size ∙ ap (λ (t : Table). t.lg_size) c.set.view_is in
    let empty : c.in_ok-filled.filled ≡ empty_table c.args.set.now.lg_size = c.in_ok-filled.ensures.ok ∙ ap empty_table size in (
      subst (λ (t : Table). PutsEach (λ c. c) t.lg_size t.buckets (coupons_at c.args.compact c.args.buckets c.args.cursor) new.buckets) empty
          (subst (λ xs. PutsEach (λ c. c) c.in_ok-filled.filled.lg_size c.in_ok-filled.filled.buckets xs new.buckets) is.all c.in_ok-put_by_cycles.ensures.buckets),
      are_coupons (coupons_at c.args.compact c.args.buckets c.args.cursor) (subst (All IsPair) c.in_ok-coupons.ensures.ok c.in_ok-coupons.ensures.pairs) once,
    )

pub returns-clause-members : goal.returns-clause-members
returns-clause-members g c =
    let is = is_copy c.args.compact c.args.buckets c.args.cursor c.in_ok-coupons.coupons.items c.deref-2.result.now c.in_ok-coupons.ensures.ok c.in_ok-coupons.ensures.pairs c.deref-2.ensures.value in
    c.in_ok-put_by_cycles.ensures.members ∙ ap set_of is.all
