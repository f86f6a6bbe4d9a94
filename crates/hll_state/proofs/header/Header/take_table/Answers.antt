-- SPDX-License-Identifier: Apache-2.0
use Rattle.std.proofs.Common.{◌+◌, ◌≤◌, false, length, sym, ap, subst, arith}
use Rattle.hll_coupons.specs.Table.{coupons_in}
use Rattle.hll_state.specs.Header.{elements_for, AreWithin}
use Rattle.hll_state.proofs.Emptiness.{run_within, table_within}
use Rattle.hll_state.proofs.Rooms.{elements_mono, used_within}
use Rattle.hll_state.proofs.header.Header.take_table.Goals as goal

pub run_of-requires : goal.run_of-requires
run_of-requires g c =
    let k = c.args.self.now.lg_k in
    let t = c.args.table.now in
    let n = length (coupons_in t.buckets) in
    let room = length c.args.body.now in
    let enough : elements_for k n ≤ room = omega (arith, c.if-body-elements_for.false, c.elements_for.ensures, ap (elements_for k) c.len.ensures.count) in
    used_within k n room (table_within k n t.lg_size room c.requires.table enough).used enough

pub returns-clause-within : goal.returns-clause-within
returns-clause-within g c =
    let k = c.args.self.now.lg_k in
    let t = c.args.table.now in
    let n = length (coupons_in t.buckets) in
    let room = length c.args.body.now in
    let enough : elements_for k n ≤ room = omega (arith, c.if-body-elements_for.false, c.elements_for.ensures, ap (elements_for k) c.len.ensures.count) in
    let within : AreWithin k (record { lg_size = t.lg_size; added = false; run = c.run_of.result }) room = run_within k n t.lg_size room c.run_of.result c.requires.table enough c.run_of.ensures.run.run c.run_of.ensures.used in
    record {
      lg_k = c.requires.within.lg_k;
      widths = c.requires.within.widths;
      held = subst (λ p. AreWithin k (record { lg_size = p; added = false; run = c.run_of.result }) room) (sym c.lg_size.ensures.size) within;
    }

pub returns-clause-takes : goal.returns-clause-takes
returns-clause-takes g c done len enough =
    let k = c.args.self.now.lg_k in
    omega (arith, enough, elements_mono k (c.run_of.result.used + 0) (length (coupons_in c.args.table.now.buckets)) (omega (arith, c.run_of.ensures.used)))
