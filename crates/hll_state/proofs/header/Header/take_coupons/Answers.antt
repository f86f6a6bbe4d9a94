-- SPDX-License-Identifier: Apache-2.0
use Rattle.std.proofs.Common.{◌≡◌, ◌+◌, ◌≤◌, length, subst, arith}
use Rattle.hll_state.specs.Header.{elements_for}
use Rattle.hll_state.proofs.Emptiness.{table_within}
use Rattle.hll_state.proofs.Rooms.{used_within}
use Rattle.hll_state.proofs.header.Header.take_coupons.Goals as goal

pub copy_to-requires : goal.copy_to-requires
copy_to-requires c =
    let k = c.args.self.now.lg_k in
    let n = length c.args.coupons.now in
    let room = length c.args.body.now in
    let enough : elements_for k n ≤ room = omega (arith, c.if-body-elements_for.false, c.elements_for.ensures) in
    omega (arith, used_within k n room (table_within k n c.args.lg_size room c.requires.table enough).used enough)

pub returns-clause-within : goal.returns-clause-within
returns-clause-within c =
    let k = c.args.self.now.lg_k in
    let n = length c.args.coupons.now in
    let room = length c.args.body.now in
    let enough : elements_for k n ≤ room = omega (arith, c.if-body-elements_for.false, c.elements_for.ensures) in
    record { lg_k = c.requires.within.lg_k; widths = c.requires.within.widths; held = table_within k n c.args.lg_size room c.requires.table enough }

pub returns-clause-takes : goal.returns-clause-takes
returns-clause-takes c done len enough = subst (λ n. elements_for c.args.self.now.lg_k n ≤ len) (let e : length c.args.coupons.now ≡ length c.args.coupons.now + 0 = omega arith in e) enough
