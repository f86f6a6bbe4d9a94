-- SPDX-License-Identifier: Apache-2.0
use Rattle.std.proofs.Common.{◌≡◌, ℕ, List, ap, ◌∙◌}
use Rattle.hll_registers.specs.Store.{Stored, update_with_coupon}
use Rattle.hll_registers.proofs.Filling.{filled, filled-next}
use Rattle.hll_registers.proofs.register_store.RegisterStore.from_values.Goals as goal

pub loop-slot-preserved : goal.loop-slot-preserved
loop-slot-preserved g c =
    let V : List ℕ = c.args.values.now in
    let before : Stored = filled c.args.lg_k c.loop-slot.slot V in
    let put : g.Self.Registers.stored c.put_coupon.new.self ≡ update_with_coupon before c.pack.result =
    c.in_ok-put_coupon.ensures.ok ∙ ap (λ x. update_with_coupon x c.pack.result) c.loop-slot.invariant in
    put ∙ filled-next c.args.lg_k c.loop-slot.slot c.pack.result V c.requires.most c.requires.registers.size c.loop-slot-test.true c.pack.ensures
