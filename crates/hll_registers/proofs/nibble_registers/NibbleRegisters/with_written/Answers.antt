-- SPDX-License-Identifier: Apache-2.0
use Rattle.std.proofs.Common.{◌≡◌, ◌++◌, ◌∙◌, ap, subst}
use Rattle.std.specs.Prelude.{IfOk}
use Rattle.hll_coupons.specs.Coupons.{coupon_bytes, WritesAscending}
use Rattle.hll_coupons.specs.Pair.{set_of}
use Rattle.hll_kernels.specs.Packed.{nibble_bytes}
use Rattle.hll_registers.specs.Exceptions.{exceptions}
use Rattle.hll_registers.specs.FourBits.{exceptions_in, NibbleRegisters, unboxed}
use Rattle.hll_registers.proofs.FourBits.{packed_is_of_registers}
use Rattle.hll_registers.proofs.nibble_registers.NibbleRegisters.with_written.Goals as goal

pub returns-clause-ok : goal.returns-clause-ok
returns-clause-ok g c =
    let of = packed_is_of_registers _ _ _ _ _ _ c.self.invariant.1 c.self.invariant.2 in
    let R = c.args.self.now.registers in
    let front : c.write.new.self ≡ c.args.bytes ++ nibble_bytes R =
    c.in_ok-write.ensures.ok ∙ ap (λ bs. c.args.bytes ++ bs) (c.deref.ensures.value ∙ of.bytes_are) ∙ ap (λ (x : NibbleRegisters). c.args.bytes ++ nibble_bytes x.registers) c.self.view_is in
    let set : exceptions_in (unboxed c.self.inside.exceptions) ≡ set_of (exceptions R) = of.exceptions_are ∙ ap (λ (x : NibbleRegisters). set_of (exceptions x.registers)) c.self.view_is in
    subst (λ T. IfOk c.with_exceptions.result (WritesAscending (λ order. (c.args.bytes ++ nibble_bytes R) ++ coupon_bytes order) T)) set
    (subst (λ f. IfOk c.with_exceptions.result (WritesAscending (λ order. f ++ coupon_bytes order) (exceptions_in (unboxed c.self.inside.exceptions)))) front c.with_exceptions.ensures.ok)
