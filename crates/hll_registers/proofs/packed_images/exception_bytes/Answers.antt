-- SPDX-License-Identifier: Apache-2.0
use Rattle.std.proofs.Common.{◌≡◌, ◌<◌, ◌≤◌, ◌^◌, ◌++◌, [], ℕ, List, Option, get_or, length, refl, sym, ap, subst, arith}
use Rattle.hll_coupons.specs.AuxMap.{ExceptionMap}
use Rattle.hll_coupons.specs.Coupons.{coupon_bytes, WritesAscending}
use Rattle.hll_coupons.specs.Pair.{Pairs, set_of}
use Rattle.hll_coupons.proofs.Ascending.{len-ascending}
use Rattle.hll_coupons.proofs.Payloads.{length-coupon_bytes}
use Rattle.hll_kernels.specs.Packed.{minimum, nibble_bytes_above, zero_nibbles, AreRegisters}
use Rattle.hll_registers.specs.Exceptions.{exceptions}
use Rattle.hll_registers.specs.FourBits.{exception_in, exception_of, exceptions_in, unboxed, IsMapFor}
use Rattle.hll_registers.proofs.FourBits.{packed_is_of_registers}
use Rattle.hll_registers.proofs.FourBitStores.{packed_values}
use Rattle.hll_registers.proofs.packed_images.exception_bytes.Goals as goal

pub overflow_mul-size : goal.overflow_mul-size
overflow_mul-size g c = omega (arith, c.count_exceptions-size.ensures.bound c.args.lg_k c.in_ok-map.ensures.map)

-- a map of the exceptions above the minimum has the exceptions of the registers
entries : (k : ℕ) (R : List ℕ) → 4 ≤ k → k ≤ 21 → AreRegisters k R → (m : ℕ) (e : Option ExceptionMap) → m ≡ minimum R → IsMapFor k e →
    ((s : ℕ) → s < 2 ^ k → exception_in e s ≡ exception_of m (get_or R s 0)) → exceptions_in e ≡ set_of (exceptions R)
entries k R low most are m e least map_for excepted =
    let bytes : List ℕ = nibble_bytes_above m R in
    (packed_is_of_registers k m (zero_nibbles bytes) bytes e R most (packed_values k R low are m (zero_nibbles bytes) bytes e least refl refl map_for excepted)).exceptions_are

-- what is written after no bytes
written : (S : Pairs) (front made bytes : List ℕ) → front ≡ [] → bytes ≡ made → WritesAscending (λ order. front ++ coupon_bytes order) S made → WritesAscending coupon_bytes S bytes
written S front made bytes none is w =
    subst (WritesAscending coupon_bytes S) (sym is) (subst (λ (f : List ℕ). WritesAscending (λ order. f ++ coupon_bytes order) S made) none w)

pub returns-clause-ok : goal.returns-clause-ok
returns-clause-ok g c =
    let e = unboxed c.in_ok-map.map in
    subst (λ S. WritesAscending coupon_bytes S c.into_bytes.result.items)
    (entries c.args.lg_k c.args.registers.now c.requires.least c.requires.most c.requires.registers c.args.minimum e c.requires.minimum c.in_ok-map.ensures.map c.in_ok-map.ensures.exceptions)
    (written (exceptions_in e) c.in_ok-bytes.bytes c.in_ok-with_exceptions.field-0 c.into_bytes.result.items c.in_ok-bytes.ensures.ok c.into_bytes.ensures c.in_ok-with_exceptions.ensures.ok)

pub returns-clause-few : goal.returns-clause-few
returns-clause-few g c =
    let S = exceptions_in (unboxed c.in_ok-map.map) in
    let w = written S c.in_ok-bytes.bytes c.in_ok-with_exceptions.field-0 c.into_bytes.result.items c.in_ok-bytes.ensures.ok c.into_bytes.ensures c.in_ok-with_exceptions.ensures.ok in
    omega (
      arith,
      ap length w.is,
      length-coupon_bytes w.order,
      len-ascending w.order S w.ascending,
      c.count_exceptions-size.ensures.count c.args.lg_k c.in_ok-map.ensures.map,
      c.count_exceptions-size.ensures.bound c.args.lg_k c.in_ok-map.ensures.map,
    )
