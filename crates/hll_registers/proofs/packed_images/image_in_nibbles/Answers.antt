-- SPDX-License-Identifier: Apache-2.0
use Rattle.std.proofs.Common.{◌≡◌, ◌/◌, ◌==◌, ◌++◌, ℕ, List, length, count_by, ap, ◌∙◌, append_assoc, arith}
use Rattle.std.proofs.Math.Pow.{pow_mono}
use Rattle.hll_coupons.specs.Coupons.{coupon_bytes}
use Rattle.hll_coupons.proofs.Merging.{count_in_bytes}
use Rattle.hll_kernels.specs.Packed.{minimum, count_at_minimum, nibble_bytes, nibble_bytes_above}
use Rattle.hll_registers.specs.Payload.{number_bytes}
use Rattle.hll_registers.proofs.FourBitStores.{header_of, twice}
use Rattle.hll_registers.proofs.packed_images.image_in_nibbles.Goals as goal

pub overflow_cast-preamble-2 : goal.overflow_cast-preamble-2
overflow_cast-preamble-2 g c = omega (arith, c.len.ensures, c.in_ok-entries.entries.ok.0, c.in_ok-entries.ensures.few)

pub append_nibbles-requires-clause-even : goal.append_nibbles-requires-clause-even
append_nibbles-requires-clause-even g c = omega (arith, c.requires.registers.size, twice c.args.lg_k c.requires.least)

pub append_nibbles-requires-clause-few : goal.append_nibbles-requires-clause-few
append_nibbles-requires-clause-few g c = omega (arith, c.requires.registers.size, pow_mono c.requires.most)

pub returns-clause-ok : goal.returns-clause-ok
returns-clause-ok g c =
    let k : ℕ = c.args.lg_k in
    let R : List ℕ = c.args.registers.now in
    let state = c.args.state in
    let w = c.in_ok-entries.ensures.ok in
    let least : c.least_of-minimum.result ≡ minimum R = c.least_of-minimum.ensures in
    let count : c.count_of.result ≡ count_at_minimum R = c.count_of.ensures.count ∙ ap (λ (m : ℕ). count_by (λ v. v == m) R) least in
    let number : c.len.result / 4 ≡ length w.order = ap (λ n. n / 4) (c.len.ensures ∙ c.in_ok-entries.entries.ok.0) ∙ count_in_bytes c.in_ok-entries.entries.items w.order w.is in
    let H : List ℕ = header_of k (minimum R) state in
    let N : List ℕ = number_bytes state (count_at_minimum R) (length w.order) in
    let B : List ℕ = nibble_bytes R in
    let Q : List ℕ = coupon_bytes w.order in
    let start : c.into_bytes-image.result.items ≡ H ++ N =
    c.into_bytes-image.ensures ∙ c.in_ok-start_image.ensures.ok ∙ (λ i. header_of k (least i) state ++ number_bytes state (count i) (number i)) in
    let front : c.append_nibbles.new.image.items ≡ (H ++ N) ++ B = c.in_ok-append_nibbles.ensures.ok ∙ (λ i. start i ++ nibble_bytes_above (least i) R) in
    let all : c.extend_from_slice.new.self.items ≡ ((H ++ N) ++ B) ++ Q = c.in_ok-extend_from_slice.ensures.items ∙ (λ i. front i ++ (c.deref.ensures.value ∙ w.is) i) in
    record {
      order = w.order;
      ascending = w.ascending;
      is = all ∙ append_assoc (H ++ N) B Q ∙ append_assoc H N (B ++ Q);
    }
