-- SPDX-License-Identifier: Apache-2.0
use Rattle.std.proofs.Common.{◌≡◌, ◌≤◌, ◌<◌, ◌+◌, ℕ, List, [], ◌∷◌, length, get_or, take, refl, sym, ap, ◌∙◌, arith}
use Rattle.std.specs.Simd.Lanes.{chunk, put_chunk}
use Rattle.std.proofs.lemmas.List.{length-map, length-take, take_all}
use Rattle.hll_kernels.specs.Packed.{lowered_byte, zero_nibbles}
use Rattle.hll_kernels.proofs.Parts.{put_none, put_one, put_all}
use Rattle.hll_kernels.proofs.Lowering.{nibbles_above_zero, next_above, lower_more, count_more, one_chunk, zero_nibbles-le}
use Rattle.hll_kernels.proofs.nibbles.lower_one_by_one.Goals as goal
use mathlib.Core.List.{map}

pub loop-place-init : goal.loop-place-init
loop-place-init c = record { lowered = sym (put_none 0 c.args.bytes.now); zeros = refl }

pub lowered-byte-requires : goal.lowered-byte-requires
lowered-byte-requires c =
    let R = c.args.bytes.now in
    let V = c.loop-place.bytes in
    let p = c.loop-place.place in
    let within : p < length V = omega (arith, c.loop-place-test.true, c.loop-place.auto.bytes) in
    let none : zero_nibbles (get_or V p 0 ∷ []) ≡ 0 =
    ap zero_nibbles (sym (one_chunk p V within)) ∙ next_above p 1 R V c.loop-place.invariant.lowered (omega (arith, c.loop-place-test.true, c.loop-place.auto.bytes)) c.requires.none in
    (nibbles_above_zero (get_or V p 0 ∷ []) none).0

-- the next byte as a part
next : (p x : ℕ) (V : List ℕ) → p < length V → x ≡ lowered_byte (get_or V p 0) → (x ∷ []) ≡ map lowered_byte (chunk p 1 V)
next p x V h e = ap (λ y. y ∷ []) e ∙ ap (map lowered_byte) (sym (one_chunk p V h))

pub loop-place-preserved : goal.loop-place-preserved
loop-place-preserved c =
    let R = c.args.bytes.now in
    let V = c.loop-place.bytes in
    let p = c.loop-place.place in
    let within : p < length V = omega (arith, c.loop-place-test.true, c.loop-place.auto.bytes) in
    let room : p + 1 ≤ length R = omega (arith, c.loop-place-test.true, c.loop-place.auto.bytes) in
    let byte : (c.lowered-byte.result ∷ []) ≡ map lowered_byte (chunk p 1 V) = next p c.lowered-byte.result V within c.lowered-byte.ensures in
    record {
      lowered = put_one p V c.lowered-byte.result within ∙ ap (put_chunk p V) byte ∙ lower_more p 1 R V c.loop-place.invariant.lowered room;
      zeros = count_more p 1 R V c.loop-place.invariant.lowered room c.loop-place.zeros c.zeros_of-zeros.result c.loop-place.invariant.zeros (c.zeros_of-zeros.ensures.count ∙ ap zero_nibbles byte);
    }

pub overflow_add-zeros : goal.overflow_add-zeros
overflow_add-zeros c =
    let R = c.args.bytes.now in
    let p = c.loop-place.place in
    record { fits = omega (arith, c.loop-place.invariant.zeros, zero_nibbles-le (map lowered_byte (take p R)), length-map (take p R) lowered_byte, length-take p R, c.zeros_of-zeros.ensures.bound, c.requires.few) }

pub returns-clause-lowered : goal.returns-clause-lowered
returns-clause-lowered c =
    let R = c.args.bytes.now in
    let p = c.loop-place.place in
    let whole : take p R ≡ R = take_all p R (omega (arith, c.loop-place-test.false, c.loop-place.auto.bytes)) in
    put_all R c.loop-place.bytes (map lowered_byte (take p R)) c.loop-place.invariant.lowered (omega (arith, length-map (take p R) lowered_byte, ap length whole)) ∙ ap (map lowered_byte) whole

pub returns-clause-zeros : goal.returns-clause-zeros
returns-clause-zeros c =
    let R = c.args.bytes.now in
    let p = c.loop-place.place in
    let whole : take p R ≡ R = take_all p R (omega (arith, c.loop-place-test.false, c.loop-place.auto.bytes)) in
    c.loop-place.invariant.zeros ∙ ap (λ Q. zero_nibbles (map lowered_byte Q)) whole ∙ ap zero_nibbles (sym (returns-clause-lowered c))
