-- SPDX-License-Identifier: Apache-2.0
use Rattle.std.proofs.Common.{◌≡◌, ◌≤◌, ◌+◌, ◌-◌, ◌*◌, ◌/◌, ◌++◌, ℕ, List, length, take, drop, refl, sym, ap, ◌∙◌, arith}
use Rattle.std.specs.Simd.Lanes.{chunk, put_chunk}
use Rattle.std.proofs.lemmas.List.{length-map, length-take, length-take-le, take-append-drop}
use borrow.Rule.Slice.PartMut.{mid_of, put_mid}
use Rattle.hll_kernels.specs.Packed.{lowered_byte, zero_nibbles}
use Rattle.hll_kernels.proofs.Parts.{put_none, put_end}
use Rattle.hll_kernels.proofs.Lowering.{next_above, lower_more, count_more, rest_part, none_in_drop, map_append, zero_nibbles-le, zero_nibbles-append}
use Rattle.hll_kernels.proofs.nibbles.lower_nibbles.Goals as goal
use mathlib.Core.List.{map}

pub loop-place-init : goal.loop-place-init
loop-place-init c = record { lowered = sym (put_none 0 c.args.bytes.now); zeros = refl }

pub lower_32-zeros-requires-clause-none : goal.lower_32-zeros-requires-clause-none
lower_32-zeros-requires-clause-none c = next_above (32 * c.loop-place.place) 32 c.args.bytes.now c.loop-place.bytes c.loop-place.invariant.lowered (omega (arith, c.loop-place-test.true)) c.requires.none

pub loop-place-preserved : goal.loop-place-preserved
loop-place-preserved c =
    let R = c.args.bytes.now in
    let V = c.loop-place.bytes in
    let p = c.loop-place.place in
    let room : 32 * p + 32 ≤ length R = omega (arith, c.loop-place-test.true) in
    let next : 32 * p + 32 ≡ 32 * (p + 1) = omega arith in
    record {
      lowered = c.lower_32-zeros.ensures.lowered ∙ lower_more (32 * p) 32 R V c.loop-place.invariant.lowered room ∙ ap (λ n. put_chunk 0 R (map lowered_byte (take n R))) next;
      zeros = count_more (32 * p) 32 R V c.loop-place.invariant.lowered room c.loop-place.zeros c.lower_32-zeros.result c.loop-place.invariant.zeros c.lower_32-zeros.ensures.zeros ∙ ap (λ n. zero_nibbles (map lowered_byte (take n R))) next;
    }

pub overflow_add-zeros : goal.overflow_add-zeros
overflow_add-zeros c =
    let R = c.args.bytes.now in
    let V = c.loop-place.bytes in
    let p = c.loop-place.place in
    let P = map lowered_byte (take (32 * p) R) in
    let Q = map lowered_byte (chunk (32 * p) 32 V) in
    record {
      fits = omega (
        arith,
        c.loop-place.invariant.zeros,
        zero_nibbles-le P,
        length-map (take (32 * p) R) lowered_byte,
        length-take (32 * p) R,
        c.lower_32-zeros.ensures.zeros,
        zero_nibbles-le Q,
        length-map (chunk (32 * p) 32 V) lowered_byte,
        length-take 32 (drop (32 * p) V),
        c.requires.few,
      );
    }

-- the rest after the last of p blocks
rest : (p q : ℕ) (R V : List ℕ) → p ≡ q → q ≡ length R / 32 → length V ≡ length R → V ≡ put_chunk 0 R (map lowered_byte (take (32 * p) R)) → mid_of (32 * q) (length V - 32 * q) V ≡ drop (32 * q) R
rest p q R V e f same done =
    rest_part (32 * q) (length V - 32 * q) R V (done ∙ ap (λ n. put_chunk 0 R (map lowered_byte (take (32 * n) R))) e) (omega arith) (omega arith)

pub lower_one_by_one-requires-clause-none : goal.lower_one_by_one-requires-clause-none
lower_one_by_one-requires-clause-none c =
    let R = c.args.bytes.now in
    let q = length R / 32 in
    ap zero_nibbles (rest c.loop-place.place q R c.loop-place.bytes (omega (arith, c.loop-place-test.false, c.loop-place.auto.place-end)) refl c.loop-place.auto.bytes c.loop-place.invariant.lowered)
    ∙ none_in_drop (32 * q) R c.requires.none

pub returns-clause-lowered : goal.returns-clause-lowered
returns-clause-lowered c =
    let R = c.args.bytes.now in
    let V = c.loop-place.bytes in
    let p = c.loop-place.place in
    let q = length R / 32 in
    let e : p ≡ q = omega (arith, c.loop-place-test.false, c.loop-place.auto.place-end) in
    let done : V ≡ put_chunk 0 R (map lowered_byte (take (32 * q) R)) = c.loop-place.invariant.lowered ∙ ap (λ n. put_chunk 0 R (map lowered_byte (take (32 * n) R))) e in
    put_end (32 * q) (length V - 32 * q) R V c.lower_one_by_one.new.bytes (map lowered_byte (take (32 * q) R)) done
    (omega (arith, length-map (take (32 * q) R) lowered_byte, length-take-le (32 * q) R (omega arith))) (omega (arith, c.loop-place.auto.bytes))
    ∙ ap (λ W. map lowered_byte (take (32 * q) R) ++ W) (c.lower_one_by_one.ensures.lowered ∙ ap (map lowered_byte) (rest p q R V e refl c.loop-place.auto.bytes c.loop-place.invariant.lowered))
    ∙ sym (map_append lowered_byte (take (32 * q) R) (drop (32 * q) R)) ∙ ap (map lowered_byte) (take-append-drop (32 * q) R)

pub returns-clause-zeros : goal.returns-clause-zeros
returns-clause-zeros c =
    let R = c.args.bytes.now in
    let V = c.loop-place.bytes in
    let p = c.loop-place.place in
    let q = length R / 32 in
    let e : p ≡ q = omega (arith, c.loop-place-test.false, c.loop-place.auto.place-end) in
    let first : c.loop-place.zeros ≡ zero_nibbles (map lowered_byte (take (32 * q) R)) = c.loop-place.invariant.zeros ∙ ap (λ n. zero_nibbles (map lowered_byte (take (32 * n) R))) e in
    let last : c.lower_one_by_one.result ≡ zero_nibbles (map lowered_byte (drop (32 * q) R)) =
    c.lower_one_by_one.ensures.zeros ∙ ap zero_nibbles (c.lower_one_by_one.ensures.lowered ∙ ap (map lowered_byte) (rest p q R V e refl c.loop-place.auto.bytes c.loop-place.invariant.lowered)) in
    (λ i. first i + last i)
    ∙ sym (ap zero_nibbles (returns-clause-lowered c ∙ ap (map lowered_byte) (sym (take-append-drop (32 * q) R)) ∙ map_append lowered_byte (take (32 * q) R) (drop (32 * q) R))
    ∙ zero_nibbles-append (map lowered_byte (take (32 * q) R)) (map lowered_byte (drop (32 * q) R)))

pub returns-clause-bound : goal.returns-clause-bound
returns-clause-bound c = omega (arith, returns-clause-zeros c, zero_nibbles-le (put_mid (32 * (length c.args.bytes.now / 32)) (length c.loop-place.bytes - 32 * (length c.args.bytes.now / 32)) c.loop-place.bytes c.lower_one_by_one.new.bytes))
