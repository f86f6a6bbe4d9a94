-- SPDX-License-Identifier: Apache-2.0
use Rattle.std.proofs.Common.{ℕ, refl, sym, ap, subst}
use Rattle.hll_kernels.specs.Packed.{AreRegisters}
use Rattle.hll_registers.specs.State.{cleared_state}
use Rattle.hll_registers.specs.Store.{Stored}
use Rattle.hll_sketch.specs.Value.{registers}
use Rattle.hll_c.specs.ByteRegisters.{MergesRegistersInto, merged_registers, coarser_registers, others_above, others_argument, sketch_of_bytes}
use Rattle.hll_c.proofs.Answers.{not_so}
use Rattle.hll_c.proofs.byte_registers.merge_others.Goals as goal

pub returns-in_default : goal.returns-in_default
returns-in_default c =
    subst (MergesRegistersInto c.args.others.now c.args.registers.now c.args.registers.now c.args.coarser.now c.args.coarser.now) (sym c.number.ensures)
    (others_argument (λ both. c.in_default.ensures.err.1 both.0) refl refl)

pub returns-in_default-lg_k_of : goal.returns-in_default-lg_k_of
returns-in_default-lg_k_of c =
    subst (MergesRegistersInto c.args.others.now c.args.registers.now c.args.registers.now c.args.coarser.now c.args.coarser.now) (sym c.number-in_default-lg_k_of.ensures)
    (others_argument (λ both. c.in_default-lg_k_of.ensures.err.1 both.1) refl refl)

pub returns-then-not-are_small : goal.returns-then-not-are_small
returns-then-not-are_small c =
    subst (MergesRegistersInto c.args.others.now c.args.registers.now c.args.registers.now c.args.coarser.now c.args.coarser.now) (sym c.number-then-not-are_small.ensures)
    (others_above (record { lg_k = c.in-Ok.lg_k; of = c.in-Ok.ensures.ok }) c.in-Ok-lg_k_of.ensures.ok
    (not_so c.are_small.result (AreRegisters c.in-Ok-lg_k_of.others_lg_k c.args.others.now) c.if-not-are_small.true c.are_small.ensures) refl refl)

pub returns-in-None : goal.returns-in-None
returns-in-None c =
    let l : ℕ = c.in-Ok-lg_k_of.others_lg_k in
    merged_registers c.in-Ok.ensures.ok c.in-Ok-lg_k_of.ensures.ok (c.are_small.ensures.0 c.if-not-are_small.false)
    (c.in-None.ensures (sketch_of_bytes l c.args.others.now) cleared_state (sym (ap (λ (p : Stored). p.lg_k) c.new-source.ensures)) (λ i. registers (sym (ap (λ (p : Stored). p.registers) c.new-source.ensures) i) cleared_state)) refl

pub returns-in-Some : goal.returns-in-Some
returns-in-Some c =
    let l : ℕ = c.in-Ok-lg_k_of.others_lg_k in
    coarser_registers c.in-Ok.ensures.ok c.in-Ok-lg_k_of.ensures.ok (c.are_small.ensures.0 c.if-not-are_small.false)
    (c.in-Some.ensures (sketch_of_bytes l c.args.others.now) cleared_state (sym (ap (λ (p : Stored). p.lg_k) c.new-source.ensures)) (λ i. registers (sym (ap (λ (p : Stored). p.registers) c.new-source.ensures) i) cleared_state)) refl
