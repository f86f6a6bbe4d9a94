-- SPDX-License-Identifier: Apache-2.0
use Rattle.std.proofs.Common.{◌∙◌, sym, arith}
use Rattle.hll_registers.specs.Store.{Stored}
use Rattle.hll_sketch.proofs.MaxBytes.{max_of_zeros, max_of_fewer, max_of_folds}
use Rattle.hll_sketch.proofs.max_registers.max_registers.Goals as goal

pub returns-then-are_all_zero : goal.returns-then-are_all_zero
returns-then-are_all_zero g c =
    let x : Stored = g.R.Registers.stored c.args.source.now in
    max_of_zeros c.args.lg_k x.lg_k c.args.registers.now x.registers c.requires.size (sym c.requires.zeros ∙ c.if-are_all_zero.true)

pub returns-then-lg_k : goal.returns-then-lg_k
returns-then-lg_k g c =
    let x : Stored = g.R.Registers.stored c.args.source.now in
    max_of_fewer c.args.lg_k x.lg_k c.args.registers.now x.registers c.lg_k-then-lg_k.result (omega (arith, c.if-lg_k.true, c.lg_k.ensures.lg_k)) c.lg_k-then-lg_k.ensures.lg_k
    (sym c.requires.zeros ∙ c.if-are_all_zero.false)

pub returns : goal.returns
returns g c =
    let x : Stored = g.R.Registers.stored c.args.source.now in
    max_of_folds c.args.lg_k x.lg_k c.args.registers.now c.max_folds.new.values x.registers (omega (arith, c.if-lg_k.false, c.lg_k.ensures.lg_k)) c.max_folds.ensures.joined
