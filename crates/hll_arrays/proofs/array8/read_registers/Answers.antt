-- SPDX-License-Identifier: Apache-2.0
use Rattle.std.proofs.Common.{◌≡◌, ℕ, ◌+◌, ◌^◌, ◌≤◌, false, List, length, take, drop, All, sym, ap, subst, ◌∙◌, arith}
use Rattle.std.specs.Prelude.{nat_le}
use Rattle.std.specs.List.{list_all}
use Rattle.std.proofs.Math.Pow.{pow_mono}
use Rattle.std.proofs.lemmas.Bool.{true≢false}
use Rattle.std.proofs.lemmas.List.{length-drop, length-take-le}
use Rattle.hll_base.proofs.Errors.{IfErr-passed}
use Rattle.hll_registers.specs.Payload.{HasPlainCounts, Hll8Fault, FirstHll8Fault}
use Rattle.hll_registers.specs.Payload as payload
use Rattle.hll_registers.specs.Store.{Stored}
use Rattle.hll_arrays.proofs.ReadingRegisters.{small-from, small-to, is_hll8_payload}
use Rattle.hll_arrays.proofs.array8.read_registers.Goals as goal

-- a register is above 63
too_great : (R Q : List ℕ) → R ≡ Q → list_all (λ v. nat_le v 63) R ≡ false → All (λ v. v ≤ 63) Q → ⊥
too_great R Q are above small = true≢false (sym (small-to Q small) ∙ sym (ap (list_all (λ v. nat_le v 63)) are) ∙ above)

-- the registers that are there
size_of : (k : ℕ) (R cursor : List ℕ) → R ≡ take (2 ^ k) (drop 32 cursor) → 32 + 2 ^ k ≤ length cursor → length R ≡ 2 ^ k
size_of k R cursor is there = ap length is ∙ length-take-le (2 ^ k) (drop 32 cursor) (omega (arith, there, length-drop 32 cursor))

pub checked_zeros-requires : goal.checked_zeros-requires
checked_zeros-requires c =
    let read = c.in_ok-bytes.ensures.ok in
    omega (arith, size_of c.args.lg_config_k c.in_ok-bytes.bytes.now c.args.cursor read.2 read.1, pow_mono {i = c.args.lg_config_k} {j = 21} c.requires.most)

pub returns-in_err-zero_count-clause-err : goal.returns-in_err-zero_count-clause-err
returns-in_err-zero_count-clause-err c =
    let read = c.in_ok-bytes.ensures.ok in
    let e = c.in_err-zero_count in
    IfErr-passed (Hll8Fault c.args.lg_config_k c.args.cursor) c.from_residual-in_err-zero_count.result e.field-0.0 c.from_residual-in_err-zero_count.ensures.1
    (subst (Hll8Fault c.args.lg_config_k c.args.cursor) (sym e.ensures.err.0) (payload.Hll8Fault.register read.1 (too_great _ _ read.2 e.ensures.err.1)))

pub returns-in_err-zero_count-clause-order : goal.returns-in_err-zero_count-clause-order
returns-in_err-zero_count-clause-order c =
    let read = c.in_ok-bytes.ensures.ok in
    let e = c.in_err-zero_count in
    IfErr-passed (FirstHll8Fault c.args.lg_config_k c.args.cursor) c.from_residual-in_err-zero_count.result e.field-0.0 c.from_residual-in_err-zero_count.ensures.1
    (subst (FirstHll8Fault c.args.lg_config_k c.args.cursor) (sym e.ensures.err.0) (payload.FirstHll8Fault.register read.0 read.1 (too_great _ _ read.2 e.ensures.err.1)))

pub new-requires-clause-registers : goal.new-requires-clause-registers
new-requires-clause-registers c =
    let read = c.in_ok-bytes.ensures.ok in
    record {
      size = size_of c.args.lg_config_k c.in_ok-bytes.bytes.now c.args.cursor read.2 read.1;
      small = small-from c.in_ok-bytes.bytes.now c.in_ok-zero_count.ensures.small;
    }

pub returns-clause-ok : goal.returns-clause-ok
returns-clause-ok c =
    let k : ℕ = c.args.lg_config_k in
    let read = c.in_ok-bytes.ensures.ok in
    let counts : HasPlainCounts k c.args.cursor = read.0 in (
      is_hll8_payload k c.args.cursor read.1 counts.zero_count counts.no_exceptions (subst (All (λ v. v ≤ 63)) read.2 (small-from c.in_ok-bytes.bytes.now c.in_ok-zero_count.ensures.small)),
      c.with_state.ensures
          ∙ ap (λ (l : Stored). record l { state = c.in_ok-bytes.state }) (c.with_zero_count.ensures ∙ c.new.ensures)
          ∙ (λ i. record { lg_k = k; registers = read.2 i; state = read.3 i }),
    )
