-- SPDX-License-Identifier: Apache-2.0
use Rattle.std.proofs.Common.{◌≡◌, ℕ, ◌^◌, ◌<◌, length, drop, inl, inr, sym, ap, subst, ◌∙◌, arith}
use Rattle.std.proofs.lemmas.List.{length-drop}
use Rattle.hll_registers.specs.Payload.{num_at_cur_min, exception_count, state_at, HasPlainCounts, IsHll8Payload, Hll8Fault, FirstHll8Fault}
use Rattle.hll_registers.specs.Payload as payload
use Rattle.hll_base.proofs.Errors.{IfErr-passed}
use Rattle.hll_arrays.proofs.ReadingRegisters.{slice_front}
use Rattle.hll_arrays.proofs.array8.read_register_bytes.Goals as goal

pub returns-in_err-preamble-clause-err : goal.returns-in_err-preamble-clause-err
returns-in_err-preamble-clause-err c =
    let e = c.in_err-preamble.ensures.err in
    IfErr-passed (Hll8Fault c.args.lg_config_k c.args.cursor) c.from_residual.result c.in_err-preamble.field-0.0 c.from_residual.ensures.1
    ((subst (Hll8Fault c.args.lg_config_k c.args.cursor) (sym e.0) (payload.Hll8Fault.no_counts e.1)))

pub returns-in_err-preamble-clause-order : goal.returns-in_err-preamble-clause-order
returns-in_err-preamble-clause-order c =
    let e = c.in_err-preamble.ensures.err in
    IfErr-passed (FirstHll8Fault c.args.lg_config_k c.args.cursor) c.from_residual.result c.in_err-preamble.field-0.0 c.from_residual.ensures.1
    ((subst (FirstHll8Fault c.args.lg_config_k c.args.cursor) (sym e.0) (payload.FirstHll8Fault.no_counts e.1)))

pub returns-then-preamble-size-clause-err : goal.returns-then-preamble-size-clause-err
returns-then-preamble-size-clause-err c =
    let read = c.in_ok-preamble.ensures.ok in
    (subst (Hll8Fault c.args.lg_config_k c.args.cursor) (sym c.new.ensures) (elim c.then-preamble-size.either [
      | inl many ↦ payload.Hll8Fault.zero_count read.0 (let above : 2 ^ c.args.lg_config_k < num_at_cur_min c.args.cursor = omega (arith, many, c.two_to-size.ensures, read.2) in above)
      | inr some ↦ payload.Hll8Fault.exceptions_counted read.0 (λ none. some.1 (read.3 ∙ none))
    ]))

pub returns-then-preamble-size-clause-order : goal.returns-then-preamble-size-clause-order
returns-then-preamble-size-clause-order c =
    let read = c.in_ok-preamble.ensures.ok in
    (subst (FirstHll8Fault c.args.lg_config_k c.args.cursor) (sym c.new.ensures) (elim c.then-preamble-size.either [
      | inl many ↦ payload.FirstHll8Fault.zero_count read.0 (let above : 2 ^ c.args.lg_config_k < num_at_cur_min c.args.cursor = omega (arith, many, c.two_to-size.ensures, read.2) in above)
      | inr some ↦ payload.FirstHll8Fault.exceptions_counted read.0 (λ none. some.1 (read.3 ∙ none))
    ]))

pub returns-in_default-clause-err : goal.returns-in_default-clause-err
returns-in_default-clause-err c =
    let read = c.in_ok-preamble.ensures.ok in
    let left : length c.remaining.result.now ≡ length (drop 32 c.args.cursor) = ap length (c.remaining.ensures ∙ read.4) in
    let short : length c.remaining.result.now < c.two_to-size.result = elim c.in_default.ensures.lookup.0 [ inl below ↦ absurd (omega (arith, below)) | inr l ↦ l ] in
    (subst (Hll8Fault c.args.lg_config_k c.args.cursor) (sym c.new-in_default.ensures)
    (payload.Hll8Fault.short (omega (arith, short, left, length-drop 32 c.args.cursor, c.two_to-size.ensures, read.0))))

pub returns-in_default-clause-order : goal.returns-in_default-clause-order
returns-in_default-clause-order c =
    let k : ℕ = c.args.lg_config_k in
    let read = c.in_ok-preamble.ensures.ok in
    let left : length c.remaining.result.now ≡ length (drop 32 c.args.cursor) = ap length (c.remaining.ensures ∙ read.4) in
    let short : length c.remaining.result.now < c.two_to-size.result = elim c.in_default.ensures.lookup.0 [ inl below ↦ absurd (omega (arith, below)) | inr l ↦ l ] in
    let counts : HasPlainCounts k c.args.cursor = record { whole = read.0; zero_count = omega (arith, c.if-preamble-size.false, c.two_to-size.ensures, read.2); no_exceptions = sym read.3 ∙ c.if-preamble-ne0.false } in
    (subst (FirstHll8Fault k c.args.cursor) (sym c.new-in_default.ensures)
    (payload.FirstHll8Fault.short counts (omega (arith, short, left, length-drop 32 c.args.cursor, c.two_to-size.ensures, read.0))))

pub returns-clause-ok : goal.returns-clause-ok
returns-clause-ok c =
    let k : ℕ = c.args.lg_config_k in
    let read = c.in_ok-preamble.ensures.ok in
    let found = c.in-Some.ensures.lookup.0 in
    let rest : c.remaining.result.now ≡ drop 32 c.args.cursor = c.remaining.ensures ∙ read.4 in (
      record { whole = read.0; zero_count = omega (arith, c.if-preamble-size.false, c.two_to-size.ensures, read.2); no_exceptions = sym read.3 ∙ c.if-preamble-ne0.false },
      omega (arith, found.1, ap length rest, length-drop 32 c.args.cursor, c.two_to-size.ensures, read.0),
      found.2 ∙ slice_front c.two_to-size.result (2 ^ k) c.remaining.result.now (drop 32 c.args.cursor) c.two_to-size.ensures rest,
      read.1,
    )

pub returns-clause-legal : goal.returns-clause-legal
returns-clause-legal c = c.in_ok-preamble.ensures.legal
