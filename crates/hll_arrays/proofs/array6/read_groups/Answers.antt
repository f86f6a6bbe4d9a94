-- SPDX-License-Identifier: Apache-2.0
use Rattle.std.proofs.Common.{◌≡◌, ℕ, ◌+◌, ◌*◌, ◌-◌, ◌^◌, ◌<◌, ◌≤◌, List, length, take, drop, inl, inr, sym, ap, subst, ◌∙◌, arith}
use Rattle.std.proofs.lemmas.List.{length-drop}
use Rattle.hll_kernels.specs.Packed.{fields}
use Rattle.hll_registers.specs.Payload.{num_at_cur_min, exception_count, field_size, HasPlainCounts, IsHll6Payload, Hll6Fault, FirstHll6Fault}
use Rattle.hll_registers.specs.Payload as payload
use Rattle.hll_base.proofs.Errors.{IfErr-passed}
use Rattle.hll_kernels.proofs.Grouping.{groups-pow, length-fields, length-registers_in}
use Rattle.hll_arrays.proofs.ReadingRegisters.{is_hll6_payload, slice_front}
use Rattle.hll_arrays.proofs.array6.read_groups.Goals as goal

pub returns-in_err-preamble-clause-err : goal.returns-in_err-preamble-clause-err
returns-in_err-preamble-clause-err c =
    let e = c.in_err-preamble.ensures.err in
    IfErr-passed (λ r. Hll6Fault c.args.lg_config_k c.args.cursor r) c.from_residual.result c.in_err-preamble.field-0.0 c.from_residual.ensures.1
    (subst (Hll6Fault c.args.lg_config_k c.args.cursor) (sym e.0) (payload.Hll6Fault.no_counts e.1))

pub returns-in_err-preamble-clause-order : goal.returns-in_err-preamble-clause-order
returns-in_err-preamble-clause-order c =
    let e = c.in_err-preamble.ensures.err in
    IfErr-passed (λ r. FirstHll6Fault c.args.lg_config_k c.args.cursor r) c.from_residual.result c.in_err-preamble.field-0.0 c.from_residual.ensures.1
    (subst (FirstHll6Fault c.args.lg_config_k c.args.cursor) (sym e.0) (payload.FirstHll6Fault.no_counts e.1))

pub returns-then-preamble-size-clause-err : goal.returns-then-preamble-size-clause-err
returns-then-preamble-size-clause-err c =
    let read = c.in_ok-preamble.ensures.ok in
    subst (Hll6Fault c.args.lg_config_k c.args.cursor) (sym c.new.ensures) (elim c.then-preamble-size.either [
      | inl many ↦ payload.Hll6Fault.zero_count read.0 (let above : 2 ^ c.args.lg_config_k < num_at_cur_min c.args.cursor = omega (arith, many, c.two_to-size.ensures, read.2) in above)
      | inr some ↦ payload.Hll6Fault.exceptions_counted read.0 (λ none. some.1 (read.3 ∙ none))
    ])

pub returns-then-preamble-size-clause-order : goal.returns-then-preamble-size-clause-order
returns-then-preamble-size-clause-order c =
    let read = c.in_ok-preamble.ensures.ok in
    subst (FirstHll6Fault c.args.lg_config_k c.args.cursor) (sym c.new.ensures) (elim c.then-preamble-size.either [
      | inl many ↦ payload.FirstHll6Fault.zero_count read.0 (let above : 2 ^ c.args.lg_config_k < num_at_cur_min c.args.cursor = omega (arith, many, c.two_to-size.ensures, read.2) in above)
      | inr some ↦ payload.FirstHll6Fault.exceptions_counted read.0 (λ none. some.1 (read.3 ∙ none))
    ])

pub returns-in_default-clause-err : goal.returns-in_default-clause-err
returns-in_default-clause-err c =
    let read = c.in_ok-preamble.ensures.ok in
    let left : length c.remaining.result.now ≡ length (drop 32 c.args.cursor) = ap length (c.remaining.ensures ∙ read.4) in
    let short : length c.remaining.result.now < c.packed_size.result = elim c.in_default.ensures.lookup.0 [ inl below ↦ absurd (omega (arith, below)) | inr l ↦ l ] in
    subst (Hll6Fault c.args.lg_config_k c.args.cursor) (sym c.new-in_default.ensures)
    (payload.Hll6Fault.short (omega (arith, short, left, length-drop 32 c.args.cursor, c.packed_size.ensures, read.0)))

pub returns-in_default-clause-order : goal.returns-in_default-clause-order
returns-in_default-clause-order c =
    let k : ℕ = c.args.lg_config_k in
    let read = c.in_ok-preamble.ensures.ok in
    let left : length c.remaining.result.now ≡ length (drop 32 c.args.cursor) = ap length (c.remaining.ensures ∙ read.4) in
    let short : length c.remaining.result.now < c.packed_size.result = elim c.in_default.ensures.lookup.0 [ inl below ↦ absurd (omega (arith, below)) | inr l ↦ l ] in
    let counts : HasPlainCounts k c.args.cursor = record { whole = read.0; zero_count = omega (arith, c.if-preamble-size.false, c.two_to-size.ensures, read.2); no_exceptions = sym read.3 ∙ c.if-preamble-ne0.false } in
    subst (FirstHll6Fault k c.args.cursor) (sym c.new-in_default.ensures)
    (payload.FirstHll6Fault.short counts (omega (arith, short, left, length-drop 32 c.args.cursor, c.packed_size.ensures, read.0)))

pub returns-clause-legal : goal.returns-clause-legal
returns-clause-legal c =
    let k : ℕ = c.args.lg_config_k in
    let b : List ℕ = c.in-Some.packed.now in
    let G : List (List ℕ) = c.groups_in.result.now in
    let found = c.in-Some.ensures.lookup.0 in
    let quarter : 4 * 2 ^ (k - 2) ≡ 2 ^ k = groups-pow k (omega (arith, c.requires.least)) in
    let long : length b ≡ 3 * 2 ^ (k - 2) + 1 = omega (arith, found.3, c.packed_size.ensures, quarter) in
    let many : 4 * length G ≡ 4 * 2 ^ (k - 2) = sym (length-registers_in G) ∙ ap length c.groups_in.ensures.registers ∙ length-fields (2 ^ (k - 2)) b long in
    (record { size = omega (arith, many); bytes = c.groups_in.ensures.groups }, c.in_ok-preamble.ensures.legal)

pub returns-clause-ok : goal.returns-clause-ok
returns-clause-ok c =
    let k : ℕ = c.args.lg_config_k in
    let read = c.in_ok-preamble.ensures.ok in
    let found = c.in-Some.ensures.lookup.0 in
    let rest : c.remaining.result.now ≡ drop 32 c.args.cursor = c.remaining.ensures ∙ read.4 in
    let are : c.in-Some.packed.now ≡ take (field_size k) (drop 32 c.args.cursor) = found.2 ∙ slice_front c.packed_size.result (field_size k) c.remaining.result.now (drop 32 c.args.cursor) c.packed_size.ensures rest in
    let there : 32 + field_size k ≤ length c.args.cursor = omega (arith, found.1, ap length rest, length-drop 32 c.args.cursor, c.packed_size.ensures, read.0) in
    let low : num_at_cur_min c.args.cursor ≤ 2 ^ k = omega (arith, c.if-preamble-size.false, c.two_to-size.ensures, read.2) in
    let none : exception_count c.args.cursor ≡ 0 = sym read.3 ∙ c.if-preamble-ne0.false in
    (is_hll6_payload k c.args.cursor there low none, c.groups_in.ensures.registers ∙ ap fields are, read.1)
