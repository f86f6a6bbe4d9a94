-- SPDX-License-Identifier: Apache-2.0
use Rattle.std.proofs.Common.{arith, ◌≡◌, ◌+◌, ◌-◌, ◌*◌, ◌^◌, ◌<◌, ◌≤◌, cond, eqb, length, take, drop, inl, inr, sym, ap, subst, ◌∙◌}
use Rattle.std.proofs.lemmas.List.{drop-drop, length-drop}
use Rattle.hll_base.proofs.Errors.{IfErr-passed}
use Rattle.hll_registers.specs.Payload.{Hll4Shape, exception_count, exception_buckets, hll4_size, is_compact, lg_table_of, num_at_cur_min, shape_of_hll4, FirstHll4Fault, HasEntries}
use Rattle.hll_registers.specs.Payload as payload
use Rattle.hll_arrays.proofs.four_bit_payload.frame_of.Goals as goal

pub returns-in_err-preamble-clause-err : goal.returns-in_err-preamble-clause-err
returns-in_err-preamble-clause-err c = λ m.
    let h : Hll4Shape = shape_of_hll4 c.args.header.lg_config_k m c.args.header.aux_format in
    let e = c.in_err-preamble.ensures.err in
    IfErr-passed (FirstHll4Fault h c.args.cursor) c.from_residual.result c.in_err-preamble.field-0.0 c.from_residual.ensures.1
    (subst (FirstHll4Fault h c.args.cursor) (sym e.0) (payload.FirstHll4Fault.no_counts e.1))

pub returns-then-preamble-size-clause-err : goal.returns-then-preamble-size-clause-err
returns-then-preamble-size-clause-err c = λ m.
    let h : Hll4Shape = shape_of_hll4 c.args.header.lg_config_k m c.args.header.aux_format in
    let read = c.in_ok-preamble.ensures.ok in
    subst (FirstHll4Fault h c.args.cursor) (sym c.new.ensures) (elim c.then-preamble-size.either [
      | inl many ↦ payload.FirstHll4Fault.low_count_above read.0 (let above : 2 ^ c.args.header.lg_config_k < num_at_cur_min c.args.cursor = omega (arith, many, c.two_to-size.ensures, read.2) in above)
      | inr more ↦ payload.FirstHll4Fault.exceptions_above read.0 (let above : 2 ^ c.args.header.lg_config_k < exception_count c.args.cursor = omega (arith, more.1, c.two_to-size.ensures, read.3) in above)
    ])

pub returns-in_err-buckets-clause-err : goal.returns-in_err-buckets-clause-err
returns-in_err-buckets-clause-err c = λ m.
    let h : Hll4Shape = shape_of_hll4 c.args.header.lg_config_k m c.args.header.aux_format in
    let read = c.in_ok-preamble.ensures.ok in
    let e = c.in_err-buckets.ensures.err in
    let low : num_at_cur_min c.args.cursor ≤ 2 ^ c.args.header.lg_config_k = omega (arith, c.if-preamble-size.false, c.two_to-size.ensures, read.2) in
    let few : exception_count c.args.cursor ≤ 2 ^ c.args.header.lg_config_k = omega (arith, c.if-count-size.false, c.two_to-size.ensures, read.3) in
    IfErr-passed (FirstHll4Fault h c.args.cursor) c.from_residual-in_err-buckets.result c.in_err-buckets.field-0.0 c.from_residual-in_err-buckets.ensures.1
    (subst (FirstHll4Fault h c.args.cursor) (sym e.0) (payload.FirstHll4Fault.table read.0 low few e.1 (λ z. e.2 (read.3 ∙ z)) e.3))

pub returns-in_default-clause-err : goal.returns-in_default-clause-err
returns-in_default-clause-err c = λ m.
    let h : Hll4Shape = shape_of_hll4 c.args.header.lg_config_k m c.args.header.aux_format in
    let read = c.in_ok-preamble.ensures.ok in
    let low : num_at_cur_min c.args.cursor ≤ 2 ^ c.args.header.lg_config_k = omega (arith, c.if-preamble-size.false, c.two_to-size.ensures, read.2) in
    let few : exception_count c.args.cursor ≤ 2 ^ c.args.header.lg_config_k = omega (arith, c.if-count-size.false, c.two_to-size.ensures, read.3) in
    let has : HasEntries h c.args.cursor = record { whole = read.0; few = few; table = λ loose some. c.in_ok-buckets.ensures.table loose (λ z. some (sym read.3 ∙ z)) } in
    let left : length c.remaining.result.now ≡ length (drop 32 c.args.cursor) = ap length (c.remaining.ensures ∙ read.4) in
    let short : length c.args.cursor < hll4_size h c.args.cursor = omega (arith, c.in_default.ensures.cases, left, length-drop 32 c.args.cursor, c.two_to.ensures, read.0) in
    subst (FirstHll4Fault h c.args.cursor) (sym c.new-in_default.ensures) (payload.FirstHll4Fault.short low has short)

pub returns-then-entries-buckets-clause-err : goal.returns-then-entries-buckets-clause-err
returns-then-entries-buckets-clause-err c = λ m.
    let h : Hll4Shape = shape_of_hll4 c.args.header.lg_config_k m c.args.header.aux_format in
    let read = c.in_ok-preamble.ensures.ok in
    let low : num_at_cur_min c.args.cursor ≤ 2 ^ c.args.header.lg_config_k = omega (arith, c.if-preamble-size.false, c.two_to-size.ensures, read.2) in
    let few : exception_count c.args.cursor ≤ 2 ^ c.args.header.lg_config_k = omega (arith, c.if-count-size.false, c.two_to-size.ensures, read.3) in
    let has : HasEntries h c.args.cursor = record { whole = read.0; few = few; table = λ loose some. c.in_ok-buckets.ensures.table loose (λ z. some (sym read.3 ∙ z)) } in
    let buckets : c.in_ok-buckets.buckets ≡ exception_buckets h c.args.cursor =
    c.in_ok-buckets.ensures.ok ∙ ap (λ n. cond (is_compact c.args.header.aux_format) n (cond (eqb n 0) 0 (2 ^ lg_table_of c.args.header.aux_format))) read.3 in
    let split = c.in-Some.ensures.cases in
    let left : length c.remaining.result.now ≡ length (drop 32 c.args.cursor) = ap length (c.remaining.ensures ∙ read.4) in
    let short : length c.args.cursor < 32 + (2 ^ (c.args.header.lg_config_k - 1) + 4 * c.in_ok-buckets.buckets) =
    omega (arith, c.if-entries-buckets.true, split.0, ap length split.2, length-drop c.two_to.result c.remaining.result.now, left, length-drop 32 c.args.cursor, c.two_to.ensures, read.0) in
    subst (FirstHll4Fault h c.args.cursor) (sym c.new-then-entries-buckets.ensures)
    (payload.FirstHll4Fault.short low has (subst (λ n. length c.args.cursor < 32 + (2 ^ (c.args.header.lg_config_k - 1) + 4 * n)) buckets short))

pub returns-clause-ok : goal.returns-clause-ok
returns-clause-ok c = λ m.
    let h : Hll4Shape = shape_of_hll4 c.args.header.lg_config_k m c.args.header.aux_format in
    let read = c.in_ok-preamble.ensures.ok in
    let low : num_at_cur_min c.args.cursor ≤ 2 ^ c.args.header.lg_config_k = omega (arith, c.if-preamble-size.false, c.two_to-size.ensures, read.2) in
    let few : exception_count c.args.cursor ≤ 2 ^ c.args.header.lg_config_k = omega (arith, c.if-count-size.false, c.two_to-size.ensures, read.3) in
    let has : HasEntries h c.args.cursor = record { whole = read.0; few = few; table = λ loose some. c.in_ok-buckets.ensures.table loose (λ z. some (sym read.3 ∙ z)) } in
    let buckets : c.in_ok-buckets.buckets ≡ exception_buckets h c.args.cursor =
    c.in_ok-buckets.ensures.ok ∙ ap (λ n. cond (is_compact c.args.header.aux_format) n (cond (eqb n 0) 0 (2 ^ lg_table_of c.args.header.aux_format))) read.3 in
    let split = c.in-Some.ensures.cases in
    let rest : c.remaining.result.now ≡ drop 32 c.args.cursor = c.remaining.ensures ∙ read.4 in
    let there : 32 + (2 ^ (c.args.header.lg_config_k - 1) + 4 * c.in_ok-buckets.buckets) ≤ length c.args.cursor =
    omega (arith, c.if-entries-buckets.false, split.0, ap length split.2, length-drop c.two_to.result c.remaining.result.now, ap length rest, length-drop 32 c.args.cursor, c.two_to.ensures, read.0) in (
      record { low = low; has_entries = has; there = subst (λ n. 32 + (2 ^ (c.args.header.lg_config_k - 1) + 4 * n) ≤ length c.args.cursor) buckets there },
      c.is_without_gaps.ensures,
      buckets,
      split.1 ∙ (λ i. take (c.two_to.ensures i) (rest i)),
      split.2 ∙ (λ i. drop (c.two_to.ensures i) (rest i)) ∙ drop-drop (2 ^ (c.args.header.lg_config_k - 1)) 32 c.args.cursor,
    )
