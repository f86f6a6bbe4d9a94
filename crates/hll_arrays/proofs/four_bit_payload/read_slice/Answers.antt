-- SPDX-License-Identifier: Apache-2.0
use Rattle.std.proofs.Common.{arith, ◌≡◌, ◌≢◌, ◌+◌, ◌-◌, ◌*◌, ◌^◌, ◌⊎◌, List, ℕ, length, inl, inr, sym, ap, subst, ◌∙◌}
use Rattle.std.proofs.lemmas.List.{length-drop}
use Rattle.hll_base.proofs.Errors.{IfErr-passed}
use Rattle.hll_base.specs.declared.error.Reason.TheVariants.{Memory}
use Rattle.hll_coupons.specs.AuxMap.{entry_at}
use Rattle.hll_coupons.specs.Coupons.{coupons_at}
use Rattle.hll_registers.specs.declared.estimate_state.EstimateState.{EstimateState}
use Rattle.hll_registers.specs.FourBits.{exception_in, unboxed}
use Rattle.hll_registers.specs.Payload.{Hll4Shape, entries_of, exception_count, nibbles_of, shape_of_hll4, AreEntries, Agrees, FirstHll4Fault, IsWhole}
use Rattle.hll_registers.specs.Payload as payload
use Rattle.hll_registers.specs.Store.{Stored}
use Rattle.hll_arrays.proofs.FourBitWholes.{all_agree, fault_not_memory, is_hll4_payload, nibbles-size, no_buckets, parts_agree, unpacked-registers}
use Rattle.hll_arrays.proofs.ReadingRegisters.{IfErr-always}
use Rattle.hll_arrays.proofs.four_bit_payload.read_slice.Goals as goal

pub returns-in_err-frame-clause-asked : goal.returns-in_err-frame-clause-asked
returns-in_err-frame-clause-asked g c =
    let h : Hll4Shape = shape_of_hll4 c.args.header.lg_config_k c.args.header.cur_min c.args.header.aux_format in
    IfErr-passed (λ e. e ≡ Memory → IsWhole h c.args.cursor) c.from_residual.result c.in_err-frame.field-0.0 c.from_residual.ensures.1
    (λ memory. absurd (fault_not_memory h c.args.cursor c.in_err-frame.field-0.0 (c.in_err-frame.ensures.err c.args.header.cur_min) memory))

pub returns-in_err-frame-clause-needed : goal.returns-in_err-frame-clause-needed
returns-in_err-frame-clause-needed g c =
    let h : Hll4Shape = shape_of_hll4 c.args.header.lg_config_k c.args.header.cur_min c.args.header.aux_format in
    IfErr-passed (λ e. e ≡ Memory → exception_count c.args.cursor ≢ 0) c.from_residual.result c.in_err-frame.field-0.0 c.from_residual.ensures.1
    (λ memory. absurd (fault_not_memory h c.args.cursor c.in_err-frame.field-0.0 (c.in_err-frame.ensures.err c.args.header.cur_min) memory))

pub read_entries-requires-clause-there : goal.read_entries-requires-clause-there
read_entries-requires-clause-there g c =
    let frame = c.in_ok-frame.ensures.ok c.args.header.cur_min in
    omega (arith, frame.0.there, frame.2, ap length frame.4, length-drop (32 + 2 ^ (c.args.header.lg_config_k - 1)) c.args.cursor)

pub returns-in_err-exceptions-clause-err : goal.returns-in_err-exceptions-clause-err
returns-in_err-exceptions-clause-err g c =
    let h : Hll4Shape = shape_of_hll4 c.args.header.lg_config_k c.args.header.cur_min c.args.header.aux_format in
    let frame = c.in_ok-frame.ensures.ok c.args.header.cur_min in
    let same : coupons_at c.in_ok-frame.frame.compact c.in_ok-frame.frame.buckets c.in_ok-frame.frame.entries.now ≡ entries_of h c.args.cursor = λ i. coupons_at (frame.1 i) (frame.2 i) (frame.4 i) in
    let count : c.in_ok-frame.frame.preamble.exception_count ≡ exception_count c.args.cursor = c.in_ok-frame.ensures.numbers.2 in
    IfErr-passed (λ e. (e ≡ Memory) ⊎ FirstHll4Fault h c.args.cursor e) c.from_residual-in_err-exceptions.result c.in_err-exceptions.field-0.0 c.from_residual-in_err-exceptions.ensures.1
    (elim c.in_err-exceptions.ensures.err [
      | inl memory ↦ inl memory
      | inr fault ↦ inr (elim fault [
        | inl coupon ↦ subst (FirstHll4Fault h c.args.cursor) (sym coupon.0) (payload.FirstHll4Fault.coupon frame.0 (λ are. coupon.1 (subst (AreEntries c.args.header.lg_config_k) (sym same) are)))
        | inr number ↦
            subst (FirstHll4Fault h c.args.cursor) (sym number.0)
            (payload.FirstHll4Fault.number frame.0 (subst (AreEntries c.args.header.lg_config_k) same number.1) (λ e. number.2 (ap length same ∙ e ∙ sym count)))
      ])
    ])

pub returns-in_err-exceptions-clause-asked : goal.returns-in_err-exceptions-clause-asked
returns-in_err-exceptions-clause-asked g c =
    let h : Hll4Shape = shape_of_hll4 c.args.header.lg_config_k c.args.header.cur_min c.args.header.aux_format in
    IfErr-always (λ e. e ≡ Memory → IsWhole h c.args.cursor) c.from_residual-in_err-exceptions.result (λ e memory. (c.in_ok-frame.ensures.ok c.args.header.cur_min).0)

pub returns-in_err-exceptions-clause-needed : goal.returns-in_err-exceptions-clause-needed
returns-in_err-exceptions-clause-needed g c =
    let h : Hll4Shape = shape_of_hll4 c.args.header.lg_config_k c.args.header.cur_min c.args.header.aux_format in
    IfErr-passed (λ e. e ≡ Memory → exception_count c.args.cursor ≢ 0) c.from_residual-in_err-exceptions.result c.in_err-exceptions.field-0.0 c.from_residual-in_err-exceptions.ensures.1
    (λ memory none. c.in_err-exceptions.ensures.needed memory ((c.in_ok-frame.ensures.ok c.args.header.cur_min).2 ∙ no_buckets h c.args.cursor none))

pub from_parts-requires-clause-size : goal.from_parts-requires-clause-size
from_parts-requires-clause-size g c =
    let h : Hll4Shape = shape_of_hll4 c.args.header.lg_config_k c.args.header.cur_min c.args.header.aux_format in
    let frame = c.in_ok-frame.ensures.ok c.args.header.cur_min in
    ap (λ bs. 2 * length bs) frame.3 ∙ nibbles-size h c.args.cursor frame.0 (omega (arith, c.requires.least))

pub returns-clause-registers : goal.returns-clause-registers
returns-clause-registers g c =
    let h : Hll4Shape = shape_of_hll4 c.args.header.lg_config_k c.args.header.cur_min c.args.header.aux_format in
    let frame = c.in_ok-frame.ensures.ok c.args.header.cur_min in
    let same : coupons_at c.in_ok-frame.frame.compact c.in_ok-frame.frame.buckets c.in_ok-frame.frame.entries.now ≡ entries_of h c.args.cursor = λ i. coupons_at (frame.1 i) (frame.2 i) (frame.4 i) in
    let values : (s : ℕ) → exception_in (unboxed c.in_ok-exceptions.exceptions) s ≡ entry_at c.args.header.lg_config_k (entries_of h c.args.cursor) s = λ s. c.in_ok-exceptions.ensures.values s ∙ ap (λ es. entry_at c.args.header.lg_config_k es s) same in
    let stored : List ℕ → EstimateState → Stored = λ R state. record { lg_k = c.args.header.lg_config_k; registers = R; state = state } in
    c.with_state.ensures ∙ ap (λ (l : Stored). record l { state = c.in_ok-frame.frame.preamble.state }) c.in_ok-registers.ensures.ok
    ∙ (λ i. stored (unpacked-registers h c.args.cursor frame.0 c.in_ok-frame.frame.nibbles.now (unboxed c.in_ok-exceptions.exceptions) frame.3 values i) (c.in_ok-frame.ensures.numbers.0 i))

pub returns-in_err-registers-clause-err : goal.returns-in_err-registers-clause-err
returns-in_err-registers-clause-err g c =
    let h : Hll4Shape = shape_of_hll4 c.args.header.lg_config_k c.args.header.cur_min c.args.header.aux_format in
    let frame = c.in_ok-frame.ensures.ok c.args.header.cur_min in
    let same : coupons_at c.in_ok-frame.frame.compact c.in_ok-frame.frame.buckets c.in_ok-frame.frame.entries.now ≡ entries_of h c.args.cursor = λ i. coupons_at (frame.1 i) (frame.2 i) (frame.4 i) in
    let count : c.in_ok-frame.frame.preamble.exception_count ≡ exception_count c.args.cursor = c.in_ok-frame.ensures.numbers.2 in
    let read = c.in_ok-exceptions.ensures in
    let values : (s : ℕ) → exception_in (unboxed c.in_ok-exceptions.exceptions) s ≡ entry_at c.args.header.lg_config_k (entries_of h c.args.cursor) s = λ s. read.values s ∙ ap (λ es. entry_at c.args.header.lg_config_k es s) same in
    IfErr-passed (λ e. (e ≡ Memory) ⊎ FirstHll4Fault h c.args.cursor e) c.from_residual-in_err-registers.result c.in_err-registers.field-0.0 c.from_residual-in_err-registers.ensures.1
    (inr (subst (FirstHll4Fault h c.args.cursor) (sym c.in_err-registers.ensures.err.0)
    (payload.FirstHll4Fault.register frame.0 (subst (AreEntries c.args.header.lg_config_k) same read.entries) (sym (ap length same) ∙ read.number ∙ count)
    (λ agree. c.in_err-registers.ensures.err.1 (parts_agree h c.args.cursor frame.0 c.in_ok-frame.frame.nibbles.now (unboxed c.in_ok-exceptions.exceptions) frame.3 values agree)))))

pub returns-in_err-registers-clause-asked : goal.returns-in_err-registers-clause-asked
returns-in_err-registers-clause-asked g c =
    let h : Hll4Shape = shape_of_hll4 c.args.header.lg_config_k c.args.header.cur_min c.args.header.aux_format in
    IfErr-always (λ e. e ≡ Memory → IsWhole h c.args.cursor) c.from_residual-in_err-registers.result (λ e memory. (c.in_ok-frame.ensures.ok c.args.header.cur_min).0)

pub returns-clause-payload : goal.returns-clause-payload
returns-clause-payload g c =
    let h : Hll4Shape = shape_of_hll4 c.args.header.lg_config_k c.args.header.cur_min c.args.header.aux_format in
    let frame = c.in_ok-frame.ensures.ok c.args.header.cur_min in
    let same : coupons_at c.in_ok-frame.frame.compact c.in_ok-frame.frame.buckets c.in_ok-frame.frame.entries.now ≡ entries_of h c.args.cursor = λ i. coupons_at (frame.1 i) (frame.2 i) (frame.4 i) in
    let count : c.in_ok-frame.frame.preamble.exception_count ≡ exception_count c.args.cursor = c.in_ok-frame.ensures.numbers.2 in
    let read = c.in_ok-exceptions.ensures in
    let values : (s : ℕ) → exception_in (unboxed c.in_ok-exceptions.exceptions) s ≡ entry_at c.args.header.lg_config_k (entries_of h c.args.cursor) s = λ s. read.values s ∙ ap (λ es. entry_at c.args.header.lg_config_k es s) same in (
      frame.0,
      is_hll4_payload h c.args.cursor frame.0 (subst (AreEntries c.args.header.lg_config_k) same read.entries) (sym (ap length same) ∙ read.number ∙ count)
          (all_agree h c.args.cursor frame.0 c.in_ok-frame.frame.nibbles.now (unboxed c.in_ok-exceptions.exceptions) frame.3 values c.in_ok-registers.ensures.agree),
    )
