-- SPDX-License-Identifier: Apache-2.0
use Rattle.std.proofs.Common.{◌≡◌, ℕ, List, Bool, true, false, ◌+◌, ◌≤◌, ◌<◌, ◌==◌, ◌^◌, cond, length, get_or, subst, sym, refl, ap, ◌∙◌, arith}
use Rattle.std.proofs.Math.ListN.{set}
use Rattle.std.proofs.lemmas.Bool.Decides.{nat_tests}
use Rattle.std.proofs.lemmas.List.Sums.{sum_by-set}
use Rattle.hll_kernels.specs.Groups.{registers_in, AreGroups}
use Rattle.hll_kernels.specs.Packed.{zeros}
use Rattle.hll_kernels.specs.WeightSums.{AreSumsOf}
use Rattle.hll_kernels.proofs.Grouping.{few-AreGroups, size-AreGroups, length-registers_in, AreRegisters-registers_in}
use Rattle.hll_registers.specs.EstimatorFields.{AreEstimatorFields}
use Rattle.hll_registers.specs.Payload.{hll6_bytes}
use Rattle.hll_registers.specs.Store.{Stored}
use mir.Val.{bool_byte}
use Rattle.hll_registers.proofs.group_slice.GroupSlice.raised_parts.Goals as goal

byte_of : (b : Bool) → bool_byte b ≡ cond {A = ℕ} b 1 0
byte_of true = refl
byte_of false = refl

-- the zeros after a register is raised, and the register, if it was 0
raised : (z f : ℕ) (R : List ℕ) (slot v old : ℕ) → z ≡ zeros R → old ≡ get_or R slot 0 → f ≡ bool_byte (old == 0) → slot < length R → 1 ≤ v → zeros (set R slot v) + f ≡ z
raised z f R slot v old are was byte inside least =
    let none : cond {A = ℕ} (v == 0) 1 0 ≡ 0 = grind (arith, nat_tests) in
    let gone : f ≡ cond {A = ℕ} (get_or R slot 0 == 0) 1 0 = byte ∙ byte_of (old == 0) ∙ ap (λ r. cond {A = ℕ} (r == 0) 1 0) was in
    omega (arith, sum_by-set (λ r. cond {A = ℕ} (r == 0) 1 0) R slot v 0 inside, none, gone, are)

pub register_at-old-requires : goal.register_at-old-requires
register_at-old-requires c =
    let x = c.self.inside in
    omega (arith, c.requires.slot, size-AreGroups x.lg_k x.groups.now (omega (arith, c.self.invariant.0)) c.self.invariant.2, ap (λ (l : Stored). 2 ^ l.lg_k) c.self.view_is)

pub replacing_field-requires-clause-few : goal.replacing_field-requires-clause-few
replacing_field-requires-clause-few c =
    let x = c.self.inside in
    omega (arith, few-AreGroups x.lg_k x.groups.now c.self.invariant.1 c.self.invariant.2)

pub replacing_field-requires-clause-slot : goal.replacing_field-requires-clause-slot
replacing_field-requires-clause-slot c =
    let x = c.self.inside in
    omega (arith, c.requires.slot, size-AreGroups x.lg_k x.groups.now (omega (arith, c.self.invariant.0)) c.self.invariant.2, ap (λ (l : Stored). 2 ^ l.lg_k) c.self.view_is)

-- the slot is that of a register
within : (k slot : ℕ) (G : List (List ℕ)) (x : Stored) → 4 ≤ k → AreGroups k G → slot < 2 ^ x.lg_k → k ≡ x.lg_k → slot < length (registers_in G)
within k slot G x least are inside same = omega (arith, inside, size-AreGroups k G (omega (arith, least)) are, length-registers_in G, ap (λ n. 2 ^ n) same)

pub overflow_sub-zeros : goal.overflow_sub-zeros
overflow_sub-zeros c =
    let x = c.self.inside in
    let G = x.groups.now in
    let same = ap (λ (l : Stored). l.registers) c.self.view_is in
    omega (
      arith,
      raised c.zeros_and_sums-zeros.result.0 c.from.result (registers_in G) c.args.slot c.args.value c.register_at-old.result (c.zeros_and_sums-zeros.ensures.zeros ∙ ap zeros (sym same)) c.register_at-old.ensures c.from.ensures
          (within x.lg_k c.args.slot G c.args.self.now c.self.invariant.0 c.self.invariant.2 c.requires.slot (ap (λ (l : Stored). l.lg_k) c.self.view_is)) c.requires.least,
    )

pub replaced-requires : goal.replaced-requires
replaced-requires c =
    let x = c.self.inside in
    let G = x.groups.now in
    let same = ap (λ (l : Stored). l.registers) c.self.view_is in
    let inside = within x.lg_k c.args.slot G c.args.self.now c.self.invariant.0 c.self.invariant.2 c.requires.slot (ap (λ (l : Stored). l.lg_k) c.self.view_is) in
    let are = AreRegisters-registers_in x.lg_k G (omega (arith, c.self.invariant.0)) c.self.invariant.2 in (
      registers_in G,
      c.args.slot,
      subst (AreSumsOf c.zeros_and_sums-zeros.result.1) (sym same) c.zeros_and_sums-zeros.ensures.sums,
      inside,
      sym c.register_at-old.ensures,
      omega (arith, length-registers_in G, few-AreGroups x.lg_k G c.self.invariant.1 c.self.invariant.2),
      c.requires.most,
      subst (λ r. r ≤ 63) (sym c.register_at-old.ensures) (are.small c.args.slot 0 inside),
    )

pub replacing_field-requires-clause-zeros : goal.replacing_field-requires-clause-zeros
replacing_field-requires-clause-zeros c =
    let x = c.self.inside in
    let G = x.groups.now in
    let same = ap (λ (l : Stored). l.registers) c.self.view_is in
    omega (
      arith,
      raised c.zeros_and_sums-zeros.result.0 c.from.result (registers_in G) c.args.slot c.args.value c.register_at-old.result (c.zeros_and_sums-zeros.ensures.zeros ∙ ap zeros (sym same)) c.register_at-old.ensures c.from.ensures
          (within x.lg_k c.args.slot G c.args.self.now c.self.invariant.0 c.self.invariant.2 c.requires.slot (ap (λ (l : Stored). l.lg_k) c.self.view_is)) c.requires.least,
    )

pub returns : goal.returns
returns c =
    let x = c.self.inside in
    let G = x.groups.now in
    let slot = c.args.slot in
    let v = c.args.value in
    let state = c.of_sums-state.result in
    let same = ap (λ (l : Stored). l.registers) c.self.view_is in
    let inside = within x.lg_k slot G c.args.self.now c.self.invariant.0 c.self.invariant.2 c.requires.slot (ap (λ (l : Stored). l.lg_k) c.self.view_is) in
    let sums = subst (AreSumsOf c.zeros_and_sums-zeros.result.1) (sym same) c.zeros_and_sums-zeros.ensures.sums in (
      state,
      subst (λ R. AreEstimatorFields (set R slot v) state) same (c.of_sums-state.ensures _ (c.replaced.ensures.sums (registers_in G) slot sums inside (sym c.register_at-old.ensures))),
      c.replacing_field.ensures ∙ ap (λ (l : Stored). hll6_bytes l.lg_k (set l.registers slot v) state) c.self.view_is,
    )
