-- SPDX-License-Identifier: Apache-2.0
use Rattle.std.proofs.Common.{◌≡◌, ◌<◌, ◌≤◌, ℕ, List, All, false, inr, sym, subst, ◌∙◌, arith}
use Rattle.std.specs.Prelude.{nat_le}
use Rattle.std.proofs.lemmas.Bool.{le-leb, true≢false}
use Rattle.std.proofs.lemmas.List.Elements.{All-from_get_or}
use Rattle.hll_arrays.proofs.ReadingRegisters.{small-from, small-to}
use Rattle.std.proofs.lemmas.Bool.Decides.{nat_tests}
use Rattle.hll_base.specs.declared.error.Reason.TheVariants.{Memory, Register}
use Rattle.hll_sketch.specs.MergedIn.{HasRegisterBytes, IsOfRegisters}
use Rattle.hll_sketch.specs.Refusal.{IsRefusal}
use Rattle.hll_sketch.proofs.MergedImages.{read_is_legal}
use Rattle.hll_c.proofs.union.GrowingUnion.max_with_image.Goals as goal

lt-leb : (g : ℕ) → 63 < g → nat_le g 63 ≡ false
lt-leb g high = grind (arith, nat_tests)

register_not_memory : Register ≡ Memory → ⊥
register_not_memory same = cc

pub returns-in-Some-max_with_bytes-clause-err : goal.returns-in-Some-max_with_bytes-clause-err
returns-in-Some-max_with_bytes-clause-err c =
    let R : List ℕ = c.in-Some.registers.bytes.now in
    let b : List ℕ = c.args.image.now in
    let has : HasRegisterBytes b c.in-Some.registers.lg_k R = c.in-Some.ensures.some in
    let g : ℕ = c.in-Some-max_with_bytes.greatest in
    let high : 63 < g = c.if-greatest-gt-MAX_VALUE.true in
    let above : All (λ v. v ≤ 63) R → ⊥ = λ small. true≢false (sym (small-to R small) ∙ c.in-Some-max_with_bytes.ensures.greatest 63 ∙ lt-leb g high) in
    subst (IsRefusal b) (sym c.new.ensures) (record { first = inr (has.rejected above); asked = λ memory. absurd (register_not_memory memory) })

pub returns-in-Some-2-clause-ok : goal.returns-in-Some-2-clause-ok
returns-in-Some-2-clause-ok c _ =
    let R : List ℕ = c.in-Some.registers.bytes.now in
    let b : List ℕ = c.args.image.now in
    let has : HasRegisterBytes b c.in-Some.registers.lg_k R = c.in-Some.ensures.some in
    let low : c.in-Some-max_with_bytes.greatest ≤ 63 = c.if-greatest-gt-MAX_VALUE.false in
    let small : All (λ v. v ≤ 63) R = small-from R (c.in-Some-max_with_bytes.ensures.greatest 63 ∙ le-leb c.in-Some-max_with_bytes.greatest 63 low) in
    let of : IsOfRegisters b (record { lg_k = c.in-Some.registers.lg_k; registers = R; state = has.state }) = has.read small in
    record {
      sketch = of.sketch;
      read = of.read;
      gadget = c.in-Some-max_with_bytes.ensures.merged low of.sketch has.state of.lg_k of.content (read_is_legal b of.sketch (All-from_get_or (λ n. n < 256) b 0 (λ i within. (c.type_inv.image i).fits)) of.read);
      bound = c.max_with_bytes.ensures.bound;
    }
