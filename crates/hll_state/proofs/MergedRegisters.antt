-- SPDX-License-Identifier: Apache-2.0
-- Registers that are merged, in the terms of the definitions.
use Rattle.std.proofs.Common.{◌≡◌, ℕ, ◌^◌, ◌≤◌, min, true, cond, ◌&&◌, leb, List, sym, ap, ◌∙◌, arith}
use Rattle.std.proofs.lemmas.Bool.{eqb-true, le-leb}
use Rattle.std.specs.FinSet.{union, empty_of_len, len}
use Rattle.hll_base.specs.Join.{join}
use Rattle.hll_coupons.proofs.Folds.{fold_to-union}
use Rattle.hll_coupons.proofs.Registers.{fold_to-pairs}
use Rattle.hll_coupons.proofs.Unions.{union-empty}
use Rattle.hll_coupons.specs.Fold.{fold_to, pairs}
use Rattle.hll_registers.specs.State.{cleared_state}
use Rattle.hll_registers.specs.Store.{Stored, IsStored}
use Rattle.hll_registers.specs.declared.estimate_state.EstimateState.{EstimateState}
use Rattle.hll_sketch.specs.Merging.{merge_registers, state_after_merge}
use Rattle.hll_sketch.specs.Value.{Sketch, registers, pairs_of, is_empty}

-- the greater of both at each slot of the smaller lg_k
pub registers_merged : (bound : ℕ) (g : Sketch) (x : Stored) (e : ℕ) (V : List ℕ) (s : EstimateState) → e ≡ min g.lg_k x.lg_k
    → V ≡ join (fold_to (pairs_of g) e) (fold_to (pairs x.registers) e) → s ≡ state_after_merge bound g x.lg_k x.state
    → record { lg_k = e; width = g.width; content = registers V s } ≡ merge_registers bound g x.lg_k x.registers x.state
registers_merged bound g x e V s least joined state = λ i. record {
  lg_k = least i;
  width = g.width;
  content = registers ((joined ∙ sym (fold_to-union (pairs_of g) (pairs x.registers) e) ∙ ap (fold_to (union (pairs_of g) (pairs x.registers))) least) i) (state i);
}

-- an empty sketch of the same lg_k takes registers and their state as they are
pub registers_copied : (g : Sketch) (x : Stored) (V : List ℕ) → is_empty g ≡ true → g.lg_k ≡ x.lg_k → IsStored x → V ≡ x.registers
    → record { lg_k = g.lg_k; width = g.width; content = registers V x.state } ≡ merge_registers g.lg_k g x.lg_k x.registers x.state
registers_copied g x V none same stored copy =
    let k : ℕ = g.lg_k in
    let small : k ≤ 21 = omega (arith, same, stored.high) in
    let own : V ≡ fold_to (pairs x.registers) k = copy ∙ sym (fold_to-pairs x.registers k small (stored.registers.size ∙ ap (λ n. 2 ^ n) (sym same))) in
    let all : union (pairs_of g) (pairs x.registers) ≡ pairs x.registers = ap (λ P. union P (pairs x.registers)) (empty_of_len (pairs_of g) (eqb-true (len (pairs_of g)) 0 none)) ∙ union-empty (pairs x.registers) in
    let state : x.state ≡ state_after_merge k g x.lg_k x.state = ap (λ b. cond b x.state cleared_state) (sym (ap (λ b. b && leb x.lg_k k) none ∙ le-leb x.lg_k k (omega (arith, same)))) in
    registers_merged k g x k V x.state (omega (arith, same)) (own ∙ ap (λ P. fold_to P k) (sym all) ∙ fold_to-union (pairs_of g) (pairs x.registers) k) state
