-- SPDX-License-Identifier: Apache-2.0
-- The number of registers that are 0, if it is known.
use Rattle.std.proofs.Common.{◌≡◌, ℕ, ◌+◌, ◌%◌, ◌^◌, ◌<◌, Bool, true, false, eqb, cond, List, length, get_or, set, replicate, Option, Some, None, refl, sym, ap, subst, ◌∙◌, arith}
use Rattle.std.specs.Prelude.{IfSome}
use Rattle.std.proofs.Math.Nat.{mod-lt}
use Rattle.std.proofs.lemmas.Nat.{pow_pos}
use Rattle.std.proofs.lemmas.List.Folds.{sum_by-replicate}
use Rattle.hll_kernels.specs.Packed.{zeros}
use Rattle.hll_registers.proofs.FourBitChanges.{count_some, left_over}

-- the count for zeros alone
pub zeros_all : (n : ℕ) → zeros (replicate n 0) ≡ n
zeros_all n = sum_by-replicate (λ v. cond (eqb v 0) 1 0) n 0 ∙ omega arith

-- a slot modulo 2^k is the slot of a register
pub slot_within : (slot size k : ℕ) (R : List ℕ) → size ≡ 2 ^ k → length R ≡ 2 ^ k → slot % size < length R
slot_within slot size k R is long =
    let below : slot % 2 ^ k < 2 ^ k = mod-lt slot (pow_pos k) in
    let same : slot % size ≡ slot % 2 ^ k = ap (λ n. slot % n) is in
    omega (arith, below, same, long)

-- if a register is 0, the count is above 0
pub some_zero : (count : Option ℕ) (R : List ℕ) (slot r : ℕ) → IfSome count (λ n. n ≡ zeros R) → slot < length R → r ≡ get_or R slot 0 → r ≡ 0 → IfSome count (λ n. 0 < n)
some_zero None R slot r is within at none = tt
some_zero (Some n) R slot r is within at none = omega (arith, is, count_some 0 R slot within (sym at ∙ none))

one_more : (b : Bool) (left : ℕ) → left + cond b 1 0 ≡ cond b (left + 1) left
one_more true left = refl
one_more false left = omega arith

-- the count after a register gets a greater value
pub zeros_set : (before after : Option ℕ) (R : List ℕ) (slot v r : ℕ) → IfSome before (λ n. n ≡ zeros R) → IfSome after (λ left. before ≡ Some (cond (eqb r 0) (left + 1) left)) →
    slot < length R → r ≡ get_or R slot 0 → 0 < v → IfSome after (λ n. n ≡ zeros (set R slot v))
zeros_set before None R slot v r is from within at above = tt
zeros_set before (Some left) R slot v r is from within at above =
    let counted : cond (eqb r 0) (left + 1) left ≡ zeros R = subst (λ (o : Option ℕ). IfSome o (λ n. n ≡ zeros R)) from is in
    left_over 0 (cond (eqb r 0) (left + 1) left) left R slot v (eqb r 0) within above counted (ap (λ n. eqb n 0) at) (one_more (eqb r 0) left)
