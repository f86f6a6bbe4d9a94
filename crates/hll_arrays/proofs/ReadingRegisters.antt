-- SPDX-License-Identifier: Apache-2.0
-- Lemmas on reading the registers of an image.
use Rattle.std.proofs.Common.{◌≡◌, ℕ, ◌+◌, ◌-◌, ◌^◌, ◌≤◌, List, length, take, drop, true, All, Result, Ok, Err, IfOk, IfErr, sym, subst, ◌∙◌, arith}
use Rattle.std.specs.Prelude.{nat_le}
use Rattle.std.specs.List.{list_all}
use Rattle.std.proofs.lemmas.Bool.{leb-true, le-leb}
use Rattle.std.proofs.lemmas.List.{length-take, drop-take, take-append-drop}
use Rattle.std.proofs.lemmas.List.Elements.{All-weaker}
use Rattle.std.proofs.lemmas.List.Sums.{AllPass-from_list_all, list_all-from_AllPass}
use Rattle.hll_coupons.proofs.Payloads.{front_number}
use Rattle.hll_registers.specs.Payload.{num_at_cur_min, exception_count, field_size, IsHll8Payload, IsHll6Payload}

-- two clauses of one result
pub IfOk-both : {X E : Type 0} (r : Result X E) (P Q R : X → Type 0) → ((x : X) → P x → Q x → R x) → IfOk r P → IfOk r Q → IfOk r R
IfOk-both (Ok x) P Q R f p q = f x p q
IfOk-both (Err e) P Q R f p q = tt

-- the result of the test of bytes
pub small-from : (xs : List ℕ) → list_all (λ v. nat_le v 63) xs ≡ true → All (λ v. v ≤ 63) xs
small-from xs h = All-weaker (λ v. nat_le v 63 ≡ true) (λ v. v ≤ 63) (λ v t. leb-true v 63 t) xs (AllPass-from_list_all (λ v. nat_le v 63) xs h)

pub small-to : (xs : List ℕ) → All (λ v. v ≤ 63) xs → list_all (λ v. nat_le v 63) xs ≡ true
small-to xs h = list_all-from_AllPass (λ v. nat_le v 63) xs (All-weaker (λ v. v ≤ 63) (λ v. nat_le v 63 ≡ true) (λ v l. le-leb v 63 l) xs h)

-- numbers and registers that pass their checks are a payload of 8-bit registers
pub is_hll8_payload : (k : ℕ) (b : List ℕ) → 32 + 2 ^ k ≤ length b → num_at_cur_min b ≤ 2 ^ k → exception_count b ≡ 0 → All (λ v. v ≤ 63) (take (2 ^ k) (drop 32 b))
    → IsHll8Payload k (take (32 + 2 ^ k) b)
is_hll8_payload k b there low none small =
    let n : ℕ = 32 + 2 ^ k in
    let e = take-append-drop n b in
    let size : length (take n b) ≡ n = omega (arith, length-take n b) in
    record {
      zero_count = subst (λ m. m ≤ 2 ^ k) (sym (front_number (take n b) (drop n b) b e 24 (omega (arith, size)))) low;
      no_exceptions = front_number (take n b) (drop n b) b e 28 (omega (arith, size)) ∙ none;
      size = size;
      small = subst (All (λ v. v ≤ 63)) (sym (drop-take 32 (2 ^ k) b)) small;
    }

-- numbers that pass their checks, and enough bytes, are a payload of 6-bit registers
pub is_hll6_payload : (k : ℕ) (b : List ℕ) → 32 + field_size k ≤ length b → num_at_cur_min b ≤ 2 ^ k → exception_count b ≡ 0 → IsHll6Payload k (take (32 + field_size k) b)
is_hll6_payload k b there low none =
    let n : ℕ = 32 + field_size k in
    let e = take-append-drop n b in
    let size : length (take n b) ≡ n = omega (arith, length-take n b) in
    record {
      zero_count = subst (λ m. m ≤ 2 ^ k) (sym (front_number (take n b) (drop n b) b e 24 (omega (arith, size)))) low;
      no_exceptions = front_number (take n b) (drop n b) b e 28 (omega (arith, size)) ∙ none;
      size = size;
    }

-- what holds for every error holds for a result
pub IfErr-always : {T E : Type 0} (P : E → Type 0) (r : Result T E) → ((e : E) → P e) → IfErr r P
IfErr-always P (Ok x) h = tt
IfErr-always P (Err e) h = h e

-- a prefix as a slice
pub slice_front : (n m : ℕ) (xs ys : List ℕ) → n ≡ m → xs ≡ ys → take (n - 0) xs ≡ take m ys
slice_front n m xs ys e f = λ i. take ((let less : n - 0 ≡ m = omega (arith, e) in less) i) (f i)
