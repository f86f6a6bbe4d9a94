-- SPDX-License-Identifier: Apache-2.0
-- The maximum with 4-bit registers: with their nibbles first, and then with each exception.
use Rattle.std.proofs.Common.{◌≡◌, ℕ, ◌+◌, ◌-◌, ◌*◌, ◌/◌, ◌%◌, ◌^◌, ◌<◌, ◌≤◌, List, ◌++◌, Option, Some, None, length, get_or, take, drop, refl, sym, ap, ◌∙◌, arith, inl, inr, take-append-drop}
use Rattle.std.specs.Option.{option_map}
use Rattle.std.specs.Prelude.{max, unwrap_or}
use Rattle.std.proofs.lemmas.Bool.{cases_lt}
use Rattle.std.proofs.Math.Pow.{pow_mono}
use Rattle.std.proofs.lemmas.Nat.{pow-add}
use Rattle.std.proofs.lemmas.List.{length-drop, length-take-le, take_all, take_at}
use Rattle.std.proofs.Math.Seq.{drop-append_seam}
use Rattle.hll_base.specs.Join.{join}
use Rattle.hll_base.proofs.Joins.{length-join}
use Rattle.hll_coupons.specs.AuxMap.{entries_in, value_in, ExceptionMap, IsMap}
use Rattle.hll_kernels.specs.Lanes.{nibble_values}
use Rattle.hll_kernels.proofs.FourBitLanes.{length-nibble_values, nibble_values-append}
use Rattle.hll_registers.specs.FourBits.{exception_in, unpacked, ArePartsOf, IsMapFor}
use Rattle.hll_registers.proofs.FourBitReading.{AgreeAbove, legal}
use Rattle.hll_registers.proofs.FourBitStores.{joined, raised_at}

-- ---- whole blocks

-- elements of 2^k registers, at least 64, are blocks of sixteen
pub whole_blocks : (n k : ℕ) → n ≡ 2 ^ (k - 2) → 16 ≤ n → n % 16 ≡ 0
whole_blocks n k is many = elim (cases_lt (k - 2) 4) [
  | inl low ↦
      let few : 2 ^ (k - 2) ≤ 2 ^ 3 = pow_mono {i = k - 2} {j = 3} (omega (arith, low)) in
      absurd (omega (arith, few, is, many))
  | inr high ↦
      let sum : k - 2 ≡ 4 + (k - 2 - 4) = omega (arith, high) in
      let blocks : n ≡ 16 * 2 ^ (k - 2 - 4) = is ∙ ap (λ e. 2 ^ e) sum ∙ pow-add 2 4 (k - 2 - 4) in
      omega (arith, blocks)
]

-- ---- a part of the nibbles

values-parts : (m n : ℕ) (xs : List ℕ) → nibble_values m (take n xs) ++ nibble_values m (drop n xs) ≡ nibble_values m xs
values-parts m n xs = sym (nibble_values-append m (take n xs) (drop n xs)) ∙ ap (nibble_values m) (take-append-drop n xs)

length-values-take : (m n : ℕ) (xs : List ℕ) → n ≤ length xs → length (nibble_values m (take n xs)) ≡ 2 * n
length-values-take m n xs le = length-nibble_values m (take n xs) ∙ ap (λ l. 2 * l) (length-take-le n xs le)

values-take : (m n : ℕ) (xs : List ℕ) → n ≤ length xs → nibble_values m (take n xs) ≡ take (2 * n) (nibble_values m xs)
values-take m n xs le = sym (take_at (nibble_values m (take n xs)) (nibble_values m (drop n xs)) (2 * n) (length-values-take m n xs le)) ∙ ap (take (2 * n)) (values-parts m n xs)

values-drop : (m n : ℕ) (xs : List ℕ) → n ≤ length xs → nibble_values m (drop n xs) ≡ drop (2 * n) (nibble_values m xs)
values-drop m n xs le =
    sym (drop-append_seam (nibble_values m (take n xs)) (nibble_values m (drop n xs)))
    ∙ (λ i. drop (length-values-take m n xs le i) (values-parts m n xs i))

-- the values of a block of bytes, among those of all
pub values-block : (m from n : ℕ) (xs : List ℕ) → from + n ≤ length xs → nibble_values m (take n (drop from xs)) ≡ take (2 * n) (drop (2 * from) (nibble_values m xs))
values-block m from n xs within =
    values-take m n (drop from xs) (omega (arith, length-drop from xs, within)) ∙ ap (take (2 * n)) (values-drop m from xs (omega (arith, within)))

-- ---- nibbles and exceptions

pub length-with_nibbles : {k m : ℕ} {bytes : List ℕ} {E : Option (List (ℕ × ℕ))} {R : List ℕ} → ArePartsOf k m bytes E R → (V W : List ℕ) → length V ≡ 2 ^ k → W ≡ join V (nibble_values m bytes) → length W ≡ length V
length-with_nibbles {k} {m} {bytes} p V W size nibbles = ap length nibbles ∙ length-join V (nibble_values m bytes) (omega (arith, size, p.size, length-nibble_values m bytes))

pub parts_agree : {k m : ℕ} {bytes : List ℕ} {E : Option (List (ℕ × ℕ))} {R : List ℕ} → (p : ArePartsOf k m bytes E R) → AgreeAbove k m bytes p.exceptions
parts_agree p = record { size = p.size; fits = p.fits; map_for = p.map_for; agree = p.agree }

-- after the maximum with the nibbles and with the exceptions, they are the maximum with the registers
pub with_exceptions : {k m : ℕ} {bytes : List ℕ} {E : Option (List (ℕ × ℕ))} {R : List ℕ} → (p : ArePartsOf k m bytes E R) → (V W X : List ℕ) → length V ≡ 2 ^ k → length V % 4 ≡ 0
    → W ≡ join V (nibble_values m bytes) → length X ≡ length V → ((s : ℕ) → s < length V → get_or X s 0 ≡ max (get_or W s 0) (unwrap_or (exception_in p.exceptions s) 0)) → X ≡ join V R
with_exceptions {k} {m} {bytes} {E} {R} p V W X size groups nibbles same raised =
    let parts : AgreeAbove k m bytes p.exceptions = parts_agree p in
    let within : 0 + length V ≤ 2 ^ k = omega (arith, size) in
    let U : List ℕ = unpacked k m bytes p.exceptions in
    let block : List ℕ = take (0 / 2 + length V / 2 - 0 / 2) (drop (0 / 2) bytes) in
    let half : length bytes ≤ 0 / 2 + length V / 2 - 0 / 2 = omega (arith, p.size, size) in
    let whole : block ≡ bytes = take_all (0 / 2 + length V / 2 - 0 / 2) bytes half in
    let is : W ≡ join V (nibble_values m block) = nibbles ∙ ap (λ bs. join V (nibble_values m bs)) (sym whole) in
    let zero_plus : (s : ℕ) → 0 + s ≡ s = λ s. omega arith in
    joined parts 0 V within refl groups X same
    (λ s l. raised s l ∙ (λ i. max (raised_at parts 0 V within refl groups W is s l i) (unwrap_or (exception_in p.exceptions (sym (zero_plus s) i)) 0)))
    ∙ ap (join V) (take_all (length V) U (omega (arith, size, (legal parts).size))) ∙ ap (join V) (sym p.registers_are)

-- without a map, the nibbles are all
pub without_exceptions : {k m : ℕ} {bytes : List ℕ} {E : Option (List (ℕ × ℕ))} {R : List ℕ} → (p : ArePartsOf k m bytes E R) → E ≡ None → (V W : List ℕ) → length V ≡ 2 ^ k → length V % 4 ≡ 0
    → W ≡ join V (nibble_values m bytes) → length W ≡ length V → W ≡ join V R
without_exceptions {k} {m} {bytes} {E} {R} p none V W size groups nibbles same =
    with_exceptions p V W W size groups nibbles same (λ s l. of p.exceptions (sym p.entries_are ∙ none) s)
  where
    of : (o : Option ExceptionMap) → option_map entries_in o ≡ None → (s : ℕ) → get_or W s 0 ≡ max (get_or W s 0) (unwrap_or (exception_in o s) 0)
    of None e s = omega arith
    of (Some t) e s = absurd cc

-- with a map, its entries are raised
pub with_entries : {k m : ℕ} {bytes : List ℕ} {E : Option (List (ℕ × ℕ))} {R : List ℕ} → (p : ArePartsOf k m bytes E R) → (entries : List (ℕ × ℕ)) → E ≡ Some entries → (V W X : List ℕ) → length V ≡ 2 ^ k → length V % 4 ≡ 0
    → W ≡ join V (nibble_values m bytes) → length W ≡ length V → ((t : ExceptionMap) → IsMap t → entries ≡ entries_in t → length X ≡ length W)
    → ((t : ExceptionMap) → IsMap t → entries ≡ entries_in t → (s : ℕ) → s < length W → get_or X s 0 ≡ max (get_or W s 0) (unwrap_or (value_in t s) 0)) → X ≡ join V R
with_entries {k} {m} {bytes} {E} {R} p entries some V W X size groups nibbles same long raised =
    with_exceptions p V W X size groups nibbles (length_of p.exceptions (sym p.entries_are ∙ some) p.map_for ∙ same)
    (λ s l. of p.exceptions (sym p.entries_are ∙ some) p.map_for s (omega (arith, l, same)))
  where
    length_of : (o : Option ExceptionMap) → option_map entries_in o ≡ Some entries → IsMapFor k o → length X ≡ length W
    length_of None e map_for = absurd cc
    length_of (Some t) e map_for = long t map_for.0 (let is : entries ≡ entries_in t = cc in is)

    of : (o : Option ExceptionMap) → option_map entries_in o ≡ Some entries → IsMapFor k o → (s : ℕ) → s < length W → get_or X s 0 ≡ max (get_or W s 0) (unwrap_or (exception_in o s) 0)
    of None e map_for s l = absurd cc
    of (Some t) e map_for s l = raised t map_for.0 (let is : entries ≡ entries_in t = cc in is) s l
