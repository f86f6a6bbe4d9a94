-- SPDX-License-Identifier: Apache-2.0
-- Lemmas on registers that are folded block by block.
use Rattle.std.proofs.Common.{◌≡◌, ℕ, ◌+◌, ◌*◌, ◌-◌, ◌/◌, ◌%◌, ◌^◌, ◌<◌, ◌≤◌, List, length, take, drop, get_or, replicate, refl, sym, ap, ◌∙◌, arith, true, inl, inr}
use Rattle.std.specs.Prelude.{max}
use Rattle.std.specs.FinSet.{items, contains}
use Rattle.std.proofs.Math.Seq.{take-length}
use Rattle.std.proofs.Math.Nat.{mul-le-mul_right, mul-mod_left, zero-add}
use Rattle.std.proofs.lemmas.Bool.{cases_lt}
use Rattle.std.proofs.lemmas.List.Elements.{All-from_get_or}
use Rattle.std.proofs.lemmas.Nat.{pow_below, pow-add, mod-mul-add}
use Rattle.std.proofs.lemmas.List.{length-take-le, length-drop, get_or-take, get_or-drop, get_or-replicate}
use Rattle.hll_coupons.specs.Pair.{slot_of, value_of, pair}
use Rattle.hll_coupons.specs.Fold.{fold_to, pairs, greatest, value_at}
use Rattle.hll_base.specs.Join.{join}
use Rattle.hll_base.proofs.Joins.{join_assoc}
use Rattle.hll_coupons.proofs.Folds.{length-fold_to, get_or-fold_to, fold_to-empty}
use Rattle.hll_coupons.proofs.Greatest.{bounded, reached}
use Rattle.hll_kernels.specs.Packed.{AreRegisters}
use Rattle.hll_kernels.proofs.Grouping.{groups-pow}
use Rattle.hll_base.proofs.Joins.{is_join}
use Rattle.hll_coupons.proofs.Registers.{StandsFor, pairs_only, pairs_have, slot_of-pair, value_of-pair, value_at_cases, value_at_same}

-- the fold of the first m registers
abbrev pub folded : List ℕ → ℕ → ℕ → List ℕ
folded R e m = fold_to (pairs (take m R)) e

module _ (R : List ℕ) (e i : ℕ) (small : length R ≤ 2 ^ 22) (enough : (i + 1) * 2 ^ e ≤ length R) where
  abbrev block : List ℕ
  block = take (2 ^ e) (drop (i * 2 ^ e) R)

  abbrev start : ℕ
  start = i * 2 ^ e

  abbrev stop : ℕ
  stop = (i + 1) * 2 ^ e

  grows : stop ≡ start + 2 ^ e
  grows = omega arith

  size-stop : length (take stop R) ≡ stop
  size-stop = length-take-le stop R enough

  size-start : length (take start R) ≡ start
  size-start = length-take-le start R (omega (arith, enough, grows))

  at_block : (s : ℕ) → s < 2 ^ e → get_or block s 0 ≡ get_or R (start + s) 0
  at_block s h = get_or-take (2 ^ e) (drop start R) s 0 h ∙ get_or-drop start R s 0

  -- a register before the end of the block
  register : (q j : ℕ) → StandsFor (take stop R) 0 q j → (j < stop) × (slot_of q ≡ j) × (value_of q ≡ get_or R j 0)
  register q j h =
      let below : j < stop = omega (arith, h.within, size-stop) in
      let far : j < 2 ^ 26 = omega (arith, below, enough, small) in
      let is : q ≡ pair j (get_or R j 0) = h.is ∙ (λ t. pair (zero-add j t) (get_or-take stop R j 0 below t)) in
      (below, ap slot_of is ∙ slot_of-pair j _ far, ap value_of is ∙ value_of-pair j _ far)

  -- a register before the end of the block is at most the fold of those before the block, or the register in the block
  most : (s : ℕ) → s < 2 ^ e → greatest (value_at e s) (items (pairs (take stop R))) ≤ max (get_or (folded R e start) s 0) (get_or block s 0)
  most s h =
      let old : ℕ = get_or (folded R e start) s 0 in
      let top : ℕ = max old (get_or block s 0) in
      let before : old ≡ greatest (value_at e s) (items (pairs (take start R))) = get_or-fold_to (pairs (take start R)) e s h in
      bounded (value_at e s) top (pairs (take stop R)) (λ q e'.
      let found : (j : ℕ) × StandsFor (take stop R) 0 q j = pairs_only (take stop R) q e' in
      let j : ℕ = found.0 in
      let is : (j < stop) × (slot_of q ≡ j) × (value_of q ≡ get_or R j 0) = register q j found.1 in
      elim (value_at_cases e s q) [
        | inl z ↦ omega arith
        | inr at ↦ elim (cases_lt j start) [
          | inl earlier ↦
              let same : get_or (take stop R) j 0 ≡ get_or (take start R) j 0 = get_or-take stop R j 0 is.0 ∙ sym (get_or-take start R j 0 earlier) in
              let coupons_in : contains (pairs (take start R)) q ≡ true = pairs_have (take start R) q j (record {
                within = omega (arith, earlier, size-start);
                positive = omega (arith, found.1.positive, same);
                is = found.1.is ∙ ap (λ v. pair (0 + j) v) same;
              }) in
              omega (arith, before, reached (value_at e s) q (pairs (take start R)) coupons_in)
          | inr later ↦
              let folds : j % 2 ^ e ≡ s = ap (λ t. t % 2 ^ e) (sym is.1) ∙ at.0 in
              let back : j ≡ i * 2 ^ e + (j - start) = omega (arith, later) in
              let rest : (i * 2 ^ e + (j - start)) % 2 ^ e ≡ j - start = mod-mul-add i (2 ^ e) (j - start) (omega (arith, later, is.0, grows)) in
              let index : j - start ≡ s = sym rest ∙ ap (λ t. t % 2 ^ e) (sym back) ∙ folds in
              let there : get_or R j 0 ≡ get_or block s 0 = ap (λ t. get_or R t 0) (let t : j ≡ start + s = omega (arith, later, index) in t) ∙ sym (at_block s h) in
              omega (arith, at.1, is.2, there)
        ]
      ])

  -- the fold of the registers before the block is not lost
  old_kept : (s : ℕ) → s < 2 ^ e → get_or (folded R e start) s 0 ≤ greatest (value_at e s) (items (pairs (take stop R)))
  old_kept s h =
      let all : ℕ = greatest (value_at e s) (items (pairs (take stop R))) in
      let before : get_or (folded R e start) s 0 ≡ greatest (value_at e s) (items (pairs (take start R))) = get_or-fold_to (pairs (take start R)) e s h in
      let low : greatest (value_at e s) (items (pairs (take start R))) ≤ all = bounded (value_at e s) all (pairs (take start R)) (λ q e'.
      let found : (j : ℕ) × StandsFor (take start R) 0 q j = pairs_only (take start R) q e' in
      let j : ℕ = found.0 in
      let earlier : j < start = omega (arith, found.1.within, size-start) in
      let same : get_or (take start R) j 0 ≡ get_or (take stop R) j 0 = get_or-take start R j 0 earlier ∙ sym (get_or-take stop R j 0 (omega (arith, earlier, grows))) in
      reached (value_at e s) q (pairs (take stop R)) (pairs_have (take stop R) q j (record {
        within = omega (arith, earlier, grows, size-stop);
        positive = omega (arith, found.1.positive, same);
        is = found.1.is ∙ ap (λ v. pair (0 + j) v) same;
      }))) in
      omega (arith, before, low)

  -- a register of the block is not lost
  new_kept : (s : ℕ) → s < 2 ^ e → get_or block s 0 ≤ greatest (value_at e s) (items (pairs (take stop R)))
  new_kept s h =
      let v : ℕ = get_or R (start + s) 0 in
      let below : start + s < stop = omega (arith, h, grows) in
      let far : start + s < 2 ^ 26 = omega (arith, below, enough, small) in
      elim (cases_lt 0 v) [
        | inr none ↦ omega (arith, at_block s h)
        | inl some ↦
            let same : get_or (take stop R) (start + s) 0 ≡ v = get_or-take stop R (start + s) 0 below in
            let coupons_in : contains (pairs (take stop R)) (pair (start + s) v) ≡ true = pairs_have (take stop R) (pair (start + s) v) (start + s) (record {
              within = omega (arith, below, size-stop);
              positive = omega (arith, some, same);
              is = λ t. pair (sym (zero-add (start + s)) t) (sym same t);
            }) in
            let slot : slot_of (pair (start + s) v) % 2 ^ e ≡ s = ap (λ t. t % 2 ^ e) (slot_of-pair (start + s) v far) ∙ mod-mul-add i (2 ^ e) s h in
            let value : value_at e s (pair (start + s) v) ≡ v = value_at_same e s (pair (start + s) v) slot ∙ value_of-pair (start + s) v far in
            omega (arith, at_block s h, value, reached (value_at e s) (pair (start + s) v) (pairs (take stop R)) coupons_in)
      ]

  -- folding one more block is a maximum with it
  pub folded-next : folded R e stop ≡ join (folded R e start) block
  folded-next =
      let long : length (folded R e stop) ≡ 2 ^ e = length-fold_to (pairs (take stop R)) e in
      let as_long : length (folded R e start) ≡ 2 ^ e = length-fold_to (pairs (take start R)) e in
      let full : length block ≡ 2 ^ e = length-take-le (2 ^ e) (drop start R) (omega (arith, length-drop start R, enough, grows)) in
      is_join (folded R e start) block (folded R e stop) (as_long ∙ sym full) (long ∙ sym as_long) (λ s h.
      let in_size : s < 2 ^ e = omega (arith, h, long) in
      let at : get_or (folded R e stop) s 0 ≡ greatest (value_at e s) (items (pairs (take stop R))) = get_or-fold_to (pairs (take stop R)) e s in_size in
      omega (arith, at, most s in_size, old_kept s in_size, new_kept s in_size))

-- ---- the blocks of 2^k registers

module _ (k e i : ℕ) (small : k ≤ 21) (le : e ≤ k) where
  pub whole : 2 ^ (k - e) * 2 ^ e ≡ 2 ^ k
  whole = sym (pow-add 2 (k - e) e) ∙ ap (λ n. 2 ^ n) (let sum : k - e + e ≡ k = omega (arith, le) in sum)

  -- a block ends within the registers
  pub block-within : i < 2 ^ (k - e) → (i + 1) * 2 ^ e ≤ 2 ^ k
  block-within h = let most : (i + 1) * 2 ^ e ≤ 2 ^ (k - e) * 2 ^ e = mul-le-mul_right (2 ^ e) (omega (arith, h)) in omega (arith, most, whole)

-- and its size is a multiple of four, as are those before it
module _ (e : ℕ) (four : 4 ≤ e) where
  pub power-groups : 2 ^ e % 4 ≡ 0
  power-groups = omega (arith, groups-pow e (omega (arith, four)))

  pub block-aligned : (i : ℕ) → i * 2 ^ e % 4 ≡ 0
  block-aligned i =
      let quarter : ℕ = 2 ^ e / 4 in
      let split : 2 ^ e ≡ quarter * 4 = omega (arith, power-groups) in
      ap (λ n. i * n % 4) split ∙ ap (λ n. n % 4) (let m : i * (quarter * 4) ≡ i * quarter * 4 = omega arith in m) ∙ mul-mod_left (i * quarter) 4

-- nothing is folded before the first block
pub folded-none : (V R : List ℕ) (e : ℕ) → length V ≡ 2 ^ e → V ≡ join V (folded R e (0 * 2 ^ e))
folded-none V R e size =
    let nothing : 0 ≡ 0 * 2 ^ e = omega arith in
    let none : replicate (2 ^ e) 0 ≡ folded R e (0 * 2 ^ e) = fold_to-empty e ∙ ap (folded R e) nothing in
    is_join V (folded R e (0 * 2 ^ e)) V (size ∙ sym (length-fold_to (pairs (take (0 * 2 ^ e) R)) e)) refl (λ s h.
    let zero_there : get_or (folded R e (0 * 2 ^ e)) s 0 ≡ 0 = ap (λ xs. get_or xs s 0) (sym none) ∙ get_or-replicate (2 ^ e) s 0 0 (omega (arith, size)) in
    omega (arith, zero_there))

-- after one more block
pub joined-next : (V W R : List ℕ) (k e i : ℕ) → k ≤ 21 → e ≤ k → length R ≡ 2 ^ k → i < 2 ^ (k - e) →
    W ≡ join V (folded R e (i * 2 ^ e)) → join W (take (2 ^ e) (drop (i * 2 ^ e) R)) ≡ join V (folded R e ((i + 1) * 2 ^ e))
joined-next V W R k e i small le size h is =
    let all : length R ≤ 2 ^ 22 = omega (arith, size, pow_below k 22 (omega (arith, small))) in
    let enough : (i + 1) * 2 ^ e ≤ length R = omega (arith, size, block-within k e i small le h) in
    ap (λ W. join W (take (2 ^ e) (drop (i * 2 ^ e) R))) is
    ∙ join_assoc V (folded R e (i * 2 ^ e)) (take (2 ^ e) (drop (i * 2 ^ e) R))
    ∙ ap (join V) (sym (folded-next R e i all enough))

-- after all blocks
pub joined-all : (V R : List ℕ) (k e n : ℕ) → e ≤ k → length R ≡ 2 ^ k → n ≡ 2 ^ (k - e) → join V (folded R e (n * 2 ^ e)) ≡ join V (fold_to (pairs R) e)
joined-all V R k e n le size blocks =
    let end : n * 2 ^ e ≡ length R = ap (λ m. m * 2 ^ e) blocks ∙ sym (pow-add 2 (k - e) e) ∙ ap (λ m. 2 ^ m) (let sum : k - e + e ≡ k = omega (arith, le) in sum) ∙ sym size in
    ap (λ xs. join V (fold_to (pairs xs) e)) (ap (λ m. take m R) end ∙ take-length R)

-- a fold of registers is registers
pub AreRegisters-fold_to : (R : List ℕ) (k e : ℕ) → k ≤ 21 → AreRegisters k R → AreRegisters e (fold_to (pairs R) e)
AreRegisters-fold_to R k e small are = record {
  size = length-fold_to (pairs R) e;
  small = All-from_get_or (λ v. v ≤ 63) (fold_to (pairs R) e) 0 (λ s h.
      let at : get_or (fold_to (pairs R) e) s 0 ≡ greatest (value_at e s) (items (pairs R)) = get_or-fold_to (pairs R) e s (omega (arith, h, length-fold_to (pairs R) e)) in
      let most : greatest (value_at e s) (items (pairs R)) ≤ 63 = bounded (value_at e s) 63 (pairs R) (λ q e'.
      let found : (j : ℕ) × StandsFor R 0 q j = pairs_only R q e' in
      let j : ℕ = found.0 in
      let far : j < 2 ^ 26 = omega (arith, found.1.within, are.size, pow_below k 26 (omega (arith, small))) in
      let value : value_of q ≡ get_or R j 0 = ap value_of found.1.is ∙ ap (λ i. value_of (pair i (get_or R j 0))) (zero-add j) ∙ value_of-pair j (get_or R j 0) far in
      elim (value_at_cases e s q) [
        | inl z ↦ omega arith
        | inr m ↦ omega (arith, m.1, value, are.small j 0 found.1.within)
      ]) in
      omega (arith, at, most));
}
