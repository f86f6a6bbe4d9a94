-- SPDX-License-Identifier: Apache-2.0
-- Images of coupons in the buckets of a table.
use Rattle.std.proofs.Common.{◌≡◌, ℕ, ◌+◌, ◌*◌, ◌^◌, ◌<◌, ◌≤◌, false, cond, eqb, List, length, take, drop, sym, ap, subst, ◌∙◌, arith}
use Rattle.std.proofs.lemmas.Bool.{false_from_ne_true}
use Rattle.std.proofs.lemmas.Bool.Decides.{Decides-eqb, Decides-ltb}
use Rattle.std.proofs.lemmas.List.{length-drop}
use Rattle.hll_coupons.specs.Coupons.{raw_coupons, AreCoupons}
use Rattle.hll_coupons.specs.Pair.{set_of}
use Rattle.hll_coupons.specs.Payload.{ListShape, SetShape, shape_of_list, shape_of_set, list_coupons, list_buckets, set_count, set_coupons, set_buckets, HasListCount, IsListPayload, IsSetPayload}
use Rattle.hll_coupons.specs.Table.{coupons_in}
use Rattle.hll_coupons.proofs.Reading.{is_list_payload}
use Rattle.hll_coupons.proofs.SetReading.{is_set_payload}
use Rattle.hll_sketch.specs.Checks.{list_checks, set_checks}
use Rattle.hll_sketch.specs.Image.{table_byte, state_byte, is_flagged, HasHeader, HasSetTable, list_shape, set_shape}
use Rattle.hll_sketch.specs.MergedIn.{IsOfCoupons}
use Rattle.hll_sketch.specs.Updatable.{HoldCoupons, number_in, HasUpdatableCoupons}
use Rattle.hll_sketch.specs.Value.{coupons}
use Rattle.hll_sketch.proofs.Checks.{Decides-leb, Decides-list_count, Decides-set_table, Decides-coupons}
use Rattle.hll_sketch.proofs.FirstFailing.{after_list, after_set, first_after}
use Rattle.hll_sketch.proofs.FrontImages.{list_is_read, set_is_read}
use Rattle.hll_sketch.proofs.ListImages.{list_image}
use Rattle.hll_sketch.proofs.SizedImages.{passing}

-- the coupons in the eight buckets of an updatable list, in the number that it says, are those that it is read as
pub list_of_buckets : (b : List ℕ) (n : ℕ) → HasHeader b 0 → table_byte b ≡ 3 → n ≡ state_byte b → is_flagged 4 b ≡ false → is_flagged 8 b ≡ false →
    1 ≤ n → n ≤ 8 → 32 ≤ length (drop 8 b) → HoldCoupons n (raw_coupons 8 (drop 8 b)) → IsOfCoupons b (coupons_in (raw_coupons 8 (drop 8 b)))
list_of_buckets b n h table count filled loose some few there hold =
    let s : ListShape = shape_of_list 3 n false false in
    let same : s ≡ list_shape b = λ i. shape_of_list 3 (count i) (sym filled i) (sym loose i) in
    let payload : IsListPayload s (take (4 * list_buckets s) (drop 8 b)) =
    is_list_payload s (drop 8 b) (record { low = few; flag = (λ e. absurd (cc), λ z. absurd (omega (arith, z, some))) }) there hold.are hold.number in
    let here : IsListPayload (list_shape b) (take (4 * list_buckets (list_shape b)) (drop 8 b)) = subst (λ z. IsListPayload z (take (4 * list_buckets z) (drop 8 b))) same payload in
    record {
      sketch = _;
      read = list_is_read b (list_image b h table here);
      size = 3;
      content = λ i. coupons (set_of (list_coupons (sym same i) (drop 8 b))) 3;
    }

-- and the same for those in the buckets of an updatable set
pub set_of_buckets : (b : List ℕ) (n : ℕ) → HasHeader b 1 → HasSetTable b → 4 ≤ length (drop 8 b) → n ≡ set_count (drop 8 b) → is_flagged 8 b ≡ false →
    n < 2 ^ table_byte b → 4 * 2 ^ table_byte b ≤ length (drop 4 (drop 8 b)) → HoldCoupons n (raw_coupons (2 ^ table_byte b) (drop 4 (drop 8 b))) →
    IsOfCoupons b (coupons_in (raw_coupons (2 ^ table_byte b) (drop 4 (drop 8 b))))
set_of_buckets b n h table whole count loose room there hold =
    let p : List ℕ = drop 8 b in
    let s : SetShape = shape_of_set (table_byte b) false in
    let same : s ≡ set_shape b = λ i. shape_of_set (table_byte b) (sym loose i) in
    let after : 4 + 4 * set_buckets s p ≤ length p = omega (arith, whole, there, length-drop 4 p) in
    let payload : IsSetPayload s (take (4 + 4 * set_buckets s p) p) =
    is_set_payload s p (record { whole = whole; low = omega (arith, count, room) }) after hold.are (hold.number ∙ count) in
    let here : IsSetPayload (set_shape b) (take (4 + 4 * set_buckets (set_shape b) p) p) = subst (λ z. IsSetPayload z (take (4 + 4 * set_buckets z p) p)) same payload in
    record {
      sketch = _;
      read = set_is_read b h table here;
      size = table_byte b;
      content = λ i. coupons (set_of (set_coupons (sym same i) p)) (table_byte b);
    }

-- ---- what such images have

-- a list
pub record PlacedList (b : List ℕ) : Type 0 where
  pub table : table_byte b ≡ 3
  pub filled : is_flagged 4 b ≡ false
  pub some : 1 ≤ state_byte b
  pub few : state_byte b ≤ 8
  pub there : 32 ≤ length (drop 8 b)
  pub hold : HoldCoupons (state_byte b) (raw_coupons 8 (drop 8 b))

pub placed_list : (b : List ℕ) → HasHeader b 0 → HasUpdatableCoupons b → PlacedList b
placed_list b h up =
    let first = passing _ _ _ (Decides-eqb (table_byte b) 3) (sym (first_after b 0 (list_checks b) (omega arith) h (after_list b h)) ∙ up.faultless) in
    let second = passing _ _ _ (Decides-list_count b) first.1 in
    let third = passing _ _ _ (Decides-leb (8 + 4 * list_buckets (list_shape b)) (length b)) second.1 in
    let fourth = passing _ _ _ (Decides-coupons (list_coupons (list_shape b) (drop 8 b))) third.1 in
    let fifth = passing _ _ _ (Decides-eqb (length (list_coupons (list_shape b) (drop 8 b))) (state_byte b)) fourth.1 in
    let number : number_in b ≡ state_byte b = ap (λ s. cond (eqb s 0) (state_byte b) (set_count (drop 8 b))) h.stage_is in
    let some : 1 ≤ state_byte b = omega (arith, up.some, number) in
    let count : HasListCount (list_shape b) = second.0 in
    let filled : is_flagged 4 b ≡ false = false_from_ne_true (is_flagged 4 b) (λ e. omega (arith, count.flag.0 e, some)) in
    let buckets : list_buckets (list_shape b) ≡ 8 = λ i. list_buckets (shape_of_list 3 (state_byte b) (filled i) (up.updatable i)) in
    let order : list_coupons (list_shape b) (drop 8 b) ≡ coupons_in (raw_coupons 8 (drop 8 b)) = λ i. list_coupons (shape_of_list 3 (state_byte b) (filled i) (up.updatable i)) (drop 8 b) in
    record {
      table = first.0;
      filled = filled;
      some = some;
      few = count.low;
      there = omega (arith, third.0, buckets, length-drop 8 b);
      hold = record { are = subst AreCoupons order fourth.0; number = ap length (sym order) ∙ fifth.0 };
    }

-- a set
pub record PlacedSet (b : List ℕ) : Type 0 where
  pub table : HasSetTable b
  pub some : 1 ≤ set_count (drop 8 b)
  pub few : set_count (drop 8 b) ≤ 128
  pub low : set_count (drop 8 b) < 2 ^ table_byte b
  pub there : 4 * 2 ^ table_byte b ≤ length (drop 4 (drop 8 b))
  pub whole : 4 ≤ length (drop 8 b)
  pub hold : HoldCoupons (set_count (drop 8 b)) (raw_coupons (2 ^ table_byte b) (drop 4 (drop 8 b)))

pub placed_set : (b : List ℕ) → HasHeader b 1 → HasUpdatableCoupons b → PlacedSet b
placed_set b h up =
    let first = passing _ _ _ (Decides-set_table b) (sym (first_after b 1 (set_checks b) (omega arith) h (after_set b h)) ∙ up.faultless) in
    let second = passing _ _ _ (Decides-leb 12 (length b)) first.1 in
    let third = passing _ _ _ (Decides-ltb (set_count (drop 8 b)) (2 ^ table_byte b)) second.1 in
    let fourth = passing _ _ _ (Decides-leb (12 + 4 * set_buckets (set_shape b) (drop 8 b)) (length b)) third.1 in
    let fifth = passing _ _ _ (Decides-coupons (set_coupons (set_shape b) (drop 8 b))) fourth.1 in
    let sixth = passing _ _ _ (Decides-eqb (length (set_coupons (set_shape b) (drop 8 b))) (set_count (drop 8 b))) fifth.1 in
    let number : number_in b ≡ set_count (drop 8 b) = ap (λ s. cond (eqb s 0) (state_byte b) (set_count (drop 8 b))) h.stage_is in
    let buckets : set_buckets (set_shape b) (drop 8 b) ≡ 2 ^ table_byte b = λ i. set_buckets (shape_of_set (table_byte b) (up.updatable i)) (drop 8 b) in
    let order : set_coupons (set_shape b) (drop 8 b) ≡ coupons_in (raw_coupons (2 ^ table_byte b) (drop 4 (drop 8 b))) = λ i. set_coupons (shape_of_set (table_byte b) (up.updatable i)) (drop 8 b) in
    record {
      table = first.0;
      some = omega (arith, up.some, number);
      few = omega (arith, up.few, number);
      low = third.0;
      there = omega (arith, fourth.0, buckets, length-drop 8 b, length-drop 4 (drop 8 b), second.0);
      whole = omega (arith, second.0, length-drop 8 b);
      hold = record { are = subst AreCoupons order fifth.0; number = ap length (sym order) ∙ sixth.0 };
    }
