-- SPDX-License-Identifier: Apache-2.0
-- Raw coupons that are gathered from the buckets of a table.
use Rattle.std.proofs.Common.{◌≡◌, ℕ, ◌+◌, ◌-◌, ◌*◌, ◌^◌, ◌<◌, ◌≤◌, true, List, [], ◌∷◌, ◌++◌, length, take, drop, inl, inr, ◌⊎◌, refl, sym, ap, ◌∙◌, arith}
use Rattle.std.specs.Int.{w32, to_le_bytes, from_le_bytes}
use Rattle.std.proofs.lemmas.List.{append-nil, length-append, length-drop, length-take, drop-drop, take-append-drop, drop_at}
use Rattle.std.proofs.lemmas.List.Elements.{filter-append}
use Rattle.std.proofs.lemmas.Nat.{from_le_bytes-to_le_bytes_4}
use Rattle.hll_coupons.specs.Coupons.{raw_coupons}
use Rattle.hll_coupons.specs.Table.{coupons_in}
use Rattle.hll_coupons.proofs.Payloads.{front_coupons, front_number}
use Rattle.hll_coupons.proofs.Buckets.{coupons_in-full, coupons_in-empty, length-coupons_in}
use Rattle.hll_coupons.proofs.Merging.{length-raw_coupons}
use Rattle.hll_sketch.proofs.Differing.{one_more, raw_coupons_split}

-- ---- a raw coupon written after others

module _ (room : List ℕ) (count : ℕ) (space : 4 * count ≤ length room) where
  size : length (take (4 * count) room) ≡ 4 * count
  size = omega (arith, space, length-take (4 * count) room)

  -- whatever comes after them, the first raw coupons are unchanged
  pub kept : (others : List ℕ) → raw_coupons count (take (4 * count) room ++ others) ≡ raw_coupons count room
  kept others =
      let front : List ℕ = take (4 * count) room in
      sym (front_coupons front others (front ++ others) refl true count 0 (omega (arith, size)))
      ∙ front_coupons front (drop (4 * count) room) room (take-append-drop (4 * count) room) true count 0 (omega (arith, size))

  -- and the bytes have one more raw coupon
  pub put_raw_coupon : (raw_coupon : ℕ) (four rest : List ℕ) → raw_coupon < 2 ^ 32 → four ≡ to_le_bytes w32 raw_coupon → raw_coupons (count + 1) (take (4 * count) room ++ (four ++ rest)) ≡ raw_coupons count room ++ raw_coupon ∷ []
  put_raw_coupon raw_coupon four rest small is =
      let others : List ℕ = four ++ rest in
      let all : List ℕ = take (4 * count) room ++ others in
      let after : drop (4 * count) all ≡ others = drop_at (take (4 * count) room) others (4 * count) size in
      let read : from_le_bytes w32 others ≡ raw_coupon =
      sym (front_number four rest others refl 0 (omega (arith, ap length is))) ∙ ap (from_le_bytes w32) is ∙ from_le_bytes-to_le_bytes_4 raw_coupon small in
      raw_coupons_split count 1 all ∙ (λ i. kept others i ++ raw_coupons 1 (after i)) ∙ ap (λ w. raw_coupons count room ++ w ∷ []) read

-- ---- the coupons of one more bucket

more_full : (ws : List ℕ) (w : ℕ) → 0 < w → coupons_in (ws ++ w ∷ []) ≡ coupons_in ws ++ w ∷ []
more_full ws w full = filter-append _ ws (w ∷ []) ∙ ap (λ xs. coupons_in ws ++ xs) (coupons_in-full w [] full)

more_empty : (ws : List ℕ) (w : ℕ) → w ≡ 0 → coupons_in (ws ++ w ∷ []) ≡ coupons_in ws
more_empty ws w empty = filter-append _ ws (w ∷ []) ∙ ap (λ xs. coupons_in ws ++ xs) (coupons_in-empty w [] empty) ∙ append-nil (coupons_in ws)

-- the coupons of the buckets so far are counted, and gathered as far as there is room
pub record GatheredSoFar (index total count : ℕ) (bytes cursor room : List ℕ) : Type 0 where
  pub after : cursor ≡ drop (4 * index) bytes
  pub left : 4 * (total - index) ≤ length cursor
  pub number : count ≡ length (coupons_in (raw_coupons index bytes))
  pub size : length room ≡ 512
  pub gathered : count ≤ 128 → raw_coupons count room ≡ coupons_in (raw_coupons index bytes)

module _ (index total count : ℕ) (bytes cursor room : List ℕ) (so : GatheredSoFar index total count bytes cursor room) (less : index < total)
    (w : ℕ) (rest new : List ℕ) (is : w ≡ from_le_bytes w32 cursor) (rest_is : rest ≡ drop 4 cursor) where
  after_more : rest ≡ drop (4 * (index + 1)) bytes
  after_more = rest_is ∙ ap (drop 4) so.after ∙ drop-drop 4 (4 * index) bytes ∙ ap (λ k. drop k bytes) (let e : 4 * index + 4 ≡ 4 * (index + 1) = omega arith in e)

  left_more : 4 * (total - (index + 1)) ≤ length rest
  left_more = omega (arith, so.left, ap length rest_is, length-drop 4 cursor, less)

  more : raw_coupons (index + 1) bytes ≡ raw_coupons index bytes ++ w ∷ []
  more = one_more index w bytes cursor so.after is

  -- no more are counted than buckets were read
  pub counted : count ≤ index
  counted = omega (arith, so.number, length-coupons_in (raw_coupons index bytes), length-raw_coupons index bytes)

  -- one more is counted if it is filled, and gathered if there is room
  pub gathered_more : (extra : ℕ) → ((w ≡ 0) × (extra ≡ 0)) ⊎ ((0 < w) × (extra ≡ 1)) → length new ≡ 512 → (count ≤ 128 → raw_coupons count new ≡ raw_coupons count room) →
      (count < 128 → raw_coupons (count + 1) new ≡ raw_coupons count room ++ w ∷ []) → GatheredSoFar (index + 1) total (count + extra) bytes rest new
  gathered_more extra (inl none) size keeps puts =
      let same : coupons_in (raw_coupons (index + 1) bytes) ≡ coupons_in (raw_coupons index bytes) = ap coupons_in more ∙ more_empty (raw_coupons index bytes) w none.0 in
      let e : count + extra ≡ count = omega (arith, none.1) in
      record {
        after = after_more;
        left = left_more;
        number = e ∙ so.number ∙ ap length (sym same);
        size = size;
        gathered = λ few. let fits : count ≤ 128 = omega (arith, few) in ap (λ k. raw_coupons k new) e ∙ keeps fits ∙ so.gathered fits ∙ sym same;
      }
  gathered_more extra (inr one) size keeps puts =
      let same : coupons_in (raw_coupons (index + 1) bytes) ≡ coupons_in (raw_coupons index bytes) ++ w ∷ [] = ap coupons_in more ∙ more_full (raw_coupons index bytes) w one.0 in
      let e : count + extra ≡ count + 1 = omega (arith, one.1) in
      record {
        after = after_more;
        left = left_more;
        number = omega (arith, one.1, so.number, ap length same, length-append (coupons_in (raw_coupons index bytes)) (w ∷ []));
        size = size;
        gathered = λ few.
            let fits : count < 128 = omega (arith, few, one.1) in
            ap (λ k. raw_coupons k new) e ∙ puts fits ∙ ap (λ ws. ws ++ w ∷ []) (so.gathered (omega (arith, fits))) ∙ sym same;
      }
