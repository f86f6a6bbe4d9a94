-- SPDX-License-Identifier: Apache-2.0
-- Lemmas on reading the image of a list.
use Rattle.std.proofs.Common.{◌≡◌, ℕ, ◌+◌, ◌*◌, ◌≤◌, List, length, take, drop, sym, subst, ◌∙◌, arith}
use Rattle.std.proofs.lemmas.List.{take-append-drop, drop-take, length-drop, length-take}
use Rattle.hll_coupons.specs.Payload.{list_buckets, IsListPayload}
use Rattle.hll_sketch.specs.Image.{table_byte, HasHeader, list_shape, IsListImage}
use Rattle.hll_sketch.proofs.Headers.{HasHeader-same}
use Rattle.hll_sketch.proofs.Images.{at, same_list_shape}

-- a header followed by the payload of a list is an image
pub list_image : (b : List ℕ) → HasHeader b 0 → table_byte b ≡ 3 → IsListPayload (list_shape b) (take (4 * list_buckets (list_shape b)) (drop 8 b)) → IsListImage (take (8 + 4 * list_buckets (list_shape b)) b)
list_image b h table payload =
    let n : ℕ = 4 * list_buckets (list_shape b) in
    let a : List ℕ = take (8 + n) b in
    let e = take-append-drop (8 + n) b in
    let there : n ≤ length (drop 8 b) = omega (arith, payload.size, length-take n (drop 8 b)) in
    let whole : 8 ≤ length a = omega (arith, h.whole, length-take (8 + n) b, length-drop 8 b) in
    record {
      header = HasHeader-same b a (λ i l. sym (at a (drop (8 + n) b) b e whole i l)) whole h;
      table = at a (drop (8 + n) b) b e whole 4 (omega arith) ∙ table;
      payload = subst (λ z. IsListPayload z (drop 8 a)) (sym (same_list_shape a (drop (8 + n) b) b e whole)) (subst (IsListPayload (list_shape b)) (sym (drop-take 8 n b)) payload);
    }
