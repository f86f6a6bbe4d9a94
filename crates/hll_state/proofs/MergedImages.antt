-- SPDX-License-Identifier: Apache-2.0
-- Sketches of images that are merged, by what they hold: coupons or registers.
use Rattle.std.proofs.Common.{◌≡◌, ℕ, suc, zero, ◌≤◌, nat_eq, false, sym, ap, subst, ◌∙◌, arith}
use Rattle.std.proofs.lemmas.Bool.{true≢false}
use Rattle.hll_sketch.proofs.Adding.{merge_of_some}
use Rattle.hll_sketch.specs.Merging.{merge, merge_content}
use Rattle.hll_sketch.specs.Value.{Sketch, is_empty}
use Rattle.hll_state.specs.Merged.{HasRoomForContent, HasRoomToMerge}
use Rattle.hll_state.specs.declared.header.Header.{Header}

pub merged_as : (k : ℕ) (s z x y : Sketch) → x ≡ y → is_empty y ≡ false → z ≡ merge_content k s x x.content → z ≡ merge k s y
merged_as k s z x y is some e = e ∙ ap (λ x. merge_content k s x x.content) is ∙ sym (merge_of_some k s y some)

pub room_as : (h : Header) (x y : Sketch) (room : ℕ) → x ≡ y → is_empty y ≡ false → HasRoomToMerge h y room → HasRoomForContent h x.lg_k x.content room
room_as h x y room is some has = subst (λ y. HasRoomForContent h y.lg_k y.content room) (sym is) (has some)

pub some_length : (n : ℕ) → nat_eq n 0 ≡ false → 1 ≤ n
some_length zero some = absurd (true≢false some)
some_length (suc n) some = omega arith
