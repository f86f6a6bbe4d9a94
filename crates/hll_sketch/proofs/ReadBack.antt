-- SPDX-License-Identifier: Apache-2.0
-- What is written for a sketch is read back.
use Rattle.std.proofs.Common.{◌≡◌, ◌++◌, length, take, drop, refl, sym, subst}
use Rattle.std.proofs.lemmas.List.{take-append-drop, take_at}
use Rattle.hll_sketch.specs.Image.{Image}
use Rattle.hll_sketch.specs.Laws.{WrittenIsReadBack}
use Rattle.hll_sketch.proofs.Faults.{fault_excludes_image}
use Rattle.hll_sketch.proofs.Images.{one_image}
use Rattle.hll_sketch.proofs.Written.{written_is_image}

pub written_is_read_back : WrittenIsReadBack
written_is_read_back bytes more x legal written =
    let here : Image bytes x = written_is_image bytes x legal written in
    let front : take (length bytes) (bytes ++ more) ≡ bytes = take_at bytes more (length bytes) refl in
    let image : Image (take (length bytes) (bytes ++ more)) x = subst (λ b. Image b x) (sym front) here in
    record {
      is_read = record { size = length bytes; image = image };
      no_other = λ y other. (one_image (take other.size (bytes ++ more)) bytes (drop other.size (bytes ++ more)) more y x other.image here (take-append-drop other.size (bytes ++ more))).1;
      no_fault = λ r fault. fault_excludes_image (bytes ++ more) r fault (length bytes) x image;
    }
