-- SPDX-License-Identifier: Apache-2.0
use Rattle.std.proofs.Common.{◌≡◌, ◌<◌, ℕ, List, Result, IfErr, get_or, length, inl, arith}
use Rattle.std.proofs.lemmas.List.Elements.{All-from_get_or}
use Rattle.std.proofs.lemmas.Result.{IfErr-weaker}
use Rattle.hll_base.specs.declared.error.Reason.{Reason}
use Rattle.hll_base.specs.declared.error.Reason.TheVariants.{Memory}
use Rattle.hll_sketch.specs.BorrowedImage.{sketch_of_borrowed, sketch_of_coupons}
use Rattle.hll_sketch.specs.Image.{AreBytes, IsReadAs}
use Rattle.hll_sketch.specs.Refusal.{IsRefusal}
use Rattle.hll_sketch.specs.Value.{Sketch}
use Rattle.hll_sketch.proofs.MergedImages.{read_is_legal}
use Rattle.hll_c.proofs.Images.{no_size_fault}
use Rattle.hll_c.proofs.union.GrowingUnion.update_with_checked.Goals as goal

-- numbers that are each below 256 are bytes
bytes : (image : List ℕ) → ((i : ℕ) → i < length image → get_or image i 0 < 256) → AreBytes image
bytes image each = All-from_get_or (λ n. n < 256) image 0 each

-- after an image was read, a merge fails only for memory
fails : {T : Type 0} (image : List ℕ) (x : Sketch) (r : Result T Reason) → IsReadAs image x → IfErr r (λ e. e ≡ Memory) → IfErr r (IsRefusal image)
fails image x r read memory = IfErr-weaker r _ (IsRefusal image) (λ e is. record { first = inl is; asked = λ _. no_size_fault image x read }) memory

pub update-requires : goal.update-requires
update-requires c = read_is_legal c.args.image.now (sketch_of_coupons c.in-Some.coupons) (bytes c.args.image.now (λ i within. omega (arith, c.type_inv.image i))) c.in-Some.ensures.some

pub returns-in-Some-clause-err : goal.returns-in-Some-clause-err
returns-in-Some-clause-err c = fails c.args.image.now (sketch_of_coupons c.in-Some.coupons) c.update.result c.in-Some.ensures.some c.update.ensures.err

pub update-requires-2 : goal.update-requires-2
update-requires-2 c = read_is_legal c.args.image.now (sketch_of_borrowed c.in_ok-image.image) (bytes c.args.image.now (λ i within. omega (arith, c.type_inv.image i))) c.in_ok-image.ensures.ok

pub returns-clause-err : goal.returns-clause-err
returns-clause-err c = fails c.args.image.now (sketch_of_borrowed c.in_ok-image.image) c.update-2.result c.in_ok-image.ensures.ok c.update-2.ensures.err
