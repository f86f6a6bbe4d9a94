-- SPDX-License-Identifier: Apache-2.0
use Rattle.std.proofs.Common.{◌≡◌, ℕ, List, [], ◌∷◌, Result, Ok, Err, IfErr, sym, subst, ◌∙◌}
use Rattle.std.proofs.lemmas.Option.{IfSome_then}
use Rattle.std.proofs.lemmas.Result.{IfOk-weaker}
use Rattle.hll_base.specs.declared.error.Reason.{Reason}
use Rattle.hll_base.specs.declared.error.Reason.TheVariants.{Memory}
use Rattle.hll_c.specs.Calls.{bits_of}
use Rattle.hll_c.specs.Steps.{IsUnionInBytes, AreAllRead}
use Rattle.hll_c.proofs.GrowingUnions.{one_image, two_images}
use Rattle.hll_c.proofs.Images.{union_of_one_in_bytes, union_in_bytes, both_are_read}
use Rattle.hll_c.proofs.union.union_of_few.Goals as goal

-- no memory, after images were read
after_read : {T P : Type 0} (images : List (List ℕ)) (r : Result T Reason) → IfErr r (λ e. e ≡ Memory) → IfErr r (λ _. P) → (P → AreAllRead images) → IfErr r (λ e. (e ≡ Memory) × AreAllRead images)
after_read images (Ok x) is read f = tt
after_read images (Err e) is read f = (is, f read)

pub returns-then-count-eq1-clause-some : goal.returns-then-count-eq1-clause-some
returns-then-count-eq1-clause-some g c =
    let all : List (List ℕ) = g.S.Strings.strings c.args.images.now in
    let image : List ℕ = c.string.result.now in
    let is : image ∷ [] ≡ all = one_image all image (sym c.count-count.ensures ∙ c.if-count-eq1.true) c.string.ensures in
    IfOk-weaker c.union_of_one_coupon_image.result _ _ (λ found some. IfSome_then found some λ written of.
    subst (λ xs. IsUnionInBytes c.args.lg_max_k (bits_of c.args.hll_type) xs written.items) is (union_of_one_in_bytes c.args.lg_max_k c.args.hll_type image written.items of))
    c.union_of_one_coupon_image.ensures.some

pub returns-then-count-eq1-clause-err : goal.returns-then-count-eq1-clause-err
returns-then-count-eq1-clause-err g c =
    let all : List (List ℕ) = g.S.Strings.strings c.args.images.now in
    let image : List ℕ = c.string.result.now in
    let made = c.union_of_one_coupon_image in
    let is : image ∷ [] ≡ all = one_image all image (sym c.count-count.ensures ∙ c.if-count-eq1.true) c.string.ensures in
    after_read all made.result made.ensures.err made.ensures.read (λ read. subst AreAllRead is (read.1 ∷ [], (read.2, tt)))

pub returns-then-are_small-clause-some : goal.returns-then-are_small-clause-some
returns-then-are_small-clause-some g c =
    let all : List (List ℕ) = g.S.Strings.strings c.args.images.now in
    let left : List ℕ = c.string-then-are_small.result.now in
    let right : List ℕ = c.string-then-are_small-2.result.now in
    let is : left ∷ right ∷ [] ≡ all = two_images all left right (sym c.count-count.ensures ∙ c.if-count-eq2.true) c.string-then-are_small.ensures c.string-then-are_small-2.ensures in
    IfOk-weaker c.union_of_coupon_images.result _ _ (λ found some. IfSome_then found some λ written of.
    subst (λ xs. IsUnionInBytes c.args.lg_max_k (bits_of c.args.hll_type) xs written.items) is (union_in_bytes c.args.lg_max_k c.args.hll_type left right written.items of))
    c.union_of_coupon_images.ensures.some

pub returns-then-are_small-clause-err : goal.returns-then-are_small-clause-err
returns-then-are_small-clause-err g c =
    let all : List (List ℕ) = g.S.Strings.strings c.args.images.now in
    let left : List ℕ = c.string-then-are_small.result.now in
    let right : List ℕ = c.string-then-are_small-2.result.now in
    let made = c.union_of_coupon_images in
    let is : left ∷ right ∷ [] ≡ all = two_images all left right (sym c.count-count.ensures ∙ c.if-count-eq2.true) c.string-then-are_small.ensures c.string-then-are_small-2.ensures in
    after_read all made.result made.ensures.err made.ensures.read (λ both. subst AreAllRead is (both_are_read c.args.lg_max_k left right both))
