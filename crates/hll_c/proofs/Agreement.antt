-- SPDX-License-Identifier: Apache-2.0
-- When the registers of two images agree.
use Rattle.std.proofs.Common.{Global, arith, ◌≡◌, ◌↔◌, ℕ, ◌≤◌, ◌==◌, if◌then◌else◌, min, Bool, true, false, List, take, drop, Some, None, refl, sym, ap, subst, ◌∙◌}
use mir.Val.{bool_byte}
use Rattle.std.proofs.lemmas.List.{take-append-drop}
use Rattle.hll_coupons.proofs.Registers.{fold_to-pairs-fold_to}
use Rattle.hll_coupons.specs.Fold.{fold_to, pairs}
use Rattle.hll_c.specs.Calls.{bit}
use Rattle.hll_sketch.specs.Agree.{Agree}
use Rattle.hll_sketch.specs.ByteRegisters.{AreRegistersOf}
use Rattle.hll_sketch.specs.Image.{lg_k_byte, stage_bits, width_bits, width_of_bits, HasHeader, IsReadAs, list, set, hll8, hll6, hll4}
use Rattle.hll_sketch.specs.Value.{Sketch, pairs_of, IsLgK}
use Rattle.hll_sketch.proofs.Images.{at}
use Rattle.hll_images.specs.BorrowedRegisters.{lg_k_of, values_of, width_of, width_in, LieAlike}
use Rattle.hll_images.specs.declared.borrowed_registers.BorrowedRegisters.{BorrowedRegisters}
use Rattle.hll_c.specs.Answers.{ArePlainAlike}

-- a truth as a byte
pub bit_of : (b : Bool) → bool_byte b ≡ bit b
bit_of true = refl
bit_of false = refl

-- folded further, the registers of an image are the fold of its pairs
folded_further : (b : List ℕ) (k e : ℕ) (R : List ℕ) (of : AreRegistersOf b k R) → e ≤ k → k ≤ 21 → fold_to (pairs R) e ≡ fold_to (pairs_of of.sketch) e
folded_further b k e R of within small = ap (λ Q. fold_to (pairs Q) e) of.are ∙ fold_to-pairs-fold_to (pairs_of of.sketch) k e within small

pub same_is_agreement : (a b : List ℕ) (j k : ℕ) (Q R : List ℕ) (x : AreRegistersOf a j Q) (y : AreRegistersOf b k R) → IsLgK j → IsLgK k
    → let e = min j k in (fold_to (pairs Q) e ≡ fold_to (pairs R) e) ↔ Agree x.sketch y.sketch
same_is_agreement a b j k Q R x y at_j at_k =
    let e : ℕ = min j k in
    let left : fold_to (pairs Q) e ≡ fold_to (pairs_of x.sketch) e = folded_further a j e Q x (omega arith) at_j.high in
    let right : fold_to (pairs R) e ≡ fold_to (pairs_of y.sketch) e = folded_further b k e R y (omega arith) at_k.high in
    let least : min x.sketch.lg_k y.sketch.lg_k ≡ e = λ i. min (x.lg_k i) (y.lg_k i) in (
      λ same. subst (λ n. fold_to (pairs_of x.sketch) n ≡ fold_to (pairs_of y.sketch) n) (sym least) (sym left ∙ same ∙ right),
      λ agree. left ∙ subst (λ n. fold_to (pairs_of x.sketch) n ≡ fold_to (pairs_of y.sketch) n) least agree ∙ sym right,
    )

-- ---- registers that are compared in place

-- the lg_k that an image has is the byte of its header
lg_k_read : (b : List ℕ) (x : Sketch) → IsReadAs b x → x.lg_k ≡ lg_k_byte b
lg_k_read b x read = elim read.image [
  | list is e ↦ ap (λ (y : Sketch). y.lg_k) e ∙ byte_is 0 is.header
  | set is e ↦ ap (λ (y : Sketch). y.lg_k) e ∙ byte_is 1 is.header
  | hll8 is e ↦ ap (λ (y : Sketch). y.lg_k) e ∙ byte_is 2 is.header
  | hll6 is e ↦ ap (λ (y : Sketch). y.lg_k) e ∙ byte_is 2 is.header
  | hll4 is e ↦ ap (λ (y : Sketch). y.lg_k) e ∙ byte_is 2 is.header
]
  where
    front : List ℕ
    front = take read.size b

    byte_is : (s : ℕ) → HasHeader front s → lg_k_byte front ≡ lg_k_byte b
    byte_is s h = at front (drop read.size b) b (take-append-drop read.size b) h.whole 3 (omega arith)

-- registers have a width
width_there : (b : List ℕ) → stage_bits b ≡ 2 → width_in b ≡ Some (width_of_bits (width_bits b))
width_there b is = ap (λ s. if s == 2 then Some (width_of_bits (width_bits b)) else None) is

pub lie_alike : (a b : List ℕ) (x y : BorrowedRegisters Global) → AreRegistersOf a (lg_k_of x) (values_of x) → AreRegistersOf b (lg_k_of y) (values_of y) → width_of x ≡ width_in a → width_of y ≡ width_in b
    → ArePlainAlike a b → LieAlike x y
lie_alike a b x y of_a of_b of_x of_y alike =
    let wide = width_there a alike.left_plain.0 in
    record {
      lg_k = sym of_a.lg_k ∙ lg_k_read a of_a.sketch of_a.read ∙ alike.lg_k ∙ sym (lg_k_read b of_b.sketch of_b.read) ∙ of_b.lg_k;
      width = of_x ∙ wide ∙ ap (λ n. Some (width_of_bits n)) alike.width ∙ sym (of_y ∙ width_there b alike.right_plain.0);
      some = λ no. (let e : None ≡ Some (width_of_bits (width_bits a)) = sym no ∙ of_x ∙ wide in absurd (cc));
    }
