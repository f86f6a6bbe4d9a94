-- SPDX-License-Identifier: Apache-2.0
-- The registers of an image.
use Rattle.std.proofs.Common.{arith, ◌≡◌, ◌↔◌, ℕ, ◌^◌, ◌≤◌, ◌<◌, false, min, Bool, IsTrue, List, ◌++◌, length, take, drop, replicate, None, ◌⊎◌, eqb, inl, inr, refl, sym, ap, ◌∙◌}
use Rattle.std.proofs.Math.Seq.{take-append_seam}
use Rattle.std.proofs.lemmas.Bool.{cond-false, ne_eqb}
use Rattle.hll_base.specs.Join.{join}
use Rattle.hll_base.specs.declared.error.Reason.{Reason}
use Rattle.hll_base.specs.declared.error.Reason.TheVariants.{Memory}
use Rattle.hll_coupons.proofs.Folds.{length-fold_to}
use Rattle.hll_coupons.proofs.Registers.{fold_to-pairs, fold_to-pairs-fold_to}
use Rattle.hll_coupons.specs.Fold.{fold_to, pairs, raw_coupons_from}
use Rattle.hll_coupons.specs.Pair.{Pairs, set_of}
use Rattle.hll_registers.specs.Store.{Stored, IsStored}
use Rattle.hll_sketch.specs.ByteRegisters.{AreRegistersOf}
use Rattle.hll_images.specs.BorrowedRegisters.{width_in}
use Rattle.hll_sketch.specs.Header.{header_of, number_of_stage, stage_of_bits}
use Rattle.hll_sketch.specs.declared.header.Header.{Header}
use Rattle.hll_sketch.specs.declared.header.Stage.TheVariants as stages
use Rattle.hll_sketch.specs.Image.{lg_k_byte, stage_bits, HasHeader, IsReadAs, list, set, hll8, hll6, hll4}
use Rattle.hll_sketch.specs.Refusal.{IsRefusal}
use Rattle.hll_sketch.specs.MergedIn.{IsOfCoupons, IsOfRegisters}
use Rattle.hll_sketch.specs.Value.{Sketch, in_registers, pairs_in, pairs_of}
use Rattle.std.proofs.lemmas.List.{take-append-drop}
use Rattle.hll_sketch.proofs.CouponHeaders.{coupons_say}
use Rattle.hll_sketch.proofs.Images.{same_stage}
use Rattle.hll_sketch.proofs.Promoting.{join-zeros}
use Rattle.hll_sketch.proofs.SizedImages.{sized_if_read}

-- an allocation that fails after an image was read
pub wants_memory : (b : List ℕ) (x : Sketch) (e : Reason) → IsReadAs b x → e ≡ Memory → IsRefusal b e
wants_memory b x e read is = record { first = inl is; asked = λ _. sized_if_read b x read }

-- registers in the bytes of an image
pub of_registers : (b : List ℕ) (x : Stored) (k : ℕ) (values : List ℕ) → IsOfRegisters b x → k ≡ x.lg_k → values ≡ fold_to (pairs x.registers) k → AreRegistersOf b k values
of_registers b x k values of same are = record {
  sketch = of.sketch;
  read = of.read;
  lg_k = of.lg_k ∙ sym same;
  are = are ∙ ap (λ c. fold_to (pairs_in c) k) (sym of.content);
}

-- registers that are borrowed from an image
pub lying : (b : List ℕ) (x : Stored) → IsOfRegisters b x → IsStored x → AreRegistersOf b x.lg_k x.registers
lying b x of legal = of_registers b x x.lg_k x.registers of refl (sym (fold_to-pairs x.registers x.lg_k legal.high legal.registers.size))

pub size_of_registers : (b : List ℕ) (k : ℕ) (R : List ℕ) → AreRegistersOf b k R → length R ≡ 2 ^ k
size_of_registers b k R of = ap length of.are ∙ length-fold_to (pairs_of of.sketch) k

-- registers of the same lg_k are equal exactly if they are equal once folded to it
pub same_at_own : (k j : ℕ) (R Q : List ℕ) (b : Bool) → k ≤ 21 → length R ≡ 2 ^ k → length Q ≡ 2 ^ j → k ≡ j → IsTrue b ↔ (R ≡ Q) → let e = min k j in IsTrue b ↔ (fold_to (pairs R) e ≡ fold_to (pairs Q) e)
same_at_own k j R Q b small size others is test =
    let least : min k j ≡ k = omega (arith, is) in
    let here : fold_to (pairs R) (min k j) ≡ R = ap (fold_to (pairs R)) least ∙ fold_to-pairs R k small size in
    let there : fold_to (pairs Q) (min k j) ≡ Q = ap (fold_to (pairs Q)) least ∙ fold_to-pairs Q k small (others ∙ ap (λ n. 2 ^ n) (sym is)) in
    (λ t. here ∙ test.0 t ∙ sym there, λ e. test.1 (sym here ∙ e ∙ there))

-- what the coupons of an image fold to
pub of_coupons : (b order raws : List ℕ) (k : ℕ) → IsOfCoupons b order → k ≡ lg_k_byte b → raws ≡ order → AreRegistersOf b k (fold_to (set_of raws) k)
of_coupons b order raws k of same are = record {
  sketch = of.sketch;
  read = of.read;
  lg_k = (coupons_say b order of).0 ∙ sym same;
  are = ap (λ cs. fold_to (set_of cs) k) are ∙ ap (λ c. fold_to (pairs_in c) k) (sym of.content);
}

-- the sketch of an image of coupons has coupons
pub coupons_by_stage : (b : List ℕ) (x : Sketch) → IsReadAs b x → stage_bits b < 2 → in_registers x.content ≡ false
coupons_by_stage b x read low = elim read.image [
  | list h is ↦ ap (λ (y : Sketch). in_registers y.content) is
  | set h is ↦ ap (λ (y : Sketch). in_registers y.content) is
  | hll8 h is ↦ absurd (omega (arith, low, stage h.header))
  | hll6 h is ↦ absurd (omega (arith, low, stage h.header))
  | hll4 h is ↦ absurd (omega (arith, low, stage h.header))
]
  where
    stage : HasHeader (take read.size b) 2 → stage_bits b ≡ 2
    stage has = sym (same_stage (take read.size b) (drop read.size b) b (take-append-drop read.size b) has.whole) ∙ has.stage_is

-- an image of coupons has no registers
pub no_width : (b : List ℕ) (h : Header) → h ≡ header_of b → (h.stage ≡ stages.List) ⊎ (h.stage ≡ stages.Set) → None ≡ width_in b
no_width b h is either = sym (cond-false (eqb (stage_bits b) 2) _ None (ne_eqb (stage_bits b) 2 (λ two.
    let hll : h.stage ≡ stages.Hll = ap (λ (h : Header). h.stage) is ∙ ap stage_of_bits two in
    elim either [
      | inl of_list ↦ let no_list : 0 ≡ 2 = ap number_of_stage (sym of_list ∙ hll) in omega (arith, no_list)
      | inr of_set ↦ let no_set : 1 ≡ 2 = ap number_of_stage (sym of_set ∙ hll) in omega (arith, no_set)
    ])))

-- the maximum of zeros and the fold of pairs
pub filled_with : (k n : ℕ) (P : Pairs) (zeros new : List ℕ) → zeros ≡ replicate (2 ^ k) 0 → n ≡ 2 ^ k → new ≡ join zeros (fold_to P k) → take n (new ++ drop (length new) zeros) ≡ fold_to P k
filled_with k n P zeros new none size joined =
    let is : new ≡ fold_to P k = joined ∙ ap (λ Z. join Z (fold_to P k)) none ∙ join-zeros k P in
    let long : n ≡ length new = size ∙ sym (length-fold_to P k) ∙ ap length (sym is) in
    ap (λ m. take m (new ++ drop (length new) zeros)) long ∙ take-append_seam new (drop (length new) zeros) ∙ is

-- registers folded again
pub folded_again : (P : Pairs) (k e : ℕ) (R : List ℕ) → e ≤ k → k ≤ 21 → R ≡ fold_to P k → fold_to (pairs R) e ≡ fold_to P e
folded_again P k e R within small is = ap (λ Q. fold_to (pairs Q) e) is ∙ fold_to-pairs-fold_to P k e within small

-- registers are equal if those above 0 are
pub same_nonzero : (k : ℕ) (P Q : Pairs) (b : Bool) → k ≤ 21 → IsTrue b ↔ (raw_coupons_from 0 (fold_to P k) ≡ raw_coupons_from 0 (fold_to Q k)) → IsTrue b ↔ (fold_to P k ≡ fold_to Q k)
same_nonzero k P Q b small test =
    let at : k ≤ k = omega arith in
    (λ t. sym (fold_to-pairs-fold_to P k k at small) ∙ ap (λ cs. fold_to (set_of cs) k) (test.0 t) ∙ fold_to-pairs-fold_to Q k k at small, λ e. test.1 (ap (raw_coupons_from 0) e))
