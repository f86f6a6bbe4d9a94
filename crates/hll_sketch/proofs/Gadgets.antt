-- SPDX-License-Identifier: Apache-2.0
-- The gadget of a union is still one after pairs are added or a sketch is merged; an empty one is one.
use Rattle.std.proofs.Common.{◌≡◌, ℕ, ◌%◌, ◌^◌, ◌≤◌, ◌<◌, Bool, true, false, ◌&&◌, nat_eq, eqb, List, [], ◌∷◌, Option, Some, None, All, get_or, zero, suc, refl, sym, ap, subst, ◌∙◌, arith, inl, inr}
use Rattle.std.specs.Prelude.{min}
use Rattle.std.specs.Cmp.{nat_cmp_total}
use Rattle.std.specs.Ordering.{nat_cmp}
use Rattle.std.specs.FinSet.{items, empty, union, len, contains, contains-empty, contains-from_list, empty_of_len, len-empty}
use Rattle.std.proofs.lemmas.Bool.{cases_Bool, cond-true, cond-false, and_parts, eqb-true, eq-eqb, true≢false, or_left}
use Rattle.std.proofs.lemmas.List.Elements.{All-from_get_or}
use Rattle.std.proofs.lemmas.Nat.{mod_below, pow_pos}
use Rattle.std.proofs.Math.Nat.{zero-add}
use Rattle.hll_coupons.specs.Pair.{Pairs, IsPair, set_of, slot_of, value_of, pair}
use Rattle.hll_coupons.specs.Fold.{fold_to, pairs, greatest, value_at}
use Rattle.hll_base.specs.Join.{join}
use Rattle.hll_coupons.proofs.Greatest.{itself, reached}
use Rattle.hll_coupons.proofs.Folds.{fold_to-union, length-fold_to, get_or-fold_to}
use Rattle.hll_coupons.proofs.Registers.{fold_to-pairs, pairs_have, value_at_same}
use Rattle.hll_registers.specs.declared.estimate_state.EstimateState.{EstimateState}
use Rattle.hll_sketch.specs.Stage.{stage}
use Rattle.hll_sketch.specs.Value.{Sketch, Content, coupons, registers, pairs_in, pairs_of, in_registers, is_empty, ArePairs, IsLegalContent, IsLegal}
use Rattle.hll_sketch.specs.Adding.{content_for, content_with, add}
use Rattle.hll_sketch.specs.Merging.{merge, merge_coupons, max_registers, merge_content}
use Rattle.hll_sketch.specs.Union.{IsGadget}
use Rattle.hll_sketch.proofs.LegalImages.{ArePairs-set_of}
use Rattle.hll_coupons.proofs.Unions.{no_members, union_right}
use Rattle.hll_sketch.proofs.LegalSketches.{ArePairs-union, ArePairs-pairs, pairs_are}

-- if a fold has no pairs, it is the fold of no pairs
pub fold_none : (k : ℕ) (P : Pairs) → ArePairs P → eqb (len (pairs (fold_to P k))) 0 ≡ true → P ≡ empty
fold_none k P are e = no_members P (λ c h.
    let none : pairs (fold_to P k) ≡ empty = empty_of_len (pairs (fold_to P k)) (eqb-true (len (pairs (fold_to P k))) 0 e) in
    let t : ℕ = slot_of c % 2 ^ k in
    let within : t < 2 ^ k = mod_below (slot_of c) (2 ^ k) (pow_pos k) in
    let v : ℕ = get_or (fold_to P k) t 0 in
    let is : v ≡ greatest (value_at k t) (items P) = get_or-fold_to P k t within in
    let most : value_at k t c ≤ greatest (value_at k t) (items P) = reached (value_at k t) c P h in
    let some : 0 < v = omega (arith, value_at_same k t c refl, (are c h).valued) in
    let there : contains (pairs (fold_to P k)) (pair t v) ≡ true = pairs_have (fold_to P k) (pair t v) t (record { within = omega (arith, length-fold_to P k); positive = some; is = ap (λ n. pair n v) (sym (zero-add t)) }) in
    true≢false (sym there ∙ ap (λ S. contains S (pair t v)) none ∙ contains-empty nat_cmp (pair t v)))

empty_none : (P : Pairs) → P ≡ empty → eqb (len P) 0 ≡ true
empty_none P e = eq-eqb (len P) 0 (ap len e ∙ len-empty nat_cmp)

-- what is false unless another is true, which it isn't
pub false_unless : (b : Bool) (P : Type 0) → (b ≡ true → P) → (P → ⊥) → b ≡ false
false_unless true P f none = absurd (none (f refl))
false_unless false P f none = refl

-- ---- pairs added

-- a content to which pairs were added, at least one, is not empty
some_with : (k : ℕ) (c : Content) (T : Pairs) → k ≤ 21 → IsLegalContent k c → ArePairs T → (T ≡ empty → ⊥) →
    in_registers (content_with k c T) ≡ true → eqb (len (pairs_in (content_with k c T))) 0 ≡ false
some_with k (coupons S p) T small legal are some = of (stage k p (len (union S T)))
  where
    of : (o : Option ℕ) → in_registers (content_for k (union S T) o) ≡ true → eqb (len (pairs_in (content_for k (union S T) o))) 0 ≡ false
    of (Some q) h = absurd (cc)
    of None h = false_unless _ (T ≡ empty) (λ e. union_right S T (fold_none k (union S T) (ArePairs-union S T legal.0 are) e)) some
some_with k (registers R s) T small legal are some = λ _. false_unless _ (T ≡ empty) (λ e.
    let is : join R (fold_to T k) ≡ fold_to (union (pairs R) T) k = ap (λ Q. join Q (fold_to T k)) (sym (fold_to-pairs R k small legal.0.size)) ∙ sym (fold_to-union (pairs R) T k) in
    union_right (pairs R) T (fold_none k (union (pairs R) T) (ArePairs-union (pairs R) T (ArePairs-pairs k R small legal.0) are) (ap (λ Q. eqb (len (pairs Q)) 0) (sym is) ∙ e))) some

-- registers remain registers
stays_registers : (k : ℕ) (c : Content) (T : Pairs) → in_registers (content_with k c T) ≡ false → in_registers c ≡ false
stays_registers k (coupons S p) T h = refl
stays_registers k (registers R s) T h = h

pub gadget_with : (m : ℕ) (g : Sketch) (T : Pairs) → IsGadget m g → IsLegal g → ArePairs T → (T ≡ empty → ⊥) → IsGadget m (add g T)
gadget_with m g T is legal are some = record {
  width = is.width;
  lg_k = is.lg_k;
  coupons = λ h. is.coupons (stays_registers g.lg_k g.content T h);
  registers = some_with g.lg_k g.content T legal.lg_k.high legal.content are some;
}

All-one : (c : ℕ) → IsPair c → All IsPair (c ∷ [])
All-one c pair = All-from_get_or IsPair (c ∷ []) 0 of
  where
    of : (i : ℕ) → i < 1 → IsPair (get_or (c ∷ []) i 0)
    of zero h = pair
    of (suc i) h = absurd (omega arith)

pub ArePairs-one : (c : ℕ) → IsPair c → ArePairs (set_of (c ∷ []))
ArePairs-one c pair = ArePairs-set_of (c ∷ []) (All-one c pair)

-- a coupon is added
pub gadget_with_coupon : (m : ℕ) (g h : Sketch) (c : ℕ) → IsGadget m g → IsLegal g → 1 ≤ value_of c → value_of c ≤ 63 → h ≡ add g (set_of (c ∷ [])) → IsGadget m h
gadget_with_coupon m g h c is legal valued small e = rw e
    (gadget_with m g (set_of (c ∷ [])) is legal (ArePairs-one c (record { valued = valued; small = small }))
    (λ none. true≢false (sym (contains-from_list nat_cmp_total (c ∷ []) c ∙ or_left _ _ (itself c c refl)) ∙ ap (λ S. contains S c) none ∙ contains-empty nat_cmp c)))

-- ---- a sketch is merged

pub some_pairs : (P : Pairs) → eqb (len P) 0 ≡ false → P ≡ empty → ⊥
some_pairs P some e = true≢false (sym (empty_none P e) ∙ some)

gadget_taking : (m : ℕ) (g x : Sketch) → in_registers x.content ≡ false → is_empty x ≡ false → IsGadget m g → IsLegal g → IsLegal x → IsGadget m (merge_coupons g x)
gadget_taking m g x bare some is legal other = elim (cases_Bool (is_empty g && nat_eq g.lg_k x.lg_k)) [
  | inl whole ↦
      let none : is_empty g ≡ true = (and_parts (is_empty g) (nat_eq g.lg_k x.lg_k) whole).0 in
      let before : in_registers g.content ≡ false = false_unless (in_registers g.content) (is_empty g ≡ false) is.registers (λ h. true≢false (sym none ∙ h)) in
      rw (cond-true (is_empty g && nat_eq g.lg_k x.lg_k) (record g { content = x.content }) (add g (pairs_of x)) whole)
      (record { width = is.width; lg_k = is.lg_k; coupons = λ h. is.coupons before; registers = λ h. absurd (true≢false (sym h ∙ bare)) })
  | inr each ↦
      rw (cond-false (is_empty g && nat_eq g.lg_k x.lg_k) (record g { content = x.content }) (add g (pairs_of x)) each)
      (gadget_with m g (pairs_of x) is legal (pairs_are x.lg_k x.content other.lg_k.high other.content) (some_pairs (pairs_of x) some))
]

-- the maximum with registers is taken
pub gadget_with_registers : (m : ℕ) (g : Sketch) (k : ℕ) (R : List ℕ) (s t : EstimateState) → k ≤ 21 → IsLegalContent k (registers R s) → eqb (len (pairs R)) 0 ≡ false →
    IsGadget m g → IsLegal g → IsGadget m (max_registers g k R t)
gadget_with_registers m g k R s t small right some is legal =
    let P : Pairs = union (pairs_of g) (pairs R) in
    record {
      width = is.width;
      lg_k = omega (arith, is.lg_k);
      coupons = λ h. absurd (cc);
      registers = λ _. false_unless _ (pairs R ≡ empty) (λ e.
          union_right (pairs_of g) (pairs R) (fold_none (min g.lg_k k) P
          (ArePairs-union (pairs_of g) (pairs R) (pairs_are g.lg_k g.content legal.lg_k.high legal.content) (ArePairs-pairs k R small right.0)) e))
          (some_pairs (pairs R) some);
    }

pub gadget_of_content : (m : ℕ) (g x : Sketch) (c : Content) → x.content ≡ c → is_empty x ≡ false → IsGadget m g → IsLegal g → IsLegal x → IsGadget m (merge_content m g x c)
gadget_of_content m g x (coupons S p) e some is legal other = gadget_taking m g x (ap in_registers e) some is legal other
gadget_of_content m g x (registers R s) e some is legal other =
    gadget_with_registers m g x.lg_k R s _ other.lg_k.high (subst (IsLegalContent x.lg_k) e other.content) (ap (λ c. eqb (len (pairs_in c)) 0) (sym e) ∙ some) is legal

pub gadget_merge : (m : ℕ) (g x : Sketch) → IsGadget m g → IsLegal g → IsLegal x → IsGadget m (merge m g x)
gadget_merge m g x is legal other = elim (cases_Bool (is_empty x)) [
  | inl none ↦ subst (IsGadget m) (sym (cond-true (is_empty x) g (merge_content m g x x.content) none)) is
  | inr some ↦ subst (IsGadget m) (sym (cond-false (is_empty x) g (merge_content m g x x.content) some)) (gadget_of_content m g x x.content refl some is legal other)
]
