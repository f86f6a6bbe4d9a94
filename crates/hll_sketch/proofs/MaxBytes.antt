-- SPDX-License-Identifier: Apache-2.0
-- Lemmas on caller-owned registers.
use Rattle.std.proofs.Common.{◌≡◌, ℕ, ◌*◌, ◌^◌, ◌<◌, ◌≤◌, ◌==◌, nat_eq, true, false, ◌&&◌, not, Option, Some, None, List, [], ◌∷◌, ◌++◌, length, refl, sym, ap, ◌∙◌, arith}
use Rattle.std.specs.FinSet.{len, empty_of_len, insert, union}
use Rattle.std.proofs.lemmas.Bool.{and_parts, eqb-true, true≢false}
use Rattle.std.proofs.lemmas.List.{append-nil}
use Rattle.std.specs.List.{list_all}
use Rattle.hll_base.specs.Join.{join}
use Rattle.hll_coupons.proofs.Members.{set_of-between}
use Rattle.hll_sketch.specs.MergedIn.{IsOfCoupons, IsOfRegisters}
use Rattle.hll_sketch.specs.ByteRegisters.{TakesMaxWithImage, TakesMaxWithSketch, takes_max, has_fewer}
use Rattle.hll_sketch.proofs.Emptiness.{zeros-empty}
use Rattle.hll_base.proofs.Joins.{join_assoc, join_comm}
use Rattle.hll_coupons.specs.Fold.{fold_to, pairs}
use Rattle.hll_coupons.specs.Pair.{Pairs, set_of}
use Rattle.hll_coupons.proofs.Folds.{fold_to-union}
use Rattle.hll_registers.specs.declared.estimate_state.EstimateState.{EstimateState}
use Rattle.hll_registers.specs.Store.{Stored}
use Rattle.hll_registers.proofs.Folding.{folded, folded-none}
use Rattle.hll_sketch.specs.Value.{Sketch, coupons, registers, in_registers, is_empty, pairs_of, pairs_in, has_nonzero_registers}
use Rattle.hll_coupons.proofs.Unions.{insert-union, set_of-nil}

-- ---- maxima

pub joined-nil : (V : List ℕ) (e : ℕ) → length V ≡ 2 ^ e → V ≡ join V (fold_to (set_of []) e)
joined-nil V e size =
    let nothing : 0 * 2 ^ e ≡ 0 = omega arith in
    folded-none V [] e size ∙ ap (λ m. join V (folded [] e m)) nothing

-- without pairs nothing changes
pub joined-none : (V : List ℕ) (P : Pairs) (e : ℕ) → length V ≡ 2 ^ e → len P ≡ 0 → V ≡ join V (fold_to P e)
joined-none V P e size none = joined-nil V e size ∙ ap (λ Q. join V (fold_to Q e)) (set_of-nil ∙ sym (empty_of_len P none))

-- one coupon, and then others
pub joined-more : (V W : List ℕ) (c : ℕ) (cs : List ℕ) (e : ℕ) → W ≡ join V (fold_to (set_of (c ∷ [])) e) → join W (fold_to (set_of cs) e) ≡ join V (fold_to (set_of (c ∷ cs)) e)
joined-more V W c cs e is =
    let one : List ℕ = fold_to (set_of (c ∷ [])) e in
    let others : List ℕ = fold_to (set_of cs) e in
    ap (λ X. join X others) is ∙ join_assoc V one others
    ∙ ap (join V) (join_comm one others ∙ sym (fold_to-union (set_of cs) (set_of (c ∷ [])) e) ∙ ap (λ S. fold_to S e) (sym (insert-union (set_of cs) c)))

-- some coupons, and then one
pub max_later : (V W : List ℕ) (cs : List ℕ) (c e : ℕ) → W ≡ join V (fold_to (set_of cs) e) → join W (fold_to (set_of (c ∷ [])) e) ≡ join V (fold_to (set_of (cs ++ c ∷ [])) e)
max_later V W cs c e is =
    let one : List ℕ = fold_to (set_of (c ∷ [])) e in
    let others : List ℕ = fold_to (set_of cs) e in
    let more : set_of (cs ++ c ∷ []) ≡ union (set_of cs) (set_of (c ∷ [])) = set_of-between cs [] c ∙ ap (λ xs. insert (set_of xs) c) (append-nil cs) ∙ insert-union (set_of cs) c in
    ap (λ X. join X one) is ∙ join_assoc V others one ∙ ap (join V) (sym (fold_to-union (set_of cs) (set_of (c ∷ [])) e) ∙ ap (λ S. fold_to S e) (sym more))

-- ---- registers that are not all 0

-- an empty sketch has none
pub none_nonzero : (x : Sketch) → is_empty x ≡ true → has_nonzero_registers x ≡ true → ⊥
none_nonzero x none some = true≢false (sym (and_parts (in_registers x.content) (not (is_empty x)) some).1 ∙ ap not none)

-- neither have coupons
pub coupons_nonzero : (x : Sketch) (S : Pairs) (size : ℕ) → x.content ≡ coupons S size → has_nonzero_registers x ≡ true → ⊥
coupons_nonzero x S size is some = true≢false (sym (and_parts (in_registers x.content) (not (is_empty x)) some).0 ∙ ap in_registers is)

pub registers_nonzero : (x : Sketch) → in_registers x.content ≡ true → is_empty x ≡ false → has_nonzero_registers x ≡ true
registers_nonzero x inside some = λ i. inside i && not (some i)

-- ---- what is merged

-- the coupons of a sketch
pub max_of_table : (k : ℕ) (x : Sketch) (old new : List ℕ) (S : Pairs) (size : ℕ) → x.content ≡ coupons S size → new ≡ join old (fold_to S k) → TakesMaxWithSketch k x old new None
max_of_table k x old new S size holds is = takes_max (λ some. absurd (coupons_nonzero x S size holds some)) (is ∙ ap (λ P. join old (fold_to P k)) (sym (ap pairs_in holds)))

-- the coupons of an image
pub max_of_coupons : (k : ℕ) (b old new order : List ℕ) → IsOfCoupons b order → new ≡ join old (fold_to (set_of order) k) → TakesMaxWithImage k b old new None
max_of_coupons k b old new order of is = record { sketch = of.sketch; read = of.read; is = max_of_table k of.sketch old new (set_of order) of.size of.content is }

-- registers that are all 0 change nothing
pub max_of_zeros : (k l : ℕ) (old R : List ℕ) → length old ≡ 2 ^ k → list_all (λ v. v == 0) R ≡ true → (y : Sketch) (s : EstimateState) → y.lg_k ≡ l → y.content ≡ registers R s → TakesMaxWithSketch k y old old None
max_of_zeros k l old R size zeros y s at is =
    let none : is_empty y ≡ true = ap (λ c. nat_eq (len (pairs_in c)) 0) is ∙ sym (zeros-empty R) ∙ zeros in
    takes_max (λ some. absurd (none_nonzero y none some)) (joined-none old (pairs_of y) k size (eqb-true _ 0 none))

-- other registers, if they are fewer
pub max_of_fewer : (k l : ℕ) (old R : List ℕ) (e : ℕ) → l < k → e ≡ l → list_all (λ v. v == 0) R ≡ false → (y : Sketch) (s : EstimateState) → y.lg_k ≡ l → y.content ≡ registers R s →
    TakesMaxWithSketch k y old old (Some e)
max_of_fewer k l old R e less known some y s at is =
    let not_empty : is_empty y ≡ false = ap (λ c. nat_eq (len (pairs_in c)) 0) is ∙ sym (zeros-empty R) ∙ some in
    has_fewer (registers_nonzero y (ap in_registers is) not_empty) (omega (arith, less, at)) (known ∙ sym at) refl

-- and if they are at least as many
pub max_of_folds : (k l : ℕ) (old new R : List ℕ) → k ≤ l → new ≡ join old (fold_to (pairs R) k) → (y : Sketch) (s : EstimateState) → y.lg_k ≡ l → y.content ≡ registers R s → TakesMaxWithSketch k y old new None
max_of_folds k l old new R enough is y s at there = takes_max (λ some. omega (arith, enough, at)) (is ∙ ap (λ P. join old (fold_to P k)) (sym (ap pairs_in there)))

-- the registers of an image
pub max_of_registers : (k : ℕ) (b old new : List ℕ) (answer : Option ℕ) (x : Stored) → IsOfRegisters b x
    → ((y : Sketch) (s : EstimateState) → y.lg_k ≡ x.lg_k → y.content ≡ registers x.registers s → TakesMaxWithSketch k y old new answer) → TakesMaxWithImage k b old new answer
max_of_registers k b old new answer x of joined = record { sketch = of.sketch; read = of.read; is = joined of.sketch x.state of.lg_k of.content }
