-- SPDX-License-Identifier: Apache-2.0
-- The maximum of registers doesn't depend on order, grouping or repetition.
use Rattle.std.proofs.Common.{◌≡◌, ℕ, ◌<◌, zero, suc, List, [], ◌∷◌, length, get_or, refl, sym, ap, ◌∙◌, arith}
use Rattle.std.specs.Prelude.{max}
use Rattle.std.proofs.lemmas.List.{ext_get_or}
use Rattle.hll_base.specs.Join.{join}

pub join_comm : (R Q : List ℕ) → join R Q ≡ join Q R
join_comm [] [] = refl
join_comm [] (q ∷ Q) = refl
join_comm (r ∷ R) [] = refl
join_comm (r ∷ R) (q ∷ Q) = let e : max r q ≡ max q r = omega arith in λ i. e i ∷ join_comm R Q i

pub join_itself : (R : List ℕ) → join R R ≡ R
join_itself [] = refl
join_itself (r ∷ R) = let e : max r r ≡ r = omega arith in λ i. e i ∷ join_itself R i

pub join_assoc : (R Q S : List ℕ) → join (join R Q) S ≡ join R (join Q S)
join_assoc [] Q S = refl
join_assoc (r ∷ R) [] S = refl
join_assoc (r ∷ R) (q ∷ Q) [] = refl
join_assoc (r ∷ R) (q ∷ Q) (s ∷ S) = let e : max (max r q) s ≡ max r (max q s) = omega arith in λ i. e i ∷ join_assoc R Q S i

pub length-join : (R Q : List ℕ) → length R ≡ length Q → length (join R Q) ≡ length R
length-join [] Q e = sym e
length-join (r ∷ R) [] e = refl
length-join (r ∷ R) (q ∷ Q) e = let f : length R ≡ length Q = omega arith in ap suc (length-join R Q f)

pub get_or-join : (R Q : List ℕ) (i : ℕ) → get_or (join R Q) i 0 ≡ max (get_or R i 0) (get_or Q i 0)
get_or-join [] Q i = omega arith
get_or-join (r ∷ R) [] i = omega arith
get_or-join (r ∷ R) (q ∷ Q) zero = refl
get_or-join (r ∷ R) (q ∷ Q) (suc i) = get_or-join R Q i

-- a list that has the greater value at each index is the maximum
pub is_join : (L R J : List ℕ) → length L ≡ length R → length J ≡ length L → ((k : ℕ) → k < length J → get_or J k 0 ≡ max (get_or L k 0) (get_or R k 0)) → J ≡ join L R
is_join L R J same size each = ext_get_or 0 J (join L R) (size ∙ sym (length-join L R same)) (λ k h. each k h ∙ sym (get_or-join L R k))
