-- SPDX-License-Identifier: Apache-2.0
-- Lemmas on lists that are changed part by part: by a maximum, or by writing.
use Rattle.std.proofs.Common.{◌≡◌, ℕ, ◌+◌, ◌<◌, ◌≤◌, zero, suc, List, [], ◌∷◌, ◌++◌, length, get_or, take, drop, cond, nat_lt, max, refl, sym, ap, ◌∙◌, arith}
use Rattle.std.specs.Simd.Lanes.{zip2, sel_l, top, put_chunk}
use Rattle.std.proofs.Math.ListN.{set}
use Rattle.std.proofs.lemmas.Bool.Decides.{nat_tests}
use Rattle.std.proofs.lemmas.List.{length-append, length-drop, append-nil, take_all, drop_all}
use Rattle.std.proofs.lemmas.Simd.{length-put_chunk}
use borrow.Rule.Slice.PartMut.{mid_of, put_mid}
use Rattle.hll_base.specs.Join.{join}
use Rattle.hll_kernels.specs.Lanes.{max_at}
use mathlib.Core.List.{map}

-- ---- the maximum, part by part

pub max_none : (at : ℕ) (R : List ℕ) → max_at at R [] ≡ R
max_none zero [] = refl
max_none zero (r ∷ R) = refl
max_none (suc at) [] = refl
max_none (suc at) (r ∷ R) = ap (λ S. r ∷ S) (max_none at R)

pub length-max_at : (at : ℕ) (R Q : List ℕ) → length (max_at at R Q) ≡ length R
length-max_at zero [] Q = refl
length-max_at zero (r ∷ R) [] = refl
length-max_at zero (r ∷ R) (q ∷ Q) = ap suc (length-max_at zero R Q)
length-max_at (suc at) [] Q = refl
length-max_at (suc at) (r ∷ R) Q = ap suc (length-max_at at R Q)

-- one more part
pub max_more : (at n : ℕ) (R P Q : List ℕ) → n ≡ at + length P → n ≤ length R → max_at n (max_at at R P) Q ≡ max_at at R (P ++ Q)
max_more zero zero R [] Q e h = ap (λ S. max_at zero S Q) (max_none zero R)
max_more zero (suc n) R [] Q e h = absurd (omega arith)
max_more zero n [] (p ∷ P) Q e h = absurd (omega arith)
max_more zero zero (r ∷ R) (p ∷ P) Q e h = absurd (omega arith)
max_more zero (suc n) (r ∷ R) (p ∷ P) Q e h = ap (λ S. max r p ∷ S) (max_more zero n R P Q (omega arith) (omega arith))
max_more (suc at) zero R P Q e h = absurd (omega arith)
max_more (suc at) (suc n) [] P Q e h = refl
max_more (suc at) (suc n) (r ∷ R) P Q e h = ap (λ S. r ∷ S) (max_more at n R P Q (omega arith) (omega arith))

pub max_join : (R Q : List ℕ) → length Q ≤ length R → max_at 0 R Q ≡ join R Q
max_join [] [] h = refl
max_join [] (q ∷ Q) h = absurd (omega arith)
max_join (r ∷ R) [] h = refl
max_join (r ∷ R) (q ∷ Q) h = ap (λ S. max r q ∷ S) (max_join R Q (omega arith))

max_rest : (at : ℕ) (R Q : List ℕ) → at + length Q ≤ length R → take at R ++ join (drop at R) Q ≡ max_at at R Q
max_rest zero R Q h = sym (max_join R Q (omega arith))
max_rest (suc at) [] Q h = absurd (omega arith)
max_rest (suc at) (r ∷ R) Q h = ap (λ S. r ∷ S) (max_rest at R Q (omega arith))

-- one element
pub max_at-one : (at : ℕ) (R : List ℕ) (q : ℕ) → at < length R → set R at (max (get_or R at 0) q) ≡ max_at at R (q ∷ [])
max_at-one zero [] q h = absurd (omega arith)
max_at-one zero (r ∷ R) q h = ap (λ S. max r q ∷ S) (sym (max_none zero R))
max_at-one (suc at) [] q h = absurd (omega arith)
max_at-one (suc at) (r ∷ R) q h = ap (λ S. r ∷ S) (max_at-one at R q (omega arith))

-- the greater of two lanes
pub greater : (x y : ℕ) → cond (top 7 (cond (nat_lt x y) 255 0)) y x ≡ max x y
greater x y = grind (arith, nat_tests)

-- n lanes
pub max_lanes : (at n : ℕ) (R Q : List ℕ) → length Q ≡ n → at + n ≤ length R →
    put_chunk at R (sel_l (map (top 7) (zip2 (λ a b. cond (nat_lt a b) 255 0) (take n (drop at R)) Q)) Q (take n (drop at R))) ≡ max_at at R Q
max_lanes zero zero [] [] e h = refl
max_lanes zero zero (r ∷ R) [] e h = refl
max_lanes zero zero R (q ∷ Q) e h = absurd (omega arith)
max_lanes zero (suc n) R [] e h = absurd (omega arith)
max_lanes zero (suc n) [] (q ∷ Q) e h = absurd (omega arith)
max_lanes zero (suc n) (r ∷ R) (q ∷ Q) e h = λ i. greater r q i ∷ max_lanes zero n R Q (omega arith) (omega arith) i
max_lanes (suc at) n [] Q e h = absurd (omega arith)
max_lanes (suc at) n (r ∷ R) Q e h = ap (λ S. r ∷ S) (max_lanes at n R Q e (omega arith))

-- the part Q after the parts P
pub max_step : (at : ℕ) (R V P Q : List ℕ) → V ≡ max_at 0 R P → at ≡ length P → at ≤ length R → max_at at V Q ≡ max_at 0 R (P ++ Q)
max_step at R V P Q v long room = ap (λ S. max_at at S Q) v ∙ max_more 0 at R P Q (omega arith) room

-- all parts
pub max_all : (R V P : List ℕ) → V ≡ max_at 0 R P → length P ≤ length R → V ≡ join R P
max_all R V P v room = v ∙ max_join R P room

-- a rest that was borrowed to its end
pub max_end : (at k : ℕ) (R V W P Q : List ℕ) → V ≡ max_at 0 R P → at ≡ length P → at + k ≡ length V → length Q ≤ k → W ≡ join (mid_of at k V) Q →
    put_mid at k V W ≡ join R (P ++ Q)
max_end at k R V W P Q v long e room w =
    let same : length V ≡ length R = ap length v ∙ length-max_at 0 R P in
    let borrowed : mid_of at k V ≡ drop at V = take_all k (drop at V) (omega (arith, length-drop at V)) in
    let none : drop k (drop at V) ≡ [] = drop_all k (drop at V) (omega (arith, length-drop at V)) in
    (λ i. take at V ++ ((w ∙ ap (λ S. join S Q) borrowed) i ++ none i)) ∙ ap (λ S. take at V ++ S) (append-nil (join (drop at V) Q))
    ∙ max_rest at V Q (omega arith)
    ∙ max_step at R V P Q v long (omega (arith, same))
    ∙ max_join R (P ++ Q) (omega (arith, same, length-append P Q))

-- ---- written parts

pub put_none : {X : Type 0} (at : ℕ) (R : List X) → put_chunk at R [] ≡ R
put_none zero [] = refl
put_none zero (r ∷ R) = refl
put_none (suc at) [] = refl
put_none (suc at) (r ∷ R) = ap (λ S. r ∷ S) (put_none at R)

-- one more part
pub put_more : {X : Type 0} (at n : ℕ) (R P Q : List X) → n ≡ at + length P → n ≤ length R → put_chunk n (put_chunk at R P) Q ≡ put_chunk at R (P ++ Q)
put_more zero zero R [] Q e h = ap (λ S. put_chunk zero S Q) (put_none zero R)
put_more zero (suc n) R [] Q e h = absurd (omega arith)
put_more zero n [] (p ∷ P) Q e h = absurd (omega arith)
put_more zero zero (r ∷ R) (p ∷ P) Q e h = absurd (omega arith)
put_more zero (suc n) (r ∷ R) (p ∷ P) Q e h = ap (λ S. p ∷ S) (put_more zero n R P Q (omega arith) (omega arith))
put_more (suc at) zero R P Q e h = absurd (omega arith)
put_more (suc at) (suc n) [] P Q e h = refl
put_more (suc at) (suc n) (r ∷ R) P Q e h = ap (λ S. r ∷ S) (put_more at n R P Q (omega arith) (omega arith))

-- one element
pub put_one : {X : Type 0} (at : ℕ) (R : List X) (q : X) → at < length R → set R at q ≡ put_chunk at R (q ∷ [])
put_one zero [] q h = absurd (omega arith)
put_one zero (r ∷ R) q h = ap (λ S. q ∷ S) (sym (put_none zero R))
put_one (suc at) [] q h = absurd (omega arith)
put_one (suc at) (r ∷ R) q h = ap (λ S. r ∷ S) (put_one at R q (omega arith))

-- writing all elements, from the first on
put_whole : {X : Type 0} (R P : List X) → length R ≡ length P → put_chunk 0 R P ≡ P
put_whole [] [] e = refl
put_whole [] (p ∷ P) e = absurd (omega arith)
put_whole (r ∷ R) [] e = absurd (omega arith)
put_whole (r ∷ R) (p ∷ P) e = ap (λ S. p ∷ S) (put_whole R P (omega arith))

-- the prefix that was written
take-put : {X : Type 0} (R P : List X) → length P ≤ length R → take (length P) (put_chunk 0 R P) ≡ P
take-put R [] h = refl
take-put [] (p ∷ P) h = absurd (omega arith)
take-put (r ∷ R) (p ∷ P) h = ap (λ S. p ∷ S) (take-put R P (omega arith))

-- the rest after the prefix
drop-put : {X : Type 0} (R P : List X) → drop (length P) (put_chunk 0 R P) ≡ drop (length P) R
drop-put [] [] = refl
drop-put (r ∷ R) [] = refl
drop-put [] (p ∷ P) = refl
drop-put (r ∷ R) (p ∷ P) = drop-put R P

-- the part Q after the parts P
pub put_step : {X : Type 0} (at : ℕ) (R V P Q : List X) → V ≡ put_chunk 0 R P → at ≡ length P → at ≤ length R → put_chunk at V Q ≡ put_chunk 0 R (P ++ Q)
put_step at R V P Q v long room = ap (λ S. put_chunk at S Q) v ∙ put_more 0 at R P Q (omega arith) room

-- what is not yet written is unchanged
pub put_left : {X : Type 0} (at : ℕ) (R V P : List X) → V ≡ put_chunk 0 R P → at ≡ length P → drop at V ≡ drop at R
put_left at R V P v long = (λ i. drop (long i) (v i)) ∙ drop-put R P ∙ ap (λ n. drop n R) (sym long)

-- all parts
pub put_all : {X : Type 0} (R V P : List X) → V ≡ put_chunk 0 R P → length R ≡ length P → V ≡ P
put_all R V P v e = v ∙ put_whole R P e

-- a rest that was borrowed to its end
pub put_end : {X : Type 0} (at k : ℕ) (R V W P : List X) → V ≡ put_chunk 0 R P → at ≡ length P → at + k ≡ length V → put_mid at k V W ≡ P ++ W
put_end at k R V W P v long e =
    let same : length V ≡ length R = ap length v ∙ length-put_chunk 0 R P in
    let none : drop k (drop at V) ≡ [] = drop_all k (drop at V) (omega (arith, length-drop at V)) in
    let front : take at V ≡ P = (λ i. take (long i) (v i)) ∙ take-put R P (omega (arith, same)) in
    (λ i. front i ++ (W ++ none i)) ∙ ap (λ S. P ++ S) (append-nil W)

-- a part that was borrowed and written whole
pub put_mid-whole : {X : Type 0} (at k : ℕ) (V W : List X) → length W ≡ k → at + k ≤ length V → put_mid at k V W ≡ put_chunk at V W
put_mid-whole zero zero [] [] e h = refl
put_mid-whole zero zero (v ∷ V) [] e h = refl
put_mid-whole zero zero V (w ∷ W) e h = absurd (omega arith)
put_mid-whole zero (suc k) V [] e h = absurd (omega arith)
put_mid-whole zero (suc k) [] (w ∷ W) e h = absurd (omega arith)
put_mid-whole zero (suc k) (v ∷ V) (w ∷ W) e h = ap (λ S. w ∷ S) (put_mid-whole zero k V W (omega arith) (omega arith))
put_mid-whole (suc at) k [] W e h = absurd (omega arith)
put_mid-whole (suc at) k (v ∷ V) W e h = ap (λ S. v ∷ S) (put_mid-whole at k V W e (omega arith))
