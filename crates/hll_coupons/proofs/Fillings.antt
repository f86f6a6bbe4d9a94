-- SPDX-License-Identifier: Apache-2.0
-- Several cycles: after another one is made, the cycle of a given stride, and after a bucket is filled in each.
use Rattle.std.proofs.Common.{◌≡◌, ℕ, zero, suc, ◌+◌, ◌^◌, ◌<◌, ◌≤◌, List, [], ◌∷◌, ◌++◌, All, length, get_or, set, refl, sym, ap, subst, ◌∙◌, arith, inl, inr}
use Rattle.std.proofs.lemmas.Bool.{cases_eq}
use Rattle.std.proofs.lemmas.List.{get_or-set_same, get_or-set_other, get_or_default}
use Rattle.std.proofs.lemmas.List.Elements.{All-append}
use Rattle.hll_coupons.specs.declared.cycle.Cycle.{Cycle}
use Rattle.hll_coupons.specs.Probe.{stride_of, IsAbsent, EndsAt}
use Rattle.hll_coupons.specs.Cycle.{IsFor, EndsForAbsent, IsFilled, AreFilled}

-- the bucket is filled in the cycles so far, and the others are as they were
pub record FilledSoFar {A : Type 0} (bucket index : ℕ) (old new : List (Cycle A)) : Type 0 where
  pub filled : (i : ℕ) (c : Cycle A) → i < index → IsFilled (get_or old i c) bucket (get_or new i c)
  pub others : (i : ℕ) (c : Cycle A) → index ≤ i → get_or new i c ≡ get_or old i c

pub filled_none : {A : Type 0} (bucket : ℕ) (old : List (Cycle A)) → FilledSoFar bucket 0 old old
filled_none {A} bucket old = record { filled = λ i c l. absurd (omega arith); others = λ i c l. refl }

module _ {A : Type 0} (bucket index : ℕ) (old new : List (Cycle A)) (so : FilledSoFar bucket index old new) (size : length new ≡ length old) (left : index < length old) (d : Cycle A) where
  -- the next cycle is still unchanged
  next_is : (c : Cycle A) → get_or new index d ≡ get_or old index c
  next_is c = so.others index d (omega arith) ∙ get_or_default old index d c left

  -- what holds for each cycle holds for the next
  pub next_of : (P : Cycle A → Type 0) → All P old → P (get_or new index d)
  next_of P all = subst P (sym (next_is d)) (all index d left)

  pub filled_more : (after : Cycle A) → IsFilled (get_or new index d) bucket after → FilledSoFar bucket (index + 1) old (set new index after)
  filled_more after one = record {
    filled = λ i c l. elim (cases_eq i index) [
      | inl e ↦
          let there : get_or (set new index after) i c ≡ after = ap (λ k. get_or (set new index after) k c) e ∙ get_or-set_same new index after c (omega (arith, size, left)) in
          let before : get_or old i c ≡ get_or new index d = ap (λ k. get_or old k c) e ∙ sym (next_is c) in
          subst (λ n. IsFilled (get_or old i c) bucket n) (sym there) (subst (λ o. IsFilled o bucket after) (sym before) one)
      | inr o ↦
          subst (λ n. IsFilled (get_or old i c) bucket n) (sym (get_or-set_other new index i after c o)) (so.filled i c (omega (arith, o)))
    ];
    others = λ i c l.
        let apart : i ≡ index → ⊥ = λ e. omega arith in
        get_or-set_other new index i after c apart ∙ so.others i c (omega arith);
  }

pub filled_all : {A : Type 0} (bucket index : ℕ) (old new : List (Cycle A)) → FilledSoFar bucket index old new → length new ≡ length old → length old ≤ index → AreFilled old bucket new
filled_all {A} bucket index old new so size done = record { count = size; each = λ i c l. so.filled i c (omega (arith, done)) }

-- each cycle is one through the buckets after one is filled
pub filled_for : {A : Type 0} (lg bucket entry : ℕ) (buckets : List ℕ) (old new : List (Cycle A)) → AreFilled old bucket new → length buckets ≡ 2 ^ lg → (entry ≡ 0 → ⊥) → All (IsFor lg buckets) old →
    All (IsFor lg (set buckets bucket entry)) new
filled_for {A} lg bucket entry buckets old new f size some all i c l =
    let before : i < length old = omega (arith, l, f.count) in
    let was : IsFor lg buckets (get_or old i c) = all i c before in
    let is : IsFilled (get_or old i c) bucket (get_or new i c) = f.each i c before in
    record {
      sound = is.sound;
      size = is.size ∙ was.size;
      shows = is.fills buckets entry (size ∙ ap (λ n. 2 ^ n) (sym was.size)) some was.shows;
    }

-- one more element
pub one_more : {X : Type 0} (P : X → Type 0) (xs : List X) (x : X) → All P xs → P x → All P (xs ++ x ∷ [])
one_more {X} P xs x all one = All-append P xs (x ∷ []) all last
  where
    last : All P (x ∷ [])
    last zero d l = one
    last (suc i) d l = absurd (omega arith)

-- the cycle of the key's stride says where its search ends
pub ends_by : {A : Type 0} (lg key bucket i : ℕ) (cycles : List (Cycle A)) (known : Cycle A) → i < length cycles → known ≡ get_or cycles i known → known.stride ≡ stride_of lg key → EndsForAbsent known key bucket →
    (key_of : ℕ → ℕ) (buckets : List ℕ) → length buckets ≡ 2 ^ lg → All (IsFor lg buckets) cycles → IsAbsent key_of buckets key → EndsAt key_of lg buckets key bucket
ends_by {A} lg key bucket i cycles known inside is stride ends key_of buckets size all none =
    let f : IsFor lg buckets known = subst (IsFor lg buckets) (sym is) (all i known inside) in
    subst (λ n. EndsAt key_of n buckets key bucket) f.size
    (ends key_of buckets (size ∙ ap (λ n. 2 ^ n) (sym f.size)) f.shows (stride ∙ ap (λ n. stride_of n key) (sym f.size)) none)
