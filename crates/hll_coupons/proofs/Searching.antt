-- SPDX-License-Identifier: Apache-2.0
-- Searches by a key along their paths: what they find, and that entries are still found after another is put.
use Rattle.std.proofs.Common.{◌≡◌, ℕ, ◌+◌, ◌*◌, ◌/◌, ◌%◌, ◌^◌, ◌<◌, List, [], ◌∷◌, ◌++◌, length, get_or, set, refl, sym, ap, ◌∙◌, subst, arith, inl, inr}
use Rattle.std.specs.Prelude.{bit_or}
use Rattle.std.proofs.lemmas.Bool.{cases_lt, cases_eq, cases_order}
use Rattle.std.proofs.lemmas.Nat.{pow_pos, mod_below, or_mod}
use Rattle.std.proofs.lemmas.List.{length-set, length-replicate, get_or-set_same, get_or-set_other, get_or-replicate}
use Rattle.std.proofs.Math.Nat.{div-add-mod, add-mul-mod_self_left}
use Rattle.std.specs.Prelude.{replicate}
use Rattle.hll_coupons.specs.Pair.{slot_of}
use Rattle.hll_coupons.specs.Probe.{bucket_of, stride_of, Passes, IsFirstFor, IsProbed, Puts, present, placed, PutsEach}
use Rattle.hll_coupons.specs.Laws.{FoundAfterInsert, AbsentAtEmpty, AbsentFromFull, KeysAreDistinct}
use Rattle.hll_coupons.proofs.Probing.{meets, path_at}

-- the stride is odd
odd_cases : (n : ℕ) → bit_or (n % 2) 1 ≡ 1
odd_cases n = elim (cases_lt (n % 2) 1) [
  | inl l ↦ let z : n % 2 ≡ 0 = omega arith in ap (λ m. bit_or m 1) z
  | inr g ↦ let o : n % 2 ≡ 1 = omega arith in ap (λ m. bit_or m 1) o
]

pub odd-stride_of : (lg key : ℕ) → stride_of lg key % 2 ≡ 1
odd-stride_of lg key = or_mod (slot_of key / 2 ^ lg) 1 1 ∙ odd_cases (slot_of key / 2 ^ lg)

-- the i-th bucket of a path, as a number
pub bucket_of-path : (lg key i : ℕ) → i < 2 ^ lg → bucket_of lg key i ≡ (key + i * stride_of lg key) % 2 ^ lg
bucket_of-path lg key i h = path_at key (stride_of lg key) lg i h

pub bucket_of_below : (lg key i : ℕ) → i < 2 ^ lg → bucket_of lg key i < 2 ^ lg
bucket_of_below lg key i h = omega (arith, bucket_of-path lg key i h, mod_below (key + i * stride_of lg key) (2 ^ lg) (pow_pos lg))

pub absent_at_empty : AbsentAtEmpty
absent_at_empty key_of lg buckets key i t before empty p within full is =
    let f : IsFirstFor key_of lg buckets (key_of (get_or buckets p 0)) p = t.found p within full in
    let bucket : bucket_of lg key f.index ≡ p = ap (λ k. bucket_of lg k f.index) (sym is) ∙ f.at in
    elim (cases_order f.index i) [
      | inl e ↦ full (ap (λ q. get_or buckets q 0) (sym bucket ∙ ap (bucket_of lg key) e) ∙ empty)
      | inr d ↦ elim d [
        | inl earlier ↦ (before f.index earlier).1 (ap (λ q. key_of (get_or buckets q 0)) bucket ∙ is)
        | inr later ↦ (f.passes i later).0 (ap (λ k. get_or buckets (bucket_of lg k i) 0) is ∙ empty)
      ]
    ]

pub absent_from_full : AbsentFromFull
absent_from_full key_of lg buckets key size before p within full is =
    let m = meets key (stride_of lg key) lg p (odd-stride_of lg key) (omega (arith, within, size)) in
    (before m.0 m.1).1 (ap (λ q. key_of (get_or buckets q 0)) (bucket_of-path lg key m.0 m.1 ∙ m.2) ∙ is)

pub keys_are_distinct : KeysAreDistinct
keys_are_distinct key_of lg buckets p q t hp hq fp fq same =
    let f : IsFirstFor key_of lg buckets (key_of (get_or buckets p 0)) p = t.found p hp fp in
    let g : IsFirstFor key_of lg buckets (key_of (get_or buckets q 0)) q = t.found q hq fq in
    let bucket : bucket_of lg (key_of (get_or buckets q 0)) f.index ≡ p = ap (λ k. bucket_of lg k f.index) (sym same) ∙ f.at in
    elim (cases_order f.index g.index) [
      | inl e ↦ sym bucket ∙ ap (bucket_of lg (key_of (get_or buckets q 0))) e ∙ g.at
      | inr d ↦ elim d [
        | inl earlier ↦ absurd ((g.passes f.index earlier).1 (ap (λ z. key_of (get_or buckets z 0)) bucket ∙ same))
        | inr later ↦ absurd ((f.passes g.index later).1 (ap (λ k. key_of (get_or buckets (bucket_of lg k g.index) 0)) same ∙ ap (λ z. key_of (get_or buckets z 0)) g.at ∙ sym same))
      ]
    ]

pub found_after_insert : FoundAfterInsert
found_after_insert key_of lg buckets entry i t filled within before empty = record {
  size = length-set buckets spot entry ∙ t.size;
  found = λ p h full. elim (cases_eq p spot) [
    | inl e ↦
        let is : get_or new p 0 ≡ entry = ap (λ q. get_or new q 0) e ∙ get_or-set_same buckets spot entry 0 spot_within in
        subst (λ w. IsFirstFor key_of lg new (key_of w) p) (sym is) (record { index = i; within = within; at = sym e; passes = carried (key_of entry) i before })
    | inr other ↦
        let same : get_or new p 0 ≡ get_or buckets p 0 = kept p other in
        let f : IsFirstFor key_of lg buckets (key_of (get_or buckets p 0)) p = t.found p (omega (arith, h, length-set buckets spot entry)) (λ z. full (same ∙ z)) in
        subst (λ w. IsFirstFor key_of lg new (key_of w) p) (sym same)
        (record { index = f.index; within = f.within; at = f.at; passes = carried (key_of (get_or buckets p 0)) f.index f.passes })
  ];
}
  where
    spot : ℕ
    spot = bucket_of lg (key_of entry) i

    new : List ℕ
    new = set buckets spot entry

    spot_within : spot < length buckets
    spot_within = omega (arith, bucket_of_below lg (key_of entry) i within, t.size)

    kept : (p : ℕ) → (p ≡ spot → ⊥) → get_or new p 0 ≡ get_or buckets p 0
    kept p o = get_or-set_other buckets spot p entry 0 o

    carried : (key n : ℕ) → Passes key_of lg buckets key n → Passes key_of lg new key n
    carried key n passes j l =
        let there : get_or new (bucket_of lg key j) 0 ≡ get_or buckets (bucket_of lg key j) 0 = kept (bucket_of lg key j) (λ s. (passes j l).0 (ap (λ q. get_or buckets q 0) s ∙ empty)) in
        (λ z. (passes j l).0 (sym there ∙ z), λ z. (passes j l).1 (ap key_of (sym there) ∙ z))

-- one stride further on the path
pub next_bucket : (lg start stride i : ℕ) → ((start + i * stride) % 2 ^ lg + stride) % 2 ^ lg ≡ (start + (i + 1) * stride) % 2 ^ lg
next_bucket lg start stride i =
    let a : ℕ = start + i * stride in
    let whole : start + (i + 1) * stride ≡ a % 2 ^ lg + stride + 2 ^ lg * (a / 2 ^ lg) = omega (arith, div-add-mod a (2 ^ lg)) in
    sym (ap (λ m. m % 2 ^ lg) whole ∙ add-mul-mod_self_left (a % 2 ^ lg + stride) (2 ^ lg) (a / 2 ^ lg))

-- in an empty table each entry is found
pub IsProbed-empty : (key_of : ℕ → ℕ) (lg : ℕ) → IsProbed key_of lg (replicate (2 ^ lg) 0)
IsProbed-empty key_of lg = record {
  size = length-replicate {A = ℕ} (2 ^ lg) 0;
  found = λ p h full. absurd (full (get_or-replicate (2 ^ lg) p 0 0 (omega (arith, h, length-replicate {A = ℕ} (2 ^ lg) 0))));
}

-- each entry is still found after one was put
pub IsProbed-puts : (key_of : ℕ → ℕ) (lg : ℕ) (buckets : List ℕ) (entry : ℕ) (new : List ℕ) → IsProbed key_of lg buckets → (entry ≡ 0 → ⊥) →
    Puts key_of lg buckets entry new → IsProbed key_of lg new
IsProbed-puts key_of lg buckets entry new t filled (present p first full same is) = subst (IsProbed key_of lg) (sym is) t
IsProbed-puts key_of lg buckets entry new t filled (placed p first empty is) =
    subst (IsProbed key_of lg) (ap (λ q. set buckets q entry) first.at ∙ sym is)
    (found_after_insert key_of lg buckets entry first.index t filled first.within first.passes (ap (λ q. get_or buckets q 0) first.at ∙ empty))

-- one more entry is put after others
pub PutsEach-push : (key_of : ℕ → ℕ) (lg : ℕ) (buckets xs between : List ℕ) (entry : ℕ) (new : List ℕ) → PutsEach key_of lg buckets xs between →
    Puts key_of lg between entry new → PutsEach key_of lg buckets (xs ++ entry ∷ []) new
PutsEach-push key_of lg buckets [] between entry new e p = (new, subst (λ ps. Puts key_of lg ps entry new) e p, refl)
PutsEach-push key_of lg buckets (x ∷ xs) between entry new (b, q, rest) p = (b, q, PutsEach-push key_of lg b xs between entry new rest p)
