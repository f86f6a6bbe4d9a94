-- SPDX-License-Identifier: Apache-2.0
-- The registers above 0 that coupons fold to, from sorted keys: at each slot the first key has the greatest value.
use Rattle.std.proofs.Common.{◌≡◌, ℕ, zero, suc, ◌+◌, ◌-◌, ◌*◌, ◌%◌, ◌/◌, ◌^◌, ◌<◌, ◌≤◌, cond, eqb, eqb-true, leb, List, [], ◌∷◌, ◌++◌, length, map, get_or, All, refl, sym, ap, subst, ◌∙◌, arith, inl, inr}
use Rattle.std.specs.Prelude.{max}
use Rattle.std.specs.List.{range_with_len}
use Rattle.std.specs.List.Sorted.{IsPermutation, IsNonDecreasing}
use Rattle.std.specs.FinSet.{items}
use Rattle.std.proofs.lemmas.Bool.{cond-true, cond-false, eq-eqb, ne_eqb, cases_Bool, cases_lt, le-leb, lt-leb}
use Rattle.std.proofs.lemmas.List.Sorted.{All-permutation}
use Rattle.std.proofs.lemmas.Nat.{pow_pos, mod_below}
use Rattle.hll_coupons.specs.Fold.{fold_to, greatest, value_at, raw_coupons_from}
use Rattle.hll_coupons.specs.Pair.{set_of, slot_of, value_of, pair}
use Rattle.hll_coupons.proofs.Ascending.{set_of-permutation}
use Rattle.hll_coupons.proofs.Greatest.{greatest-set_of}
use Rattle.hll_coupons.proofs.Registers.{value_at_cases}
use Rattle.hll_images.specs.Keys.{slot_of_key, value_of_key, value_in_key, IsKey, registers_of_keys}

-- ---- keys in ascending order

-- no key is below q
abbrev AllFrom : ℕ → List ℕ → Type 0
AllFrom q [] = Unit {0}
AllFrom q (p ∷ ps) = (q ≤ p) × AllFrom q ps

-- no key is above one that follows, and each is a key of one of the first `most` slots
abbrev pub AreUp : ℕ → List ℕ → Type 0
AreUp most [] = Unit {0}
AreUp most (q ∷ qs) = (slot_of_key q < most) × (1 ≤ value_of_key q) × AllFrom q qs × AreUp most qs

all_from : (q : ℕ) (qs : List ℕ) → ((i : ℕ) → i < length qs → q ≤ get_or qs i 0) → AllFrom q qs
all_from q [] h = tt
all_from q (p ∷ ps) h = (h 0 (omega arith), all_from q ps (λ i l. h (suc i) (omega (arith, l))))

pub are_up : (k : ℕ) (qs : List ℕ) → IsNonDecreasing qs → ((i : ℕ) → i < length qs → IsKey k (get_or qs i 0)) → AreUp (2 ^ k) qs
are_up k [] up keys = tt
are_up k (q ∷ qs) up keys =
    let first : IsKey k q = keys 0 (omega arith) in (
      first.slot,
      first.value,
      all_from q qs (λ i l. up 0 (suc i) 0 (omega arith) (omega (arith, l))),
      are_up k qs (λ i j d le l. up (suc i) (suc j) d (omega (arith, le)) (omega (arith, l))) (λ i l. keys (suc i) (omega (arith, l))),
    )

-- ---- the greatest value at a slot

-- keys of later slots have none
none_at : (s q : ℕ) (qs : List ℕ) → s < slot_of_key q → AllFrom q qs → greatest (value_in_key s) qs ≡ 0
none_at s q [] below from = refl
none_at s q (p ∷ ps) below from =
    let other : slot_of_key p ≡ s → ⊥ = λ e. omega (arith, e, below, from.0) in
    ap (λ v. max v (greatest (value_in_key s) ps)) (cond-false (eqb (p / 64) s) (63 - p % 64) 0 (ne_eqb (p / 64) s other)) ∙ (let e : max 0 (greatest (value_in_key s) ps) ≡ greatest (value_in_key s) ps = omega arith in e) ∙ none_at s q ps below from.1

-- keys from q on have no greater value at its slot
most_at : (q : ℕ) (qs : List ℕ) → AllFrom q qs → greatest (value_in_key (slot_of_key q)) qs ≤ value_of_key q
most_at q [] from = omega arith
most_at q (p ∷ ps) from =
    let rest : greatest (value_in_key (slot_of_key q)) ps ≤ value_of_key q = most_at q ps from.1 in
    let one : value_in_key (slot_of_key q) p ≤ value_of_key q = elim (cases_Bool (eqb (p / 64) (q / 64))) [
      | inl same ↦
          let slot : p / 64 ≡ q / 64 = eqb-true (p / 64) (q / 64) same in
          let is : value_in_key (slot_of_key q) p ≡ 63 - p % 64 = cond-true (eqb (p / 64) (q / 64)) (63 - p % 64) 0 same in
          let low : q % 64 ≤ p % 64 = omega (arith, slot, from.0) in
          omega (arith, is, low)
      | inr other ↦ let is : value_in_key (slot_of_key q) p ≡ 0 = cond-false (eqb (p / 64) (q / 64)) (63 - p % 64) 0 other in omega (arith, is)
    ] in
    omega (arith, rest, one)

-- ---- the first key of each slot, from slot n on

abbrev pub firsts : ℕ → List ℕ → List ℕ
firsts n [] = []
firsts n (q ∷ qs) = cond (leb n (slot_of_key q)) (pair (slot_of_key q) (value_of_key q) ∷ firsts (slot_of_key q + 1) qs) (firsts n qs)

-- the registers of keys, at m slots from slot n on
abbrev registers_at : ℕ → ℕ → List ℕ → List ℕ
registers_at n m qs = map (λ s. greatest (value_in_key s) qs) (range_with_len n m)

same_map : (f g : ℕ → ℕ) (n m : ℕ) → ((s : ℕ) → n ≤ s → s < n + m → f s ≡ g s) → map f (range_with_len n m) ≡ map g (range_with_len n m)
same_map f g n zero same = refl
same_map f g n (suc m) same =
    λ i. same n (omega arith) (omega arith) i ∷ same_map f g (n + 1) m (λ s l h. same s (omega (arith, l)) (omega (arith, h))) i

zeros : (n m a : ℕ) → raw_coupons_from a (registers_at n m []) ≡ []
zeros n zero a = refl
zeros n (suc m) a = zeros (n + 1) m (a + 1)

-- a key of a slot before n counts for none
later : (n m q : ℕ) (qs : List ℕ) → slot_of_key q < n → registers_at n m (q ∷ qs) ≡ registers_at n m qs
later n m q qs before = same_map (λ s. greatest (value_in_key s) (q ∷ qs)) (λ s. greatest (value_in_key s) qs) n m (λ s l h.
    let other : q / 64 ≡ s → ⊥ = λ e. omega (arith, e, l, before) in
    ap (λ v. max v (greatest (value_in_key s) qs)) (cond-false (eqb (q / 64) s) (63 - q % 64) 0 (ne_eqb (q / 64) s other)) ∙ (let e : max 0 (greatest (value_in_key s) qs) ≡ greatest (value_in_key s) qs = omega arith in e))

skipped : (n q : ℕ) (qs : List ℕ) → slot_of_key q < n → firsts n (q ∷ qs) ≡ firsts n qs
skipped n q qs before = cond-false (leb n (q / 64)) _ (firsts n qs) (lt-leb n (q / 64) before)

found : (n q : ℕ) (qs : List ℕ) → n ≤ slot_of_key q → firsts n (q ∷ qs) ≡ pair (slot_of_key q) (value_of_key q) ∷ firsts (slot_of_key q + 1) qs
found n q qs from = cond-true (leb n (q / 64)) _ (firsts n qs) (le-leb n (q / 64) from)

-- one register of 0, or of more
passed : (n r : ℕ) (R : List ℕ) → r ≡ 0 → raw_coupons_from n (r ∷ R) ≡ raw_coupons_from (n + 1) R
passed n r R none = cond-true (eqb r 0) (raw_coupons_from (n + 1) R) (pair n r ∷ raw_coupons_from (n + 1) R) (eq-eqb r 0 none)

kept : (n r : ℕ) (R : List ℕ) → 1 ≤ r → raw_coupons_from n (r ∷ R) ≡ pair n r ∷ raw_coupons_from (n + 1) R
kept n r R some = cond-false (eqb r 0) (raw_coupons_from (n + 1) R) (pair n r ∷ raw_coupons_from (n + 1) R) (ne_eqb r 0 (λ e. omega (arith, e, some)))

-- the first keys from slot n on are the registers above 0
abbrev AreFirsts : ℕ → Type 0
AreFirsts m = (n : ℕ) (qs : List ℕ) → AreUp (n + m) qs → firsts n qs ≡ raw_coupons_from n (registers_at n m qs)

one_more : (m : ℕ) → AreFirsts m → AreFirsts (suc m)
one_more m rest n [] up = sym (zeros n (suc m) n)
one_more m rest n (q ∷ qs) up = elim (cases_lt (slot_of_key q) n) [
  | inl before ↦ skipped n q qs before ∙ one_more m rest n qs up.3 ∙ ap (raw_coupons_from n) (sym (later n (suc m) q qs before))
  | inr from ↦ elim (cases_lt n (slot_of_key q)) [
    | inl after ↦
        let on : n + suc m ≡ n + 1 + m = omega arith in
        let none : greatest (value_in_key n) (q ∷ qs) ≡ 0 = none_at n q (q ∷ qs) after (omega arith, up.2) in
        found n q qs (omega (arith, from)) ∙ sym (found (n + 1) q qs (omega (arith, after)))
        ∙ rest (n + 1) (q ∷ qs) (subst (λ most. AreUp most (q ∷ qs)) on up)
        ∙ sym (passed n (greatest (value_in_key n) (q ∷ qs)) (registers_at (n + 1) m (q ∷ qs)) none)
    | inr here ↦
        let is : slot_of_key q ≡ n = omega (arith, from, here) in
        let on : n + suc m ≡ n + 1 + m = omega arith in
        let own : value_in_key n q ≡ value_of_key q = cond-true (eqb (q / 64) n) (63 - q % 64) 0 (eq-eqb (q / 64) n is) in
        let others : greatest (value_in_key n) qs ≤ value_of_key q = subst (λ s. greatest (value_in_key s) qs ≤ value_of_key q) is (most_at q qs up.2) in
        let best : greatest (value_in_key n) (q ∷ qs) ≡ value_of_key q = omega (arith, own, others) in
        found n q qs (omega (arith, from)) ∙ ap (λ s. pair s (value_of_key q) ∷ firsts (s + 1) qs) is
        ∙ ap (λ (cs : List ℕ). pair n (value_of_key q) ∷ cs) (rest (n + 1) qs (subst (λ most. AreUp most qs) on up.3) ∙ ap (raw_coupons_from (n + 1)) (sym (later (n + 1) m q qs (omega (arith, is)))))
        ∙ sym (kept n (value_of_key q) (registers_at (n + 1) m (q ∷ qs)) up.1)
        ∙ ap (λ r. raw_coupons_from n (r ∷ registers_at (n + 1) m (q ∷ qs))) (sym best)
  ]
]

no_more : AreFirsts zero
no_more n [] up = refl
no_more n (q ∷ qs) up = skipped n q qs (omega (arith, up.0)) ∙ no_more n qs up.3

are_firsts : (m : ℕ) → AreFirsts m
are_firsts zero = no_more
are_firsts (suc m) = one_more m (are_firsts m)

-- the first keys of sorted keys are the registers above 0
pub nonzero : (k : ℕ) (sorted : List ℕ) → AreUp (2 ^ k) sorted → firsts 0 sorted ≡ raw_coupons_from 0 (registers_of_keys k sorted)
nonzero k sorted up = let from : 2 ^ k ≡ 0 + 2 ^ k = omega arith in are_firsts (2 ^ k) 0 sorted (subst (λ most. AreUp most sorted) from up)

-- in any order, keys have the same registers
pub registers_of_permutation : (k : ℕ) (keys moved : List ℕ) → IsPermutation keys moved → registers_of_keys k moved ≡ registers_of_keys k keys
registers_of_permutation k keys moved is = same_map (λ s. greatest (value_in_key s) moved) (λ s. greatest (value_in_key s) keys) 0 (2 ^ k) (λ s l h.
    greatest-set_of (value_in_key s) moved ∙ ap (λ S. greatest (value_in_key s) (items S)) (set_of-permutation keys moved is) ∙ sym (greatest-set_of (value_in_key s) keys))

-- keys with the values of coupons have the registers that the coupons fold to
pub registers_of_coupons : (k : ℕ) (raws keys : List ℕ) → ((s : ℕ) → s < 2 ^ k → greatest (value_at k s) raws ≡ greatest (value_in_key s) keys) → fold_to (set_of raws) k ≡ registers_of_keys k keys
registers_of_coupons k raws keys same = same_map (λ s. greatest (value_at k s) (items (set_of raws))) (λ s. greatest (value_in_key s) keys) 0 (2 ^ k) (λ s l h.
    sym (greatest-set_of (value_at k s) raws) ∙ same s (omega (arith, h)))

-- one coupon more, and its key
pub value_of_one : (k s raw key : ℕ) → value_of raw ≤ 63 → key ≡ slot_of raw % 2 ^ k * 64 + (63 - value_of raw) → value_at k s raw ≡ value_in_key s key
value_of_one k s raw key small is =
    let slot : key / 64 ≡ slot_of raw % 2 ^ k = omega (arith, is) in
    let value : 63 - key % 64 ≡ value_of raw = omega (arith, is, small) in
    λ i. cond (eqb (sym slot i) s) (sym value i) 0

greatest-push : (f : ℕ → ℕ) (cs : List ℕ) (c : ℕ) → greatest f (cs ++ c ∷ []) ≡ max (greatest f cs) (f c)
greatest-push f [] c = omega arith
greatest-push f (d ∷ cs) c = ap (max (f d)) (greatest-push f cs c) ∙ omega arith

pub values_with_key : (k s : ℕ) (raws keys : List ℕ) (raw key : ℕ) → greatest (value_at k s) raws ≡ greatest (value_in_key s) keys → value_at k s raw ≡ value_in_key s key
    → greatest (value_at k s) (raws ++ raw ∷ []) ≡ greatest (value_in_key s) (keys ++ key ∷ [])
values_with_key k s raws keys raw key before one =
    greatest-push (value_at k s) raws raw ∙ (λ i. max (before i) (one i)) ∙ sym (greatest-push (value_in_key s) keys key)

pub values_without : (k s : ℕ) (raws keys : List ℕ) (raw : ℕ) → greatest (value_at k s) raws ≡ greatest (value_in_key s) keys → value_of raw ≡ 0
    → greatest (value_at k s) (raws ++ raw ∷ []) ≡ greatest (value_in_key s) keys
values_without k s raws keys raw before none =
    let one : value_at k s raw ≤ 0 = elim (value_at_cases k s raw) [ inl z ↦ omega (arith, z) | inr h ↦ omega (arith, h.1, none) ] in
    greatest-push (value_at k s) raws raw ∙ omega (arith, before, one)

pub key_is : (k raw key : ℕ) → value_of raw ≤ 63 → 1 ≤ value_of raw → key ≡ slot_of raw % 2 ^ k * 64 + (63 - value_of raw) → IsKey k key
key_is k raw key small some is =
    let slot : key / 64 ≡ slot_of raw % 2 ^ k = omega (arith, is) in
    record { slot = omega (arith, slot, mod_below (slot_of raw) (2 ^ k) (pow_pos k)); value = omega (arith, is, small, some) }

pub keys_of_permutation : (k : ℕ) (keys moved : List ℕ) → IsPermutation keys moved → All (IsKey k) keys → All (IsKey k) moved
keys_of_permutation k keys moved is all = All-permutation (IsKey k) keys moved is all
