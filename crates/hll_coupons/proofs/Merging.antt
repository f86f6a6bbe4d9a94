-- SPDX-License-Identifier: Apache-2.0
-- Merging two ascending lists into one.
use Rattle.std.proofs.Common.{◌≡◌, ℕ, zero, suc, ◌+◌, ◌-◌, ◌*◌, ◌/◌, ◌<◌, ◌≤◌, Bool, true, false, ◌||◌, cond, nat_eq, List, [], ◌∷◌, ◌++◌, length, take, drop, get_or, refl, sym, ap, subst, ◌∙◌, ◌↔◌, inl, inr, arith, append_assoc}
use Rattle.std.specs.Cmp.{nat_cmp_total}
use Rattle.std.specs.Int.{w32, from_le_bytes, to_le_bytes}
use Rattle.std.specs.FinSet.{contains, union, same_set, nat_cmp-IsAntisymmetric, contains-union, contains-from_list_nat}
use Rattle.std.specs.List.{list_any}
use Rattle.std.specs.List.Sorted.{IsStrictlyIncreasing}
use Rattle.std.proofs.lemmas.Bool.{eqb-true, eq-eqb, ne_eqb, true≢false}
use Rattle.std.proofs.lemmas.List.{append-nil}
use Rattle.std.proofs.lemmas.List.Folds.{list_any-append}
use Rattle.hll_coupons.specs.Ascending.{without_first, IsLeastFirst}
use Rattle.hll_coupons.specs.Coupons.{coupon_bytes, raw_coupons, IsAscending, WritesAscending}
use Rattle.hll_coupons.specs.Pair.{set_of}
use Rattle.hll_coupons.proofs.Payloads.{length-coupon_bytes}
use Rattle.std.proofs.lemmas.Nat.{le_bytes_4}

pub length-raw_coupons : (n : ℕ) (b : List ℕ) → length (raw_coupons n b) ≡ n
length-raw_coupons zero b = refl
length-raw_coupons (suc n) b = omega (arith, length-raw_coupons n (drop 4 b))

-- ---- without the first

-- raw coupons without the first one, if it is this number
pub raw_coupons_without : (n w : ℕ) (b : List ℕ) → raw_coupons n b ≡ w ∷ drop 1 (raw_coupons n b) → raw_coupons (n - 1) (drop 4 b) ≡ without_first w (raw_coupons n b)
raw_coupons_without zero w b e = absurd (cc)
raw_coupons_without (suc n) w b e =
    let same : nat_eq (from_le_bytes w32 b) w ≡ true = eq-eqb (from_le_bytes w32 b) w (ap (λ xs. get_or xs 0 0) e) in
    let one : suc n - 1 ≡ n = omega arith in
    ap (λ m. raw_coupons m (drop 4 b)) one ∙ sym (ap (λ t. cond t (raw_coupons n (drop 4 b)) (raw_coupons (suc n) b)) same)

pub without_other : (w : ℕ) (xs : List ℕ) → (xs ≡ w ∷ drop 1 xs → ⊥) → xs ≡ without_first w xs
without_other w [] other = refl
without_other w (x ∷ xs) other = sym (ap (λ t. cond t xs (x ∷ xs)) (ne_eqb x w (λ e. other (ap (λ y. y ∷ xs) e))))

-- ---- what ascends

-- an increasing list with one more number before it
pub increasing_more : (a b : ℕ) (xs : List ℕ) → IsStrictlyIncreasing (a ∷ b ∷ xs) ↔ ((a < b) × IsStrictlyIncreasing (b ∷ xs))
increasing_more a b xs = (λ up. (up 0 (omega arith), λ k within. after up k within), λ parts k within. both parts k within)
  where
    after : IsStrictlyIncreasing (a ∷ b ∷ xs) → IsStrictlyIncreasing (b ∷ xs)
    after up k within = let e : suc k + 1 ≡ suc (k + 1) = omega arith in subst (λ n. get_or (b ∷ xs) k 0 < get_or (a ∷ b ∷ xs) n 0) e (up (suc k) (omega (arith, within)))

    both : (a < b) × IsStrictlyIncreasing (b ∷ xs) → IsStrictlyIncreasing (a ∷ b ∷ xs)
    both parts zero within = parts.0
    both parts (suc k) within = let e : suc (k + 1) ≡ suc k + 1 = omega arith in subst (λ n. get_or (b ∷ xs) k 0 < get_or (a ∷ b ∷ xs) n 0) e (parts.1 k (omega (arith, within)))

one_ascends : (a : ℕ) → IsStrictlyIncreasing (a ∷ [])
one_ascends a k within = absurd (omega (arith, within))

-- a list ascends if its two parts do, which share a number
joined : (xs : List ℕ) (w : ℕ) (ys : List ℕ) → IsStrictlyIncreasing (xs ++ w ∷ []) → IsStrictlyIncreasing (w ∷ ys) → IsStrictlyIncreasing (xs ++ w ∷ ys)
joined [] w ys front rest = rest
joined (x ∷ []) w ys front rest = (increasing_more x w ys).1 (((increasing_more x w []).0 front).0, rest)
joined (x ∷ y ∷ xs) w ys front rest =
    let parts = (increasing_more x y (xs ++ w ∷ [])).0 front in (increasing_more x y (xs ++ w ∷ ys)).1 (parts.0, joined (y ∷ xs) w ys parts.1 rest)

-- the prefix up to a number, and the rest after it
front_of : (xs : List ℕ) (w : ℕ) (ys : List ℕ) → IsStrictlyIncreasing (xs ++ w ∷ ys) → IsStrictlyIncreasing (xs ++ w ∷ [])
front_of [] w ys up = one_ascends w
front_of (x ∷ []) w ys up = (increasing_more x w []).1 (((increasing_more x w ys).0 up).0, one_ascends w)
front_of (x ∷ y ∷ xs) w ys up = let parts = (increasing_more x y (xs ++ w ∷ ys)).0 up in (increasing_more x y (xs ++ w ∷ [])).1 (parts.0, front_of (y ∷ xs) w ys parts.1)

rest_of : (xs : List ℕ) (w : ℕ) (ys : List ℕ) → IsStrictlyIncreasing (xs ++ w ∷ ys) → IsStrictlyIncreasing (w ∷ ys)
rest_of [] w ys up = up
rest_of (x ∷ []) w ys up = ((increasing_more x w ys).0 up).1
rest_of (x ∷ y ∷ xs) w ys up = rest_of (y ∷ xs) w ys ((increasing_more x y (xs ++ w ∷ ys)).0 up).1

-- when a number is taken from the start of one of two lists, the other list ascends after it, too
ascends_after : (xs : List ℕ) (w : ℕ) (ys : List ℕ) → IsStrictlyIncreasing (xs ++ w ∷ []) → ((y : ℕ) (more : List ℕ) → ys ≡ y ∷ more → w ≤ y) → IsStrictlyIncreasing (xs ++ ys)
    → IsStrictlyIncreasing ((xs ++ w ∷ []) ++ without_first w ys)
ascends_after xs w [] front least up = subst IsStrictlyIncreasing (sym (append-nil (xs ++ w ∷ []))) front
ascends_after xs w (y ∷ ys) front least up = of (nat_eq y w) refl
  where
    of : (t : Bool) → nat_eq y w ≡ t → IsStrictlyIncreasing ((xs ++ w ∷ []) ++ cond t ys (y ∷ ys))
    of true e = subst IsStrictlyIncreasing (sym (append_assoc xs (w ∷ []) ys)) (subst (λ z. IsStrictlyIncreasing (xs ++ z ∷ ys)) (eqb-true y w e) up)
    of false e =
        let apart : y ≡ w → ⊥ = λ same. true≢false (sym (eq-eqb y w same) ∙ e) in
        let below : w < y = omega (arith, least y ys refl, apart) in
        subst IsStrictlyIncreasing (sym (append_assoc xs (w ∷ []) (y ∷ ys))) (joined xs w (y ∷ ys) front ((increasing_more w y ys).1 (below, rest_of xs y ys up)))

-- ---- members

-- whether q is one of the numbers
abbrev pub has : List ℕ → ℕ → Bool
has xs q = list_any (λ y. nat_eq y q) xs

-- a list with a number has the same members as the list without it, and that number
with_first : (w q : ℕ) (xs : List ℕ) → (nat_eq w q || has (without_first w xs) q) ≡ (nat_eq w q || has xs q)
with_first w q [] = refl
with_first w q (x ∷ xs) = of (nat_eq x w) refl
  where
    twice : (b h : Bool) → (b || h) ≡ (b || (b || h))
    twice true h = refl
    twice false h = refl

    of : (t : Bool) → nat_eq x w ≡ t → (nat_eq w q || has (cond t xs (x ∷ xs)) q) ≡ (nat_eq w q || has (x ∷ xs) q)
    of true e = twice (nat_eq w q) (has xs q) ∙ ap (λ z. nat_eq w q || (nat_eq z q || has xs q)) (sym (eqb-true x w e))
    of false e = refl

has_it : (w q : ℕ) (xs : List ℕ) → xs ≡ w ∷ without_first w xs → nat_eq w q ≡ true → has xs q ≡ true
has_it w q xs first same = ap (λ ys. has ys q) first ∙ ap (λ b. b || has (without_first w xs) q) same

moved : (m b l r p s : Bool) → (b || l) ≡ (b || p) → (b || r) ≡ (b || s) → (b ≡ true → (p || s) ≡ true) → ((m || (b || false)) || (l || r)) ≡ (m || (p || s))
moved true b l r p s el er some = refl
moved false true l r p s el er some = sym (some refl)
moved false false l r p s el er some = λ i. el i || er i

nothing : (b : Bool) → (b || false) ≡ b
nothing true = refl
nothing false = refl

union_has : (xs ys : List ℕ) (q : ℕ) → (has xs q || has ys q) ≡ contains (union (set_of xs) (set_of ys)) q
union_has xs ys q = (λ i. sym (contains-from_list_nat xs q) i || sym (contains-from_list_nat ys q) i) ∙ sym (contains-union nat_cmp_total (set_of xs) (set_of ys) q)

-- ---- the merge

-- the numbers taken and those left ascend, and have the members of both lists
pub record MergesRest (xs ys taken left right : List ℕ) : Type 0 where
  pub left_ascends : IsStrictlyIncreasing (taken ++ left)
  pub right_ascends : IsStrictlyIncreasing (taken ++ right)
  pub members : (q : ℕ) → (has taken q || (has left q || has right q)) ≡ (has xs q || has ys q)

-- the bytes of the numbers taken are written
pub record WritesRest (xs ys bytes left right : List ℕ) : Type 0 where
  pub taken : List ℕ
  pub is : bytes ≡ coupon_bytes taken
  pub rest : MergesRest xs ys taken left right

module _ (xs ys taken left right : List ℕ) (rest : MergesRest xs ys taken left right) where
  merges_more : (w : ℕ) → IsLeastFirst w left right → MergesRest xs ys (taken ++ w ∷ []) (without_first w left) (without_first w right)
  merges_more w least =
      let front : IsStrictlyIncreasing (taken ++ w ∷ []) = elim least.is_first [
        | inl l ↦ front_of taken w (without_first w left) (subst (λ z. IsStrictlyIncreasing (taken ++ z)) l rest.left_ascends)
        | inr r ↦ front_of taken w (without_first w right) (subst (λ z. IsStrictlyIncreasing (taken ++ z)) r rest.right_ascends)
      ] in
      record {
        left_ascends = ascends_after taken w left front least.least_of_left rest.left_ascends;
        right_ascends = ascends_after taken w right front least.least_of_right rest.right_ascends;
        members = λ q.
            ap (λ t. t || (has (without_first w left) q || has (without_first w right) q)) (list_any-append (λ y. nat_eq y q) taken (w ∷ []))
            ∙ moved (has taken q) (nat_eq w q) _ _ (has left q) (has right q) (with_first w q left) (with_first w q right) (some q)
            ∙ rest.members q;
      }
    where
      some : (q : ℕ) → nat_eq w q ≡ true → (has left q || has right q) ≡ true
      some q same = elim least.is_first [
        | inl l ↦ ap (λ b. b || has right q) (has_it w q left l same)
        | inr r ↦ ap (λ b. has left q || b) (has_it w q right r same) ∙ last (has left q)
      ]
        where
          last : (b : Bool) → (b || true) ≡ true
          last true = refl
          last false = refl

  -- the same numbers, for the lists after the step
  pub merges_next : (w : ℕ) (taken' left' right' : List ℕ) → IsLeastFirst w left right → taken' ≡ taken ++ w ∷ [] → left' ≡ without_first w left → right' ≡ without_first w right
      → MergesRest xs ys taken' left' right'
  merges_next w taken' left' right' least t l r =
      subst (λ z. MergesRest xs ys z left' right') (sym t)
      (subst (λ z. MergesRest xs ys (taken ++ w ∷ []) z right') (sym l) (subst (λ z. MergesRest xs ys (taken ++ w ∷ []) (without_first w left) z) (sym r) (merges_more w least)))

  -- one of the lists is at its end
  pub merges_left : right ≡ [] → IsAscending (taken ++ left) (union (set_of xs) (set_of ys))
  merges_left none = record {
    increasing = rest.left_ascends;
    members = same_set nat_cmp_total nat_cmp-IsAntisymmetric _ _ (λ q.
        contains-from_list_nat (taken ++ left) q ∙ list_any-append (λ y. nat_eq y q) taken left
        ∙ ap (λ b. has taken q || b) (sym (nothing (has left q))) ∙ (λ i. has taken q || (has left q || has (sym none i) q)) ∙ rest.members q ∙ union_has xs ys q);
  }

  pub merges_right : left ≡ [] → IsAscending (taken ++ right) (union (set_of xs) (set_of ys))
  merges_right none = record {
    increasing = rest.right_ascends;
    members = same_set nat_cmp_total nat_cmp-IsAntisymmetric _ _ (λ q.
        contains-from_list_nat (taken ++ right) q ∙ list_any-append (λ y. nat_eq y q) taken right
        ∙ (λ i. has taken q || (has (sym none i) q || has right q)) ∙ rest.members q ∙ union_has xs ys q);
  }

  merges_all : left ≡ [] → right ≡ [] → IsAscending taken (union (set_of xs) (set_of ys))
  merges_all no_left no_right =
      subst (λ z. IsAscending z (union (set_of xs) (set_of ys))) (ap (λ z. taken ++ z) no_left ∙ append-nil taken) (merges_left no_right)

coupon_bytes-push : (order : List ℕ) (w : ℕ) → coupon_bytes (order ++ w ∷ []) ≡ coupon_bytes order ++ to_le_bytes w32 w
coupon_bytes-push [] w = refl
coupon_bytes-push (c ∷ order) w = ap (λ b. to_le_bytes w32 c ++ b) (coupon_bytes-push order w) ∙ sym (append_assoc (to_le_bytes w32 c) (coupon_bytes order) (to_le_bytes w32 w))

module _ (xs ys bytes left right : List ℕ) (so : WritesRest xs ys bytes left right) where
  pub writes_next : (w : ℕ) (bytes' left' right' : List ℕ) → IsLeastFirst w left right → bytes' ≡ bytes ++ to_le_bytes w32 w → left' ≡ without_first w left → right' ≡ without_first w right
      → WritesRest xs ys bytes' left' right'
  writes_next w bytes' left' right' least b l r = record {
    taken = so.taken ++ w ∷ [];
    is = b ∙ ap (λ z. z ++ to_le_bytes w32 w) so.is ∙ sym (coupon_bytes-push so.taken w);
    rest = merges_next xs ys so.taken left right so.rest w (so.taken ++ w ∷ []) left' right' least refl l r;
  }

  pub writes_all : left ≡ [] → right ≡ [] → WritesAscending coupon_bytes (union (set_of xs) (set_of ys)) bytes
  writes_all no_left no_right = record { order = so.taken; ascending = merges_all xs ys so.taken left right so.rest no_left no_right; is = so.is }

-- ---- bytes of coupons

-- the bytes that raw coupons were read from
pub raw_coupons_written_back : (n : ℕ) (b : List ℕ) → 4 * n ≤ length b → ((i : ℕ) → get_or b i 0 < 256) → take (4 * n) b ≡ coupon_bytes (raw_coupons n b)
raw_coupons_written_back zero b there bytes = refl
raw_coupons_written_back (suc n) [] there bytes = absurd (omega (arith, there))
raw_coupons_written_back (suc n) (a ∷ []) there bytes = absurd (omega (arith, there))
raw_coupons_written_back (suc n) (a ∷ b ∷ []) there bytes = absurd (omega (arith, there))
raw_coupons_written_back (suc n) (a ∷ b ∷ c ∷ []) there bytes = absurd (omega (arith, there))
raw_coupons_written_back (suc n) (a ∷ b ∷ c ∷ d ∷ more) there bytes =
    let e : 4 * suc n ≡ suc (suc (suc (suc (4 * n)))) = omega arith in
    let first : to_le_bytes w32 (from_le_bytes w32 (a ∷ b ∷ c ∷ d ∷ more)) ≡ a ∷ b ∷ c ∷ d ∷ [] = le_bytes_4 (a ∷ b ∷ c ∷ d ∷ []) (from_le_bytes w32 (a ∷ b ∷ c ∷ d ∷ more)) refl small refl in
    ap (λ m. take m (a ∷ b ∷ c ∷ d ∷ more)) e
    ∙ ap (λ z. a ∷ b ∷ c ∷ d ∷ z) (raw_coupons_written_back n more (omega (arith, there)) (λ i. bytes (suc (suc (suc (suc i))))))
    ∙ ap (λ z. z ++ coupon_bytes (raw_coupons n more)) (sym first)
  where
    small : (i : ℕ) → get_or (a ∷ b ∷ c ∷ d ∷ []) i 0 < 256
    small zero = bytes 0
    small (suc zero) = bytes 1
    small (suc (suc zero)) = bytes 2
    small (suc (suc (suc zero))) = bytes 3
    small (suc (suc (suc (suc i)))) = omega arith

-- the number of coupons in bytes
pub count_in_bytes : (bytes order : List ℕ) → bytes ≡ coupon_bytes order → length bytes / 4 ≡ length order
count_in_bytes bytes order is = omega (arith, ap length is, length-coupon_bytes order)
