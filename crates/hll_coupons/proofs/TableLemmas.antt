-- SPDX-License-Identifier: Apache-2.0
-- Tables: an empty one, after a coupon is put, and filled from the first bucket on.
use Rattle.std.proofs.Common.{◌≡◌, ℕ, ◌+◌, ◌-◌, ◌<◌, ◌≤◌, ◌^◌, true, false, Bool, cond, List, nat_lt, [], ◌∷◌, ◌++◌, length, replicate, get_or, sym, ◌∙◌, ap, subst, arith, All, length-append}
use Rattle.std.proofs.Math.ListN.{set}
use Rattle.std.proofs.Math.Pow.{pow_mono}
use Rattle.std.specs.List.{AllByRecursion}
use Rattle.std.specs.Ordering.{nat_cmp}
use Rattle.std.specs.FinSet.{contains, len, len-empty}
use Rattle.std.proofs.lemmas.List.{length-set, length-replicate}
use Rattle.std.proofs.lemmas.List.Elements.{filter-append, All-nil, All-from_recursion, recursion_from_All}
use Rattle.hll_coupons.specs.Pair.{IsPair, value_of, set_of}
use Rattle.hll_coupons.specs.Table.{Table, coupons_in, coupons_of, IsTable, empty_table, IsFilledFromFront, filled_from_front, coupons_with}
use Rattle.hll_coupons.proofs.Buckets.{coupons_in-replicate, length-coupons_in, Between, between, set-front, coupons_in-front, coupons_in-full, coupons_in-coupons_in}
use Rattle.hll_coupons.proofs.Members.{len-between}

-- there are no more coupons than buckets
pub length-coupons_in-table : (t : Table) → IsTable t → length (coupons_in t.buckets) ≤ 2 ^ t.lg_size
length-coupons_in-table t table = omega (arith, length-coupons_in t.buckets, table.size)

-- a table has at most 2^26 buckets
pub small_buckets : (t : Table) → IsTable t → length t.buckets ≤ 2 ^ 26
small_buckets t table = rw table.size (pow_mono table.small)

-- an empty table is a table
pub IsTable-empty : (lg_size : ℕ) → lg_size ≤ 26 → IsTable (empty_table lg_size)
IsTable-empty lg_size small = record {
  small = small;
  size = length-replicate (2 ^ lg_size) 0;
  distinct = ap (λ xs. len (set_of xs)) (coupons_in-replicate (2 ^ lg_size)) ∙ len-empty nat_cmp ∙ sym (ap length (coupons_in-replicate (2 ^ lg_size)));
  valued = subst (All IsPair) (sym (coupons_in-replicate (2 ^ lg_size))) (All-nil IsPair);
}

All-between : (P : ℕ → Type 0) (xs ys : List ℕ) (c : ℕ) → AllByRecursion P (xs ++ ys) → P c → AllByRecursion P (xs ++ c ∷ ys)
All-between P [] ys c h p = (p, h)
All-between P (x ∷ xs) ys c h p = (h.0, All-between P xs ys c h.1 p)

pub length-between : (xs ys : List ℕ) (c : ℕ) → length (xs ++ c ∷ ys) ≡ length (xs ++ ys) + 1
length-between xs ys c = omega (arith, length-append xs (c ∷ ys), length-append xs ys)

-- a coupon of a value is no empty bucket
pub full_of_valued : (c : ℕ) → 1 ≤ value_of c → 0 < c
full_of_valued c h = omega arith

-- a new coupon in an empty bucket adds one coupon, and the table is still legal
pub IsTable-put : (t : Table) (i c : ℕ) → IsTable t → i < 2 ^ t.lg_size → get_or t.buckets i 0 ≡ 0 → IsPair c → contains (coupons_of t) c ≡ false
    → IsTable (record { lg_size = t.lg_size; buckets = set t.buckets i c }) × (length (coupons_in (set t.buckets i c)) ≡ length (coupons_in t.buckets) + 1)
IsTable-put t i c table inside empty pair fresh =
    let b : Between t.buckets i c = between t.buckets i c (omega (arith, table.size)) empty (full_of_valued c pair.valued) in
    let more : length (coupons_in (set t.buckets i c)) ≡ length (coupons_in t.buckets) + 1 =
    ap length b.new ∙ length-between b.before b.after c ∙ ap (λ xs. length xs + 1) (sym b.old) in (
      record {
        small = table.small;
        size = length-set t.buckets i c ∙ table.size;
        distinct =
            ap (λ xs. len (set_of xs)) b.new
            ∙ len-between b.before b.after c (ap (λ xs. contains (set_of xs) c) (sym b.old) ∙ fresh)
            ∙ ap (λ xs. len (set_of xs) + 1) (sym b.old)
            ∙ ap (λ n. n + 1) table.distinct
            ∙ sym more;
        valued = subst (All IsPair) (sym b.new)
            (All-from_recursion IsPair _ (All-between IsPair b.before b.after c (recursion_from_All IsPair _ (subst (All IsPair) b.old table.valued)) pair));
      },
      more,
    )

-- the coupons of a table filled from the first bucket on, in their order
pub coupons_in-filled_from_front : (lg_size : ℕ) (order : List ℕ) → coupons_in order ≡ order → coupons_in (filled_from_front lg_size order).buckets ≡ order
coupons_in-filled_from_front lg_size order kept = coupons_in-front order (2 ^ lg_size - length order) ∙ kept

-- so this table is filled from the first bucket on
pub IsFilledFromFront-front : (lg_size : ℕ) (order : List ℕ) → coupons_in order ≡ order → IsFilledFromFront (filled_from_front lg_size order)
IsFilledFromFront-front lg_size order kept =
    ap (λ xs. (filled_from_front lg_size xs).buckets) (sym (coupons_in-filled_from_front lg_size order kept))

-- an empty table is, too
pub IsFilledFromFront-empty : (lg_size : ℕ) → IsFilledFromFront (empty_table lg_size)
IsFilledFromFront-empty lg_size = rw coupons_in-replicate (ap (λ n. replicate n 0) (omega arith))

coupons_in-push : (xs : List ℕ) (c : ℕ) → coupons_in xs ≡ xs → 0 < c → coupons_in (xs ++ c ∷ []) ≡ xs ++ c ∷ []
coupons_in-push xs c kept full =
    filter-append (λ x. nat_lt 0 x) xs (c ∷ []) ∙ ap (λ ys. ys ++ coupons_in (c ∷ [])) kept ∙ ap (λ ys. xs ++ ys) (coupons_in-full c [] full)

-- an arriving coupon is one of the coupons
pub coupons_in-coupons_with : (buckets : List ℕ) (c : ℕ) → 0 < c → coupons_in (coupons_with (coupons_in buckets) c) ≡ coupons_with (coupons_in buckets) c
coupons_in-coupons_with buckets c full = decide (contains (set_of (coupons_in buckets)) c)
  where
    decide : (b : Bool) → coupons_in (cond b (coupons_in buckets) (coupons_in buckets ++ c ∷ [])) ≡ cond b (coupons_in buckets) (coupons_in buckets ++ c ∷ [])
    decide true = coupons_in-coupons_in buckets
    decide false = coupons_in-push (coupons_in buckets) c (coupons_in-coupons_in buckets) full

-- a coupon that is put after a prefix
set-order : (order buckets : List ℕ) (n c : ℕ) → buckets ≡ order ++ replicate (n - length order) 0 → length order < n
    → set buckets (length order) c ≡ (order ++ c ∷ []) ++ replicate (n - length (order ++ c ∷ [])) 0
set-order order buckets n c front room =
    let fewer : n - length order - 1 ≡ n - length (order ++ c ∷ []) = omega (arith, length-append order (c ∷ [])) in
    ap (λ ps. set ps (length order) c) front ∙ set-front order (n - length order) c (omega arith) ∙ ap (λ m. (order ++ c ∷ []) ++ replicate m 0) fewer

-- so the table of a list after a new coupon
pub buckets-put : (t : Table) (c : ℕ) → IsFilledFromFront t → contains (coupons_of t) c ≡ false → length (coupons_in t.buckets) < 2 ^ t.lg_size
    → record { lg_size = t.lg_size; buckets = set t.buckets (length (coupons_in t.buckets)) c } ≡ filled_from_front t.lg_size (coupons_with (coupons_in t.buckets) c)
buckets-put t c front fresh room =
    ap (λ buckets. record { lg_size = t.lg_size; buckets = buckets }) (set-order (coupons_in t.buckets) t.buckets (2 ^ t.lg_size) c front room)
    ∙ ap (λ b. filled_from_front t.lg_size (cond b (coupons_in t.buckets) (coupons_in t.buckets ++ c ∷ []))) (sym fresh)
