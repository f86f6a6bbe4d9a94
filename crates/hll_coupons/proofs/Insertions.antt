-- SPDX-License-Identifier: Apache-2.0
-- The number of coupons of a table after an insertion.
use Rattle.std.proofs.Common.{◌≡◌, ℕ, ◌+◌, ◌^◌, ◌≤◌, ◌<◌, Bool, true, false, not, cond, length, sym, ap, ◌∙◌, arith}
use mir.Val.{bool_byte}
use Rattle.std.specs.Cmp.{nat_cmp_total}
use Rattle.std.specs.FinSet.{contains, insert, len, len-insert}
use Rattle.hll_coupons.specs.Insertion.{IsInsertion, IfTaken}
use Rattle.hll_coupons.specs.declared.container.Insertion.{Insertion}
use Rattle.hll_coupons.specs.declared.container.Insertion.TheVariants.{Added, Held, Refused}
use Rattle.hll_coupons.specs.Pair.{Pairs}
use Rattle.hll_coupons.specs.Table.{Table, IsTable, coupons_in, coupons_of}

-- one more coupon, unless the set has it
pub len-insert_new : (S : Pairs) (c : ℕ) (new : Bool) → new ≡ not (contains S c) → len S + bool_byte new ≡ len (insert S c)
len-insert_new S c new is = ap (λ b. len S + bool_byte b) is ∙ decide (contains S c) ∙ sym (len-insert nat_cmp_total S c)
  where
    decide : (b : Bool) → len S + bool_byte (not b) ≡ cond b (len S) (len S + 1)
    decide true = omega arith
    decide false = omega arith

-- as counted in a table
pub counted : (t : Table) (c n extra : ℕ) (new : Bool) → IsTable t → n ≡ length (coupons_in t.buckets) → extra ≡ bool_byte new → new ≡ not (contains (coupons_of t) c) →
    n + extra ≡ len (insert (coupons_of t) c)
counted t c n extra new table count one is = omega (arith, table.distinct, count, one, len-insert_new (coupons_of t) c new is)

-- a full table has no bucket for a coupon that it lacks
pub past_full : (t : Table) (c most : ℕ) → IsTable t → length (coupons_in t.buckets) ≡ 2 ^ t.lg_size → contains (coupons_of t) c ≡ false → most ≤ 2 ^ t.lg_size →
    most < len (insert (coupons_of t) c)
past_full t c most table full lacking within =
    let more : len (insert (coupons_of t) c) ≡ len (coupons_of t) + 1 = len-insert nat_cmp_total (coupons_of t) c ∙ ap (λ b. cond b (len (coupons_of t)) (len (coupons_of t) + 1)) lacking in
    omega (arith, table.distinct, full, more, within)

-- a table with an empty bucket can take a coupon that it lacks
pub within_buckets : (t : Table) (c : ℕ) → IsTable t → length (coupons_in t.buckets) ≤ 2 ^ t.lg_size → (contains (coupons_of t) c ≡ false → length (coupons_in t.buckets) < 2 ^ t.lg_size) →
    len (insert (coupons_of t) c) ≤ 2 ^ t.lg_size
within_buckets t c table within room = decide (contains (coupons_of t) c) refl
  where
    refl : contains (coupons_of t) c ≡ contains (coupons_of t) c
    refl = λ i. contains (coupons_of t) c

    decide : (b : Bool) → contains (coupons_of t) c ≡ b → len (insert (coupons_of t) c) ≤ 2 ^ t.lg_size
    decide true e =
        let same : len (insert (coupons_of t) c) ≡ len (coupons_of t) = len-insert nat_cmp_total (coupons_of t) c ∙ ap (λ b. cond b (len (coupons_of t)) (len (coupons_of t) + 1)) e in
        omega (arith, table.distinct, same, within)
    decide false e =
        let more : len (insert (coupons_of t) c) ≡ len (coupons_of t) + 1 = len-insert nat_cmp_total (coupons_of t) c ∙ ap (λ b. cond b (len (coupons_of t)) (len (coupons_of t) + 1)) e in
        omega (arith, table.distinct, more, room e)

-- so the coupon is not refused
pub taken : (S : Pairs) (c most : ℕ) (r : Insertion) (P : Type 0) → IsInsertion S c most r → len (insert S c) ≤ most → IfTaken r P → P
taken S c most Added P is few p = p
taken S c most Held P is few p = p
taken S c most Refused P is few p = absurd (omega (arith, is, few))
