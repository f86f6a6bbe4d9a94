-- SPDX-License-Identifier: Apache-2.0
-- Sets of coupons: what a search by raw coupons shows.
use Rattle.std.proofs.Common.{◌≡◌, ◌≢◌, ◌↔◌, ℕ, zero, suc, ◌^◌, ◌<◌, Bool, true, false, not, List, length, get_or, set, refl, sym, ap, ◌∙◌, arith, inl, inr}
use Rattle.std.specs.FinSet.{contains, insert}
use Rattle.std.proofs.lemmas.Bool.{cases_Bool, true≢false}
use Rattle.hll_coupons.specs.Pair.{set_of}
use Rattle.hll_coupons.specs.Probe.{EndsAt, IsAbsent, IsProbed, Passes, Puts, placed, present}
use Rattle.hll_coupons.specs.Table.{Table, coupons_in, coupons_of}
use Rattle.hll_coupons.proofs.Members.{contains-zero, insert-member}
use Rattle.hll_coupons.proofs.Putting.{absent_fresh, ends_as, found_at_bucket, full_of_passes, members-put, passes_as, read_at}
use Rattle.hll_coupons.proofs.Searching.{IsProbed-puts, absent_at_empty, absent_from_full}

-- a raw coupon that no bucket has is no member
lacking : (buckets : List ℕ) (raw_coupon : ℕ) → IsAbsent (λ c. c) buckets raw_coupon → contains (set_of (coupons_in buckets)) raw_coupon ≡ false
lacking buckets zero absent = contains-zero buckets
lacking buckets (suc n) absent = absent_fresh (λ c. c) buckets (suc n) (omega arith) absent

-- a search in a table comes to its end
pub record IsEnd (t : Table) (raw_coupon bucket entry : ℕ) : Type 0 where
  pub ends : EndsAt (λ c. c) t.lg_size t.buckets raw_coupon bucket
  pub read : get_or t.buckets bucket 0 ≡ entry

pub end_of : (t : Table) (raw_coupon bucket entry lg key : ℕ) (ps : List ℕ) → length t.buckets ≡ 2 ^ t.lg_size → lg ≡ t.lg_size → ps ≡ t.buckets → key ≡ raw_coupon →
    EndsAt (λ c. c) lg ps key bucket → entry ≡ get_or ps bucket entry → IsEnd t raw_coupon bucket entry
end_of t raw_coupon bucket entry lg key ps size lg_is ps_are key_is found seen =
    let ends : EndsAt (λ c. c) t.lg_size t.buckets raw_coupon bucket = ends_as (λ c. c) lg t.lg_size ps t.buckets key raw_coupon bucket lg_is ps_are key_is found in
    record { ends = ends; read = read_at ps t.buckets bucket entry ps_are (omega (arith, ends.within, size)) seen }

module _ (t : Table) (raw_coupon : ℕ) (p : IsProbed (λ c. c) t.lg_size t.buckets) where
  -- a search through a full table found nothing
  pub lacking_full : Passes (λ c. c) t.lg_size t.buckets raw_coupon (2 ^ t.lg_size) → contains (coupons_of t) raw_coupon ≡ false
  lacking_full passes = lacking t.buckets raw_coupon (absent_from_full (λ c. c) t.lg_size t.buckets raw_coupon p.size passes)

  module _ (bucket entry : ℕ) (is : IsEnd t raw_coupon bucket entry) where
    -- a search that ends at a coupon has found it
    pub found_end : entry ≢ 0 → contains (coupons_of t) raw_coupon ≡ true
    found_end full =
        let same : get_or t.buckets bucket 0 ≡ raw_coupon = is.ends.same (λ z. full (sym is.read ∙ z)) in
        found_at_bucket t.buckets bucket raw_coupon (omega (arith, is.ends.within, p.size)) same (omega (arith, full, is.read, same))

    -- a search that found the coupon leaves the table as it is
    pub puts_found : entry ≢ 0 → Puts (λ c. c) t.lg_size t.buckets raw_coupon t.buckets
    puts_found full = present bucket is.ends.first (λ z. full (sym is.read ∙ z)) (is.ends.same (λ z. full (sym is.read ∙ z))) refl

    pub insert_found : entry ≢ 0 → coupons_of t ≡ insert (coupons_of t) raw_coupon
    insert_found full = sym (insert-member (coupons_of t) raw_coupon (found_end full))

    -- a search that ends at an empty bucket shows that the coupon is absent
    pub lacking_end : entry ≡ 0 → contains (coupons_of t) raw_coupon ≡ false
    lacking_end empty =
        lacking t.buckets raw_coupon (absent_at_empty (λ c. c) t.lg_size t.buckets raw_coupon is.ends.first.index p is.ends.first.passes (ap (λ q. get_or t.buckets q 0) is.ends.first.at ∙ is.read ∙ empty))

    -- so a test of the end says whether the coupon is new
    pub new_end : (b : Bool) → (b ≡ true) ↔ (entry ≡ 0) → b ≡ not (contains (coupons_of t) raw_coupon)
    new_end b test = elim (cases_Bool b) [
      | inl empty ↦ empty ∙ ap not (sym (lacking_end (test.0 empty)))
      | inr full ↦ full ∙ ap not (sym (found_end (λ z. true≢false (sym (test.1 z) ∙ full))))
    ]

    -- the coupon is put into the empty bucket
    pub puts_end : entry ≡ 0 → Puts (λ c. c) t.lg_size t.buckets raw_coupon (set t.buckets bucket raw_coupon)
    puts_end empty = placed bucket is.ends.first (is.read ∙ empty) refl

    pub probed_end : entry ≡ 0 → raw_coupon ≢ 0 → IsProbed (λ c. c) t.lg_size (set t.buckets bucket raw_coupon)
    probed_end empty some = IsProbed-puts (λ c. c) t.lg_size t.buckets raw_coupon (set t.buckets bucket raw_coupon) p some (puts_end empty)

    pub members_end : entry ≡ 0 → 0 < raw_coupon → set_of (coupons_in (set t.buckets bucket raw_coupon)) ≡ insert (coupons_of t) raw_coupon
    members_end empty some =
        members-put t.buckets raw_coupon (set t.buckets bucket raw_coupon) some (record { bucket = bucket; within = omega (arith, is.ends.within, p.size); empty = is.read ∙ empty; is = refl })

-- a table that a search went through is full
pub full_end : (t : Table) (raw_coupon lg key : ℕ) (ps : List ℕ) → IsProbed (λ c. c) t.lg_size t.buckets → lg ≡ t.lg_size → ps ≡ t.buckets → key ≡ raw_coupon → Passes (λ c. c) lg ps key (2 ^ lg) →
    (length (coupons_in t.buckets) ≡ 2 ^ t.lg_size) × (contains (coupons_of t) raw_coupon ≡ false)
full_end t raw_coupon lg key ps p lg_is ps_are key_is passes =
    let all : Passes (λ c. c) t.lg_size t.buckets raw_coupon (2 ^ t.lg_size) = passes_as (λ c. c) lg t.lg_size ps t.buckets key raw_coupon lg_is ps_are key_is passes in
    (full_of_passes (λ c. c) t.lg_size t.buckets raw_coupon p.size all, lacking_full t raw_coupon p all)
