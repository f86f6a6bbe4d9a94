-- SPDX-License-Identifier: Apache-2.0
-- Resolved coupons as those of a slice.
use Rattle.std.proofs.Common.{◌≡◌, ◌≢◌, ℕ, Bool, true, false, List, Some, None, length, take, refl, sym, ap, subst, ◌∙◌, inl, inr}
use Rattle.std.specs.Int.{w32, from_le_bytes}
use Rattle.std.proofs.lemmas.Bool.{cases_Bool}
use Rattle.std.proofs.lemmas.List.{take-map}
use Rattle.hll_base.specs.declared.hll_type.HllType.TheVariants.{Hll8}
use Rattle.hll_coupons.specs.Pair.{Pairs, set_of}
use Rattle.hll_sketch.proofs.LegalSketches.{legal_size}
use Rattle.hll_sketch.specs.Adding.{content_for}
use Rattle.hll_sketch.specs.Stage.{stage}
use Rattle.hll_sketch.specs.Value.{coupons, IsTableFor}
use Rattle.hll_state.specs.Counter.{content_of_coupons, AreResolved}
use Rattle.hll_state.specs.CouponRun.{members}
use Rattle.hll_state.specs.Header.{AreWithin}
use Rattle.hll_state.specs.Merged.{sketch_of_held, table_of}
use Rattle.hll_state.specs.declared.header.CouponTable.{CouponTable}
use Rattle.hll_state.specs.declared.header.Held.TheVariants.{Coupons}
use Rattle.hll_state.proofs.Emptiness.{count}

module _ (k : ℕ) (c : CouponTable) (elements : List (List ℕ)) (within : AreWithin k c (length elements)) (resolved : AreResolved k c elements) (q : ℕ)
    (kept : c.added ≡ false → q ≡ c.lg_size) (staged : c.added ≡ true → stage k c.lg_size c.run.used ≢ None → stage k c.lg_size c.run.used ≡ Some q) where
  abbrev S : Pairs
  S = members c.run elements

  stage_is : c.added ≡ true → stage k c.lg_size c.run.used ≡ Some q
  stage_is added = staged added (resolved.stays added)

  -- the table holds them
  pub own_table : IsTableFor k c.run.used q
  own_table = elim (cases_Bool c.added) [
    | inl added ↦ legal_size k c.lg_size c.run.used q (stage_is added)
    | inr none ↦ subst (IsTableFor k c.run.used) (sym (kept none)) (within.taken none)
  ]

  content : content_of_coupons k c S ≡ coupons S q
  content = of c.added refl
    where
      of : (b : Bool) → c.added ≡ b → content_of_coupons k c S ≡ coupons S q
      of true e = ap (λ b. content_of_coupons k (record c { added = b }) S) e ∙ ap (content_for k S) (ap (stage k c.lg_size) (sym (count k c elements within resolved)) ∙ stage_is e)
      of false e = ap (λ b. content_of_coupons k (record c { added = b }) S) e ∙ ap (coupons S) (sym (kept e))

  pub as_table : sketch_of_held k (Coupons c) elements ≡ table_of k q (take c.run.used elements)
  as_table = λ i. record { lg_k = k; width = Hll8; content = (content ∙ ap (λ xs. coupons (set_of xs) q) (take-map (from_le_bytes w32) c.run.used elements)) i }
