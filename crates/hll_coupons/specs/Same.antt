-- SPDX-License-Identifier: Apache-2.0
-- When two tables have the same coupons, and two maps the same entries, and that these relations are equivalences. The
-- laws of `PartialEq` and `Eq` have to be in specs (docs/MODEL.md, "Tables" and "Maps of exceptions").
use Rattle.std.specs.Prelude.{Bool, true, ◌≡◌, ◌&&◌, nat_eq}
use Rattle.std.proofs.Common.{ap, subst}
use Rattle.std.proofs.lemmas.Bool.{and_parts}
use Rattle.std.specs.Bool.{Decides}
use Rattle.std.specs.Cmp.{IsPartialEquivalence, IsEquivalence, nat_cmp_total, both_ways, decided, nat_eq_equiv, on_equiv, and_equiv, partial_equiv_from_equiv}
use Rattle.std.specs.FinSet.{same_set, nat_cmp-IsAntisymmetric, is_subset, is_subset-contains, contains-is_subset}
use Rattle.std.specs.Ordering.{on, eq_of_both}
use Rattle.hll_coupons.specs.AuxMap.{ExceptionMap}
use Rattle.hll_coupons.specs.Pair.{Pairs}
use Rattle.hll_coupons.specs.Table.{Table, coupons_of}

-- each coupon of one table is in the other; size and buckets don't matter
abbrev pub have_same_coupons : Table → Table → Bool
have_same_coupons = on coupons_of (λ s t. is_subset s t && is_subset t s)

-- subsets of each other are equal
same_pairs-Decides : (s t : Pairs) → Decides (is_subset s t && is_subset t s) (s ≡ t)
same_pairs-Decides s t = (
  λ e. let h = and_parts _ _ e in same_set nat_cmp_total nat_cmp-IsAntisymmetric _ _ (λ q. both_ways _ _ (is_subset-contains nat_cmp_total _ _ h.0 q) (is_subset-contains nat_cmp_total _ _ h.1 q)),
  λ e. subst (λ r. (is_subset s r && is_subset r s) ≡ true) e (ap (λ b. b && b) (contains-is_subset nat_cmp_total s s (λ q h. h))),
)

-- tables have the same coupons exactly if their sets are equal
pub same_coupons-from : (t u : Table) → have_same_coupons t u ≡ true → coupons_of t ≡ coupons_of u
same_coupons-from t u = (same_pairs-Decides (coupons_of t) (coupons_of u)).0

pub same_coupons-to : (t u : Table) → coupons_of t ≡ coupons_of u → have_same_coupons t u ≡ true
same_coupons-to t u = (same_pairs-Decides (coupons_of t) (coupons_of u)).1

pub have_same_coupons-equivalence : IsEquivalence have_same_coupons
have_same_coupons-equivalence = on_equiv coupons_of (decided _ same_pairs-Decides)

pub have_same_coupons-partial : IsPartialEquivalence have_same_coupons
have_same_coupons-partial = partial_equiv_from_equiv have_same_coupons-equivalence

-- ---- maps

-- the same lg_k and the same entries; buckets don't matter
abbrev pub have_same_entries : ExceptionMap → ExceptionMap → Bool
have_same_entries = eq_of_both (on (λ m. m.lg_k) nat_eq) (on (λ m. m.table) have_same_coupons)

pub have_same_entries-equivalence : IsEquivalence have_same_entries
have_same_entries-equivalence = and_equiv (on_equiv (λ m. m.lg_k) nat_eq_equiv) (on_equiv (λ m. m.table) have_same_coupons-equivalence)

pub have_same_entries-partial : IsPartialEquivalence have_same_entries
have_same_entries-partial = partial_equiv_from_equiv have_same_entries-equivalence
