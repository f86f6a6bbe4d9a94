-- SPDX-License-Identifier: Apache-2.0
-- Lemmas on lists of the members of a set.
use Rattle.std.proofs.Common.{◌≡◌, ℕ, true, List, length, sym, ◌∙◌}
use Rattle.std.specs.Cmp.{both_ways, nat_cmp_total}
use Rattle.std.specs.FinSet.{contains, is_subset, is_subset-contains, len, nat_cmp-IsAntisymmetric, same_set}
use Rattle.std.specs.List.{list_all}
use Rattle.std.specs.List.Sorted.{IsStrictlyIncreasing}
use Rattle.std.proofs.lemmas.List.{append-nil}
use Rattle.hll_coupons.specs.Coupons.{IsAscending}
use Rattle.hll_coupons.specs.Pair.{Pairs, set_of}
use Rattle.hll_coupons.proofs.Ascending.{distinct-ascending}
use Rattle.hll_coupons.proofs.Members.{is_subset-of_all}
use Rattle.hll_coupons.proofs.Sizes.{part_of_same}

-- numbers that ascend are the members of a set in order if each is a member, and they are as many
pub listed : (xs : List ℕ) (S : Pairs) → IsStrictlyIncreasing xs → length xs ≡ len S → list_all (contains S) xs ≡ true → IsAscending xs S
listed xs S up many all =
    let part : is_subset (set_of xs) S ≡ true = sym (is_subset-of_all S xs xs (sym (append-nil xs)) all) in
    let whole : is_subset S (set_of xs) ≡ true = part_of_same xs S (distinct-ascending xs up ∙ many) part in
    record {
      increasing = up;
      members = same_set nat_cmp_total nat_cmp-IsAntisymmetric (set_of xs) S
          (λ q. both_ways _ _ (is_subset-contains nat_cmp_total (set_of xs) S part q) (is_subset-contains nat_cmp_total S (set_of xs) whole q));
    }
