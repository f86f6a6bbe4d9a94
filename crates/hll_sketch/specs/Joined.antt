-- SPDX-License-Identifier: Apache-2.0
-- The union of many sketches, by one count over all their pairs (docs/MODEL.md, "Convergence").
use Rattle.std.specs.Prelude.{◌≡◌, ℕ, ◌≤◌, min, Bool, true, false, if◌then◌else◌, List, [], ◌∷◌, ◌++◌, Contains}
use Rattle.std.specs.List.{list_any, AllByRecursion}
use Rattle.std.specs.FinSet.{empty, union, len}
use Rattle.hll_coupons.specs.Pair.{Pairs}
use Rattle.hll_coupons.specs.Fold.{fold_to}
use Rattle.hll_base.specs.declared.hll_type.HllType.{HllType}
use Rattle.hll_base.specs.declared.hll_type.HllType.TheVariants.{Hll8}
use Rattle.hll_registers.specs.State.{cleared_state}
use Rattle.hll_sketch.specs.Stage.{stage}
use Rattle.hll_sketch.specs.Value.{Sketch, registers, pairs_of, has_nonzero_registers, ArePairs}
use Rattle.hll_sketch.specs.Adding.{content_for}
use Rattle.hll_sketch.specs.Canonical.{IsCanonicalCleared}
use Rattle.hll_sketch.specs.Merging.{merge_all, empty_union}
use Rattle.hll_sketch.specs.Union.{UnionLayout, gadget_of}

-- the pairs of all sketches
abbrev pub all_pairs : List Sketch → Pairs
all_pairs [] = empty
all_pairs (x ∷ xs) = union (pairs_of x) (all_pairs xs)

-- the smallest of m and of the lg_k of the sketches in registers that are not all 0
abbrev pub least_lg_k : ℕ → List Sketch → ℕ
least_lg_k m [] = m
least_lg_k m (x ∷ xs) = if has_nonzero_registers x then min x.lg_k (least_lg_k m xs) else least_lg_k m xs

-- pairs at m in the smallest table that holds them, or as registers at e
abbrev pub join_value_of_pairs : ℕ → HllType → ℕ → Pairs → Bool → Sketch
join_value_of_pairs m w e P true = record { lg_k = e; width = w; content = registers (fold_to P e) cleared_state }
join_value_of_pairs m w e P false = record { lg_k = m; width = w; content = content_for m P (stage m 3 (len P)) }

-- the union of sketches under a bound, by one count over all their pairs
abbrev pub join_value : ℕ → HllType → List Sketch → Sketch
join_value m w xs = join_value_of_pairs m w (least_lg_k m xs) (all_pairs xs) (list_any has_nonzero_registers xs)

-- ---- laws

-- a canonical sketch of pairs, with cleared fields
pub record IsCanonicalOfPairs (x : Sketch) : Type 0 where
  pub small : x.lg_k ≤ 21
  pub are : ArePairs (pairs_of x)
  pub canonical : IsCanonicalCleared x

-- canonical sketches with cleared fields that are merged in turn into the empty union give their `join_value`
abbrev pub MergeOfCanonical : Type 0
MergeOfCanonical = (m : ℕ) (xs : List Sketch) → m ≤ 21 → AllByRecursion IsCanonicalOfPairs xs → merge_all m (empty_union m) xs ≡ join_value m Hll8 xs

-- the lists have the same members
abbrev pub SameMembers : List Sketch → List Sketch → Type 0
SameMembers xs ys = ((x : Sketch) → Contains xs x → Contains ys x) × ((x : Sketch) → Contains ys x → Contains xs x)

-- `join_value` does not depend on order or repetition
abbrev pub UnionOfSame : Type 0
UnionOfSame = (m : ℕ) (w : HllType) (xs ys : List Sketch) → SameMembers xs ys → join_value m w xs ≡ join_value m w ys

-- some sketches may be merged first, under the same bound and at any width
abbrev pub UnionOfUnion : Type 0
UnionOfUnion = (m : ℕ) (v w : HllType) (xs ys : List Sketch) → m ≤ 21 → AllByRecursion IsCanonicalOfPairs ys →
    join_value m w (join_value m v ys ∷ xs) ≡ join_value m w (ys ++ xs)

-- ---- unions

-- the gadget of a union is the `join_value` of these canonical sketches with cleared fields under its bound, and is such a
-- sketch itself
pub record IsMergeOf (xs : List Sketch) (u : UnionLayout) : Type 0 where
  pub small : u.lg_max_k ≤ 21
  pub merged : AllByRecursion IsCanonicalOfPairs xs
  pub value : gadget_of u ≡ join_value u.lg_max_k Hll8 xs
  pub canonical : IsCanonicalCleared (gadget_of u)

-- unions of the same bound and the same sketches have equal gadgets, in any order and however often each sketch was merged
abbrev pub MergesOfSame : Type 0
MergesOfSame = (u v : UnionLayout) (xs ys : List Sketch) → u.lg_max_k ≡ v.lg_max_k → IsMergeOf xs u → IsMergeOf ys v → SameMembers xs ys → gadget_of u ≡ gadget_of v

-- merging the result of a union of the same bound, at any width, is merging the sketches that were merged into it
abbrev pub MergeOfMerge : Type 0
MergeOfMerge = (u v : UnionLayout) (w : HllType) (xs ys : List Sketch) → u.lg_max_k ≡ v.lg_max_k → IsMergeOf ys v →
    IsMergeOf (xs ++ record (gadget_of v) { width = w } ∷ []) u → IsMergeOf (xs ++ ys) u
