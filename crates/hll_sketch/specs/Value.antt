-- SPDX-License-Identifier: Apache-2.0
-- Sketch values (docs/MODEL.md, "Sketch values").
use Rattle.std.specs.Prelude.{◌≡◌, ℕ, ◌+◌, ◌*◌, ◌^◌, ◌≤◌, ◌<◌, ◌==◌, ◌⊎◌, ◌↔◌, Bool, true, false, not, ◌&&◌, List}
use Rattle.std.specs.FinSet.{empty, len, contains}
use Rattle.hll_coupons.specs.Pair.{Pairs, IsPair}
use Rattle.hll_coupons.specs.Fold.{pairs}
use Rattle.hll_base.specs.declared.hll_type.HllType.{HllType}
use Rattle.hll_registers.specs.declared.estimate_state.EstimateState.{EstimateState}
use Rattle.hll_registers.specs.Store.{size_in_registers}
use Rattle.hll_registers.specs.State.{IsState}
use Rattle.hll_kernels.specs.Packed.{AreRegisters}

-- what a sketch holds: a set of pairs in a table of 2^size buckets, or registers with an estimate state
pub data Content : Type 0 where
  coupons : Pairs → ℕ → Content
  registers : List ℕ → EstimateState → Content

pub record Sketch : Type 0 where
  pub lg_k : ℕ
  pub width : HllType
  pub content : Content

-- the pairs of a content: its coupons, or the pairs of its registers
abbrev pub pairs_in : Content → Pairs
pairs_in (coupons S size) = S
pairs_in (registers R state) = pairs R

abbrev pub pairs_of : Sketch → Pairs
pairs_of x = pairs_in x.content

-- a sketch without pairs; registers that are all 0 have none
abbrev pub is_empty : Sketch → Bool
is_empty x = len (pairs_of x) == 0

abbrev pub in_registers : Content → Bool
in_registers (coupons S size) = false
in_registers (registers R state) = true

-- the sketch has registers that are not all 0
abbrev pub has_nonzero_registers : Sketch → Bool
has_nonzero_registers x = in_registers x.content && not (is_empty x)

-- the empty list, of eight buckets
abbrev pub empty_sketch : ℕ → HllType → Sketch
empty_sketch k width = record { lg_k = k; width = width; content = coupons empty 3 }

-- the number of bytes of a content at an lg_k and a width: of its table of coupons, or of its registers
abbrev pub size_in : ℕ → HllType → Content → ℕ
size_in k width (coupons S size) = 4 * 2 ^ size
size_in k width (registers R state) = size_in_registers k width R

abbrev pub size_of : Sketch → ℕ
size_of x = size_in x.lg_k x.width x.content

-- ---- legal values

-- lg_k is 4 to 21
pub record IsLgK (k : ℕ) : Type 0 where
  pub low : 4 ≤ k
  pub high : k ≤ 21

-- each raw coupon of the set is a pair
abbrev pub ArePairs : Pairs → Type 0
ArePairs P = (c : ℕ) → contains P c ≡ true → IsPair c

-- a list has at most eight pairs; a set has fewer pairs than buckets, and a size for its lg_k
abbrev pub IsTableFor : ℕ → ℕ → ℕ → Type 0
IsTableFor k count size = ((size ≡ 3) × (count ≤ 8)) ⊎ ((5 ≤ size) × (size + 3 ≤ k) × (count < 2 ^ size))

abbrev pub IsLegalContent : ℕ → Content → Type 0
IsLegalContent k (coupons S size) = ArePairs S × IsTableFor k (len S) size
IsLegalContent k (registers R state) = AreRegisters k R × IsState state

pub record IsLegal (x : Sketch) : Type 0 where
  pub lg_k : IsLgK x.lg_k
  pub content : IsLegalContent x.lg_k x.content

-- ---- equality

-- the same kind and pairs, or the same registers and estimate state; the size of a set's table does not count
abbrev pub IsEqualContent : Content → Content → Type 0
IsEqualContent (coupons S p) (coupons T q) = (S ≡ T) × ((p ≡ 3) ↔ (q ≡ 3))
IsEqualContent (registers R s) (registers Q t) = (R ≡ Q) × (s ≡ t)
IsEqualContent (coupons S p) (registers Q t) = ⊥
IsEqualContent (registers R s) (coupons T q) = ⊥

pub record IsEqual (x y : Sketch) : Type 0 where
  pub lg_k : x.lg_k ≡ y.lg_k
  pub width : x.width ≡ y.width
  pub content : IsEqualContent x.content y.content
