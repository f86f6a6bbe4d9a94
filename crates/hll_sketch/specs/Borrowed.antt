-- SPDX-License-Identifier: Apache-2.0
-- Coupons in the bytes of an image.
use Rattle.std.specs.Prelude.{◌≡◌, ℕ, ◌-◌, ◌%◌, ◌^◌, ◌≤◌, ◌⊎◌, Bool, true, false, List, ◌∷◌, length, get_or}
use Rattle.std.specs.FinSet.{contains}
use Rattle.std.specs.List.Sorted.{IsStrictlyIncreasing}
use Rattle.hll_coupons.specs.Coupons.{AreCoupons}
use Rattle.hll_coupons.specs.Pair.{set_of}

-- raw coupons for which one pass shows that they are coupons: they have values and ascend, as this library writes them, or they
-- are at most 128 and distinct
abbrev pub AreEvidentlyCoupons : List ℕ → Type 0
AreEvidentlyCoupons order = IsStrictlyIncreasing ((2 ^ 26 - 1) ∷ order) ⊎ ((length order ≤ 128) × AreCoupons order)

-- each of these has its mark among n: that of its number modulo n
abbrev pub AreMarked : ℕ → List ℕ → List Bool → Type 0
AreMarked n order marks = (c : ℕ) → contains (set_of order) c ≡ true → get_or marks (c % n) false ≡ true
