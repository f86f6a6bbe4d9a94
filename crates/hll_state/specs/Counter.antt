-- SPDX-License-Identifier: Apache-2.0
-- The sketch of a state (docs/MODEL.md, "States of a counter").
use Rattle.std.specs.Prelude.{◌≡◌, ◌≢◌, ℕ, ◌-◌, ◌^◌, true, if◌then◌else◌, List, take, None}
use Rattle.std.specs.FinSet.{len}
use Rattle.std.specs.List.Sorted.{IsStrictlyIncreasing}
use Rattle.hll_base.specs.declared.hll_type.HllType.TheVariants.{Hll8}
use Rattle.hll_coupons.specs.Pair.{Pairs}
use Rattle.hll_sketch.specs.Adding.{content_for}
use Rattle.hll_sketch.specs.Stage.{stage}
use Rattle.hll_sketch.specs.Value.{Sketch, Content, coupons, registers}
use Rattle.hll_state.specs.CouponRun.{members, raws}
use Rattle.hll_state.specs.Registers.{values}
use Rattle.hll_state.specs.declared.header.Header.{Header}
use Rattle.hll_state.specs.declared.header.Held.{Held}
use Rattle.hll_state.specs.declared.header.Held.TheVariants.{Coupons, Registers}
use Rattle.hll_state.specs.declared.header.CouponTable.{CouponTable}

-- coupons in the table that they were copied with; or, once coupons were added, in the table that they need, or as registers
abbrev pub content_of_coupons : ℕ → CouponTable → Pairs → Content
content_of_coupons k c S = if c.added then content_for k S (stage k c.lg_size (len S)) else coupons S c.lg_size

abbrev pub content_of : ℕ → Held → List (List ℕ) → Content
content_of k (Coupons c) body = content_of_coupons k c (members c.run body)
content_of k (Registers s) body = registers (values (take (2 ^ (k - 2)) body)) s

-- the sketch of a header and the elements after it
abbrev pub sketch_in : Header → List (List ℕ) → Sketch
sketch_in h body = record { lg_k = h.lg_k; width = Hll8; content = content_of h.lg_k h.held body }

-- coupons ascend, none is repeated, and they are not too many for a table
pub record AreResolved (k : ℕ) (c : CouponTable) (body : List (List ℕ)) : Type 0 where
  pub settled : c.run.run ≡ c.run.used
  pub ascends : IsStrictlyIncreasing (take c.run.used (raws body))
  pub stays : c.added ≡ true → stage k c.lg_size c.run.used ≢ None

abbrev pub IsHeldResolved : ℕ → Held → List (List ℕ) → Type 0
IsHeldResolved k (Coupons c) body = AreResolved k c body
IsHeldResolved k (Registers s) body = Unit {0}

-- the sketch of a state can be read from the elements
abbrev pub IsResolved : Header → List (List ℕ) → Type 0
IsResolved h body = IsHeldResolved h.lg_k h.held body
