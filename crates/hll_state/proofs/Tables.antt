-- SPDX-License-Identifier: Apache-2.0
-- Coupons of a state as the content of a sketch, and what becomes of them when more are added.
use Rattle.std.proofs.Common.{◌≡◌, ℕ, Bool, true, false, sym, ap, ◌∙◌, refl, None, Some}
use Rattle.std.specs.FinSet.{empty, len, union}
use Rattle.hll_coupons.proofs.Unions.{union-empty, union_none}
use Rattle.hll_coupons.specs.Pair.{Pairs}
use Rattle.hll_sketch.proofs.Adding.{added_again}
use Rattle.hll_sketch.specs.Adding.{content_for, content_with}
use Rattle.hll_sketch.specs.Stage.{stage}
use Rattle.hll_sketch.specs.Value.{Content, coupons}
use Rattle.hll_state.specs.Counter.{content_of_coupons}
use Rattle.hll_state.specs.declared.header.CouponTable.{CouponTable}

-- coupons in the table that they need, from a size on, or in registers
abbrev pub needed : ℕ → ℕ → Pairs → Content
needed k p S = content_for k S (stage k p (len S))

needed-none : (k p : ℕ) (S : Pairs) → content_with k (coupons S p) empty ≡ needed k p S
needed-none k p S = ap (needed k p) (union_none S)

needed-more : (k p : ℕ) (S T : Pairs) → content_with k (needed k p S) T ≡ needed k p (union S T)
needed-more k p S T =
    ap (λ c. content_with k c T) (sym (needed-none k p S)) ∙ added_again k (coupons S p) empty T ∙ ap (λ U. needed k p (union S U)) (union-empty T)

-- whether coupons were added before or not
pub content_with-coupons : (k : ℕ) (c : CouponTable) (S T : Pairs) → content_with k (content_of_coupons k c S) T ≡ needed k c.lg_size (union S T)
content_with-coupons k c S T = of c.added refl
  where
    of : (b : Bool) → c.added ≡ b → content_with k (content_of_coupons k c S) T ≡ needed k c.lg_size (union S T)
    of true e = ap (λ b. content_with k (content_of_coupons k (record c { added = b }) S) T) e ∙ needed-more k c.lg_size S T
    of false e = ap (λ b. content_with k (content_of_coupons k (record c { added = b }) S) T) e

-- coupons without a table are registers, in the cleared state
pub needed_in_registers : (k : ℕ) (c : CouponTable) (S : Pairs) → c.added ≡ true → stage k c.lg_size (len S) ≡ None → content_of_coupons k c S ≡ content_for k S None
needed_in_registers k c S added none = ap (λ b. content_of_coupons k (record c { added = b }) S) added ∙ ap (content_for k S) none

pub needed-added : (k : ℕ) (c : CouponTable) (S : Pairs) → c.added ≡ true → content_of_coupons k c S ≡ needed k c.lg_size S
needed-added k c S added = ap (λ b. content_of_coupons k (record c { added = b }) S) added

-- coupons that have a table, of this size
pub content-taken : (k size : ℕ) (c : CouponTable) (S : Pairs) → c.added ≡ false → size ≡ c.lg_size → content_of_coupons k c S ≡ coupons S size
content-taken k size c S e is = ap (λ b. content_of_coupons k (record c { added = b }) S) e ∙ ap (coupons S) (sym is)

pub content-staged : (k size : ℕ) (c : CouponTable) (S : Pairs) → c.added ≡ true → stage k c.lg_size (len S) ≡ Some size → content_of_coupons k c S ≡ coupons S size
content-staged k size c S e is = needed-added k c S e ∙ ap (content_for k S) is
