-- SPDX-License-Identifier: Apache-2.0
-- The boolean equality of sketches is the equality of their values.
use Rattle.std.proofs.Common.{◌≡◌, ℕ, sym, ap, ◌∙◌, arith}
use Rattle.hll_coupons.specs.Table.{coupons_of}
use Rattle.hll_registers.specs.Store.{Stored}
use Rattle.hll_sketch.specs.Value.{IsEqualContent}
use Rattle.hll_sketch.specs.Layout.{Layout, list, set, array, IsLayoutFor, width_of, content_in}
use Rattle.hll_sketch.specs.Same.{SameIsEqual, of_list, of_set, of_array, key, same_sketch-from, same_sketch-to}

content_from : (k m : ℕ) (p q : Layout) → IsLayoutFor k p → IsLayoutFor m q → key p ≡ key q → (width_of p ≡ width_of q) × IsEqualContent (content_in p) (content_in q)
content_from k m (list w t) (list v u) a b e =
    let widths : w ≡ v = cc in
    let same : coupons_of t ≡ coupons_of u = cc in
    (widths, (same, (λ z. b, λ z. a)))
content_from k m (list w t) (set v u) a b e = absurd (cc)
content_from k m (list w t) (array v y f) a b e = absurd (cc)
content_from k m (set w t) (list v u) a b e = absurd (cc)
content_from k m (set w t) (set v u) a b e =
    let widths : w ≡ v = cc in
    let same : coupons_of t ≡ coupons_of u = cc in
    (widths, (same, (λ z. absurd (omega (arith, z, a.0)), λ z. absurd (omega (arith, z, b.0)))))
content_from k m (set w t) (array v y f) a b e = absurd (cc)
content_from k m (array w x d) (list v u) a b e = absurd (cc)
content_from k m (array w x d) (set v u) a b e = absurd (cc)
content_from k m (array w x d) (array v y f) a b e =
    let widths : w ≡ v = cc in
    let same : x ≡ y = cc in
    (widths, (ap (λ (z : Stored). z.registers) same, ap (λ (z : Stored). z.state) same))

content_to : (k m : ℕ) (p q : Layout) → k ≡ m → IsLayoutFor k p → IsLayoutFor m q → width_of p ≡ width_of q → IsEqualContent (content_in p) (content_in q) → key p ≡ key q
content_to k m (list w t) (list v u) l a b e h = λ i. of_list (e i) (h.0 i)
content_to k m (list w t) (set v u) l a b e h = absurd (omega (arith, h.1.0 a, b.0))
content_to k m (list w t) (array v y f) l a b e h = absurd h
content_to k m (set w t) (list v u) l a b e h = absurd (omega (arith, h.1.1 b, a.0))
content_to k m (set w t) (set v u) l a b e h = λ i. of_set (e i) (h.0 i)
content_to k m (set w t) (array v y f) l a b e h = absurd h
content_to k m (array w x d) (list v u) l a b e h = absurd h
content_to k m (array w x d) (set v u) l a b e h = absurd h
content_to k m (array w x d) (array v y f) l a b e h = λ i. of_array (e i) (record { lg_k = (a ∙ l ∙ sym b) i; registers = h.0 i; state = h.1 i })

pub same_is_equal : SameIsEqual
same_is_equal x y a b = (
  λ h.
      let e = same_sketch-from x y h in
      let c = content_from x.lg_k y.lg_k x.layout y.layout a b e.1 in
      record { lg_k = e.0; width = c.0; content = c.1 },
  λ h. same_sketch-to x y h.lg_k (content_to x.lg_k y.lg_k x.layout y.layout h.lg_k a b h.width h.content),
)
