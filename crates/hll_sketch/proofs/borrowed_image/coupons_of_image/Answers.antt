-- SPDX-License-Identifier: Apache-2.0
use Rattle.std.proofs.Common.{◌≡◌, ◌<◌, ℕ, List, length, sym, ap, subst, ◌∙◌, arith}
use Rattle.std.specs.FinSet.{len}
use Rattle.std.specs.Int.{w32, from_le_bytes}
use Rattle.std.proofs.lemmas.List.{length-map}
use Rattle.std.proofs.lemmas.List.Elements.{All-from_get_or}
use Rattle.hll_coupons.specs.Coupons.{raw_coupons}
use Rattle.hll_coupons.specs.Pair.{set_of}
use Rattle.hll_sketch.specs.Image.{IsReadAs}
use Rattle.hll_sketch.specs.Value.{Sketch, coupons, IsTableFor}
use Rattle.hll_sketch.specs.declared.header.Header.{Header}
use Rattle.hll_sketch.proofs.CouponHeaders.{sketch_said, table_said}
use Rattle.hll_sketch.proofs.Elements.{list_of_table, set_of_table}
use Rattle.hll_sketch.proofs.borrowed_image.coupons_of_image.Goals as goal

pub invariant_of-result : goal.invariant_of-result
invariant_of-result c =
    let h : Header = c.args.header in
    let order : List ℕ = raw_coupons c.args.coupons.count c.args.coupons.bytes.now in
    let n : ℕ = length c.elements.result.now in
    let said = table_said c.args.image.now order c.requires.of h c.requires.header
    (All-from_get_or (λ n. n < 256) c.args.image.now 0 (λ i within. omega (arith, c.type_inv.image i))) c.requires.are in
    let same : length order ≡ n = ap length (sym c.elements.ensures) ∙ length-map c.elements.result.now (from_le_bytes w32) in
    let table : IsTableFor h.lg_k n h.lg_arr = subst (λ m. IsTableFor h.lg_k m h.lg_arr) same said.1 in
    record {
      legal = said.0;
      list = list_of_table h.lg_k n h.lg_arr table;
      least = λ other. (set_of_table h.lg_k n h.lg_arr table other).0;
      most = λ other. (set_of_table h.lg_k n h.lg_arr table other).1;
      set = λ other. (set_of_table h.lg_k n h.lg_arr table other).2;
      once = ap (λ xs. len (set_of xs)) c.elements.ensures ∙ c.requires.are.distinct ∙ same;
    }

pub returns : goal.returns
returns c =
    let h : Header = c.args.header in
    let order : List ℕ = raw_coupons c.args.coupons.count c.args.coupons.bytes.now in
    subst (IsReadAs c.args.image.now)
    (sketch_said c.args.image.now order c.requires.of h c.requires.header
    ∙ ap (λ xs. let x : Sketch = record { lg_k = h.lg_k; width = h.hll_type; content = coupons (set_of xs) h.lg_arr } in x) (sym c.elements.ensures)) c.requires.of.read
