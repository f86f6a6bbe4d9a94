-- SPDX-License-Identifier: Apache-2.0
use Rattle.std.proofs.Common.{◌≡◌, ℕ, List, drop, sym, ap, ◌∙◌}
use Rattle.hll_base.specs.declared.hll_type.HllType.TheVariants.{Hll8}
use Rattle.hll_sketch.specs.Value.{empty_sketch}
use Rattle.hll_state.specs.Counter.{sketch_in}
use Rattle.hll_state.specs.Memory.{HasHeader}
use Rattle.hll_state.specs.declared.header.Header.{Header}
use Rattle.hll_state.proofs.States.{same_header, same_widths}
use Rattle.hll_c.proofs.state.make.Goals as goal

pub returns-clause-has : goal.returns-clause-has
returns-clause-has c = same_header c.close.new.elements c.set_open.new.elements c.new-header.result c.close.ensures.header c.set_open.ensures.header c.set_open.auto.elements

pub returns-clause-made : goal.returns-clause-made
returns-clause-made c =
    let n : List (List ℕ) = c.set_open.new.elements in
    let h : Header = c.new-header.result in
    let has : HasHeader n h = same_header c.close.new.elements n h c.close.ensures.header c.set_open.ensures.header c.set_open.auto.elements in
    let is : sketch_in h (drop 10 n) ≡ empty_sketch c.args.lg_k Hll8 = ap (λ h. sketch_in h (drop 10 n)) c.new-header.ensures in
    record {
      sketch = record { state = record { header = h; has = has }; is = sym is };
      widths = λ g had. same_widths n h has g had ∙ ap (λ (h : Header). h.widths) c.new-header.ensures;
      lg_k_open = c.set_open.ensures.lg_k_open;
    }
