-- SPDX-License-Identifier: Apache-2.0
use Rattle.std.proofs.Common.{◌≡◌, ℕ, false, None, sym, ap, subst, ◌∙◌}
use Rattle.hll_base.specs.declared.hll_type.HllType.TheVariants.{Hll4, Hll6, Hll8}
use Rattle.hll_registers.specs.FourBits.{FourBits}
use Rattle.hll_sketch.specs.Layout as layouts
use Rattle.hll_sketch.specs.Layout.{SketchLayout, layout_of, content_in, sketch_of, IsLayoutFor}
use Rattle.std.proofs.lemmas.Result.{on_ok_weaker, on_err_weaker}
use Rattle.hll_sketch.specs.Union.{gadget_of}
use Rattle.hll_sketch.specs.Value.{is_empty}
use Rattle.hll_sketch.proofs.Merges.{merged_as, needed_as}
use Rattle.hll_sketch.proofs.union.HllUnion.merge_content.Goals as goal

pub returns-in-Array4-clause-ok : goal.returns-in-Array4-clause-ok
returns-in-Array4-clause-ok g c =
    let k : ℕ = c.sketch.inside.lg_config_k in
    let a : FourBits = c.in-Array4.array in
    let kept : layouts.array Hll4 a.stored a.exceptions ≡ layout_of c.sketch.inside.mode = ap layout_of (sym c.in-Array4.is) in
    let is : record { lg_k = k; layout = layouts.array Hll4 a.stored a.exceptions } ≡ c.args.sketch.now = (λ i. let y : SketchLayout = record { lg_k = k; layout = kept i } in y) ∙ c.sketch.view_is in
    let legal : IsLayoutFor k (layouts.array Hll4 a.stored a.exceptions) = subst (IsLayoutFor k) (sym kept) c.sketch.invariant.1 in
    on_ok_weaker c.merge_registers.result (λ e. e ∙ merged_as c.args.self.now.lg_max_k k (gadget_of c.args.self.now) c.args.sketch.now Hll4 a.stored a.exceptions is legal) c.merge_registers.ensures.ok

pub returns-in-Array4-clause-needed : goal.returns-in-Array4-clause-needed
returns-in-Array4-clause-needed g c =
    let k : ℕ = c.sketch.inside.lg_config_k in
    let a : FourBits = c.in-Array4.array in
    let kept : layouts.array Hll4 a.stored a.exceptions ≡ layout_of c.sketch.inside.mode = ap layout_of (sym c.in-Array4.is) in
    let is : record { lg_k = k; layout = layouts.array Hll4 a.stored a.exceptions } ≡ c.args.sketch.now = (λ i. let y : SketchLayout = record { lg_k = k; layout = kept i } in y) ∙ c.sketch.view_is in
    let legal : IsLayoutFor k (layouts.array Hll4 a.stored a.exceptions) = subst (IsLayoutFor k) (sym kept) c.sketch.invariant.1 in
    on_err_weaker c.merge_registers.result (needed_as k (gadget_of c.args.self.now) (gadget_of c.args.self.now).content c.args.sketch.now Hll4 a.stored a.exceptions is legal) c.merge_registers.ensures.needed

pub returns-in-Array6-clause-ok : goal.returns-in-Array6-clause-ok
returns-in-Array6-clause-ok g c =
    let k : ℕ = c.sketch.inside.lg_config_k in
    let x : SketchLayout = record { lg_k = k; layout = layouts.array Hll6 c.in-Array6.array None } in
    let is : x ≡ c.args.sketch.now = (λ i. let y : SketchLayout = record { lg_k = k; layout = layout_of (sym c.in-Array6.is i) } in y) ∙ c.sketch.view_is in
    let legal : IsLayoutFor k (layouts.array Hll6 c.in-Array6.array None) = subst (IsLayoutFor k) (ap layout_of c.in-Array6.is) c.sketch.invariant.1 in
    on_ok_weaker c.merge_registers-in-Array6.result (λ e. e ∙ merged_as c.args.self.now.lg_max_k k (gadget_of c.args.self.now) c.args.sketch.now Hll6 c.in-Array6.array None is legal) c.merge_registers-in-Array6.ensures.ok

pub returns-in-Array6-clause-needed : goal.returns-in-Array6-clause-needed
returns-in-Array6-clause-needed g c =
    let k : ℕ = c.sketch.inside.lg_config_k in
    let x : SketchLayout = record { lg_k = k; layout = layouts.array Hll6 c.in-Array6.array None } in
    let is : x ≡ c.args.sketch.now = (λ i. let y : SketchLayout = record { lg_k = k; layout = layout_of (sym c.in-Array6.is i) } in y) ∙ c.sketch.view_is in
    let legal : IsLayoutFor k (layouts.array Hll6 c.in-Array6.array None) = subst (IsLayoutFor k) (ap layout_of c.in-Array6.is) c.sketch.invariant.1 in
    on_err_weaker c.merge_registers-in-Array6.result (needed_as k (gadget_of c.args.self.now) (gadget_of c.args.self.now).content c.args.sketch.now Hll6 c.in-Array6.array None is legal) c.merge_registers-in-Array6.ensures.needed

pub returns-in-Array8-clause-ok : goal.returns-in-Array8-clause-ok
returns-in-Array8-clause-ok g c =
    let k : ℕ = c.sketch.inside.lg_config_k in
    let x : SketchLayout = record { lg_k = k; layout = layouts.array Hll8 c.in-Array8.array None } in
    let is : x ≡ c.args.sketch.now = (λ i. let y : SketchLayout = record { lg_k = k; layout = layout_of (sym c.in-Array8.is i) } in y) ∙ c.sketch.view_is in
    let legal : IsLayoutFor k (layouts.array Hll8 c.in-Array8.array None) = subst (IsLayoutFor k) (ap layout_of c.in-Array8.is) c.sketch.invariant.1 in
    on_ok_weaker c.merge_array8.result (λ e. e ∙ merged_as c.args.self.now.lg_max_k k (gadget_of c.args.self.now) c.args.sketch.now Hll8 c.in-Array8.array None is legal) c.merge_array8.ensures.ok

pub returns-in-Array8-clause-needed : goal.returns-in-Array8-clause-needed
returns-in-Array8-clause-needed g c =
    let k : ℕ = c.sketch.inside.lg_config_k in
    let x : SketchLayout = record { lg_k = k; layout = layouts.array Hll8 c.in-Array8.array None } in
    let is : x ≡ c.args.sketch.now = (λ i. let y : SketchLayout = record { lg_k = k; layout = layout_of (sym c.in-Array8.is i) } in y) ∙ c.sketch.view_is in
    let legal : IsLayoutFor k (layouts.array Hll8 c.in-Array8.array None) = subst (IsLayoutFor k) (ap layout_of c.in-Array8.is) c.sketch.invariant.1 in
    on_err_weaker c.merge_array8.result (needed_as k (gadget_of c.args.self.now) (gadget_of c.args.self.now).content c.args.sketch.now Hll8 c.in-Array8.array None is legal) c.merge_array8.ensures.needed

pub merge_registers-requires : goal.merge_registers-requires
merge_registers-requires g c =
    let k : ℕ = c.sketch.inside.lg_config_k in
    let is : record { lg_k = k; layout = layouts.array Hll4 c.in-Array4.array.stored c.in-Array4.array.exceptions } ≡ c.args.sketch.now =
    (λ i. let y : SketchLayout = record { lg_k = k; layout = layout_of (sym c.in-Array4.is i) } in y) ∙ c.sketch.view_is in
    record { some = subst (λ y. is_empty (sketch_of y) ≡ false) (sym is) c.requires.some }

pub merge_array8-requires : goal.merge_array8-requires
merge_array8-requires g c =
    let k : ℕ = c.sketch.inside.lg_config_k in
    let is : record { lg_k = k; layout = layouts.array Hll8 c.in-Array8.array None } ≡ c.args.sketch.now =
    (λ i. let y : SketchLayout = record { lg_k = k; layout = layout_of (sym c.in-Array8.is i) } in y) ∙ c.sketch.view_is in
    record { some = subst (λ y. is_empty (sketch_of y) ≡ false) (sym is) c.requires.some }
