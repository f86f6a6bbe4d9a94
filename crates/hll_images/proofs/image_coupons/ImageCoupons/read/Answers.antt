-- SPDX-License-Identifier: Apache-2.0
use Rattle.std.proofs.Common.{sym, ap}
use Rattle.hll_base.proofs.Errors.{IfErr-passed}
use Rattle.hll_coupons.specs.Coupons.{raw_coupons}
use Rattle.hll_coupons.specs.Fold.{fold_to}
use Rattle.hll_sketch.specs.Layout.{sketch_of}
use Rattle.hll_sketch.specs.Refusal.{IsRefusal}
use Rattle.hll_sketch.specs.declared.header.Header.{Header}
use Rattle.hll_images.proofs.ImageRegisters.{wants_memory, of_coupons, coupons_by_stage}
use Rattle.hll_images.proofs.image_coupons.ImageCoupons.read.Goals as goal

pub returns-in_err-raw_coupons-clause-err : goal.returns-in_err-raw_coupons-clause-err
returns-in_err-raw_coupons-clause-err g c =
    let b = c.args.image.now in
    let of = c.in-Some.ensures.some in
    let e = c.in_err-raw_coupons in
    IfErr-passed (IsRefusal b) c.from_residual.result e.field-0.0 c.from_residual.ensures.1 (wants_memory b of.sketch e.field-0.0 of.read e.ensures.err)

pub returns-in-Some-clause-ok : goal.returns-in-Some-clause-ok
returns-in-Some-clause-ok g c =
    let found = c.in-Some in
    of_coupons c.args.image.now (raw_coupons found.coupons.count found.coupons.bytes.now) c.in_ok-raw_coupons.raw_coupons.items c.args.header.lg_k found.ensures.some
    (ap (λ (h : Header). h.lg_k) c.requires.header) c.in_ok-raw_coupons.ensures.ok

pub returns-in_err-raw_coupons-2-clause-err : goal.returns-in_err-raw_coupons-2-clause-err
returns-in_err-raw_coupons-2-clause-err g c =
    let b = c.args.image.now in
    let of = c.in-Some-updatable_coupons.ensures.some in
    let e = c.in_err-raw_coupons-2 in
    IfErr-passed (IsRefusal b) c.from_residual-in_err-raw_coupons-2.result e.field-0.0 c.from_residual-in_err-raw_coupons-2.ensures.1 (wants_memory b of.sketch e.field-0.0 of.read e.ensures.err)

pub returns-in-Some-updatable_coupons-clause-ok : goal.returns-in-Some-updatable_coupons-clause-ok
returns-in-Some-updatable_coupons-clause-ok g c =
    let found = c.in-Some-updatable_coupons in
    of_coupons c.args.image.now (raw_coupons found.coupons.count found.coupons.bytes.now) c.in_ok-raw_coupons-2.raw_coupons.items c.args.header.lg_k found.ensures.some
    (ap (λ (h : Header). h.lg_k) c.requires.header) c.in_ok-raw_coupons-2.ensures.ok

pub coupons_of_sketch-requires : goal.coupons_of_sketch-requires
coupons_of_sketch-requires g c = coupons_by_stage c.args.image.now (sketch_of c.in_ok-sketch.sketch) c.in_ok-sketch.ensures.ok c.requires.stage

pub returns-in_err-raw_coupons-3-clause-err : goal.returns-in_err-raw_coupons-3-clause-err
returns-in_err-raw_coupons-3-clause-err g c =
    let b = c.args.image.now in
    let e = c.in_err-raw_coupons-3 in
    IfErr-passed (IsRefusal b) c.from_residual-in_err-raw_coupons-3.result e.field-0.0 c.from_residual-in_err-raw_coupons-3.ensures.1
    (wants_memory b (sketch_of c.in_ok-sketch.sketch) e.field-0.0 c.in_ok-sketch.ensures.ok e.ensures.err)

pub returns-clause-ok : goal.returns-clause-ok
returns-clause-ok g c =
    let k = c.lg_config_k.result in
    record {
      sketch = sketch_of c.in_ok-sketch.sketch;
      read = c.in_ok-sketch.ensures.ok;
      lg_k = sym c.lg_config_k.ensures.lg_k;
      are = ap (λ S. fold_to S k) c.in_ok-raw_coupons-3.ensures.ok;
    }
