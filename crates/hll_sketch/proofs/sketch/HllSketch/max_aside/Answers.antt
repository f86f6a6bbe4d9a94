-- SPDX-License-Identifier: Apache-2.0
use Rattle.std.proofs.Common.{arith}
use Rattle.hll_registers.specs.Store.{Stored}
use Rattle.hll_sketch.specs.Layout.{SketchLayout, layout_of}
use Rattle.hll_sketch.proofs.Merges.{max_aside_as}
use Rattle.hll_sketch.proofs.sketch.HllSketch.max_aside.Goals as goal

pub returns-clause-ok : goal.returns-clause-ok
returns-clause-ok g c =
    let source : Stored = g.R.Registers.stored c.args.source.now in
    let x : SketchLayout = record { lg_k = c.self.inside.lg_config_k; layout = layout_of c.self.inside.mode } in
    max_aside_as x c.args.self.now c.in_ok-merged.merged c.merge_from.new.dst source c.min-lg_k.result c.self.view_is c.requires.width
    (omega (arith, c.min-lg_k.ensures, c.lg_k.ensures.lg_k)) c.in_ok-merged.ensures.ok c.merge_from.ensures
