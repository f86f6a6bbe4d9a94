-- SPDX-License-Identifier: Apache-2.0
-- What the header of an image says (docs/FORMAT.md, "The image").
use Rattle.std.specs.Prelude.{ℕ, ◌==◌, if◌then◌else◌, List}
use Rattle.hll_sketch.specs.declared.header.Header.{Header}
use Rattle.hll_sketch.specs.declared.header.Stage as stages
use Rattle.hll_sketch.specs.Image.{lg_k_byte, table_byte, state_byte, is_flagged, stage_bits, width_bits, width_of_bits}

-- the stage of a number below 3
abbrev pub stage_of_bits : ℕ → stages.Stage
stage_of_bits n = if n == 0 then stages.TheVariants.List else (if n == 1 then stages.TheVariants.Set else stages.TheVariants.Hll)

abbrev pub number_of_stage : stages.Stage → ℕ
number_of_stage stages.TheVariants.List = 0
number_of_stage stages.TheVariants.Set = 1
number_of_stage stages.TheVariants.Hll = 2

-- the parts of the header of these bytes
abbrev pub header_of : List ℕ → Header
header_of b = record {
  lg_k = lg_k_byte b;
  hll_type = width_of_bits (width_bits b);
  stage = stage_of_bits (stage_bits b);
  lg_arr = table_byte b;
  empty = is_flagged 4 b;
  compact = is_flagged 8 b;
  out_of_order = is_flagged 16 b;
  state_byte = state_byte b;
}
