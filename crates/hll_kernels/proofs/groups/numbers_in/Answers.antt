-- SPDX-License-Identifier: Apache-2.0
use Rattle.std.proofs.Common.{◌≡◌, ◌∙◌, ◌/◌, ◌%◌, ◌+◌, ◌*◌, ◌^◌, ap, replicate}
use Rattle.std.specs.Simd.Lanes.{zip2}
use Rattle.hll_kernels.specs.Lanes.{words_of}
use Rattle.hll_kernels.proofs.SixBitLanes.{number_lanes}
use Rattle.hll_kernels.proofs.groups.numbers_in.Goals as goal
use mathlib.Core.List.{map}

pub returns : goal.returns
returns c =
    let xs = c.args.block.now in
    let ws : c.words_in-words.result ≡ words_of xs = c.words_in-words.ensures in
    let f0 : c.field.result ≡ map (λ w. w / 2 ^ 0 % 64) (words_of xs) = c.field.ensures ∙ ap (map (λ w. w / 2 ^ 0 % 64)) ws in
    let f1 : c.field-2.result ≡ map (λ w. w / 2 ^ 8 % 64) (words_of xs) = c.field-2.ensures ∙ ap (map (λ w. w / 2 ^ 8 % 64)) ws in
    let f2 : c.field-3.result ≡ map (λ w. w / 2 ^ 16 % 64) (words_of xs) = c.field-3.ensures ∙ ap (map (λ w. w / 2 ^ 16 % 64)) ws in
    let f3 : c.field-4.result ≡ map (λ w. w / 2 ^ 24 % 64) (words_of xs) = c.field-4.ensures ∙ ap (map (λ w. w / 2 ^ 24 % 64)) ws in
    (λ i. zip2 (λ a b. (a + b) % 4294967296)
    (zip2 (λ a b. (a + b) % 4294967296) (f0 i) (zip2 (λ a b. a * 2 ^ b % 4294967296) (f1 i) (replicate 4 6)))
    (zip2 (λ a b. (a + b) % 4294967296) (zip2 (λ a b. a * 2 ^ b % 4294967296) (f2 i) (replicate 4 12)) (zip2 (λ a b. a * 2 ^ b % 4294967296) (f3 i) (replicate 4 18))))
    ∙ number_lanes 4 xs c.told-block c.requires
