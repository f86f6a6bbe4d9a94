-- SPDX-License-Identifier: Apache-2.0
use Rattle.std.proofs.Common.{arith, ◌≡◌, ◌<◌, ◌+◌, ◌∙◌, All, ℕ, Some, List, sym, ap}
use Rattle.std.specs.Prelude.{max, unwrap_or}
use Rattle.std.proofs.lemmas.List.Elements.{All-from_get_or}
use Rattle.hll_registers.specs.FourBits.{exception_in, unboxed}
use Rattle.hll_registers.proofs.FourBitReading.{AgreeAbove, small_minimum}
use Rattle.hll_registers.proofs.FourBitStores.{joined, raised_at, unmarked}
use Rattle.hll_registers.proofs.exception_map.max_with_registers.Goals as goal

pub max_with_nibbles-requires-clause-small : goal.max_with_nibbles-requires-clause-small
max_with_nibbles-requires-clause-small g c =
    let fits : All (λ b. b < 256) c.args.nibbles.now = All-from_get_or (λ b. b < 256) c.args.nibbles.now 0 (λ i l. (c.type_inv.nibbles i).fits) in
    let parts : AgreeAbove c.args.lg_k c.args.minimum c.args.nibbles.now (unboxed c.args.map.now) = record { size = c.requires.size; fits = fits; map_for = c.requires.map; agree = c.requires.agree } in
    omega (arith, small_minimum parts)

pub max_with_exceptions-requires-clause-marked : goal.max_with_exceptions-requires-clause-marked
max_with_exceptions-requires-clause-marked g c s l other =
    let fits : All (λ b. b < 256) c.args.nibbles.now = All-from_get_or (λ b. b < 256) c.args.nibbles.now 0 (λ i l. (c.type_inv.nibbles i).fits) in
    let parts : AgreeAbove c.args.lg_k c.args.minimum c.args.nibbles.now (unboxed c.args.map.now) = record { size = c.requires.size; fits = fits; map_for = c.requires.map; agree = c.requires.agree } in
    sym (ap (λ e. exception_in e (c.args.first + s)) (ap unboxed c.in-Some.is ∙ ap (λ t. Some t) (sym c.deref.ensures)))
    ∙ unmarked parts c.args.first c.args.values.now c.requires.within c.requires.aligned c.requires.groups s (omega (arith, l, c.max_with_nibbles.auto.values)) other

pub returns-in-Some : goal.returns-in-Some
returns-in-Some g c =
    let first : ℕ = c.args.first in
    let V : List ℕ = c.args.values.now in
    let fits : All (λ b. b < 256) c.args.nibbles.now = All-from_get_or (λ b. b < 256) c.args.nibbles.now 0 (λ i l. (c.type_inv.nibbles i).fits) in
    let parts : AgreeAbove c.args.lg_k c.args.minimum c.args.nibbles.now (unboxed c.args.map.now) = record { size = c.requires.size; fits = fits; map_for = c.requires.map; agree = c.requires.agree } in
    joined parts first V c.requires.within c.requires.aligned c.requires.groups c.max_with_exceptions.new.values (omega (arith, c.max_with_exceptions.ensures.len, c.max_with_nibbles.auto.values))
    (λ s l.
    c.max_with_exceptions.ensures.raised s (omega (arith, l, c.max_with_nibbles.auto.values))
    ∙ (λ i. max (raised_at parts first V c.requires.within c.requires.aligned c.requires.groups c.max_with_nibbles.new.values c.max_with_nibbles.ensures s l i) (unwrap_or (exception_in (sym (ap unboxed c.in-Some.is ∙ ap (λ t. Some t) (sym c.deref.ensures)) i) (first + s)) 0)))

pub returns-in_default : goal.returns-in_default
returns-in_default g c =
    let first : ℕ = c.args.first in
    let V : List ℕ = c.args.values.now in
    let fits : All (λ b. b < 256) c.args.nibbles.now = All-from_get_or (λ b. b < 256) c.args.nibbles.now 0 (λ i l. (c.type_inv.nibbles i).fits) in
    let parts : AgreeAbove c.args.lg_k c.args.minimum c.args.nibbles.now (unboxed c.args.map.now) = record { size = c.requires.size; fits = fits; map_for = c.requires.map; agree = c.requires.agree } in
    joined parts first V c.requires.within c.requires.aligned c.requires.groups c.max_with_nibbles.new.values c.max_with_nibbles.auto.values
    (λ s l.
    let none : unwrap_or (exception_in (unboxed c.args.map.now) (first + s)) 0 ≡ 0 = ap (λ e. unwrap_or (exception_in (unboxed e) (first + s)) 0) c.in_default.is in
    omega (arith, raised_at parts first V c.requires.within c.requires.aligned c.requires.groups c.max_with_nibbles.new.values c.max_with_nibbles.ensures s l, none))
