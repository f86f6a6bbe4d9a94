-- SPDX-License-Identifier: Apache-2.0
use Rattle.std.proofs.Common.{◌≡◌, ◌+◌, ◌*◌, ◌-◌, ◌≤◌, ℕ, List, ◌++◌, length, take, drop, ap, ◌∙◌, arith}
use Rattle.std.proofs.lemmas.List.{length-append, length-drop, length-take-le}
use borrow.Rule.Slice.PartMut.{put_mid}
use Rattle.hll_base.specs.Join.{join}
use Rattle.hll_state.specs.Registers.{values}
use Rattle.hll_state.proofs.Parts.{JoinedBelow, joined_none, joined_more, joined_all, registers_part}
use Rattle.hll_state.proofs.Values.{HaveFour}
use Rattle.hll_state.proofs.registers.max_from_in_lanes.Goals as goal

-- the maximum of the elements before `end` is taken once that of the elements from `at` on is taken
next : (from at end : ℕ) (R : List ℕ) (first now part : List (List ℕ)) → HaveFour first → length now ≡ length first → from + 4 * length first ≤ length R
    → JoinedBelow at first now (take (4 * length first) (drop from R)) → at ≤ end → end ≤ length now → length part ≡ length (take (end - at) (drop at now))
    → values part ≡ join (values (take (end - at) (drop at now))) (take (4 * length (take (end - at) (drop at now))) (drop (from + 4 * at) R))
    → JoinedBelow end first (put_mid at (end - at) now part) (take (4 * length first) (drop from R))
next from at end R first now part four same within so le inside long is =
    let n : ℕ = length first in
    let size : length (take (4 * n) (drop from R)) ≡ 4 * n = length-take-le (4 * n) (drop from R) (omega (arith, length-drop from R, within)) in
    let few : length (take (end - at) (drop at now)) ≡ end - at = length-take-le (end - at) (drop at now) (omega (arith, length-drop at now, inside)) in
    joined_more at end first now part (take (4 * n) (drop from R)) four same size so le inside long
    (is ∙ ap (λ m. join (values (take (end - at) (drop at now))) (take (4 * m) (drop (from + 4 * at) R))) few
    ∙ ap (join (values (take (end - at) (drop at now)))) (registers_part from at end n R le (omega (arith, inside, same))))

-- writing the elements from an index on keeps their number
put_length : (at : ℕ) (now part : List (List ℕ)) → at ≤ length now → length part ≡ length (take (length now - at) (drop at now)) → length (put_mid at (length now - at) now part) ≡ length now
put_length at now part le long =
    let k : ℕ = length now - at in
    omega (
      arith,
      le,
      long,
      length-take-le k (drop at now) (omega (arith, length-drop at now)),
      length-append (take at now) (part ++ drop k (drop at now)),
      length-append part (drop k (drop at now)),
      length-drop k (drop at now),
      length-drop at now,
      length-take-le at now le,
    )

pub loop-at-init : goal.loop-at-init
loop-at-init g c =
    (joined_none c.args.elements.now (take (4 * length c.args.elements.now) (drop c.args.first (g.R.Registers.stored c.args.src.now).registers)), omega arith)

pub loop-at-preserved : goal.loop-at-preserved
loop-at-preserved g c = (
  next c.args.first c.loop-at.at (c.loop-at.at + 16) (g.R.Registers.stored c.args.src.now).registers c.args.elements.now c.loop-at.elements c.max_64.new.elements
      c.told-elements c.loop-at.auto.elements (omega (arith, c.requires.within, c.requires.legal.registers.size)) c.loop-at.invariant.0 (omega arith) c.loop-at-test.true c.max_64.auto.elements c.max_64.ensures,
  omega (arith, c.loop-at-test.true, c.loop-at.auto.elements),
)

pub returns-then-at-elements : goal.returns-then-at-elements
returns-then-at-elements g c =
    let R : List ℕ = (g.R.Registers.stored c.args.src.now).registers in
    let first : List (List ℕ) = c.args.elements.now in
    let now : List (List ℕ) = c.loop-at.elements in
    let at : ℕ = c.loop-at.at in
    let n : ℕ = length first in
    let within : c.args.first + 4 * n ≤ length R = omega (arith, c.requires.within, c.requires.legal.registers.size) in
    let size : length (take (4 * n) (drop c.args.first R)) ≡ 4 * n = length-take-le (4 * n) (drop c.args.first R) (omega (arith, length-drop c.args.first R, within)) in
    let last : JoinedBelow (length now) first (put_mid at (length now - at) now c.max_part.new.elements) (take (4 * n) (drop c.args.first R)) =
    next c.args.first at (length now) R first now c.max_part.new.elements c.told-elements c.loop-at.auto.elements within c.loop-at.invariant.0 (omega (arith, c.loop-at.invariant.1, c.loop-at.auto.elements)) (omega arith) c.max_part.auto.elements c.max_part.ensures in
    joined_all (length now) first (put_mid at (length now - at) now c.max_part.new.elements) (take (4 * n) (drop c.args.first R)) c.told-elements (put_length at now c.max_part.new.elements (omega (arith, c.loop-at.invariant.1, c.loop-at.auto.elements)) c.max_part.auto.elements ∙ c.loop-at.auto.elements) size last (omega (arith, put_length at now c.max_part.new.elements (omega (arith, c.loop-at.invariant.1, c.loop-at.auto.elements)) c.max_part.auto.elements))

pub returns-else-at-elements : goal.returns-else-at-elements
returns-else-at-elements g c =
    let R : List ℕ = (g.R.Registers.stored c.args.src.now).registers in
    let n : ℕ = length c.args.elements.now in
    let within : c.args.first + 4 * n ≤ length R = omega (arith, c.requires.within, c.requires.legal.registers.size) in
    let size : length (take (4 * n) (drop c.args.first R)) ≡ 4 * n = length-take-le (4 * n) (drop c.args.first R) (omega (arith, length-drop c.args.first R, within)) in
    joined_all c.loop-at.at c.args.elements.now c.loop-at.elements (take (4 * n) (drop c.args.first R)) c.told-elements c.loop-at.auto.elements size c.loop-at.invariant.0 c.if-at-elements.false
