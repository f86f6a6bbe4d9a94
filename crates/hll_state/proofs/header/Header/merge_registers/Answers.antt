-- SPDX-License-Identifier: Apache-2.0
use Rattle.std.proofs.Common.{◌≡◌, ℕ, ◌-◌, ◌^◌, ◌≤◌, min, ◌&&◌, cond, leb, ◌++◌, length, take, drop, refl, ap, ◌∙◌, arith}
use Rattle.std.proofs.Math.Seq.{take-append_seam}
use Rattle.std.proofs.lemmas.List.{length-take-le}
use Rattle.hll_base.specs.Join.{join}
use Rattle.hll_coupons.specs.Fold.{fold_to, pairs}
use Rattle.hll_registers.specs.State.{cleared_state}
use Rattle.hll_registers.specs.Store.{Stored}
use Rattle.hll_sketch.specs.Merging.{state_after_merge}
use Rattle.hll_sketch.specs.Value.{Sketch, pairs_of}
use Rattle.hll_state.specs.Counter.{sketch_in}
use Rattle.hll_state.specs.Registers.{values}
use Rattle.hll_state.proofs.MergedRegisters.{registers_merged}
use Rattle.hll_state.proofs.header.Header.merge_registers.Goals as goal

pub returns-clause-merged : goal.returns-clause-merged
returns-clause-merged g c = λ some _.
    let x : Stored = g.R.Registers.stored c.args.src.now in
    let s : Sketch = sketch_in c.args.self.now c.args.body.now in
    let e : ℕ = c.min-lg_k.result in
    let n : ℕ = c.two_to.result in
    let new = c.max_with.new.elements in
    let body = c.make_registers.new.body in
    let least : e ≡ min s.lg_k x.lg_k = omega (arith, c.min-lg_k.ensures, c.lg_k.ensures.lg_k) in
    let room : 2 ^ (e - 2) ≤ length body = omega (arith, c.if-not-make_registers.ensures.room refl, c.make_registers.auto.body, c.resolve.auto.body) in
    let long : 2 ^ (e - 2) ≡ length new = omega (arith, c.max_with.auto.elements, c.two_to.ensures, length-take-le n body (omega (arith, room, c.two_to.ensures))) in
    let first : take (2 ^ (e - 2)) (new ++ drop n body) ≡ new = ap (λ m. take m (new ++ drop n body)) long ∙ take-append_seam new (drop n body) in
    let own : values (take n body) ≡ fold_to (pairs_of s) e = ap (λ m. values (take m body)) c.two_to.ensures ∙ c.if-not-make_registers.ensures.made refl ∙ ap (λ (y : Sketch). fold_to (pairs_of y) e) c.resolve.ensures.same in
    let joined : values (take (2 ^ (e - 2)) (new ++ drop n body)) ≡ join (fold_to (pairs_of s) e) (fold_to (pairs x.registers) e) =
    ap values first ∙ c.max_with.ensures.joined ∙ ap (λ V. join V (fold_to (pairs x.registers) e)) own in
    let state : c.state_after_merge.result ≡ state_after_merge c.args.self.now.lg_k s x.lg_k x.state =
    c.state_after_merge.ensures ∙ ap (λ b. cond (b && leb x.lg_k c.args.self.now.lg_k) x.state cleared_state) (c.is_empty-is_empty.ensures.empty c.args.body.now c.requires some) in
    registers_merged c.args.self.now.lg_k s x e _ c.state_after_merge.result least joined state

pub returns-clause-takes : goal.returns-clause-takes
returns-clause-takes g c = λ done len enough.
    let x : Stored = g.R.Registers.stored c.args.src.now in
    let least : c.min-lg_k.result ≡ min c.args.self.now.lg_k x.lg_k = omega (arith, c.min-lg_k.ensures, c.lg_k.ensures.lg_k) in
    omega (arith, enough, ap (λ k. 2 ^ (k - 2)) least)
