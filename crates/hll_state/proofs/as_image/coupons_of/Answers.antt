-- SPDX-License-Identifier: Apache-2.0
use Rattle.std.proofs.Common.{◌≡◌, ℕ, List, length, take, sym, ap, subst, ◌∙◌}
use Rattle.std.specs.FinSet.{len}
use Rattle.std.specs.Int.{w32, from_le_bytes}
use Rattle.std.proofs.lemmas.List.{length-take-le, take-map}
use Rattle.hll_coupons.specs.Pair.{set_of}
use Rattle.hll_sketch.proofs.Elements.{list_of_table, set_of_table}
use Rattle.hll_sketch.specs.Value.{IsTableFor}
use Rattle.hll_state.proofs.Emptiness.{count}
use Rattle.hll_state.proofs.MergedStates.{own_table, as_table}
use Rattle.hll_state.proofs.Rooms.{used_within}
use Rattle.hll_state.proofs.as_image.coupons_of.Goals as goal

pub invariant_of-result : goal.invariant_of-result
invariant_of-result c =
    let k = c.args.lg_k in
    let t = c.args.coupons in
    let body : List (List ℕ) = c.args.body.now in
    let q : ℕ = c.resolved_size.result in
    let there = c.requires.within in
    let size : length (take t.run.used body) ≡ t.run.used = length-take-le t.run.used body (used_within k t.run.used (length body) there.used there.there) in
    let table : IsTableFor k (length (take t.run.used body)) q = subst (λ n. IsTableFor k n q) (sym size)
    (own_table k t body there c.requires.resolved q c.resolved_size.ensures.kept c.resolved_size.ensures.staged) in
    record {
      legal = c.requires.lg_k;
      list = list_of_table k (length (take t.run.used body)) q table;
      least = λ other. (set_of_table k (length (take t.run.used body)) q table other).0;
      most = λ other. (set_of_table k (length (take t.run.used body)) q table other).1;
      set = λ other. (set_of_table k (length (take t.run.used body)) q table other).2;
      once = ap (λ xs. len (set_of xs)) (sym (take-map (from_le_bytes w32) t.run.used body)) ∙ sym (count k t body there c.requires.resolved) ∙ sym size;
    }

pub returns : goal.returns
returns c =
    sym (as_table c.args.lg_k c.args.coupons c.args.body.now c.requires.within c.requires.resolved c.resolved_size.result c.resolved_size.ensures.kept c.resolved_size.ensures.staged)
