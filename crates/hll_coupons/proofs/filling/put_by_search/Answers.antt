-- SPDX-License-Identifier: Apache-2.0
use Rattle.std.proofs.Common.{arith, ◌≡◌, ◌<◌, ◌^◌, ◌∙◌, ◌++◌, ◌∷◌, [], ℕ, List, All, refl, sym, ap, subst, length, map}
use Rattle.std.specs.Cmp.{nat_cmp_total}
use Rattle.std.specs.Bool.{OnTrue}
use Rattle.std.specs.Iterator.{Yields, YieldsFirst}
use Rattle.std.specs.FinSet.{insert, len, from_list_push, nat_cmp-IsAntisymmetric}
use Rattle.std.proofs.lemmas.List.{append-nil, length-append}
use Rattle.hll_coupons.specs.Keys.{key_of}
use Rattle.hll_coupons.specs.Pair.{IsPair, set_of}
use Rattle.hll_coupons.specs.Probe.{IsAbsent, IsProbed, Puts, PutsEach}
use Rattle.hll_coupons.specs.Table.{Table, IsTable, coupons_in, empty_table}
use Rattle.hll_coupons.proofs.Buckets.{coupons_in-replicate}
use Rattle.hll_coupons.proofs.Putting.{PutAt, put_at, absent_next, fresh_next, length-put, members-put, last_of_all}
use Rattle.hll_coupons.proofs.Searching.{IsProbed-empty, IsProbed-puts, PutsEach-push}
use Rattle.hll_coupons.proofs.TableLemmas.{IsTable-empty, full_of_valued}
use Rattle.hll_coupons.proofs.Yielded.{given}
use Rattle.hll_coupons.proofs.filling.put_by_search.Goals as goal

pub loop-entry-init : goal.loop-entry-init
loop-entry-init g c =
    let t : Table = c.args.into.now in
    let buckets : t.buckets ≡ (empty_table t.lg_size).buckets = ap (λ (u : Table). u.buckets) c.requires.none in
    let none : coupons_in t.buckets ≡ [] = ap coupons_in buckets ∙ coupons_in-replicate (2 ^ t.lg_size) in
    record {
      size = refl;
      buckets = refl;
      probed = subst (IsProbed (key_of c.args.by) t.lg_size) (sym buckets) (IsProbed-empty (key_of c.args.by) t.lg_size);
      members = ap set_of none;
      count = ap length none;
      table = subst IsTable (sym c.requires.none) (IsTable-empty t.lg_size c.requires.small);
    }

-- what holds for the next entry
record Next (key : ℕ → ℕ) (all yielded rest buckets : List ℕ) (entry : ℕ) : Type 0 where
  pair : IsPair entry
  absent : IsAbsent key buckets (key entry)
  fewer : length yielded < length all

next : (key : ℕ → ℕ) (all yielded rest buckets : List ℕ) (entry : ℕ) → all ≡ yielded ++ entry ∷ rest → All IsPair all → len (set_of (map key all)) ≡ length all →
    set_of (coupons_in buckets) ≡ set_of yielded → Next key all yielded rest buckets entry
next key all yielded rest buckets entry parts valued distinct members = record {
  pair = last_of_all IsPair all yielded rest entry parts valued;
  absent = absent_next key buckets yielded entry members (fresh_next key yielded rest entry (subst (λ xs. len (set_of (map key xs)) ≡ length xs) parts distinct));
  fewer = omega (arith, ap length parts, length-append yielded (entry ∷ rest));
}

pub put_bounded-requires-clause-valued : goal.put_bounded-requires-clause-valued
put_bounded-requires-clause-valued g c =
    let parts = given _ _ _ _ _ (c.into_iter-entry-iterator.ensures.into_iter_gives ∙ c.coupons_of_buckets-entry-items.ensures) c.loop-entry.yielded_by c.in-Some.ensures.steps in
    (next (key_of c.args.by) _ _ _ c.loop-entry.into.buckets _ parts c.requires.valued c.requires.distinct c.loop-entry.invariant.members).pair.valued

pub put_bounded-requires-clause-absent : goal.put_bounded-requires-clause-absent
put_bounded-requires-clause-absent g c =
    let parts = given _ _ _ _ _ (c.into_iter-entry-iterator.ensures.into_iter_gives ∙ c.coupons_of_buckets-entry-items.ensures) c.loop-entry.yielded_by c.in-Some.ensures.steps in
    (next (key_of c.args.by) _ _ _ c.loop-entry.into.buckets _ parts c.requires.valued c.requires.distinct c.loop-entry.invariant.members).absent

pub loop-entry-preserved : goal.loop-entry-preserved
loop-entry-preserved g c =
    let parts = given _ _ _ _ _ (c.into_iter-entry-iterator.ensures.into_iter_gives ∙ c.coupons_of_buckets-entry-items.ensures) c.loop-entry.yielded_by c.in-Some.ensures.steps in
    let inv = c.loop-entry.invariant in
    let key : ℕ → ℕ = key_of c.args.by in
    let entry : ℕ = c.in-Some.entry in
    let old : List ℕ = c.loop-entry.into.buckets in
    let new : List ℕ = c.put_bounded.new.table.buckets in
    let is = next key _ _ _ old entry parts c.requires.valued c.requires.distinct inv.members in
    let some : 0 < entry = full_of_valued entry is.pair.valued in
    let puts : Puts key c.args.into.now.lg_size old entry new =
    subst (λ n. Puts key n old entry new) inv.size (subst (λ b. OnTrue b (Puts key c.loop-entry.into.lg_size old entry new)) c.if-not-put_bounded.false c.put_bounded.ensures.buckets) in
    let put : PutAt old entry new = put_at key c.args.into.now.lg_size old entry new inv.probed.size is.absent puts in
    record {
      size = c.put_bounded.ensures.size ∙ inv.size;
      buckets = PutsEach-push key c.args.into.now.lg_size _ c.loop-entry.yielded old entry new inv.buckets puts;
      probed = IsProbed-puts key c.args.into.now.lg_size old entry new inv.probed (λ z. omega (arith, some, z)) puts;
      members = members-put old entry new some put ∙ ap (λ S. insert S entry) inv.members ∙ sym (from_list_push nat_cmp_total nat_cmp-IsAntisymmetric c.loop-entry.yielded entry);
      count = length-put old entry new some put ∙ omega (arith, inv.count, length-append c.loop-entry.yielded (entry ∷ []));
      table = c.put_bounded.ensures.table;
    }

-- all entries were put
whole : (all start left yielded : List ℕ) → start ≡ all → Yields (YieldsFirst (λ r. r)) start yielded left → left ≡ [] → all ≡ yielded
whole all start left yielded e y done = given all start left [] yielded e y done ∙ append-nil yielded

pub returns-clause-size : goal.returns-clause-size
returns-clause-size g c = c.loop-entry.invariant.size

pub returns-clause-buckets : goal.returns-clause-buckets
returns-clause-buckets g c =
    subst (λ xs. PutsEach (key_of c.args.by) c.args.into.now.lg_size c.args.into.now.buckets xs c.loop-entry.into.buckets) (sym (whole _ _ _ _ (c.into_iter-entry-iterator.ensures.into_iter_gives ∙ c.coupons_of_buckets-entry-items.ensures) c.loop-entry.yielded_by c.in-None.ensures.steps.0)) c.loop-entry.invariant.buckets

pub returns-clause-probed : goal.returns-clause-probed
returns-clause-probed g c = subst (λ n. IsProbed (key_of c.args.by) n c.loop-entry.into.buckets) (sym c.loop-entry.invariant.size) c.loop-entry.invariant.probed

pub returns-clause-members : goal.returns-clause-members
returns-clause-members g c = c.loop-entry.invariant.members ∙ ap set_of (sym (whole _ _ _ _ (c.into_iter-entry-iterator.ensures.into_iter_gives ∙ c.coupons_of_buckets-entry-items.ensures) c.loop-entry.yielded_by c.in-None.ensures.steps.0))

pub returns-clause-count : goal.returns-clause-count
returns-clause-count g c = c.loop-entry.invariant.count ∙ ap length (sym (whole _ _ _ _ (c.into_iter-entry-iterator.ensures.into_iter_gives ∙ c.coupons_of_buckets-entry-items.ensures) c.loop-entry.yielded_by c.in-None.ensures.steps.0))

pub returns-clause-table : goal.returns-clause-table
returns-clause-table g c = c.loop-entry.invariant.table
