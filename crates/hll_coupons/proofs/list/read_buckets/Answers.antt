-- SPDX-License-Identifier: Apache-2.0
use Rattle.std.proofs.Common.{◌≡◌, ℕ, ◌+◌, ◌-◌, ◌^◌, ◌<◌, ◌≤◌, max, true, false, List, [], ◌∷◌, ◌++◌, length, drop, map, ap, sym, subst, refl, ◌∙◌, arith, append_assoc, replicate}
use Rattle.std.specs.FinSet.{contains, insert, contains-from_list_nat}
use Rattle.std.specs.Int.{w32, from_le_bytes}
use Rattle.std.proofs.lemmas.Bool.{cond-false, false_from_ne_true, true≢false}
use Rattle.std.proofs.lemmas.List.{append-nil, drop_all, length-append, length-map}
use Rattle.hll_coupons.specs.Pair.{Pairs, value_of, set_of}
use Rattle.hll_coupons.specs.Table.{Table, coupons_in, filled_from_front, empty_table, coupons_with, coupons_of}
use Rattle.hll_coupons.specs.Coupons.{coupons_at, AreCoupons}
use Rattle.hll_coupons.proofs.Members.{insert-bound}
use Rattle.hll_coupons.proofs.Merging.{length-raw_coupons}
use Rattle.hll_coupons.proofs.Buckets.{coupons_in-replicate}
use Rattle.hll_coupons.proofs.Reading.{among, among-nil, element_read, element_passed, no_value, twice, AreCoupons-push, AreCoupons-nil}
use Rattle.hll_coupons.proofs.list.read_buckets.Goals as goal
use Rattle.hll_coupons.proofs.list.read_buckets.Goals.{else-is_empty-via-then-is_empty+else-not-compact, else-is_empty-via-else-is_empty, then-value-eq0-via-then-value-eq0, then-value-eq0-via-else-value-eq0+then-contains, then-raw-greatest+else-is_empty+else-value-eq0+else-contains, else-raw-greatest}

-- an empty table is filled from the first bucket on with no coupons
empty_filled : (lg : ℕ) → empty_table lg ≡ filled_from_front lg []
empty_filled lg = let whole : 2 ^ lg ≡ 2 ^ lg - 0 = omega arith in ap (λ n. let t : Table = record { lg_size = lg; buckets = replicate n 0 } in t) whole

-- a set has no coupon above its bound
above : (coupons : Pairs) (coupon greatest : ℕ) → ((c : ℕ) → contains coupons c ≡ true → c ≤ greatest) → greatest < coupon → contains coupons coupon ≡ false
above coupons coupon greatest bound more = false_from_ne_true (contains coupons coupon) (λ there. let low : coupon ≤ greatest = bound coupon there in omega (arith, low, more))

pub loop-element-init : goal.loop-element-init
loop-element-init g c =
    let none : coupons_in c.args.list.now.buckets ≡ [] = ap (λ (t : Table). coupons_in t.buckets) c.requires.none ∙ coupons_in-replicate (2 ^ c.args.list.now.lg_size) in
    let whole : coupons_at c.args.compact c.args.buckets c.args.cursor ≡ among c.args.compact (map (from_le_bytes w32) c.elements_of_raw_coupons-element-items.result.now) =
    ap (coupons_at c.args.compact c.args.buckets) (sym c.remaining.ensures) ∙ ap (among c.args.compact) (sym c.elements_of_raw_coupons-element-items.ensures) in
    record {
      read = whole ∙ (λ i. sym none i ++ among c.args.compact (map (from_le_bytes w32) c.elements_of_raw_coupons-element-items.result.now));
      size = refl;
      few = omega (arith, ap length none);
      front = c.requires.none ∙ empty_filled c.args.list.now.lg_size ∙ ap (filled_from_front c.args.list.now.lg_size) (sym none);
      are = subst AreCoupons (sym none) AreCoupons-nil;
      valued = omega arith;
      bound = λ q member. absurd (true≢false (sym member ∙ ap (λ xs. contains (set_of xs) q) none ∙ contains-from_list_nat [] q));
    }

pub loop-element-preserved-then-not-compact : goal.loop-element-preserved-then-not-compact
loop-element-preserved-then-not-compact g c =
    let inv = c.loop-element.invariant in
    let items = c.elements_of_raw_coupons-element-items.result.now in
    let i = c.loop-element.element-index in
    let order : List ℕ = coupons_in c.loop-element.list.buckets in
    let zero' : c.from_le_bytes.result ≡ 0 = sym c.from_raw-coupon.ensures ∙ c.is_empty.ensures.0 c.if-is_empty.true in
    let loose : coupons_at false c.args.buckets c.args.cursor ≡ order ++ among false (map (from_le_bytes w32) (drop i items)) =
    subst (λ b. coupons_at b c.args.buckets c.args.cursor ≡ order ++ among b (map (from_le_bytes w32) (drop i items))) c.if-not-compact.true inv.read in
    record {
      read = subst (λ b. coupons_at b c.args.buckets c.args.cursor ≡ order ++ among b (map (from_le_bytes w32) (drop (i + 1) items))) (sym c.if-not-compact.true)
          (element_passed items i c.from_le_bytes.result [] (coupons_at false c.args.buckets c.args.cursor) order c.loop-element-test.true loose c.from_le_bytes.ensures zero');
      size = inv.size;
      few = omega (arith, inv.few);
      front = inv.front;
      are = inv.are;
      valued = inv.valued;
      bound = inv.bound;
    }

pub returns-then-value-eq0-clause-err : goal.returns-then-value-eq0-clause-err
returns-then-value-eq0-clause-err g c =
    let inv = c.loop-element.invariant in
    let items = c.elements_of_raw_coupons-element-items.result.now in
    let i = c.loop-element.element-index in
    let w : ℕ = c.from_le_bytes.result in
    let order : List ℕ = coupons_in c.loop-element.list.buckets in
    let rest : List ℕ = among c.args.compact (map (from_le_bytes w32) (drop (i + 1) items)) in
    let same : c.from_raw-coupon.result ≡ w = c.from_raw-coupon.ensures in
    let filled : w ≡ 0 → c.args.compact ≡ true = λ z. elim c.else-is_empty.branch [
      | else-is_empty-via-then-is_empty+else-not-compact v ↦ v.if-not-compact.false
      | else-is_empty-via-else-is_empty v ↦ absurd (true≢false (sym (c.is_empty.ensures.1 (same ∙ z)) ∙ v.if-is_empty.false))
    ] in
    let all : coupons_at c.args.compact c.args.buckets c.args.cursor ≡ order ++ w ∷ rest =
    element_read c.args.compact items i w [] (coupons_at c.args.compact c.args.buckets c.args.cursor) order c.loop-element-test.true inv.read c.from_le_bytes.ensures filled in (
      c.new.ensures,
      λ are. elim c.then-value-eq0.branch [
        | then-value-eq0-via-then-value-eq0 v ↦ no_value order rest w (ap value_of (sym same) ∙ sym c.value.ensures.value ∙ v.if-value-eq0.true) (subst AreCoupons all are)
        | then-value-eq0-via-else-value-eq0+then-contains v ↦
            let there : contains (coupons_of c.loop-element.list) c.from_raw-coupon.result ≡ true = sym v.contains.ensures ∙ v.if-contains.true in
            twice order rest w (ap (contains (coupons_of c.loop-element.list)) (sym same) ∙ there) (subst AreCoupons all are)
      ],
    )

pub push-requires-clause-valued : goal.push-requires-clause-valued
push-requires-clause-valued g c = elim c.if-raw-greatest.branch [
  | then-raw-greatest+else-is_empty+else-value-eq0+else-contains v ↦ omega (arith, v.if-value-eq0.false, v.value.ensures.value)
  | else-raw-greatest v ↦ omega (arith, v.if-raw-greatest.false, c.raw.ensures, c.loop-element.invariant.valued)
]

pub push-requires-clause-room : goal.push-requires-clause-room
push-requires-clause-room g c =
    let inv = c.loop-element.invariant in
    let items = c.elements_of_raw_coupons-element-items.result.now in
    let count : length items ≡ c.args.buckets = sym (length-map items (from_le_bytes w32)) ∙ ap length c.elements_of_raw_coupons-element-items.ensures ∙ length-raw_coupons c.args.buckets c.remaining.result.now in
    let room : c.args.buckets ≤ 2 ^ c.loop-element.list.lg_size = subst (λ lg. c.args.buckets ≤ 2 ^ lg) (sym inv.size) c.requires.room in
    omega (arith, inv.few, c.loop-element-test.true, count, room)

pub push-requires-clause-fresh : goal.push-requires-clause-fresh
push-requires-clause-fresh g c = elim c.if-raw-greatest.branch [
  | then-raw-greatest+else-is_empty+else-value-eq0+else-contains v ↦ sym v.contains.ensures ∙ v.if-contains.false
  | else-raw-greatest v ↦ above (coupons_of c.loop-element.list) c.from_raw-coupon.result c.loop-element.greatest c.loop-element.invariant.bound (omega (arith, v.if-raw-greatest.false, c.raw.ensures))
]

pub loop-element-preserved : goal.loop-element-preserved
loop-element-preserved g c =
    let inv = c.loop-element.invariant in
    let items = c.elements_of_raw_coupons-element-items.result.now in
    let i = c.loop-element.element-index in
    let w : ℕ = c.from_le_bytes.result in
    let order : List ℕ = coupons_in c.loop-element.list.buckets in
    let rest : List ℕ = among c.args.compact (map (from_le_bytes w32) (drop (i + 1) items)) in
    let same : c.from_raw-coupon.result ≡ w = c.from_raw-coupon.ensures in
    let filled : w ≡ 0 → c.args.compact ≡ true = λ z. elim c.if-raw-greatest.branch [
      | then-raw-greatest+else-is_empty+else-value-eq0+else-contains v ↦ elim v.else-is_empty.branch [
        | else-is_empty-via-then-is_empty+else-not-compact u ↦ u.if-not-compact.false
        | else-is_empty-via-else-is_empty u ↦ absurd (true≢false (sym (v.is_empty.ensures.1 (same ∙ z)) ∙ u.if-is_empty.false))
      ]
      | else-raw-greatest v ↦ absurd (omega (arith, v.if-raw-greatest.false, c.raw.ensures, same, z))
    ] in
    let all : coupons_at c.args.compact c.args.buckets c.args.cursor ≡ order ++ w ∷ rest =
    element_read c.args.compact items i w [] (coupons_at c.args.compact c.args.buckets c.args.cursor) order c.loop-element-test.true inv.read c.from_le_bytes.ensures filled in
    let new : contains (coupons_of c.loop-element.list) c.from_raw-coupon.result ≡ false = elim c.if-raw-greatest.branch [
      | then-raw-greatest+else-is_empty+else-value-eq0+else-contains v ↦ sym v.contains.ensures ∙ v.if-contains.false
      | else-raw-greatest v ↦ above (coupons_of c.loop-element.list) c.from_raw-coupon.result c.loop-element.greatest inv.bound (omega (arith, v.if-raw-greatest.false, c.raw.ensures))
    ] in
    let has_value : 1 ≤ value_of w = elim c.if-raw-greatest.branch [
      | then-raw-greatest+else-is_empty+else-value-eq0+else-contains v ↦ omega (arith, v.if-value-eq0.false, v.value.ensures.value, ap value_of same)
      | else-raw-greatest v ↦ omega (arith, v.if-raw-greatest.false, c.raw.ensures, same, inv.valued)
    ] in
    let came : coupons_with order c.from_raw-coupon.result ≡ order ++ w ∷ [] =
    cond-false (contains (coupons_of c.loop-element.list) c.from_raw-coupon.result) order (order ++ c.from_raw-coupon.result ∷ []) new ∙ ap (λ z. order ++ z ∷ []) same in
    let held_new : coupons_in c.push.new.self.buckets ≡ order ++ w ∷ [] = c.push.ensures.order ∙ came in
    let lg : c.push.new.self.lg_size ≡ c.loop-element.list.lg_size = ap (λ (t : Table). t.lg_size) c.push.ensures.buckets in
    record {
      read = all ∙ sym (append_assoc order (w ∷ []) rest) ∙ ap (λ xs. xs ++ rest) (sym held_new);
      size = lg ∙ inv.size;
      few = omega (arith, inv.few, ap length held_new, length-append order (w ∷ []));
      front = c.push.ensures.buckets ∙ (λ i. filled_from_front (sym lg i) (sym c.push.ensures.order i));
      are = subst AreCoupons (sym held_new) (AreCoupons-push order w inv.are has_value (ap (contains (coupons_of c.loop-element.list)) (sym same) ∙ new));
      valued = omega (arith, inv.valued, c.max-greatest.ensures);
      bound = λ q member.
          let more : contains (insert (coupons_of c.loop-element.list) c.from_raw-coupon.result) q ≡ true = ap (λ s. contains s q) (sym c.push.ensures.members) ∙ member in
          let low : q ≤ max c.loop-element.greatest c.from_raw-coupon.result = insert-bound (coupons_of c.loop-element.list) c.from_raw-coupon.result c.loop-element.greatest inv.bound q more in
          omega (arith, low, c.max-greatest.ensures, c.raw.ensures);
    }

pub returns-clause-ok : goal.returns-clause-ok
returns-clause-ok g c =
    let inv = c.loop-element.invariant in
    let items = c.elements_of_raw_coupons-element-items.result.now in
    let order : List ℕ = coupons_in c.loop-element.list.buckets in
    let nothing : among c.args.compact (map (from_le_bytes w32) (drop c.loop-element.element-index items)) ≡ [] =
    ap (λ xs. among c.args.compact (map (from_le_bytes w32) xs)) (drop_all c.loop-element.element-index items c.loop-element-test.false) ∙ among-nil c.args.compact in
    let whole : coupons_at c.args.compact c.args.buckets c.args.cursor ≡ order = inv.read ∙ ap (λ xs. order ++ xs) nothing ∙ append-nil order in (
      inv.front ∙ (λ i. filled_from_front (inv.size i) (sym whole i)),
      subst AreCoupons (sym whole) inv.are,
    )
