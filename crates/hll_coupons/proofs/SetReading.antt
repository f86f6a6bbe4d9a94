-- SPDX-License-Identifier: Apache-2.0
-- Lemmas on reading the buckets of a set.
use Rattle.std.proofs.Common.{◌≡◌, ℕ, ◌+◌, ◌-◌, ◌*◌, ◌^◌, ◌<◌, ◌≤◌, Bool, true, false, List, [], ◌∷◌, ◌++◌, length, take, drop, cond, All, refl, sym, ◌∙◌, ap, subst, arith, append_assoc}
use Rattle.std.specs.Cmp.{nat_cmp_total}
use Rattle.std.specs.FinSet.{contains, insert, len, from_list_push, nat_cmp-IsAntisymmetric}
use Rattle.std.proofs.lemmas.List.{append-nil, length-append, length-drop, length-take, take-append-drop}
use Rattle.std.specs.Int.{w32, from_le_bytes}
use Rattle.hll_coupons.specs.Coupons.{coupons_at, AreCoupons}
use Rattle.hll_coupons.specs.HashSet.{IsHashSet}
use Rattle.hll_coupons.specs.Pair.{IsPair, set_of, value_of}
use Rattle.hll_coupons.specs.Payload.{SetShape, HasSetCount, IsSetPayload, IsSetTable, set_count, set_coupons, set_buckets}
use Rattle.hll_coupons.specs.Probe.{Puts, PutsEach}
use Rattle.hll_coupons.specs.Table.{Table, coupons_in, coupons_of, empty_table}
use Rattle.hll_coupons.proofs.Fillings.{one_more}
use Rattle.hll_coupons.proofs.Payloads.{front_coupons, front_number}
use Rattle.hll_coupons.proofs.Buckets.{coupons_in-replicate}
use Rattle.hll_coupons.proofs.Reading.{AreCoupons-nil, AreCoupons-push, all_buckets, coupons_in-coupons, passed_over}
use Rattle.hll_coupons.proofs.Searching.{IsProbed-empty, PutsEach-push}
use Rattle.hll_coupons.proofs.TableLemmas.{IsTable-empty}

-- an empty set
pub IsHashSet-empty : (lg : ℕ) → lg ≤ 26 → IsHashSet (empty_table lg)
IsHashSet-empty lg small = record { table = IsTable-empty lg small; probed = IsProbed-empty (λ c. c) lg }

-- the coupons of the buckets so far are in the set, and the rest is to come
pub record ReadSoFar (compact : Bool) (buckets counter lg : ℕ) (all before : List ℕ) (t : Table) (cursor : List ℕ) : Type 0 where
  pub order : List ℕ
  pub read : all ≡ order ++ coupons_at compact (buckets - counter) cursor
  pub room : 4 * (buckets - counter) ≤ length cursor
  pub size : t.lg_size ≡ lg
  pub puts : PutsEach (λ c. c) lg before order t.buckets
  pub members : coupons_of t ≡ set_of order
  pub few : length order ≤ counter
  pub are : AreCoupons order
  pub set : IsHashSet t

pub read_none : (compact : Bool) (buckets : ℕ) (t : Table) (cursor : List ℕ) → t.lg_size ≤ 26 → t ≡ empty_table t.lg_size → 4 * buckets ≤ length cursor →
    ReadSoFar compact buckets 0 t.lg_size (coupons_at compact buckets cursor) t.buckets t cursor
read_none compact buckets t cursor small none there =
    let whole : buckets ≡ buckets - 0 = omega arith in
    record {
      order = [];
      read = ap (λ n. coupons_at compact n cursor) whole;
      room = omega (arith, there);
      size = refl;
      puts = refl;
      members = ap coupons_of none ∙ ap set_of (coupons_in-replicate (2 ^ t.lg_size));
      few = omega arith;
      are = AreCoupons-nil;
      set = subst IsHashSet (sym none) (IsHashSet-empty t.lg_size small);
    }

module _ (compact : Bool) (buckets counter lg : ℕ) (all before : List ℕ) (t : Table) (cursor : List ℕ) (so : ReadSoFar compact buckets counter lg all before t cursor) (left : counter < buckets)
    (w : ℕ) (rest : List ℕ) (is : w ≡ from_le_bytes w32 cursor) (rest_is : rest ≡ drop 4 cursor) where
  less : 4 * (buckets - (counter + 1)) ≤ length rest
  less = omega (arith, so.room, ap length rest_is, length-drop 4 cursor, left)

  -- an empty bucket is skipped
  pub read_over : w ≡ 0 → compact ≡ false → ReadSoFar compact buckets (counter + 1) lg all before t rest
  read_over zero' loose =
      let P : Bool → Type 0 = λ b. all ≡ so.order ++ coupons_at b (buckets - counter) cursor in
      let Q : Bool → Type 0 = λ b. all ≡ so.order ++ coupons_at b (buckets - (counter + 1)) rest in
      record {
        order = so.order;
        read = subst Q (sym loose) (passed_over buckets counter w cursor rest all so.order left (subst P loose so.read) is rest_is zero');
        room = less;
        size = so.size;
        puts = so.puts;
        members = so.members;
        few = omega (arith, so.few);
        are = so.are;
        set = so.set;
      }

  -- a raw coupon that has to be a coupon
  pub read_raw_coupon : (w ≡ 0 → compact ≡ true) → all ≡ so.order ++ w ∷ coupons_at compact (buckets - (counter + 1)) rest
  read_raw_coupon filled = all_buckets compact buckets counter w cursor rest all so.order left so.read is rest_is filled

  -- a new coupon is put
  pub read_more : (new : Table) → (w ≡ 0 → compact ≡ true) → 1 ≤ value_of w → contains (coupons_of t) w ≡ false → new.lg_size ≡ t.lg_size → Puts (λ c. c) t.lg_size t.buckets w new.buckets →
      coupons_of new ≡ insert (coupons_of t) w → IsHashSet new → ReadSoFar compact buckets (counter + 1) lg all before new rest
  read_more new filled valued fresh size put members set = record {
    order = so.order ++ w ∷ [];
    read = read_raw_coupon filled ∙ sym (append_assoc so.order (w ∷ []) (coupons_at compact (buckets - (counter + 1)) rest));
    room = less;
    size = size ∙ so.size;
    puts = PutsEach-push (λ c. c) lg before so.order t.buckets w new.buckets so.puts (subst (λ n. Puts (λ c. c) n t.buckets w new.buckets) so.size put);
    members = members ∙ ap (λ S. insert S w) so.members ∙ sym (from_list_push nat_cmp_total nat_cmp-IsAntisymmetric so.order w);
    few = omega (arith, so.few, length-append so.order (w ∷ []));
    are = AreCoupons-push so.order w so.are valued (ap (λ S. contains S w) (sym so.members) ∙ fresh);
    set = set;
  }

-- ---- the coupons alone

-- the coupons of the buckets so far, and the rest is to come
pub record CopiedSoFar (compact : Bool) (buckets counter : ℕ) (all order cursor : List ℕ) : Type 0 where
  pub read : all ≡ order ++ coupons_at compact (buckets - counter) cursor
  pub room : 4 * (buckets - counter) ≤ length cursor
  pub pairs : All IsPair order
  pub few : length order ≤ counter

pub copied_none : (compact : Bool) (buckets : ℕ) (order cursor : List ℕ) → order ≡ [] → 4 * buckets ≤ length cursor → CopiedSoFar compact buckets 0 (coupons_at compact buckets cursor) order cursor
copied_none compact buckets order cursor none there =
    let whole : buckets ≡ buckets - 0 = omega arith in
    record {
      read = ap (λ n. coupons_at compact n cursor) whole ∙ ap (λ xs. xs ++ coupons_at compact (buckets - 0) cursor) (sym none);
      room = omega (arith, there);
      pairs = subst (All IsPair) (sym none) (λ i d l. absurd (omega arith));
      few = omega (arith, ap length none);
    }

module _ (compact : Bool) (buckets counter : ℕ) (all order cursor : List ℕ) (so : CopiedSoFar compact buckets counter all order cursor) (left : counter < buckets)
    (w : ℕ) (rest : List ℕ) (is : w ≡ from_le_bytes w32 cursor) (rest_is : rest ≡ drop 4 cursor) where
  fewer : 4 * (buckets - (counter + 1)) ≤ length rest
  fewer = omega (arith, so.room, ap length rest_is, length-drop 4 cursor, left)

  -- an empty bucket is skipped
  pub copied_over : w ≡ 0 → compact ≡ false → CopiedSoFar compact buckets (counter + 1) all order rest
  copied_over zero' loose =
      let P : Bool → Type 0 = λ b. all ≡ order ++ coupons_at b (buckets - counter) cursor in
      let Q : Bool → Type 0 = λ b. all ≡ order ++ coupons_at b (buckets - (counter + 1)) rest in
      record {
        read = subst Q (sym loose) (passed_over buckets counter w cursor rest all order left (subst P loose so.read) is rest_is zero');
        room = fewer;
        pairs = so.pairs;
        few = omega (arith, so.few);
      }

  -- a raw coupon that has to be a coupon
  pub copied_raw_coupon : (w ≡ 0 → compact ≡ true) → all ≡ order ++ w ∷ coupons_at compact (buckets - (counter + 1)) rest
  copied_raw_coupon filled = all_buckets compact buckets counter w cursor rest all order left so.read is rest_is filled

  -- one more coupon
  pub copied_more : (w ≡ 0 → compact ≡ true) → IsPair w → (new : List ℕ) → new ≡ order ++ w ∷ [] → CopiedSoFar compact buckets (counter + 1) all new rest
  copied_more filled pair new grown = record {
    read = copied_raw_coupon filled ∙ sym (append_assoc order (w ∷ []) (coupons_at compact (buckets - (counter + 1)) rest)) ∙ ap (λ xs. xs ++ coupons_at compact (buckets - (counter + 1)) rest) (sym grown);
    room = fewer;
    pairs = subst (All IsPair) (sym grown) (one_more IsPair order w so.pairs pair);
    few = omega (arith, so.few, ap length grown, length-append order (w ∷ []));
  }

-- all were copied
pub copied_all : (compact : Bool) (buckets counter : ℕ) (all order cursor : List ℕ) → CopiedSoFar compact buckets counter all order cursor → buckets ≤ counter → order ≡ all
copied_all compact buckets counter all order cursor so done =
    let none : buckets - counter ≡ 0 = omega arith in
    sym (so.read ∙ ap (λ n. order ++ coupons_at compact n cursor) none ∙ ap (λ xs. order ++ xs) (nothing compact) ∙ append-nil order)
  where
    nothing : (b : Bool) → coupons_at b 0 cursor ≡ []
    nothing true = refl
    nothing false = refl

-- ---- the whole

-- there are no more buckets to read than the table has
pub set_buckets-le : (h : SetShape) (b : List ℕ) → HasSetCount h b → set_buckets h b ≤ 2 ^ h.lg_size
set_buckets-le h b few = of h.compact
  where
    of : (c : Bool) → cond c (set_count b) (2 ^ h.lg_size) ≤ 2 ^ h.lg_size
    of true = omega (arith, few.low)
    of false = omega arith

-- a prefix of the bytes is the payload
pub is_set_payload : (h : SetShape) (b : List ℕ) → HasSetCount h b → 4 + 4 * set_buckets h b ≤ length b → AreCoupons (set_coupons h b) → length (set_coupons h b) ≡ set_count b →
    IsSetPayload h (take (4 + 4 * set_buckets h b) b)
is_set_payload h b few there are number =
    let n : ℕ = 4 + 4 * set_buckets h b in
    let a : List ℕ = take n b in
    let cut : a ++ drop n b ≡ b = take-append-drop n b in
    let size : length a ≡ n = omega (arith, length-take n b) in
    let count : set_count a ≡ set_count b = front_number a (drop n b) b cut 0 (omega (arith, size)) in
    let buckets : set_buckets h a ≡ set_buckets h b = ap (λ m. cond h.compact m (2 ^ h.lg_size)) count in
    let coupons : set_coupons h a ≡ set_coupons h b =
    ap (λ m. coupons_at h.compact m (drop 4 a)) buckets ∙ front_coupons a (drop n b) b cut h.compact (set_buckets h b) 4 (omega (arith, size)) in
    record {
      count = record { whole = omega (arith, size); low = omega (arith, count, few.low) };
      size = size ∙ ap (λ m. 4 + 4 * m) (sym buckets);
      are_coupons = subst AreCoupons (sym coupons) are;
      number = ap length coupons ∙ number ∙ sym count;
    }

-- what holds after the buckets were read
pub record IsRead (h : SetShape) (b : List ℕ) (t : Table) : Type 0 where
  pub are : AreCoupons (set_coupons h b)
  pub table : IsSetTable h b t
  pub number : length (coupons_in t.buckets) ≡ length (set_coupons h b)

pub is_read : (h : SetShape) (b : List ℕ) (start t : Table) (n : ℕ) (rest : List ℕ) → start ≡ empty_table h.lg_size → t.lg_size ≡ start.lg_size → n ≡ set_buckets h b → rest ≡ drop 4 b →
    PutsEach (λ c. c) start.lg_size start.buckets (coupons_at h.compact n rest) t.buckets → AreCoupons (coupons_at h.compact n rest) → coupons_of t ≡ set_of (coupons_at h.compact n rest) →
    len (coupons_of t) ≡ length (coupons_in t.buckets) → IsRead h b t
is_read h b start t n rest empty size n_is rest_is puts are members distinct =
    let same : coupons_at h.compact n rest ≡ set_coupons h b = λ i. coupons_at h.compact (n_is i) (rest_is i) in
    let here : AreCoupons (set_coupons h b) = subst AreCoupons same are in
    record {
      are = here;
      table = record {
        size = size ∙ ap (λ (u : Table). u.lg_size) empty;
        buckets = subst (λ (u : Table). PutsEach (λ c. c) u.lg_size u.buckets (set_coupons h b) t.buckets) empty (subst (λ cs. PutsEach (λ c. c) start.lg_size start.buckets cs t.buckets) same puts);
      };
      number = sym distinct ∙ ap len (members ∙ ap set_of same) ∙ here.distinct;
    }

-- a copy of the coupons that a table is filled with
pub record IsCopy (compact : Bool) (buckets : ℕ) (cursor copy : List ℕ) : Type 0 where
  pub all : coupons_in copy ≡ coupons_at compact buckets cursor
  pub pairs : All IsPair (coupons_in copy)
  pub same : copy ≡ coupons_at compact buckets cursor

pub is_copy : (compact : Bool) (buckets : ℕ) (cursor items copy : List ℕ) → items ≡ coupons_at compact buckets cursor → All IsPair items → copy ≡ items → IsCopy compact buckets cursor copy
is_copy compact buckets cursor items copy is pairs copied =
    let here : All IsPair copy = subst (All IsPair) (sym copied) pairs in
    let full : coupons_in copy ≡ copy = coupons_in-coupons copy (λ i d l. (here i d l).valued) in
    record { all = full ∙ copied ∙ is; pairs = subst (All IsPair) (sym full) here; same = copied ∙ is }

-- the coupons of an image that are distinct
pub are_coupons : (all : List ℕ) → All IsPair all → len (set_of all) ≡ length all → AreCoupons all
are_coupons all pairs once = record { valued = λ i d l. (pairs i d l).valued; distinct = once }
