-- SPDX-License-Identifier: Apache-2.0
-- What is written for a legal sketch is an image of it.
use Rattle.std.proofs.Common.{◌≡◌, ℕ, ◌+◌, ◌*◌, ◌/◌, ◌%◌, ◌^◌, ◌<◌, ◌≤◌, zero, suc, Bool, true, false, cond, eqb, List, [], ◌∷◌, ◌++◌, length, get_or, drop, All, refl, sym, ap, subst, ◌∙◌, arith, inl, inr}
use Rattle.std.specs.FinSet.{len, contains, contains-from_list}
use Rattle.std.specs.Cmp.{nat_cmp_total}
use Rattle.std.specs.Ordering.{nat_cmp, eq_by_cmp}
use Rattle.std.specs.List.{list_any}
use Rattle.std.proofs.lemmas.Nat.{from_le_bytes-to_le_bytes_4, pow_below}
use Rattle.std.proofs.lemmas.Bool.{eqb-true, eq-eqb, ne_eqb, cond-false, cond-true, or_left, or_right}
use Rattle.std.proofs.lemmas.List.{append-nil}
use Rattle.std.proofs.lemmas.List.Elements.{All-from_get_or}
use Rattle.hll_coupons.specs.Pair.{Pairs, IsPair, set_of, value_of}
use Rattle.hll_coupons.specs.Coupons.{raw_coupons, coupons_at, coupon_bytes, AreCoupons, IsAscending, mode_byte, list_bytes, set_bytes}
use Rattle.hll_coupons.specs.Table.{filled_from_front}
use Rattle.hll_coupons.specs.Payload.{list_buckets, list_coupons, set_count, set_coupons}
use Rattle.hll_base.specs.declared.hll_type.HllType.{HllType}
use Rattle.hll_base.specs.declared.hll_type.HllType.TheVariants.{Hll4, Hll6, Hll8}
use Rattle.hll_coupons.proofs.Ascending.{len-ascending, written_once}
use Rattle.hll_coupons.proofs.Greatest.{itself}
use Rattle.hll_coupons.proofs.Payloads.{raw_coupons-written, length-coupon_bytes, front_coupons}
use Rattle.hll_registers.specs.declared.estimate_state.EstimateState.{EstimateState}
use Rattle.hll_registers.specs.State.{IsState}
use Rattle.hll_kernels.specs.Packed.{AreRegisters}
use Rattle.hll_kernels.specs.Packed.{minimum}
use Rattle.hll_registers.specs.Exceptions.{exceptions}
use Rattle.hll_registers.specs.Payload.{flag_of, hll4_bytes, WritesRegisters, IsHll4Payload, Hll4Shape, registers_of}
use Rattle.hll_arrays.proofs.Written.{written_hll8, state_hll8, registers_hll8, written_hll6, state_hll6, registers_hll6, written_hll4, state_hll4, registers_hll4}
use Rattle.hll_sketch.specs.Value.{Sketch, Content, coupons, registers, ArePairs, IsLgK, IsLegalContent, IsEqual, IsEqualContent}
use Rattle.hll_sketch.specs.Image.{width_of_bits, list_shape, set_shape, IsListImage, Image, list, set, hll8, hll6, hll4}
use Rattle.hll_sketch.proofs.LegalImages.{ArePairs-set_of}
use Rattle.hll_sketch.specs.Written.{coupon_image, WritesContent, Written, WrittenIsImage, HaveSameSize, SameBytes, IsReadBack, ListIsReadBack}
use Rattle.hll_sketch.proofs.Images.{one_image}

-- ---- the mode byte

width_back : (stage : ℕ) (w : HllType) → stage < 3 → width_of_bits (mode_byte stage w / 4 % 4) ≡ w
width_back zero Hll4 h = refl
width_back zero Hll6 h = refl
width_back zero Hll8 h = refl
width_back (suc zero) Hll4 h = refl
width_back (suc zero) Hll6 h = refl
width_back (suc zero) Hll8 h = refl
width_back (suc (suc n)) w h = two n w (omega arith)
  where
    two : (n : ℕ) (w : HllType) → n < 1 → width_of_bits (mode_byte (suc (suc n)) w / 4 % 4) ≡ w
    two zero Hll4 h = refl
    two zero Hll6 h = refl
    two zero Hll8 h = refl
    two (suc n) w h = absurd (omega arith)

width_low : (stage : ℕ) (w : HllType) → stage < 3 → mode_byte stage w / 4 % 4 < 3
width_low stage Hll4 h = omega arith
width_low stage Hll6 h = omega arith
width_low stage Hll8 h = omega arith

stage_low : (stage : ℕ) (w : HllType) → stage < 3 → mode_byte stage w % 4 ≡ stage
stage_low stage Hll4 h = omega arith
stage_low stage Hll6 h = omega arith
stage_low stage Hll8 h = omega arith

-- ---- coupons that were written

has-at : (xs : List ℕ) (i : ℕ) → i < length xs → list_any (eq_by_cmp nat_cmp (get_or xs i 0)) xs ≡ true
has-at [] i h = absurd (omega arith)
has-at (x ∷ xs) zero h = or_left (eq_by_cmp nat_cmp x x) (list_any (eq_by_cmp nat_cmp x) xs) (itself x x refl)
has-at (x ∷ xs) (suc i) h = or_right (eq_by_cmp nat_cmp (get_or xs i 0) x) (list_any (eq_by_cmp nat_cmp (get_or xs i 0)) xs) (has-at xs i (omega arith))

-- the list has each member of the set once
pub record ListsOnce (order : List ℕ) (S : Pairs) : Type 0 where
  pub members : set_of order ≡ S
  pub once : length order ≡ len S

lists_once : (order : List ℕ) (S : Pairs) → IsAscending order S → ListsOnce order S
lists_once order S h = record { members = h.members; once = len-ascending order S h }

module _ (k : ℕ) (w : HllType) (S : Pairs) (order : List ℕ) (lg_k : IsLgK k) (are : ArePairs S) (lists : ListsOnce order S) where
  pair_at : (i : ℕ) → i < length order → IsPair (get_or order i 0)
  pair_at i h = are (get_or order i 0) (ap (λ T. contains T (get_or order i 0)) (sym lists.members) ∙ contains-from_list nat_cmp_total order (get_or order i 0) ∙ has-at order i h)

  valued : All (λ c. 1 ≤ value_of c) order
  valued = All-from_get_or (λ c. 1 ≤ value_of c) order 0 (λ i h. (pair_at i h).valued)

  fit : All (λ c. c < 2 ^ 32) order
  fit = All-from_get_or (λ c. c < 2 ^ 32) order 0 (λ i h. let p : IsPair (get_or order i 0) = pair_at i h in omega (arith, p.small))

  are_coupons : AreCoupons order
  are_coupons = record { valued = valued; distinct = ap len lists.members ∙ sym lists.once }

  back : raw_coupons (length order) (coupon_bytes order) ≡ order
  back = ap (raw_coupons (length order)) (sym (append-nil (coupon_bytes order))) ∙ raw_coupons-written order [] fit

  -- ---- a list

  abbrev L : List ℕ
  L = list_bytes k w order

  is_compact : (e : Bool) → eqb (cond e 12 8 / 8 % 2) 1 ≡ true
  is_compact true = refl
  is_compact false = refl

  is_empty_flag : (e : Bool) → eqb (cond e 12 8 / 4 % 2) 1 ≡ e
  is_empty_flag true = refl
  is_empty_flag false = refl

  no_buckets : (n : ℕ) → cond (eqb n 0) 0 n ≡ n
  no_buckets zero = refl
  no_buckets (suc n) = cond-false (eqb (suc n) 0) 0 (suc n) (ne_eqb (suc n) 0 (λ e. omega arith))

  buckets : list_buckets (list_shape L) ≡ length order
  buckets = (λ i. cond (is_empty_flag (eqb (length order) 0) i) 0 (cond (is_compact (eqb (length order) 0) i) (length order) 8)) ∙ no_buckets (length order)

  coupons_are : list_coupons (list_shape L) (drop 8 L) ≡ order
  coupons_are = (λ i. coupons_at (is_compact (eqb (length order) 0) i) (buckets i) (coupon_bytes order)) ∙ back

  pub is_list_image : len S ≤ 8 → IsListImage L
  is_list_image few = record {
    header = record { whole = omega arith; family = refl; version = refl; lg_k = lg_k; width = width_low 0 w (omega arith); stage_is = stage_low 0 w (omega arith); preamble = refl };
    table = refl;
    payload = record {
      count = record {
        low = omega (arith, lists.once);
        flag = (λ t. eqb-true (length order) 0 (sym (is_empty_flag (eqb (length order) 0)) ∙ t), λ z. is_empty_flag (eqb (length order) 0) ∙ eq-eqb (length order) 0 z);
      };
      size = length-coupon_bytes order ∙ ap (λ n. 4 * n) (sym buckets);
      are_coupons = subst AreCoupons (sym coupons_are) are_coupons;
      number = ap length coupons_are;
    };
  }

  pub list_image : len S ≤ 8 → Image L (record { lg_k = k; width = w; content = coupons S 3 })
  list_image few = list (is_list_image few) (sym (λ i. let y : Sketch = record { lg_k = k; width = width_back 0 w (omega arith) i; content = coupons ((ap set_of coupons_are ∙ lists.members) i) 3 } in y))

  -- bytes after it are not read
  pub read_back : (more : List ℕ) → len S ≤ 8 → IsReadBack L order more
  read_back more few = record {
    image = is_list_image few;
    size = let n : length (coupon_bytes order) ≡ 4 * length order = length-coupon_bytes order in omega (arith, n, buckets);
    table = ap (filled_from_front 3) (sym (front_coupons (coupon_bytes order) more (coupon_bytes order ++ more) refl (list_shape L).compact (list_buckets (list_shape L)) 0
        (omega (arith, length-coupon_bytes order, buckets))) ∙ coupons_are);
  }

  -- ---- a set

  pub set_image : (p : ℕ) → 5 ≤ p → p + 3 ≤ k → len S < 2 ^ p → Image (set_bytes k w p order) (record { lg_k = k; width = w; content = coupons S p })
  set_image p low high few = set (record {
    header = record { whole = omega arith; family = refl; version = refl; lg_k = lg_k; width = width_low 1 w (omega arith); stage_is = stage_low 1 w (omega arith); preamble = refl };
    table = record { low = low; high = high };
    payload = record {
      count = record { whole = omega arith; low = omega (arith, count, lists.once) };
      size = let e : length (coupon_bytes order) ≡ 4 * length order = length-coupon_bytes order in omega (arith, count);
      are_coupons = subst AreCoupons (sym coupons_are) are_coupons;
      number = ap length coupons_are ∙ sym count;
    };
  }) (sym (λ i. let y : Sketch = record { lg_k = k; width = width_back 1 w (omega arith) i; content = coupons ((ap set_of coupons_are ∙ lists.members) i) p } in y))
    where
      small : length order < 2 ^ 32
      small = omega (arith, lists.once, lg_k.high, pow_below p 32 (omega (arith, lg_k.high)))

      count : set_count (drop 8 (set_bytes k w p order)) ≡ length order
      count = from_le_bytes-to_le_bytes_4 (length order) small

      coupons_are : set_coupons (set_shape (set_bytes k w p order)) (drop 8 (set_bytes k w p order)) ≡ order
      coupons_are = ap (λ n. raw_coupons n (coupon_bytes order)) count ∙ back

-- ---- registers

flag_back : (s : EstimateState) → eqb (flag_of s / 16 % 2) 1 ≡ s.out_of_order
flag_back s = of s.out_of_order
  where
    of : (b : Bool) → eqb (cond b 16 0 / 16 % 2) 1 ≡ b
    of true = refl
    of false = refl

flag_back4 : (s : EstimateState) → eqb ((8 + flag_of s) / 16 % 2) 1 ≡ s.out_of_order
flag_back4 s = of s.out_of_order
  where
    of : (b : Bool) → eqb ((8 + cond b 16 0) / 16 % 2) 1 ≡ b
    of true = refl
    of false = refl

compact_back4 : (s : EstimateState) → eqb ((8 + flag_of s) / 8 % 2) 1 ≡ true
compact_back4 s = of s.out_of_order
  where
    of : (b : Bool) → eqb ((8 + cond b 16 0) / 8 % 2) 1 ≡ true
    of true = refl
    of false = refl

module _ (k : ℕ) (R : List ℕ) (state : EstimateState) (lg_k : IsLgK k) (are : AreRegisters k R) (is : IsState state) where
  registers_image : (w : HllType) (bytes : List ℕ) → WritesRegisters bytes k w R state → Image bytes (record { lg_k = k; width = w; content = registers R state })
  registers_image Hll8 bytes h = rw h (hll8 (record {
    header = record { whole = omega arith; family = refl; version = refl; lg_k = lg_k; width = omega arith; stage_is = refl; preamble = refl };
    width = refl;
    payload = written_hll8 k R state lg_k.low lg_k.high are is;
  }) (sym (λ i. let y : Sketch = record { lg_k = k; width = Hll8; content = registers (registers_hll8 k R state lg_k.low lg_k.high are is i) (state_hll8 k R state lg_k.low lg_k.high are is (eqb (flag_of state / 16 % 2) 1) (flag_back state) i) } in y)))
  registers_image Hll6 bytes h = rw h (hll6 (record {
    header = record { whole = omega arith; family = refl; version = refl; lg_k = lg_k; width = omega arith; stage_is = refl; preamble = refl };
    width = refl;
    payload = written_hll6 k R state lg_k.low lg_k.high are is;
  }) (sym (λ i. let y : Sketch = record { lg_k = k; width = Hll6; content = registers (registers_hll6 k R state lg_k.low lg_k.high are is i) (state_hll6 k R state lg_k.low lg_k.high are is (eqb (flag_of state / 16 % 2) 1) (flag_back state) i) } in y)))
  registers_image Hll4 bytes h = rw h.is (hll4 (record {
    header = record { whole = omega arith; family = refl; version = refl; lg_k = lg_k; width = omega arith; stage_is = refl; preamble = refl };
    width = refl;
    payload = subst (λ c. IsHll4Payload (shape c) payload) (sym (compact_back4 state)) (written_hll4 k R state lg_k.low lg_k.high are is h.order true h.ascending);
  }) (sym (λ i. let y : Sketch = record { lg_k = k; width = Hll4; content = registers ((ap (λ c. registers_of (shape c) payload) (compact_back4 state) ∙ registers_hll4 k R state lg_k.low lg_k.high are is h.order true h.ascending) i) (state_hll4 k R state lg_k.low lg_k.high are is h.order true h.ascending (eqb ((8 + flag_of state) / 16 % 2) 1) (flag_back4 state) i) } in y)))
    where
      payload : List ℕ
      payload = drop 8 (hll4_bytes k R state h.order)

      shape : Bool → Hll4Shape
      shape c = record { lg_k = k; minimum = minimum R; compact = c; lg_table = 0 }

-- ---- every legal sketch

content_image : (bytes : List ℕ) (k : ℕ) (w : HllType) (c : Content) → IsLgK k → IsLegalContent k c → WritesContent bytes k w c → Image bytes (record { lg_k = k; width = w; content = c })
content_image bytes k w (registers R state) lg h written = registers_image k R state lg h.0 h.1 w bytes written
content_image bytes k w (coupons S p) lg h written =
    let order : List ℕ = written.order in
    let lists : ListsOnce order S = lists_once order S written.ascending in
    elim h.1 [
      | inl l ↦
          let is : bytes ≡ list_bytes k w order = written.is ∙ cond-true (eqb p 3) (list_bytes k w order) (set_bytes k w p order) (eq-eqb p 3 l.0) in
          let y : ℕ → Sketch = λ n. record { lg_k = k; width = w; content = coupons S n } in
          subst (λ n. Image bytes (y n)) (sym l.0) (rw is (list_image k w S order lg h.0 lists l.1))
      | inr s ↦
          let is : bytes ≡ set_bytes k w p order = written.is ∙ cond-false (eqb p 3) (list_bytes k w order) (set_bytes k w p order) (ne_eqb p 3 (λ e. omega (arith, s.0))) in
          rw is (set_image k w S order lg h.0 lists p s.0 s.1 s.2)
    ]

pub written_is_image : WrittenIsImage
written_is_image bytes x legal written = content_image bytes x.lg_k x.width x.content legal.lg_k legal.content written

pub list_is_read_back : ListIsReadBack
list_is_read_back k w order more lg_k few valued distinct =
    read_back k w (set_of order) order lg_k (ArePairs-set_of order valued) (record { members = refl; once = sym distinct }) more (omega (arith, distinct))

-- ---- same bytes

-- what is written for registers is a function of them
registers_once : (k : ℕ) (w : HllType) (R : List ℕ) (state : EstimateState) (a b : List ℕ) → WritesRegisters a k w R state → WritesRegisters b k w R state → a ≡ b
registers_once k Hll4 R state a b u v = written_once (hll4_bytes k R state) (set_of (exceptions R)) a b u v
registers_once k Hll6 R state a b u v = u ∙ sym v
registers_once k Hll8 R state a b u v = u ∙ sym v

-- and so it is for a sketch
pub one_written : (x : Sketch) (a b : List ℕ) → Written a x → Written b x → a ≡ b
one_written x a b u v = of x.content u v
  where
    of : (c : Content) → WritesContent a x.lg_k x.width c → WritesContent b x.lg_k x.width c → a ≡ b
    of (coupons S p) u v = written_once (coupon_image x.lg_k x.width p) S a b u v
    of (registers R state) u v = registers_once x.lg_k x.width R state a b u v

equal_itself : (x : Sketch) → IsEqual x x
equal_itself x = record { lg_k = refl; width = refl; content = of x.content }
  where
    of : (c : Content) → IsEqualContent c c
    of (coupons S p) = (refl, (λ e. e, λ e. e))
    of (registers R state) = (refl, refl)

same_content : (c d : Content) → HaveSameSize c d → IsEqualContent c d → c ≡ d
same_content (coupons S p) (coupons T q) size e = λ i. coupons (e.0 i) (size i)
same_content (registers R s) (registers Q t) size e = λ i. registers (e.0 i) (e.1 i)
same_content (coupons S p) (registers Q t) size e = absurd e
same_content (registers R s) (coupons T q) size e = absurd e

same_sketch : (x y : Sketch) → HaveSameSize x.content y.content → IsEqual x y → x ≡ y
same_sketch x y size e =
    let content : x.content ≡ y.content = same_content x.content y.content size e.content in
    λ i. record { lg_k = e.lg_k i; width = e.width i; content = content i }

pub same_bytes : SameBytes
same_bytes x y a b legal_x legal_y size u v = (
  λ e. subst (IsEqual x) (one_image a b [] [] x y (written_is_image a x legal_x u) (written_is_image b y legal_y v) (ap (λ c. c ++ []) e)).1 (equal_itself x),
  λ e. one_written y a b (subst (Written a) (same_sketch x y size e) u) v,
)
