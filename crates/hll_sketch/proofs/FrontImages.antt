-- SPDX-License-Identifier: Apache-2.0
-- A prefix of bytes that is an image, and its sketch.
use Rattle.std.proofs.Common.{◌≡◌, ℕ, ◌+◌, ◌-◌, ◌*◌, ◌/◌, ◌%◌, ◌^◌, ◌<◌, ◌≤◌, Bool, true, false, cond, eqb, List, ◌++◌, length, take, drop, refl, sym, ap, subst, ◌∙◌, arith}
use Rattle.std.proofs.lemmas.List.{take-append-drop, drop-take, drop-drop, length-drop, length-take}
use Rattle.hll_coupons.specs.Coupons.{AreCoupons}
use Rattle.hll_coupons.specs.Pair.{set_of}
use Rattle.hll_coupons.specs.Payload.{list_buckets, list_coupons, list_table, set_coupons, set_buckets, IsSetPayload}
use Rattle.hll_coupons.specs.Table.{Table, coupons_in, coupons_of}
use Rattle.hll_base.specs.declared.hll_type.HllType.TheVariants.{Hll4, Hll6, Hll8}
use Rattle.hll_coupons.proofs.Payloads.{front_set_coupons, front_set_buckets}
use Rattle.hll_coupons.proofs.Reading.{coupons_in-list_table, list_coupons-front}
use Rattle.hll_kernels.specs.Packed.{fields}
use Rattle.hll_registers.specs.Payload.{state_at, field_size, IsHll8Payload, IsHll6Payload, Hll4Shape, hll4_size, registers_of, shape_of_hll4, HasEntries, IsHll4Payload, IsWhole, FirstHll4Fault}
use Rattle.hll_registers.specs.Payload as payloads
use Rattle.hll_registers.specs.declared.aux_format.AuxFormat.TheVariants.{Compact, Updatable}
use Rattle.hll_base.specs.declared.error.Reason.{Reason}
use Rattle.std.proofs.lemmas.Bool.{true≢false}
use Rattle.hll_registers.specs.Store.{Stored}
use Rattle.hll_arrays.proofs.Payloads.{front_buckets, state_at-front}
use Rattle.hll_sketch.specs.Value.{coupons, registers}
use Rattle.hll_sketch.specs.Image as image
use Rattle.hll_sketch.specs.Image.{byte, lg_k_byte, table_byte, width_bits, width_of_bits, is_flagged, HasHeader, HasSetTable, list_shape, set_shape, hll4_shape, IsListImage, IsReadAs}
use Rattle.hll_sketch.proofs.Headers.{HasHeader-same}
use Rattle.hll_sketch.proofs.Images.{at, rest, same_width, same_list_shape, same_set_shape, same_hll4_shape}

-- ---- a prefix with the header and n more bytes

module _ (b : List ℕ) (n : ℕ) (there : 8 + n ≤ length b) where
  abbrev front : List ℕ
  front = take (8 + n) b

  abbrev others : List ℕ
  others = drop (8 + n) b

  cut : front ++ others ≡ b
  cut = take-append-drop (8 + n) b

  whole : 8 ≤ length front
  whole = omega (arith, there, length-take (8 + n) b)

  byte_is : (i : ℕ) → i < 8 → byte front i ≡ byte b i
  byte_is = at front others b cut whole

  width_is : width_bits front ≡ width_bits b
  width_is = same_width front others b cut whole

  header_is : {s : ℕ} → HasHeader b s → HasHeader front s
  header_is h = HasHeader-same b front (λ i l. sym (byte_is i l)) whole h

  after : drop 8 front ≡ take n (drop 8 b)
  after = drop-take 8 n b

  state_is : 24 ≤ n → state_at (is_flagged 16 front) (drop 8 front) ≡ state_at (is_flagged 16 b) (drop 8 b)
  state_is long =
      ap (λ v. state_at (eqb (v / 16 % 2) 1) (drop 8 front)) (byte_is 5 (omega arith))
      ∙ state_at-front (is_flagged 16 b) (drop 8 front) others (drop 8 b) (rest front others b cut whole) (omega (arith, long, there, length-drop 8 front, length-take (8 + n) b))

-- the registers after 32 bytes
registers_after : (b : List ℕ) (m : ℕ) → drop 40 (take (8 + (32 + m)) b) ≡ take m (drop 32 (drop 8 b))
registers_after b m =
    let a : List ℕ = take (8 + (32 + m)) b in
    sym (drop-drop 32 8 a) ∙ ap (drop 32) (drop-take 8 (32 + m) b) ∙ drop-take 32 m (drop 8 b)

-- there are as many bytes as its payload says
room : (b : List ℕ) (n : ℕ) → 8 ≤ length b → length (take n (drop 8 b)) ≡ n → 8 + n ≤ length b
room b n whole size = omega (arith, size, length-take n (drop 8 b), length-drop 8 b)

-- ---- registers

pub read_as-eight : (b : List ℕ) (x : Stored) → HasHeader b 2 → width_bits b ≡ 2 → IsHll8Payload (lg_k_byte b) (take (32 + 2 ^ lg_k_byte b) (drop 8 b)) →
    x ≡ record { lg_k = lg_k_byte b; registers = take (2 ^ lg_k_byte b) (drop 32 (drop 8 b)); state = state_at (is_flagged 16 b) (drop 8 b) } →
    IsReadAs b (record { lg_k = lg_k_byte b; width = Hll8; content = registers x.registers x.state })
read_as-eight b x h width payload is =
    let m : ℕ = 2 ^ lg_k_byte b in
    let there = room b (32 + m) h.whole payload.size in
    let k = byte_is b (32 + m) there 3 (omega arith) in
    record {
      size = 8 + (32 + m);
      image = image.hll8 (record {
        header = header_is b (32 + m) there h;
        width = width_is b (32 + m) there ∙ width;
        payload = subst (λ k. IsHll8Payload k (drop 8 (take (8 + (32 + m)) b))) (sym k) (subst (IsHll8Payload (lg_k_byte b)) (sym (after b (32 + m) there)) payload);
      }) (λ i. record {
        lg_k = sym k i;
        width = Hll8;
        content = registers ((ap (λ (y : Stored). y.registers) is ∙ sym (registers_after b m)) i) ((ap (λ (y : Stored). y.state) is ∙ sym (state_is b (32 + m) there (omega arith))) i);
      });
    }

pub read_as-six : (b : List ℕ) (x : Stored) → HasHeader b 2 → width_bits b ≡ 1 → IsHll6Payload (lg_k_byte b) (take (32 + field_size (lg_k_byte b)) (drop 8 b)) →
    x ≡ record { lg_k = lg_k_byte b; registers = fields (take (field_size (lg_k_byte b)) (drop 32 (drop 8 b))); state = state_at (is_flagged 16 b) (drop 8 b) } →
    IsReadAs b (record { lg_k = lg_k_byte b; width = Hll6; content = registers x.registers x.state })
read_as-six b x h width payload is =
    let m : ℕ = field_size (lg_k_byte b) in
    let there = room b (32 + m) h.whole payload.size in
    let k = byte_is b (32 + m) there 3 (omega arith) in
    record {
      size = 8 + (32 + m);
      image = image.hll6 (record {
        header = header_is b (32 + m) there h;
        width = width_is b (32 + m) there ∙ width;
        payload = subst (λ k. IsHll6Payload k (drop 8 (take (8 + (32 + m)) b))) (sym k) (subst (IsHll6Payload (lg_k_byte b)) (sym (after b (32 + m) there)) payload);
      }) (λ i. record {
        lg_k = sym k i;
        width = Hll6;
        content = registers ((ap (λ (y : Stored). y.registers) is ∙ ap fields (sym (registers_after b m))) i) ((ap (λ (y : Stored). y.state) is ∙ sym (state_is b (32 + m) there (omega arith))) i);
      });
    }

pub read_as-four : (b : List ℕ) (x : Stored) → HasHeader b 2 → width_bits b ≡ 0 → let n = hll4_size (hll4_shape b) (drop 8 b) in IsHll4Payload (hll4_shape b) (take n (drop 8 b)) →
    x ≡ record { lg_k = lg_k_byte b; registers = registers_of (hll4_shape b) (take n (drop 8 b)); state = state_at (is_flagged 16 b) (drop 8 b) } →
    IsReadAs b (record { lg_k = lg_k_byte b; width = Hll4; content = registers x.registers x.state })
read_as-four b x h width payload is =
    let n : ℕ = hll4_size (hll4_shape b) (drop 8 b) in
    let size : length (take n (drop 8 b)) ≡ n =
    payload.size ∙ ap (λ m. 32 + (2 ^ (lg_k_byte b - 1) + 4 * m)) (front_buckets (hll4_shape b) (take n (drop 8 b)) (drop n (drop 8 b)) (drop 8 b) (take-append-drop n (drop 8 b)) payload.has_entries.whole) in
    let there = room b n h.whole size in
    let k = byte_is b n there 3 (omega arith) in
    let shape = same_hll4_shape (take (8 + n) b) (drop (8 + n) b) b (cut b n there) (whole b n there) in
    record {
      size = 8 + n;
      image = image.hll4 (record {
        header = header_is b n there h;
        width = width_is b n there ∙ width;
        payload = subst (λ z. IsHll4Payload z (drop 8 (take (8 + n) b))) (sym shape) (subst (IsHll4Payload (hll4_shape b)) (sym (after b n there)) payload);
      }) (λ i. record {
        lg_k = sym k i;
        width = Hll4;
        content = registers ((ap (λ (y : Stored). y.registers) is ∙ (λ j. registers_of (sym shape j) (sym (after b n there) j))) i) ((ap (λ (y : Stored). y.state) is ∙ sym (state_is b n there (omega arith))) i);
      });
    }

-- ---- coupons

pub set_is_read : (b : List ℕ) → HasHeader b 1 → HasSetTable b → let n = 4 + 4 * set_buckets (set_shape b) (drop 8 b) in IsSetPayload (set_shape b) (take n (drop 8 b)) →
    IsReadAs b (record { lg_k = lg_k_byte b; width = width_of_bits (width_bits b); content = coupons (set_of (set_coupons (set_shape b) (drop 8 b))) (table_byte b) })
set_is_read b h table payload =
    let n : ℕ = 4 + 4 * set_buckets (set_shape b) (drop 8 b) in
    let size : length (take n (drop 8 b)) ≡ n =
    payload.size ∙ ap (λ m. 4 + 4 * m) (front_set_buckets (set_shape b) (take n (drop 8 b)) (drop n (drop 8 b)) (drop 8 b) (take-append-drop n (drop 8 b)) payload) in
    let a : List ℕ = take (8 + n) b in
    let there = room b n h.whole size in
    let k = byte_is b n there 3 (omega arith) in
    let buckets = byte_is b n there 4 (omega arith) in
    let shape = same_set_shape a (drop (8 + n) b) b (cut b n there) (whole b n there) in
    let here : IsSetPayload (set_shape b) (drop 8 a) = subst (IsSetPayload (set_shape b)) (sym (after b n there)) payload in
    let same : set_coupons (set_shape a) (drop 8 a) ≡ set_coupons (set_shape b) (drop 8 b) =
    ap (λ z. set_coupons z (drop 8 a)) shape ∙ front_set_coupons (set_shape b) (drop 8 a) (drop (8 + n) b) (drop 8 b) (rest a (drop (8 + n) b) b (cut b n there) (whole b n there)) here in
    record {
      size = 8 + n;
      image = image.set (record {
        header = header_is b n there h;
        table = record { low = omega (arith, buckets, table.low); high = omega (arith, buckets, k, table.high) };
        payload = subst (λ z. IsSetPayload z (drop 8 a)) (sym shape) here;
      }) (λ i. record {
        lg_k = sym k i;
        width = width_of_bits (sym (width_is b n there) i);
        content = coupons (set_of (sym same i)) (sym buckets i);
      });
    }

pub read_as-set : (b : List ℕ) (t : Table) → HasHeader b 1 → HasSetTable b → let n = 4 + 4 * set_buckets (set_shape b) (drop 8 b) in IsSetPayload (set_shape b) (take n (drop 8 b)) →
    t.lg_size ≡ table_byte b → coupons_of t ≡ set_of (set_coupons (set_shape b) (drop 8 b)) →
    IsReadAs b (record { lg_k = lg_k_byte b; width = width_of_bits (width_bits b); content = coupons (coupons_of t) t.lg_size })
read_as-set b t h table payload lg members =
    subst (λ c. IsReadAs b (record { lg_k = lg_k_byte b; width = width_of_bits (width_bits b); content = c })) (λ i. coupons (sym members i) (sym lg i)) (set_is_read b h table payload)

-- the coupons of a list are those of the prefix that is its image
front_list_coupons : (b : List ℕ) → let a = take (8 + 4 * list_buckets (list_shape b)) b in IsListImage a → list_coupons (list_shape a) (drop 8 a) ≡ list_coupons (list_shape b) (drop 8 b)
front_list_coupons b is =
    let m : ℕ = 4 * list_buckets (list_shape b) in
    let a : List ℕ = take (8 + m) b in
    let shape : list_shape a ≡ list_shape b = same_list_shape a (drop (8 + m) b) b (take-append-drop (8 + m) b) is.header.whole in
    let there : m ≤ length (drop 8 b) = omega (arith, is.payload.size, ap (λ z. list_buckets z) shape, ap length (drop-take 8 m b), length-take m (drop 8 b)) in
    ap (λ z. list_coupons z (drop 8 a)) shape ∙ ap (list_coupons (list_shape b)) (drop-take 8 m b) ∙ list_coupons-front (list_shape b) (drop 8 b) there

pub list_is_read : (b : List ℕ) → IsListImage (take (8 + 4 * list_buckets (list_shape b)) b) →
    IsReadAs b (record { lg_k = lg_k_byte b; width = width_of_bits (width_bits b); content = coupons (set_of (list_coupons (list_shape b) (drop 8 b))) 3 })
list_is_read b is =
    let n : ℕ = 8 + 4 * list_buckets (list_shape b) in
    let e = take-append-drop n b in
    record {
      size = n;
      image = image.list is (λ i. record {
        lg_k = sym (at (take n b) (drop n b) b e is.header.whole 3 (omega arith)) i;
        width = width_of_bits (sym (same_width (take n b) (drop n b) b e is.header.whole) i);
        content = coupons (set_of (sym (front_list_coupons b is) i)) 3;
      });
    }

pub read_as-list : (b : List ℕ) (t : Table) → IsListImage (take (8 + 4 * list_buckets (list_shape b)) b) → t ≡ list_table (list_shape b) (drop 8 b) →
    IsReadAs b (record { lg_k = lg_k_byte b; width = width_of_bits (width_bits b); content = coupons (coupons_of t) t.lg_size })
read_as-list b t is table =
    let order : list_coupons (list_shape b) (drop 8 b) ≡ coupons_in t.buckets =
    sym (ap (λ (u : Table). coupons_in u.buckets) table ∙ coupons_in-list_table (list_shape b) (drop 8 b) (subst AreCoupons (front_list_coupons b is) is.payload.are_coupons)) in
    subst (λ c. IsReadAs b (record { lg_k = lg_k_byte b; width = width_of_bits (width_bits b); content = c })) (λ i. coupons (set_of (order i)) (ap (λ (u : Table). u.lg_size) (sym table) i)) (list_is_read b is)

-- ---- the shape of 4-bit registers: if the exceptions are contiguous, the size of a table doesn't count

abbrev with_format : ℕ → ℕ → Bool → ℕ → Hll4Shape
with_format k m c q = shape_of_hll4 k m (cond c Compact (Updatable q))

abbrev with_flag : ℕ → ℕ → Bool → ℕ → Hll4Shape
with_flag k m c q = record { lg_k = k; minimum = m; compact = c; lg_table = q }

entries_as : (k m q : ℕ) (c : Bool) (bytes : List ℕ) → HasEntries (with_format k m c q) bytes → HasEntries (with_flag k m c q) bytes
entries_as k m q true bytes p = record { whole = p.whole; few = p.few; table = λ e. absurd (true≢false e) }
entries_as k m q false bytes p = p

pub whole_as : (k m q : ℕ) (c : Bool) (bytes : List ℕ) → IsWhole (with_format k m c q) bytes → IsWhole (with_flag k m c q) bytes
whole_as k m q true bytes w = record { low = w.low; has_entries = entries_as k m q true bytes w.has_entries; there = w.there }
whole_as k m q false bytes w = w

pub payload_as : (k m q : ℕ) (c : Bool) (bytes : List ℕ) → IsHll4Payload (with_format k m c q) bytes → IsHll4Payload (with_flag k m c q) bytes
payload_as k m q true bytes p = record { low = p.low; has_entries = entries_as k m q true bytes p.has_entries; size = p.size; are_entries = p.are_entries; number = p.number; agree = p.agree }
payload_as k m q false bytes p = p

pub first_as : (k m q : ℕ) (c : Bool) (bytes : List ℕ) (r : Reason) → FirstHll4Fault (with_format k m c q) bytes r → FirstHll4Fault (with_flag k m c q) bytes r
first_as k m q true bytes r (payloads.FirstHll4Fault.no_counts a) = payloads.FirstHll4Fault.no_counts a
first_as k m q true bytes r (payloads.FirstHll4Fault.low_count_above a l) = payloads.FirstHll4Fault.low_count_above a l
first_as k m q true bytes r (payloads.FirstHll4Fault.exceptions_above a l) = payloads.FirstHll4Fault.exceptions_above a l
first_as k m q true bytes r (payloads.FirstHll4Fault.table a l f e x y) = absurd (true≢false e)
first_as k m q true bytes r (payloads.FirstHll4Fault.short l h n) = payloads.FirstHll4Fault.short l (entries_as k m q true bytes h) n
first_as k m q true bytes r (payloads.FirstHll4Fault.coupon w n) = payloads.FirstHll4Fault.coupon (whole_as k m q true bytes w) n
first_as k m q true bytes r (payloads.FirstHll4Fault.number w e n) = payloads.FirstHll4Fault.number (whole_as k m q true bytes w) e n
first_as k m q true bytes r (payloads.FirstHll4Fault.register w e x n) = payloads.FirstHll4Fault.register (whole_as k m q true bytes w) e x n
first_as k m q false bytes r f = f

pub size_as : (k m q : ℕ) (c : Bool) (bytes : List ℕ) → hll4_size (with_format k m c q) bytes ≡ hll4_size (with_flag k m c q) bytes
size_as k m q true bytes = refl
size_as k m q false bytes = refl

pub registers_as : (k m q : ℕ) (c : Bool) (bytes : List ℕ) → registers_of (with_format k m c q) bytes ≡ registers_of (with_flag k m c q) bytes
registers_as k m q true bytes = refl
registers_as k m q false bytes = refl
