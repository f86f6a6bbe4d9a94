-- SPDX-License-Identifier: Apache-2.0
-- A path is a part of its stride's cycle, so the first bit that is set shows the first empty bucket of the path.
use Rattle.std.proofs.Common.{◌≡◌, ℕ, ◌+◌, ◌-◌, ◌*◌, ◌/◌, ◌%◌, ◌^◌, ◌<◌, ◌≤◌, List, length, get_or, set, sym, ap, subst, zero-add, pow-add, ◌∙◌, arith, inl, inr}
use Rattle.std.specs.Prelude.{◌==◌, if◌then◌else◌}
use Rattle.std.proofs.lemmas.Bool.{cases_eq, cases_lt}
use Rattle.std.proofs.lemmas.Nat.{pow_pos, mod_below, mul-mod_first, mul-mod_second}
use Rattle.std.proofs.Math.Nat.{mod-add-mod, mod-eq_of_lt, add-mul-mod_self_left}
use Rattle.std.proofs.lemmas.List.{get_or-set_same, get_or-set_other}
use Rattle.hll_coupons.proofs.Probing.{only}
use Rattle.hll_coupons.specs.Probe.{bucket_of, stride_of, IsAbsent, EndsAt}
use Rattle.hll_coupons.proofs.Searching.{bucket_of-path, bucket_of_below}
use Rattle.hll_coupons.specs.Blocks.{bit_of, NoneFrom, IsNext}
use Rattle.hll_coupons.specs.Cycle.{IsInverse, bucket_after, IsEmptyMap, IsNextRound}

-- from where a path begins on the cycle, it goes along the cycle
pub along : (lg start stride inverse i : ℕ) → IsInverse lg stride inverse →
    bucket_after lg stride ((start * inverse % 2 ^ lg + i) % 2 ^ lg) ≡ (start + i * stride) % 2 ^ lg
along lg start stride inverse i h =
    let N : ℕ = 2 ^ lg in
    let q : ℕ = start * inverse in
    let one : (q % N + i) % N * stride % N ≡ (q % N + i) * stride % N = mul-mod_first (q % N + i) stride N in
    let two : (q % N + i) * stride % N ≡ ((q % N + i) % N * stride) % N = sym one in
    let three : (q % N + i) % N ≡ (q + i) % N = mod-add-mod q N i in
    let four : (q % N + i) % N * stride % N ≡ (q + i) * stride % N = ap (λ m. m * stride % N) three ∙ mul-mod_first (q + i) stride N in
    let five : (q + i) * stride ≡ start * (stride * inverse) + i * stride = grind arith in
    let six : start * (stride * inverse) % N ≡ start % N = sym (mul-mod_second start (stride * inverse) N) ∙ ap (λ m. start * m % N) h ∙ mul-mod_second start 1 N ∙ ap (λ m. m % N) (omega arith) in
    four ∙ ap (λ m. m % N) five ∙ sym (mod-add-mod (start * (stride * inverse)) N (i * stride)) ∙ ap (λ m. (m + i * stride) % N) six ∙ mod-add-mod start N (i * stride)

-- a bit that is set shows an empty bucket, and a bit that isn't shows a filled one
empty_of : (p : ℕ) (b : ℕ) → b ≡ (if p == 0 then 1 else 0) → b ≡ 1 → p ≡ 0
empty_of p b e h = grind arith

full_of : (p : ℕ) (b : ℕ) → b ≡ (if p == 0 then 1 else 0) → b ≡ 0 → p ≡ 0 → ⊥
full_of p b e h z = grind arith

-- the first bit that is set shows where a search for an absent key ends
pub ends_round : (key_of : ℕ → ℕ) (lg key inverse : ℕ) (buckets blocks : List ℕ) (next : ℕ) → length buckets ≡ 2 ^ lg → IsInverse lg (stride_of lg key) inverse →
    IsEmptyMap lg (stride_of lg key) buckets blocks → IsNextRound lg blocks (key * inverse % 2 ^ lg) next → IsAbsent key_of buckets key →
    EndsAt key_of lg buckets key (bucket_after lg (stride_of lg key) next)
ends_round key_of lg key inverse buckets blocks next size inv m r none = record {
  first = record {
    index = r.steps;
    within = r.within;
    at = on r.steps r.within ∙ ap (bucket_after lg (stride_of lg key)) r.at;
    passes = λ j l.
        let here : j < 2 ^ lg = omega (arith, r.within) in
        let full : get_or buckets (bucket_of lg key j) 0 ≡ 0 → ⊥ = λ z.
        full_of (get_or buckets (bucket_after lg (stride_of lg key) (spot j)) 0) (bit_of blocks (spot j)) (m.bits (spot j) (mod_below (key * inverse % 2 ^ lg + j) (2 ^ lg) (pow_pos lg))) (r.before j l)
        (ap (λ p. get_or buckets p 0) (sym (on j here)) ∙ z) in
        (full, none (bucket_of lg key j) (omega (arith, bucket_of_below lg key j here, size)) full);
  };
  within = below;
  same = λ full. absurd (full empty);
}
  where
    spot : ℕ → ℕ
    spot j = (key * inverse % 2 ^ lg + j) % 2 ^ lg

    on : (j : ℕ) → j < 2 ^ lg → bucket_of lg key j ≡ bucket_after lg (stride_of lg key) (spot j)
    on j l = bucket_of-path lg key j l ∙ sym (along lg key (stride_of lg key) inverse j inv)

    below : bucket_after lg (stride_of lg key) next < 2 ^ lg
    below = mod_below (next * stride_of lg key) (2 ^ lg) (pow_pos lg)

    next_below : next < 2 ^ lg
    next_below = omega (arith, r.at, mod_below (key * inverse % 2 ^ lg + r.steps) (2 ^ lg) (pow_pos lg))

    empty : get_or buckets (bucket_after lg (stride_of lg key) next) 0 ≡ 0
    empty = empty_of (get_or buckets (bucket_after lg (stride_of lg key) next) 0) (bit_of blocks next) (m.bits next next_below) r.set

-- ---- round the end

pub round_later : (lg from next : ℕ) (blocks : List ℕ) → 64 * length blocks ≡ 2 ^ lg → IsNext blocks from next → IsNextRound lg blocks from next
round_later lg from next blocks size n = record {
  steps = next - from;
  within = omega (arith, n.low, n.within, size);
  at = let e : from + (next - from) ≡ next = omega (arith, n.low) in ap (λ m. m % 2 ^ lg) e ∙ mod-eq_of_lt (omega (arith, n.within, size));
  set = n.set;
  before = λ j l. ap (bit_of blocks) (mod-eq_of_lt (omega (arith, n.within, size))) ∙ n.before (from + j) (omega arith) (omega arith);
}

pub round_again : (lg from next : ℕ) (blocks : List ℕ) → 64 * length blocks ≡ 2 ^ lg → from < 64 * length blocks → NoneFrom blocks from → IsNext blocks 0 next → IsNextRound lg blocks from next
round_again lg from next blocks size inside none n =
    let earlier : next < from = elim (cases_lt next from) [ inl l ↦ l | inr g ↦ absurd (omega (arith, none next g n.within, n.set)) ] in
    record {
      steps = 2 ^ lg - from + next;
      within = omega (arith, size);
      at = let e : from + (2 ^ lg - from + next) ≡ next + 2 ^ lg * 1 = omega (arith, size) in ap (λ m. m % 2 ^ lg) e ∙ add-mul-mod_self_left next (2 ^ lg) 1 ∙ mod-eq_of_lt (omega (arith, n.within, size));
      set = n.set;
      before = λ j l. elim (cases_lt (from + j) (2 ^ lg)) [
        | inl below ↦ ap (bit_of blocks) (mod-eq_of_lt below) ∙ none (from + j) (omega arith) (omega (arith, size))
        | inr past ↦
            let e : from + j ≡ from + j - 2 ^ lg + 2 ^ lg * 1 = omega arith in
            ap (bit_of blocks) (ap (λ m. m % 2 ^ lg) e ∙ add-mul-mod_self_left (from + j - 2 ^ lg) (2 ^ lg) 1 ∙ mod-eq_of_lt (omega (arith, size))) ∙ n.before (from + j - 2 ^ lg) (omega arith) (omega arith)
      ];
    }

-- ---- what a cycle returns

pub ends_for : (lg stride inverse key start next bucket : ℕ) (blocks : List ℕ) → IsInverse lg stride inverse → start ≡ key * inverse % 2 ^ lg → bucket ≡ next * stride % 2 ^ lg →
    IsNextRound lg blocks start next → (key_of : ℕ → ℕ) (buckets : List ℕ) → length buckets ≡ 2 ^ lg → IsEmptyMap lg stride buckets blocks → stride ≡ stride_of lg key →
    IsAbsent key_of buckets key → EndsAt key_of lg buckets key bucket
ends_for lg stride inverse key start next bucket blocks inv s p r key_of buckets size m same none =
    subst (EndsAt key_of lg buckets key) (ap (λ d. next * d % 2 ^ lg) (sym same) ∙ sym p)
    (ends_round key_of lg key inverse buckets blocks next size (subst (λ d. IsInverse lg d inverse) same inv) (subst (λ d. IsEmptyMap lg d buckets blocks) same m)
    (subst (λ q. IsNextRound lg blocks q next) s r) none)

-- ---- a bucket is filled

filled_bit : (p b : ℕ) → (p ≡ 0 → ⊥) → b ≡ 0 → b ≡ (if p == 0 then 1 else 0)
filled_bit p b full h = grind arith

pub filled : (lg stride inverse bucket steps : ℕ) (old new : List ℕ) → bucket < 2 ^ lg → stride % 2 ≡ 1 → IsInverse lg stride inverse → steps ≡ bucket * inverse % 2 ^ lg →
    length new ≡ length old → bit_of new steps ≡ 0 → ((j : ℕ) → (j ≡ steps → ⊥) → bit_of new j ≡ bit_of old j) →
    (buckets : List ℕ) (entry : ℕ) → length buckets ≡ 2 ^ lg → (entry ≡ 0 → ⊥) → IsEmptyMap lg stride buckets old → IsEmptyMap lg stride (set buckets bucket entry) new
filled lg stride inverse bucket steps old new inside odd inv s size same other buckets entry length_is some m = record {
  size = ap (λ n. 64 * n) size ∙ m.size;
  bits = λ i l. elim (cases_eq i steps) [
    | inl e ↦
        let there : get_or (set buckets bucket entry) (bucket_after lg stride i) 0 ≡ entry = ap (λ q. get_or (set buckets bucket entry) q 0) (ap (bucket_after lg stride) e ∙ at) ∙ get_or-set_same buckets bucket entry 0 (omega (arith, inside, length_is)) in
        filled_bit (get_or (set buckets bucket entry) (bucket_after lg stride i) 0) (bit_of new i) (λ z. some (sym there ∙ z)) (ap (bit_of new) e ∙ same)
    | inr o ↦
        let apart : bucket_after lg stride i ≡ bucket → ⊥ = λ e. o (only 0 stride lg i steps odd l steps_below (ap (λ n. n % 2 ^ lg) (zero-add (i * stride)) ∙ e ∙ sym at ∙ ap (λ n. n % 2 ^ lg) (sym (zero-add (steps * stride))))) in
        other i o ∙ m.bits i l ∙ ap (λ p. if p == 0 then 1 else 0) (sym (get_or-set_other buckets bucket (bucket_after lg stride i) entry 0 apart))
  ];
}
  where
    steps_below : steps < 2 ^ lg
    steps_below = omega (arith, s, mod_below (bucket * inverse) (2 ^ lg) (pow_pos lg))

    at : bucket_after lg stride steps ≡ bucket
    at =
        let N : ℕ = 2 ^ lg in
        let turned : bucket * inverse * stride ≡ bucket * (stride * inverse) = grind arith in
        ap (λ q. q * stride % N) s ∙ mul-mod_first (bucket * inverse) stride N ∙ ap (λ n. n % N) turned ∙ sym (mul-mod_second bucket (stride * inverse) N) ∙ ap (λ n. bucket * n % N) inv
        ∙ mul-mod_second bucket 1 N ∙ ap (λ n. n % N) (omega arith) ∙ mod-eq_of_lt inside

-- ---- a cycle is made

pub next_after : (lg stride steps : ℕ) → (steps * stride % 2 ^ lg + stride) % 2 ^ lg ≡ (steps + 1) * stride % 2 ^ lg
next_after lg stride steps =
    let whole : steps * stride + stride ≡ (steps + 1) * stride = grind arith in
    mod-add-mod (steps * stride) (2 ^ lg) stride ∙ ap (λ m. m % 2 ^ lg) whole

-- the bit of a bucket is set if the bucket is empty, and no other bit changes
pub record Marks (old new : List ℕ) (steps p : ℕ) : Type 0 where
  pub same : bit_of new steps ≡ (if p == 0 then 1 else 0)
  pub others : (j : ℕ) → (j ≡ steps → ⊥) → bit_of new j ≡ bit_of old j

pub marks_empty : (old new : List ℕ) (steps p : ℕ) → p ≡ 0 → bit_of new steps ≡ 1 → ((j : ℕ) → (j ≡ steps → ⊥) → bit_of new j ≡ bit_of old j) → Marks old new steps p
marks_empty old new steps p z h others = record { same = h ∙ ap (λ q. if q == 0 then 1 else 0) (sym z); others = others }

pub marks_filled : (old new : List ℕ) (steps p : ℕ) → (p ≡ 0 → ⊥) → new ≡ old → bit_of old steps ≡ 0 → Marks old new steps p
marks_filled old new steps p full e h = record {
  same = filled_bit p (bit_of new steps) full (ap (λ w. bit_of w steps) e ∙ h);
  others = λ j o. ap (λ w. bit_of w j) e;
}

pub marked_bits : (old new : List ℕ) (steps : ℕ) (f : ℕ → ℕ) → Marks old new steps (f steps) → ((i : ℕ) → i < steps → bit_of old i ≡ (if f i == 0 then 1 else 0)) →
    (i : ℕ) → i < steps + 1 → bit_of new i ≡ (if f i == 0 then 1 else 0)
marked_bits old new steps f m before i l = elim (cases_eq i steps) [
  | inl e ↦ ap (bit_of new) e ∙ m.same ∙ ap (λ s. if f s == 0 then 1 else 0) (sym e)
  | inr o ↦ m.others i o ∙ before i (omega (arith, o))
]

pub marked_none : (old new : List ℕ) (steps p : ℕ) → Marks old new steps p → ((i : ℕ) → steps ≤ i → bit_of old i ≡ 0) → (i : ℕ) → steps + 1 ≤ i → bit_of new i ≡ 0
marked_none old new steps p m none i l =
    let other : i ≡ steps → ⊥ = λ e. omega arith in
    m.others i other ∙ none i (omega arith)

-- the number of buckets is a multiple of 64
pub whole_blocks : (lg : ℕ) → 6 ≤ lg → 64 * (2 ^ lg / 64) ≡ 2 ^ lg
whole_blocks lg h =
    let e : 2 ^ lg ≡ 2 ^ (lg - 6) * 64 = ap (λ n. 2 ^ n) (let s : lg ≡ lg - 6 + 6 = omega arith in s) ∙ pow-add 2 (lg - 6) 6 in
    omega arith
