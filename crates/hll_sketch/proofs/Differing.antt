-- SPDX-License-Identifier: Apache-2.0
-- Coupons that are checked with marks to be distinct.
use Rattle.std.proofs.Common.{◌≡◌, ℕ, zero, suc, ◌+◌, ◌-◌, ◌*◌, ◌%◌, ◌<◌, ◌≤◌, Bool, true, false, ◌||◌, nat_eq, List, [], ◌∷◌, ◌++◌, length, drop, get_or, set, replicate, inl, inr, sym, ap, subst, ◌∙◌, ◌⊎◌, arith}
use Rattle.std.specs.Int.{w32, from_le_bytes}
use Rattle.std.specs.Cmp.{nat_cmp_total, unsigned_tied}
use Rattle.std.specs.FinSet.{contains, nat_cmp-IsAntisymmetric, contains-insert, contains-from_list_nat, from_list_push}
use Rattle.std.proofs.lemmas.Bool.{true≢false, cases_Bool, eqb-true, eq-eqb, ne_eqb}
use Rattle.std.proofs.lemmas.List.{get_or-set_same, get_or-set_other, length-set, length-replicate, length-drop, drop-drop}
use Rattle.hll_coupons.specs.Coupons.{raw_coupons, AreCoupons}
use Rattle.hll_coupons.specs.Pair.{set_of, value_of}
use Rattle.hll_coupons.proofs.Reading.{AreCoupons-nil, AreCoupons-push, no_value, twice}
use Rattle.hll_sketch.specs.Borrowed.{AreMarked}

-- ---- the raw coupons one by one

pub raw_coupons_split : (m n : ℕ) (b : List ℕ) → raw_coupons (m + n) b ≡ raw_coupons m b ++ raw_coupons n (drop (4 * m) b)
raw_coupons_split zero n b = let e : 0 + n ≡ n = omega arith in ap (λ k. raw_coupons k b) e
raw_coupons_split (suc m) n b =
    let e : suc m + n ≡ suc (m + n) = omega arith in
    let d : 4 + 4 * m ≡ 4 * suc m = omega arith in
    ap (λ k. raw_coupons k b) e
    ∙ ap (λ ws. from_le_bytes w32 b ∷ ws) (raw_coupons_split m n (drop 4 b))
    ∙ ap (λ l. from_le_bytes w32 b ∷ (raw_coupons m (drop 4 b) ++ raw_coupons n l)) (drop-drop (4 * m) 4 b ∙ ap (λ k. drop k b) d)

-- one more raw coupon
pub one_more : (index w : ℕ) (b cursor : List ℕ) → cursor ≡ drop (4 * index) b → w ≡ from_le_bytes w32 cursor → raw_coupons (index + 1) b ≡ raw_coupons index b ++ w ∷ []
one_more index w b cursor after is = raw_coupons_split index 1 b ∙ (λ i. raw_coupons index b ++ raw_coupons 1 (sym after i)) ∙ ap (λ v. raw_coupons index b ++ v ∷ []) (sym is)

-- all of them, from an index on
all_from : (index count w : ℕ) (b cursor : List ℕ) → index < count → cursor ≡ drop (4 * index) b → w ≡ from_le_bytes w32 cursor →
    raw_coupons count b ≡ raw_coupons index b ++ w ∷ raw_coupons (count - (index + 1)) (drop 4 cursor)
all_from index count w b cursor less after is =
    let m : ℕ = count - (index + 1) in
    let e : count ≡ index + suc m = omega arith in
    ap (λ k. raw_coupons k b) e ∙ raw_coupons_split index (suc m) b ∙ ap (λ l. raw_coupons index b ++ raw_coupons (suc m) l) (sym after) ∙ ap (λ v. raw_coupons index b ++ v ∷ raw_coupons m (drop 4 cursor)) (sym is)

-- ---- marks

-- one more mark
marked-push : (n : ℕ) (order : List ℕ) (marks : List Bool) (w : ℕ) → w % n < length marks → AreMarked n order marks → AreMarked n (order ++ w ∷ []) (set marks (w % n) true)
marked-push n order marks w within marked c there = at (cases_Bool (nat_eq (c % n) (w % n)))
  where
    at : (nat_eq (c % n) (w % n) ≡ true) ⊎ (nat_eq (c % n) (w % n) ≡ false) → get_or (set marks (w % n) true) (c % n) false ≡ true
    at (inl same) = ap (λ k. get_or (set marks (w % n) true) k false) (eqb-true (c % n) (w % n) same) ∙ get_or-set_same marks (w % n) true false within
    at (inr other) =
        let apart : nat_eq c w ≡ false = ne_eqb c w (λ e. true≢false (sym (eq-eqb (c % n) (w % n) (ap (λ k. k % n) e)) ∙ other)) in
        let old : contains (set_of (order ++ w ∷ [])) c ≡ contains (set_of order) c =
        ap (λ s. contains s c) (from_list_push nat_cmp_total nat_cmp-IsAntisymmetric order w) ∙ contains-insert nat_cmp_total (set_of order) w c
        ∙ ap (λ z. z || contains (set_of order) c) (unsigned_tied c w ∙ apart) in
        get_or-set_other marks (w % n) (c % n) true false (λ e. true≢false (sym (eq-eqb (c % n) (w % n) e) ∙ other)) ∙ marked c (sym old ∙ there)

-- the raw coupons so far are coupons, and are marked
pub record DifferSoFar (index count n : ℕ) (b cursor : List ℕ) (marks : List Bool) : Type 0 where
  pub after : cursor ≡ drop (4 * index) b
  pub room : 4 * (count - index) ≤ length cursor
  pub are : AreCoupons (raw_coupons index b)
  pub size : length marks ≡ n
  pub marked : AreMarked n (raw_coupons index b) marks

pub differ_none : (count n : ℕ) (b cursor : List ℕ) (marks : List Bool) → cursor ≡ b → 4 * count ≤ length b → marks ≡ replicate n false → DifferSoFar 0 count n b cursor marks
differ_none count n b cursor marks is there none = record {
  after = is;
  room = omega (arith, there, ap length is);
  are = AreCoupons-nil;
  size = ap length none ∙ length-replicate n false;
  marked = λ c has. absurd (true≢false (sym has ∙ contains-from_list_nat [] c));
}

module _ (index count n : ℕ) (b cursor : List ℕ) (marks : List Bool) (so : DifferSoFar index count n b cursor marks) (less : index < count)
    (w : ℕ) (rest : List ℕ) (is : w ≡ from_le_bytes w32 cursor) (rest_is : rest ≡ drop 4 cursor) where
  -- a new coupon is marked
  pub differ_more : 1 ≤ value_of w → contains (set_of (raw_coupons index b)) w ≡ false → w % n < n → DifferSoFar (index + 1) count n b rest (set marks (w % n) true)
  differ_more valued new within =
      let more : raw_coupons (index + 1) b ≡ raw_coupons index b ++ w ∷ [] = one_more index w b cursor so.after is in
      record {
        after = rest_is ∙ ap (drop 4) so.after ∙ drop-drop 4 (4 * index) b ∙ ap (λ k. drop k b) (let e : 4 * index + 4 ≡ 4 * (index + 1) = omega arith in e);
        room = omega (arith, so.room, ap length rest_is, length-drop 4 cursor, less);
        are = subst AreCoupons (sym more) (AreCoupons-push (raw_coupons index b) w so.are valued new);
        size = length-set marks (w % n) true ∙ so.size;
        marked = subst (λ xs. AreMarked n xs (set marks (w % n) true)) (sym more) (marked-push n (raw_coupons index b) marks w (omega (arith, within, so.size)) so.marked);
      }

  -- a raw coupon with the value 0 is not a coupon, and neither is one that equals one before it
  pub differ_without : value_of w ≡ 0 → AreCoupons (raw_coupons count b) → ⊥
  differ_without none are = no_value (raw_coupons index b) _ w none (subst AreCoupons (all_from index count w b cursor less so.after is) are)

  pub differ_twice : contains (set_of (raw_coupons index b)) w ≡ true → AreCoupons (raw_coupons count b) → ⊥
  differ_twice there are = twice (raw_coupons index b) _ w there (subst AreCoupons (all_from index count w b cursor less so.after is) are)
