-- SPDX-License-Identifier: Apache-2.0
-- Lemmas on coupons that are handled in turn.
use Rattle.std.proofs.Common.{◌≡◌, arith, ℕ, ◌+◌, ◌<◌, ◌≤◌, ◌^◌, List, [], ◌∷◌, ◌++◌, length, take, drop, get_or, set, map, All, ◌↔◌, true, false, refl, sym, ◌∙◌, ap, subst}
use Rattle.std.proofs.lemmas.List.{drop_more, drop_all, take_more, take_all, take_more_set, take-append-drop, drop-drop, length-set, length-drop, get_or-drop}
use Rattle.std.specs.Bool.{IsTrue}
use Rattle.std.proofs.lemmas.List.Elements.{All-nil, All-cons, All-head, All-tail, All-weaker}
use Rattle.hll_coupons.specs.Hashed.{coupon_of_bytes}
use Rattle.hll_coupons.specs.Pair.{IsPair, value_of}
use Rattle.hll_sketch.specs.Laws.{add_in_turn}
use Rattle.hll_sketch.specs.Value.{Sketch}
use Rattle.hll_sketch.proofs.Turns.{add_in_turn-append}
use Rattle.hll_c.proofs.Whole.{pairs_of_strings}
use Rattle.hll_c.specs.ByteRegisters.{HaveValues}

-- ---- coupons, written in turn

-- the coupons from a number on were written to the first i places
pub record PutsInTurn (old now cs : List ℕ) (first i : ℕ) : Type 0 where
  pub size : length now ≡ length old
  pub same : take i now ≡ take i (drop first cs)

pub puts_none : (old cs : List ℕ) (first : ℕ) → PutsInTurn old old cs first 0
puts_none old cs first = record { size = refl; same = refl }

pub puts_next : (old now cs : List ℕ) (first i c : ℕ) → i < length now → first + i < length cs → c ≡ get_or cs (first + i) 0 → PutsInTurn old now cs first i
    → PutsInTurn old (set now i c) cs first (i + 1)
puts_next old now cs first i c within inside is so_far = record {
  size = length-set now i c ∙ so_far.size;
  same =
      take_more_set now i c within ∙ (λ j. so_far.same j ++ ((is ∙ sym (get_or-drop first cs i 0)) j ∷ []))
      ∙ sym (take_more (drop first cs) i 0 (omega (arith, inside, length-drop first cs)));
}

pub puts_all : (old now cs : List ℕ) (first i : ℕ) → length now ≤ i → i ≤ length old → PutsInTurn old now cs first i → now ≡ take (length old) (drop first cs)
puts_all old now cs first i all within so_far =
    let end : i ≡ length old = omega (arith, all, within, so_far.size) in
    sym (take_all i now all) ∙ so_far.same ∙ ap (λ n. take n (drop first cs)) end

-- adding what is left to the sketch after a block gives what adding all gives to the sketch before
pub adds_more : (x now next : Sketch) (cs block : List ℕ) (first size : ℕ) → block ≡ take size (drop first cs) → next ≡ add_in_turn now block
    → add_in_turn now (drop first cs) ≡ add_in_turn x cs → add_in_turn next (drop (first + size) cs) ≡ add_in_turn x cs
adds_more x now next cs block first size put is same =
    let part : List ℕ = take size (drop first cs) in
    let after : next ≡ add_in_turn now part = is ∙ ap (add_in_turn now) put in
    let left : drop (first + size) cs ≡ drop size (drop first cs) = sym (drop-drop size first cs) in
    (λ i. add_in_turn (after i) (left i))
    ∙ sym (add_in_turn-append now part (drop size (drop first cs))) ∙ ap (add_in_turn now) (take-append-drop size (drop first cs)) ∙ same

-- ---- values of coupons

-- each coupon of a byte string has a value
pub all_valued : (strings : List (List ℕ)) → All (λ c. 1 ≤ value_of c) (map coupon_of_bytes strings)
all_valued strings = All-weaker IsPair (λ c. 1 ≤ value_of c) (λ c is. is.valued) (map coupon_of_bytes strings) (pairs_of_strings strings)

-- ---- raw coupons that have values

module _ (coupons : List ℕ) (i : ℕ) where
  module _ (inside : i < length coupons) where
    here_first : drop i coupons ≡ get_or coupons i 0 ∷ drop (i + 1) coupons
    here_first = drop_more coupons i 0 inside

    -- a coupon that has a value
    pub values_further : 2 ^ 26 ≤ get_or coupons i 0 → (HaveValues (drop i coupons) ↔ HaveValues coupons) → HaveValues (drop (i + 1) coupons) ↔ HaveValues coupons
    values_further has is = (
      λ rest. is.0 (subst HaveValues (sym here_first) (All-cons (λ raw_coupon. 2 ^ 26 ≤ raw_coupon) (get_or coupons i 0) (drop (i + 1) coupons) has rest)),
      λ all. All-tail (λ raw_coupon. 2 ^ 26 ≤ raw_coupon) (get_or coupons i 0) (drop (i + 1) coupons) (subst HaveValues here_first (is.1 all)),
    )

    -- a coupon that has the value 0
    pub values_broken : get_or coupons i 0 < 2 ^ 26 → (HaveValues (drop i coupons) ↔ HaveValues coupons) → IsTrue false ↔ HaveValues coupons
    values_broken none is = (
      λ yes. absurd (let e : false ≡ true = yes in cc),
      λ all. absurd (let has : 2 ^ 26 ≤ get_or coupons i 0 = All-head (λ raw_coupon. 2 ^ 26 ≤ raw_coupon) (get_or coupons i 0) (drop (i + 1) coupons) (subst HaveValues here_first (is.1 all)) in
          let no : ⊥ = omega (arith, none, has) in no),
    )

  pub values_end : length coupons ≤ i → (HaveValues (drop i coupons) ↔ HaveValues coupons) → IsTrue true ↔ HaveValues coupons
  values_end past is = (λ yes. is.0 (subst HaveValues (sym (drop_all i coupons past)) (All-nil (λ raw_coupon. 2 ^ 26 ≤ raw_coupon))), λ all. refl)
