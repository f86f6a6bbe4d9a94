-- SPDX-License-Identifier: Apache-2.0
-- Coupons added in turn: in two parts, and to registers.
use Rattle.std.proofs.Common.{◌≡◌, ℕ, ◌+◌, ◌<◌, List, [], ◌∷◌, ◌++◌, length, take, drop, get_or, fold, refl, sym, ap, ◌∙◌, arith}
use Rattle.std.proofs.Math.Seq.{take-add}
use Rattle.std.proofs.lemmas.List.{take_more, take-append-drop, length-drop}
use Rattle.hll_base.specs.declared.hll_type.HllType.{HllType}
use Rattle.hll_coupons.specs.Pair.{set_of}
use Rattle.hll_registers.specs.Store.{Stored, update_with_coupon}
use Rattle.hll_sketch.specs.Adding.{add, content_of}
use Rattle.hll_sketch.specs.Laws.{add_in_turn, AddsSome, PutsSome}
use Rattle.hll_sketch.specs.Value.{Sketch, Content}
use Rattle.hll_sketch.proofs.Keeping.{updated_as}

pub add_in_turn-append : (x : Sketch) (cs ds : List ℕ) → add_in_turn x (cs ++ ds) ≡ add_in_turn (add_in_turn x cs) ds
add_in_turn-append x [] ds = refl
add_in_turn-append x (c ∷ cs) ds = add_in_turn-append (add x (set_of (c ∷ []))) cs ds

-- one more coupon than the first i
pub one_more_in_turn : (x now next : Sketch) (cs : List ℕ) (i : ℕ) → i < length cs → now ≡ add_in_turn x (take i cs) → next ≡ add now (set_of (get_or cs i 0 ∷ []))
    → next ≡ add_in_turn x (take (i + 1) cs)
one_more_in_turn x now next cs i inside so is =
    is ∙ ap (λ y. add y (set_of (get_or cs i 0 ∷ []))) so ∙ sym (add_in_turn-append x (take i cs) (get_or cs i 0 ∷ [])) ∙ ap (add_in_turn x) (sym (take_more cs i 0 inside))

-- the first n, and then those that are left
pub in_two_parts : (x mid : Sketch) (cs left : List ℕ) (n : ℕ) → mid ≡ add_in_turn x (take n cs) → left ≡ drop n cs → add_in_turn mid left ≡ add_in_turn x cs
in_two_parts x mid cs left n first rest =
    (λ i. add_in_turn (first i) (rest i)) ∙ sym (add_in_turn-append x (take n cs) (drop n cs)) ∙ ap (add_in_turn x) (take-append-drop n cs)

-- registers as a sketch
abbrev pub of_registers : ℕ → HllType → Stored → Sketch
of_registers k width x = record { lg_k = k; width = width; content = content_of x }

-- coupons that are added to registers in turn are added in turn to the sketch
pub put_in_turn : (k : ℕ) (width : HllType) (x : Stored) (cs : List ℕ) → x.lg_k ≡ k → of_registers k width (fold update_with_coupon x cs) ≡ add_in_turn (of_registers k width x) cs
put_in_turn k width x [] same = refl
put_in_turn k width x (c ∷ cs) same =
    put_in_turn k width (update_with_coupon x c) cs same
    ∙ ap (λ (content : Content). add_in_turn (record { lg_k = k; width = width; content = content }) cs) (updated_as k x (update_with_coupon x c) c same refl)

-- a prefix is added to registers, and another prefix after the first n coupons
pub put_some_in_turn : (k : ℕ) (width : HllType) (x y : Stored) (cs : List ℕ) → x.lg_k ≡ k → PutsSome x y cs → AddsSome (of_registers k width x) (of_registers k width y) cs
put_some_in_turn k width x y cs same some = record {
  count = some.count;
  less = some.less;
  added = ap (of_registers k width) some.put ∙ put_in_turn k width x (take some.count cs) same;
}

pub some_after : (x mid new : Sketch) (cs left : List ℕ) (n : ℕ) → mid ≡ add_in_turn x (take n cs) → left ≡ drop n cs → AddsSome mid new left → AddsSome x new cs
some_after x mid new cs left n first rest some = record {
  count = n + some.count;
  less = omega (arith, some.less, ap length rest, length-drop n cs);
  added = some.added ∙ (λ i. add_in_turn (first i) (take some.count (rest i))) ∙ sym (add_in_turn-append x (take n cs) (take some.count (drop n cs)))
      ∙ ap (add_in_turn x) (sym (take-add n some.count cs));
}
