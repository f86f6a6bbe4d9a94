-- SPDX-License-Identifier: Apache-2.0
-- The maximum of values and the exceptions of their slots, by one entry of a map after the other.
use Rattle.std.proofs.Common.{◌≡◌, ℕ, ◌+◌, ◌-◌, ◌<◌, ◌≤◌, List, [], ◌∷◌, ◌++◌, All, Option, Some, None, length, get_or, set, refl, sym, ap, ◌∙◌, arith, inl, inr}
use Rattle.std.specs.Prelude.{max, unwrap_or}
use Rattle.std.proofs.lemmas.Bool.{cases_eq}
use Rattle.std.proofs.lemmas.List.{length-set, get_or-set_same, get_or-set_other}
use Rattle.std.proofs.lemmas.List.Elements.{All-append, All-weaker}
use Rattle.hll_coupons.specs.AuxMap.{ExceptionMap, IsMap, entries_in, value_in}
use Rattle.hll_coupons.proofs.Pairs.{IsEntryOf, of_value}
use Rattle.hll_registers.proofs.FourBits.{All-one}

-- if the slot of an entry is one of the values', this value is at least the entry's
abbrev IsReached : ℕ → List ℕ → ℕ × ℕ → Type 0
IsReached first now p = first ≤ p.0 → p.0 < first + length now → p.1 ≤ get_or now (p.0 - first) 0

-- each value is at least the old one, and at most the maximum with its exception; the values of the entries so far are reached
pub record RaisedSoFar (t : ExceptionMap) (first : ℕ) (old now : List ℕ) (ys : List (ℕ × ℕ)) : Type 0 where
  pub size : length now ≡ length old
  pub least : (s : ℕ) → get_or old s 0 ≤ get_or now s 0
  pub most : (s : ℕ) → get_or now s 0 ≤ max (get_or old s 0) (unwrap_or (value_in t (first + s)) 0)
  pub reached : All (IsReached first now) ys

pub raised_none : (t : ExceptionMap) (first : ℕ) (old : List ℕ) → RaisedSoFar t first old old []
raised_none t first old = record { size = refl; least = λ s. omega arith; most = λ s. omega arith; reached = λ i d l. absurd (omega (arith, l)) }

-- an entry whose slot is none of the values'
pub raised_less : (t : ExceptionMap) (first : ℕ) (old now : List ℕ) (ys : List (ℕ × ℕ)) (s v : ℕ) → RaisedSoFar t first old now ys → (first ≤ s → s < first + length now → ⊥) → RaisedSoFar t first old now (ys ++ (s, v) ∷ [])
raised_less t first old now ys s v h out = record {
  size = h.size;
  least = h.least;
  most = h.most;
  reached = All-append (IsReached first now) ys ((s, v) ∷ []) h.reached (All-one (IsReached first now) (s, v) (λ from to. absurd (out from to)));
}

-- an entry whose slot is one of the values'
pub raised_more : (t : ExceptionMap) (first : ℕ) (old now : List ℕ) (ys : List (ℕ × ℕ)) (s v : ℕ) → RaisedSoFar t first old now ys → IsEntryOf t (s, v) → first ≤ s → s - first < length now →
    RaisedSoFar t first old (set now (s - first) (max (get_or now (s - first) 0) v)) (ys ++ (s, v) ∷ [])
raised_more t first old now ys s v h entry from inside = record {
  size = length-set now at new ∙ h.size;
  least = λ q. omega (arith, h.least q, rises q);
  most = λ q. elim (cases_eq q at) [
    | inl same ↦
        let here : value_in t (first + q) ≡ Some v = ap (value_in t) (let e : first + q ≡ s = omega (arith, same, from) in e) ∙ entry.value in
        let up : unwrap_or (value_in t (first + q)) 0 ≡ v = ap (λ o. unwrap_or o 0) here in
        let value : get_or raised q 0 ≡ max (get_or now q 0) v = ap (λ i. get_or raised i 0) same ∙ get_or-set_same now at new 0 inside ∙ ap (λ i. max (get_or now i 0) v) (sym same) in
        omega (arith, h.most q, up, value)
    | inr other ↦ omega (arith, h.most q, get_or-set_other now at q new 0 other)
  ];
  reached = All-append (IsReached first raised) ys ((s, v) ∷ [])
      (All-weaker (IsReached first now) (IsReached first raised) (λ p reach low high. omega (arith, rises (p.0 - first), reach low (omega (arith, high, length-set now at new)))) ys h.reached)
      (All-one (IsReached first raised) (s, v) (λ low high. omega (arith, get_or-set_same now at new 0 inside)));
}
  where
    at : ℕ
    at = s - first

    new : ℕ
    new = max (get_or now at 0) v

    raised : List ℕ
    raised = set now at new

    rises : (q : ℕ) → get_or now q 0 ≤ get_or raised q 0
    rises q = elim (cases_eq q at) [
      | inl same ↦ omega (arith, ap (λ i. get_or raised i 0) same, get_or-set_same now at new 0 inside, ap (λ i. get_or now i 0) same)
      | inr other ↦ omega (arith, get_or-set_other now at q new 0 other)
    ]

-- after all entries
pub raised_whole : (t : ExceptionMap) (first : ℕ) (old now : List ℕ) → IsMap t → RaisedSoFar t first old now (entries_in t) → (s : ℕ) → s < length old → get_or now s 0 ≡ max (get_or old s 0) (unwrap_or (value_in t (first + s)) 0)
raised_whole t first old now is h s l = of (value_in t (first + s)) refl
  where
    of : (o : Option ℕ) → value_in t (first + s) ≡ o → get_or now s 0 ≡ max (get_or old s 0) (unwrap_or (value_in t (first + s)) 0)
    of None e = let none : unwrap_or (value_in t (first + s)) 0 ≡ 0 = ap (λ o. unwrap_or o 0) e in omega (arith, h.least s, h.most s, none)
    of (Some v) e =
        let some : unwrap_or (value_in t (first + s)) 0 ≡ v = ap (λ o. unwrap_or o 0) e in
        let index : first + s - first ≡ s = omega arith in
        let reach : v ≤ get_or now (first + s - first) 0 = of_value t is (IsReached first now) h.reached (first + s) v e (omega arith) (omega (arith, l, h.size)) in
        omega (arith, h.least s, h.most s, some, reach, ap (λ i. get_or now i 0) index)
