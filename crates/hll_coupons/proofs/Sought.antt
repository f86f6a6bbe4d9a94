-- SPDX-License-Identifier: Apache-2.0
-- The least number of a range that passes a test.
use Rattle.std.proofs.Common.{◌≡◌, ℕ, zero, suc, ◌+◌, ◌<◌, ◌≤◌, Bool, true, false, Some, sym, ap, ◌∙◌, arith, inl, inr}
use Rattle.std.specs.Prelude.{find}
use Rattle.std.specs.List.{range_with_len}
use Rattle.std.proofs.lemmas.Bool.{cases_Bool, cases_eq, cond-true, cond-false, true≢false}

-- a number that passes, with none before it
pub find_least : (f : ℕ → Bool) (a c q : ℕ) → a ≤ q → q < a + c → ((y : ℕ) → a ≤ y → y < q → f y ≡ false) → f q ≡ true → find f (range_with_len a c) ≡ Some q
find_least f a zero q low high before here = absurd (omega arith)
find_least f a (suc c) q low high before here = elim (cases_eq a q) [
  | inl e ↦ cond-true (f a) (Some a) (find f (range_with_len (a + 1) c)) (ap f e ∙ here) ∙ ap (λ m. Some m) e
  | inr other ↦ cond-false (f a) (Some a) (find f (range_with_len (a + 1) c)) (before a (omega arith) (omega (arith, other)))
      ∙ find_least f (a + 1) c q (omega (arith, other)) (omega arith) (λ y l h. before y (omega arith) h) here
]

-- the result of a search
pub record Least (f : ℕ → Bool) (a c : ℕ) : Type 0 where
  pub at : ℕ
  pub low : a ≤ at
  pub high : at < a + c
  pub passes : f at ≡ true
  pub before : (y : ℕ) → a ≤ y → y < at → f y ≡ false
  pub found : find f (range_with_len a c) ≡ Some at

-- there is a least number if some number passes
pub least : (f : ℕ → Bool) (a c q : ℕ) → a ≤ q → q < a + c → f q ≡ true → Least f a c
least f a zero q low high here = absurd (omega arith)
least f a (suc c) q low high here = elim (cases_Bool (f a)) [
  | inl yes' ↦ record {
    at = a;
    low = omega arith;
    high = omega arith;
    passes = yes';
    before = λ y l h. absurd (omega arith);
    found = cond-true (f a) (Some a) (find f (range_with_len (a + 1) c)) yes';
  }
  | inr not' ↦
      let past : a < q = later a q low (λ e. true≢false (sym here ∙ ap f (sym e) ∙ not')) in
      let r : Least f (a + 1) c = least f (a + 1) c q (omega arith) (omega arith) here in
      record {
        at = r.at;
        low = omega (arith, r.low);
        high = omega (arith, r.high);
        passes = r.passes;
        before = λ y l h. elim (cases_eq a y) [ inl e ↦ ap f (sym e) ∙ not' | inr other ↦ r.before y (omega (arith, other)) h ];
        found = cond-false (f a) (Some a) (find f (range_with_len (a + 1) c)) not' ∙ r.found;
      }
]
  where
    later : (a q : ℕ) → a ≤ q → (a ≡ q → ⊥) → a < q
    later a q low other = omega (arith, other)
