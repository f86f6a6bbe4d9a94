-- SPDX-License-Identifier: Apache-2.0
-- A walk along a path, step by step.
use Rattle.std.proofs.Common.{◌≡◌, ℕ, ◌+◌, ◌*◌, ◌%◌, ◌^◌, ◌<◌, ◌⊎◌, List, length, get_or, sym, ap, ◌∙◌, arith, inl, inr}
use Rattle.std.proofs.lemmas.List.{get_or_default}
use Rattle.std.proofs.lemmas.Nat.{pow_pos, mod_below}
use borrow.Author.Count.{below_more}
use Rattle.hll_coupons.specs.Probe.{bucket_of, stride_of, Passes, EndsAt}
use Rattle.hll_coupons.proofs.Searching.{bucket_of-path}

module _ (key_of : ℕ → ℕ) (lg key steps bucket here : ℕ) (buckets : List ℕ) (size : length buckets ≡ 2 ^ lg) (within : steps < 2 ^ lg) (at : bucket ≡ (key + steps * stride_of lg key) % 2 ^ lg)
    (passes : Passes key_of lg buckets key steps) (is : here ≡ get_or buckets bucket here) where
  below : bucket < 2 ^ lg
  below = omega (arith, at, mod_below (key + steps * stride_of lg key) (2 ^ lg) (pow_pos lg))

  -- the entry that was read in this bucket of the path
  read : get_or buckets bucket 0 ≡ here
  read = get_or_default buckets bucket 0 here (omega (arith, below, size)) ∙ sym is

  -- the search ends here
  pub ends_here : (here ≡ 0) ⊎ (key_of here ≡ key) → EndsAt key_of lg buckets key bucket
  ends_here end = record {
    first = record { index = steps; within = within; at = bucket_of-path lg key steps within ∙ sym at; passes = passes };
    within = below;
    same = λ full. elim end [ inl z ↦ absurd (full (read ∙ z)) | inr e ↦ ap key_of read ∙ e ];
  }

  -- the search goes on
  pub passes_more : (here ≡ 0 → ⊥) → (key_of here ≡ key → ⊥) → Passes key_of lg buckets key (steps + 1)
  passes_more full other =
      let entry : get_or buckets (bucket_of lg key steps) 0 ≡ here = ap (λ p. get_or buckets p 0) (bucket_of-path lg key steps within ∙ sym at) ∙ read in
      below_more (λ j. (get_or buckets (bucket_of lg key j) 0 ≡ 0 → ⊥) × (key_of (get_or buckets (bucket_of lg key j) 0) ≡ key → ⊥)) steps passes
      (λ z. full (sym entry ∙ z), λ z. other (ap key_of (sym entry) ∙ z))
