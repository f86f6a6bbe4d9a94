-- SPDX-License-Identifier: Apache-2.0
use Rattle.std.proofs.Common.{ℕ, List, length, inl, inr, arith}
use Rattle.std.specs.Int.{w32, from_le_bytes}
use Rattle.std.proofs.lemmas.Bool.{cases_lt}
use Rattle.std.proofs.lemmas.List.{length-map}
use Rattle.hll_coupons.proofs.raw_coupons.ascends.Goals as goal

pub returns : goal.returns
returns c =
    let coupons : List (List ℕ) = c.args.coupons.now in (
      λ t k within. c.loop-i.invariant.1.0 t k (omega (arith, within, length-map coupons (from_le_bytes w32), c.loop-i-test.false)),
      λ up. c.loop-i.invariant.1.1 (λ k below. elim (cases_lt 0 (length coupons)) [
        | inl some ↦ up k (omega (arith, below, length-map coupons (from_le_bytes w32), c.loop-i.auto.i-end some))
        | inr none ↦ absurd (omega (arith, below, none, c.loop-i.invariant.0))
      ]),
    )
