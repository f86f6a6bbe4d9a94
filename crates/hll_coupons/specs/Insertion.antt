-- SPDX-License-Identifier: Apache-2.0
-- What an insertion with a limit on the number of coupons does to a table (docs/MODEL.md, "Tables").
use Rattle.std.specs.Prelude.{◌≡◌, ℕ, ◌<◌, ◌≤◌, true, false}
use Rattle.std.specs.FinSet.{contains, insert, len}
use Rattle.hll_coupons.specs.Pair.{Pairs}
use Rattle.hll_coupons.specs.declared.container.Insertion.{Insertion}
use Rattle.hll_coupons.specs.declared.container.Insertion.TheVariants.{Added, Held, Refused}

-- `Refused` if the table would then have more coupons than the limit, also if it has the coupon already and too many others;
-- otherwise `Added` if it lacked the coupon, and `Held` if it had it
abbrev pub IsInsertion : Pairs → ℕ → ℕ → Insertion → Type 0
IsInsertion S c most Added = (contains S c ≡ false) × (len (insert S c) ≤ most)
IsInsertion S c most Held = (contains S c ≡ true) × (len (insert S c) ≤ most)
IsInsertion S c most Refused = most < len (insert S c)

-- what holds unless the result is `Refused`
abbrev pub IfTaken : Insertion → Type 0 → Type 0
IfTaken Added P = P
IfTaken Held P = P
IfTaken Refused P = Unit {0}

-- what holds if the result is `Refused`
abbrev pub IfRefused : Insertion → Type 0 → Type 0
IfRefused Added P = Unit {0}
IfRefused Held P = Unit {0}
IfRefused Refused P = P
