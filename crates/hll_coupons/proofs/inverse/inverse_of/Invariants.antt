-- SPDX-License-Identifier: Apache-2.0
use Rattle.std.proofs.Common.{◌≡◌, ◌*◌, ◌%◌, ◌^◌, ◌<◌}
use Rattle.hll_coupons.proofs.inverse.inverse_of.Given as goal

-- each step doubles the number of correct low bits
abbrev pub invariant-loop : goal.invariant-loop
invariant-loop l = record {
  right : l.odd * l.inverse % 2 ^ (2 ^ l.counter) ≡ 1;
  small : l.inverse < 2 ^ 32;
}
