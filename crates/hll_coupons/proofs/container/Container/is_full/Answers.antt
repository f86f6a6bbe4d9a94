-- SPDX-License-Identifier: Apache-2.0
use Rattle.std.proofs.Common.{arith, ◌≡◌, ◌≤◌, ◌<◌, ◌^◌, ◌∙◌, ℕ, Bool, true, false, nat_eq, length, refl, sym, ap, subst}
use Rattle.std.specs.Bool.{OnFalse}
use Rattle.std.proofs.lemmas.Bool.Decides.{nat_tests}
use Rattle.hll_coupons.specs.Storage.{buckets_in}
use Rattle.hll_coupons.specs.Table.{Table, coupons_in}
use Rattle.hll_coupons.proofs.TableLemmas.{length-coupons_in-table}
use Rattle.hll_coupons.proofs.container.Container.is_full.Goals as goal

when_false : (b : Bool) (P : Type 0) → (b ≡ false → P) → OnFalse b P
when_false true P room = tt
when_false false P room = room refl

less : (m n : ℕ) → m ≤ n → nat_eq m n ≡ false → m < n
less m n h e = grind (arith, nat_tests)

pub returns-clause-room : goal.returns-clause-room
returns-clause-room g c =
    let t : Table = record { lg_size = c.self.inside.lg_size; buckets = buckets_in c.self.inside.buckets } in
    let buckets : c.capacity.result ≡ 2 ^ t.lg_size = c.capacity.ensures ∙ ap (λ (u : Table). 2 ^ u.lg_size) (sym c.self.view_is) in
    let within : c.self.inside.len ≤ c.capacity.result = omega (arith, c.self.invariant.1, buckets, length-coupons_in-table t c.self.invariant.0) in
    when_false _ _ (λ (e : nat_eq c.self.inside.len c.capacity.result ≡ false).
    let room : length (coupons_in t.buckets) < 2 ^ t.lg_size = omega (arith, c.self.invariant.1, buckets, less c.self.inside.len c.capacity.result within e) in
    subst (λ (u : Table). length (coupons_in u.buckets) < 2 ^ u.lg_size) c.self.view_is room)
