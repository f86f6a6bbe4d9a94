-- SPDX-License-Identifier: Apache-2.0
use Rattle.std.proofs.Common.{◌≡◌, ℕ, ◌+◌, All, List, [], ◌∷◌, ◌++◌, take, get_or, sym, ap, subst, ◌∙◌, arith}
use Rattle.std.proofs.lemmas.List.{take_more, take_all}
use Rattle.std.proofs.lemmas.List.Elements.{All-push}
use Rattle.hll_coupons.specs.Fold.{greatest, value_at}
use Rattle.hll_coupons.specs.Pair.{value_of}
use Rattle.hll_images.specs.Keys.{value_in_key, IsKey}
use Rattle.hll_images.proofs.NonzeroRegisters.{registers_of_coupons, values_with_key, values_without}
use Rattle.hll_images.proofs.nonzero_registers.keys_of.Goals.{then-raw-gt0+in_ok-push, else-raw-gt0}
use Rattle.hll_images.proofs.nonzero_registers.keys_of.Goals as goal

pub loop-raw-preserved : goal.loop-raw-preserved
loop-raw-preserved g c =
    let k : ℕ = c.args.lg_k in
    let raws : List ℕ = c.args.raw_coupons.now in
    let i : ℕ = c.loop-raw.raw-index in
    let raw : ℕ = get_or raws i 0 in
    let more : take (i + 1) raws ≡ take i raws ++ raw ∷ [] = take_more raws i 0 c.loop-raw-test.true in
    let so = c.loop-raw.invariant in
    elim c.if-raw-gt0.branch [
      | then-raw-gt0+in_ok-push w ↦
          let key : ℕ = w.key_of.result in
          let items : c.if-raw-gt0.keys.items ≡ c.loop-raw.keys.items ++ key ∷ [] = ap (λ v. v.items) w.keys-is ∙ w.in_ok-push.ensures.items in
          record {
            values = λ s. ap (greatest (value_at k s)) more
                ∙ values_with_key k s (take i raws) c.loop-raw.keys.items raw key (so.values s) (w.key_of.ensures.value s)
                ∙ ap (greatest (value_in_key s)) (sym items);
            keys = subst (λ qs. All (IsKey k) qs) (sym items) (All-push (IsKey k) c.loop-raw.keys.items key so.keys (w.key_of.ensures.key (omega (arith, w.if-raw-gt0.true))));
          }
      | else-raw-gt0 w ↦
          let items : c.if-raw-gt0.keys.items ≡ c.loop-raw.keys.items = ap (λ v. v.items) w.keys-is in
          let none : value_of raw ≡ 0 = omega (arith, w.if-raw-gt0.false) in
          record {
            values = λ s. ap (greatest (value_at k s)) more ∙ values_without k s (take i raws) c.loop-raw.keys.items raw (so.values s) none ∙ ap (greatest (value_in_key s)) (sym items);
            keys = subst (λ qs. All (IsKey k) qs) (sym items) so.keys;
          }
    ]

pub returns-clause-registers : goal.returns-clause-registers
returns-clause-registers g c =
    let all = take_all c.loop-raw.raw-index c.args.raw_coupons.now c.loop-raw-test.false in
    sym (registers_of_coupons c.args.lg_k c.args.raw_coupons.now c.loop-raw.keys.items (λ s h. ap (greatest (value_at c.args.lg_k s)) (sym all) ∙ c.loop-raw.invariant.values s))
