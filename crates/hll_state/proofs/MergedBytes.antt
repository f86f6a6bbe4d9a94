-- SPDX-License-Identifier: Apache-2.0
-- Bytes that are merged as registers into registers of the same number.
use Rattle.std.proofs.Common.{◌≡◌, ℕ, ◌-◌, ◌^◌, ◌<◌, ◌≤◌, ◌==◌, true, false, cond, leb, min, List, [], ◌∷◌, ◌++◌, length, take, drop, refl, sym, ap, subst, ◌∙◌, arith}
use Rattle.std.specs.Prelude.{◌&&◌, nat_le}
use Rattle.std.specs.List.{list_all}
use Rattle.std.proofs.Math.Pow.{pow_mono}
use Rattle.std.proofs.Math.Seq.{take-append_seam}
use Rattle.std.proofs.lemmas.Bool.{ne_eqb}
use Rattle.std.proofs.lemmas.Bool.Decides.{nat_tests}
use Rattle.hll_base.specs.Join.{join}
use Rattle.hll_base.specs.declared.hll_type.HllType.TheVariants.{Hll8}
use Rattle.hll_coupons.specs.Fold.{fold_to, pairs}
use Rattle.hll_coupons.proofs.Registers.{fold_to-pairs}
use Rattle.hll_registers.specs.State.{cleared_state}
use Rattle.hll_registers.specs.Store.{Stored}
use Rattle.hll_registers.specs.declared.estimate_state.EstimateState.{EstimateState}
use Rattle.hll_sketch.proofs.Adding.{merge_of_empty, merge_of_some}
use Rattle.hll_sketch.specs.Merging.{merge, merge_content, state_after_merge}
use Rattle.hll_sketch.specs.Value.{Sketch, Content, registers, is_empty, pairs_in, pairs_of}
use Rattle.hll_state.specs.Counter.{sketch_in, content_of}
use Rattle.hll_state.specs.Header.{IsHeldWithin}
use Rattle.hll_state.specs.Registers.{values}
use Rattle.hll_state.specs.declared.header.Header.{Header}
use Rattle.hll_state.specs.declared.header.Held.TheVariants.{Registers}
use Rattle.hll_state.proofs.MergedRegisters.{registers_merged}

-- ---- whether all are 0

at_most_zero : (b : ℕ) → nat_le b 0 ≡ (b == 0)
at_most_zero b = grind (arith, nat_tests)

all_zero : (Q : List ℕ) → list_all (λ b. nat_le b 0) Q ≡ list_all (λ b. b == 0) Q
all_zero [] = refl
all_zero (q ∷ Q) = λ i. at_most_zero q i && all_zero Q i

pub none_above : (Q : List ℕ) (greatest : ℕ) → list_all (λ b. nat_le b 0) Q ≡ nat_le greatest 0 → greatest ≡ 0 → list_all (λ b. b == 0) Q ≡ true
none_above Q greatest is zero' = sym (all_zero Q) ∙ is ∙ ap (λ g. nat_le g 0) zero'

pub some_above : (Q : List ℕ) (greatest : ℕ) → list_all (λ b. nat_le b 0) Q ≡ nat_le greatest 0 → 0 < greatest → list_all (λ b. b == 0) Q ≡ false
some_above Q greatest is above = sym (all_zero Q) ∙ is ∙ at_most_zero greatest ∙ ne_eqb greatest 0 (λ e. omega (arith, e, above))

-- ---- the registers of a state

-- what is there of a state that has registers at this lg_k
pub there : (h : Header) (k room : ℕ) (s : EstimateState) → h.lg_k ≡ k → h.held ≡ Registers s → IsHeldWithin h.lg_k h.held room → 2 ^ (k - 2) ≤ room
there h k room s same held within = subst (λ n. 2 ^ (n - 2) ≤ room) same (subst (λ x. IsHeldWithin h.lg_k x room) held within)

pub many : (k : ℕ) → 6 ≤ k → 16 ≤ 2 ^ (k - 2)
many k least = pow_mono {i = 4} {j = k - 2} (omega (arith, least))

module _ (h : Header) (s : EstimateState) (Q : List ℕ) (body new : List (List ℕ)) (n : ℕ) (held : h.held ≡ Registers s) (size : length Q ≡ 2 ^ h.lg_k) (most : h.lg_k ≤ 21)
    (at : n ≡ 2 ^ (h.lg_k - 2)) (own : length (values (take n body)) ≡ 2 ^ h.lg_k) (long : length new ≡ n) (joined : values new ≡ join (values (take n body)) Q) where
  abbrev g : Sketch
  g = sketch_in h body

  abbrev sketch_with : Content → Sketch
  sketch_with c = record { lg_k = h.lg_k; width = Hll8; content = c }

  -- the registers after the elements were written back
  registers_after : values (take (2 ^ (h.lg_k - 2)) (new ++ drop n body)) ≡ join (values (take n body)) Q
  registers_after = ap (λ m. values (take m (new ++ drop n body))) (sym at ∙ sym long) ∙ ap values (take-append_seam new (drop n body)) ∙ joined

  own_pairs : pairs_of g ≡ pairs (values (take n body))
  own_pairs = ap (λ x. pairs_in (content_of h.lg_k x body)) held ∙ ap (λ m. pairs (values (take m body))) (sym at)

  own_fold : values (take n body) ≡ fold_to (pairs_of g) h.lg_k
  own_fold = sym (ap (λ P. fold_to P h.lg_k) own_pairs ∙ fold_to-pairs (values (take n body)) h.lg_k most own)

  -- bytes that are not all 0
  pub some_merged : (y : Sketch) (t : EstimateState) → y.lg_k ≡ h.lg_k → y.content ≡ registers Q t → is_empty y ≡ false → is_empty g ≡ false
      → sketch_in (record h { held = Registers cleared_state }) (new ++ drop n body) ≡ merge h.lg_k g y
  some_merged y t k is some g_some =
      let k' : ℕ = h.lg_k in
      let V : List ℕ = values (take n body) in
      let least : k' ≡ min k' y.lg_k = omega (arith, k) in
      let both : values (take (2 ^ (k' - 2)) (new ++ drop n body)) ≡ join (fold_to (pairs_of g) k') (fold_to (pairs Q) k') =
      registers_after ∙ (λ i. join (own_fold i) (sym (fold_to-pairs Q k' most size) i)) in
      let state : cleared_state ≡ state_after_merge k' g y.lg_k t = sym (ap (λ b. cond (b && leb y.lg_k k') t cleared_state) g_some) in
      let x : Stored = record { lg_k = y.lg_k; registers = Q; state = t } in
      registers_merged k' g x k' (values (take (2 ^ (k' - 2)) (new ++ drop n body))) cleared_state least both state
      ∙ ap (merge_content k' g y) (sym is) ∙ sym (merge_of_some k' g y some)

  -- bytes that are all 0
  pub none_merged : (y : Sketch) → is_empty y ≡ true → values new ≡ values (take n body) → sketch_in h (new ++ drop n body) ≡ merge h.lg_k g y
  none_merged y none same =
      let kept : values (take (2 ^ (h.lg_k - 2)) (new ++ drop n body)) ≡ values (take (2 ^ (h.lg_k - 2)) body) =
      registers_after ∙ sym joined ∙ same ∙ ap (λ m. values (take m body)) at in
      ap (λ x. sketch_with (content_of h.lg_k x (new ++ drop n body))) held ∙ ap (λ V. sketch_with (registers V s)) kept
      ∙ sym (ap (λ x. sketch_with (content_of h.lg_k x body)) held) ∙ sym (merge_of_empty h.lg_k g y none)
