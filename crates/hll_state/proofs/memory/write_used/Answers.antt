-- SPDX-License-Identifier: Apache-2.0
use Rattle.std.proofs.Common.{◌≡◌, ℕ, ◌%◌, ◌≤◌, Bool, true, false, if◌then◌else◌, Option, None, Some, List, [], ◌∷◌, length, sym, ap, ◌∙◌, arith}
use Rattle.std.specs.Prelude.{slice_set}
use Rattle.hll_state.specs.CouponRun.{raws}
use Rattle.hll_state.specs.Header.{header_of, with_held, coupons_in_header, state_in_header, coupons_tag, registers_tag, has_registers}
use Rattle.hll_state.specs.declared.header.CouponTable.{CouponTable}
use Rattle.hll_state.specs.declared.header.Header.{Header}
use Rattle.hll_state.specs.declared.header.Held.TheVariants.{Coupons, Registers}
use Rattle.std.specs.Prelude.{◌==◌}
use Rattle.hll_state.proofs.Raws.{length-raws}
use Rattle.hll_state.proofs.memory.write_used.Goals as goal

-- what numbers say, by what the first of them is
abbrev said : Bool → Bool → List ℕ → Option Header
said few many ws = with_held ws (if few then Some (Coupons (coupons_in_header ws)) else (if many then Some (Registers (state_in_header ws)) else None))

module _ (h : Header) (old more : CouponTable) (held : h.held ≡ Coupons old) (size : more.lg_size ≡ old.lg_size) (added : more.added ≡ true) where
  of : (few many : Bool) (a b d e f g i : ℕ) (rest : List ℕ) → said few many (a ∷ b ∷ d ∷ e ∷ f ∷ g ∷ i ∷ rest) ≡ Some h
      → said few many (a ∷ b ∷ d ∷ e ∷ 1 ∷ more.run.run ∷ more.run.used ∷ rest) ≡ Some (record h { held = Coupons more })
  of true many a b d e f g i rest was =
      let t : CouponTable = coupons_in_header (a ∷ b ∷ d ∷ e ∷ f ∷ g ∷ i ∷ rest) in
      let x : Header = record { lg_k = b % 32; widths = d % 8; held = Coupons t } in
      let same : x ≡ h = (let is : Some x ≡ Some h = was in cc) in
      let table : t ≡ old = (let is : Coupons t ≡ Coupons old = ap (λ (y : Header). y.held) same ∙ held in cc) in
      λ j. Some (record {
        lg_k = ap (λ (y : Header). y.lg_k) same j;
        widths = ap (λ (y : Header). y.widths) same j;
        held = Coupons (record { lg_size = (ap (λ (c : CouponTable). c.lg_size) table ∙ sym size) j; added = sym added j; run = more.run });
      })
  of false true a b d e f g i rest was =
      let x : Header = record { lg_k = b % 32; widths = d % 8; held = Registers (state_in_header (a ∷ b ∷ d ∷ e ∷ f ∷ g ∷ i ∷ rest)) } in
      let same : x ≡ h = (let is : Some x ≡ Some h = was in cc) in
      let wrong : true ≡ false = ap has_registers (ap (λ (y : Header). y.held) same ∙ held) in
      absurd (cc)
  of false false a b d e f g i rest was = let wrong : None ≡ Some h = was in absurd (cc)

  written : (ws : List ℕ) → 10 ≤ length ws → header_of ws ≡ Some h
      → header_of (slice_set (slice_set (slice_set ws 4 1) 5 more.run.run) 6 more.run.used) ≡ Some (record h { held = Coupons more })
  written [] there was = absurd (omega (arith, there))
  written (a ∷ []) there was = absurd (omega (arith, there))
  written (a ∷ b ∷ []) there was = absurd (omega (arith, there))
  written (a ∷ b ∷ d ∷ []) there was = absurd (omega (arith, there))
  written (a ∷ b ∷ d ∷ e ∷ []) there was = absurd (omega (arith, there))
  written (a ∷ b ∷ d ∷ e ∷ f ∷ []) there was = absurd (omega (arith, there))
  written (a ∷ b ∷ d ∷ e ∷ f ∷ g ∷ []) there was = absurd (omega (arith, there))
  written (a ∷ b ∷ d ∷ e ∷ f ∷ g ∷ i ∷ rest) there was = of (a == coupons_tag) (a == registers_tag) a b d e f g i rest was

pub returns-clause-header : goal.returns-clause-header
returns-clause-header c =
    let ws : List ℕ = raws c.args.elements.now in
    let x : ℕ = c.args.more.run.run in
    let y : ℕ = c.args.more.run.used in
    let is : raws c.set_number-3.new.elements ≡ slice_set (slice_set (slice_set ws 4 1) 5 x) 6 y =
    c.set_number-3.ensures.numbers ∙ ap (λ zs. slice_set zs 6 y) (c.set_number-2.ensures.numbers ∙ ap (λ zs. slice_set zs 5 x) c.set_number.ensures.numbers) in
    ap header_of is ∙ written c.args.header c.args.coupons c.args.more c.requires.coupons c.requires.size c.requires.added ws (omega (arith, length-raws c.args.elements.now, c.requires.header.there)) c.requires.header.read
