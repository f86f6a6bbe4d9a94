-- SPDX-License-Identifier: Apache-2.0
-- Lemmas on tests of whether registers are the same.
use Rattle.std.proofs.Common.{arith, ◌≡◌, ℕ, ◌+◌, ◌*◌, ◌^◌, ◌<◌, ◌++◌, Bool, true, false, List, take, drop, get_or, nat_eq, Option, Some, None, IsTrue, IfSome, ◌↔◌, refl, sym, ap, subst, ◌∙◌}
use Rattle.std.specs.Prelude.{not}
use Rattle.std.specs.Option.{option_eq}
use Rattle.std.specs.Cmp.Lexicographic.{pointwise}
use Rattle.std.proofs.Math.Seq.{take-add}
use Rattle.std.proofs.lemmas.Bool.{eq-eqb, eqb-true, true≢false}
use Rattle.std.proofs.lemmas.List.{ext_get_or}
use lib.Pointwise.{bytes_decides}
use Rattle.hll_coupons.specs.AuxMap.{ExceptionMap}
use Rattle.hll_kernels.specs.Packed.{nibble_at, nibble_bytes_above}
use Rattle.hll_registers.specs.FourBits.{exception_in, exception_of, unpacked}
use Rattle.hll_registers.specs.Payload.{register_of, Agrees}
use Rattle.hll_registers.proofs.FourBits.{bytes_of_nibbles}
use Rattle.hll_registers.proofs.FourBitReading.{AgreeAbove, at, length-unpacked, unpacked-at}

-- ---- tests

-- a test of bytes is a test of what the bytes are equal to
pub tested : (b : Bool) (X Y V W : List ℕ) → b ≡ pointwise nat_eq X Y → X ≡ V → Y ≡ W → IsTrue b ↔ (V ≡ W)
tested b X Y V W is x y = (λ t. sym x ∙ (bytes_decides X Y).0 (sym is ∙ t) ∙ y, λ e. is ∙ (bytes_decides X Y).1 (x ∙ e ∙ sym y))

of_not : (b : Bool) → not b ≡ false → b ≡ true
of_not true e = refl
of_not false e = absurd (true≢false e)

-- bytes that are not others are the same
pub same_bytes : (b : Bool) (X Y : List ℕ) → b ≡ not (pointwise nat_eq X Y) → b ≡ false → X ≡ Y
same_bytes b X Y is e = (bytes_decides X Y).0 (of_not (pointwise nat_eq X Y) (sym is ∙ e))

pub other_bytes : (b : Bool) (X Y : List ℕ) → b ≡ not (pointwise nat_eq X Y) → b ≡ true → X ≡ Y → ⊥
other_bytes b X Y is t e = true≢false (sym t ∙ is ∙ ap not ((bytes_decides X Y).1 e))

-- a value that is not other than one is the same
pub same_value : (o : Option ℕ) (v : ℕ) (b : Bool) → b ≡ not (option_eq nat_eq o (Some v)) → b ≡ false → o ≡ Some v
same_value None v b is e = absurd (true≢false (sym is ∙ e))
same_value (Some w) v b is e = ap (λ n. Some n) (eqb-true w v (of_not (nat_eq w v) (sym is ∙ e)))

pub other_value : (o : Option ℕ) (v : ℕ) (b : Bool) → b ≡ not (option_eq nat_eq o (Some v)) → b ≡ true → o ≡ Some v → ⊥
other_value o v b is t e =
    true≢false (sym t ∙ is ∙ ap (λ o. not (option_eq nat_eq o (Some v))) e ∙ ap not (eq-eqb v v refl))

-- a test that may be left open
pub left_open : (r : Option Bool) (P : Type 0) → (r ≡ Some true → P) → (r ≡ Some false → P → ⊥) → IfSome r (λ same. IsTrue same ↔ P)
left_open None P f g = tt
left_open (Some true) P f g = (λ t. f refl, λ p. refl)
left_open (Some false) P f g = (λ t. absurd (true≢false (sym t)), λ p. absurd (g refl p))

-- ---- blocks

-- the registers of some blocks and of one more block
pub one_more : (i n : ℕ) (R : List ℕ) → take ((i + 1) * n) R ≡ take (i * n) R ++ take n (drop (i * n) R)
one_more i n R = ap (λ m. take m R) (let next : (i + 1) * n ≡ i * n + n = omega arith in next) ∙ take-add (i * n) n R

-- ---- nibbles and exceptions above one minimum

-- if nibbles are the same, exceptions are the same if those of one side are on the other side
same_exception : (m n : ℕ) (o p : Option ℕ) → Agrees m n o → Agrees m n p → ((v : ℕ) → o ≡ Some v → p ≡ Some v) → o ≡ p
same_exception m n None None a b f = refl
same_exception m n None (Some v) a b f = absurd (omega (arith, a.0, b.0))
same_exception m n (Some v) p a b f = sym (f v refl)

module _ (k m : ℕ) (bytes others : List ℕ) (e f : Option ExceptionMap) (one : AgreeAbove k m bytes e) (two : AgreeAbove k m others f) where
  abbrev R : List ℕ
  R = unpacked k m bytes e

  abbrev Q : List ℕ
  Q = unpacked k m others f

  pub same_nibbles : R ≡ Q → bytes ≡ others
  same_nibbles is =
      bytes_of_nibbles m bytes R (one.size ∙ sym (length-unpacked k m bytes e)) one.fits (λ s l. (at one s (omega (arith, l, length-unpacked k m bytes e))).nibble_is)
      ∙ ap (nibble_bytes_above m) is
      ∙ sym (bytes_of_nibbles m others Q (two.size ∙ sym (length-unpacked k m others f)) two.fits (λ s l. (at two s (omega (arith, l, length-unpacked k m others f))).nibble_is))

  pub same_registers : bytes ≡ others → ((s v : ℕ) → exception_in e s ≡ Some v → exception_in f s ≡ Some v) → R ≡ Q
  same_registers same all = ext_get_or 0 R Q (length-unpacked k m bytes e ∙ sym (length-unpacked k m others f)) (λ s l.
      let within : s < 2 ^ k = omega (arith, l, length-unpacked k m bytes e) in
      let entries : exception_in e s ≡ exception_in f s =
      same_exception m (nibble_at others s) (exception_in e s) (exception_in f s) (subst (λ b. Agrees m (nibble_at b s) (exception_in e s)) same (one.agree s within)) (two.agree s within) (all s) in
      unpacked-at k m bytes e s within ∙ (λ i. register_of m (nibble_at (same i) s) (entries i)) ∙ sym (unpacked-at k m others f s within))

  -- an exception that the other side lacks
  pub other_registers : (s v : ℕ) → s < 2 ^ k → exception_in e s ≡ Some v → (exception_in f s ≡ Some v → ⊥) → R ≡ Q → ⊥
  other_registers s v within is absent same =
      absent ((at two s within).exception_is ∙ ap (λ R. exception_of m (get_or R s 0)) (sym same) ∙ sym (at one s within).exception_is ∙ is)
