-- SPDX-License-Identifier: Apache-2.0
-- The numbers of a header, and what they say.
use Rattle.std.proofs.Common.{◌≡◌, ℕ, ◌+◌, ◌*◌, ◌%◌, ◌/◌, ◌^◌, ◌<◌, ◌==◌, Bool, true, false, List, [], ◌∷◌, Some, ap, ◌∙◌, arith, cond}
use Rattle.std.specs.Int.{w32, from_le_bytes, to_le_bytes}
use Rattle.std.proofs.lemmas.Nat.{from_le_bytes-to_le_bytes_4}
use Rattle.hll_state.specs.Header.{header_of, coupons_tag, registers_tag}
use Rattle.hll_state.specs.declared.header.Held.TheVariants.{Coupons, Registers}
use Rattle.hll_state.specs.declared.header.CouponTable.{CouponTable}

small : (n : ℕ) → n < 32 → n % 32 ≡ n
small n h = omega (arith, h)

smaller : (n : ℕ) → n < 8 → n % 8 ≡ n
smaller n h = omega (arith, h)

-- 1 for true, 0 for false
is_one : (b : Bool) (n : ℕ) → n ≡ cond b 1 0 → (n == 1) ≡ b
is_one true n e = ap (λ m. m == 1) e
is_one false n e = ap (λ m. m == 1) e

-- a 64-bit number from its halves
halves : (w low high : ℕ) → low ≡ w % 2 ^ 32 → high ≡ w / 2 ^ 32 → low + 2 ^ 32 * high ≡ w
halves w low high l h = omega (arith, l, h)

pub coupons_said : (k widths : ℕ) (c : CouponTable) (a b d e f g h : ℕ) (rest : List ℕ) → k < 32 → widths < 8 → c.lg_size < 32 →
    a ≡ coupons_tag → b ≡ k → d ≡ widths → e ≡ c.lg_size → f ≡ cond c.added 1 0 → g ≡ c.run.run → h ≡ c.run.used →
    header_of (a ∷ b ∷ d ∷ e ∷ f ∷ g ∷ h ∷ rest) ≡ Some (record { lg_k = k; widths = widths; held = Coupons c })
coupons_said k widths c a b d e f g h rest k_small widths_small size_small a_is b_is d_is e_is f_is g_is h_is =
    ap (λ n. header_of (n ∷ b ∷ d ∷ e ∷ f ∷ g ∷ h ∷ rest)) a_is
    ∙ (λ i. Some (record {
      lg_k = (ap (λ n. n % 32) b_is ∙ small k k_small) i;
      widths = (ap (λ n. n % 8) d_is ∙ smaller widths widths_small) i;
      held = Coupons (record {
        lg_size = (ap (λ n. n % 32) e_is ∙ small c.lg_size size_small) i;
        added = is_one c.added f f_is i;
        run = record { run = g_is i; used = h_is i };
      });
    }))

pub registers_said : (k widths w0 w1 w2 : ℕ) (flag : Bool) (a b d e l0 h0 l1 h1 l2 h2 : ℕ) (rest : List ℕ) → k < 32 → widths < 8 →
    a ≡ registers_tag → b ≡ k → d ≡ widths → e ≡ cond flag 1 0 → l0 ≡ w0 % 2 ^ 32 → h0 ≡ w0 / 2 ^ 32 → l1 ≡ w1 % 2 ^ 32 → h1 ≡ w1 / 2 ^ 32 → l2 ≡ w2 % 2 ^ 32 → h2 ≡ w2 / 2 ^ 32 →
    header_of (a ∷ b ∷ d ∷ e ∷ l0 ∷ h0 ∷ l1 ∷ h1 ∷ l2 ∷ h2 ∷ rest)
    ≡ Some (record { lg_k = k; widths = widths; held = Registers (record { words = w0 ∷ w1 ∷ w2 ∷ []; out_of_order = flag }) })
registers_said k widths w0 w1 w2 flag a b d e l0 h0 l1 h1 l2 h2 rest k_small widths_small a_is b_is d_is e_is l0_is h0_is l1_is h1_is l2_is h2_is =
    ap (λ n. header_of (n ∷ b ∷ d ∷ e ∷ l0 ∷ h0 ∷ l1 ∷ h1 ∷ l2 ∷ h2 ∷ rest)) a_is
    ∙ (λ i. Some (record {
      lg_k = (ap (λ n. n % 32) b_is ∙ small k k_small) i;
      widths = (ap (λ n. n % 8) d_is ∙ smaller widths widths_small) i;
      held = Registers (record {
        words = halves w0 l0 h0 l0_is h0_is i ∷ halves w1 l1 h1 l1_is h1_is i ∷ halves w2 l2 h2 l2_is h2_is i ∷ [];
        out_of_order = is_one flag e e_is i;
      });
    }))

-- the number of an element that was written
pub written_number : (b : List ℕ) (n : ℕ) → n < 2 ^ 32 → b ≡ to_le_bytes w32 n → from_le_bytes w32 b ≡ n
written_number b n fits e = ap (from_le_bytes w32) e ∙ from_le_bytes-to_le_bytes_4 n fits

pub bit_small : (b : Bool) → cond b 1 0 < 2
bit_small true = omega arith
bit_small false = omega arith
