-- SPDX-License-Identifier: Apache-2.0
-- A state in a prefix of its elements that has all that are needed, and in more elements.
use Rattle.std.proofs.Common.{◌≡◌, ℕ, ◌+◌, ◌-◌, ◌^◌, ◌≤◌, List, [], ◌∷◌, ◌++◌, length, take, drop, suc, refl, sym, ap, ◌∙◌, arith}
use Rattle.std.proofs.lemmas.List.{length-take, length-append, take-take, take_at, drop-take}
use Rattle.hll_base.specs.declared.hll_type.HllType.TheVariants.{Hll8}
use Rattle.hll_coupons.specs.Pair.{set_of}
use Rattle.hll_sketch.specs.Value.{Sketch, registers}
use Rattle.hll_state.specs.Counter.{sketch_in, content_of, content_of_coupons}
use Rattle.hll_state.specs.CouponRun.{raws}
use Rattle.hll_state.specs.Header.{header_of, IsHeldWithin, IsWithin}
use Rattle.hll_state.specs.Memory.{is_open}
use Rattle.hll_state.specs.Prefixes.{needed, PrefixIsState, LongerIsState}
use Rattle.hll_state.specs.Registers.{values}
use Rattle.hll_state.specs.declared.header.Header.{Header}
use Rattle.hll_state.specs.declared.header.Held.{Held}
use Rattle.hll_state.specs.declared.header.Held.TheVariants.{Coupons, Registers}
use Rattle.hll_state.proofs.Raws.{take-raws_take}
use Rattle.hll_state.proofs.Rooms.{used_within}

-- ten more, as successors
ten : (m : ℕ) → 10 + m ≡ suc (suc (suc (suc (suc (suc (suc (suc (suc (suc m)))))))))
ten m = omega arith

pub read_prefix : (xs : List (List ℕ)) (m : ℕ) → 10 ≤ length xs → header_of (raws (take (10 + m) xs)) ≡ header_of (raws xs)
read_prefix [] m there = absurd (omega (arith, there))
read_prefix (a ∷ []) m there = absurd (omega (arith, there))
read_prefix (a ∷ b ∷ []) m there = absurd (omega (arith, there))
read_prefix (a ∷ b ∷ d ∷ []) m there = absurd (omega (arith, there))
read_prefix (a ∷ b ∷ d ∷ e ∷ []) m there = absurd (omega (arith, there))
read_prefix (a ∷ b ∷ d ∷ e ∷ f ∷ []) m there = absurd (omega (arith, there))
read_prefix (a ∷ b ∷ d ∷ e ∷ f ∷ g ∷ []) m there = absurd (omega (arith, there))
read_prefix (a ∷ b ∷ d ∷ e ∷ f ∷ g ∷ i ∷ []) m there = absurd (omega (arith, there))
read_prefix (a ∷ b ∷ d ∷ e ∷ f ∷ g ∷ i ∷ j ∷ []) m there = absurd (omega (arith, there))
read_prefix (a ∷ b ∷ d ∷ e ∷ f ∷ g ∷ i ∷ j ∷ k ∷ []) m there = absurd (omega (arith, there))
read_prefix (a ∷ b ∷ d ∷ e ∷ f ∷ g ∷ i ∷ j ∷ k ∷ l ∷ rest) m there = ap (λ n. header_of (raws (take n (a ∷ b ∷ d ∷ e ∷ f ∷ g ∷ i ∷ j ∷ k ∷ l ∷ rest)))) (ten m)

-- the second of at least two elements, whatever is after them
open_prefix : (xs : List (List ℕ)) (m : ℕ) → 10 ≤ length xs → is_open (take (10 + m) xs) ≡ is_open xs
open_prefix [] m there = absurd (omega (arith, there))
open_prefix (a ∷ []) m there = absurd (omega (arith, there))
open_prefix (a ∷ b ∷ rest) m there = ap (λ n. is_open (take n (a ∷ b ∷ rest))) (ten m)

rest_prefix : (xs : List (List ℕ)) (m : ℕ) → drop 10 (take (10 + m) xs) ≡ take m (drop 10 xs)
rest_prefix xs m = drop-take 10 m xs

-- what is held is within the prefix
held_within : (k : ℕ) (held : Held) (room less : ℕ) → IsHeldWithin k held room → needed k held ≤ less → IsHeldWithin k held less
held_within k (Coupons c) room less within fits = record { size = within.size; taken = within.taken; run = within.run; used = within.used; there = fits }
held_within k (Registers s) room less within fits = fits

needed_within : (k : ℕ) (held : Held) (room : ℕ) → IsHeldWithin k held room → needed k held ≤ room
needed_within k (Coupons c) room within = within.there
needed_within k (Registers s) room within = within

-- and is the same
same_content : (k : ℕ) (held : Held) (room m : ℕ) (body : List (List ℕ)) → IsHeldWithin k held room → needed k held ≤ m → content_of k held (take m body) ≡ content_of k held body
same_content k (Coupons c) room m body within fits =
    ap (λ xs. content_of_coupons k c (set_of xs)) (take-raws_take c.run.used m body (used_within k c.run.used m within.used fits))
same_content k (Registers s) room m body within fits = ap (λ xs. registers (values xs) s) (take-take (2 ^ (k - 2)) m body fits)

-- the elements that a state takes mean the same after its header as all elements
same_in : (h : Header) (room m : ℕ) (body : List (List ℕ)) → IsHeldWithin h.lg_k h.held room → needed h.lg_k h.held ≤ m → sketch_in h (take m body) ≡ sketch_in h body
same_in h room m body within fits =
    ap (λ c. let x : Sketch = record { lg_k = h.lg_k; width = Hll8; content = c } in x) (same_content h.lg_k h.held room m body within fits)

pub prefix_is_state : PrefixIsState
prefix_is_state elements h m has fits = record {
  has = record {
    there = omega (arith, length-take (10 + m) elements, has.there);
    read = read_prefix elements m has.there ∙ has.read;
    within = record {
      lg_k = has.within.lg_k;
      widths = has.within.widths;
      held = held_within h.lg_k h.held (length elements - 10) (length (take (10 + m) elements) - 10) has.within.held
          (omega (arith, length-take (10 + m) elements, fits, needed_within h.lg_k h.held (length elements - 10) has.within.held));
    };
  };
  lg_k_open = open_prefix elements m has.there;
  same = ap (sketch_in h) (rest_prefix elements m) ∙ same_in h (length elements - 10) m (drop 10 elements) has.within.held fits;
}

-- more elements after those that a header needs change nothing
pub longer_body : (h : Header) (body more : List (List ℕ)) → IsWithin h (length body) → IsWithin h (length (body ++ more)) × (sketch_in h (body ++ more) ≡ sketch_in h body)
longer_body h body more within =
    let m : ℕ = length body in
    let all : List (List ℕ) = body ++ more in
    let fits : needed h.lg_k h.held ≤ m = needed_within h.lg_k h.held m within.held in
    let held : IsHeldWithin h.lg_k h.held (length all) = held_within h.lg_k h.held m (length all) within.held (omega (arith, fits, length-append body more)) in (
      record { lg_k = within.lg_k; widths = within.widths; held = held },
      sym (same_in h (length all) m all held fits) ∙ ap (sketch_in h) (take_at body more m refl),
    )

-- elements are a prefix of themselves and others
own_prefix : (elements more : List (List ℕ)) → 10 ≤ length elements → take (10 + (length elements - 10)) (elements ++ more) ≡ elements
own_prefix elements more there = take_at elements more (10 + (length elements - 10)) (omega (arith, there))

pub longer_is_state : LongerIsState
longer_is_state elements more h has =
    let all : List (List ℕ) = elements ++ more in
    let m : ℕ = length elements - 10 in
    let long : length all ≡ length elements + length more = length-append elements more in
    let there : 10 ≤ length all = omega (arith, long, has.there) in
    let fits : needed h.lg_k h.held ≤ m = needed_within h.lg_k h.held m has.within.held in
    let own : take (10 + m) all ≡ elements = own_prefix elements more has.there in
    let held : IsHeldWithin h.lg_k h.held (length all - 10) = held_within h.lg_k h.held m (length all - 10) has.within.held (omega (arith, fits, long, has.there)) in
    record {
      has = record {
        there = there;
        read = sym (read_prefix all m there) ∙ ap (λ xs. header_of (raws xs)) own ∙ has.read;
        within = record { lg_k = has.within.lg_k; widths = has.within.widths; held = held };
      };
      lg_k_open = sym (open_prefix all m there) ∙ ap is_open own;
      same = sym (same_in h (length all - 10) m (drop 10 all) held fits) ∙ ap (sketch_in h) (sym (rest_prefix all m)) ∙ ap (λ xs. sketch_in h (drop 10 xs)) own;
    }
