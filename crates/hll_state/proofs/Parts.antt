-- SPDX-License-Identifier: Apache-2.0
-- Maxima of registers in elements, taken part by part.
use Rattle.std.proofs.Common.{◌≡◌, ℕ, ◌+◌, ◌-◌, ◌*◌, ◌<◌, ◌≤◌, zero, suc, List, [], ◌∷◌, ◌++◌, length, take, drop, refl, sym, ap, ◌∙◌, arith, take-append-drop}
use Rattle.std.specs.Prelude.{max}
use Rattle.std.specs.Simd.{first_chunks}
use Rattle.std.proofs.Math.Seq.{drop-append_seam}
use Rattle.std.proofs.lemmas.Grind.{flat_map-append}
use Rattle.std.proofs.lemmas.List.{length-take-le, length-drop, get_or-take, get_or-drop, take_at, take_all, take-take, drop-drop, drop-take}
use Rattle.std.proofs.lemmas.Slice.{take-put_mid, drop-put_mid}
use borrow.Rule.Slice.PartMut.{put_mid}
use Rattle.hll_base.specs.Join.{join}
use Rattle.hll_state.specs.Registers.{values}
use Rattle.hll_state.proofs.Values.{HaveFour, length-values}

-- ---- parts of elements

HaveFour-take : (n : ℕ) (xs : List (List ℕ)) → HaveFour xs → n ≤ length xs → HaveFour (take n xs)
HaveFour-take n xs four le k l =
    let below : k < n = omega (arith, l, length-take-le n xs le) in
    ap length (get_or-take n xs k [] below) ∙ four k (omega (arith, below, le))

pub HaveFour-drop : (n : ℕ) (xs : List (List ℕ)) → HaveFour xs → HaveFour (drop n xs)
HaveFour-drop n xs four k l = ap length (get_or-drop n xs k []) ∙ four (n + k) (omega (arith, l, length-drop n xs))

values-parts : (n : ℕ) (xs : List (List ℕ)) → values (take n xs) ++ values (drop n xs) ≡ values xs
values-parts n xs = sym (flat_map-append (λ (x : List ℕ). x) (take n xs) (drop n xs)) ∙ ap values (take-append-drop n xs)

pub length-values-take : (n : ℕ) (xs : List (List ℕ)) → HaveFour xs → n ≤ length xs → length (values (take n xs)) ≡ 4 * n
length-values-take n xs four le = length-values (take n xs) (HaveFour-take n xs four le) ∙ ap (λ m. 4 * m) (length-take-le n xs le)

pub values-take : (n : ℕ) (xs : List (List ℕ)) → HaveFour xs → n ≤ length xs → values (take n xs) ≡ take (4 * n) (values xs)
values-take n xs four le =
    sym (take_at (values (take n xs)) (values (drop n xs)) (4 * n) (length-values-take n xs four le)) ∙ ap (take (4 * n)) (values-parts n xs)

pub values-drop : (n : ℕ) (xs : List (List ℕ)) → HaveFour xs → n ≤ length xs → values (drop n xs) ≡ drop (4 * n) (values xs)
values-drop n xs four le =
    sym (drop-append_seam (values (take n xs)) (values (drop n xs)))
    ∙ (λ i. drop (length-values-take n xs four le i) (values-parts n xs i))

-- the registers that were read from bytes
pub values-chunks : (n : ℕ) (xs : List ℕ) → length xs ≡ 4 * n → values (first_chunks 4 n xs) ≡ xs
values-chunks zero [] size = refl
values-chunks zero (x ∷ xs) size = absurd (omega (arith, size))
values-chunks (suc n) xs size =
    let rest : length (drop 4 xs) ≡ 4 * n = omega (arith, length-drop 4 xs, size) in
    ap (λ ys. take 4 xs ++ ys) (values-chunks n (drop 4 xs) rest) ∙ take-append-drop 4 xs

-- ---- a part of which the maximum is taken

-- the maximum of the next m registers is taken, after the first a
next_joined : (a m n : ℕ) (V Q : List ℕ) → n ≡ a + m → n ≤ length V → length V ≡ length Q
    → join (take a V) (take a Q) ++ join (take m (drop a V)) (take m (drop a Q)) ≡ join (take n V) (take n Q)
next_joined zero m n V Q sum le same = let all : m ≡ n = omega (arith, sum) in ap (λ k. join (take k V) (take k Q)) all
next_joined (suc a) m zero V Q sum le same = absurd (omega (arith, sum))
next_joined (suc a) m (suc n) [] Q sum le same = absurd (omega (arith, le))
next_joined (suc a) m (suc n) (r ∷ V) [] sum le same = absurd (omega (arith, same))
next_joined (suc a) m (suc n) (r ∷ V) (q ∷ Q) sum le same = ap (λ S. max r q ∷ S) (next_joined a m n V Q (omega (arith, sum)) (omega (arith, le)) (omega (arith, same)))

-- the maximum is taken of the registers of the elements before an index, and the elements after it are unchanged
pub record JoinedBelow (at : ℕ) (first now : List (List ℕ)) (Q : List ℕ) : Type 0 where
  pub joined : values (take at now) ≡ join (take (4 * at) (values first)) (take (4 * at) Q)
  pub rest : drop at now ≡ drop at first

pub joined_none : (first : List (List ℕ)) (Q : List ℕ) → JoinedBelow 0 first first Q
joined_none first Q = record { joined = refl; rest = refl }

pub joined_more : (at end : ℕ) (first now part : List (List ℕ)) (Q : List ℕ) → HaveFour first → length now ≡ length first → length Q ≡ 4 * length first → JoinedBelow at first now Q
    → at ≤ end → end ≤ length now → length part ≡ length (take (end - at) (drop at now))
    → values part ≡ join (values (take (end - at) (drop at now))) (take (4 * (end - at)) (drop (4 * at) Q)) → JoinedBelow end first (put_mid at (end - at) now part) Q
joined_more at end first now part Q four same size so le within long raised =
    let V : List ℕ = values first in
    let m : ℕ = 4 * (end - at) in
    let room : end - at ≤ length (drop at now) = omega (arith, length-drop at now, within) in
    let n : length part ≡ end - at = long ∙ length-take-le (end - at) (drop at now) room in
    let all : length V ≡ 4 * length first = length-values first four in
    let middle : values (take (end - at) (drop at now)) ≡ take m (drop (4 * at) V) =
    ap (λ xs. values (take (end - at) xs)) so.rest
    ∙ values-take (end - at) (drop at first) (HaveFour-drop at first four) (omega (arith, room, length-drop at now, length-drop at first, same))
    ∙ ap (take m) (values-drop at first four (omega (arith, le, within, same))) in
    let front : take end (put_mid at (end - at) now part) ≡ take at now ++ part = take-put_mid at (end - at) now part end (omega (arith, n, le)) (omega (arith, le, within)) in
    let sum : end ≡ at + (end - at) = omega (arith, le) in
    record {
      joined =
          ap values front ∙ flat_map-append (λ (x : List ℕ). x) (take at now) part
          ∙ (λ i. so.joined i ++ (raised ∙ ap (λ X. join X (take m (drop (4 * at) Q))) middle) i)
          ∙ next_joined (4 * at) m (4 * end) V Q (omega (arith, le)) (omega (arith, all, within, same)) (all ∙ sym size);
      rest =
          drop-put_mid at (end - at) now part end (omega (arith, le)) (omega (arith, le, within)) n
          ∙ ap (λ k. drop k now) sum ∙ sym (drop-drop (end - at) at now) ∙ ap (drop (end - at)) so.rest ∙ drop-drop (end - at) at first ∙ ap (λ k. drop k first) (sym sum);
    }

pub joined_all : (at : ℕ) (first now : List (List ℕ)) (Q : List ℕ) → HaveFour first → length now ≡ length first → length Q ≡ 4 * length first → JoinedBelow at first now Q → length now ≤ at
    → values now ≡ join (values first) Q
joined_all at first now Q four same size so ended =
    ap values (sym (take_all at now ended)) ∙ so.joined
    ∙ (λ i. join (take_all (4 * at) (values first) (omega (arith, ended, same, length-values first four)) i) (take_all (4 * at) Q (omega (arith, ended, same, size)) i))

-- the registers of a part, from those of a source from an index on
pub registers_part : (first at end n : ℕ) (R : List ℕ) → at ≤ end → end ≤ n → take (4 * (end - at)) (drop (first + 4 * at) R) ≡ take (4 * (end - at)) (drop (4 * at) (take (4 * n) (drop first R)))
registers_part first at end n R le within =
    let rest : 4 * n ≡ 4 * at + (4 * n - 4 * at) = omega (arith, le, within) in
    ap (take (4 * (end - at))) (sym (drop-drop (4 * at) first R))
    ∙ sym (ap (λ m. take (4 * (end - at)) (drop (4 * at) (take m (drop first R)))) rest
    ∙ ap (take (4 * (end - at))) (drop-take (4 * at) (4 * n - 4 * at) (drop first R))
    ∙ take-take (4 * (end - at)) (4 * n - 4 * at) (drop (4 * at) (drop first R)) (omega (arith, le, within)))
