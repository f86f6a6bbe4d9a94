-- SPDX-License-Identifier: Apache-2.0
-- One step of a merge in place.
use Rattle.std.proofs.Common.{◌≡◌, ℕ, ◌+◌, ◌<◌, ◌≤◌, cond, ◌⊎◌, List, ◌∷◌, length, take, drop, get_or, set, refl, sym, ap, ◌∙◌, inl, inr, arith}
use Rattle.std.proofs.lemmas.Bool.{eq-eqb, ne_eqb, cases_Bool, leb-true, leb-false}
use Rattle.std.proofs.lemmas.List.{drop_more, take_more_set, drop-set-lt}
use Prim.Native.Nat.{min}
use mir.Val.{bool_byte}
use lib.Dec.{leb}
use Rattle.hll_coupons.specs.Ascending.{without_first, IsLeastFirst}
use Rattle.hll_coupons.proofs.Merging.{MergesRest, merges_next}

-- the first number of what is left of a list is taken
passed : (xs : List ℕ) (i w d : ℕ) → i < length xs → d ≡ 1 → get_or xs i 0 ≡ w → drop (i + d) xs ≡ without_first w (drop i xs)
passed xs i w d l one is =
    ap (λ e. drop (i + e) xs) one
    ∙ sym (ap (without_first w) (drop_more xs i 0 l) ∙ ap (λ t. cond t (drop (i + 1) xs) (get_or xs i 0 ∷ drop (i + 1) xs)) (eq-eqb (get_or xs i 0) w is))

-- the first number of what is left of a list is another one, and is left there
stayed : (xs : List ℕ) (i w d : ℕ) → i < length xs → d ≡ 0 → (get_or xs i 0 ≡ w → ⊥) → drop (i + d) xs ≡ without_first w (drop i xs)
stayed xs i w d l none other =
    let e : i + d ≡ i = omega arith in
    ap (λ n. drop n xs) e ∙ drop_more xs i 0 l
    ∙ sym (ap (without_first w) (drop_more xs i 0 l) ∙ ap (λ t. cond t (drop (i + 1) xs) (get_or xs i 0 ∷ drop (i + 1) xs)) (ne_eqb (get_or xs i 0) w other))

front : (xs : List ℕ) (i w : ℕ) → i < length xs → get_or xs i 0 ≡ w → drop i xs ≡ w ∷ without_first w (drop i xs)
front xs i w l is = drop_more xs i 0 l ∙ ap (λ y. y ∷ drop (i + 1) xs) is ∙ ap (λ ys. w ∷ ys) (passed xs i w 1 l refl is)

least : (xs : List ℕ) (i w : ℕ) → i < length xs → w ≤ get_or xs i 0 → (x : ℕ) (more : List ℕ) → drop i xs ≡ x ∷ more → w ≤ x
least xs i w l below x more is = let e : get_or xs i 0 ≡ x = ap (λ ys. get_or ys 0 0) (sym (drop_more xs i 0 l) ∙ is) in omega (arith, below, e)

-- by how much the index of each list moves
record Goes (w a b da db : ℕ) : Type 0 where
  pub below_a : w ≤ a
  pub below_b : w ≤ b
  pub of : ((a ≡ w) × (da ≡ 1) × (b ≡ w) × (db ≡ 1)) ⊎ (((a ≡ w) × (da ≡ 1) × (w < b) × (db ≡ 0)) ⊎ ((w < a) × (da ≡ 0) × (b ≡ w) × (db ≡ 1)))

counts : (a b d : ℕ) → d ≡ bool_byte (leb a b) → ((a ≤ b) × (d ≡ 1)) ⊎ ((b < a) × (d ≡ 0))
counts a b d is = elim (cases_Bool (leb a b)) [ inl t ↦ inl (leb-true a b t, is ∙ ap bool_byte t) | inr f ↦ inr (leb-false a b f, is ∙ ap bool_byte f) ]

-- at least one index moves, and each by at most one
pub moves : (a b da db : ℕ) → da ≡ bool_byte (leb a b) → db ≡ bool_byte (leb b a) → (1 ≤ da + db) × (da ≤ 1) × (db ≤ 1)
moves a b da db ia ib = elim (counts a b da ia) [
  | inl p ↦ elim (counts b a db ib) [ inl q ↦ (omega (arith, p.1), omega (arith, p.1), omega (arith, q.1)) | inr q ↦ (omega (arith, p.1), omega (arith, p.1), omega (arith, q.1)) ]
  | inr p ↦ elim (counts b a db ib) [ inl q ↦ (omega (arith, q.1), omega (arith, p.1), omega (arith, q.1)) | inr q ↦ absurd (omega (arith, p.0, q.0)) ]
]

goes : (w a b da db : ℕ) → w ≡ min a b → da ≡ bool_byte (leb a b) → db ≡ bool_byte (leb b a) → Goes w a b da db
goes w a b da db is ia ib = elim (counts a b da ia) [
  | inl p ↦ elim (counts b a db ib) [
    | inl q ↦ record { below_a = omega (arith, is); below_b = omega (arith, is); of = inl (omega (arith, is, p.0, q.0), p.1, omega (arith, is, p.0, q.0), q.1) }
    | inr q ↦ record { below_a = omega (arith, is); below_b = omega (arith, is); of = inr (inl (omega (arith, is, p.0, q.0), p.1, omega (arith, is, p.0, q.0), q.1)) }
  ]
  | inr p ↦ elim (counts b a db ib) [
    | inl q ↦ record { below_a = omega (arith, is); below_b = omega (arith, is); of = inr (inr (omega (arith, is, p.0, q.0), p.1, omega (arith, is, p.0, q.0), q.1)) }
    | inr q ↦ absurd (omega (arith, p.0, q.0))
  ]
]

pub step : (xs ys raws others : List ℕ) (kept from next w da db : ℕ) → MergesRest xs ys (take kept raws) (drop from raws) (drop next others) →
    kept < from → from < length raws → next < length others → w ≡ min (get_or raws from 0) (get_or others next 0) →
    da ≡ bool_byte (leb (get_or raws from 0) (get_or others next 0)) → db ≡ bool_byte (leb (get_or others next 0) (get_or raws from 0)) →
    MergesRest xs ys (take (kept + 1) (set raws kept w)) (drop (from + da) (set raws kept w)) (drop (next + db) others)
step xs ys raws others kept from next w da db rest after l r is ia ib =
    let g : Goes w (get_or raws from 0) (get_or others next 0) da db = goes w _ _ da db is ia ib in
    let first : IsLeastFirst w (drop from raws) (drop next others) = record {
      is_first = elim g.of [
        | inl e ↦ inl (front raws from w l e.0)
        | inr o ↦ elim o [ inl e ↦ inl (front raws from w l e.0) | inr e ↦ inr (front others next w r e.2) ]
      ];
      least_of_left = least raws from w l g.below_a;
      least_of_right = least others next w r g.below_b;
    } in
    let left : drop (from + da) raws ≡ without_first w (drop from raws) = elim g.of [
      | inl e ↦ passed raws from w da l e.1 e.0
      | inr o ↦ elim o [ inl e ↦ passed raws from w da l e.1 e.0 | inr e ↦ stayed raws from w da l e.1 (λ z. omega (arith, z, e.0)) ]
    ] in
    let right : drop (next + db) others ≡ without_first w (drop next others) = elim g.of [
      | inl e ↦ passed others next w db r e.3 e.2
      | inr o ↦ elim o [ inl e ↦ stayed others next w db r e.3 (λ z. omega (arith, z, e.2)) | inr e ↦ passed others next w db r e.3 e.2 ]
    ] in
    merges_next xs ys (take kept raws) (drop from raws) (drop next others) rest w _ _ _ first
    (take_more_set raws kept w (omega (arith, after, l))) (drop-set-lt (from + da) raws kept w (omega (arith, after)) ∙ left) right
